-- What the running thread does next, and after how many steps, by the source's own run.
use Rattle.std.specs.Prelude.{◌≡◌, ℕ, suc, Bool, true, false, List, [], ◌∷◌, ◌++◌, length, count_by, ◌⊎◌}
use Rattle.cap_word.specs.Calls.{most_threads}
use Rattle.cap_word.specs.Runs.{Goes, Stops, moves}
use Rattle.c_tree.specs.Trees.{ProgramTree}
use Rattle.c_mean.specs.World as source
use Rattle.c_mean.specs.World.{Rest, Fresh, Blocked, Ended, segment_machine, segment_step}

-- ---- live threads

-- the thread hasn't ended
abbrev pub lives : Rest → Bool
lives (Fresh function arguments) = true
lives (Blocked block waiting) = true
lives Ended = false

-- the number of threads that haven't ended, including the running one
abbrev pub live_in : source.World → ℕ
live_in world = count_by lives world.threads

-- ---- what comes next

-- this number of steps leads from one segment to another, without an output
pub record IsSilent (program : ProgramTree) (caps : List ℕ) (start : source.Segment) (steps : ℕ) (here : source.Segment) : Type 0 where
  pub moved : moves (segment_machine program caps) steps start ≡ Goes here
  pub outputs : here.world.outputs ≡ start.world.outputs

-- the next output is that word, in the last of these steps
pub record PutsNext (program : ProgramTree) (caps : List ℕ) (start : source.Segment) (steps word : ℕ) (after : source.Segment) : Type 0 where
  pub before : ℕ
  pub here : source.Segment
  pub silent : IsSilent program caps start before here
  pub puts : segment_step program caps here ≡ Goes after
  pub output : after.world.outputs ≡ start.world.outputs ++ (start.number, word) ∷ []
  pub steps_is : steps ≡ suc before

-- without a further output the thread blocks, ends or traps in the last of these steps
pub record RestsNext (program : ProgramTree) (caps : List ℕ) (start : source.Segment) (steps : ℕ) (rested : source.Rested) : Type 0 where
  pub before : ℕ
  pub here : source.Segment
  pub silent : IsSilent program caps start before here
  pub stops : segment_step program caps here ≡ Stops rested
  pub steps_is : steps ≡ suc before

-- without a further output the thread reaches, after this number of steps, the start of a thread while the maximum
-- number is live
pub record IsCrowdedNext (program : ProgramTree) (caps : List ℕ) (start : source.Segment) (steps : ℕ) : Type 0 where
  pub here : source.Segment
  pub silent : IsSilent program caps start steps here
  pub live : live_in here.world ≡ most_threads
  pub after : source.Segment
  pub starts : segment_step program caps here ≡ Goes after
  pub one_more : length after.world.threads ≡ suc (length here.world.threads)

-- the next output, block, end or trap is in that step
abbrev pub ComesAt : ProgramTree → List ℕ → source.Segment → ℕ → Type 0
ComesAt program caps start steps =
    ((word : ℕ) × (after : source.Segment) × PutsNext program caps start steps word after)
    ⊎ ((rested : source.Rested) × RestsNext program caps start steps rested)
