-- A program and a text do the same: for every schedule, from the start, the runs of the program (`c_mean`) and those of
-- the text with calls inside expressions (`deep_mean`) have the same outputs, modelled calls with values, keys, traps
-- and ends. Worlds are compared when threads rest, trap or are cut. Single threads are compared call by call, whatever
-- the calls return; so threads that never rest are compared too.
use Rattle.std.specs.Prelude.{◌≡◌, ℕ, List, [], ◌∷◌, length}
use Rattle.cap_word.specs.Calls.{Answer, Finish, Question}
use Rattle.cap_word.specs.Runs.{Seen, run, seen}
use Rattle.cap_word.specs.declared.calls.Block.{Block}
use Rattle.c_tree.specs.Trees.{ProgramTree}
use Rattle.c_mean.specs.Frames.{Waiting, key_of, function_at}
use Rattle.c_mean.specs.Steps as source_steps
use Rattle.c_mean.specs.World as source
use Rattle.c_mean.specs.World.{Entry, World, Rest}
use Rattle.deep_mean.specs.DeepTrees.{DeepProgram}
use Rattle.deep_mean.specs.DeepFrames as frames
use Rattle.deep_mean.specs.DeepSteps as deep_steps
use Rattle.deep_mean.specs.DeepWorld as deep
use Rattle.deep_mean.specs.DeepWorld.{DeepWorld, DeepRest}

-- ---- what is compared of two worlds

-- two threads rest alike: neither has run, both are blocked at the same call with the same key, or both have ended
pub data RestsAlike : Rest → DeepRest → Type 0 where
  BothFresh : (f : ℕ) (arguments : List ℕ) → RestsAlike (source.Fresh f arguments) (deep.Fresh f arguments)
  BothBlocked : (block : Block) (one : Waiting) (other : frames.DeepWaiting) (keys : key_of one ≡ frames.key_of other) → RestsAlike (source.Blocked block one) (deep.Blocked block other)
  BothEnded : RestsAlike source.Ended deep.Ended

abbrev pub RestAlike : List Rest → List DeepRest → Type 0
RestAlike [] [] = Unit {0}
RestAlike [] (d ∷ ds) = ⊥
RestAlike (r ∷ rs) [] = ⊥
RestAlike (r ∷ rs) (d ∷ ds) = RestsAlike r d × RestAlike rs ds

-- the worlds of a program and of a text are alike
pub record WorldsAlike (one : World) (other : DeepWorld) : Type 0 where
  pub threads : RestAlike one.threads other.threads
  pub globals : one.globals ≡ other.globals
  pub exchange : one.exchange ≡ other.exchange
  pub outputs : one.outputs ≡ other.outputs

-- ---- what is observed of a thread alone

-- The start of a thread: a function with its arguments, as `main` or `spawn` starts one, and the globals at that
-- moment. `answers` gives the answer to each modelled call, by all calls up to it.
pub record ThreadStart : Type 0 where
  pub function : ℕ
  pub arguments : List ℕ
  pub globals : List (List ℕ)
  pub answers : List Question → Answer

-- the function takes that number of arguments
abbrev pub FitsFunction : ProgramTree → ThreadStart → Type 0
FitsFunction program start = length start.arguments ≡ (function_at program start.function).params

-- What a thread of the program shows within n steps: its modelled calls, the newest first, each with its values and the
-- globals at that moment; and its end or its trap, if it has reached one.
abbrev pub shown_by_program : ProgramTree → ThreadStart → ℕ → Seen Question Finish
shown_by_program program start n =
    seen (run (source_steps.source_machine program) start.answers n [] (source_steps.started program start.function start.arguments start.globals))

-- the same for a thread of the text
abbrev pub shown_by_text : DeepProgram → ThreadStart → ℕ → Seen Question Finish
shown_by_text text start n =
    seen (run (deep_steps.deep_machine text) start.answers n [] (deep_steps.started text start.function start.arguments start.globals))

-- ---- runs

pub record RunsTheSame (program : ProgramTree) (text : DeepProgram) : Type 0 where
  -- the worlds after a schedule, in both directions
  pub reached : (caps : List ℕ) (entries : List Entry) (after : World) → source.IsAfter program caps (source.start_world program) entries after
      → (other : DeepWorld) × deep.IsAfter text caps (deep.start_world text) entries other × WorldsAlike after other
  pub reaches : (caps : List ℕ) (entries : List Entry) (other : DeepWorld) → deep.IsAfter text caps (deep.start_world text) entries other
      → (after : World) × source.IsAfter program caps (source.start_world program) entries after × WorldsAlike after other
  -- and then a run of one thread to its next rest or trap, in both directions
  pub rested : (caps : List ℕ) (entries : List Entry) (world : World) (number : ℕ) (rested : source.Rested) → source.IsAfter program caps (source.start_world program) entries world → source.RunsTo program caps world number rested
      → (other : DeepWorld) × (end : deep.DeepRested) × deep.IsAfter text caps (deep.start_world text) entries other × deep.RunsTo text caps other number end × (rested.trap ≡ end.trap) × WorldsAlike rested.world end.world
  pub rests : (caps : List ℕ) (entries : List Entry) (other : DeepWorld) (number : ℕ) (end : deep.DeepRested) → deep.IsAfter text caps (deep.start_world text) entries other → deep.RunsTo text caps other number end
      → (world : World) × (rested : source.Rested) × source.IsAfter program caps (source.start_world program) entries world × source.RunsTo program caps world number rested × (rested.trap ≡ end.trap) × WorldsAlike rested.world end.world
  -- and then a run of one thread that is cut at a count of outputs, in both directions: the outputs so far are the
  -- same. A run that never comes to rest has such a cut for every count that it reaches.
  pub cut : (caps : List ℕ) (entries : List Entry) (world : World) (number puts : ℕ) (segment : source.Segment) → source.IsAfter program caps (source.start_world program) entries world → source.IsCutAt program caps world number puts segment
      → (other : DeepWorld) × (there : deep.DeepSegment) × deep.IsAfter text caps (deep.start_world text) entries other × deep.IsCutAt text caps other number puts there × (segment.world.outputs ≡ there.world.outputs)
  pub cuts : (caps : List ℕ) (entries : List Entry) (other : DeepWorld) (number puts : ℕ) (there : deep.DeepSegment) → deep.IsAfter text caps (deep.start_world text) entries other → deep.IsCutAt text caps other number puts there
      → (world : World) × (segment : source.Segment) × source.IsAfter program caps (source.start_world program) entries world × source.IsCutAt program caps world number puts segment × (segment.world.outputs ≡ there.world.outputs)
  -- One thread alone, whatever its modelled calls return, in both directions: what one shows within n steps, for every
  -- n, the other shows within some number of steps. So a thread that never rests makes the same calls, with the same
  -- values, in the same order.
  pub shown : (start : ThreadStart) → FitsFunction program start → (n : ℕ) → (m : ℕ) × (shown_by_text text start m ≡ shown_by_program program start n)
  pub shows : (start : ThreadStart) → FitsFunction program start → (n : ℕ) → (m : ℕ) × (shown_by_program program start m ≡ shown_by_text text start n)
