-- A segment does what the run of its thread does in the source world.
use Rattle.std.specs.Prelude.{◌≡◌, ℕ, List, ◌++◌, length, map, Option}
use Rattle.cap_word.specs.declared.traps.TrapKind.{TrapKind}
use Rattle.c_mean.specs.World as source
use Rattle.c_mean.specs.World.{RunsTo, IsCutAt}
use Rattle.c_tree.specs.Trees.{ProgramTree}

-- the words that a thread has output, as in the source world
abbrev pub outputs_of : ℕ → List ℕ → List (ℕ × ℕ)
outputs_of thread words = map (λ word. (thread, word)) words

-- the source's run of a thread leads to this world, with a trap if it is one, and outputs these
-- words
pub record HasRun (program : ProgramTree) (caps : List ℕ) (before : source.World) (thread : ℕ) (words : List ℕ) (trap : Option TrapKind) (world : source.World) : Type 0 where
  pub runs : RunsTo program caps before thread (record { trap = trap; world = world })
  pub puts : world.outputs ≡ before.outputs ++ outputs_of thread words

-- the source's run of a thread, cut after this many outputs, has output these words
pub record IsCut (program : ProgramTree) (caps : List ℕ) (before : source.World) (thread : ℕ) (words : List ℕ) : Type 0 where
  pub reached : source.Segment
  pub cut : IsCutAt program caps before thread (length words) reached
  pub puts : reached.world.outputs ≡ before.outputs ++ outputs_of thread words
