-- A segment in progress in the machine world, without a known source world.
use Rattle.std.specs.Prelude.{ℕ, List}
use Rattle.c_tree.specs.Trees.{ProgramTree}
use Rattle.c_mean.specs.World as source
use Rattle.machine_world.specs.Places.{Checked}
use Rattle.machine_world.specs.Threads.{World, Setting, Move, Goes, Puts, Spawns, Blocks, Ends, Stops, Wrong}
use Rattle.machine_meaning.specs.Reached.{IsReached}
use Rattle.machine_meaning.specs.UnderWay.{IsSettled}

-- the source's run of some thread, from some source world, has reached the state of the segment
pub record IsRunning (c : Checked) (program : ProgramTree) (s : Setting) (w : World) : Type 0 where
  pub start : source.World
  pub number : ℕ
  pub puts : List ℕ
  pub reached : IsReached c program s start number puts w

-- the world after a step is running, or at rest at the segment's end; no step is wrong
abbrev pub KeepsRunning : Checked → ProgramTree → Setting → Move → Type 0
KeepsRunning c program s (Goes after) = IsRunning c program s after
KeepsRunning c program s (Puts value after) = IsRunning c program s after
KeepsRunning c program s (Spawns number after) = IsRunning c program s after
KeepsRunning c program s (Blocks after) = IsSettled c after
KeepsRunning c program s (Ends after) = IsSettled c after
KeepsRunning c program s (Stops stop) = Unit {0}
KeepsRunning c program s Wrong = ⊥
