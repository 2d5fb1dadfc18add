-- A world whose threads are numbered and whose chunks are partitioned, and moves that keep it so.
use Rattle.std.specs.Prelude.{Option, IfSome}
use Rattle.machine_world.specs.Chains.{IsPartition}
use Rattle.machine_world.specs.Numbered.{IsNumbered}
use Rattle.machine_world.specs.Runs.{world_of}
use Rattle.machine_world.specs.Threads.{World, Move}

pub record IsCounted (w : World) : Type 0 where
  pub numbered : IsNumbered w
  pub partition : IsPartition w

-- the world after the move, if there is one, is counted
abbrev pub KeepsCounted : Move → Type 0
KeepsCounted move = IfSome (world_of move) IsCounted

abbrev pub IsCountedIf : Option World → Type 0
IsCountedIf found = IfSome found IsCounted
