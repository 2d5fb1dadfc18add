-- A run by ready operations in progress.
use Rattle.std.specs.Prelude.{ℕ, List, length}
use Rattle.decoded_code.specs.Ready.{place_at, AreReady}
use Rattle.decoded_code.specs.declared.ready.Ready.{Ready}
use Rattle.flat_code.specs.WellFormed.{IsWellFormed}
use Rattle.machine_world.specs.Areas.{Areas}
use Rattle.machine_world.specs.Local.{Local}
use Rattle.machine_world.specs.Places.{Checked}
use Rattle.segment_run.specs.Safe.{StaysSafe}
use Rattle.segment_run.specs.Turns.{thread_of, IsUnderWay}
use Rattle.segment_run.specs.declared.running.Thread.{Thread}

-- what a run depends on: a program and its code, the thread and where it started, and its fuel
pub record Run : Type 0 where
  pub checked : Checked
  pub code : List ℕ
  pub thread : Thread
  pub start : Local
  pub fuel : ℕ

-- a thread that never faults has reached an index of the code, with these registers and areas
pub record IsIn (run : Run) (ready : List Ready) (areas : Areas) (file : List ℕ) (at left : ℕ) : Type 0 where
  pub formed : IsWellFormed run.checked.flat
  pub safe : StaysSafe run.checked run.code run.start
  pub are_ready : AreReady run.code (length run.code) ready
  pub way : IsUnderWay run.checked run.code run.start run.fuel (thread_of areas (record run.thread { regs = record { pc = place_at at; x = file } })) left
