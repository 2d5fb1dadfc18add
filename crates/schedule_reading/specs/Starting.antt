-- The start of a reading.
use Rattle.std.specs.Prelude.{◌≡◌, ℕ, List, None}
use Rattle.cap_word.specs.declared.threads.ThreadId.{ThreadId}
use Rattle.c_mean.specs.Steps.{start_globals}
use Rattle.c_tree.specs.Trees.{ProgramTree}
use Rattle.ready_tree.specs.declared.needs.Need.{Need}
use Rattle.scheduler.specs.State.{SchedulerState, IsJoined, IsTold, started}
use Rattle.source_runs.specs.Layouts.{IsReady, tree_of}
use Rattle.source_runs.specs.Threads.{IsFull, globals_of}
use Rattle.source_runs.specs.declared.interpreter.Interpreter.{Interpreter}
use Rattle.schedule_reading.specs.Changes.{AreNone, HasAdded}
use Rattle.schedule_reading.specs.Told.{ThreadsState}

-- the interpreter is of this program, and these are the words of its globals at the start
pub record HasSource (program : ProgramTree) (interpreter : Interpreter) (words : List ℕ) : Type 0 where
  pub program_is : tree_of interpreter ≡ program
  pub ready : IsReady interpreter
  pub rows : globals_of (tree_of interpreter) words ≡ start_globals (tree_of interpreter)
  pub full : IsFull (tree_of interpreter) words

-- there was no thread, and this one was added, which will run this function
pub record HasFirstThread (backlog : ℕ) (caps : List ℕ) (function : ℕ) (threads : ThreadsState) (thread : ThreadId) : Type 0 where
  pub none : ThreadsState
  pub were_none : AreNone backlog caps none
  pub added : HasAdded none function None threads thread

-- only this thread waits, at node 0 and without a need
pub record IsQueued (thread : ThreadId) (scheduler : SchedulerState) : Type 0 where
  pub joined : IsJoined started scheduler 0 thread
  pub told : IsTold started scheduler 0 (record { thread = thread; need = Need.Nothing })

-- both
pub record HasFirst (backlog : ℕ) (caps : List ℕ) (function : ℕ) (threads : ThreadsState) (scheduler : SchedulerState) : Type 0 where
  pub thread : ThreadId
  pub there : HasFirstThread backlog caps function threads thread
  pub queued : IsQueued thread scheduler
