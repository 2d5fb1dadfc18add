-- The outcomes of a step and of a run of the interpreter, by the steps of the source.
use Rattle.std.specs.Borrow.{Bor}
use Rattle.std.specs.Prelude.{◌≡◌, ℕ, suc, ◌-◌, ◌<◌, List, length, Option, Some, None, Result, Ok, Err}
use Rattle.cap_word.specs.Calls.{Call, Blocking, Immediate}
use Rattle.cap_word.specs.Runs.{Goes, Asks, Stops, moves}
use Rattle.cap_word.specs.declared.calls.Ask.{Ask}
use Rattle.cap_word.specs.declared.traps.TrapKind.{TrapKind}
use Rattle.c_tree.specs.Trees.{Empty, ProgramTree, StmtTree}
use Rattle.c_tree.specs.Views.{stmt_tree}
use Rattle.c_tree.specs.declared.statements.Stmt.{Stmt}
use Rattle.c_mean.specs.Frames.{Running}
use Rattle.c_mean.specs.Steps.{SourceMove, source_machine, source_step}
use Rattle.source_runs.specs.Layouts.{params_at}
use Rattle.source_runs.specs.Threads.{IsFull, IsThread, globals_of, running_of, waiting_of}
use Rattle.source_runs.specs.declared.frames.Thread.{Thread}
use Rattle.source_runs.specs.declared.halts.Halt.{Halt}
use Rattle.source_runs.specs.declared.halts.Halt.TheVariants as halt
use Rattle.source_runs.specs.declared.interpreter.Coming.{Coming}
use Rattle.source_runs.specs.declared.interpreter.Coming.TheVariants as coming
use Rattle.source_runs.specs.declared.interpreter.Move.{Move}
use Rattle.source_runs.specs.declared.interpreter.Move.TheVariants as move

-- the thread asks this of its world
abbrev pub asks : ProgramTree → Thread → List ℕ → Call → SourceMove
asks tree thread words call = Asks (record { call = call; globals = globals_of tree words }) (waiting_of tree thread)

-- it stops with this trap, or ends
abbrev pub ends : ProgramTree → List ℕ → SourceMove
ends tree words = Stops (record { trap = None; globals = globals_of tree words })

abbrev pub traps : ProgramTree → List ℕ → TrapKind → SourceMove
traps tree words trap = Stops (record { trap = Some trap; globals = globals_of tree words })

-- a function that is to be started exists, and takes the argument
abbrev pub IsAskThere : ProgramTree → Ask → Type 0
IsAskThere tree (Ask.Put value) = Unit {0}
IsAskThere tree (Ask.Spawn function argument) = (function < length tree.functions) × (params_at tree function ≡ 1)
IsAskThere tree (Ask.Give resource amount) = Unit {0}
IsAskThere tree Ask.SelfNumber = Unit {0}

-- a step has led to this, with this thread and these words of the globals after it; out of memory says nothing
abbrev pub HasStepped : ProgramTree → SourceMove → Thread → List ℕ → Result Move Halt → Type 0
HasStepped tree made thread words (Ok move.Goes) = (made ≡ Goes (running_of tree thread words)) × IsThread tree thread words
HasStepped tree made thread words (Ok (move.Asks ask)) = (made ≡ asks tree thread words (Immediate ask)) × IsThread tree thread words × IsAskThere tree ask
HasStepped tree made thread words (Ok (move.Blocks block)) = (made ≡ asks tree thread words (Blocking block)) × IsThread tree thread words
HasStepped tree made thread words (Ok move.Ends) = (made ≡ ends tree words) × IsFull tree words
HasStepped tree made thread words (Err (halt.Trap trap)) = made ≡ traps tree words trap
HasStepped tree made thread words (Err halt.Memory) = Unit {0}

-- a trap is that of the source; out of memory says nothing
abbrev pub HasHalted : {A : Type 0} → Result A TrapKind → Halt → Type 0
HasHalted made (halt.Trap trap) = made ≡ Err trap
HasHalted made halt.Memory = Unit {0}

-- the request is this call
abbrev pub IsCalling : Move → Option Call → Type 0
IsCalling move.Goes call = ⊥
IsCalling (move.Asks ask) call = call ≡ Some (Immediate ask)
IsCalling (move.Blocks block) call = call ≡ Some (Blocking block)
IsCalling move.Ends call = ⊥

-- the second side of a branch, empty if there is none
abbrev pub else_tree : Option (Bor Stmt) → StmtTree
else_tree None = Empty
else_tree (Some stmt) = stmt_tree stmt.now

-- this number of steps, of which only the last isn't silent, leads to this
pub record LeadsTo (tree : ProgramTree) (start : Running) (steps : ℕ) (made : SourceMove) : Type 0 where
  pub before : ℕ
  pub here : Running
  pub silent : moves (source_machine tree) before start ≡ Goes here
  pub last : source_step tree here ≡ made
  pub steps_is : steps ≡ suc before

-- a run by at most this number of steps, of which this number is left, has stopped like this
abbrev pub HasCome : ProgramTree → (old : Thread) (old_words : List ℕ) (most left : ℕ) (new : Thread) (words : List ℕ) → Coming → Type 0
HasCome tree old old_words most left new words (coming.Asks ask) =
    LeadsTo tree (running_of tree old old_words) (most - left) (asks tree new words (Immediate ask)) × IsThread tree new words × IsAskThere tree ask
HasCome tree old old_words most left new words (coming.Blocks block) =
    LeadsTo tree (running_of tree old old_words) (most - left) (asks tree new words (Blocking block)) × IsThread tree new words
HasCome tree old old_words most left new words coming.Ends =
    LeadsTo tree (running_of tree old old_words) (most - left) (ends tree words) × IsFull tree words
HasCome tree old old_words most left new words (coming.Traps trap) =
    LeadsTo tree (running_of tree old old_words) (most - left) (traps tree words trap)
HasCome tree old old_words most left new words coming.OutOfSteps =
    (left ≡ 0) × (moves (source_machine tree) most (running_of tree old old_words) ≡ Goes (running_of tree new words)) × IsThread tree new words
