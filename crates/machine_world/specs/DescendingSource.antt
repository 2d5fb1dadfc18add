-- The source of the program that links one chunk, at the moment at which f(0) is entered.
use Rattle.std.specs.Prelude.{ℕ, List, [], ◌∷◌}
use Rattle.c_tree.specs.declared.operators.BinaryOperator.{BinaryOperator}
use Rattle.c_tree.specs.Trees.{Number, Local, Binary, CallFunction}
use Rattle.cap_word.specs.Runs.{moves}
use Rattle.c_mean.specs.Examples.{recursion, puts, returns}
use Rattle.c_mean.specs.Frames.{InLocal, WaitingFrame, Running, pushed}
use Rattle.c_mean.specs.Sites.{CallInText, ToLocal}
use Rattle.c_mean.specs.Steps.{SourceMove, source_machine, started}
use Rattle.c_mean.specs.ToDo.{Item, before}
use Rattle.machine_world.specs.Descending.{Seen}
use Rattle.machine_world.specs.Local as local
use Rattle.machine_world.specs.StandsFor.{SourceThread, Starts}

-- the move after n source steps of main
abbrev pub main_after : ℕ → SourceMove
main_after n = moves (source_machine recursion) n (started recursion 1 [] [])

-- the items after the call of f in f, and after the call in main
abbrev pub rest_of_f : List Item
rest_of_f = before (returns (Binary BinaryOperator.Add (Local 1) (Number 1))) []

abbrev pub rest_of_main : List Item
rest_of_main = before (puts 2 (Local 0)) (before (returns (Number 0)) [])

-- f(1) waits at site 0 and main at site 1, each for a result that is assigned to its r
abbrev pub waiting_f : WaitingFrame
waiting_f = record { frame = record { function = 0; names = (1 ∷ []) ∷ (0 ∷ []) ∷ []; to_do = rest_of_f }; site = 0; place = InLocal 1 }

abbrev pub waiting_main : WaitingFrame
waiting_main = record { frame = record { function = 1; names = (0 ∷ []) ∷ []; to_do = rest_of_main }; site = 1; place = InLocal 0 }

-- these calls in the text: both names of f are in scope, and the one of main
abbrev pub call_in_f : CallInText
call_in_f = record { call = CallFunction 0 0 (Binary BinaryOperator.Subtract (Local 0) (Number 1) ∷ []); target = ToLocal 1; scope = 1 ∷ 0 ∷ []; rest = rest_of_f }

abbrev pub call_in_main : CallInText
call_in_main = record { call = CallFunction 1 0 (Number 1 ∷ []); target = ToLocal 0; scope = 0 ∷ []; rest = rest_of_main }

-- the thread at the start of f(0)
abbrev pub entering : Running
entering = record { frame = pushed recursion 0 (0 ∷ []); below = waiting_f ∷ waiting_main ∷ []; globals = [] }

abbrev pub entering_thread : SourceThread
entering_thread = Starts entering.frame entering.below

-- a thread of the machine's run, over areas without globals and tables
abbrev pub local_at : Seen → local.Local
local_at seen = record { areas = record { pool = seen.pool; globals = []; tables = [] }; core = seen.core }
