-- One step of a deep thread: like one of a source thread, but a call may be inside an expression. The frame then has
-- the expression in evaluation, and the call's result takes the call's place (ISO/IEC 9899:2018, 6.5.2.2, 6.5.16 and
-- 6.8).
use Rattle.std.specs.Prelude.{ℕ, zero, suc, Bool, true, false, List, [], ◌∷◌, Option, Some, None, nat_lt, length, Result, Ok, Err, map, replicate, slice_index, slice_index_or}
use Rattle.cap_word.specs.Rows.{width, with_word, with_zeros}
use Rattle.cap_word.specs.Calls.{Call, Question, Answer, Finish, call_of, spawn_of}
use Rattle.cap_word.specs.Runs.{Move, Goes, Asks, Stops, Machine}
use Rattle.cap_word.specs.declared.traps.TrapKind.{TrapKind}
use Rattle.cap_word.specs.ModelledCalls.{number_of}
use Rattle.c_mean.specs.Frames.{Place, Nowhere, InLocal, InGlobal, InLocalElement, InGlobalElement, Returned}
use Rattle.deep_mean.specs.DeepTrees.{Function, Modelled, Spawned, DeepExpr, DeepSimple, DeclareScalar, DeclareArray, DeclareWith, SetLocal, SetGlobal, SetLocalElement, SetGlobalElement, Calling, DeepProgram}
use Rattle.deep_mean.specs.Evaluation.{Around, Ready, ReadyCall, ReadyTableCall, Evaluation, Done, Trapped, Calls, evaluate, go_on}
use Rattle.deep_mean.specs.DeepToDo.{Use, Stores, IndexesLocal, IndexesGlobal, Branches, Tests, Returns, Item, Simply, Choose, Test, Enter, Back, Leave, Skip, GiveBack, Fail, GoOn, before, body_before, turn_before, after_leave, after_skip}
use Rattle.deep_mean.specs.DeepFrames.{DeepWaitingFrame, DeepRunning, DeepWaiting, pushed}

abbrev pub DeepMove : Type 0
DeepMove = Move DeepRunning DeepWaiting Question Finish

-- ---- parts of a thread

abbrev pub to_do : DeepRunning → List Item → DeepRunning
to_do thread items = record thread { frame = record thread.frame { to_do = items } }

abbrev pub with_names : DeepRunning → List (List ℕ) → DeepRunning
with_names thread names = record thread { frame = record thread.frame { names = names } }

abbrev pub with_globals : DeepRunning → List (List ℕ) → DeepRunning
with_globals thread globals = record thread { globals = globals }

-- an expression, evaluated in the running frame
abbrev pub evaluated : DeepRunning → DeepExpr → Evaluation
evaluated thread e = evaluate thread.frame.names thread.globals e

-- the thread stops with a trap
abbrev pub trapped : DeepRunning → TrapKind → DeepMove
trapped thread trap = Stops (record { trap = Some trap; globals = thread.globals })

-- ---- storing

abbrev pub stored_where : Bool → DeepRunning → Result DeepRunning TrapKind
stored_where true thread = Ok thread
stored_where false thread = Err TrapKind.Index

-- a word is stored at a place; an element's index, unsigned, has to be below the array's size. No use stores to the
-- caller.
abbrev pub stored : DeepRunning → Place → ℕ → Result DeepRunning TrapKind
stored thread Nowhere word = Ok thread
stored thread (InLocal x) word = Ok (with_names thread (with_word thread.frame.names x 0 word))
stored thread (InGlobal g) word = Ok (with_globals thread (with_word thread.globals g 0 word))
stored thread (InLocalElement a i) word = stored_where (nat_lt i (width thread.frame.names a)) (with_names thread (with_word thread.frame.names a i word))
stored thread (InGlobalElement a i) word = stored_where (nat_lt i (width thread.globals a)) (with_globals thread (with_word thread.globals a i word))
stored thread Returned word = Ok thread

abbrev pub assigned_by : DeepRunning → Result DeepRunning TrapKind → DeepMove
assigned_by thread (Ok after) = Goes after
assigned_by thread (Err trap) = trapped thread trap

abbrev pub assigned : DeepRunning → Place → ℕ → DeepMove
assigned thread place word = assigned_by thread (stored thread place word)

-- ---- the result of a call arrives

-- If the call is the whole right side or statement, its result is stored at once; if it can't be stored, only the trap
-- is left to do. Any other result takes the call's place in the expression, which is in evaluation from then on.
abbrev pub delivered_or : DeepRunning → Result DeepRunning TrapKind → DeepRunning
delivered_or thread (Ok after) = after
delivered_or thread (Err trap) = to_do thread (Fail trap ∷ [])

abbrev pub delivered_to : DeepRunning → List Around → ℕ → Use → DeepRunning
delivered_to thread [] word (Stores place) = delivered_or thread (stored thread place word)
delivered_to thread around word use_ = to_do thread (GoOn around word use_ ∷ thread.frame.to_do)

abbrev pub delivered : DeepWaitingFrame → List DeepWaitingFrame → List (List ℕ) → ℕ → DeepRunning
delivered waiting below globals word =
    delivered_to (record { frame = waiting.frame; below = below; globals = globals }) waiting.around word waiting.use_

-- a return to the frame below, with a word that is ignored if the function gives no result; or the thread's end
abbrev pub returned : DeepRunning → List DeepWaitingFrame → ℕ → DeepMove
returned thread [] word = Stops (record { trap = None; globals = thread.globals })
returned thread (waiting ∷ below) word = Goes (delivered waiting below thread.globals word)

-- ---- calls

abbrev pub waits_at : DeepRunning → ℕ → List Around → Use → DeepWaitingFrame
waits_at thread site around use_ = record { frame = thread.frame; site = site; around = around; use_ = use_ }

-- a call of a function: a frame is pushed
abbrev pub entered : DeepProgram → DeepRunning → ℕ → List Around → Use → ℕ → List ℕ → DeepMove
entered program thread site around use_ f arguments =
    Goes (record { frame = pushed program f arguments; below = waits_at thread site around use_ ∷ thread.below; globals = thread.globals })

-- a call of a member of a table; its index, unsigned, has to be below the number of members
abbrev pub entered_where : Bool → DeepProgram → DeepRunning → ℕ → List Around → Use → ℕ → ℕ → DeepMove
entered_where true program thread site around use_ f argument = entered program thread site around use_ f (argument ∷ [])
entered_where false program thread site around use_ f argument = trapped thread TrapKind.Table

abbrev pub entered_by : List ℕ → DeepProgram → DeepRunning → ℕ → List Around → Use → ℕ → ℕ → DeepMove
entered_by members program thread site around use_ i argument =
    entered_where (nat_lt i (length members)) program thread site around use_ (slice_index members i) argument

-- a modelled call
abbrev pub asks : DeepRunning → ℕ → List Around → Use → Call → DeepMove
asks thread site around use_ call =
    Asks (record { call = call; globals = thread.globals }) (record { front = waits_at thread site around use_; below = thread.below })

-- a wrong number of arguments, which no source that is read has, ends the thread
abbrev pub asks_if : DeepRunning → ℕ → List Around → Use → Option Call → DeepMove
asks_if thread site around use_ (Some call) = asks thread site around use_ call
asks_if thread site around use_ None = Stops (record { trap = None; globals = thread.globals })

abbrev pub spawned : ℕ → List ℕ → Option Call
spawned f [] = None
spawned f (argument ∷ []) = Some (spawn_of f argument)
spawned f (argument ∷ other ∷ rest) = None

-- a call whose arguments have been evaluated pushes a frame or is the modelled call
abbrev pub called : DeepProgram → DeepRunning → List Around → Use → Ready → DeepMove
called program thread around use_ (ReadyCall s (Function f) arguments) = entered program thread s around use_ f arguments
called program thread around use_ (ReadyCall s (Modelled m) arguments) = asks_if thread s around use_ (call_of (number_of m) arguments)
called program thread around use_ (ReadyCall s (Spawned f) arguments) = asks_if thread s around use_ (spawned f arguments)
called program thread around use_ (ReadyTableCall s t i argument) = entered_by (slice_index_or program.tables t []) program thread s around use_ i argument

-- ---- the use of an evaluation

-- the evaluation of a right side; its value goes to a place
abbrev pub stores : DeepProgram → DeepRunning → Place → Evaluation → DeepMove
stores program thread place (Done word) = assigned thread place word
stores program thread place (Trapped trap) = trapped thread trap
stores program thread place (Calls call around) = called program thread around (Stores place) call

-- the first of two lists of items if a condition isn't 0, and otherwise the second
abbrev pub branched : DeepRunning → List Item → List Item → ℕ → DeepMove
branched thread first second zero = Goes (to_do thread second)
branched thread first second (suc n) = Goes (to_do thread first)

-- A value is used, when the thread has only the rest still to do. In `a[i] = e` the index is evaluated before the right
-- side, and tested after it.
abbrev pub used : DeepProgram → DeepRunning → Use → ℕ → DeepMove
used program thread (Stores place) word = assigned thread place word
used program thread (IndexesLocal a v) word = stores program thread (InLocalElement a word) (evaluated thread v)
used program thread (IndexesGlobal a v) word = stores program thread (InGlobalElement a word) (evaluated thread v)
used program thread (Branches s r) word = branched thread (before s thread.frame.to_do) (before r thread.frame.to_do) word
used program thread (Tests loop) word = branched thread (body_before loop thread.frame.to_do) thread.frame.to_do word
used program thread Returns word = returned thread thread.below word

abbrev pub uses : DeepProgram → DeepRunning → Use → Evaluation → DeepMove
uses program thread use_ (Done word) = used program thread use_ word
uses program thread use_ (Trapped trap) = trapped thread trap
uses program thread use_ (Calls call around) = called program thread around use_ call

-- ---- statements

-- a declaration without a value sets all words of its name to 0
abbrev pub does : DeepProgram → DeepRunning → DeepSimple → DeepMove
does program thread (DeclareScalar x) = Goes (with_names thread (with_zeros thread.frame.names x))
does program thread (DeclareArray x n) = Goes (with_names thread (with_zeros thread.frame.names x))
does program thread (DeclareWith x v) = uses program thread (Stores (InLocal x)) (evaluated thread v)
does program thread (SetLocal x v) = uses program thread (Stores (InLocal x)) (evaluated thread v)
does program thread (SetGlobal g v) = uses program thread (Stores (InGlobal g)) (evaluated thread v)
does program thread (SetLocalElement a i v) = uses program thread (IndexesLocal a v) (evaluated thread i)
does program thread (SetGlobalElement a i v) = uses program thread (IndexesGlobal a v) (evaluated thread i)
does program thread (Calling call) = uses program thread (Stores Nowhere) (evaluated thread call)

abbrev pub gives_back : DeepProgram → DeepRunning → Option DeepExpr → DeepMove
gives_back program thread None = returned thread thread.below 0
gives_back program thread (Some v) = uses program thread Returns (evaluated thread v)

-- an item, when the thread has only the items after it still to do
abbrev pub performs : DeepProgram → DeepRunning → Item → List Item → DeepMove
performs program thread (Simply s) rest = does program thread s
performs program thread (Choose c s r) rest = uses program thread (Branches s r) (evaluated thread c)
performs program thread (Test c loop) rest = uses program thread (Tests loop) (evaluated thread c)
performs program thread Enter rest = Goes (to_do thread rest)
performs program thread (Back loop) rest = Goes (to_do thread (turn_before loop rest))
performs program thread Leave rest = Goes (to_do thread (after_leave 0 rest))
performs program thread Skip rest = Goes (to_do thread (after_skip 0 rest))
performs program thread (GiveBack v) rest = gives_back program thread v
performs program thread (Fail trap) rest = trapped thread trap
performs program thread (GoOn around word use_) rest = uses program thread use_ (go_on thread.frame.names thread.globals around word)

-- the first item; marks of turns before it are skipped within the same step. A function that reaches its end returns 0
-- if it is an `int` function.
abbrev pub performs_first : DeepProgram → DeepRunning → List Item → DeepMove
performs_first program thread [] = returned thread thread.below 0
performs_first program thread (Enter ∷ rest) = performs_first program thread rest
performs_first program thread (item ∷ rest) = performs program (to_do thread rest) item rest

abbrev pub deep_step : DeepProgram → DeepRunning → DeepMove
deep_step program thread = performs_first program thread thread.frame.to_do

-- a thread resumes with the answer to its modelled call, which isn't a step
abbrev pub deep_resume : DeepWaiting → Answer → DeepRunning
deep_resume waiting answer = delivered waiting.front waiting.below answer.globals answer.result

abbrev pub deep_machine : DeepProgram → Machine DeepRunning DeepWaiting Question Answer Finish
deep_machine program = record { step = deep_step program; resume = deep_resume }

abbrev pub started : DeepProgram → ℕ → List ℕ → List (List ℕ) → DeepRunning
started program f arguments globals = record { frame = pushed program f arguments; below = []; globals = globals }

abbrev pub start_globals : DeepProgram → List (List ℕ)
start_globals program = map (λ g. replicate g.words g.start) program.globals
