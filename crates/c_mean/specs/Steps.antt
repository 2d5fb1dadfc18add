-- One step of a source thread: a declaration, an assignment, one test of a condition, a jump out of a loop or back to
-- its start, a call that pushes a frame, a return that pops one and stores its result, a modelled call, a trap by index
-- or table, or the end of the last frame (ISO/IEC 9899:2018, 6.5.2.2, 6.5.16 and 6.8).
use Rattle.std.specs.Prelude.{ℕ, zero, suc, Bool, true, false, List, [], ◌∷◌, Option, Some, None, nat_lt, length, Result, Ok, Err, map, replicate, slice_index, slice_index_or}
use Rattle.cap_word.specs.Rows.{width, with_word, with_zeros}
use Rattle.cap_word.specs.Calls.{Call, Question, Answer, Finish, call_of, spawn_of}
use Rattle.cap_word.specs.Runs.{Move, Goes, Asks, Stops, Machine}
use Rattle.cap_word.specs.declared.traps.TrapKind.{TrapKind}
use Rattle.cap_word.specs.ModelledCalls.{number_of}
use Rattle.c_tree.specs.Trees.{ExprTree, CallTree, CallFunction, CallTable, CallSpawn, CallModelled, RightTree, Computed, Called, SimpleTree, DeclareScalar, DeclareArray, DeclareWith, SetLocal, SetGlobal, SetLocalElement, SetGlobalElement, Calling, ProgramTree}
use Rattle.c_mean.specs.Values.{Value, value, values}
use Rattle.c_mean.specs.ToDo.{Item, Simply, Choose, Test, Enter, Back, Leave, Skip, GiveBack, GiveBackWord, Fail, before, body_before, turn_before, after_leave, after_skip}
use Rattle.c_mean.specs.Frames.{Place, Nowhere, InLocal, InGlobal, InLocalElement, InGlobalElement, Returned, WaitingFrame, Running, Waiting, pushed}

-- the outcome of a step of a source thread
abbrev pub SourceMove : Type 0
SourceMove = Move Running Waiting Question Finish

-- ---- parts of a thread

-- the thread, with these items still to do instead
abbrev pub to_do : Running → List Item → Running
to_do thread items = record thread { frame = record thread.frame { to_do = items } }

abbrev pub with_names : Running → List (List ℕ) → Running
with_names thread names = record thread { frame = record thread.frame { names = names } }

abbrev pub with_globals : Running → List (List ℕ) → Running
with_globals thread globals = record thread { globals = globals }

-- the value of an expression in the running frame
abbrev pub valued : Running → ExprTree → Value
valued thread e = value thread.frame.names thread.globals e

abbrev pub all_valued : Running → List ExprTree → Result (List ℕ) TrapKind
all_valued thread es = values thread.frame.names thread.globals es

-- the thread stops with a trap
abbrev pub trapped : Running → TrapKind → SourceMove
trapped thread trap = Stops (record { trap = Some trap; globals = thread.globals })

-- a value is used, or its trap stops the thread
abbrev pub on_value : {A : Type 0} → Running → Result A TrapKind → (A → SourceMove) → SourceMove
on_value thread (Ok a) use_it = use_it a
on_value thread (Err trap) use_it = trapped thread trap

-- ---- storing

abbrev pub stored_where : Bool → Running → Result Running TrapKind
stored_where true thread = Ok thread
stored_where false thread = Err TrapKind.Index

-- a word is stored at a place; an element's index, unsigned, has to be below the array's size. If the word is returned
-- to the caller, nothing else is left to do.
abbrev pub stored : Running → Place → ℕ → Result Running TrapKind
stored thread Nowhere word = Ok thread
stored thread (InLocal x) word = Ok (with_names thread (with_word thread.frame.names x 0 word))
stored thread (InGlobal g) word = Ok (with_globals thread (with_word thread.globals g 0 word))
stored thread (InLocalElement a i) word = stored_where (nat_lt i (width thread.frame.names a)) (with_names thread (with_word thread.frame.names a i word))
stored thread (InGlobalElement a i) word = stored_where (nat_lt i (width thread.globals a)) (with_globals thread (with_word thread.globals a i word))
stored thread Returned word = Ok (to_do thread (GiveBackWord word ∷ []))

-- an assignment of a value
abbrev pub assigned : Running → Place → ℕ → SourceMove
assigned thread place word = on_value thread (stored thread place word) Goes

-- the thread after the result of a call has arrived: if it can't be stored, only the trap is left to do
abbrev pub delivered_or : Running → Result Running TrapKind → Running
delivered_or thread (Ok after) = after
delivered_or thread (Err trap) = to_do thread (Fail trap ∷ [])

abbrev pub delivered : WaitingFrame → List WaitingFrame → List (List ℕ) → ℕ → Running
delivered waiting below globals word =
    let thread : Running = record { frame = waiting.frame; below = below; globals = globals } in delivered_or thread (stored thread waiting.place word)

-- ---- calls

-- the running frame waits at a site for a result that goes to a place
abbrev pub waits_at : Running → ℕ → Place → WaitingFrame
waits_at thread site place = record { frame = thread.frame; site = site; place = place }

-- a call of a function: a frame is pushed
abbrev pub entered : ProgramTree → Running → ℕ → Place → ℕ → List ℕ → SourceMove
entered program thread site place f arguments =
    Goes (record { frame = pushed program f arguments; below = waits_at thread site place ∷ thread.below; globals = thread.globals })

-- a call of a member of a table; its index, unsigned, has to be below the number of members
abbrev pub entered_where : Bool → ProgramTree → Running → ℕ → Place → ℕ → ℕ → SourceMove
entered_where true program thread site place f argument = entered program thread site place f (argument ∷ [])
entered_where false program thread site place f argument = trapped thread TrapKind.Table

abbrev pub entered_by : List ℕ → ProgramTree → Running → ℕ → Place → ℕ → ℕ → SourceMove
entered_by members program thread site place i argument =
    entered_where (nat_lt i (length members)) program thread site place (slice_index members i) argument

-- a modelled call
abbrev pub asks : Running → ℕ → Place → Call → SourceMove
asks thread site place call =
    Asks (record { call = call; globals = thread.globals }) (record { front = waits_at thread site place; below = thread.below })

-- in a well-scoped program each call has the right number of arguments; any other call ends the thread
abbrev pub asks_if : Running → ℕ → Place → Option Call → SourceMove
asks_if thread site place (Some call) = asks thread site place call
asks_if thread site place None = Stops (record { trap = None; globals = thread.globals })

-- arguments are evaluated from left to right, and a table's index before its argument
abbrev pub called : ProgramTree → Running → Place → CallTree → SourceMove
called program thread place (CallFunction site f es) = on_value thread (all_valued thread es) (λ arguments. entered program thread site place f arguments)
called program thread place (CallTable site t i e) =
    on_value thread (valued thread i) (λ index. on_value thread (valued thread e) (λ argument.
    entered_by (slice_index_or program.tables t []) program thread site place index argument))
called program thread place (CallSpawn site f e) = on_value thread (valued thread e) (λ argument. asks thread site place (spawn_of f argument))
called program thread place (CallModelled site m es) = on_value thread (all_valued thread es) (λ arguments. asks_if thread site place (call_of (number_of m) arguments))

-- a right side; its value or result goes to a place
abbrev pub assigns : ProgramTree → Running → Place → RightTree → SourceMove
assigns program thread place (Computed e) = on_value thread (valued thread e) (assigned thread place)
assigns program thread place (Called call) = called program thread place call

-- ---- statements

-- a declaration without a value sets all words of its name to 0. In `a[i] = e` the index is evaluated before the right
-- side, and tested after it.
abbrev pub does : ProgramTree → Running → SimpleTree → SourceMove
does program thread (DeclareScalar x) = Goes (with_names thread (with_zeros thread.frame.names x))
does program thread (DeclareArray x n) = Goes (with_names thread (with_zeros thread.frame.names x))
does program thread (DeclareWith x v) = assigns program thread (InLocal x) v
does program thread (SetLocal x v) = assigns program thread (InLocal x) v
does program thread (SetGlobal g v) = assigns program thread (InGlobal g) v
does program thread (SetLocalElement a i v) = on_value thread (valued thread i) (λ index. assigns program thread (InLocalElement a index) v)
does program thread (SetGlobalElement a i v) = on_value thread (valued thread i) (λ index. assigns program thread (InGlobalElement a index) v)
does program thread (Calling call) = called program thread Nowhere call

-- the first of two lists of items if a condition isn't 0, and otherwise the second
abbrev pub branched : Running → List Item → List Item → ℕ → SourceMove
branched thread first second zero = Goes (to_do thread second)
branched thread first second (suc n) = Goes (to_do thread first)

-- a return to the frame below, with a word that is ignored if the function gives no result; or the thread's end
abbrev pub returned : Running → List WaitingFrame → ℕ → SourceMove
returned thread [] word = Stops (record { trap = None; globals = thread.globals })
returned thread (waiting ∷ below) word = Goes (delivered waiting below thread.globals word)

abbrev pub gives_back : ProgramTree → Running → Option RightTree → SourceMove
gives_back program thread None = returned thread thread.below 0
gives_back program thread (Some (Computed e)) = on_value thread (valued thread e) (returned thread thread.below)
gives_back program thread (Some (Called call)) = called program thread Returned call

-- An item, when the thread has only the items after it still to do. The mark of a turn never occurs here, since it
-- isn't a step (see `performs_first`); it has a row so that every item has one.
abbrev pub performs : ProgramTree → Running → Item → List Item → SourceMove
performs program thread (Simply s) rest = does program thread s
performs program thread (Choose c s r) rest = on_value thread (valued thread c) (branched thread (before s rest) (before r rest))
performs program thread (Test c loop) rest = on_value thread (valued thread c) (branched thread (body_before loop rest) rest)
performs program thread Enter rest = Goes (to_do thread rest)
performs program thread (Back loop) rest = Goes (to_do thread (turn_before loop rest))
performs program thread Leave rest = Goes (to_do thread (after_leave 0 rest))
performs program thread Skip rest = Goes (to_do thread (after_skip 0 rest))
performs program thread (GiveBack v) rest = gives_back program thread v
performs program thread (GiveBackWord word) rest = returned thread thread.below word
performs program thread (Fail trap) rest = trapped thread trap

-- The first item. Marks of turns before it are skipped within the same step. A function that reaches its end returns 0
-- if it is an `int` function.
abbrev pub performs_first : ProgramTree → Running → List Item → SourceMove
performs_first program thread [] = returned thread thread.below 0
performs_first program thread (Enter ∷ rest) = performs_first program thread rest
performs_first program thread (item ∷ rest) = performs program (to_do thread rest) item rest

-- a step
abbrev pub source_step : ProgramTree → Running → SourceMove
source_step program thread = performs_first program thread thread.frame.to_do

-- a thread resumes with the answer to its modelled call, which isn't a step
abbrev pub source_resume : Waiting → Answer → Running
source_resume waiting answer = delivered waiting.front waiting.below answer.globals answer.result

-- the threads of a program, as a machine
abbrev pub source_machine : ProgramTree → Machine Running Waiting Question Answer Finish
source_machine program = record { step = source_step program; resume = source_resume }

-- a thread at the start of a function
abbrev pub started : ProgramTree → ℕ → List ℕ → List (List ℕ) → Running
started program f arguments globals = record { frame = pushed program f arguments; below = []; globals = globals }

-- the globals at the start of a run
abbrev pub start_globals : ProgramTree → List (List ℕ)
start_globals program = map (λ g. replicate g.words g.start) program.globals
