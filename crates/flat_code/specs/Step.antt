-- One step of a thread of flat code: one operation.
use Rattle.std.specs.Prelude.{ℕ, zero, suc, ◌-◌, ◌^◌, Bool, true, false, List, [], ◌∷◌, length, map, replicate, nat_eq, nat_lt, bit_xor, slice_index, slice_set, Option, Some, None}
use Rattle.cap_word.specs.Word as word
use Rattle.cap_word.specs.Calls.{Call, Question, Answer, Finish, call_of, spawn_of}
use Rattle.cap_word.specs.Rows.{width, word_at, with_word}
use Rattle.cap_word.specs.Runs.{Move, Goes, Asks, Stops, Machine}
use Rattle.cap_word.specs.declared.traps.TrapKind.{TrapKind}
use Rattle.flat_code.specs.declared.operations.Op.{Op}
use Rattle.flat_code.specs.Codes.{FlatCode, function_at, members_of, result_place}
use Rattle.flat_code.specs.Frames.{FlatFrame, FlatThread, FlatWaiting, End, Finished, Lost, pushed, standing, variable, at, passed, set_to, with_scalar, with_result}
use Rattle.flat_code.specs.Operators.{result_of}

-- the outcome of a step
abbrev pub FlatMove : Type 0
FlatMove = Move FlatThread FlatWaiting Question End

-- ---- reading variables

-- a value is used; without one the thread is lost
abbrev pub on : {A : Type 0} → Option A → (A → FlatMove) → FlatMove
on None use_it = Stops Lost
on (Some a) use_it = use_it a

-- the word of a scalar
abbrev pub first : Option (List ℕ) → Option ℕ
first None = None
first (Some []) = None
first (Some (w ∷ ws)) = Some w

abbrev pub scalar : FlatThread → ℕ → Option ℕ
scalar thread x = first (variable thread.frame x)

abbrev pub both : Option ℕ → Option (List ℕ) → Option (List ℕ)
both None rest = None
both (Some w) None = None
both (Some w) (Some ws) = Some (w ∷ ws)

abbrev pub scalars : FlatThread → List ℕ → Option (List ℕ)
scalars thread [] = Some []
scalars thread (x ∷ xs) = both (scalar thread x) (scalars thread xs)

-- ---- continuing

-- the thread continues with this running frame
abbrev pub goes_in : FlatThread → FlatFrame → FlatMove
goes_in thread frame = Goes (record thread { frame = frame })

-- after the scalar d has been set
abbrev pub puts : FlatThread → ℕ → ℕ → FlatMove
puts thread d word = goes_in thread (with_scalar thread.frame d word)

-- with these globals
abbrev pub goes_with : FlatThread → List (List ℕ) → FlatMove
goes_with thread globals = Goes (record thread { frame = passed thread.frame; globals = globals })

-- the thread stops with a trap
abbrev pub trapped : FlatThread → TrapKind → FlatMove
trapped thread trap = Stops (Finished (record { trap = Some trap; globals = thread.globals }))

-- if an index is in range, and otherwise the trap
abbrev pub where_in : Bool → FlatThread → TrapKind → FlatMove → FlatMove
where_in true thread trap move = move
where_in false thread trap move = trapped thread trap

-- an unsigned index, of this number of words
abbrev pub within : FlatThread → ℕ → ℕ → FlatMove → FlatMove
within thread i size move = where_in (nat_lt i size) thread TrapKind.Index move

-- to operation `to` if the word is 0, and otherwise to the next one
abbrev pub jumps : FlatThread → ℕ → ℕ → FlatMove
jumps thread to zero = goes_in thread (at thread.frame to)
jumps thread to (suc n) = goes_in thread (passed thread.frame)

-- ---- calls and returns

-- a call of a function: a frame is pushed, and the running one waits at its current operation
abbrev pub enters : FlatCode → FlatThread → ℕ → List ℕ → FlatMove
enters code thread f arguments = Goes (record { frame = pushed code f arguments; below = thread.frame ∷ thread.below; globals = thread.globals })

-- a call of a member of a table, by an unsigned index
abbrev pub enters_by : List ℕ → FlatCode → FlatThread → ℕ → ℕ → FlatMove
enters_by members code thread i argument =
    where_in (nat_lt i (length members)) thread TrapKind.Table (enters code thread (slice_index members i) (argument ∷ []))

abbrev pub asks : FlatThread → Call → FlatMove
asks thread call = Asks (record { call = call; globals = thread.globals }) (record { frame = thread.frame; below = thread.below })

-- the variable that gets the result of the call at which a frame waits
abbrev pub place_in : Option Op → Option ℕ
place_in None = None
place_in (Some op) = result_place op

-- a frame that waits continues with the result of its call
abbrev pub answered : FlatCode → FlatFrame → ℕ → FlatFrame
answered code frame word = with_result frame (place_in (standing code frame)) word

-- a return to the frame below, with a word that is ignored if the function gives no result; or the thread's end
abbrev pub returns : FlatCode → FlatThread → List FlatFrame → ℕ → FlatMove
returns code thread [] word = Stops (Finished (record { trap = None; globals = thread.globals }))
returns code thread (frame ∷ below) word = Goes (record { frame = answered code frame word; below = below; globals = thread.globals })

abbrev pub gives_back : FlatCode → FlatThread → Option ℕ → FlatMove
gives_back code thread None = returns code thread thread.below 0
gives_back code thread (Some s) = on (scalar thread s) (returns code thread thread.below)

-- ---- the operations

abbrev pub does : FlatCode → FlatThread → Op → FlatMove
does code thread (Op.Const d value) = puts thread d value
does code thread (Op.Copy d s) = on (scalar thread s) (puts thread d)
does code thread (Op.Neg d s) = on (scalar thread s) (λ a. puts thread d (word.sub 0 a))
does code thread (Op.Not d s) = on (scalar thread s) (λ a. puts thread d (bit_xor a (2 ^ 32 - 1)))
does code thread (Op.Flip d s) = on (scalar thread s) (λ a. puts thread d (word.flag (nat_eq a 0)))
does code thread (Op.Bin op d x y) = on (scalar thread x) (λ a. on (scalar thread y) (λ b. puts thread d (result_of op a b)))
does code thread (Op.Zero a) = goes_in thread (passed (set_to thread.frame a (replicate (slice_index (function_at code thread.frame.function).sizes a) 0)))
does code thread (Op.LoadGlobal d g) = puts thread d (word_at thread.globals g 0)
does code thread (Op.StoreGlobal g s) = on (scalar thread s) (λ v. goes_with thread (with_word thread.globals g 0 v))
does code thread (Op.LoadLocal d a i) = on (scalar thread i) (λ k. on (variable thread.frame a) (λ row. within thread k (length row) (puts thread d (slice_index row k))))
does code thread (Op.LoadArray d a i) = on (scalar thread i) (λ k. within thread k (width thread.globals a) (puts thread d (word_at thread.globals a k)))
does code thread (Op.StoreLocal a i s) = on (scalar thread i) (λ k. on (scalar thread s) (λ v. on (variable thread.frame a) (λ row. within thread k (length row) (goes_in thread (passed (set_to thread.frame a (slice_set row k v)))))))
does code thread (Op.StoreArray a i s) = on (scalar thread i) (λ k. on (scalar thread s) (λ v. within thread k (width thread.globals a) (goes_with thread (with_word thread.globals a k v))))
does code thread (Op.Jump to) = goes_in thread (at thread.frame to)
does code thread (Op.JumpZero s to) = on (scalar thread s) (jumps thread to)
does code thread (Op.Call site d f args) = on (scalars thread args) (enters code thread f)
does code thread (Op.CallTable site d t i s) = on (scalar thread i) (λ k. on (scalar thread s) (enters_by (members_of code t) code thread k))
does code thread (Op.Model site d n args) = on (scalars thread args) (λ arguments. on (call_of n arguments) (asks thread))
does code thread (Op.Spawn site d f s) = on (scalar thread s) (λ argument. asks thread (spawn_of f argument))
does code thread (Op.Return s) = gives_back code thread s

-- a step
abbrev pub flat_step : FlatCode → FlatThread → FlatMove
flat_step code thread = on (standing code thread.frame) (does code thread)

-- a thread resumes with the answer to its modelled call, which isn't a step
abbrev pub flat_resume : FlatCode → FlatWaiting → Answer → FlatThread
flat_resume code waiting answer = record { frame = answered code waiting.frame answer.result; below = waiting.below; globals = answer.globals }

-- the threads of a program of flat code, as a machine
abbrev pub flat_machine : FlatCode → Machine FlatThread FlatWaiting Question Answer End
flat_machine code = record { step = flat_step code; resume = flat_resume code }

-- a thread at the start of a function
abbrev pub started : FlatCode → ℕ → List ℕ → List (List ℕ) → FlatThread
started code f arguments globals = record { frame = pushed code f arguments; below = []; globals = globals }

-- the globals at the start of a run
abbrev pub start_globals : FlatCode → List (List ℕ)
start_globals code = map (λ g. replicate g.words g.start) code.globals

-- ---- machines that are never lost

-- a move with its stop as one of flat code
abbrev pub finishing_move : {S W Q : Type 0} → Move S W Q Finish → Move S W Q End
finishing_move (Goes next) = Goes next
finishing_move (Asks question waiting) = Asks question waiting
finishing_move (Stops finish) = Stops (Finished finish)

-- a machine whose stops are ends of threads, to be compared with flat code
abbrev pub finishing : {S W Q A : Type 0} → Machine S W Q A Finish → Machine S W Q A End
finishing machine = record { step = λ state. finishing_move (machine.step state); resume = machine.resume }
