-- The calls that the thread package answers, and what a thread of a program shares with its world. They mean the
-- same in source, flat code and machine.
use Rattle.std.specs.Prelude.{ℕ, Bool, true, false, List, length, Option, Some, None, option_and_then, if◌then◌else◌, nat_eq, slice_index_or}
use Rattle.cap_word.specs.declared.calls.Ask.{Ask}
use Rattle.cap_word.specs.declared.calls.Block.{Block}
use Rattle.cap_word.specs.ModelledCalls.{call_numbered, parameters_of}
use Rattle.cap_word.specs.declared.modelled_calls.ModelledCall.{ModelledCall}
use Rattle.cap_word.specs.declared.traps.TrapKind.{TrapKind}

-- a modelled call with its arguments: one that blocks the thread, or one that is answered at once
pub data Call : Type 0 where
  Blocking : (block : Block) → Call
  Immediate : (ask : Ask) → Call

abbrev pub is_blocking : Call → Bool
is_blocking (Blocking block) = true
is_blocking (Immediate ask) = false

-- the call is `accept`
abbrev pub is_accept : Block → Bool
is_accept Block.Accept = true
is_accept (Block.Wait channel) = false
is_accept (Block.Sleep ticks) = false
is_accept Block.Yield = false
is_accept (Block.Take resource amount) = false
is_accept (Block.WaitFor channel ticks) = false

-- a call of the table with its first and its second argument; a call that takes fewer ignores the rest
abbrev pub call_with : ModelledCall → ℕ → ℕ → Call
call_with ModelledCall.Accept a b = Blocking Block.Accept
call_with ModelledCall.Wait a b = Blocking (Block.Wait a)
call_with ModelledCall.Sleep a b = Blocking (Block.Sleep a)
call_with ModelledCall.Yield a b = Blocking Block.Yield
call_with ModelledCall.Take a b = Blocking (Block.Take a b)
call_with ModelledCall.WaitFor a b = Blocking (Block.WaitFor a b)
call_with ModelledCall.Put a b = Immediate (Ask.Put a)
call_with ModelledCall.Give a b = Immediate (Ask.Give a b)
call_with ModelledCall.SelfNumber a b = Immediate Ask.SelfNumber

-- a call of the table with these arguments, if their number is its arity
abbrev pub call_on : List ℕ → ModelledCall → Option Call
call_on arguments call =
    if nat_eq (length arguments) (parameters_of call) then Some (call_with call (slice_index_or arguments 0 0) (slice_index_or arguments 1 0)) else None

-- the modelled call with this number and these arguments; `spawn` isn't one, since it names a function
abbrev pub call_of : ℕ → List ℕ → Option Call
call_of number arguments = option_and_then (call_on arguments) (call_numbered number)

-- the start of a thread that runs a function, by its number, with an argument
abbrev pub spawn_of : ℕ → ℕ → Call
spawn_of function argument = Immediate (Ask.Spawn function argument)

-- the maximum number of live threads
abbrev pub most_threads : ℕ
most_threads = 65535

-- what a thread asks of its world: the call, with the globals at that moment
pub record Question : Type 0 where
  pub call : Call
  pub globals : List (List ℕ)

-- what the world answers when the thread resumes: the call's result, ignored if the call gives none, with the
-- globals at that moment
pub record Answer : Type 0 where
  pub result : ℕ
  pub globals : List (List ℕ)

-- how a thread stops, with the globals at that moment: it ends, or it traps
pub record Finish : Type 0 where
  pub trap : Option TrapKind
  pub globals : List (List ℕ)
