-- One thread over the areas: what one instruction of it leads to, and the calls of the run time that concern no other
-- thread. The thread continues, asks a call of the thread package, has ended, traps, finds no chunk, or is wrong.
-- Source for the instructions: RISC-V unprivileged manual, chapters "RV32I" and "M".
use Rattle.std.specs.Prelude.{ℕ, ◌==◌, List, [], ◌∷◌, Option, Some, None, option_map, if◌then◌else◌, nat_eq}
use Rattle.cap_word.specs.Calls.{Call, call_with}
use Rattle.cap_word.specs.ModelledCalls.{call_numbered, spawn_number}
use Rattle.cap_word.specs.Runs.{Move, Goes, Asks, Stops, Machine}
use Rattle.cap_word.specs.Word as word
use Rattle.cap_word.specs.declared.traps.TrapKind.{TrapKind}
use Rattle.chunk_pool.specs.Pool.{Pool, Taken, taken_for, after_give, word_of, with_word, end_of, payload_place_of, chunk_at}
use Rattle.rv_machine.specs.Access.{Access, next_access}
use Rattle.rv_machine.specs.Bytes.{with_stored}
use Rattle.rv_machine.specs.Registers.{read, write}
use Rattle.rv_machine.specs.Rows as rows
use Rattle.rv_machine.specs.Step.{outcome}
use Rattle.stack_certificate.specs.Registers.{sp, tp, t1, a0, a1, a2}
use Rattle.stack_certificate.specs.RunTimeCalls.{link_number, unlink_number, end_number, trap_number}
use Rattle.machine_world.specs.Areas.{Areas, byte_at, is_writable, with_byte}

-- a thread: the address of its next instruction, its 32 registers, and the chunks that it holds, innermost first
pub record Core : Type 0 where
  pub pc : ℕ
  pub x : List ℕ
  pub chain : List ℕ

-- a thread over the areas
pub record Local : Type 0 where
  pub areas : Areas
  pub core : Core

-- what a thread asks of the world, before it waits
pub data Question : Type 0 where
  -- a call of the thread package
  Calls : (call : Call) → Question
  -- a new thread at an entry, with an argument, on a chunk for a need
  Starts : (entry argument need : ℕ) → Question

-- the world's answer: the areas at that time, and the result, if the call gives one
pub record Answer : Type 0 where
  pub areas : Areas
  pub result : Option ℕ

-- how a thread stops
pub data End : Type 0 where
  -- it has ended, and its last chunk has been given back
  Ended : (areas : Areas) → End
  -- it is at a trap; nothing has changed
  Trapped : (kind : TrapKind) → End
  -- it needs a chunk and no free chunk fits; nothing has changed
  NoRoom : End
  -- a fault, an undefined call, or one that the thread may not make
  Wrong : End

-- what a step of a thread leads to; a thread that asks waits unchanged, at its ECALL
abbrev pub LocalMove : Type 0
LocalMove = Move Local Local Question End

-- ---- headers: the first word of a held chunk is the saved tp, the second the saved sp

abbrev pub saved_tp : Pool → ℕ → ℕ
saved_tp pool chunk = word_of pool chunk 0

abbrev pub saved_sp : Pool → ℕ → ℕ
saved_sp pool chunk = word_of pool chunk 1

abbrev pub with_header : Pool → ℕ → ℕ → ℕ → Pool
with_header pool chunk tp_now sp_now = with_word (with_word pool chunk 0 tp_now) chunk 1 sp_now

-- ---- the calls of the run time

-- the thread after a call that retires, with these new values of tp and sp
abbrev pub after_call : Core → List ℕ → ℕ → ℕ → Core
after_call core chain tp_now sp_now = record {
  pc = word.add core.pc 4;
  x = write (write core.x tp tp_now) sp sp_now;
  chain = chain;
}

-- LINK: takes a chunk for the need in t1, saves tp and sp in its header, sets tp to its payload and sp to its end, and
-- puts it at the front of the chain
abbrev pub linked_on : Local → Option Taken → LocalMove
linked_on l None = Stops NoRoom
linked_on l (Some taken) = Goes (record {
  areas = record l.areas { pool = with_header taken.pool taken.chunk (read l.core.x tp) (read l.core.x sp) };
  core = after_call l.core (taken.chunk ∷ l.core.chain) (payload_place_of taken.pool taken.chunk) (end_of taken.pool taken.chunk);
})

abbrev pub linked : Local → LocalMove
linked l = linked_on l (taken_for l.areas.pool (read l.core.x t1))

-- the chunk whose payload begins at an address, if there is one
abbrev pub begins_at : Pool → ℕ → Option ℕ → Option ℕ
begins_at pool address None = None
begins_at pool address (Some chunk) = if payload_place_of pool chunk == address then Some chunk else None

abbrev pub chunk_with_payload : Pool → ℕ → Option ℕ
chunk_with_payload pool address = begins_at pool address (chunk_at pool address)

-- UNLINK: restores tp and sp from the header of the chunk whose payload begins at tp, gives that chunk back to the
-- pool, and removes it from the front of the chain
abbrev pub unlinked_front : Local → ℕ → List ℕ → LocalMove
unlinked_front l chunk [] = Stops Wrong
unlinked_front l chunk (front ∷ chain) =
    if nat_eq front chunk
    then Goes (record {
      areas = record l.areas { pool = after_give l.areas.pool chunk };
      core = after_call l.core chain (saved_tp l.areas.pool chunk) (saved_sp l.areas.pool chunk);
    })
    else Stops Wrong

abbrev pub unlinked_on : Local → Option ℕ → LocalMove
unlinked_on l None = Stops Wrong
unlinked_on l (Some chunk) = unlinked_front l chunk l.core.chain

abbrev pub unlinked : Local → LocalMove
unlinked l = unlinked_on l (chunk_with_payload l.areas.pool (read l.core.x tp))

-- END: gives the last chunk back to the pool
abbrev pub ended : Local → List ℕ → LocalMove
ended l [] = Stops Wrong
ended l (chunk ∷ []) = Stops (Ended (record l.areas { pool = after_give l.areas.pool chunk }))
ended l (chunk ∷ chunk' ∷ chain) = Stops Wrong

-- TRAP: kind 1 is `index`, kind 2 is `table`
abbrev pub trapped : ℕ → LocalMove
trapped kind = if nat_eq kind 1 then Stops (Trapped TrapKind.Index) else if nat_eq kind 2 then Stops (Trapped TrapKind.Table) else Stops Wrong

-- the call of the thread package with that number; its argument is in a0, a second one in a1
abbrev pub package_call : ℕ → List ℕ → Option Call
package_call number x = option_map (λ call. call_with call (read x a0) (read x a1)) (call_numbered number)

abbrev pub asks_or_wrong : Local → Option Call → LocalMove
asks_or_wrong l (Some call) = Asks (Calls call) l
asks_or_wrong l None = Stops Wrong

-- the calls by number; the number is in a7
abbrev pub system_call : Local → ℕ → LocalMove
system_call l number =
    if nat_eq number link_number then linked l else
    if nat_eq number unlink_number then unlinked l else
    if nat_eq number spawn_number then Asks (Starts (read l.core.x a0) (read l.core.x a1) (read l.core.x a2)) l else
    if nat_eq number end_number then ended l l.core.chain else
    if nat_eq number trap_number then trapped (read l.core.x a0) else
    asks_or_wrong l (package_call number l.core.x)

-- ---- a step

-- the machine of the thread over the areas
abbrev pub machine_of : Local → rows.Machine
machine_of l = record { pc = l.core.pc; x = l.core.x; bytes = byte_at l.areas; writable = is_writable l.areas }

-- what the outcome of an instruction leads to
abbrev pub local_move : Local → rows.Outcome → LocalMove
local_move l (rows.Goes pc x stored) = Goes (record {
  areas = with_stored with_byte stored l.areas;
  core = record { pc = pc; x = x; chain = l.core.chain };
})
local_move l (rows.Asks number) = system_call l number
local_move l (rows.Fails kind) = Stops Wrong

-- one step of the thread over that code
unfoldable pub local_step : List ℕ → Local → LocalMove
local_step code l = local_move l (outcome code (machine_of l))

-- the memory access of that step
abbrev pub access_at : List ℕ → Local → Option Access
access_at code l = next_access code (machine_of l)

-- ---- after a call

-- a register has the result, if there is one
abbrev pub with_result : List ℕ → Option ℕ → List ℕ
with_result x None = x
with_result x (Some result) = write x a0 result

-- the thread past its ECALL, with the call's result in a0
abbrev pub passed : Core → Option ℕ → Core
passed core result = record { pc = word.add core.pc 4; x = with_result core.x result; chain = core.chain }

-- the thread as a machine that asks the world: `moves` of it are its steps, one after another
abbrev pub local_machine : List ℕ → Machine Local Local Question Answer End
local_machine code = record {
  step = local_step code;
  resume = λ l answer. record { areas = answer.areas; core = passed l.core answer.result };
}
