-- Parts of a call: a thread's record and its context.
use Rattle.std.specs.Prelude.{◌≡◌, ◌≢◌, ℕ, ◌+◌, Option, Some, None}
use Rattle.slab.specs.Slab.{get}
use Rattle.cap_word.specs.declared.threads.ThreadId.{ThreadId}
use Rattle.rv_machine.specs.Registers.{write}
use Rattle.stack_certificate.specs.Registers.{a0}
use Rattle.segment_run.specs.declared.contexts.Context.{Context}
use Rattle.thread_core.specs.declared.records.Record.{Record}
use Rattle.thread_core.specs.declared.state.State.{State}

-- the context of a thread has this property
abbrev pub ContextIs : State → ThreadId → (Context → Type 0) → Type 0
ContextIs st thread P = (r : Record) → get st.records thread.slot ≡ Some r → P r.context

-- the record of a thread has this context, and every other record is the same
pub record HasContext (old : State) (thread : ThreadId) (context : Context) (new : State) : Type 0 where
  pub written : (r : Record) → get old.records thread.slot ≡ Some r → get new.records thread.slot ≡ Some (record r { context = context })
  pub others : (place : ℕ) → place ≢ thread.slot → get new.records place ≡ get old.records place

-- a context after its ECALL, with the call's result
abbrev pub passed_context : Context → Option ℕ → Context
passed_context context None = record context { pc = context.pc + 4 }
passed_context context (Some value) = record context { pc = context.pc + 4; x = write context.x a0 value }

-- the same with the call's answer, if it gives one
abbrev pub answered_context : Context → Option ℕ → Context
answered_context context None = context
answered_context context (Some value) = record context { x = write context.x a0 value }
