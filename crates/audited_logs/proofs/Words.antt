-- What a thread of the machine puts is a word.
use Rattle.audited_logs.proofs.Common.{◌≡◌, ℕ, ◌^◌, ◌<◌, List, Option, Some, None, sym, subst, option_map, Call, Immediate, call_with, Asks, Ask, Exchange, immediate_row, Local, LocalMove, local_step, Thread, World, Setting, Move, step, local_in, AreWords, Ways, row_for, on_thread, on_printed, step_is}
use Rattle.cap_word.specs.ModelledCalls.{call_numbered}
use Rattle.cap_word.specs.declared.modelled_calls.ModelledCall.{ModelledCall}
use Rattle.machine_world.specs.Local as local
use Rattle.stack_certificate.specs.Registers.{a0, a1}
use Rattle.machine_world.specs.Threads as machine
use Rattle.rv_machine.specs.Registers.{read}
use Rattle.rv_machine.proofs.WordLaws.{read-below}
use Rattle.machine_world.proofs.LocalCases.{on_local}

-- ---- the thread's own step

-- a value that a call puts is a word
abbrev WordCall : Call → Type 0
WordCall (Immediate (Ask.Put value)) = value < 2 ^ 32
WordCall _ = Unit {0}

abbrev WordIf : Option Call → Type 0
WordIf None = Unit {0}
WordIf (Some call) = WordCall call

abbrev WordMove : LocalMove → Type 0
WordMove (Asks (local.Calls call) still) = WordCall call
WordMove _ = Unit {0}

word_row : (call : ModelledCall) (a b : ℕ) → a < 2 ^ 32 → WordCall (call_with call a b)
word_row ModelledCall.Put a b small = small
word_row _ a b small = tt

word_package : (call : Option ModelledCall) (a b : ℕ) → a < 2 ^ 32 → WordIf (option_map (λ c. call_with c a b) call)
word_package None a b small = tt
word_package (Some call) a b small = word_row call a b small

word_step : (code : List ℕ) (l : Local) → AreWords l.core.x → WordMove (local_step code l)
word_step code l words = on_local code l WordMove (record {
  goes = λ pc x stored e. tt;
  links = λ taken some. tt;
  unlinks = λ chunk chain is. tt;
  starts = tt;
  calls = λ number call some. subst WordIf some (word_package (call_numbered number) (read l.core.x a0) (read l.core.x a1) (read-below l.core.x a0 words));
  ends = λ chunk is. tt;
  traps = λ kind. tt;
  no_room = tt;
  wrong = tt;
})

-- ---- the step of the world

abbrev PutsWord : Move → Type 0
PutsWord (machine.Puts value after) = value < 2 ^ 32
PutsWord _ = Unit {0}

-- a value that is printed is one that is put
prints_put : (caps : List ℕ) (x : Exchange) (number next : ℕ) (ask : Ask) (word : ℕ) → (immediate_row caps x number next ask).prints ≡ Some word → WordCall (Immediate ask) → word < 2 ^ 32
prints_put caps x number next (Ask.Put value) word e small = let same : value ≡ word = cc in subst (λ (n : ℕ). n < 2 ^ 32) same small
prints_put caps x number next (Ask.Spawn function argument) word e small = absurd (cc)
prints_put caps x number next (Ask.Give resource amount) word e small = absurd (cc)
prints_put caps x number next Ask.SelfNumber word e small = absurd (cc)

puts_ways : (s : Setting) (w : World) (thread : Thread) → WordMove (local_step s.code (local_in w thread)) → Ways s w PutsWord thread
puts_ways s w thread own = record {
  goes = λ after e. tt;
  answers = λ ask still e. on_printed PutsWord (row_for s w thread ask).prints _ tt (λ word some. prints_put s.caps w.exchange thread.number w.next ask word some (subst WordMove e own));
  blocks = λ block. tt;
  spawns = λ entry argument need still taken e few some. tt;
  ends = λ areas e. tt;
}

-- what a step of a thread with registers of 32 bits puts is a word
pub put_word : (s : Setting) (w after : World) (number value : ℕ) (thread : Thread) → w.running ≡ Some number → machine.thread_of w number ≡ Some thread → AreWords thread.core.x → step s w ≡ machine.Puts value after → value < 2 ^ 32
put_word s w after number value thread running live words e =
    let all : PutsWord (step s w) = subst PutsWord (sym (step_is s w number thread running live))
    (on_thread s w PutsWord (λ stop. tt) tt thread (λ left. puts_ways s w thread (word_step s.code (local_in w thread) words))) in
    subst PutsWord e all
