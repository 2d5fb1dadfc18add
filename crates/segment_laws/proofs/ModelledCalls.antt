-- The modelled calls by their numbers: what an ECALL asks where the argument registers hold a call's arguments.
use Rattle.segment_laws.proofs.Common.{◌≡◌, ℕ, ◌+◌, ◌<◌, ◌≤◌, List, length, get_or, Some, refl, ap, ◌∙◌, arith, Call, Blocking, Immediate, call_of, call_with, Asks, read}
use Rattle.cap_word.specs.ModelledCalls.{number_of, parameters_of}
use Rattle.cap_word.specs.declared.calls.Ask.{Ask}
use Rattle.cap_word.specs.declared.calls.Block.{Block}
use Rattle.cap_word.specs.declared.modelled_calls.ModelledCall.{ModelledCall}
use Rattle.c_mean.proofs.CallLemmas.{made_of}
use Rattle.machine_world.specs.Local.{Local, Calls, system_call}

-- the ECALL asks the call
abbrev pub AsksFor : Local → ℕ → Call → Type 0
AsksFor l n call = system_call l n ≡ Asks (Calls call) l

row_asks : (l : Local) (call : ModelledCall) → AsksFor l (number_of call) (call_with call (read l.core.x 10) (read l.core.x 11))
row_asks l ModelledCall.Accept = refl
row_asks l _ = refl

-- what a call looks at are its arguments
row_same : (call : ModelledCall) (a b c d : ℕ) → (0 < parameters_of call → a ≡ c) → (1 < parameters_of call → b ≡ d) → call_with call a b ≡ call_with call c d
row_same ModelledCall.Wait a b c d first second = ap (λ (v : ℕ). Blocking (Block.Wait v)) (first (omega arith))
row_same ModelledCall.Sleep a b c d first second = ap (λ (v : ℕ). Blocking (Block.Sleep v)) (first (omega arith))
row_same ModelledCall.Take a b c d first second = λ i. Blocking (Block.Take (first (omega arith) i) (second (omega arith) i))
row_same ModelledCall.WaitFor a b c d first second = λ i. Blocking (Block.WaitFor (first (omega arith) i) (second (omega arith) i))
row_same ModelledCall.Put a b c d first second = ap (λ (v : ℕ). Immediate (Ask.Put v)) (first (omega arith))
row_same ModelledCall.Give a b c d first second = λ i. Immediate (Ask.Give (first (omega arith) i) (second (omega arith) i))
row_same _ a b c d first second = refl

-- with its arguments in a0 and a1
pub asks_for : (l : Local) (n : ℕ) (vs : List ℕ) (call : Call) → ((j : ℕ) → j < length vs → read l.core.x (10 + j) ≡ get_or vs j 0) → call_of n vs ≡ Some call → AsksFor l n call
asks_for l n vs call held e =
    let is = made_of n vs call e in
    let same : call_with is.call (read l.core.x 10) (read l.core.x 11) ≡ call_with is.call (get_or vs 0 0) (get_or vs 1 0) =
    row_same is.call (read l.core.x 10) (read l.core.x 11) (get_or vs 0 0) (get_or vs 1 0)
    (λ (some : 0 < parameters_of is.call). held 0 (omega (arith, some, is.count)))
    (λ (more : 1 < parameters_of is.call). held 1 (omega (arith, more, is.count))) in
    ap (system_call l) is.own ∙ (row_asks l is.call ∙ ap (λ (k : Call). Asks (Calls k) l) (same ∙ is.made_is))

row_small : (call : ModelledCall) → (number_of call < 32) × (parameters_of call ≤ 2)
row_small ModelledCall.Accept = (omega arith, omega arith)
row_small _ = (omega arith, omega arith)

-- a call's number is small
pub call_small : (n : ℕ) (vs : List ℕ) (call : Call) → call_of n vs ≡ Some call → (n < 32) × (length vs ≤ 2)
call_small n vs call e =
    let is = made_of n vs call e in
    let small = row_small is.call in (omega (arith, small.0, is.own), omega (arith, small.1, is.count))
