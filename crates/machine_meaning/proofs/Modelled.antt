-- Modelled calls by their numbers: none of them starts a thread, and the number tells whether the machine gives a result.
use Rattle.machine_meaning.proofs.Common.{◌≡◌, ℕ, List, Some, refl, sym, subst, slice_index_or, Call, Blocking, Immediate, call_of, call_with, number_of, Ask, ModelledCall, made_of, modelled_gives, result_on}
use Rattle.std.specs.Prelude.{is_some}
use Rattle.machine_world.specs.Threads.{result_of}

-- a call that a world answers by its number n
abbrev pub IsCallOf : ℕ → Call → Type 0
IsCallOf n (Blocking block) = modelled_gives n ≡ is_some (result_on block 0)
IsCallOf n (Immediate (Ask.Spawn function argument)) = ⊥
IsCallOf n (Immediate ask) = modelled_gives n ≡ is_some (result_of ask 0)

-- a row of the table
row_known : (call : ModelledCall) (a b : ℕ) → IsCallOf (number_of call) (call_with call a b)
row_known ModelledCall.Accept a b = refl
row_known _ a b = refl

pub call_is : (n : ℕ) (words : List ℕ) (call : Call) → call_of n words ≡ Some call → IsCallOf n call
call_is n words call e =
    let is = made_of n words call e in
    subst (IsCallOf n) is.made_is (subst (λ (m : ℕ). IsCallOf m (call_with is.call (slice_index_or words 0 0) (slice_index_or words 1 0))) (sym is.own) (row_known is.call (slice_index_or words 0 0) (slice_index_or words 1 0)))
