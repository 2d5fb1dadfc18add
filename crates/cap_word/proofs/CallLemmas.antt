-- The table of the modelled calls: each has a number of its own.
use Rattle.std.proofs.Common.{◌≡◌, ℕ, List, [], ◌∷◌, Some, refl, sym, ap, ◌∙◌, ⊎_elim}
use Rattle.std.specs.Prelude.{find, nat_eq}
use Rattle.std.proofs.lemmas.Bool.{cases_eq, cond-true, cond-false, eq-eqb, ne_eqb}
use Rattle.cap_word.specs.declared.modelled_calls.ModelledCall.{ModelledCall}
use Rattle.cap_word.specs.ModelledCalls.{all_calls, blocks, call_numbered, number_of}
use Rattle.cap_word.specs.Calls.{call_with, is_blocking}

pub numbered : (call : ModelledCall) → call_numbered (number_of call) ≡ Some call
numbered ModelledCall.Accept = refl
numbered _ = refl

number_among : (calls : List ModelledCall) (number : ℕ) (call : ModelledCall) → find (λ c. nat_eq number (number_of c)) calls ≡ Some call → number ≡ number_of call
number_among [] number call e = absurd (cc)
number_among (c ∷ calls) number call e = ⊎_elim
    (λ (is : number ≡ number_of c).
    let here : Some c ≡ Some call = sym (cond-true (nat_eq number (number_of c)) _ _ (eq-eqb number (number_of c) is)) ∙ e in
    let same : c ≡ call = cc in is ∙ ap number_of same)
    (λ (not : number ≡ number_of c → ⊥).
    number_among calls number call (sym (cond-false (nat_eq number (number_of c)) _ _ (ne_eqb number (number_of c) not)) ∙ e))
    (cases_eq number (number_of c))

pub number_is : (number : ℕ) (call : ModelledCall) → call_numbered number ≡ Some call → number ≡ number_of call
number_is number call e = number_among all_calls number call e

pub blocking : (call : ModelledCall) (a b : ℕ) → is_blocking (call_with call a b) ≡ blocks call
blocking ModelledCall.Accept a b = refl
blocking _ a b = refl
