-- Modelled calls and their arguments, and after how long a thread is ready that is blocked at one.
use Rattle.c_mean.proofs.Common.{◌≡◌, ℕ, suc, List, [], ◌∷◌, length, refl, sym, ap, subst, ◌∙◌, ◌⊎◌, inl, inr, nat_eq, IsSome, Option, Some, None, option_and_then, slice_index_or, Result, Ok, cases_eq, cond-true, cond-false, eq-eqb, ne_eqb, Call, call_of, call_on, call_with, Block, TrapKind, call_numbered, number_of, parameters_of, ExprTree, Exchange, blocking_row, wake_of, wakes_at, Value, value, values, with_first}
use Rattle.cap_word.proofs.CallLemmas.{numbered, number_is}
use Rattle.cap_word.specs.declared.modelled_calls.ModelledCall.{ModelledCall}

-- a call of the table with as many arguments as it takes
call_there : (call : ModelledCall) (arguments : List ℕ) → length arguments ≡ parameters_of call →
    call_of (number_of call) arguments ≡ Some (call_with call (slice_index_or arguments 0 0) (slice_index_or arguments 1 0))
call_there call arguments h =
    ap (option_and_then (call_on arguments)) (numbered call)
    ∙ cond-true (nat_eq (length arguments) (parameters_of call)) _ _ (eq-eqb (length arguments) (parameters_of call) h)

pub known : (call : ModelledCall) (arguments : List ℕ) → length arguments ≡ parameters_of call → IsSome (call_of (number_of call) arguments)
known call arguments h = subst IsSome (sym (call_there call arguments h)) refl

-- a call that a number and arguments make: the call of the table with that number, on as many arguments as it takes
pub record IsMade (number : ℕ) (arguments : List ℕ) (made : Call) : Type 0 where
  pub call : ModelledCall
  pub found : call_numbered number ≡ Some call
  pub own : number ≡ number_of call
  pub count : length arguments ≡ parameters_of call
  pub made_is : call_with call (slice_index_or arguments 0 0) (slice_index_or arguments 1 0) ≡ made

-- each call of a number and arguments is one of the table
pub made_of : (number : ℕ) (arguments : List ℕ) (made : Call) → call_of number arguments ≡ Some made → IsMade number arguments made
made_of number arguments made e = by_call (call_numbered number) refl e
  where
    by_count : (call : ModelledCall) → call_numbered number ≡ Some call → (length arguments ≡ parameters_of call) ⊎ (length arguments ≡ parameters_of call → ⊥) → call_on arguments call ≡ Some made → IsMade number arguments made
    by_count call n (inl same) e =
        let there : Some (call_with call (slice_index_or arguments 0 0) (slice_index_or arguments 1 0)) ≡ Some made =
        sym (cond-true (nat_eq (length arguments) (parameters_of call)) _ _ (eq-eqb (length arguments) (parameters_of call) same)) ∙ e in
        record { call = call; found = n; own = number_is number call n; count = same; made_is = cc }
    by_count call n (inr differ) e =
        absurd (let no : None ≡ Some made = sym (cond-false (nat_eq (length arguments) (parameters_of call)) _ _ (ne_eqb (length arguments) (parameters_of call) differ)) ∙ e in cc)

    by_call : (o : Option ModelledCall) → call_numbered number ≡ o → option_and_then (call_on arguments) o ≡ Some made → IsMade number arguments made
    by_call None n e = absurd (cc)
    by_call (Some call) n e = by_count call n (cases_eq (length arguments) (parameters_of call)) e

-- what holds of each call of the table holds of the call of a number, where there is one
pub each_made : (P : Option Call → Type 0) → P None → ((call : ModelledCall) (a b : ℕ) → P (Some (call_with call a b))) → (number : ℕ) (arguments : List ℕ) → P (call_of number arguments)
each_made P none each number arguments = by_made (call_of number arguments) refl
  where
    by_made : (o : Option Call) → call_of number arguments ≡ o → P o
    by_made None e = none
    by_made (Some made) e =
        let is = made_of number arguments made e in
        subst (λ (c : Call). P (Some c)) is.made_is (each is.call (slice_index_or arguments 0 0) (slice_index_or arguments 1 0))

counted_first : (first : Value) (rest : Result (List ℕ) TrapKind) (n : ℕ) (words : List ℕ) → ((ws : List ℕ) → rest ≡ Ok ws → length ws ≡ n) → with_first first rest ≡ Ok words → length words ≡ suc n
counted_first (Ok a) (Ok ws) n words h e = let same : a ∷ ws ≡ words = cc in ap length (sym same) ∙ ap suc (h ws refl)
counted_first _ _ n words h e = cc

pub counted : (names globals : List (List ℕ)) (exprs : List ExprTree) (words : List ℕ) → values names globals exprs ≡ Ok words → length words ≡ length exprs
counted names globals [] words e = let same : [] ≡ words = cc in ap length (sym same)
counted names globals (expr ∷ exprs) words e = counted_first (value names globals expr) (values names globals exprs) (length exprs) words (λ ws f. counted names globals exprs ws f) e

-- the time to wake doesn't turn on the caps or the exchange
pub waits_alone : (caps : List ℕ) (x : Exchange) (since : ℕ) (block : Block) → wake_of since (blocking_row caps x block).wait ≡ wakes_at since block
waits_alone caps x since Block.Accept = refl
waits_alone caps x since _ = refl
