-- Threads by their numbers, and the chunks that they hold.
use Rattle.machine_meaning.proofs.Common.{◌≡◌, ℕ, ◌+◌, ◌≤◌, Bool, nat_eq, not, List, [], ◌∷◌, ◌++◌, Option, Some, None, refl, sym, ap, ◌∙◌, arith, cond, ⊎_elim, cases_eq, cond-true, cond-false, eq-eqb, ne_eqb, RiseBetween, Thread, first_with, replaced, without}

-- no thread
abbrev no_thread : Option Thread
no_thread = None

pub replaced_same : (new old : Thread) (threads : List Thread) → first_with new.number threads ≡ Some old → first_with new.number (replaced new threads) ≡ Some new
replaced_same new old [] found = absurd cc
replaced_same new old (t ∷ ts) found = ⊎_elim
    (λ (same : t.number ≡ new.number).
    ap (λ (u : Thread). first_with new.number (u ∷ replaced new ts)) (cond-true (nat_eq t.number new.number) new t (eq-eqb t.number new.number same))
    ∙ cond-true (nat_eq new.number new.number) (Some new) (first_with new.number (replaced new ts)) (eq-eqb new.number new.number refl))
    (λ apart.
    ap (λ (u : Thread). first_with new.number (u ∷ replaced new ts)) (cond-false (nat_eq t.number new.number) new t (ne_eqb t.number new.number apart))
    ∙ cond-false (nat_eq t.number new.number) (Some t) (first_with new.number (replaced new ts)) (ne_eqb t.number new.number apart)
    ∙ replaced_same new old ts (sym (cond-false (nat_eq t.number new.number) (Some t) (first_with new.number ts) (ne_eqb t.number new.number apart)) ∙ found))
    (cases_eq t.number new.number)

pub without_same : (gone : ℕ) (threads : List Thread) → first_with gone (without gone threads) ≡ None
without_same gone [] = refl
without_same gone (t ∷ ts) = ⊎_elim
    (λ (same : t.number ≡ gone).
    ap (λ (b : Bool). first_with gone (cond (not b) (t ∷ without gone ts) (without gone ts))) (eq-eqb t.number gone same)
    ∙ without_same gone ts)
    (λ differ.
    ap (λ (b : Bool). first_with gone (cond (not b) (t ∷ without gone ts) (without gone ts))) (ne_eqb t.number gone differ)
    ∙ cond-false (nat_eq t.number gone) (Some t) (first_with gone (without gone ts)) (ne_eqb t.number gone differ)
    ∙ without_same gone ts)
    (cases_eq t.number gone)

pub append_same : (new : Thread) (threads : List Thread) → first_with new.number threads ≡ None → first_with new.number (threads ++ new ∷ []) ≡ Some new
append_same new [] none = cond-true (nat_eq new.number new.number) (Some new) None (eq-eqb new.number new.number refl)
append_same new (t ∷ ts) none = ⊎_elim
    (λ (same : t.number ≡ new.number). absurd (let some : Some t ≡ no_thread = sym (cond-true (nat_eq t.number new.number) (Some t) (first_with new.number ts) (eq-eqb t.number new.number same)) ∙ none in cc))
    (λ apart.
    cond-false (nat_eq t.number new.number) (Some t) (first_with new.number (ts ++ new ∷ [])) (ne_eqb t.number new.number apart)
    ∙ append_same new ts (sym (cond-false (nat_eq t.number new.number) (Some t) (first_with new.number ts) (ne_eqb t.number new.number apart)) ∙ none))
    (cases_eq t.number new.number)

-- no thread has the next number, or one beyond
pub none_from : (from next number : ℕ) (threads : List Thread) → RiseBetween from next threads → next ≤ number → first_with number threads ≡ None
none_from from next number [] rise le = refl
none_from from next number (t ∷ ts) rise le =
    let rest = none_from (t.number + 1) next number ts rise.1 le in
    let small : t.number + 1 ≤ next = rises (t.number + 1) next ts rise.1 in
    cond-false (nat_eq t.number number) (Some t) (first_with number ts) (ne_eqb t.number number (λ e. omega (arith, e, small, le))) ∙ rest
  where
    rises : (from next : ℕ) (threads : List Thread) → RiseBetween from next threads → from ≤ next
    rises from next [] rise = rise
    rises from next (u ∷ us) rise = let later = rises (u.number + 1) next us rise.1 in omega (arith, rise.0, later)
