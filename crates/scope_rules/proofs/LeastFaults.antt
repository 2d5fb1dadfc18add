-- The fault that is kept is the least.
use Rattle.scope_rules.proofs.Common.{ℕ, ◌≡◌, ◌<◌, ◌≤◌, ◌+◌, ◌*◌, refl, sym, subst, ◌∙◌, Bool, true, false, List, [], ◌∷◌, Some, None, arith, nat_lt, nat_eq, ◌||◌, ◌&&◌, if◌then◌else◌, ◌⊎◌, inl, inr, AllByRecursion, nat_tests, RawItemTree, Rule, Fault, rank, fault, is_before, least_of, IsOneOf, here, further, IsLeast, IsRefused, refusal_by, faults_of}
use Rattle.scope_rules.proofs.NoFaults.{not_less, same_number}

abbrev pub key : Fault → ℕ
key f = 4 * f.at + rank f.rule

pub rank_small : (r : Rule) → rank r < 4
rank_small Rule.Unknown = omega arith
rank_small _ = omega arith

pub less : (a b : ℕ) → nat_lt a b ≡ true → a < b
less a b h = grind (arith, nat_tests)

pub is_less : (a b : ℕ) → a < b → true ≡ nat_lt a b
is_less a b h = grind (arith, nat_tests)

pub is_not_less : (a b : ℕ) → b ≤ a → false ≡ nat_lt a b
is_not_less a b h = grind (arith, nat_tests)

above : (a b : ℕ) → nat_lt a b ≡ false → nat_eq a b ≡ false → b < a
above a b h k = grind (arith, nat_tests)

by_key : (a b r s : ℕ) → r < 4 → s < 4 → (v w u : Bool) → v ≡ nat_lt a b → w ≡ nat_eq a b → u ≡ nat_lt r s → (v || (w && u)) ≡ nat_lt (4 * a + r) (4 * b + s)
by_key a b r s x y true w u e f g = let l = less a b (sym e) in is_less (4 * a + r) (4 * b + s) (omega arith)
by_key a b r s x y false true true e f g = let q = same_number a b (sym f) in let l = less r s (sym g) in is_less (4 * a + r) (4 * b + s) (omega arith)
by_key a b r s x y false true false e f g = let q = same_number a b (sym f) in let l = not_less r s (sym g) in is_not_less (4 * a + r) (4 * b + s) (omega arith)
by_key a b r s x y false false u e f g = let l = above a b (sym e) (sym f) in is_not_less (4 * a + r) (4 * b + s) (omega arith)

pub before : (f g : Fault) → is_before f g ≡ nat_lt (key f) (key g)
before f g = by_key f.at g.at (rank f.rule) (rank g.rule) (rank_small f.rule) (rank_small g.rule) (nat_lt f.at g.at) (nat_eq f.at g.at) (nat_lt (rank f.rule) (rank g.rule)) refl refl refl

-- the kept one stands before no other, and is one of them
record IsKept (e f : Fault) (fs : List Fault) : Type 0 where
  first : key f ≤ key e
  others : AllByRecursion (λ g. key f ≤ key g) fs
  one : (f ≡ e) ⊎ IsOneOf f fs

kept_more : (e g f : Fault) (fs : List Fault) (b : Bool) → b ≡ is_before g e → least_of (if b then Some g else Some e) fs ≡ Some f
    → (least_of (Some g) fs ≡ Some f → IsKept g f fs) → (least_of (Some e) fs ≡ Some f → IsKept e f fs) → IsKept e f (g ∷ fs)
kept_more e g f fs true q h first second =
    let k = first h in
    let l = less (key g) (key e) (sym (before g e) ∙ sym q) in
    let m = k.first in
    record { first = omega arith; others = (m, k.others); one = inr (elim k.one as (λ x. IsOneOf f (g ∷ fs)) [ inl s ↦ subst (λ x. IsOneOf f (x ∷ fs)) s here | inr s ↦ further s ]) }
kept_more e g f fs false q h first second =
    let k = second h in
    let l = not_less (key g) (key e) (sym (before g e) ∙ sym q) in
    let m = k.first in
    record { first = m; others = ((omega arith), k.others); one = elim k.one as (λ x. (f ≡ e) ⊎ IsOneOf f (g ∷ fs)) [ inl s ↦ inl s | inr s ↦ inr (further s) ] }

kept : (e : Fault) (fs : List Fault) (f : Fault) → least_of (Some e) fs ≡ Some f → IsKept e f fs
kept e [] f h = let s : f ≡ e = cc in record { first = rw s (omega arith); others = tt; one = inl s }
kept e (g ∷ fs) f h = kept_more e g f fs (is_before g e) refl h (kept g fs f) (kept e fs f)

not_before : (f : Fault) (fs : List Fault) → AllByRecursion (λ g. key f ≤ key g) fs → AllByRecursion (λ g. is_before g f ≡ false) fs
not_before f [] h = tt
not_before f (g ∷ fs) h = (before g f ∙ sym (is_not_less (key g) (key f) h.0), not_before f fs h.1)

pub least_is_least : (fs : List Fault) (f : Fault) → least_of None fs ≡ Some f → IsLeast f fs
least_is_least [] f h = cc
least_is_least (g ∷ fs) f h =
    let k = kept g fs f h in
    record {
      one = elim k.one as (λ x. IsOneOf f (g ∷ fs)) [ inl s ↦ subst (λ x. IsOneOf f (x ∷ fs)) s here | inr s ↦ further s ];
      least = (before g f ∙ sym (is_not_less (key g) (key f) k.first), not_before f fs k.others);
    }

lost_by : (e g : Fault) (fs : List Fault) (b : Bool) → (least_of (Some g) fs ≡ None → ⊥) → (least_of (Some e) fs ≡ None → ⊥) → least_of (if b then Some g else Some e) fs ≡ None → ⊥
lost_by e g fs true first second h = first h
lost_by e g fs false first second h = second h

lost : (e : Fault) (fs : List Fault) → least_of (Some e) fs ≡ None → ⊥
lost e [] h = cc
lost e (g ∷ fs) h = lost_by e g fs (is_before g e) (lost g fs) (lost e fs) h

pub none_is_none : (fs : List Fault) → least_of None fs ≡ None → fs ≡ []
none_is_none [] h = refl
none_is_none (g ∷ fs) h = absurd (lost g fs h)

refused_by : (is : List RawItemTree) (r : Rule) (at : ℕ) → IsLeast (fault at r) (faults_of is) → IsRefused is (refusal_by r at)
refused_by is Rule.Unknown at h = h
refused_by is _ at h = h

pub refused : (is : List RawItemTree) (f : Fault) → least_of None (faults_of is) ≡ Some f → IsRefused is (refusal_by f.rule f.at)
refused is f h = refused_by is f.rule f.at (least_is_least (faults_of is) f h)
