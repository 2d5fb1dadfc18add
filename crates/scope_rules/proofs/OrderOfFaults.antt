-- The least of some faults doesn't depend on which of them come first.
use Rattle.scope_rules.proofs.Common.{ℕ, suc, zero, ◌≡◌, refl, sym, ap, ◌∙◌, Bool, true, false, List, [], ◌∷◌, ◌++◌, Option, Some, None, arith, if◌then◌else◌, Rule, Fault, rank, is_before, lesser, least_of}
use Rattle.scope_rules.proofs.Least.{least_of_append}
use Rattle.scope_rules.proofs.LeastFaults.{key, before, rank_small, less, is_not_less}
use Rattle.scope_rules.proofs.NoFaults.{not_less}

abbrev rule_of : ℕ → Rule
rule_of zero = Rule.Unknown
rule_of (suc zero) = Rule.Twice
rule_of (suc (suc zero)) = Rule.Arity
rule_of (suc (suc (suc n))) = Rule.Kind

rule_of_rank : (r : Rule) → rule_of (rank r) ≡ r
rule_of_rank Rule.Unknown = refl
rule_of_rank _ = refl

same_fault : (f g : Fault) → key f ≡ key g → f ≡ g
same_fault f g h =
    let r = rank_small f.rule in
    let s = rank_small g.rule in
    let a : f.at ≡ g.at = omega (arith, h, r, s) in
    let e : rank f.rule ≡ rank g.rule = omega (arith, h, r, s) in
    let b : f.rule ≡ g.rule = sym (rule_of_rank f.rule) ∙ (ap rule_of e ∙ rule_of_rank g.rule) in
    λ k. record { at = a k; rule = b k }

of_two : (f g : Fault) (b c : Bool) → b ≡ is_before g f → c ≡ is_before f g → (if b then Some g else Some f) ≡ (if c then Some f else Some g)
of_two f g true true p q =
    let l = less (key g) (key f) (sym (before g f) ∙ sym p) in
    let m = less (key f) (key g) (sym (before f g) ∙ sym q) in
    absurd (omega (arith, l, m))
of_two f g false false p q =
    let l = not_less (key g) (key f) (sym (before g f) ∙ sym p) in
    let m = not_less (key f) (key g) (sym (before f g) ∙ sym q) in
    ap Some (same_fault f g (omega (arith, l, m)))
of_two f g _ _ p q = refl

of_three : (e f g : Fault) (b c : Bool) → b ≡ is_before f e → c ≡ is_before g e → lesser (if b then Some f else Some e) g ≡ lesser (if c then Some g else Some e) f
of_three e f g true true p q = of_two f g (is_before g f) (is_before f g) refl refl
of_three e f g true false p q =
    let l = less (key f) (key e) (sym (before f e) ∙ sym p) in
    let m = not_less (key g) (key e) (sym (before g e) ∙ sym q) in
    let d : is_before g f ≡ false = before g f ∙ sym (is_not_less (key g) (key f) (omega (arith, l, m))) in
    rw (d, sym p) refl
of_three e f g false true p q =
    let l = less (key g) (key e) (sym (before g e) ∙ sym q) in
    let m = not_less (key f) (key e) (sym (before f e) ∙ sym p) in
    let d : is_before f g ≡ false = before f g ∙ sym (is_not_less (key f) (key g) (omega (arith, l, m))) in
    rw (d, sym q) refl
of_three e f g false false p q = rw (sym p, sym q) refl

in_any_order : (o : Option Fault) (f g : Fault) → lesser (lesser o f) g ≡ lesser (lesser o g) f
in_any_order None f g = of_two f g (is_before g f) (is_before f g) refl refl
in_any_order (Some e) f g = of_three e f g (is_before f e) (is_before g e) refl refl

first_or_last : (o : Option Fault) (f : Fault) (gs : List Fault) → least_of (lesser o f) gs ≡ lesser (least_of o gs) f
first_or_last o f [] = refl
first_or_last o f (g ∷ gs) = ap (λ x. least_of x gs) (in_any_order o f g) ∙ first_or_last (lesser o g) f gs

swapped : (o : Option Fault) (fs gs : List Fault) → least_of (least_of o fs) gs ≡ least_of (least_of o gs) fs
swapped o [] gs = refl
swapped o (f ∷ fs) gs = swapped (lesser o f) fs gs ∙ ap (λ x. least_of x fs) (first_or_last o f gs)

-- some, and then those that come before them
pub least_of_earlier : (o a b : Option Fault) (fs gs : List Fault) → a ≡ least_of o gs → b ≡ least_of a fs → b ≡ least_of o (fs ++ gs)
least_of_earlier o a b fs gs p q = q ∙ (ap (λ x. least_of x fs) p ∙ (swapped o gs fs ∙ sym (least_of_append o fs gs)))
