-- A source ends in one thing alone: one program, or one refusal.
use Rattle.scope_rules.proofs.Common.{ℕ, ◌≡◌, ◌+◌, ◌*◌, refl, sym, ap, ◌∙◌, true, false, List, [], ◌∷◌, Some, arith, ◌⊎◌, inl, inr, AllByRecursion, Which, RawItemTree, ProgramTree, Rule, Fault, ScopeError, rank, fault, is_before, faults_of, has_main, program_of, exceeded, IsOneOf, here, further, IsLeast, IsResolved, IsRefused, IsNoMemory, refusal_by}
use Rattle.scope_rules.proofs.NoFaults.{not_less}
use Rattle.scope_rules.proofs.LeastFaults.{key, before, rank_small}

all_at : (P : Fault → Type 0) (f : Fault) (fs : List Fault) → AllByRecursion P fs → IsOneOf f fs → P f
all_at P f [] h o = elim o [ ]
all_at P f (g ∷ fs) h here = h.0
all_at P f (g ∷ fs) h (further o) = all_at P f fs h.1 o

none_of_none : (f : Fault) (fs : List Fault) → fs ≡ [] → IsOneOf f fs → ⊥
none_of_none f [] e o = elim o [ ]
none_of_none f (g ∷ fs) e _ = cc

same_rank : (r s : Rule) → rank r ≡ rank s → r ≡ s
same_rank Rule.Unknown Rule.Unknown h = refl
same_rank Rule.Unknown Rule.Twice h = absurd (omega arith)
same_rank Rule.Unknown Rule.Arity h = absurd (omega arith)
same_rank Rule.Unknown Rule.Kind h = absurd (omega arith)
same_rank Rule.Twice Rule.Unknown h = absurd (omega arith)
same_rank Rule.Twice Rule.Twice h = refl
same_rank Rule.Twice Rule.Arity h = absurd (omega arith)
same_rank Rule.Twice Rule.Kind h = absurd (omega arith)
same_rank Rule.Arity Rule.Unknown h = absurd (omega arith)
same_rank Rule.Arity Rule.Twice h = absurd (omega arith)
same_rank Rule.Arity Rule.Arity h = refl
same_rank Rule.Arity Rule.Kind h = absurd (omega arith)
same_rank Rule.Kind Rule.Unknown h = absurd (omega arith)
same_rank Rule.Kind Rule.Twice h = absurd (omega arith)
same_rank Rule.Kind Rule.Arity h = absurd (omega arith)
same_rank Rule.Kind Rule.Kind h = refl

same_refusal : (r s : Rule) (a b : ℕ) → 4 * a + rank r ≡ 4 * b + rank s → refusal_by r a ≡ refusal_by s b
same_refusal r s a b h =
    let x = rank_small r in
    let y = rank_small s in
    let p : a ≡ b = omega arith in
    let q : rank r ≡ rank s = omega arith in
    ap (λ z. refusal_by r z) p ∙ ap (λ z. refusal_by z b) (same_rank r s q)

pub one_least : (fs : List Fault) (r s : Rule) (a b : ℕ) → IsLeast (fault a r) fs → IsLeast (fault b s) fs → refusal_by r a ≡ refusal_by s b
one_least fs r s a b h k =
    let p : is_before (fault b s) (fault a r) ≡ false = all_at (λ g. is_before g (fault a r) ≡ false) (fault b s) fs h.least k.one in
    let q : is_before (fault a r) (fault b s) ≡ false = all_at (λ g. is_before g (fault b s) ≡ false) (fault a r) fs k.least h.one in
    let x = not_less (key (fault b s)) (key (fault a r)) (sym (before (fault b s) (fault a r)) ∙ p) in
    let y = not_less (key (fault a r)) (key (fault b s)) (sym (before (fault a r) (fault b s)) ∙ q) in
    same_refusal r s a b (omega arith)

-- what a refusal is for: a rule, main, or a limit
data Cause (is : List RawItemTree) (e : ScopeError) : Type 0 where
  by_rule : (r : Rule) (at : ℕ) → e ≡ refusal_by r at → IsLeast (fault at r) (faults_of is) → Cause is e
  by_main : e ≡ ScopeError.NoMain → faults_of is ≡ [] → has_main is ≡ false → Cause is e
  by_limit : (w : Which) → e ≡ ScopeError.Limit w → faults_of is ≡ [] → has_main is ≡ true → exceeded (program_of is) ≡ Some w → Cause is e

cause : (is : List RawItemTree) (e : ScopeError) → IsRefused is e → IsNoMemory e → Cause is e
cause is (ScopeError.Unknown at) h n = by_rule Rule.Unknown at refl h
cause is (ScopeError.Twice at) h n = by_rule Rule.Twice at refl h
cause is (ScopeError.Arity at) h n = by_rule Rule.Arity at refl h
cause is (ScopeError.Kind at) h n = by_rule Rule.Kind at refl h
cause is ScopeError.NoMain h n = by_main refl h.0 h.1
cause is (ScopeError.Limit w) h n = by_limit w refl h.0 h.1 h.2
cause is ScopeError.Memory h n = absurd n

one_cause : (is : List RawItemTree) (e d : ScopeError) → Cause is e → Cause is d → e ≡ d
one_cause is e d (by_rule r a p h) (by_rule s b q k) = p ∙ (one_least (faults_of is) r s a b h k ∙ sym q)
one_cause is e d (by_rule r a p h) (by_main q n m) = absurd (none_of_none (fault a r) (faults_of is) n h.one)
one_cause is e d (by_rule r a p h) (by_limit w q n m x) = absurd (none_of_none (fault a r) (faults_of is) n h.one)
one_cause is e d (by_main p n m) (by_rule s b q k) = absurd (none_of_none (fault b s) (faults_of is) n k.one)
one_cause is e d (by_main p n m) (by_main q o l) = p ∙ sym q
one_cause is e d (by_main p n m) (by_limit w q o l x) = cc
one_cause is e d (by_limit v p n m x) (by_rule s b q k) = absurd (none_of_none (fault b s) (faults_of is) n k.one)
one_cause is e d (by_limit v p n m x) (by_main q o l) = cc
one_cause is e d (by_limit v p n m x) (by_limit w q o l y) = cc

pub one_refusal : (is : List RawItemTree) (e d : ScopeError) → IsRefused is e → IsNoMemory e → IsRefused is d → IsNoMemory d → e ≡ d
one_refusal is e d h n k m = one_cause is e d (cause is e h n) (cause is d k m)

not_both : (is : List RawItemTree) (p : ProgramTree) (e : ScopeError) → IsResolved is p → Cause is e → ⊥
not_both is p e h (by_rule r a q k) = none_of_none (fault a r) (faults_of is) h.rules k.one
not_both is p e h (by_main q n m) = let a = h.main in cc
not_both is p e h (by_limit w q n m x) = let a = h.limits in cc

pub never_both : (is : List RawItemTree) (p : ProgramTree) (e : ScopeError) → IsResolved is p → IsRefused is e → IsNoMemory e → ⊥
never_both is p e h k n = not_both is p e h (cause is e k n)

-- a refusal of what is a program, and of what is refused otherwise
pub only_memory : (is : List RawItemTree) (p : ProgramTree) (e : ScopeError) → IsResolved is p → IsRefused is e → e ≡ ScopeError.Memory
only_memory is p (ScopeError.Unknown at) h k = absurd (never_both is p (ScopeError.Unknown at) h k tt)
only_memory is p (ScopeError.Twice at) h k = absurd (never_both is p (ScopeError.Twice at) h k tt)
only_memory is p (ScopeError.Arity at) h k = absurd (never_both is p (ScopeError.Arity at) h k tt)
only_memory is p (ScopeError.Kind at) h k = absurd (never_both is p (ScopeError.Kind at) h k tt)
only_memory is p ScopeError.NoMain h k = absurd (never_both is p ScopeError.NoMain h k tt)
only_memory is p (ScopeError.Limit w) h k = absurd (never_both is p (ScopeError.Limit w) h k tt)
only_memory is p ScopeError.Memory h k = refl

pub this_or_memory : (is : List RawItemTree) (e d : ScopeError) → IsRefused is e → IsNoMemory e → IsRefused is d → (d ≡ e) ⊎ (d ≡ ScopeError.Memory)
this_or_memory is e (ScopeError.Unknown at) h n k = inl (one_refusal is (ScopeError.Unknown at) e k tt h n)
this_or_memory is e (ScopeError.Twice at) h n k = inl (one_refusal is (ScopeError.Twice at) e k tt h n)
this_or_memory is e (ScopeError.Arity at) h n k = inl (one_refusal is (ScopeError.Arity at) e k tt h n)
this_or_memory is e (ScopeError.Kind at) h n k = inl (one_refusal is (ScopeError.Kind at) e k tt h n)
this_or_memory is e ScopeError.NoMain h n k = inl (one_refusal is ScopeError.NoMain e k tt h n)
this_or_memory is e (ScopeError.Limit w) h n k = inl (one_refusal is (ScopeError.Limit w) e k tt h n)
this_or_memory is e ScopeError.Memory h n k = inr refl
