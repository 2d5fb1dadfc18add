-- What is in scope after a statement is what was in scope before it, and more names.
use Rattle.std.proofs.lemmas.List.{length-append}
use Rattle.scope_rules.proofs.Common.{◌≡◌, ◌-◌, ℕ, refl, sym, ap, ◌∙◌, Bool, true, false, List, [], ◌∷◌, ◌++◌, length, drop, append_assoc, Option, Some, None, if◌then◌else◌, param_bound, NameTree, RawExprTree, RawSimpleTree, RawDeclareScalar, RawDeclareArray, RawDeclareWith, RawStmtTree, RawStmtTrees, RawDo, RawReturn, NoRawStmts, RawThen, Meaning, Binding, find, is_fixed, bound, Spot, simple_after, simples_after, left, step_after, returned_after, stmt_after, stmts_after, arith}

abbrev pub Extends : List Binding → List Binding → Type 0
Extends long short = (more : List Binding) × (long ≡ more ++ short)

pub same_names : (names : List Binding) → Extends names names
same_names names = ([], refl)

pub then_extends : (a b c : List Binding) → Extends b a → Extends c b → Extends c a
then_extends a b c h k = (k.0 ++ h.0, k.1 ∙ (ap (λ x. k.0 ++ x) h.1 ∙ sym (append_assoc k.0 h.0 a)))

one_more : (names : List Binding) (b : Bool) (x : Binding) → Extends (if b then names else x ∷ names) names
one_more names true x = ([], refl)
one_more names false x = (x ∷ [], refl)

pub bound_extends : (names : List Binding) (t : List ℕ) (m : Meaning) → Extends (bound names t m) names
bound_extends names t m = one_more names (is_fixed (find t names)) (record { text = t; meaning = m })

pub simple_extends : (s : Spot) (p : RawSimpleTree) → Extends (simple_after s p).names s.names
simple_extends s (RawDeclareScalar n) = bound_extends s.names n.text _
simple_extends s (RawDeclareArray n size) = bound_extends s.names n.text _
simple_extends s (RawDeclareWith n v) = bound_extends s.names n.text _
simple_extends s _ = same_names s.names

pub simples_extends : (s : Spot) (ps : List RawSimpleTree) → Extends (simples_after s ps).names s.names
simples_extends s [] = same_names s.names
simples_extends s (p ∷ ps) = then_extends s.names (simple_after s p).names (simples_after (simple_after s p) ps).names (simple_extends s p) (simples_extends (simple_after s p) ps)

pub step_extends : (s : Spot) (p : Option RawSimpleTree) → Extends (step_after s p).names s.names
step_extends s None = same_names s.names
step_extends s (Some p) = simple_extends s p

returned_extends : (s : Spot) (v : Option RawExprTree) → Extends (returned_after s v).names s.names
returned_extends s None = same_names s.names
returned_extends s (Some v) = same_names s.names

pub stmt_extends : (s : Spot) (p : RawStmtTree) → Extends (stmt_after s p).names s.names
stmt_extends s (RawDo p) = simple_extends s p
stmt_extends s (RawReturn at v) = returned_extends s v
stmt_extends s _ = same_names s.names

pub stmts_extends : (s : Spot) (ps : RawStmtTrees) → Extends (stmts_after s ps).names s.names
stmts_extends s NoRawStmts = same_names s.names
stmts_extends s (RawThen p ps) = then_extends s.names (stmt_after s p).names (stmts_after (stmt_after s p) ps).names (stmt_extends s p) (stmts_extends (stmt_after s p) ps)

drop_all : (more names : List Binding) → drop (length more) (more ++ names) ≡ names
drop_all [] names = refl
drop_all (x ∷ more) names = drop_all more names

-- the names before a scope, once its own are taken away
pub names_left : (names long : List Binding) (count : ℕ) → count ≡ length names → Extends long names → drop (length long - count) long ≡ names
names_left names long count e h =
    let k : length (h.0 ++ names) - count ≡ length h.0 = omega (arith, length-append h.0 names) in
    rw (h.1, k) (drop_all h.0 names)

-- after a scope that began at s, had count names outside it, and ended at m
pub leaves : (s m e : Spot) (count outer : ℕ) → count ≡ length s.names → outer ≡ s.outer → Extends m.names s.names
    → e ≡ record m { names = drop (length m.names - count) m.names; outer = outer } → e ≡ left s m
leaves s m e count outer c o h k = k ∙ (ap (λ x. record m { names = x; outer = outer }) (names_left s.names m.names count c h) ∙ ap (λ x. record m { names = s.names; outer = x }) o)

pub param_extends : (names : List Binding) (p : Option NameTree) → Extends (param_bound names p) names
param_extends names None = same_names names
param_extends names (Some n) = bound_extends names n.text (Meaning.Local 0 false)
