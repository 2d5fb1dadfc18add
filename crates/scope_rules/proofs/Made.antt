-- From the parts of a program to the program, and to the one with other numbers of its calls.
use Rattle.scope_rules.proofs.Common.{ℕ, ◌≡◌, ◌≤◌, ◌⊎◌, refl, sym, ap, subst, ◌∙◌, List, length, Result, Ok, Err, arith, IfOk, IfErr, MatchResult, IfOk-weaker, IfErr-weaker, RawItemTree, ProgramTree, program_tree, program_sites, counting, IsWellScoped, AreSiteNumbers, ScopeError, program_of, numbered, IsResolvedBy, IsResolved, IsRefused, IsNoMemory}
use Rattle.c_tree.specs.declared.programs.Program.{Program}
use Rattle.scope_rules.proofs.Growth.{numbers}
use Rattle.scope_rules.proofs.Sites.{all_numbered}
use Rattle.scope_rules.proofs.NumberedPrograms.{well_numbered}
use Rattle.scope_rules.proofs.OneOutcome.{never_both, only_memory, this_or_memory}

pub made_as : (P : ProgramTree → Type 0) (r : Result Program ScopeError) (t : ProgramTree) → P t → IfOk r (λ p. program_tree p ≡ t) → IfOk r (λ p. P (program_tree p))
made_as P r t h e = IfOk-weaker r (λ p. program_tree p ≡ t) (λ p. P (program_tree p)) (λ p q. subst P (sym q) h) e

memory_is : (is : List RawItemTree) (e : ScopeError) → e ≡ ScopeError.Memory → IsRefused is e
memory_is is e q = subst (IsRefused is) (sym q) tt

pub memory_refused : (is : List RawItemTree) (r : Result Program ScopeError) → IfErr r (λ e. e ≡ ScopeError.Memory) → IfErr r (λ e. IsRefused is e)
memory_refused is r e = IfErr-weaker r (λ x. x ≡ ScopeError.Memory) (λ x. IsRefused is x) (λ x q. memory_is is x q) e

-- a program's calls are numbered from 0 in the order of the tree
numbered_in_order : (is : List RawItemTree) (p : ProgramTree) → p ≡ program_of is → IsWellScoped p → counting 0 (numbers (program_sites p))
numbered_in_order is p e h =
    let P : ProgramTree → Type 0 = λ q. length (program_sites q) ≤ 65536 → counting 0 (numbers (program_sites q)) in
    subst P (sym e) (all_numbered is).rise (let few = h.sites in omega arith)

pub numbered_scoped : (ns : List ℕ) (is : List RawItemTree) (p : ProgramTree) → IsResolved is p → IsWellScoped p → AreSiteNumbers ns → length ns ≡ length (program_sites (program_of is)) → IsWellScoped (numbered ns p)
numbered_scoped ns is p r h a e = well_numbered ns p h (numbered_in_order is p r.tree h) a (e ∙ sym (ap (λ q. length (program_sites q)) r.tree))

pub numbered_resolved : (ns : List ℕ) (is : List RawItemTree) (p : ProgramTree) → IsResolved is p → IsResolvedBy ns is (numbered ns p)
numbered_resolved ns is p r = record { rules = r.rules; main = r.main; limits = r.limits; tree = ap (numbered ns) r.tree }

-- a tree that is a program with other numbers is one with those of its order
pub in_order : (ns : List ℕ) (is : List RawItemTree) (p : ProgramTree) → IsResolvedBy ns is p → IsResolved is (program_of is)
in_order ns is p r = record { rules = r.rules; main = r.main; limits = r.limits; tree = refl }

-- a source has no other program, and no other refusal
pub only_resolved : (is : List RawItemTree) (r : Result Program ScopeError) → IfOk r (λ p. IsResolved is (program_tree p)) → IfErr r (λ e. IsRefused is e) → (p : ProgramTree) → IsResolved is p
    → MatchResult r (λ q. program_tree q ≡ p) (λ e. e ≡ ScopeError.Memory)
only_resolved is (Ok q) f g p h = f.tree ∙ sym h.tree
only_resolved is (Err e) f g p h = only_memory is p e h g

pub only_refused : (is : List RawItemTree) (r : Result Program ScopeError) → IfOk r (λ p. IsResolved is (program_tree p)) → IfErr r (λ e. IsRefused is e) → (e : ScopeError) → IsRefused is e → IsNoMemory e
    → MatchResult r (λ q. ⊥) (λ d. (d ≡ e) ⊎ (d ≡ ScopeError.Memory))
only_refused is (Ok q) f g e h n = never_both is (program_tree q) e f h n
only_refused is (Err d) f g e h n = this_or_memory is e d h n g

-- the same with these numbers of its calls
pub only_numbered : (ns : List ℕ) (is : List RawItemTree) (r : Result Program ScopeError) → IfOk r (λ p. IsResolvedBy ns is (program_tree p)) → IfErr r (λ e. IsRefused is e) → (p : ProgramTree) → IsResolvedBy ns is p
    → MatchResult r (λ q. program_tree q ≡ p) (λ e. e ≡ ScopeError.Memory)
only_numbered ns is (Ok q) f g p h = f.tree ∙ sym h.tree
only_numbered ns is (Err e) f g p h = only_memory is (program_of is) e (in_order ns is p h) g

pub only_refused_numbered : (ns : List ℕ) (is : List RawItemTree) (r : Result Program ScopeError) → IfOk r (λ p. IsResolvedBy ns is (program_tree p)) → IfErr r (λ e. IsRefused is e) → (e : ScopeError) → IsRefused is e → IsNoMemory e
    → MatchResult r (λ q. ⊥) (λ d. (d ≡ e) ⊎ (d ≡ ScopeError.Memory))
only_refused_numbered ns is (Ok q) f g e h n = never_both is (program_of is) e (in_order ns is (program_tree q) f) h n
only_refused_numbered ns is (Err d) f g e h n = this_or_memory is e d h n g
