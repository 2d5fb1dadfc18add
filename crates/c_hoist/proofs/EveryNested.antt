-- The laws of source texts, where a call may stand inside an expression.
use Rattle.c_hoist.proofs.Common.{ℕ, ◌≡◌, ◌≢◌, ◌⊎◌, sym, ◌∙◌, List, Result, IfOk, IfErr, IsErrOf, MatchResult, RawItemTree, ProgramTree, program_tree, Program, IsNoMemory, SourceError, site_numbers, items_hoisted, IsHoistedTo, IsRefusedHoisted, ReadsNested, IsNestedSourceErrorOf}
use Rattle.c_parse.specs.ForParts.{nested_in_fors}
use Rattle.scope_rules.specs.declared.errors.ScopeError.{ScopeError}
use Rattle.scope_rules.proofs.Made.{in_order}
use Rattle.scope_rules.proofs.OneOutcome.{never_both, one_refusal}
use Rattle.c_scope.specs.declared.source_errors.SourceError.TheVariants as refusals
use Rattle.c_scope.proofs.SourceTexts as texts

one_hoisted : (t : List RawItemTree) (p q : ProgramTree) → IsHoistedTo t p → IsHoistedTo t q → p ≡ q
one_hoisted t p q h k = h.tree ∙ sym k.tree

never_hoisted : (t : List RawItemTree) (p : ProgramTree) (x : ScopeError) → IsHoistedTo t p → IsRefusedHoisted t x → IsNoMemory x → ⊥
never_hoisted t p x h k n = never_both (items_hoisted t) _ x (in_order (site_numbers (items_hoisted t)) (items_hoisted t) p h) k n

one_refused : (t : List RawItemTree) (x y : ScopeError) → IsRefusedHoisted t x → IsNoMemory x → IsRefusedHoisted t y → IsNoMemory y → x ≡ y
one_refused t x y = one_refusal (items_hoisted t) x y

pub never : (source : List ℕ) (p : ProgramTree) (e : SourceError) → ReadsNested source p → IsNestedSourceErrorOf source e → ⊥
never = texts.never nested_in_fors IsHoistedTo IsRefusedHoisted one_hoisted never_hoisted one_refused

pub one_source_error : (source : List ℕ) (e d : SourceError) → IsNestedSourceErrorOf source e → IsNestedSourceErrorOf source d → e ≡ d
one_source_error = texts.one_source_error nested_in_fors IsHoistedTo IsRefusedHoisted one_hoisted never_hoisted one_refused

pub one_program : (source : List ℕ) (p q : ProgramTree) → ReadsNested source p → ReadsNested source q → p ≡ q
one_program = texts.one_program nested_in_fors IsHoistedTo IsRefusedHoisted one_hoisted never_hoisted one_refused

pub only_program : (source : List ℕ) (r : Result Program SourceError) → IfOk r (λ p. ReadsNested source (program_tree p)) → IfErr r (λ e. e ≢ refusals.Memory → IsNestedSourceErrorOf source e)
    → (p : ProgramTree) → ReadsNested source p → MatchResult r (λ q. program_tree q ≡ p) (λ e. e ≡ refusals.Memory)
only_program = texts.only_program nested_in_fors IsHoistedTo IsRefusedHoisted one_hoisted never_hoisted one_refused

pub only_refusal : (source : List ℕ) (r : Result Program SourceError) → IfOk r (λ p. ReadsNested source (program_tree p)) → IfErr r (λ e. e ≢ refusals.Memory → IsNestedSourceErrorOf source e)
    → (e : SourceError) → IsNestedSourceErrorOf source e → IsErrOf r e ⊎ IsErrOf r refusals.Memory
only_refusal = texts.only_refusal nested_in_fors IsHoistedTo IsRefusedHoisted one_hoisted never_hoisted one_refused
