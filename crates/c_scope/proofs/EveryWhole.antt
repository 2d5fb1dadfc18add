-- The laws of source texts, where no call may be nested.
use Rattle.std.proofs.Common.{ℕ, ◌≡◌, ◌≢◌, ◌⊎◌, sym, ◌∙◌, List, Result}
use Rattle.std.specs.Prelude.{IfOk, IfErr, IsErrOf, MatchResult}
use Rattle.c_tree.specs.RawTrees.{RawItemTree}
use Rattle.c_tree.specs.Trees.{ProgramTree}
use Rattle.c_tree.specs.ProgramView.{program_tree}
use Rattle.c_tree.specs.declared.programs.Program.{Program}
use Rattle.c_parse.specs.NestedCalls.{nested_in_items}
use Rattle.scope_rules.specs.Outcomes.{IsResolved, IsRefused}
use Rattle.scope_rules.proofs.OneOutcome.{never_both, one_refusal}
use Rattle.c_scope.specs.declared.source_errors.SourceError.{SourceError}
use Rattle.c_scope.specs.declared.source_errors.SourceError.TheVariants as refusals
use Rattle.c_scope.specs.SourceText.{ReadsAs, IsSourceErrorOf}
use Rattle.c_scope.proofs.SourceTexts as texts

one_resolved : (t : List RawItemTree) (p q : ProgramTree) → IsResolved t p → IsResolved t q → p ≡ q
one_resolved t p q h k = h.tree ∙ sym k.tree

pub one_program : (source : List ℕ) (p q : ProgramTree) → ReadsAs source p → ReadsAs source q → p ≡ q
one_program = texts.one_program nested_in_items IsResolved IsRefused one_resolved never_both one_refusal

pub only_program : (source : List ℕ) (r : Result Program SourceError) → IfOk r (λ p. ReadsAs source (program_tree p)) → IfErr r (λ e. e ≢ refusals.Memory → IsSourceErrorOf source e)
    → (p : ProgramTree) → ReadsAs source p → MatchResult r (λ q. program_tree q ≡ p) (λ e. e ≡ refusals.Memory)
only_program = texts.only_program nested_in_items IsResolved IsRefused one_resolved never_both one_refusal

pub only_refusal : (source : List ℕ) (r : Result Program SourceError) → IfOk r (λ p. ReadsAs source (program_tree p)) → IfErr r (λ e. e ≢ refusals.Memory → IsSourceErrorOf source e)
    → (e : SourceError) → IsSourceErrorOf source e → IsErrOf r e ⊎ IsErrOf r refusals.Memory
only_refusal = texts.only_refusal nested_in_items IsResolved IsRefused one_resolved never_both one_refusal
