-- A tree is a program, or has a refusal.
use Rattle.cap_word.specs.declared.limits.Which.{Which}
use Rattle.decisions.proofs.Common.{ℕ, ◌≡◌, ◌⊎◌, inl, inr, refl, Bool, true, false, List, [], length, Option, Some, None, RawItemTree, AreWithinTemporaries, program_sites, IsWellScoped, AreSiteNumbers, ScopeError, faults_of, has_main, program_of, numbered, IsResolvedBy}
use Rattle.scope_rules.specs.declared.faults.Fault.{Fault}
use Rattle.scope_rules.specs.declared.faults.Rule.{Rule}
use Rattle.scope_rules.specs.Faults.{least_of}
use Rattle.scope_rules.specs.Limits.{exceeded}
use Rattle.scope_rules.specs.Outcomes.{IsResolved, IsRefused, IsNoMemory, refusal_by}
use Rattle.scope_rules.proofs.LeastFaults.{none_is_none, refused}
use Rattle.scope_rules.proofs.WellScopedPrograms.{well_scoped}
use Rattle.scope_rules.proofs.Made.{numbered_scoped}

by_rule : (rule : Rule) (at : ℕ) → IsNoMemory (refusal_by rule at)
by_rule Rule.Unknown at = tt
by_rule _ at = tt

-- the tree breaks no rule, defines `main` and exceeds no limit
pub record IsFree (is : List RawItemTree) : Type 0 where
  pub rules : faults_of is ≡ []
  pub main : has_main is ≡ true
  pub limits : exceeded (program_of is) ≡ None

-- what a tree is refused for
abbrev pub Refused : List RawItemTree → Type 0
Refused is = (error : ScopeError) × (IsNoMemory error × IsRefused is error)

within_limits : (is : List RawItemTree) → faults_of is ≡ [] → has_main is ≡ true → (which : Option Which) → exceeded (program_of is) ≡ which → IsFree is ⊎ Refused is
within_limits is rules main None e = inl (record { rules = rules; main = main; limits = e })
within_limits is rules main (Some which) e = inr (ScopeError.Limit which, (tt, (rules, main, e)))

with_main : (is : List RawItemTree) → faults_of is ≡ [] → (has : Bool) → has_main is ≡ has → IsFree is ⊎ Refused is
with_main is rules false e = inr (ScopeError.NoMain, (tt, (rules, e)))
with_main is rules true e = within_limits is rules e (exceeded (program_of is)) refl

by_least : (is : List RawItemTree) (least : Option Fault) → least_of None (faults_of is) ≡ least → IsFree is ⊎ Refused is
by_least is (Some f) e = inr (refusal_by f.rule f.at, (by_rule f.rule f.at, refused is f e))
by_least is None e = with_main is (none_is_none (faults_of is) e) (has_main is) refl

pub free_or_refused : (is : List RawItemTree) → IsFree is ⊎ Refused is
free_or_refused is = by_least is (least_of None (faults_of is)) refl

-- ---- what a free tree is

pub resolved : (is : List RawItemTree) → IsFree is → IsResolved is (program_of is)
resolved is f = record { rules = f.rules; main = f.main; limits = f.limits; tree = refl }

pub resolved_by : (ns : List ℕ) (is : List RawItemTree) → IsFree is → IsResolvedBy ns is (numbered ns (program_of is))
resolved_by ns is f = record { rules = f.rules; main = f.main; limits = f.limits; tree = refl }

pub free_scoped : (is : List RawItemTree) → IsFree is → AreWithinTemporaries is → IsWellScoped (program_of is)
free_scoped is f small = well_scoped is f.rules f.main f.limits small

pub free_numbered_scoped : (ns : List ℕ) (is : List RawItemTree) → IsFree is → AreWithinTemporaries is → AreSiteNumbers ns → length ns ≡ length (program_sites (program_of is)) → IsWellScoped (numbered ns (program_of is))
free_numbered_scoped ns is f small are same = numbered_scoped ns is (program_of is) (resolved is f) (free_scoped is f small) are same
