-- The least site of a function at which V9 or V10 fails.
use Rattle.std.specs.Prelude.{◌≡◌, ℕ, ◌+◌, ◌<◌, ◌≤◌, Option, Some, None}
use Rattle.flat_code.specs.declared.operations.Op.{Op}
use Rattle.flat_code.specs.Codes.{FlatCode, operation_at}
use Rattle.stack_certificate.specs.declared.certificates.Certificate.{Certificate}
use Rattle.stack_certificate.specs.declared.sites.LinkKind.{LinkKind}
use Rattle.stack_certificate.specs.Certificates.{fact_at}
use Rattle.stack_certificate.specs.Templates.{kind_of}
use Rattle.certificate_rules.specs.Sites.{callee_bound, certified_site}
use Rattle.certificate_rules.specs.Rules.{IsNeed}
use Rattle.certificate_check.specs.declared.site_rules.SiteRule.{SiteRule}

-- the condition of V9 or V10 at an operation of function f that has a site
abbrev pub HoldsAtSite : SiteRule → FlatCode → Certificate → ℕ → Op → Type 0
HoldsAtSite SiteRule.Need code certificate f op = IsNeed (kind_of certificate op) (callee_bound code certificate op)
HoldsAtSite SiteRule.Bound code certificate f op =
    kind_of certificate op ≡ LinkKind.Plain → (fact_at certificate f).frame + callee_bound code certificate op ≤ (fact_at certificate f).bound

-- among the first n operations, the one with that site, if there is one, meets the rule
pub record HoldsBelow (rule : SiteRule) (code : FlatCode) (certificate : Certificate) (f n site : ℕ) : Type 0 where
  pub holds : (k : ℕ) (op : Op) → k < n → operation_at code f k ≡ Some op → certified_site op ≡ Some site → HoldsAtSite rule code certificate f op

-- one of the first n operations has that site and breaks the rule
pub record Fails (rule : SiteRule) (code : FlatCode) (certificate : Certificate) (f n site : ℕ) : Type 0 where
  pub k : ℕ
  pub op : Op
  pub below : k < n
  pub there : operation_at code f k ≡ Some op
  pub site_is : certified_site op ≡ Some site
  pub fails : HoldsAtSite rule code certificate f op → ⊥

-- the least site at which one of the first n operations breaks the rule, or none
abbrev pub IsLeastSite : SiteRule → FlatCode → Certificate → ℕ → ℕ → Option ℕ → Type 0
IsLeastSite rule code certificate f n None = (site : ℕ) → HoldsBelow rule code certificate f n site
IsLeastSite rule code certificate f n (Some site) =
    Fails rule code certificate f n site × ((lower : ℕ) → lower < site → HoldsBelow rule code certificate f n lower)
