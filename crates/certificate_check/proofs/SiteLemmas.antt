-- The least site of a function at which V9 or V10 fails, one operation after another.
use Rattle.certificate_check.proofs.Common.{◌≡◌, ℕ, ◌+◌, ◌<◌, ◌≤◌, min, length, arith, sym, ap, ◌∙◌, subst, Option, Some, None, inl, inr, MatchOption, cases_lt, Op, FlatCode, function_at, operation_at, Certificate, V9, V10, certified_site, IsFirst, HoldsAtSite, HoldsBelow, Fails, IsLeastSite}
use Rattle.std.proofs.lemmas.Option.{same_Some, slice_get_within}
use Rattle.certificate_check.specs.declared.site_rules.SiteRule.{SiteRule}

-- what is said of one operation more
step : (rule : SiteRule) (code : FlatCode) (certificate : Certificate) (f n site : ℕ) (op : Op) → operation_at code f n ≡ Some op → (certified_site op ≡ Some site → HoldsAtSite rule code certificate f op) →
    HoldsBelow rule code certificate f n site → HoldsBelow rule code certificate f (n + 1) site
step rule code certificate f n site op there here before = record {
  holds = λ k o lt e named. elim (cases_lt k n) [
    | inl below ↦ before.holds k o below e named
    | inr above ↦
        (let is : n ≡ k = omega arith in
        let same : op ≡ o = same_Some op o (sym there ∙ (ap (λ (m : ℕ). operation_at code f m) is ∙ e)) in
        subst (λ p. certified_site p ≡ Some site → HoldsAtSite rule code certificate f p) same here named)
  ];
}

later : (rule : SiteRule) (code : FlatCode) (certificate : Certificate) (f n site : ℕ) → Fails rule code certificate f n site → Fails rule code certificate f (n + 1) site
later rule code certificate f n site h = record { k = h.k; op = h.op; below = (let lt = h.below in omega arith); there = h.there; site_is = h.site_is; fails = h.fails }

pub no_site : (o : Option ℕ) (site : ℕ) → None ≡ o → o ≡ Some site → ⊥
no_site o site e f = let both : None ≡ Some site = e ∙ f in cc

-- an operation that is as the rule says, or has no site, changes nothing
pub same_least : (rule : SiteRule) (code : FlatCode) (certificate : Certificate) (f n : ℕ) (op : Op) (first : Option ℕ) → operation_at code f n ≡ Some op →
    ((site : ℕ) → certified_site op ≡ Some site → HoldsAtSite rule code certificate f op) → IsLeastSite rule code certificate f n first → IsLeastSite rule code certificate f (n + 1) first
same_least rule code certificate f n op None there holds before = λ site. step rule code certificate f n site op there (holds site) (before site)
same_least rule code certificate f n op (Some least) there holds before =
    (later rule code certificate f n least before.0, λ lower lt. step rule code certificate f n lower op there (holds lower) (before.1 lower lt))

-- an operation that isn't as the rule says has the least site, or a greater one than the least so far
pub lesser_least : (rule : SiteRule) (code : FlatCode) (certificate : Certificate) (f n site least : ℕ) (op : Op) (first : Option ℕ) → operation_at code f n ≡ Some op → certified_site op ≡ Some site →
    (HoldsAtSite rule code certificate f op → ⊥) → IsLeastSite rule code certificate f n first → MatchOption first (least ≡ site) (λ m. least ≡ min m site) → IsLeastSite rule code certificate f (n + 1) (Some least)
lesser_least rule code certificate f n site least op None there named fails before is = (
  record { k = n; op = op; below = omega arith; there = there; site_is = named ∙ ap Some (sym is); fails = fails },
  λ lower lt. step rule code certificate f n lower op there (λ e. absurd (let same = same_Some lower site (sym e ∙ named) in omega arith)) (before lower),
)
lesser_least rule code certificate f n site least op (Some m) there named fails before is = elim (cases_lt m site) [
  | inl below ↦
      (let e : least ≡ m = omega arith in (
        subst (λ (s : ℕ). Fails rule code certificate f (n + 1) s) (sym e) (later rule code certificate f n m before.0),
        λ lower lt. step rule code certificate f n lower op there (λ g. absurd (let same = same_Some lower site (sym g ∙ named) in omega arith)) (before.1 lower (omega arith)),
      ))
  | inr above ↦
      (let e : least ≡ site = omega arith in (
        record { k = n; op = op; below = omega arith; there = there; site_is = named ∙ ap Some (sym e); fails = fails },
        λ lower lt. step rule code certificate f n lower op there (λ g. absurd (let same = same_Some lower site (sym g ∙ named) in omega arith)) (before.1 lower (omega arith)),
      ))
]

-- ---- the whole function

inside : (code : FlatCode) (f k : ℕ) (op : Op) → operation_at code f k ≡ Some op → k < length (function_at code f).ops
inside code f k op e = slice_get_within (function_at code f).ops k op e

pub needs_first : (code : FlatCode) (certificate : Certificate) (f n : ℕ) (first : Option ℕ) → length (function_at code f).ops ≤ n → IsLeastSite SiteRule.Need code certificate f n first → IsFirst (V9 code certificate f) first
needs_first code certificate f n None le h = λ i. record { need = λ k op e named. (h i).holds k op (let lt = inside code f k op e in omega arith) e named }
needs_first code certificate f n (Some site) le h = (
  λ v. h.0.fails (v.need h.0.k h.0.op h.0.there h.0.site_is),
  λ j lt. record { need = λ k op e named. (h.1 j lt).holds k op (let within = inside code f k op e in omega arith) e named },
)

pub bounds_first : (code : FlatCode) (certificate : Certificate) (f n : ℕ) (first : Option ℕ) → length (function_at code f).ops ≤ n → IsLeastSite SiteRule.Bound code certificate f n first → IsFirst (V10 code certificate f) first
bounds_first code certificate f n None le h = λ i. record { bound = λ k op e named plain. (h i).holds k op (let lt = inside code f k op e in omega arith) e named plain }
bounds_first code certificate f n (Some site) le h = (
  λ v. h.0.fails (λ plain. v.bound h.0.k h.0.op h.0.there h.0.site_is plain),
  λ j lt. record { bound = λ k op e named plain. (h.1 j lt).holds k op (let within = inside code f k op e in omega arith) e named plain },
)
