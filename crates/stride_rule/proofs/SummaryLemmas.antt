-- What a summary says of the places that it covers.
use Rattle.std.proofs.Math.Seq.{drop-nil}
use Rattle.stride_rule.proofs.Common.{◌≡◌, ℕ, zero, suc, ◌<◌, ◌≤◌, Bool, true, false, Option, Some, None, List, [], ◌∷◌, length, drop, refl, ap, ◌∙◌, arith, Bounds, is_met, is_some_met, Client, Row, Summary, goes_before, is_before, row_at, met_with, met_among, Covers, Includes, may_help, by_test}
use Rattle.stride_rule.proofs.OrderLemmas.{goes_before-self, goes_before-cotrans}

pub includes_self : (s : Summary) → Includes s s
includes_self s = record { met = λ bounds e. e; least = goes_before-self s.pass s.number }

pub includes_covers : (s other : Summary) (place : Option Row) → Includes s other → Covers other place → Covers s place
includes_covers s other None includes covers = tt
includes_covers s other (Some r) includes covers = record {
  met = λ bounds e. includes.met bounds (covers.met bounds e);
  least = goes_before-cotrans r.client.pass r.client.thread.number other.pass other.number s.pass s.number covers.least includes.least;
}

pub includes_trans : (s mid other : Summary) → Includes s mid → Includes mid other → Includes s other
includes_trans s mid other above below = record {
  met = λ bounds e. above.met bounds (below.met bounds e);
  least = goes_before-cotrans other.pass other.number mid.pass mid.number s.pass s.number below.least above.least;
}

-- ---- where a summary doesn't help, none of its places does

unmet : (a b : Bool) → (a ≡ true → b ≡ true) → b ≡ false → a ≡ false
unmet true b up none = let e : b ≡ true = up refl in absurd cc
unmet false b up none = refl

unmet_stays : (bounds : Bounds) (best : Option Client) (r : Row) → is_met bounds r.need ≡ false → met_with bounds best (Some r) ≡ best
unmet_stays bounds None r none = rw none refl
unmet_stays bounds (Some b) r none = by_test (is_before r.client b) _ (λ first. rw (first, none) refl) (λ later. rw later refl)

later_stays : (bounds : Bounds) (b : Client) (r : Row) → is_before r.client b ≡ false → met_with bounds (Some b) (Some r) ≡ Some b
later_stays bounds b r later = rw later refl

pub no_help : (bounds : Bounds) (best : Option Client) (s : Summary) (place : Option Row) → may_help bounds best s ≡ false → Covers s place → met_with bounds best place ≡ best
no_help bounds best s None none covers = refl
no_help bounds None s (Some r) none covers = unmet_stays bounds None r (unmet (is_met bounds r.need) (is_some_met bounds s.needs) (covers.met bounds) none)
no_help bounds (Some b) s (Some r) none covers =
    by_test (goes_before s.pass s.number b.pass b.thread.number) _
    (λ first.
    let unmet_here : is_some_met bounds s.needs ≡ false = rw first at none in
    unmet_stays bounds (Some b) r (unmet (is_met bounds r.need) (is_some_met bounds s.needs) (covers.met bounds) unmet_here))
    (λ later. later_stays bounds b r (goes_before-cotrans r.client.pass r.client.thread.number s.pass s.number b.pass b.thread.number covers.least later))

-- ---- a search that passes places

module _ (bounds : Bounds) where
  pub met_past : (best : Option Client) (ps : List (Option Row)) (i j : ℕ) → i ≤ j → ((k : ℕ) → i ≤ k → k < j → k < length ps → met_with bounds best (row_at ps k) ≡ best) →
      met_among bounds best (drop i ps) ≡ met_among bounds best (drop j ps)
  met_past best [] i j order none = rw (drop-nil {A = Option Row} i, drop-nil {A = Option Row} j) refl
  met_past best (p ∷ ps) zero zero order none = refl
  met_past best (p ∷ ps) zero (suc j) order none =
      let here : met_with bounds best p ≡ best = none 0 (omega arith) (omega arith) (omega arith) in
      ap (λ (b : Option Client). met_among bounds b ps) here ∙ met_past best ps zero j (omega arith) (λ k from to there. none (suc k) (omega arith) (omega arith) (omega arith))
  met_past best (p ∷ ps) (suc i) zero order none = absurd (omega arith)
  met_past best (p ∷ ps) (suc i) (suc j) order none = met_past best ps i j (omega arith) (λ k from to there. none (suc k) (omega arith) (omega arith) (omega arith))
