-- Summaries at each level, while places change.
use Rattle.stride_rule.proofs.Common.{◌≡◌, ◌≢◌, ℕ, false, ◌+◌, ◌<◌, ◌≤◌, ◌/◌, ◌%◌, Option, Some, None, List, length, slice_set, ap, ◌∙◌, subst, ⊎_elim, arith, cases_eq, nat_tests, get_or-set_same, get_or-set_other, length-set, Bounds, Client, Row, Summary, goes_before, row_at, row_grown, met_with, Covers, Includes, may_help, summary_at}
use Rattle.stride_rule.specs.declared.levels.Levels.{Levels}
use Rattle.stride_rule.specs.Levels.{AreLevels, AreLevelsBut, IsCovered, IsThere}
use Rattle.stride_rule.proofs.SummaryLemmas.{includes_covers, no_help}

later_still : (pass stride number p n : ℕ) → goes_before pass number p n ≡ false → goes_before (pass + stride) number p n ≡ false
later_still pass stride number p n h = grind (arith, nat_tests)

grown_covered : (s : Summary) (place : Option Row) → Covers s place → Covers s (row_grown place)
grown_covered s None covers = tt
grown_covered s (Some r) covers = record { met = covers.met; least = later_still r.client.pass r.client.stride r.client.thread.number s.pass s.number covers.least }

-- ---- one level

module _ (at : ℕ → ℕ) (level : List Summary) (ps : List (Option Row)) where
  abbrev pub AreCovered : Type 0
  AreCovered = (place : ℕ) → place < length ps → IsCovered level (at place) (row_at ps place)

  -- a thread's pass has grown
  pub covered_grown : (k : ℕ) → k < length ps → AreCovered → (place : ℕ) → place < length (slice_set ps k (row_grown (row_at ps k))) → IsCovered level (at place) (row_at (slice_set ps k (row_grown (row_at ps k))) place)
  covered_grown k there covered place below =
      let within : place < length ps = rw (length-set ps k (row_grown (row_at ps k))) at below in
      ⊎_elim
      (λ (same : place ≡ k). record {
        there = (covered place within).there;
        covers = rw (same, get_or-set_same ps k (row_grown (row_at ps k)) None there) (grown_covered (summary_at level (at k)) (row_at ps k) (covered k there).covers);
      })
      (λ (apart : place ≢ k). record {
        there = (covered place within).there;
        covers = rw (get_or-set_other ps k place (row_grown (row_at ps k)) None apart) (covered place within).covers;
      })
      (cases_eq place k)

  -- another stands at a place: all but that one are covered
  pub covered_but : (k : ℕ) (row : Option Row) → AreCovered → (place : ℕ) → place < length (slice_set ps k row) → place ≢ k → Covers (summary_at level (at place)) (row_at (slice_set ps k row) place)
  covered_but k row covered place below apart =
      let within : place < length ps = rw (length-set ps k row) at below in
      rw (get_or-set_other ps k place row None apart) (covered place within).covers

  -- one summary is brought up to date
  pub covered_set : (k : ℕ) (s : Summary) → ((place : ℕ) → place < length ps → at place < length level) → ((place : ℕ) → place < length ps → place ≢ k → Covers (summary_at level (at place)) (row_at ps place)) →
      ((place : ℕ) → place < length ps → at place ≡ at k → Covers s (row_at ps place)) → (place : ℕ) → place < length ps → IsCovered (slice_set level (at k) s) (at place) (row_at ps place)
  covered_set k s there but mine place below =
      ⊎_elim
      (λ (same : at place ≡ at k). record {
        there = rw (length-set level (at k) s) (there place below);
        covers = rw (same, get_or-set_same level (at k) s _ (subst (λ (i : ℕ). i < length level) same (there place below))) (mine place below same);
      })
      (λ (apart : at place ≢ at k). record {
        there = rw (length-set level (at k) s) (there place below);
        covers = rw (get_or-set_other level (at k) (at place) s _ apart) (but place below (λ e. apart (ap at e)));
      })
      (cases_eq (at place) (at k))

-- ---- numbers of summaries

pub by_256 : (place : ℕ) → place / 16 / 16 ≡ place / 256
by_256 place = omega arith

pub by_4096 : (place : ℕ) → place / 256 / 16 ≡ place / 4096
by_4096 place = omega arith

-- ---- all levels

pub levels_grown : (levels : Levels) (ps : List (Option Row)) (k : ℕ) → k < length ps → AreLevels levels ps → AreLevels levels (slice_set ps k (row_grown (row_at ps k)))
levels_grown levels ps k there are = record {
  small = covered_grown (λ place. place / 16) levels.small.items ps k there are.small;
  middle = covered_grown (λ place. place / 256) levels.middle.items ps k there are.middle;
  large = covered_grown (λ place. place / 4096) levels.large.items ps k there are.large;
}

pub levels_there : (levels : Levels) (ps : List (Option Row)) (place : ℕ) → AreLevels levels ps → place < length ps → IsThere levels place
levels_there levels ps place are below = record { small = (are.small place below).there; middle = (are.middle place below).there; large = (are.large place below).there }

pub levels_but : (levels : Levels) (ps : List (Option Row)) (k : ℕ) (row : Option Row) → AreLevels levels ps → AreLevelsBut levels (slice_set ps k row) k
levels_but levels ps k row are = record {
  there = λ place below. levels_there levels ps place are (rw (length-set ps k row) at below);
  small = covered_but (λ place. place / 16) levels.small.items ps k row are.small;
  middle = covered_but (λ place. place / 256) levels.middle.items ps k row are.middle;
  large = covered_but (λ place. place / 4096) levels.large.items ps k row are.large;
}

-- ---- a level over the one below

pub covered_above : (below : List Summary) (s : Summary) (i n : ℕ) (row : Option Row) → ((other : ℕ) → other < length below → other / 16 ≡ n → Includes s (summary_at below other)) → i / 16 ≡ n → IsCovered below i row → Covers s row
covered_above below s i n row includes its covered = includes_covers s (summary_at below i) row (includes i covered.there its) covered.covers

pub record AreSummaries (s m l : List Summary) (ps : List (Option Row)) : Type 0 where
  pub small : (place : ℕ) → place < length ps → IsCovered s (place / 16) (row_at ps place)
  pub middle : (place : ℕ) → place < length ps → IsCovered m (place / 256) (row_at ps place)
  pub large : (place : ℕ) → place < length ps → IsCovered l (place / 4096) (row_at ps place)

pub levels_renewed : (levels : Levels) (ps : List (Option Row)) (k : ℕ) (s m l : Summary) → AreLevelsBut levels ps k →
    ((place : ℕ) → place < length ps → place / 16 ≡ k / 16 → Covers s (row_at ps place)) →
    ((other : ℕ) → other < length (slice_set levels.small.items (k / 16) s) → other / 16 ≡ k / 256 → Includes m (summary_at (slice_set levels.small.items (k / 16) s) other)) →
    ((other : ℕ) → other < length (slice_set levels.middle.items (k / 256) m) → other / 16 ≡ k / 4096 → Includes l (summary_at (slice_set levels.middle.items (k / 256) m) other)) →
    AreSummaries (slice_set levels.small.items (k / 16) s) (slice_set levels.middle.items (k / 256) m) (slice_set levels.large.items (k / 4096) l) ps
levels_renewed levels ps k s m l but mine_small mine_middle mine_large =
    let smalls : (place : ℕ) → place < length ps → IsCovered (slice_set levels.small.items (k / 16) s) (place / 16) (row_at ps place) =
    covered_set (λ place. place / 16) levels.small.items ps k s (λ place below. (but.there place below).small) but.small mine_small in
    let middles : (place : ℕ) → place < length ps → IsCovered (slice_set levels.middle.items (k / 256) m) (place / 256) (row_at ps place) =
    covered_set (λ place. place / 256) levels.middle.items ps k m (λ place below. (but.there place below).middle) but.middle
    (λ place below same. covered_above (slice_set levels.small.items (k / 16) s) m (place / 16) (k / 256) (row_at ps place) mine_middle (by_256 place ∙ same) (smalls place below)) in
    record {
      small = smalls;
      middle = middles;
      large = covered_set (λ place. place / 4096) levels.large.items ps k l (λ place below. (but.there place below).large) but.large
          (λ place below same. covered_above (slice_set levels.middle.items (k / 256) m) l (place / 256) (k / 4096) (row_at ps place) mine_large (by_4096 place ∙ same) (middles place below));
    }

covered_all : (below level : List Summary) (old i n : ℕ) (row : Option Row) → ((other : ℕ) → other < length below → other / 16 < old → Includes (summary_at level (other / 16)) (summary_at below other)) → length level ≡ old → i / 16 ≡ n → n < old →
    IsCovered below i row → IsCovered level n row
covered_all below level old i n row includes long is there covered =
    let its : i / 16 < old = omega arith in
    record {
      there = omega arith;
      covers = subst (λ (k : ℕ). Covers (summary_at level k) row) is (includes_covers (summary_at level (i / 16)) (summary_at below i) row (includes i covered.there its) covered.covers);
    }

pub levels_all : (levels : Levels) (ps : List (Option Row)) (s m l : List Summary) → ((place : ℕ) → place < length ps → IsThere levels place) →
    length s ≡ length levels.small.items → length m ≡ length levels.middle.items → length l ≡ length levels.large.items →
    ((place : ℕ) → place < length ps → place / 16 < length levels.small.items → Covers (summary_at s (place / 16)) (row_at ps place)) →
    ((other : ℕ) → other < length s → other / 16 < length levels.middle.items → Includes (summary_at m (other / 16)) (summary_at s other)) →
    ((other : ℕ) → other < length m → other / 16 < length levels.large.items → Includes (summary_at l (other / 16)) (summary_at m other)) →
    AreSummaries s m l ps
levels_all levels ps s m l there long_s long_m long_l each_s each_m each_l =
    let smalls : (place : ℕ) → place < length ps → IsCovered s (place / 16) (row_at ps place) =
    λ place below. record { there = rw long_s (there place below).small; covers = each_s place below (there place below).small } in
    let middles : (place : ℕ) → place < length ps → IsCovered m (place / 256) (row_at ps place) =
    λ place below. covered_all s m (length levels.middle.items) (place / 16) (place / 256) (row_at ps place) each_m long_m (by_256 place) (there place below).middle (smalls place below) in
    record {
      small = smalls;
      middle = middles;
      large = λ place below. covered_all m l (length levels.large.items) (place / 256) (place / 4096) (row_at ps place) each_l long_l (by_4096 place) (there place below).large (middles place below);
    }

-- ---- places that are passed

pub block_16 : (place other : ℕ) → place % 16 ≡ 0 → place ≤ other → other < place + 16 → other / 16 ≡ place / 16
block_16 place other start from to = omega arith

pub block_256 : (place other : ℕ) → place % 256 ≡ 0 → place ≤ other → other < place + 256 → other / 256 ≡ place / 256
block_256 place other start from to = omega arith

pub passed_block : (bounds : Bounds) (best : Option Client) (level : List Summary) (i n : ℕ) (row : Option Row) → may_help bounds best (summary_at level i) ≡ false → n ≡ i → IsCovered level n row → met_with bounds best row ≡ best
passed_block bounds best level i n row none same covered = no_help bounds best (summary_at level i) row none (subst (λ (k : ℕ). Covers (summary_at level k) row) same covered.covers)
