-- What was seen of the members of tables.
use Rattle.cycle_break.proofs.Common.{◌≡◌, ℕ, zero, suc, ◌+◌, ◌<◌, ◌≤◌, Bool, true, false, not, find, slice_get, List, [], ◌∷◌, length, set, get_or, refl, ◌∙◌, arith, get_or-set_same, get_or-set_other, by_eq, is_marked, AreMarkedBelow, IsSeen}

-- ---- the first that isn't marked

pub first-here : (visited : List Bool) (cs : List ℕ) (k : ℕ) → AreMarkedBelow visited cs k → k < length cs → is_marked visited (get_or cs k 0) ≡ false →
    slice_get cs k ≡ find (λ f. not (is_marked visited f)) cs
first-here visited [] k marked within out = absurd (omega arith)
first-here visited (c ∷ cs) zero marked within out = rw out refl
first-here visited (c ∷ cs) (suc k) marked within out =
    let first : is_marked visited c ≡ true = marked 0 (omega arith) (omega arith) in
    rw first (first-here visited cs k (λ i before inside. marked (suc i) (omega arith) (omega arith)) (omega arith) out)

pub first-none : (visited : List Bool) (cs : List ℕ) (k : ℕ) → AreMarkedBelow visited cs k → length cs ≤ k → slice_get cs k ≡ find (λ f. not (is_marked visited f)) cs
first-none visited [] k marked all = refl
first-none visited (c ∷ cs) zero marked all = absurd (omega arith)
first-none visited (c ∷ cs) (suc k) marked all =
    let first : is_marked visited c ≡ true = marked 0 (omega arith) (omega arith) in
    rw first (first-none visited cs k (λ i before inside. marked (suc i) (omega arith) (omega arith)) (omega arith))

pub marked-more : (visited : List Bool) (cs : List ℕ) (k : ℕ) → AreMarkedBelow visited cs k → is_marked visited (get_or cs k 0) ≡ true → AreMarkedBelow visited cs (k + 1)
marked-more visited cs k marked here i before inside = by_eq i k (λ same. rw same here) (λ ne. marked i (omega (arith, ne)) inside)

-- ---- what was seen of the tables

pub mark-stays : (visited : List Bool) (g f : ℕ) → g < length visited → is_marked visited f ≡ true → is_marked (set visited g true) f ≡ true
mark-stays visited g f within was =
    by_eq f g (λ same. rw same (get_or-set_same visited g true false within)) (λ ne. get_or-set_other visited g f true false ne ∙ was)

pub IsSeen-mark : (tables : List (List ℕ)) (visited : List Bool) (seen : List ℕ) (g : ℕ) → g < length visited → IsSeen tables visited seen → IsSeen tables (set visited g true) seen
IsSeen-mark tables visited seen g within was = record {
  each = was.each;
  marks = λ table place before inside. mark-stays visited g _ within (was.marks table place before inside);
}

-- a table that has a member is one of the tables
pub table-within : (tables : List (List ℕ)) (table : ℕ) → 0 < length (get_or tables table []) → table < length tables
table-within [] table some = absurd (omega arith)
table-within (members ∷ tables) zero some = omega arith
table-within (members ∷ tables) (suc table) some = let rest = table-within tables table some in omega (arith, rest)
