-- Places, and the tree above their blocks.
use Rattle.ready_tree.proofs.Common.{◌≡◌, ℕ, zero, suc, ◌+◌, ◌-◌, ◌*◌, ◌/◌, ◌<◌, ◌≤◌, Bool, true, false, Option, Some, None, List, [], ◌∷◌, ◌++◌, length, take, nat_lt, cond, filter, position, refl, ◌∙◌, sym, ap, arith, slice_set, length_push, take_more, length-append, nat_tests, Entry, Needs, is_some_met, doubled, node_at, entries_of, place_at, is_taken, Covers, CoversAll, IsAbove}
use Rattle.std.proofs.lemmas.List.Sums.{position_or_len_is}
use Rattle.std.specs.List.{position_or_len}
use Rattle.ready_tree.proofs.NextLaws.{unmet_below}
use Rattle.ready_tree.proofs.NodeLaws.{doubled_more}

-- ---- threads at places

pub entries-append : (places more : List (Option Entry)) → entries_of (places ++ more) ≡ entries_of places ++ entries_of more
entries-append [] more = refl
entries-append (None ∷ places) more = entries-append places more
entries-append (Some entry ∷ places) more = ap (λ entries. entry ∷ entries) (entries-append places more)

pub entries_push : (places : List (Option Entry)) (entry : Entry) → entries_of (places ++ Some entry ∷ []) ≡ entries_of places ++ entry ∷ []
entries_push places entry = entries-append places (Some entry ∷ [])

-- no more threads than places
pub entries_most : (places : List (Option Entry)) → length (entries_of places) ≤ length places
entries_most [] = omega arith
entries_most (None ∷ places) = let h : length (entries_of places) ≤ length places = entries_most places in omega arith
entries_most (Some entry ∷ places) = let h : length (entries_of places) ≤ length places = entries_most places in omega arith

-- no more in a front than in all
pub entries_take : (places : List (Option Entry)) (i : ℕ) → length (entries_of (take i places)) ≤ length (entries_of places)
entries_take places zero = omega arith
entries_take [] (suc i) = omega arith
entries_take (None ∷ places) (suc i) = entries_take places i
entries_take (Some entry ∷ places) (suc i) = let h : length (entries_of (take i places)) ≤ length (entries_of places) = entries_take places i in omega arith

-- how many are left when a place is emptied
pub emptied_none : (places : List (Option Entry)) (place : ℕ) → place_at places place ≡ None → length (entries_of (slice_set places place None)) ≡ length (entries_of places)
emptied_none (Some entry ∷ places) zero none = absurd (cc)
emptied_none (None ∷ places) (suc place) none = emptied_none places place none
emptied_none (Some entry ∷ places) (suc place) none = ap suc (emptied_none places place none)
emptied_none _ _ none = refl

pub emptied_some : (places : List (Option Entry)) (place : ℕ) (entry : Entry) → place_at places place ≡ Some entry → suc (length (entries_of (slice_set places place None))) ≡ length (entries_of places)
emptied_some (Some other ∷ places) zero entry some = refl
emptied_some (None ∷ places) (suc place) entry some = emptied_some places place entry some
emptied_some (Some other ∷ places) (suc place) entry some = ap suc (emptied_some places place entry some)
emptied_some _ _ entry some = absurd (cc)

-- ---- gathering

-- the places without the empty ones
pub entries_gathered : (places : List (Option Entry)) → entries_of (filter is_taken places) ≡ entries_of places
entries_gathered [] = refl
entries_gathered (None ∷ places) = entries_gathered places
entries_gathered (Some entry ∷ places) = ap (λ (entries : List Entry). entry ∷ entries) (entries_gathered places)

pub full_gathered : (places : List (Option Entry)) → length (filter is_taken places) ≡ length (entries_of places)
full_gathered [] = refl
full_gathered (None ∷ places) = full_gathered places
full_gathered (Some entry ∷ places) = ap suc (full_gathered places)

-- ---- the first place at which a need is met

pub some_is : (place len : ℕ) → place < len → cond (nat_lt place len) (Some place) None ≡ Some place
some_is place len below = grind (arith, nat_tests)

none_is : (place len : ℕ) → len ≤ place → cond (nat_lt place len) (Some place) None ≡ None
none_is place len past = grind (arith, nat_tests)

pub first_is : (test : Option Entry → Bool) (places : List (Option Entry)) (place : ℕ) → place < length places → ((k : ℕ) → k < place → k < length places → test (place_at places k) ≡ false) →
    test (place_at places place) ≡ true → Some place ≡ position test places
first_is test places place there before here =
    let e : position_or_len test places ≡ place = position_or_len_is test places place None (omega arith) (λ k h. before k h (omega arith)) (λ h. here) in
    sym (ap (λ (k : ℕ). cond (nat_lt k (length places)) (Some k) None) e ∙ some_is place (length places) there)

pub first_none : (test : Option Entry → Bool) (places : List (Option Entry)) → ((k : ℕ) → k < length places → test (place_at places k) ≡ false) → None ≡ position test places
first_none test places none =
    let e : position_or_len test places ≡ length places = position_or_len_is test places (length places) None (omega arith) (λ k h. none k h) (λ h. absurd (omega arith)) in
    sym (ap (λ (k : ℕ). cond (nat_lt k (length places)) (Some k) None) e ∙ none_is (length places) (length places) (omega arith))

-- ---- one thread more

pub entries_more : (places : List (Option Entry)) (i : ℕ) → i < length places → entries_of (take (i + 1) places) ≡ entries_of (take i places) ++ entries_of (place_at places i ∷ [])
entries_more places i there = ap entries_of (take_more places i None there) ∙ entries-append (take i places) (place_at places i ∷ [])

pub pushed : (old mid new : List (Option Entry)) (entry : Entry) → entries_of mid ≡ entries_of old → new ≡ mid ++ Some entry ∷ [] → entries_of new ≡ entries_of old ++ entry ∷ []
pushed old mid new entry same is = ap entries_of is ∙ entries_push mid entry ∙ ap (λ (l : List Entry). l ++ entry ∷ []) same

pub counted : (old mid new : List (Option Entry)) (entry : Entry) (live : ℕ) → live ≡ length (entries_of old) → entries_of mid ≡ entries_of old → new ≡ mid ++ Some entry ∷ [] → live + 1 ≡ length (entries_of new)
counted old mid new entry live count same is =
    let e : length (entries_of new) ≡ length (entries_of old) + 1 = ap length (pushed old mid new entry same is) ∙ length_push (entries_of old) entry in
    omega arith

pub more_full : (places : List (Option Entry)) (i kept now : ℕ) → i < length places → kept ≡ length (entries_of (take i places)) → now ≡ kept + length (entries_of (place_at places i ∷ [])) →
    now ≡ length (entries_of (take (i + 1) places))
more_full places i kept now there full is =
    let e : length (entries_of (take (i + 1) places)) ≡ length (entries_of (take i places)) + length (entries_of (place_at places i ∷ [])) =
    ap length (entries_more places i there) ∙ length-append (entries_of (take i places)) (entries_of (place_at places i ∷ [])) in
    omega arith

-- ---- all threads

-- what covers each place covers each thread
pub covers_entries : (needs : Needs) (places : List (Option Entry)) → ((place : ℕ) → place < length places → Covers needs (place_at places place)) → CoversAll needs (entries_of places)
covers_entries needs [] covers = tt
covers_entries needs (None ∷ places) covers = covers_entries needs places (λ place there. covers (suc place) (omega arith))
covers_entries needs (Some entry ∷ places) covers = (covers 0 (omega arith), covers_entries needs places (λ place there. covers (suc place) (omega arith)))

met_above : (a b : Bool) → (b ≡ false → a ≡ false) → a ≡ true → b ≡ true
met_above a true down met = refl
met_above a false down met = let e : a ≡ false = down refl in absurd (cc)

-- the root covers all
pub root_covers : (nodes : List Needs) (places : List (Option Entry)) → IsAbove nodes places → (place : ℕ) → place < length places → Covers (node_at nodes 1) (place_at places place)
unfolding doubled
root_covers nodes places above place there =
    let level = above.joined.whole.level in
    let leaf = length nodes / 2 + place / 16 in
    let leaves : length nodes / 2 ≡ doubled level.above 1 = level.same in
    let even : length nodes ≡ 2 * (length nodes / 2) = above.joined.whole.even in
    let all : doubled level.above (1 + 1) ≡ 2 * doubled level.above 1 = doubled_more level.above 1 in
    let fits : length places ≤ 16 * (length nodes / 2) = above.fits in
    record {
      met = λ bounds met.
          met_above (is_some_met bounds (node_at nodes leaf)) (is_some_met bounds (node_at nodes 1))
          (unmet_below bounds nodes above.joined level.above 1 leaf (omega arith) (omega arith) (omega arith) (omega arith))
          ((above.covers place there).met bounds met);
    }
