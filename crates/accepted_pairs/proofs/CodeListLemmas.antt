-- The lists of a valid pair's code.
use Rattle.accepted_pairs.proofs.Common.{◌≡◌, ℕ, ◌+◌, ◌-◌, ◌*◌, ◌/◌, ◌%◌, ◌<◌, ◌≤◌, ◌⊎◌, ◌++◌, List, [], ◌∷◌, length, arith, refl, sym, ◌∙◌, subst, ap, inl, inr, slice_index, cases_lt, length_push, FlatCode, Image, Certificate, fact_at, IsValid, AreWordsBefore, AreBefore, NamesFunctions, StandsIn, pushed}
use Rattle.std.specs.Global.{Vec}
use Rattle.certificate_rules.specs.Ranges.{AreApart}

-- ---- what validity says of the functions

pub as_many : (code : FlatCode) (image : Image) (certificate : Certificate) → IsValid code image certificate → length certificate.functions ≡ length code.functions
as_many code image certificate valid = (((valid.holds 1 0 3).v1 refl).functions refl).0

pub lies_inside : (code : FlatCode) (image : Image) (certificate : Certificate) (f : ℕ) → IsValid code image certificate → f < length code.functions →
    ((fact_at certificate f).entry % 4 ≡ 0) × (0x1008 ≤ (fact_at certificate f).entry) × ((fact_at certificate f).entry + 4 * (fact_at certificate f).words ≤ 0x1000 + 4 * length image.code)
lies_inside code image certificate f valid there = ((valid.holds 2 f 1).v2 refl).inside refl there

-- ---- the functions of the words

-- a function among n + 1 is one of the first n, or the last
last_or : (y n : ℕ) → y < n + 1 → (y < n) ⊎ (y ≡ n)
last_or y n lt = elim (cases_lt y n) [ inl h ↦ inl h | inr h ↦ inr (omega arith) ]

-- one function more
pub named_more : (code : FlatCode) (image : Image) (certificate : Certificate) (f start : ℕ) (old new : List ℕ) → IsValid code image certificate → f < length code.functions →
    (fact_at certificate f).entry ≡ 0x1000 + 4 * start → NamesFunctions certificate f old →
    ((word : ℕ) → start ≤ word → word < start + (fact_at certificate f).words → slice_index new word ≡ f) →
    ((word : ℕ) → word < start → slice_index new word ≡ slice_index old word) →
    ((word : ℕ) → start + (fact_at certificate f).words ≤ word → slice_index new word ≡ slice_index old word) →
    NamesFunctions certificate (f + 1) new
named_more code image certificate f start old new valid there entry names run before behind = record {
  named = λ g word lt stands. elim (last_or g f lt) [
    | inl below ↦ kept g word below stands (cases_lt word start) (cases_lt word (start + (fact_at certificate f).words))
    | inr is ↦ written g word is stands
  ];
}
  where
    kept : (g word : ℕ) → g < f → StandsIn certificate (0x1000 + 4 * word) g → (word < start) ⊎ (start ≤ word) →
        (word < start + (fact_at certificate f).words) ⊎ (start + (fact_at certificate f).words ≤ word) → slice_index new word ≡ g
    kept g word below stands (inl low) second = before word low ∙ names.named g word below stands
    kept g word below stands (inr above) (inr past) = behind word past ∙ names.named g word below stands
    kept g word below stands (inr above) (inl within) =
        let apart : AreApart (fact_at certificate f).entry (fact_at certificate f).words (fact_at certificate g).entry (fact_at certificate g).words = ((valid.holds 2 f 3).v2 refl).apart refl there g below in
        absurd (apart.no_byte (0x1000 + 4 * word) (omega arith, omega arith) (stands.low, stands.high))

    written : (g word : ℕ) → g ≡ f → StandsIn certificate (0x1000 + 4 * word) g → slice_index new word ≡ g
    written g word is stands =
        let here : StandsIn certificate (0x1000 + 4 * word) f = subst (λ (h : ℕ). StandsIn certificate (0x1000 + 4 * word) h) is stands in
        run word (omega (arith, here.low, entry)) (omega (arith, here.high, entry)) ∙ sym is

-- ---- the words before each operation

pub before_one_more : (code : FlatCode) (certificate : Certificate) (n : ℕ) (old new : List (Vec ℕ)) (before : Vec ℕ) → AreBefore code certificate n old → new ≡ old ++ (before ∷ []) →
    AreWordsBefore code certificate n before.items → AreBefore code certificate (n + 1) new
before_one_more code certificate n old new before are is words = subst (AreBefore code certificate (n + 1)) (sym is) (record {
  count = more old before n are.count;
  each = λ f list there. elim (pushed old before list f there) [
    | inl h ↦ are.each f list h
    | inr h ↦ subst (λ (l : Vec ℕ). AreWordsBefore code certificate f l.items) h.1
        (subst (λ (g : ℕ). AreWordsBefore code certificate g before.items) (sym (h.0 ∙ are.count)) words)
  ];
})
  where
    more : (xs : List (Vec ℕ)) (x : Vec ℕ) (m : ℕ) → length xs ≡ m → length (xs ++ (x ∷ [])) ≡ m + 1
    more xs x m e = length_push xs x ∙ ap (λ k. k + 1) e

-- ---- an address among the words of a function

pub place_in_code : (code : FlatCode) (image : Image) (certificate : Certificate) (address f : ℕ) → IsValid code image certificate → StandsIn certificate address f →
    (0x1000 ≤ address) × ((address - 0x1000) / 4 < length image.code)
place_in_code code image certificate address f valid stands =
    let inside = lies_inside code image certificate f valid (omega (arith, stands.there, as_many code image certificate valid)) in
    (omega (arith, inside.1, stands.low), omega (arith, inside.1, inside.2, stands.low, stands.high))

pub named_at : (code : FlatCode) (image : Image) (certificate : Certificate) (functions : List ℕ) (address f : ℕ) → IsValid code image certificate →
    NamesFunctions certificate (length certificate.functions) functions → StandsIn certificate address f → StandsIn certificate address (slice_index functions ((address - 0x1000) / 4))
named_at code image certificate functions address f valid names stands =
    let inside = lies_inside code image certificate f valid (omega (arith, stands.there, as_many code image certificate valid)) in
    let word : ℕ = (address - 0x1000) / 4 in
    let whole : StandsIn certificate (0x1000 + 4 * word) f = record {
      there = stands.there;
      low = omega (arith, inside.0, inside.1, stands.low);
      high = omega (arith, inside.1, stands.low, stands.high);
    } in
    subst (StandsIn certificate address) (sym (names.named f word stands.there whole)) stands
