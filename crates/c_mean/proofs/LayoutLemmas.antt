-- Rows that are cut from words one after another.
use Rattle.std.specs.Prelude.{slice_index_or}
use Rattle.std.proofs.lemmas.List.{length-take, get_or-map}
use Rattle.c_mean.proofs.Common.{◌≡◌, ℕ, zero, suc, ◌+◌, ◌<◌, ◌≤◌, List, [], ◌∷◌, length, take, drop, sym, ap, ◌∙◌, arith, get_or, refl, true, false, sum, nat_lt, slice_index, Ok, Err, lt-ltb, le-ltb, length-take-le, length-drop, length-map, get_or-take, get_or-drop, TrapKind, rows_of, widths_of, in_range}
use Rattle.std.proofs.lemmas.List.Sums.{sum_by-cons, sum_by-take-le, sum_by_more_le, sum_by_more}
use Rattle.cap_word.specs.Rows.{width, word_at}
use Rattle.c_tree.specs.declared.facts.GlobalFact.{GlobalFact}

nat_lt-true : (a b : ℕ) → a < b → nat_lt a b ≡ true
nat_lt-true a b h = lt-ltb a b h

nat_lt-false : (a b : ℕ) → b ≤ a → nat_lt a b ≡ false
nat_lt-false a b h = le-ltb a b h

pub sum-cons : (n : ℕ) (ns : List ℕ) → sum (n ∷ ns) ≡ n + sum ns
sum-cons n ns = sum_by-cons (λ x. x) n ns

pub sum-take-le : (ns : List ℕ) (k : ℕ) → sum (take k ns) ≤ sum ns
sum-take-le ns k = sum_by-take-le (λ x. x) ns k

-- a front and the next number add up to no more than all
pub sum_next-le : (ns : List ℕ) (k : ℕ) → k < length ns → sum (take k ns) + slice_index ns k ≤ sum ns
sum_next-le ns k h = sum_by_more_le (λ x. x) ns k 0 h

pub sum_next : (ns : List ℕ) (k : ℕ) → k < length ns → sum (take (k + 1) ns) ≡ sum (take k ns) + slice_index ns k
sum_next ns k h = sum_by_more (λ x. x) ns k 0 h

pub width_is : (ns words : List ℕ) (x : ℕ) → length words ≡ sum ns → x < length ns → width (rows_of ns words) x ≡ slice_index ns x
width_is [] words x e h = absurd (omega arith)
width_is (n ∷ ns) words zero e h = length-take-le n words (omega (arith, sum-cons n ns))
width_is (n ∷ ns) words (suc x) e h = width_is ns (drop n words) x (omega (arith, sum-cons n ns, length-drop n words)) (omega arith)

pub word_is : (ns words : List ℕ) (x i : ℕ) → i < slice_index ns x → word_at (rows_of ns words) x i ≡ slice_index words (sum (take x ns) + i)
word_is [] words x i h = absurd (omega arith)
word_is (n ∷ ns) words zero i h = get_or-take n words i 0 h ∙ ap (λ k. get_or words k 0) (omega arith)
word_is (n ∷ ns) words (suc x) i h =
    let e : n + (sum (take x ns) + i) ≡ sum (n ∷ take x ns) + i = omega (arith, sum-cons n (take x ns)) in
    word_is ns (drop n words) x i h ∙ (get_or-drop n words (sum (take x ns) + i) 0 ∙ ap (λ k. get_or words k 0) e)

-- ---- words by the place at which a name's begin

pub scalar_is : (ns words : List ℕ) (x start : ℕ) → slice_index ns x ≡ 1 → start ≡ sum (take x ns) → slice_index words start ≡ word_at (rows_of ns words) x 0
scalar_is ns words x start one e =
    let h : 0 < slice_index ns x = omega arith in
    let at : start ≡ sum (take x ns) + 0 = omega arith in
    ap (λ k. slice_index words k) at ∙ sym (word_is ns words x 0 h)

pub element_is : (ns words : List ℕ) (a i start size : ℕ) → length words ≡ sum ns → a < length ns → size ≡ slice_index ns a → start ≡ sum (take a ns) → i < size → Ok (slice_index words (start + i)) ≡ in_range (nat_lt i (width (rows_of ns words) a)) (word_at (rows_of ns words) a i)
element_is ns words a i start size e there s f h =
    let within : i < slice_index ns a = omega arith in
    rw (width_is ns words a e there, nat_lt-true i (slice_index ns a) within, word_is ns words a i within, f) refl

pub element_beyond : (ns words : List ℕ) (a i size word : ℕ) → length words ≡ sum ns → a < length ns → size ≡ slice_index ns a → size ≤ i → Err TrapKind.Index ≡ in_range (nat_lt i (width (rows_of ns words) a)) word
element_beyond ns words a i size word e there s h = rw (width_is ns words a e there, nat_lt-false i (slice_index ns a) (omega arith)) refl

-- ---- facts of globals

pub widths_length : (facts : List GlobalFact) → length (widths_of facts) ≡ length facts
widths_length facts = length-map facts (λ (f : GlobalFact). f.words)

pub width_at : (facts : List GlobalFact) (g : ℕ) (d : GlobalFact) → g < length facts → slice_index (widths_of facts) g ≡ (slice_index_or facts g d).words
width_at facts g d h = get_or-map (λ (f : GlobalFact). f.words) facts g d 0 h

-- a global among the first ones
pub width_front : (facts : List GlobalFact) (n g : ℕ) (d : GlobalFact) → g < length (take n facts) → (slice_index_or (take n facts) g d).words ≡ slice_index (widths_of facts) g
width_front facts n g d h =
    let l = length-take n facts in
    let front : g < n = omega arith in
    let all : g < length facts = omega arith in
    ap (λ (f : GlobalFact). f.words) (get_or-take n facts g d front) ∙ sym (width_at facts g d all)

pub global_next-le : (facts : List GlobalFact) (n g : ℕ) (d : GlobalFact) → g < length (take n facts) → sum (take g (widths_of facts)) + (slice_index_or (take n facts) g d).words ≤ sum (widths_of facts)
global_next-le facts n g d h =
    let l = length-take n facts in
    let all : g < length (widths_of facts) = omega (arith, widths_length facts) in
    omega (arith, width_front facts n g d h, sum_next-le (widths_of facts) g all)

pub global_next : (facts : List GlobalFact) (n g : ℕ) (d : GlobalFact) → g < length (take n facts) → sum (take (g + 1) (widths_of facts)) ≡ sum (take g (widths_of facts)) + (slice_index_or (take n facts) g d).words
global_next facts n g d h =
    let l = length-take n facts in
    let all : g < length (widths_of facts) = omega (arith, widths_length facts) in
    omega (arith, width_front facts n g d h, sum_next (widths_of facts) g all)
