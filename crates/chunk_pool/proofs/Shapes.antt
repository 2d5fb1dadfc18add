-- Where chunks stand in a shape: one behind another, those of the first size in front.
use Rattle.chunk_pool.proofs.Common.{◌≡◌, ℕ, ◌+◌, ◌-◌, ◌*◌, ◌/◌, ◌%◌, ◌<◌, ◌≤◌, inl, inr, sym, ◌∙◌, ap, arith, Bool, cond, cases_lt, lt-ltb, le-ltb, row_fits, Shape, words_in, start_in, size_in, first_size, IsShape}

pub words_in-first : (s : Shape) (id : ℕ) → id < s.first_count → words_in s id ≡ s.words
unfolding words_in
words_in-first s id below = ap (λ (b : Bool). cond b s.words s.extra_words) (lt-ltb id s.first_count below)

pub words_in-extra : (s : Shape) (id : ℕ) → s.first_count ≤ id → words_in s id ≡ s.extra_words
unfolding words_in
words_in-extra s id from = ap (λ (b : Bool). cond b s.words s.extra_words) (le-ltb id s.first_count from)

pub start_in-first : (s : Shape) (id : ℕ) → id < s.first_count → start_in s id ≡ id * s.words
unfolding start_in
start_in-first s id below =
    ap (λ (b : Bool). cond b (id * s.words) (first_size s + (id - s.first_count) * s.extra_words)) (lt-ltb id s.first_count below)

pub start_in-extra : (s : Shape) (id : ℕ) → s.first_count ≤ id → start_in s id ≡ first_size s + (id - s.first_count) * s.extra_words
unfolding start_in
start_in-extra s id from =
    ap (λ (b : Bool). cond b (id * s.words) (first_size s + (id - s.first_count) * s.extra_words)) (le-ltb id s.first_count from)

-- a chunk ends where or before each later one starts
pub start-before : (s : Shape) (a b : ℕ) → a < b → start_in s a + words_in s a ≤ start_in s b
start-before s a b less = elim (cases_lt b s.first_count) [
  | inl b_first ↦
      let a_first : a < s.first_count = omega arith in
      let fits : a * s.words + s.words ≤ b * s.words = row_fits a s.words b s.words less (omega arith) in
      omega (arith, fits, start_in-first s a a_first, words_in-first s a a_first, start_in-first s b b_first)
  | inr b_extra ↦ elim (cases_lt a s.first_count) [
    | inl a_first ↦
        let fits : a * s.words + s.words ≤ s.first_count * s.words = row_fits a s.words s.first_count s.words a_first (omega arith) in
        omega (arith, fits, start_in-first s a a_first, words_in-first s a a_first, start_in-extra s b b_extra)
    | inr a_extra ↦
        let before : a - s.first_count < b - s.first_count = omega arith in
        let fits : (a - s.first_count) * s.extra_words + s.extra_words ≤ (b - s.first_count) * s.extra_words =
        row_fits (a - s.first_count) s.extra_words (b - s.first_count) s.extra_words before (omega arith) in
        omega (arith, fits, start_in-extra s a a_extra, words_in-extra s a a_extra, start_in-extra s b b_extra)
  ]
]

-- all chunks lie within the words of all
pub start_fits : (s : Shape) (id : ℕ) → IsShape s → id < s.count → start_in s id + words_in s id ≤ size_in s
start_fits s id sound within = omega (arith, start-before s id s.count within, start_in-extra s s.count sound.first_within)

-- what holds of both sizes holds of each chunk's words
of_words : (s : Shape) (P : ℕ → Type 0) (id : ℕ) → P s.words → P s.extra_words → P (words_in s id)
of_words s P id first extra = elim (cases_lt id s.first_count) [
  | inl below ↦ Rattle.std.proofs.Common.subst P (sym (words_in-first s id below)) first
  | inr from ↦ Rattle.std.proofs.Common.subst P (sym (words_in-extra s id from)) extra
]

pub words_in-some : (s : Shape) (id : ℕ) → IsShape s → 8 ≤ words_in s id
words_in-some s id sound = of_words s (λ (n : ℕ). 8 ≤ n) id (omega (arith, sound.header_fits)) sound.extra_header_fits

pub words_in-most : (s : Shape) (id : ℕ) → IsShape s → words_in s id ≤ 16384
words_in-most s id sound = of_words s (λ (n : ℕ). n ≤ 16384) id sound.words_bounded sound.extra_words_bounded

pub words_in-aligned : (s : Shape) (id : ℕ) → IsShape s → words_in s id % 4 ≡ 0
words_in-aligned s id sound = of_words s (λ (n : ℕ). n % 4 ≡ 0) id sound.aligned sound.extra_aligned

-- a multiple of 4 words
fours : (n k : ℕ) → k % 4 ≡ 0 → (q : ℕ) × (n * k ≡ q * 4)
fours n k aligned =
    let quarter = k / 4 in
    let words : k ≡ 4 * quarter = omega (arith, aligned) in
    (n * quarter, ap (λ (m : ℕ). n * m) words ∙ (let e : n * (4 * quarter) ≡ n * quarter * 4 = omega arith in e))

pub start_in-aligned : (s : Shape) (id : ℕ) → IsShape s → (q : ℕ) × (start_in s id ≡ q * 4)
start_in-aligned s id sound = elim (cases_lt id s.first_count) [
  | inl below ↦ let row = fours id s.words sound.aligned in (row.0, start_in-first s id below ∙ row.1)
  | inr from ↦
      let first = fours s.first_count s.words sound.aligned in
      let row = fours (id - s.first_count) s.extra_words sound.extra_aligned in
      (first.0 + row.0, start_in-extra s id from ∙ (let e : first_size s + (id - s.first_count) * s.extra_words ≡ (first.0 + row.0) * 4 = omega (arith, first.1, row.1) in e))
]
