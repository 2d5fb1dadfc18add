-- Words and their bytes.
use Rattle.std.specs.Prelude.{All}
use Rattle.std.specs.Int.{w32, from_le_bytes}
use Rattle.std.proofs.Math.Seq.{take-add}
use Rattle.stack_image.proofs.Common.{◌≡◌, ◌∙◌, ℕ, zero, suc, ◌+◌, ◌*◌, ◌^◌, ◌<◌, ◌≤◌, List, [], ◌∷◌, ◌++◌, length, get_or, take, drop, refl, sym, ap, inl, inr, append_assoc, arith, cases_lt, append-nil, take-append-drop, take_at, drop_at, take_more, drop_more, take_all, drop-drop, length-append, length-take, length-take-le, length-drop, get_or-drop, get_or-take, get_or_past, word, words, number_at, words_of, behind}
use Rattle.std.proofs.lemmas.List.Concat.{flat_map-append}
use Rattle.std.proofs.lemmas.List.Elements.{All-nil, All-push}
use Rattle.std.proofs.lemmas.Nat.{le_bytes_4, from_le_bytes-to_le_bytes_4}

abbrev pub IsBytes : List ℕ → Type 0
IsBytes bytes = (i : ℕ) → get_or bytes i 0 < 256

abbrev pub AreWords : List ℕ → Type 0
AreWords ws = All (λ w. w < 2 ^ 32) ws

pub IsBytes-drop : (n : ℕ) (bytes : List ℕ) → IsBytes bytes → IsBytes (drop n bytes)
IsBytes-drop n bytes fits i = rw get_or-drop (fits (n + i))

IsBytes-take : (n : ℕ) (bytes : List ℕ) → IsBytes bytes → IsBytes (take n bytes)
IsBytes-take n bytes fits i =
    elim (cases_lt i n) [
      | inl lt ↦ rw (get_or-take n bytes i 0 lt) (fits i)
      | inr le ↦ rw (get_or_past (take n bytes) i 0 (omega (arith, length-take n bytes))) (omega arith)
    ]

-- ---- one word

-- four bytes are the spelling of the word that they hold
pub word-number_at : (bytes : List ℕ) (at : ℕ) → IsBytes bytes → at + 4 ≤ length bytes → word (number_at bytes at) ≡ take 4 (drop at bytes)
unfolding number_at
word-number_at bytes at fits long =
    le_bytes_4 (take 4 (drop at bytes)) _ (omega (arith, length-take 4 (drop at bytes), length-drop at bytes))
    (IsBytes-take 4 (drop at bytes) (IsBytes-drop at bytes fits)) refl

pub number_at-below : (bytes : List ℕ) (at : ℕ) → IsBytes bytes → number_at bytes at < 2 ^ 32
unfolding number_at
number_at-below bytes at fits =
    let four = IsBytes-take 4 (drop at bytes) (IsBytes-drop at bytes fits) in
    omega (arith, four 0, four 1, four 2, four 3)

-- a word that is spelled behind a front is read there
pub number_at-word : (front : List ℕ) (n : ℕ) (rest : List ℕ) (at : ℕ) → length front ≡ at → n < 2 ^ 32 → number_at (front ++ (word n ++ rest)) at ≡ n
unfolding number_at
number_at-word front n rest at len below =
    ap (λ (b : List ℕ). from_le_bytes w32 (take 4 b)) (drop_at front (word n ++ rest) at len)
    ∙ ap (λ (b : List ℕ). from_le_bytes w32 b) (take_at (word n) rest 4 refl)
    ∙ from_le_bytes-to_le_bytes_4 n below

pub number_at-drop : (k : ℕ) (bytes : List ℕ) (at : ℕ) → number_at (drop k bytes) at ≡ number_at bytes (k + at)
unfolding number_at
number_at-drop k bytes at = ap (λ (b : List ℕ). from_le_bytes w32 (take 4 b)) (drop-drop at k bytes)

-- ---- a row of words

pub length-words : (ws : List ℕ) → length (words ws) ≡ 4 * length ws
length-words [] = refl
length-words (w ∷ ws) = omega (arith, length-append (word w) (words ws), length-words ws)

pub length-words_of : (n : ℕ) (bytes : List ℕ) → length (words_of n bytes) ≡ n
length-words_of zero bytes = refl
length-words_of (suc n) bytes = omega (arith, length-append (words_of n bytes) (number_at bytes (4 * n) ∷ []), length-words_of n bytes)

pub AreWords-words_of : (n : ℕ) (bytes : List ℕ) → IsBytes bytes → AreWords (words_of n bytes)
AreWords-words_of zero bytes fits = All-nil (λ w. w < 2 ^ 32)
AreWords-words_of (suc n) bytes fits =
    All-push (λ w. w < 2 ^ 32) (words_of n bytes) (number_at bytes (4 * n)) (AreWords-words_of n bytes fits) (number_at-below bytes (4 * n) fits)

words-push : (ws : List ℕ) (w : ℕ) → words (ws ++ w ∷ []) ≡ words ws ++ word w
words-push ws w = flat_map-append word ws (w ∷ []) ∙ ap (λ (b : List ℕ). words ws ++ b) (append-nil (word w))

words-words_of : (n : ℕ) (bytes : List ℕ) → IsBytes bytes → 4 * n ≤ length bytes → words (words_of n bytes) ≡ take (4 * n) bytes
words-words_of zero bytes fits long = refl
words-words_of (suc n) bytes fits long =
    let once : words (words_of n bytes) ≡ take (4 * n) bytes = words-words_of n bytes fits (omega arith) in
    let last : word (number_at bytes (4 * n)) ≡ take 4 (drop (4 * n) bytes) = word-number_at bytes (4 * n) fits (omega arith) in
    let more : 4 * n + 4 ≡ 4 * suc n = omega arith in
    words-push (words_of n bytes) (number_at bytes (4 * n))
    ∙ ap (λ (b : List ℕ). b ++ word (number_at bytes (4 * n))) once
    ∙ ap (λ (b : List ℕ). take (4 * n) bytes ++ b) last
    ∙ sym (take-add (4 * n) 4 bytes)
    ∙ ap (λ (k : ℕ). take k bytes) more

-- bytes are the words that they hold, and what is behind
pub words_then_behind : (n : ℕ) (bytes : List ℕ) → IsBytes bytes → 4 * n ≤ length bytes → bytes ≡ words (words_of n bytes) ++ behind n bytes
words_then_behind n bytes fits long =
    sym (take-append-drop (4 * n) bytes) ∙ ap (λ (b : List ℕ). b ++ behind n bytes) (sym (words-words_of n bytes fits long))

-- ---- what is spelled is read again

words_of_front : (n : ℕ) (ws rest : List ℕ) → AreWords ws → n ≤ length ws → words_of n (words ws ++ rest) ≡ take n ws
words_of_front zero ws rest fits le = refl
words_of_front (suc n) ws rest fits le =
    let first : words_of n (words ws ++ rest) ≡ take n ws = words_of_front n ws rest fits (omega arith) in
    let w = get_or ws n 0 in
    let after = drop (n + 1) ws in
    let parts : words ws ≡ words (take n ws) ++ (word w ++ words after) =
    ap words (sym (take-append-drop n ws) ∙ ap (λ (b : List ℕ). take n ws ++ b) (drop_more ws n 0 (omega arith)))
    ∙ flat_map-append word (take n ws) (w ∷ after) in
    let whole : words ws ++ rest ≡ words (take n ws) ++ (word w ++ (words after ++ rest)) =
    ap (λ (b : List ℕ). b ++ rest) parts
    ∙ append_assoc (words (take n ws)) (word w ++ words after) rest
    ∙ ap (λ (b : List ℕ). words (take n ws) ++ b) (append_assoc (word w) (words after) rest) in
    let len : length (words (take n ws)) ≡ 4 * n = length-words (take n ws) ∙ ap (λ (k : ℕ). 4 * k) (length-take-le n ws (omega arith)) in
    let last : number_at (words ws ++ rest) (4 * n) ≡ w =
    ap (λ (b : List ℕ). number_at b (4 * n)) whole
    ∙ number_at-word (words (take n ws)) w (words after ++ rest) (4 * n) len (fits n 0 (omega arith)) in
    let more : n + 1 ≡ suc n = omega arith in
    ap (λ (b : List ℕ). b ++ number_at (words ws ++ rest) (4 * n) ∷ []) first
    ∙ ap (λ (x : ℕ). take n ws ++ x ∷ []) last
    ∙ sym (take_more ws n 0 (omega arith))
    ∙ ap (λ (k : ℕ). take k ws) more

pub words_of-words : (ws rest : List ℕ) → AreWords ws → words_of (length ws) (words ws ++ rest) ≡ ws
words_of-words ws rest fits = words_of_front (length ws) ws rest fits (omega arith) ∙ take_all (length ws) ws (omega arith)

pub behind-words : (ws rest : List ℕ) → behind (length ws) (words ws ++ rest) ≡ rest
behind-words ws rest = drop_at (words ws) rest (4 * length ws) (length-words ws)
