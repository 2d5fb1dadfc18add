-- A byte that replaces another in a word is there, the other bytes stay, and four of them make the word.
use Rattle.rv_machine.proofs.Common.{◌≡◌, ◌≢◌, ℕ, zero, suc, ◌+◌, ◌*◌, ◌/◌, ◌%◌, ◌^◌, ◌<◌, ◌≤◌, List, length, set, get_or, Option, Some, refl, sym, ap, ◌∙◌, arith, ⊎_elim, get_or-set_same, get_or-set_other, cases_eq, cases_lt, set_past, set-set, half_at, word_at, joined, with_half, with_word}
use Rattle.rv_machine.specs.WordBytes.{byte_of, word_with, byte_in, words_with, HoldsWord}

pub byte_of-same : (word k byte : ℕ) → k < 4 → byte < 2 ^ 8 → byte_of (word_with word k byte) k ≡ byte
byte_of-same word (suc (suc (suc (suc k)))) byte within fits = absurd (omega arith)
byte_of-same word _ byte within fits = omega arith

pub byte_of-other : (word k j byte : ℕ) → k < 4 → j < 4 → j ≢ k → byte < 2 ^ 8 → byte_of (word_with word k byte) j ≡ byte_of word j
byte_of-other word zero zero byte within within' apart fits = absurd (apart refl)
byte_of-other word zero (suc (suc (suc (suc j)))) byte within within' apart fits = absurd (omega arith)
byte_of-other word (suc zero) (suc zero) byte within within' apart fits = absurd (apart refl)
byte_of-other word (suc zero) (suc (suc (suc (suc j)))) byte within within' apart fits = absurd (omega arith)
byte_of-other word (suc (suc zero)) (suc (suc zero)) byte within within' apart fits = absurd (apart refl)
byte_of-other word (suc (suc zero)) (suc (suc (suc (suc j)))) byte within within' apart fits = absurd (omega arith)
byte_of-other word (suc (suc (suc zero))) (suc (suc (suc zero))) byte within within' apart fits = absurd (apart refl)
byte_of-other word (suc (suc (suc zero))) (suc (suc (suc (suc j)))) byte within within' apart fits = absurd (omega arith)
byte_of-other word (suc (suc (suc (suc k)))) j byte within within' apart fits = absurd (omega arith)
byte_of-other word _ _ byte within within' apart fits = omega arith

pub word_with-below : (word k byte : ℕ) → k < 4 → byte < 2 ^ 8 → word < 2 ^ 32 → word_with word k byte < 2 ^ 32
word_with-below word (suc (suc (suc (suc k)))) byte within fits below = absurd (omega arith)
word_with-below word _ byte within fits below = omega arith

-- four bytes in their places make the word
bytes_make : (w : ℕ) → w < 2 ^ 32 → (byte_of w 0 + 2 ^ 8 * byte_of w 1) + 2 ^ 16 * (byte_of w 2 + 2 ^ 8 * byte_of w 3) ≡ w
bytes_make w below = omega arith

pub word_at-held : (bytes : ℕ → Option ℕ) (address word : ℕ) → word < 2 ^ 32 → HoldsWord bytes address word → word_at bytes address ≡ Some word
unfolding word_at half_at
word_at-held bytes address word below held =
    let b0 : bytes address ≡ Some (byte_of word 0) = ap bytes (let e : address ≡ address + 0 = omega arith in e) ∙ held 0 (omega arith) in
    let b1 = held 1 (omega arith) in
    let b2 = held 2 (omega arith) in
    let b3 : bytes (address + 2 + 1) ≡ Some (byte_of word 3) = ap bytes (let e : address + 2 + 1 ≡ address + 3 = omega arith in e) ∙ held 3 (omega arith) in
    (λ i. joined (2 ^ 16) (joined (2 ^ 8) (b0 i) (b1 i)) (joined (2 ^ 8) (b2 i) (b3 i))) ∙ ap Some (bytes_make word below)

four_replaced : (old w : ℕ) → old < 2 ^ 32 → w < 2 ^ 32 →
    word_with (word_with (word_with (word_with old 0 (w % 2 ^ 16 % 2 ^ 8)) 1 (w % 2 ^ 16 / 2 ^ 8)) 2 (w / 2 ^ 16 % 2 ^ 8)) 3 (w / 2 ^ 16 / 2 ^ 8) ≡ w
four_replaced old w below below' = omega arith

-- ---- rows of words

row_step : (words : List ℕ) (i w offset k byte : ℕ) → i < length words → offset / 4 ≡ i → offset % 4 ≡ k → words_with (set words i w) offset byte ≡ set words i (word_with w k byte)
row_step words i w offset k byte within same_place same_byte =
    (λ j. set (set words i w) (same_place j) (word_with (get_or (set words i w) (same_place j) 0) (same_byte j) byte))
    ∙ ap (λ (word : ℕ). set (set words i w) i (word_with word k byte)) (get_or-set_same words i w 0 within)
    ∙ set-set words i w (word_with w k byte)

pub byte_in-same : (words : List ℕ) (offset byte : ℕ) → offset / 4 < length words → byte < 2 ^ 8 → byte_in (words_with words offset byte) offset ≡ byte
byte_in-same words offset byte within fits =
    ap (λ (word : ℕ). byte_of word (offset % 4)) (get_or-set_same words (offset / 4) (word_with (get_or words (offset / 4) 0) (offset % 4) byte) 0 within)
    ∙ byte_of-same (get_or words (offset / 4) 0) (offset % 4) byte (omega arith) fits

pub byte_in-other : (words : List ℕ) (offset other byte : ℕ) → other ≢ offset → byte < 2 ^ 8 → byte_in (words_with words offset byte) other ≡ byte_in words other
byte_in-other words offset other byte apart fits =
    let word = word_with (get_or words (offset / 4) 0) (offset % 4) byte in
    ⊎_elim
    (λ (same : other / 4 ≡ offset / 4).
    let differ : other % 4 ≢ offset % 4 = (λ same_byte. apart (omega arith)) in
    ⊎_elim
    (λ (within : offset / 4 < length words).
    ap (λ (i : ℕ). byte_of (get_or (words_with words offset byte) i 0) (other % 4)) same
    ∙ ap (λ (w : ℕ). byte_of w (other % 4)) (get_or-set_same words (offset / 4) word 0 within)
    ∙ byte_of-other (get_or words (offset / 4) 0) (offset % 4) (other % 4) byte (omega arith) (omega arith) differ fits
    ∙ ap (λ (i : ℕ). byte_of (get_or words i 0) (other % 4)) (sym same))
    (λ (past : length words ≤ offset / 4). ap (λ (ws : List ℕ). byte_in ws other) (set_past words (offset / 4) word past))
    (cases_lt (offset / 4) (length words)))
    (λ (apart : other / 4 ≢ offset / 4). ap (λ (w : ℕ). byte_of w (other % 4)) (get_or-set_other words (offset / 4) (other / 4) word 0 apart))
    (cases_eq (other / 4) (offset / 4))

pub with_word-row : (words : List ℕ) (offset word : ℕ) → offset % 4 ≡ 0 → offset / 4 < length words → get_or words (offset / 4) 0 < 2 ^ 32 → word < 2 ^ 32 → with_word words_with words offset word ≡ set words (offset / 4) word
unfolding with_word with_half
with_word-row words offset word aligned within fits below =
    let i = offset / 4 in
    let old = get_or words i 0 in
    let w0 = word_with old 0 (word % 2 ^ 16 % 2 ^ 8) in
    let w1 = word_with w0 1 (word % 2 ^ 16 / 2 ^ 8) in
    let w2 = word_with w1 2 (word / 2 ^ 16 % 2 ^ 8) in
    let first : words_with words offset (word % 2 ^ 16 % 2 ^ 8) ≡ set words i w0 = ap (λ (k : ℕ). set words i (word_with old k (word % 2 ^ 16 % 2 ^ 8))) aligned in
    ap (λ (ws : List ℕ). words_with (words_with (words_with ws (offset + 1) (word % 2 ^ 16 / 2 ^ 8)) (offset + 2) (word / 2 ^ 16 % 2 ^ 8)) (offset + 2 + 1) (word / 2 ^ 16 / 2 ^ 8)) first
    ∙ ap (λ (ws : List ℕ). words_with (words_with ws (offset + 2) (word / 2 ^ 16 % 2 ^ 8)) (offset + 2 + 1) (word / 2 ^ 16 / 2 ^ 8)) (row_step words i w0 (offset + 1) 1 (word % 2 ^ 16 / 2 ^ 8) within (omega arith) (omega arith))
    ∙ ap (λ (ws : List ℕ). words_with ws (offset + 2 + 1) (word / 2 ^ 16 / 2 ^ 8)) (row_step words i w1 (offset + 2) 2 (word / 2 ^ 16 % 2 ^ 8) within (omega arith) (omega arith))
    ∙ row_step words i w2 (offset + 2 + 1) 3 (word / 2 ^ 16 / 2 ^ 8) within (omega arith) (omega arith)
    ∙ ap (set words i) (four_replaced old word fits below)
