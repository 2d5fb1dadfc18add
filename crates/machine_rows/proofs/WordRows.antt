-- Four words as sixteen bytes, of which the first eight are writable.
use Rattle.std.proofs.Common.{◌≡◌, ◌≢◌, ℕ, ◌+◌, ◌/◌, ◌%◌, ◌^◌, ◌<◌, ◌≤◌, Bool, true, false, eqb, ltb, List, length, get_or, Option, Some, None, refl, sym, ap, ◌∙◌, arith, cond, ⊎_elim}
use Rattle.std.proofs.lemmas.Bool.{cases_eq, cond-true, cond-false, eq-eqb, ne_eqb, lt-ltb, ltb-true}
use Rattle.std.proofs.lemmas.List.{length-set}
use Rattle.std.specs.Prelude.{◌&&◌}
use Rattle.rv_machine.specs.Bytes.{half_at, word_at, joined, put_byte, replaced, half_is_writable, word_is_writable}
use Rattle.rv_machine.specs.WordBytes.{byte_of, byte_in, words_with, HoldsWord}
use Rattle.rv_machine.proofs.WordBytes.{byte_in-same, byte_in-other, word_at-held}
use Rattle.rv_machine.proofs.Memories.{IsMemory}

abbrev pub Four : List ℕ → Type 0
Four words = length words ≡ 4

abbrev pub bytes_at : List ℕ → ℕ → Option ℕ
bytes_at words at = cond (ltb at 16) (Some (byte_in words at)) None

abbrev pub first_eight : List ℕ → ℕ → Bool
first_eight words at = ltb at 8

pub bytes_put : (words : List ℕ) (a b at : ℕ) → length words ≡ 4 → a < 8 → b < 2 ^ 8 → bytes_at (words_with words a b) at ≡ put_byte (bytes_at words) a b at
unfolding put_byte
bytes_put words a b at four within fits =
    ⊎_elim
    (λ (same : at ≡ a).
    let inside : ltb at 16 ≡ true = lt-ltb at 16 (omega arith) in
    let here : byte_in (words_with words a b) at ≡ b = ap (byte_in (words_with words a b)) same ∙ byte_in-same words a b (omega arith) fits in
    ap (λ (t : Bool). cond t (Some (byte_in (words_with words a b) at)) None) inside
    ∙ ap Some here
    ∙ sym (ap (λ (t : Bool). replaced (cond t (Some (byte_in words at)) None) b) inside)
    ∙ sym (cond-true (eqb at a) (replaced (bytes_at words at) b) (bytes_at words at) (eq-eqb at a same)))
    (λ (apart : at ≢ a).
    ap (λ (byte : ℕ). cond (ltb at 16) (Some byte) None) (byte_in-other words a at b apart fits)
    ∙ sym (cond-false (eqb at a) (replaced (bytes_at words at) b) (bytes_at words at) (ne_eqb at a apart)))
    (cases_eq at a)

pub IsMemory-words : IsMemory Four bytes_at first_eight words_with
IsMemory-words = record {
  kept = λ words a b four may fits. omega (arith, length-set words (a / 4));
  bytes = λ words a b at four may fits. bytes_put words a b at four (ltb-true a 8 may) fits;
  writable = λ words a b at four may fits. refl;
}

HoldsWord-words : (words : List ℕ) (a : ℕ) → a % 4 ≡ 0 → a < 16 → HoldsWord (bytes_at words) a (get_or words (a / 4) 0)
HoldsWord-words words a aligned within k below =
    let inside : ltb (a + k) 16 ≡ true = lt-ltb (a + k) 16 (omega arith) in
    let place : (a + k) / 4 ≡ a / 4 = omega arith in
    let part : (a + k) % 4 ≡ k = omega arith in
    ap (λ (t : Bool). cond t (Some (byte_in words (a + k))) None) inside
    ∙ (λ i. Some (byte_of (get_or words (place i) 0) (part i)))

pub word_at-words : (words : List ℕ) (a : ℕ) → a % 4 ≡ 0 → a < 16 → get_or words (a / 4) 0 < 2 ^ 32 → Some (get_or words (a / 4) 0) ≡ word_at (bytes_at words) a
word_at-words words a aligned within fits = sym (word_at-held (bytes_at words) a (get_or words (a / 4) 0) fits (HoldsWord-words words a aligned within))

pub word_at-past : (words : List ℕ) (a : ℕ) → 16 ≤ a → None ≡ word_at (bytes_at words) a
unfolding word_at half_at
word_at-past words a past =
    let outside : ltb a 16 ≡ false = ltb-false' a past in
    sym (ap (λ (t : Bool). joined (2 ^ 16) (joined (2 ^ 8) (cond t (Some (byte_in words a)) None) (bytes_at words (a + 1))) (joined (2 ^ 8) (bytes_at words (a + 2)) (bytes_at words (a + 2 + 1)))) outside)
  where
    ltb-false' : (n : ℕ) → 16 ≤ n → ltb n 16 ≡ false
    ltb-false' n h = Rattle.std.proofs.lemmas.Bool.le-ltb n 16 h

-- the tests of a word that is written
pub word_is_writable-in : (words : List ℕ) (a : ℕ) → a % 4 ≡ 0 → a < 8 → word_is_writable (first_eight words) a ≡ true
unfolding word_is_writable half_is_writable
word_is_writable-in words a aligned within =
    let b0 : ltb a 8 ≡ true = lt-ltb a 8 within in
    let b1 : ltb (a + 1) 8 ≡ true = lt-ltb (a + 1) 8 (omega arith) in
    let b2 : ltb (a + 2) 8 ≡ true = lt-ltb (a + 2) 8 (omega arith) in
    let b3 : ltb (a + 2 + 1) 8 ≡ true = lt-ltb (a + 2 + 1) 8 (omega arith) in
    (λ i. (b0 i && b1 i) && (b2 i && b3 i))

pub word_is_writable-past : (words : List ℕ) (a : ℕ) → 8 ≤ a → false ≡ word_is_writable (first_eight words) a
unfolding word_is_writable half_is_writable
word_is_writable-past words a past =
    let b0 : ltb a 8 ≡ false = Rattle.std.proofs.lemmas.Bool.le-ltb a 8 past in
    sym (ap (λ (t : Bool). (t && ltb (a + 1) 8) && (ltb (a + 2) 8 && ltb (a + 2 + 1) 8)) b0)
