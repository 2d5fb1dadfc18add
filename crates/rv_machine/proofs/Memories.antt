-- A memory of any kind where one byte is written as it should: so are halves and words.
use Rattle.rv_machine.proofs.Common.{◌≡◌, ℕ, ◌+◌, ◌/◌, ◌%◌, ◌^◌, ◌<◌, Bool, true, eqb, Option, ap, ◌∙◌, arith, cond, ◌&&◌, and_parts, put_byte, replaced, with_half, with_word, half_is_writable, word_is_writable}

-- what a kind of memory keeps, its bytes, what is writable, and what it is after a byte was written
pub record IsMemory {S : Type 0} (Keeps : S → Type 0) (byte_at : S → ℕ → Option ℕ) (is_writable : S → ℕ → Bool) (put : S → ℕ → ℕ → S) : Type 0 where
  pub kept : (m : S) (a b : ℕ) → Keeps m → is_writable m a ≡ true → b < 2 ^ 8 → Keeps (put m a b)
  pub bytes : (m : S) (a b at : ℕ) → Keeps m → is_writable m a ≡ true → b < 2 ^ 8 → byte_at (put m a b) at ≡ put_byte (byte_at m) a b at
  pub writable : (m : S) (a b at : ℕ) → Keeps m → is_writable m a ≡ true → b < 2 ^ 8 → is_writable (put m a b) at ≡ is_writable m at

-- a byte that is written hangs on the byte that was there alone
pub put_byte-same : (bytes other : ℕ → Option ℕ) (a b at : ℕ) → bytes at ≡ other at → put_byte bytes a b at ≡ put_byte other a b at
unfolding put_byte
put_byte-same bytes other a b at same = ap (λ (byte : Option ℕ). cond (eqb at a) (replaced byte b) byte) same

pub with_half-same : (bytes other : ℕ → Option ℕ) (a h at : ℕ) → bytes at ≡ other at → with_half put_byte bytes a h at ≡ with_half put_byte other a h at
unfolding with_half
with_half-same bytes other a h at same =
    put_byte-same (put_byte bytes a (h % 2 ^ 8)) (put_byte other a (h % 2 ^ 8)) (a + 1) (h / 2 ^ 8) at (put_byte-same bytes other a (h % 2 ^ 8) at same)

-- a half that was written: what the memory keeps, its bytes, and what is writable
pub record IsWritten {S : Type 0} (Keeps : S → Type 0) (byte_at : S → ℕ → Option ℕ) (is_writable : S → ℕ → Bool) (old new : S) (bytes : ℕ → Option ℕ) : Type 0 where
  pub kept : Keeps new
  pub bytes_are : (at : ℕ) → byte_at new at ≡ bytes at
  pub writable : (at : ℕ) → is_writable new at ≡ is_writable old at

pub IsWritten-half : {S : Type 0} (Keeps : S → Type 0) (byte_at : S → ℕ → Option ℕ) (is_writable : S → ℕ → Bool) (put : S → ℕ → ℕ → S) (m : S) (a h : ℕ) →
    IsMemory Keeps byte_at is_writable put → Keeps m → half_is_writable (is_writable m) a ≡ true → h < 2 ^ 16 →
    IsWritten Keeps byte_at is_writable m (with_half put m a h) (with_half put_byte (byte_at m) a h)
unfolding with_half half_is_writable
IsWritten-half Keeps byte_at is_writable put m a h memory keeps may fits =
    let parts = and_parts (is_writable m a) (is_writable m (a + 1)) may in
    let low : h % 2 ^ 8 < 2 ^ 8 = omega arith in
    let high : h / 2 ^ 8 < 2 ^ 8 = omega arith in
    let middle = put m a (h % 2 ^ 8) in
    let kept = memory.kept m a (h % 2 ^ 8) keeps parts.0 low in
    let may' : is_writable middle (a + 1) ≡ true = memory.writable m a (h % 2 ^ 8) (a + 1) keeps parts.0 low ∙ parts.1 in
    record {
      kept = memory.kept middle (a + 1) (h / 2 ^ 8) kept may' high;
      bytes_are = λ at. memory.bytes middle (a + 1) (h / 2 ^ 8) at kept may' high
          ∙ put_byte-same (byte_at middle) (put_byte (byte_at m) a (h % 2 ^ 8)) (a + 1) (h / 2 ^ 8) at (memory.bytes m a (h % 2 ^ 8) at keeps parts.0 low);
      writable = λ at. memory.writable middle (a + 1) (h / 2 ^ 8) at kept may' high ∙ memory.writable m a (h % 2 ^ 8) at keeps parts.0 low;
    }

pub IsWritten-word : {S : Type 0} (Keeps : S → Type 0) (byte_at : S → ℕ → Option ℕ) (is_writable : S → ℕ → Bool) (put : S → ℕ → ℕ → S) (m : S) (a w : ℕ) →
    IsMemory Keeps byte_at is_writable put → Keeps m → word_is_writable (is_writable m) a ≡ true → w < 2 ^ 32 →
    IsWritten Keeps byte_at is_writable m (with_word put m a w) (with_word put_byte (byte_at m) a w)
unfolding with_word word_is_writable half_is_writable
IsWritten-word Keeps byte_at is_writable put m a w memory keeps may fits =
    let parts = and_parts (is_writable m a && is_writable m (a + 1)) (is_writable m (a + 2) && is_writable m (a + 2 + 1)) may in
    let low : w % 2 ^ 16 < 2 ^ 16 = omega arith in
    let high : w / 2 ^ 16 < 2 ^ 16 = omega arith in
    let middle = with_half put m a (w % 2 ^ 16) in
    let first = IsWritten-half Keeps byte_at is_writable put m a (w % 2 ^ 16) memory keeps parts.0 low in
    let same : (is_writable middle (a + 2) && is_writable middle (a + 2 + 1)) ≡ (is_writable m (a + 2) && is_writable m (a + 2 + 1)) =
    (λ i. first.writable (a + 2) i && first.writable (a + 2 + 1) i) in
    let second = IsWritten-half Keeps byte_at is_writable put middle (a + 2) (w / 2 ^ 16) memory first.kept (same ∙ parts.1) high in
    record {
      kept = second.kept;
      bytes_are = λ at. second.bytes_are at ∙ with_half-same (byte_at middle) (with_half put_byte (byte_at m) a (w % 2 ^ 16)) (a + 2) (w / 2 ^ 16) at (first.bytes_are at);
      writable = λ at. second.writable at ∙ first.writable at;
    }
