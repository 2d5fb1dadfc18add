-- Memory as a function from an address to a byte, or none if the address isn't readable. Halves and words
-- are two and four bytes, least significant byte first: RISC-V unprivileged manual, chapter "RV32I", section
-- "Load and Store Instructions", in a little-endian system.
use Rattle.std.specs.Prelude.{ℕ, ◌+◌, ◌*◌, ◌/◌, ◌%◌, ◌^◌, ◌==◌, Bool, ◌&&◌, if◌then◌else◌, Option, Some, None}

-- two parts as one, of which the lower one has `size` values
abbrev pub joined : ℕ → Option ℕ → Option ℕ → Option ℕ
joined size (Some low) (Some high) = Some (low + size * high)
joined size (Some low) None = None
joined size None high = None

-- the half and the word whose lowest byte is at the address
unfoldable pub half_at : (ℕ → Option ℕ) → ℕ → Option ℕ
half_at bytes address = joined (2 ^ 8) (bytes address) (bytes (address + 1))

unfoldable pub word_at : (ℕ → Option ℕ) → ℕ → Option ℕ
word_at bytes address = joined (2 ^ 16) (half_at bytes address) (half_at bytes (address + 2))

-- a readable byte, written
abbrev pub replaced : Option ℕ → ℕ → Option ℕ
replaced None byte = None
replaced (Some old) byte = Some byte

-- memory after a byte is stored: the address has the byte if it is readable, and every other byte stays the
-- same
unfoldable pub put_byte : (ℕ → Option ℕ) → ℕ → ℕ → ℕ → Option ℕ
put_byte bytes address byte at = if at == address then replaced (bytes at) byte else bytes at

-- ---- memory of any kind; `put` is its value after a byte is stored

-- after a half and after a word is stored, the lowest byte first
unfoldable pub with_half : {S : Type 0} → (S → ℕ → ℕ → S) → S → ℕ → ℕ → S
with_half put memory address half = put (put memory address (half % 2 ^ 8)) (address + 1) (half / 2 ^ 8)

unfoldable pub with_word : {S : Type 0} → (S → ℕ → ℕ → S) → S → ℕ → ℕ → S
with_word put memory address word = with_half put (with_half put memory address (word % 2 ^ 16)) (address + 2) (word / 2 ^ 16)

-- a store: none, or of a byte, a half or a word at an address
pub data Stored : Type 0 where
  Nothing : Stored
  Byte : (address value : ℕ) → Stored
  Half : (address value : ℕ) → Stored
  Word : (address value : ℕ) → Stored

-- memory after that store
abbrev pub with_stored : {S : Type 0} → (S → ℕ → ℕ → S) → Stored → S → S
with_stored put Nothing memory = memory
with_stored put (Byte address value) memory = put memory address value
with_stored put (Half address value) memory = with_half put memory address value
with_stored put (Word address value) memory = with_word put memory address value

-- the bytes of a half and of a word are all writable
unfoldable pub half_is_writable : (ℕ → Bool) → ℕ → Bool
half_is_writable writable address = writable address && writable (address + 1)

unfoldable pub word_is_writable : (ℕ → Bool) → ℕ → Bool
word_is_writable writable address = half_is_writable writable address && half_is_writable writable (address + 2)
