-- What is loaded from and stored to four bytes of a payload, of the globals or of the tables is one word of a chunk or of a
-- row.
use Rattle.segment_laws.proofs.Common.{◌≡◌, ℕ, ◌+◌, ◌-◌, ◌*◌, ◌/◌, ◌%◌, ◌^◌, ◌<◌, ◌≤◌, true, List, [], length, get_or, set, Option, Some, refl, sym, ap, subst, ◌∙◌, arith, cond, lit<, get_or-set_same, ◌&&◌, nat_le, nat_lt, and_from, length-set, set-set, set-get_or, place_of-aligned, Areas, Spot, InGlobals, InTables, InPayload, globals_place, tables_place, is_within, payload_spot, spot_of, byte_on, byte_at, is_writable_on, is_writable, with_byte_on, with_byte, word-below, IsChunk-chunk_of}
use Rattle.chunk_pool.specs.Pool.{Pool, chunk_of, word_of, place_of, end_of, payload_place_of, chunk_at, IsPool}
use Rattle.chunk_pool.specs.Pool as pools
use Rattle.rv_machine.specs.Bytes.{word_at, with_half, with_word, half_is_writable, word_is_writable}
use Rattle.rv_machine.specs.WordBytes.{byte_of, byte_in, words_with}
use Rattle.rv_machine.proofs.WordBytes.{word_at-held, with_word-row}
use Rattle.segment_laws.proofs.Spots.{Fit, spot_of-payload, spot_of-global, spot_of-table}

-- ---- four bytes of a row of words

-- four bytes from an offset on are those of a row
record ShowsRow (areas : Areas) (address : ℕ) (row : List ℕ) (offset : ℕ) : Type 0 where
  bytes : (k : ℕ) → k < 4 → byte_at areas (address + k) ≡ Some (byte_in row (offset + k))
  aligned : offset % 4 ≡ 0
  below : get_or row (offset / 4) 0 < 2 ^ 32

byte_in-word : (row : List ℕ) (offset k : ℕ) → k < 4 → offset % 4 ≡ 0 → byte_in row (offset + k) ≡ byte_of (get_or row (offset / 4) 0) k
byte_in-word row offset k small aligned =
    let place : (offset + k) / 4 ≡ offset / 4 = omega arith in
    let number : (offset + k) % 4 ≡ k = omega arith in
    (λ i. byte_of (get_or row (place i) 0) (number i))

word_at-row : (areas : Areas) (address : ℕ) (row : List ℕ) (offset : ℕ) → ShowsRow areas address row offset → word_at (byte_at areas) address ≡ Some (get_or row (offset / 4) 0)
word_at-row areas address row offset shows =
    word_at-held (byte_at areas) address (get_or row (offset / 4) 0) shows.below
    (λ k small. shows.bytes k small ∙ ap Some (byte_in-word row offset k small shows.aligned))

-- ---- a payload

-- four bytes of the payload of a chunk, at a multiple of 4
pub record PayloadWord (pool : Pool) (chunk address : ℕ) : Type 0 where
  pub chunk_below : chunk < pool.count
  pub low : payload_place_of pool chunk ≤ address
  pub high : address + 4 ≤ end_of pool chunk
  pub aligned : address % 4 ≡ 0

-- the number of the word in its chunk
abbrev pub word_number : Pool → ℕ → ℕ → ℕ
word_number pool chunk address = (address - place_of pool chunk) / 4

offset_aligned : (pool : Pool) (chunk address : ℕ) → IsPool pool → PayloadWord pool chunk address → (address - place_of pool chunk) % 4 ≡ 0
offset_aligned pool chunk address sound is =
    let place = place_of-aligned pool chunk sound in
    let low : place_of pool chunk + 16 ≤ address = is.low in
    let aligned = is.aligned in
    omega (arith, place, low, aligned)

spots : (areas : Areas) (chunk address k : ℕ) → Fit areas → PayloadWord areas.pool chunk address → k < 4 →
    spot_of areas (address + k) ≡ Some (InPayload chunk (address - place_of areas.pool chunk + k))
spots areas chunk address k fit is small =
    let low : place_of areas.pool chunk + 16 ≤ address = is.low in
    let high : address + 4 ≤ end_of areas.pool chunk = is.high in
    let shift : address + k - place_of areas.pool chunk ≡ address - place_of areas.pool chunk + k = omega (arith, low) in
    spot_of-payload areas chunk (address + k) fit (record { chunk_below = is.chunk_below; low = omega (arith, low); high = omega (arith, high) })
    ∙ ap (λ (offset : ℕ). Some (InPayload chunk offset)) shift

-- the same at an address that is so far on
spots-at : (areas : Areas) (chunk at offset k address : ℕ) → Fit areas → PayloadWord areas.pool chunk address → k < 4 → at ≡ address + k → offset ≡ address - place_of areas.pool chunk + k →
    spot_of areas at ≡ Some (InPayload chunk offset)
spots-at areas chunk at offset k address fit is small here there =
    ap (spot_of areas) here ∙ spots areas chunk address k fit is small ∙ ap (λ (o : ℕ). Some (InPayload chunk o)) (sym there)

pub loaded-payload : (areas : Areas) (chunk address : ℕ) → Fit areas → PayloadWord areas.pool chunk address →
    word_at (byte_at areas) address ≡ Some (word_of areas.pool chunk (word_number areas.pool chunk address))
loaded-payload areas chunk address fit is =
    word_at-row areas address (chunk_of areas.pool chunk) (address - place_of areas.pool chunk) (record {
      bytes = λ k small. ap (byte_on areas) (spots areas chunk address k fit is small);
      aligned = offset_aligned areas.pool chunk address fit.pool is;
      below = word-below (chunk_of areas.pool chunk) _ (IsChunk-chunk_of areas.pool chunk fit.pool is.chunk_below).fits;
    })

-- the chunk's words as a row of their own
abbrev with_row : Areas → ℕ → List ℕ → Areas
with_row areas chunk row = record areas { pool = record areas.pool { contents = set areas.pool.contents chunk row } }

with_row-twice : (areas : Areas) (chunk : ℕ) (first second : List ℕ) → with_row (with_row areas chunk first) chunk second ≡ with_row areas chunk second
with_row-twice areas chunk first second = ap (λ (contents : List (List ℕ)). record areas { pool = record areas.pool { contents = contents } }) (set-set areas.pool.contents chunk first second)

-- a byte that is written to a row
byte_to_row : (areas : Areas) (chunk address offset byte : ℕ) (row : List ℕ) → chunk < length areas.pool.contents → spot_of (with_row areas chunk row) address ≡ Some (InPayload chunk offset) →
    with_byte (with_row areas chunk row) address byte ≡ with_row areas chunk (words_with row offset byte)
byte_to_row areas chunk address offset byte row below spot =
    ap (λ (s : Option Spot). with_byte_on (with_row areas chunk row) s byte) spot
    ∙ ap (λ (r : List ℕ). with_row (with_row areas chunk row) chunk (words_with r offset byte)) (get_or-set_same areas.pool.contents chunk row [] below)
    ∙ with_row-twice areas chunk row (words_with row offset byte)

-- a row in a chunk leaves the map
spot_of-with_row : (areas : Areas) (chunk address : ℕ) (row : List ℕ) → spot_of (with_row areas chunk row) address ≡ spot_of areas address
unfolding spot_of
spot_of-with_row areas chunk address row = refl

half_to_row : (areas : Areas) (chunk address offset half : ℕ) (row : List ℕ) → chunk < length areas.pool.contents →
    spot_of areas address ≡ Some (InPayload chunk offset) → spot_of areas (address + 1) ≡ Some (InPayload chunk (offset + 1)) →
    with_half with_byte (with_row areas chunk row) address half ≡ with_row areas chunk (with_half words_with row offset half)
unfolding with_half
half_to_row areas chunk address offset half row below first second =
    ap (λ (a : Areas). with_byte a (address + 1) (half / 2 ^ 8)) (byte_to_row areas chunk address offset (half % 2 ^ 8) row below (spot_of-with_row areas chunk address row ∙ first))
    ∙ byte_to_row areas chunk (address + 1) (offset + 1) (half / 2 ^ 8) (words_with row offset (half % 2 ^ 8)) below (spot_of-with_row areas chunk (address + 1) _ ∙ second)

-- the areas with a row that they have
with_row-same : (areas : Areas) (chunk : ℕ) → with_row areas chunk (chunk_of areas.pool chunk) ≡ areas
with_row-same areas chunk = ap (λ (contents : List (List ℕ)). record areas { pool = record areas.pool { contents = contents } }) (set-get_or areas.pool.contents chunk [])

pub stored-payload : (areas : Areas) (chunk address value : ℕ) → Fit areas → PayloadWord areas.pool chunk address → value < 2 ^ 32 →
    with_word with_byte areas address value ≡ record areas { pool = pools.with_word areas.pool chunk (word_number areas.pool chunk address) value }
unfolding with_word
stored-payload areas chunk address value fit is below =
    let offset = address - place_of areas.pool chunk in
    let in' : chunk < length areas.pool.contents = subst (λ (n : ℕ). chunk < n) (sym fit.pool.count_is) is.chunk_below in
    let row = chunk_of areas.pool chunk in
    let at0 : spot_of areas address ≡ Some (InPayload chunk offset) = spots-at areas chunk address offset 0 address fit is (lit< tt) (omega arith) (omega arith) in
    let at1 : spot_of areas (address + 1) ≡ Some (InPayload chunk (offset + 1)) = spots areas chunk address 1 fit is (lit< tt) in
    let at2 : spot_of areas (address + 2) ≡ Some (InPayload chunk (offset + 2)) = spots areas chunk address 2 fit is (lit< tt) in
    let at3 : spot_of areas (address + 2 + 1) ≡ Some (InPayload chunk (offset + 2 + 1)) = spots-at areas chunk (address + 2 + 1) (offset + 2 + 1) 3 address fit is (lit< tt) (omega arith) (omega arith) in
    let inside : offset / 4 < length row = omega (arith, (IsChunk-chunk_of areas.pool chunk fit.pool is.chunk_below).length, is.high, is.low) in
    ap (λ (a : Areas). with_half with_byte (with_half with_byte a address (value % 2 ^ 16)) (address + 2) (value / 2 ^ 16)) (sym (with_row-same areas chunk))
    ∙ ap (λ (a : Areas). with_half with_byte a (address + 2) (value / 2 ^ 16)) (half_to_row areas chunk address offset (value % 2 ^ 16) row in' at0 at1)
    ∙ half_to_row areas chunk (address + 2) (offset + 2) (value / 2 ^ 16) (with_half words_with row offset (value % 2 ^ 16)) in' at2 at3
    ∙ ap (with_row areas chunk) (with_word-row row offset value (offset_aligned areas.pool chunk address fit.pool is) inside (word-below row (offset / 4) (IsChunk-chunk_of areas.pool chunk fit.pool is.chunk_below).fits) below)

-- four writable bytes
all_writable : (areas : Areas) (address : ℕ) → is_writable areas address ≡ true → is_writable areas (address + 1) ≡ true → is_writable areas (address + 2) ≡ true → is_writable areas (address + 2 + 1) ≡ true →
    word_is_writable (is_writable areas) address ≡ true
unfolding word_is_writable half_is_writable
all_writable areas address w0 w1 w2 w3 = and_from _ _ (and_from _ _ w0 w1) (and_from _ _ w2 w3)

pub writable-payload : (areas : Areas) (chunk address : ℕ) → Fit areas → PayloadWord areas.pool chunk address → word_is_writable (is_writable areas) address ≡ true
writable-payload areas chunk address fit is =
    let offset = address - place_of areas.pool chunk in
    all_writable areas address
    (ap is_writable_on (spots-at areas chunk address offset 0 address fit is (lit< tt) (omega arith) (omega arith)))
    (ap is_writable_on (spots areas chunk address 1 fit is (lit< tt)))
    (ap is_writable_on (spots areas chunk address 2 fit is (lit< tt)))
    (ap is_writable_on (spots-at areas chunk (address + 2 + 1) (offset + 2 + 1) 3 address fit is (lit< tt) (omega arith) (omega arith)))

-- ---- the globals

-- four bytes of the globals, at a multiple of 4
pub record GlobalWord (areas : Areas) (address : ℕ) : Type 0 where
  pub low : globals_place ≤ address
  pub high : address + 4 ≤ globals_place + 4 * length areas.globals
  pub aligned : address % 4 ≡ 0

global_spots : (areas : Areas) (at offset k address : ℕ) → GlobalWord areas address → k < 4 → at ≡ address + k → offset ≡ address - globals_place + k → spot_of areas at ≡ Some (InGlobals offset)
global_spots areas at offset k address is small here there =
    let low : globals_place ≤ address = is.low in
    let high : address + 4 ≤ globals_place + 4 * length areas.globals = is.high in
    let shift : at - globals_place ≡ offset = omega (arith, low, here, there) in
    spot_of-global areas at (omega (arith, low, here)) (omega (arith, high, here, small)) ∙ ap (λ (o : ℕ). Some (InGlobals o)) shift

global_aligned : (areas : Areas) (address : ℕ) → GlobalWord areas address → (address - globals_place) % 4 ≡ 0
global_aligned areas address is =
    let low : globals_place ≤ address = is.low in
    let aligned = is.aligned in
    omega (arith, low, aligned)

pub loaded-global : (areas : Areas) (address : ℕ) → Fit areas → GlobalWord areas address → word_at (byte_at areas) address ≡ Some (get_or areas.globals ((address - globals_place) / 4) 0)
loaded-global areas address fit is =
    word_at-row areas address areas.globals (address - globals_place) (record {
      bytes = λ k small. ap (byte_on areas) (global_spots areas (address + k) (address - globals_place + k) k address is small refl refl);
      aligned = global_aligned areas address is;
      below = word-below areas.globals _ fit.global_words;
    })

abbrev with_globals : Areas → List ℕ → Areas
with_globals areas row = record areas { globals = row }

byte_to_globals : (areas : Areas) (address offset byte : ℕ) (row : List ℕ) → spot_of (with_globals areas row) address ≡ Some (InGlobals offset) →
    with_byte (with_globals areas row) address byte ≡ with_globals areas (words_with row offset byte)
byte_to_globals areas address offset byte row spot = ap (λ (s : Option Spot). with_byte_on (with_globals areas row) s byte) spot

-- globals of as many words leave the map
spot_of-with_globals : (areas : Areas) (address : ℕ) (row : List ℕ) → length row ≡ length areas.globals → spot_of (with_globals areas row) address ≡ spot_of areas address
unfolding spot_of
spot_of-with_globals areas address row same =
    ap (λ (n : ℕ). cond (nat_le globals_place address && nat_lt address (globals_place + 4 * n)) (Some (InGlobals (address - globals_place)))
    (cond (is_within tables_place areas.tables address) (Some (InTables (address - tables_place))) (payload_spot areas.pool address (chunk_at areas.pool address)))) same

half_to_globals : (areas : Areas) (address offset half : ℕ) (row : List ℕ) → length row ≡ length areas.globals →
    spot_of areas address ≡ Some (InGlobals offset) → spot_of areas (address + 1) ≡ Some (InGlobals (offset + 1)) →
    with_half with_byte (with_globals areas row) address half ≡ with_globals areas (with_half words_with row offset half)
unfolding with_half
half_to_globals areas address offset half row same first second =
    let after : length (words_with row offset (half % 2 ^ 8)) ≡ length areas.globals = length-set row (offset / 4) _ ∙ same in
    ap (λ (a : Areas). with_byte a (address + 1) (half / 2 ^ 8)) (byte_to_globals areas address offset (half % 2 ^ 8) row (spot_of-with_globals areas address row same ∙ first))
    ∙ byte_to_globals areas (address + 1) (offset + 1) (half / 2 ^ 8) (words_with row offset (half % 2 ^ 8)) (spot_of-with_globals areas (address + 1) _ after ∙ second)

length-half : (row : List ℕ) (offset half : ℕ) → length (with_half words_with row offset half) ≡ length row
unfolding with_half
length-half row offset half = length-set (words_with row offset (half % 2 ^ 8)) ((offset + 1) / 4) _ ∙ length-set row (offset / 4) _

pub stored-global : (areas : Areas) (address value : ℕ) → Fit areas → GlobalWord areas address → value < 2 ^ 32 →
    with_word with_byte areas address value ≡ record areas { globals = set areas.globals ((address - globals_place) / 4) value }
unfolding with_word
stored-global areas address value fit is below =
    let offset = address - globals_place in
    let row = areas.globals in
    let at0 = global_spots areas address offset 0 address is (lit< tt) (omega arith) (omega arith) in
    let at1 = global_spots areas (address + 1) (offset + 1) 1 address is (lit< tt) refl refl in
    let at2 = global_spots areas (address + 2) (offset + 2) 2 address is (lit< tt) refl refl in
    let at3 = global_spots areas (address + 2 + 1) (offset + 2 + 1) 3 address is (lit< tt) (omega arith) (omega arith) in
    let inside : offset / 4 < length row = omega (arith, is.high, is.low) in
    ap (λ (a : Areas). with_half with_byte a (address + 2) (value / 2 ^ 16)) (half_to_globals areas address offset (value % 2 ^ 16) row refl at0 at1)
    ∙ half_to_globals areas (address + 2) (offset + 2) (value / 2 ^ 16) (with_half words_with row offset (value % 2 ^ 16)) (length-half row offset (value % 2 ^ 16)) at2 at3
    ∙ ap (with_globals areas) (with_word-row row offset value (global_aligned areas address is) inside (word-below row (offset / 4) fit.global_words) below)

pub writable-global : (areas : Areas) (address : ℕ) → GlobalWord areas address → word_is_writable (is_writable areas) address ≡ true
writable-global areas address is =
    let offset = address - globals_place in
    all_writable areas address
    (ap is_writable_on (global_spots areas address offset 0 address is (lit< tt) (omega arith) (omega arith)))
    (ap is_writable_on (global_spots areas (address + 1) (offset + 1) 1 address is (lit< tt) refl refl))
    (ap is_writable_on (global_spots areas (address + 2) (offset + 2) 2 address is (lit< tt) refl refl))
    (ap is_writable_on (global_spots areas (address + 2 + 1) (offset + 2 + 1) 3 address is (lit< tt) (omega arith) (omega arith)))

-- ---- the tables

-- four bytes of the tables, at a multiple of 4
pub record TableWord (areas : Areas) (address : ℕ) : Type 0 where
  pub low : tables_place ≤ address
  pub high : address + 4 ≤ tables_place + 4 * length areas.tables
  pub aligned : address % 4 ≡ 0
  pub below : get_or areas.tables ((address - tables_place) / 4) 0 < 2 ^ 32

pub loaded-table : (areas : Areas) (address : ℕ) → Fit areas → TableWord areas address → word_at (byte_at areas) address ≡ Some (get_or areas.tables ((address - tables_place) / 4) 0)
loaded-table areas address fit is =
    let low : tables_place ≤ address = is.low in
    let high : address + 4 ≤ tables_place + 4 * length areas.tables = is.high in
    let aligned = is.aligned in
    let places : (address - tables_place) % 4 ≡ 0 = omega (arith, low, aligned) in
    word_at-row areas address areas.tables (address - tables_place) (record {
      bytes = λ k small.
          let shift : address + k - tables_place ≡ address - tables_place + k = omega (arith, low) in
          ap (byte_on areas) (spot_of-table areas (address + k) fit (omega (arith, low)) (omega (arith, high, small)) ∙ ap (λ (o : ℕ). Some (InTables o)) shift);
      aligned = places;
      below = is.below;
    })
