-- The areas are memory by bytes: a byte that is written is there, every other one stays, and so does the map.
use Rattle.machine_world.proofs.Common.{◌≡◌, ◌≢◌, ℕ, ◌+◌, ◌-◌, ◌*◌, ◌/◌, ◌%◌, ◌^◌, ◌<◌, ◌≤◌, true, eqb, List, [], length, set, Option, Some, None, refl, sym, ap, subst, ◌∙◌, arith, cond, inr, ⊎_elim, get_or-set_same, get_or-set_other, ◌&&◌, nat_le, nat_lt, cond_both, cond-true, cond-false, cases_eq, eq-eqb, ne_eqb, leb-true, ltb-true, and_parts, length-set, All-get_or, HasAddress-from_chunk_at, IsPool-with_word, byte_in-same, byte_in-other, word_with-below, Areas, Spot, InGlobals, InTables, InPayload, globals_place, tables_place, is_within, payload_spot, spot_of, byte_on, is_writable_on, with_byte_on, byte_at, is_writable, with_byte, IsChunk-chunk_of}
use Rattle.chunk_pool.specs.Pool.{Pool, chunk_of, word_of, with_word, place_of, payload_place_of, chunk_at, IsPool, words_of, bytes_of}
use Rattle.rv_machine.specs.Bytes.{put_byte, replaced}
use Rattle.rv_machine.specs.WordBytes.{byte_in, words_with}
use Rattle.rv_machine.proofs.Memories.{IsMemory}

-- ---- where a spot lies

-- the address is that of the spot
abbrev pub IsSpot : Areas → ℕ → Option Spot → Type 0
IsSpot areas address None = Unit {0}
IsSpot areas address (Some (InGlobals offset)) = (address ≡ globals_place + offset) × (offset < 4 * length areas.globals)
IsSpot areas address (Some (InTables offset)) = (address ≡ tables_place + offset) × (offset < 4 * length areas.tables)
IsSpot areas address (Some (InPayload chunk offset)) =
    (address ≡ place_of areas.pool chunk + offset) × (16 ≤ offset) × (chunk < areas.pool.count) × (offset < bytes_of areas.pool chunk)

within : (place : ℕ) (words : List ℕ) (address : ℕ) → is_within place words address ≡ true → (address ≡ place + (address - place)) × (address - place < 4 * length words)
within place words address inside =
    let parts = and_parts (nat_le place address) (nat_lt address (place + 4 * length words)) inside in
    let low : place ≤ address = leb-true place address parts.0 in
    let high : address < place + 4 * length words = ltb-true address (place + 4 * length words) parts.1 in
    (omega arith, omega arith)

IsSpot-payload : (areas : Areas) (address : ℕ) (found : Option ℕ) → IsPool areas.pool → chunk_at areas.pool address ≡ found → IsSpot areas address (payload_spot areas.pool address found)
IsSpot-payload areas address None sound e = tt
IsSpot-payload areas address (Some chunk) sound e =
    let has = HasAddress-from_chunk_at areas.pool chunk address sound e in
    cond_both (nat_le (payload_place_of areas.pool chunk) address) (Some (InPayload chunk (address - place_of areas.pool chunk))) None (IsSpot areas address)
    (λ behind. let low : payload_place_of areas.pool chunk ≤ address = leb-true _ address behind in (omega arith, omega arith, has.0, omega arith))
    (λ _. tt)

pub IsSpot-spot_of : (areas : Areas) (address : ℕ) → IsPool areas.pool → IsSpot areas address (spot_of areas address)
unfolding spot_of
IsSpot-spot_of areas address sound =
    let rest = payload_spot areas.pool address (chunk_at areas.pool address) in
    let tables = cond (is_within tables_place areas.tables address) (Some (InTables (address - tables_place))) rest in
    cond_both (is_within globals_place areas.globals address) (Some (InGlobals (address - globals_place))) tables (IsSpot areas address)
    (λ inside. within globals_place areas.globals address inside)
    (λ _. cond_both (is_within tables_place areas.tables address) (Some (InTables (address - tables_place))) rest (IsSpot areas address)
    (λ inside. within tables_place areas.tables address inside)
    (λ _. IsSpot-payload areas address (chunk_at areas.pool address) sound refl))

-- ---- the map stays

spot_of-globals : (areas : Areas) (globals : List ℕ) (at : ℕ) → length globals ≡ length areas.globals → spot_of (record areas { globals = globals }) at ≡ spot_of areas at
unfolding spot_of
spot_of-globals areas globals at same =
    ap (λ (n : ℕ). cond (nat_le globals_place at && nat_lt at (globals_place + 4 * n)) (Some (InGlobals (at - globals_place)))
    (cond (is_within tables_place areas.tables at) (Some (InTables (at - tables_place))) (payload_spot areas.pool at (chunk_at areas.pool at)))) same

payload_spot-with_word : (pool : Pool) (chunk word value at : ℕ) (found : Option ℕ) → payload_spot (with_word pool chunk word value) at found ≡ payload_spot pool at found
payload_spot-with_word pool chunk word value at None = refl
payload_spot-with_word pool chunk word value at (Some c) = refl

spot_of-pool : (areas : Areas) (chunk word value at : ℕ) → spot_of (record areas { pool = with_word areas.pool chunk word value }) at ≡ spot_of areas at
unfolding spot_of
spot_of-pool areas chunk word value at =
    ap (λ (spot : Option Spot). cond (is_within globals_place areas.globals at) (Some (InGlobals (at - globals_place)))
    (cond (is_within tables_place areas.tables at) (Some (InTables (at - tables_place))) spot))
    (payload_spot-with_word areas.pool chunk word value at (chunk_at areas.pool at))

spot_of-with_byte_on : (areas : Areas) (spot : Option Spot) (b at : ℕ) → spot_of (with_byte_on areas spot b) at ≡ spot_of areas at
spot_of-with_byte_on areas (Some (InGlobals offset)) b at = spot_of-globals areas (words_with areas.globals offset b) at (length-set areas.globals (offset / 4) _)
spot_of-with_byte_on areas (Some (InPayload chunk offset)) b at = spot_of-pool areas chunk (offset / 4) _ at
spot_of-with_byte_on areas _ b at = refl

pub spot_of-with_byte : (areas : Areas) (a b at : ℕ) → spot_of (with_byte areas a b) at ≡ spot_of areas at
spot_of-with_byte areas a b at = spot_of-with_byte_on areas (spot_of areas a) b at

-- ---- bytes

length-chunk : (pool : Pool) (chunk : ℕ) → IsPool pool → chunk < pool.count → length (chunk_of pool chunk) ≡ words_of pool chunk
length-chunk pool chunk sound below = (IsChunk-chunk_of pool chunk sound below).length

chunk_of-with_word : (pool : Pool) (chunk word value : ℕ) → IsPool pool → chunk < pool.count → chunk_of (with_word pool chunk word value) chunk ≡ set (chunk_of pool chunk) word value
chunk_of-with_word pool chunk word value sound below =
    let in' : chunk < length pool.contents = subst (λ (n : ℕ). chunk < n) (sym sound.count_is) below in
    get_or-set_same pool.contents chunk (set (chunk_of pool chunk) word value) [] in'

-- the byte that is written is there
byte_on-same : (areas : Areas) (a b : ℕ) (spot : Option Spot) → IsPool areas.pool → IsSpot areas a spot → is_writable_on spot ≡ true → b < 2 ^ 8 → byte_on (with_byte_on areas spot b) spot ≡ replaced (byte_on areas spot) b
byte_on-same areas a b (Some (InGlobals offset)) sound is may fits = ap Some (byte_in-same areas.globals offset b (omega arith) fits)
byte_on-same areas a b (Some (InPayload chunk offset)) sound is may fits =
    let inside : offset / 4 < length (chunk_of areas.pool chunk) = omega (arith, length-chunk areas.pool chunk sound is.2) in
    ap (λ (words : List ℕ). Some (byte_in words offset)) (chunk_of-with_word areas.pool chunk (offset / 4) _ sound is.2)
    ∙ ap Some (byte_in-same (chunk_of areas.pool chunk) offset b inside fits)
byte_on-same areas a b _ sound is may fits = absurd (cc)

-- every other byte stays
byte_on-other : (areas : Areas) (a at b : ℕ) (spot other : Option Spot) → IsPool areas.pool → IsSpot areas a spot → IsSpot areas at other → at ≢ a → b < 2 ^ 8 → byte_on (with_byte_on areas spot b) other ≡ byte_on areas other
byte_on-other areas a at b (Some (InGlobals offset)) (Some (InGlobals offset')) sound is is' apart fits =
    ap Some (byte_in-other areas.globals offset offset' b (λ same. apart (omega arith)) fits)
byte_on-other areas a at b (Some (InPayload chunk offset)) (Some (InPayload chunk' offset')) sound is is' apart fits =
    ⊎_elim
    (λ (same : chunk' ≡ chunk).
    let places : place_of areas.pool chunk' ≡ place_of areas.pool chunk = ap (place_of areas.pool) same in
    let differ : offset' ≢ offset = (λ equal. apart (omega arith)) in
    ap (λ (c : ℕ). Some (byte_in (chunk_of (with_byte_on areas (Some (InPayload chunk offset)) b).pool c) offset')) same
    ∙ ap (λ (words : List ℕ). Some (byte_in words offset')) (chunk_of-with_word areas.pool chunk (offset / 4) _ sound is.2)
    ∙ ap Some (byte_in-other (chunk_of areas.pool chunk) offset offset' b differ fits)
    ∙ ap (λ (c : ℕ). Some (byte_in (chunk_of areas.pool c) offset')) (sym same))
    (λ (away : chunk' ≢ chunk). ap (λ (words : List ℕ). Some (byte_in words offset')) (get_or-set_other areas.pool.contents chunk chunk' _ [] away))
    (cases_eq chunk' chunk)
byte_on-other areas a at b _ _ sound is is' apart fits = refl

pub byte_at-with_byte : (areas : Areas) (a b at : ℕ) → IsPool areas.pool → is_writable areas a ≡ true → b < 2 ^ 8 → byte_at (with_byte areas a b) at ≡ put_byte (byte_at areas) a b at
unfolding put_byte
byte_at-with_byte areas a b at sound may fits =
    let spot = spot_of areas a in
    let is = IsSpot-spot_of areas a sound in
    ap (byte_on (with_byte areas a b)) (spot_of-with_byte areas a b at)
    ∙ ⊎_elim
    (λ (same : at ≡ a).
    ap (λ (k : ℕ). byte_on (with_byte areas a b) (spot_of areas k)) same
    ∙ byte_on-same areas a b spot sound is may fits
    ∙ ap (λ (k : ℕ). replaced (byte_at areas k) b) (sym same)
    ∙ sym (cond-true (eqb at a) (replaced (byte_at areas at) b) (byte_at areas at) (eq-eqb at a same)))
    (λ (apart : at ≢ a).
    byte_on-other areas a at b spot (spot_of areas at) sound is (IsSpot-spot_of areas at sound) apart fits
    ∙ sym (cond-false (eqb at a) (replaced (byte_at areas at) b) (byte_at areas at) (ne_eqb at a apart)))
    (cases_eq at a)

-- ---- the pool stays sound

IsPool-with_byte_on : (areas : Areas) (a b : ℕ) (spot : Option Spot) → IsPool areas.pool → IsSpot areas a spot → b < 2 ^ 8 → IsPool (with_byte_on areas spot b).pool
IsPool-with_byte_on areas a b (Some (InPayload chunk offset)) sound is fits =
    let chunk_is = IsChunk-chunk_of areas.pool chunk sound is.2 in
    let inside : offset / 4 < length (chunk_of areas.pool chunk) = omega (arith, chunk_is.length) in
    let old : word_of areas.pool chunk (offset / 4) < 2 ^ 32 = All-get_or (λ word. word < 2 ^ 32) (chunk_of areas.pool chunk) (offset / 4) 0 inside chunk_is.fits in
    IsPool-with_word areas.pool chunk (offset / 4) _ sound is.2 (word_with-below (word_of areas.pool chunk (offset / 4)) (offset % 4) b (omega arith) fits old) (inr (omega arith))
IsPool-with_byte_on areas a b _ sound is fits = sound

pub IsPool-with_byte : (areas : Areas) (a b : ℕ) → IsPool areas.pool → b < 2 ^ 8 → IsPool (with_byte areas a b).pool
IsPool-with_byte areas a b sound fits = IsPool-with_byte_on areas a b (spot_of areas a) sound (IsSpot-spot_of areas a sound) fits

tables-with_byte_on : (areas : Areas) (spot : Option Spot) (b : ℕ) → (with_byte_on areas spot b).tables ≡ areas.tables
tables-with_byte_on areas None b = refl
tables-with_byte_on areas (Some (InGlobals offset)) b = refl
tables-with_byte_on areas (Some (InTables offset)) b = refl
tables-with_byte_on areas (Some (InPayload chunk offset)) b = refl

pub tables-with_byte : (areas : Areas) (a b : ℕ) → (with_byte areas a b).tables ≡ areas.tables
tables-with_byte areas a b = tables-with_byte_on areas (spot_of areas a) b

pub IsMemory-areas : IsMemory (λ areas. IsPool areas.pool) byte_at is_writable with_byte
IsMemory-areas = record {
  kept = λ areas a b sound may fits. IsPool-with_byte_on areas a b (spot_of areas a) sound (IsSpot-spot_of areas a sound) fits;
  bytes = λ areas a b at sound may fits. byte_at-with_byte areas a b at sound may fits;
  writable = λ areas a b at sound may fits. ap is_writable_on (spot_of-with_byte areas a b at);
}
