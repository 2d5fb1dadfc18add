-- Words and bytes at a spot, as memory by bytes has them.
use Rattle.segment_run.proofs.Common.{◌≡◌, ℕ, ◌+◌, ◌-◌, ◌*◌, ◌/◌, ◌%◌, ◌^◌, ◌<◌, ◌≤◌, Bool, true, false, length, get_or, set, Option, Some, None, refl, sym, ap, ◌∙◌, arith, ◌&&◌, Pool, place_of, IsPool, bytes_of, place_of-aligned, word_with, Areas, globals_place, tables_place, spot_of, byte_on, is_writable_on, with_byte_on, byte_at, is_writable, with_byte, AreWords, IsMemory-areas, word-below, Fit, world_spot, IsOn, word_on, with_word_on}
use Rattle.rv_machine.specs.Bytes.{half_at, word_at, joined, with_word, half_is_writable, word_is_writable, put_byte}
use Rattle.rv_machine.proofs.Memories.{IsWritten, IsWritten-word}
use Rattle.machine_world.specs.Areas as world
use Rattle.segment_laws.proofs.Words.{PayloadWord, loaded-payload, stored-payload, writable-payload, GlobalWord, loaded-global, stored-global, writable-global, TableWord, loaded-table}
use Rattle.segment_run.specs.declared.areas.Spot.{Spot}
use Rattle.segment_run.specs.declared.areas.Spot.TheVariants.{InGlobals, InTables, InPayload}

-- ---- the word of a spot lies at the address

in_payload : (areas : Areas) (address chunk offset : ℕ) → Fit areas → address % 4 ≡ 0 → IsOn areas address (InPayload chunk offset) → PayloadWord areas.pool chunk address
in_payload areas address chunk offset fit aligned on =
    let place : address ≡ place_of areas.pool chunk + offset = on.place in
    let sixteen = place_of-aligned areas.pool chunk fit.pool in
    let high : offset < bytes_of areas.pool chunk = on.of.2 in
    let low : 16 ≤ offset = on.of.0 in
    record { chunk_below = on.of.1; low = omega (arith, place, low); high = omega (arith, place, high, sixteen, aligned); aligned = aligned }

in_globals : (areas : Areas) (address offset : ℕ) → address % 4 ≡ 0 → IsOn areas address (InGlobals offset) → GlobalWord areas address
in_globals areas address offset aligned on =
    let place : address ≡ globals_place + offset = on.place in
    let high : offset < 4 * length areas.globals = on.of in
    record { low = omega (arith, place); high = omega (arith, place, high, aligned); aligned = aligned }

in_tables : (areas : Areas) (address offset : ℕ) → AreWords areas.tables → address % 4 ≡ 0 → IsOn areas address (InTables offset) → TableWord areas address
in_tables areas address offset words aligned on =
    let place : address ≡ tables_place + offset = on.place in
    let high : offset < 4 * length areas.tables = on.of in
    record { low = omega (arith, place); high = omega (arith, place, high, aligned); aligned = aligned; below = word-below areas.tables ((address - tables_place) / 4) words }

pub loaded-on : (areas : Areas) (address : ℕ) (spot : Spot) → Fit areas → AreWords areas.tables → address % 4 ≡ 0 → IsOn areas address spot → word_at (byte_at areas) address ≡ Some (word_on areas spot)
loaded-on areas address (InGlobals offset) fit words aligned on =
    let place : address ≡ globals_place + offset = on.place in
    let same : (address - globals_place) / 4 ≡ offset / 4 = omega (arith, place) in
    loaded-global areas address fit (in_globals areas address offset aligned on) ∙ ap (λ (i : ℕ). Some (get_or areas.globals i 0)) same
loaded-on areas address (InTables offset) fit words aligned on =
    let place : address ≡ tables_place + offset = on.place in
    let same : (address - tables_place) / 4 ≡ offset / 4 = omega (arith, place) in
    loaded-table areas address fit (in_tables areas address offset words aligned on) ∙ ap (λ (i : ℕ). Some (get_or areas.tables i 0)) same
loaded-on areas address (InPayload chunk offset) fit words aligned on =
    let place : address ≡ place_of areas.pool chunk + offset = on.place in
    let same : (address - place_of areas.pool chunk) / 4 ≡ offset / 4 = omega (arith, place) in
    loaded-payload areas chunk address fit (in_payload areas address chunk offset fit aligned on)
    ∙ ap (λ (i : ℕ). Some (Rattle.chunk_pool.specs.Pool.word_of areas.pool chunk i)) same

pub loaded-none : (areas : Areas) (address : ℕ) → None ≡ spot_of areas address → None ≡ word_at (byte_at areas) address
unfolding word_at half_at
loaded-none areas address none =
    ap (λ (spot : Option world.Spot). joined (2 ^ 16) (joined (2 ^ 8) (byte_on areas spot) (byte_at areas (address + 1))) (joined (2 ^ 8) (byte_at areas (address + 2)) (byte_at areas (address + 2 + 1)))) none

-- where a word can be loaded, its address is on the map
pub loaded_there : (areas : Areas) (address word : ℕ) → word_at (byte_at areas) address ≡ Some word → (spot : world.Spot) × (spot_of areas address ≡ Some spot)
loaded_there areas address word loaded = by (spot_of areas address) refl
  where
    by : (found : Option world.Spot) → spot_of areas address ≡ found → (spot : world.Spot) × (spot_of areas address ≡ Some spot)
    by None is = absurd (let both = loaded-none areas address (sym is) ∙ loaded in cc)
    by (Some spot) is = (spot, is)

-- ---- stores

pub unwritable-word : (areas : Areas) (address : ℕ) → is_writable areas address ≡ false → false ≡ word_is_writable (is_writable areas) address
unfolding word_is_writable half_is_writable
unwritable-word areas address never =
    sym (ap (λ (t : Bool). (t && is_writable areas (address + 1)) && (is_writable areas (address + 2) && is_writable areas (address + 2 + 1))) never)

-- where a word can be stored, its address is on the map, and writable there
may_write : (areas : Areas) (address : ℕ) (writable : Bool) → is_writable areas address ≡ writable → word_is_writable (is_writable areas) address ≡ true → writable ≡ true
may_write areas address true is may = refl
may_write areas address false is may = absurd (let both = unwritable-word areas address is ∙ may in cc)

pub written_there : (areas : Areas) (address : ℕ) → word_is_writable (is_writable areas) address ≡ true → (spot : world.Spot) × (spot_of areas address ≡ Some spot) × (is_writable_on (Some spot) ≡ true)
written_there areas address may = by (spot_of areas address) refl
  where
    by : (found : Option world.Spot) → spot_of areas address ≡ found → (spot : world.Spot) × (spot_of areas address ≡ Some spot) × (is_writable_on (Some spot) ≡ true)
    by None is = absurd (let no = may_write areas address false (ap is_writable_on is) may in cc)
    by (Some spot) is = (spot, is, may_write areas address (is_writable_on (Some spot)) (ap is_writable_on is) may)

pub writable-on : (areas : Areas) (address : ℕ) (spot : Spot) → Fit areas → address % 4 ≡ 0 → IsOn areas address spot → is_writable_on (Some (world_spot spot)) ≡ true → word_is_writable (is_writable areas) address ≡ true
writable-on areas address (InGlobals offset) fit aligned on may = writable-global areas address (in_globals areas address offset aligned on)
writable-on areas address (InTables offset) fit aligned on may = absurd (cc)
writable-on areas address (InPayload chunk offset) fit aligned on may = writable-payload areas chunk address fit (in_payload areas address chunk offset fit aligned on)

pub stored-on : (areas : Areas) (address value : ℕ) (spot : Spot) → Fit areas → address % 4 ≡ 0 → IsOn areas address spot → is_writable_on (Some (world_spot spot)) ≡ true → value < 2 ^ 32 →
    with_word_on areas spot value ≡ with_word with_byte areas address value
stored-on areas address value (InGlobals offset) fit aligned on may below =
    let place : address ≡ globals_place + offset = on.place in
    let same : offset / 4 ≡ (address - globals_place) / 4 = omega (arith, place) in
    ap (λ (i : ℕ). record areas { globals = set areas.globals i value }) same ∙ sym (stored-global areas address value fit (in_globals areas address offset aligned on) below)
stored-on areas address value (InTables offset) fit aligned on may below = absurd (cc)
stored-on areas address value (InPayload chunk offset) fit aligned on may below =
    let place : address ≡ place_of areas.pool chunk + offset = on.place in
    let same : offset / 4 ≡ (address - place_of areas.pool chunk) / 4 = omega (arith, place) in
    ap (λ (i : ℕ). record areas { pool = Rattle.chunk_pool.specs.Pool.with_word areas.pool chunk i value }) same
    ∙ sym (stored-payload areas chunk address value fit (in_payload areas address chunk offset fit aligned on) below)

-- a word that is written, by its bytes
pub written-word : (areas : Areas) (address value : ℕ) → IsPool areas.pool → word_is_writable (is_writable areas) address ≡ true → value < 2 ^ 32 →
    IsWritten (λ a. IsPool a.pool) byte_at is_writable areas (with_word with_byte areas address value) (with_word put_byte (byte_at areas) address value)
written-word areas address value sound may below = IsWritten-word (λ (a : Areas). IsPool a.pool) byte_at is_writable with_byte areas address value IsMemory-areas sound may below

-- a byte that is written
pub byte_stored-on : (areas : Areas) (address byte : ℕ) (spot : Spot) → IsPool areas.pool → IsOn areas address spot → Some (world_spot spot) ≡ spot_of areas address → is_writable_on (Some (world_spot spot)) ≡ true →
    with_word_on areas spot (word_with (word_on areas spot) (address % 4) byte) ≡ with_byte areas address byte
byte_stored-on areas address byte (InGlobals offset) sound on is may =
    let place : address ≡ globals_place + offset = on.place in
    let part : address % 4 ≡ offset % 4 = omega (arith, place) in
    ap (λ (k : ℕ). with_word_on areas (InGlobals offset) (word_with (word_on areas (InGlobals offset)) k byte)) part
    ∙ ap (λ (s : Option world.Spot). with_byte_on areas s byte) is
byte_stored-on areas address byte (InTables offset) sound on is may = absurd (cc)
byte_stored-on areas address byte (InPayload chunk offset) sound on is may =
    let place : address ≡ place_of areas.pool chunk + offset = on.place in
    let sixteen = place_of-aligned areas.pool chunk sound in
    let part : address % 4 ≡ offset % 4 = omega (arith, place, sixteen) in
    ap (λ (k : ℕ). with_word_on areas (InPayload chunk offset) (word_with (word_on areas (InPayload chunk offset)) k byte)) part
    ∙ ap (λ (s : Option world.Spot). with_byte_on areas s byte) is
