-- Words of the areas: what is loaded from and stored to four bytes of a payload, of the globals or of the tables is one word
-- of a chunk or of a row.
use Rattle.segment_laws.proofs.Common.{◌≡◌, ℕ, ◌+◌, ◌-◌, ◌*◌, ◌<◌, ◌≤◌, true, false, List, length, Some, None, ap, ◌∙◌, arith, nat_le, nat_lt, cond-true, cond-false, lt-ltb, le-ltb, le-leb, and_from, and_right, Pool, place_of, end_of, payload_place_of, chunk_at, IsPool, chunk_at-some, Areas, InGlobals, InTables, InPayload, globals_place, tables_place, is_within, payload_spot, spot_of, AreWords}

-- the areas fit the map: what pools keep, and globals and tables of so few words that they meet nothing else
pub record Fit (areas : Areas) : Type 0 where
  pub pool : IsPool areas.pool
  pub globals : length areas.globals ≤ 65536
  pub tables : length areas.tables ≤ 65536
  pub global_words : AreWords areas.globals

-- ---- spots

pub outside : (place : ℕ) (words : List ℕ) (address : ℕ) → place + 4 * length words ≤ address → is_within place words address ≡ false
outside place words address past = and_right (nat_le place address) (nat_lt address (place + 4 * length words)) (le-ltb address (place + 4 * length words) past)

pub inside : (place : ℕ) (words : List ℕ) (address : ℕ) → place ≤ address → address < place + 4 * length words → is_within place words address ≡ true
inside place words address low high = and_from (nat_le place address) (nat_lt address (place + 4 * length words)) (le-leb place address low) (lt-ltb address (place + 4 * length words) high)

-- a byte of a payload
pub record InsidePayload (pool : Pool) (chunk address : ℕ) : Type 0 where
  pub chunk_below : chunk < pool.count
  pub low : payload_place_of pool chunk ≤ address
  pub high : address < end_of pool chunk

pub spot_of-payload : (areas : Areas) (chunk address : ℕ) → Fit areas → InsidePayload areas.pool chunk address →
    spot_of areas address ≡ Some (InPayload chunk (address - place_of areas.pool chunk))
unfolding spot_of
spot_of-payload areas chunk address fit is =
    let rest = payload_spot areas.pool address (chunk_at areas.pool address) in
    let no_global : is_within globals_place areas.globals address ≡ false = outside globals_place areas.globals address (omega (arith, fit.globals, is.low)) in
    let no_table : is_within tables_place areas.tables address ≡ false = outside tables_place areas.tables address (omega (arith, fit.tables, is.low)) in
    let found : chunk_at areas.pool address ≡ Some chunk = chunk_at-some areas.pool chunk address (is.chunk_below, omega (arith, is.low), is.high) in
    cond-false (is_within globals_place areas.globals address) _ _ no_global
    ∙ cond-false (is_within tables_place areas.tables address) (Some (InTables (address - tables_place))) rest no_table
    ∙ ap (payload_spot areas.pool address) found
    ∙ cond-true (nat_le (payload_place_of areas.pool chunk) address) (Some (InPayload chunk (address - place_of areas.pool chunk))) None (le-leb (payload_place_of areas.pool chunk) address is.low)

pub spot_of-global : (areas : Areas) (address : ℕ) → globals_place ≤ address → address < globals_place + 4 * length areas.globals →
    spot_of areas address ≡ Some (InGlobals (address - globals_place))
unfolding spot_of
spot_of-global areas address low high = cond-true (is_within globals_place areas.globals address) _ _ (inside globals_place areas.globals address low high)

pub spot_of-table : (areas : Areas) (address : ℕ) → Fit areas → tables_place ≤ address → address < tables_place + 4 * length areas.tables →
    spot_of areas address ≡ Some (InTables (address - tables_place))
unfolding spot_of
spot_of-table areas address fit low high =
    let no_global : is_within globals_place areas.globals address ≡ false = outside globals_place areas.globals address (omega (arith, fit.globals)) in
    cond-false (is_within globals_place areas.globals address) _ _ no_global
    ∙ cond-true (is_within tables_place areas.tables address) _ _ (inside tables_place areas.tables address low high)
