-- The map of the areas, address by address, as the code tests it.
use Rattle.segment_run.proofs.Common.{◌≡◌, inl, inr, ℕ, ◌+◌, ◌-◌, ◌*◌, ◌<◌, ◌≤◌, false, List, length, Option, Some, None, refl, sym, ap, ◌∙◌, arith, nat_le, nat_lt, cases_lt, cond-true, cond-false, le-leb, lt-leb, and_left, Pool, HasAddress, shape_of, place_of, payload_place_of, chunk_at, first_place, chunk_at-some, chunk_in-below, Areas, InGlobals, InTables, InPayload, globals_place, tables_place, is_within, payload_spot, spot_of, world_spot, IsOn, outside, inside}
use Rattle.machine_world.specs.Areas as world
use Rattle.segment_run.specs.declared.areas.Spot.{Spot}
use Rattle.segment_run.specs.declared.areas.Spot.TheVariants as spot

before : (place : ℕ) (words : List ℕ) (address : ℕ) → address < place → is_within place words address ≡ false
before place words address low = and_left (nat_le place address) (nat_lt address (place + 4 * length words)) (lt-leb place address low)

-- few words of globals and of tables
pub record AreFew (areas : Areas) : Type 0 where
  pub globals : length areas.globals ≤ 65536
  pub tables : length areas.tables ≤ 65536

spot_of-chunks : (areas : Areas) (address : ℕ) → is_within globals_place areas.globals address ≡ false → is_within tables_place areas.tables address ≡ false →
    spot_of areas address ≡ payload_spot areas.pool address (chunk_at areas.pool address)
unfolding spot_of
spot_of-chunks areas address no_global no_table =
    cond-false (is_within globals_place areas.globals address) _ _ no_global
    ∙ cond-false (is_within tables_place areas.tables address) (Some (InTables (address - tables_place))) _ no_table

chunk_at-low : (p : Pool) (address : ℕ) → address < first_place → chunk_at p address ≡ None
chunk_at-low p address low = chunk_in-below (shape_of p) address low

-- from the first chunk on
pub spot_of-high : (areas : Areas) (address : ℕ) → AreFew areas → first_place ≤ address → spot_of areas address ≡ payload_spot areas.pool address (chunk_at areas.pool address)
spot_of-high areas address few high =
    spot_of-chunks areas address (outside globals_place areas.globals address (omega (arith, few.globals))) (outside tables_place areas.tables address (omega (arith, few.tables)))

pub payload_spot-in : (p : Pool) (address chunk : ℕ) → payload_place_of p chunk ≤ address → payload_spot p address (Some chunk) ≡ Some (InPayload chunk (address - place_of p chunk))
payload_spot-in p address chunk low = cond-true (nat_le (payload_place_of p chunk) address) _ None (le-leb (payload_place_of p chunk) address low)

pub payload_spot-header : (p : Pool) (address chunk : ℕ) → address < payload_place_of p chunk → payload_spot p address (Some chunk) ≡ None
payload_spot-header p address chunk low = cond-false (nat_le (payload_place_of p chunk) address) (Some (InPayload chunk (address - place_of p chunk))) None (lt-leb (payload_place_of p chunk) address low)

-- below the first chunk
nothing_low : (areas : Areas) (address : ℕ) → address < first_place → payload_spot areas.pool address (chunk_at areas.pool address) ≡ None
nothing_low areas address low = ap (payload_spot areas.pool address) (chunk_at-low areas.pool address low)

pub spot_of-in_tables : (areas : Areas) (address : ℕ) → AreFew areas → tables_place ≤ address → address < tables_place + 4 * length areas.tables → spot_of areas address ≡ Some (InTables (address - tables_place))
unfolding spot_of
spot_of-in_tables areas address few low high =
    cond-false (is_within globals_place areas.globals address) _ _ (outside globals_place areas.globals address (omega (arith, few.globals)))
    ∙ cond-true (is_within tables_place areas.tables address) _ _ (inside tables_place areas.tables address low high)

pub spot_of-past_tables : (areas : Areas) (address : ℕ) → AreFew areas → tables_place + 4 * length areas.tables ≤ address → address < first_place → spot_of areas address ≡ None
spot_of-past_tables areas address few past low =
    spot_of-chunks areas address (outside globals_place areas.globals address (omega (arith, few.globals))) (outside tables_place areas.tables address past)
    ∙ nothing_low areas address low

pub spot_of-in_globals : (areas : Areas) (address : ℕ) → globals_place ≤ address → address < globals_place + 4 * length areas.globals → spot_of areas address ≡ Some (InGlobals (address - globals_place))
unfolding spot_of
spot_of-in_globals areas address low high = cond-true (is_within globals_place areas.globals address) _ _ (inside globals_place areas.globals address low high)

pub spot_of-past_globals : (areas : Areas) (address : ℕ) → globals_place + 4 * length areas.globals ≤ address → address < tables_place → spot_of areas address ≡ None
spot_of-past_globals areas address past low =
    spot_of-chunks areas address (outside globals_place areas.globals address past) (before tables_place areas.tables address low)
    ∙ nothing_low areas address (omega arith)

pub spot_of-below : (areas : Areas) (address : ℕ) → address < globals_place → spot_of areas address ≡ None
spot_of-below areas address low =
    spot_of-chunks areas address (before globals_place areas.globals address low) (before tables_place areas.tables address (omega arith))
    ∙ nothing_low areas address (omega arith)

-- ---- an address that is on the map, by its range

-- the spot of an address, as the code finds it
pub record Found (areas : Areas) (address : ℕ) (spot : Spot) : Type 0 where
  pub on : IsOn areas address spot
  pub is : Some (world_spot spot) ≡ spot_of areas address

-- from the first chunk on, in a payload
pub has_chunk : (areas : Areas) (address : ℕ) (on_map : world.Spot) → AreFew areas → first_place ≤ address → spot_of areas address ≡ Some on_map → (chunk : ℕ) × (chunk_at areas.pool address ≡ Some chunk) × (payload_place_of areas.pool chunk ≤ address)
has_chunk areas address on_map few high there = by (chunk_at areas.pool address) refl
  where
    none : {X : Type 0} → spot_of areas address ≡ None → X
    none e = absurd (let both = sym e ∙ there in cc)

    by : (found : Option ℕ) → chunk_at areas.pool address ≡ found → (chunk : ℕ) × (chunk_at areas.pool address ≡ Some chunk) × (payload_place_of areas.pool chunk ≤ address)
    by None is = none (spot_of-high areas address few high ∙ ap (payload_spot areas.pool address) is)
    by (Some chunk) is = elim (cases_lt address (payload_place_of areas.pool chunk)) [
      | inl low ↦ none (spot_of-high areas address few high ∙ ap (payload_spot areas.pool address) is ∙ payload_spot-header areas.pool address chunk low)
      | inr behind ↦ (chunk, is, behind)
    ]

pub found_in_payload : (areas : Areas) (address chunk offset : ℕ) → AreFew areas → HasAddress areas.pool chunk address → payload_place_of areas.pool chunk ≤ address → place_of areas.pool chunk + offset ≡ address → Found areas address (spot.InPayload chunk offset)
found_in_payload areas address chunk offset few has behind place =
    let same : address - place_of areas.pool chunk ≡ offset = omega (arith, place) in
    record {
      on = record { of = (omega (arith, behind, place), has.0, omega (arith, has.2, place)); place = sym place };
      is = sym (spot_of-high areas address few (omega (arith, has.1)) ∙ ap (payload_spot areas.pool address) (chunk_at-some areas.pool chunk address has)
          ∙ payload_spot-in areas.pool address chunk behind ∙ ap (λ (o : ℕ). Some (InPayload chunk o)) same);
    }

-- below it, in the tables
pub found_in_tables : (areas : Areas) (address : ℕ) (on_map : world.Spot) → AreFew areas → tables_place ≤ address → address < first_place → spot_of areas address ≡ Some on_map → Found areas address (spot.InTables (address - tables_place))
found_in_tables areas address on_map few high low there = elim (cases_lt address (tables_place + 4 * length areas.tables)) [
  | inl within ↦ record { on = record { of = omega (arith, within, high); place = omega (arith, high) }; is = sym (spot_of-in_tables areas address few high within) }
  | inr past ↦ absurd (let both = sym (spot_of-past_tables areas address few past low) ∙ there in cc)
]

-- and below these, in the globals
pub from_globals : (areas : Areas) (address : ℕ) (on_map : world.Spot) → spot_of areas address ≡ Some on_map → globals_place ≤ address
from_globals areas address on_map there = elim (cases_lt address globals_place) [
  | inl low ↦ absurd (let both = sym (spot_of-below areas address low) ∙ there in cc)
  | inr high ↦ high
]

pub found_in_globals : (areas : Areas) (address : ℕ) (on_map : world.Spot) → address < tables_place → spot_of areas address ≡ Some on_map → Found areas address (spot.InGlobals (address - globals_place))
found_in_globals areas address on_map low there =
    let high = from_globals areas address on_map there in
    elim (cases_lt address (globals_place + 4 * length areas.globals)) [
      | inl within ↦ record { on = record { of = omega (arith, within, high); place = omega (arith, high) }; is = sym (spot_of-in_globals areas address high within) }
      | inr past ↦ absurd (let both = sym (spot_of-past_globals areas address past low) ∙ there in cc)
    ]
