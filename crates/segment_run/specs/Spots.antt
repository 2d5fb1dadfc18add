-- Spots of the map in the code.
use Rattle.std.specs.Prelude.{◌≡◌, ℕ, ◌+◌, ◌*◌, ◌/◌, ◌<◌, ◌≤◌, length, slice_index, slice_set}
use Rattle.chunk_pool.specs.Pool.{word_of, with_word, place_of, bytes_of}
use Rattle.machine_world.specs.Areas as world
use Rattle.machine_world.specs.Areas.{globals_place, tables_place}
use Rattle.segment_run.specs.declared.areas.Spot.{Spot}
use Rattle.segment_run.specs.declared.areas.Spot.TheVariants.{InGlobals, InTables, InPayload}

abbrev pub world_spot : Spot → world.Spot
world_spot (InGlobals offset) = world.InGlobals offset
world_spot (InTables offset) = world.InTables offset
world_spot (InPayload chunk offset) = world.InPayload chunk offset

-- the spot is one of a word of the areas
abbrev pub IsSpotOf : world.Areas → Spot → Type 0
IsSpotOf areas (InGlobals offset) = offset < 4 * length areas.globals
IsSpotOf areas (InTables offset) = offset < 4 * length areas.tables
IsSpotOf areas (InPayload chunk offset) = (16 ≤ offset) × (chunk < areas.pool.count) × (offset < bytes_of areas.pool chunk)

-- and it is the spot of an address
abbrev pub IsPlaceOf : world.Areas → ℕ → Spot → Type 0
IsPlaceOf areas address (InGlobals offset) = address ≡ globals_place + offset
IsPlaceOf areas address (InTables offset) = address ≡ tables_place + offset
IsPlaceOf areas address (InPayload chunk offset) = address ≡ place_of areas.pool chunk + offset

pub record IsOn (areas : world.Areas) (address : ℕ) (spot : Spot) : Type 0 where
  pub of : IsSpotOf areas spot
  pub place : IsPlaceOf areas address spot

-- the word there, and the areas after it is written
abbrev pub word_on : world.Areas → Spot → ℕ
word_on areas (InGlobals offset) = slice_index areas.globals (offset / 4)
word_on areas (InTables offset) = slice_index areas.tables (offset / 4)
word_on areas (InPayload chunk offset) = word_of areas.pool chunk (offset / 4)

abbrev pub with_word_on : world.Areas → Spot → ℕ → world.Areas
with_word_on areas (InGlobals offset) value = record areas { globals = slice_set areas.globals (offset / 4) value }
with_word_on areas (InTables offset) value = record areas { tables = slice_set areas.tables (offset / 4) value }
with_word_on areas (InPayload chunk offset) value = record areas { pool = with_word areas.pool chunk (offset / 4) value }
