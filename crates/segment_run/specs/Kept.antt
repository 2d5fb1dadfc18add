-- How the areas are kept: the pool, and a vector of words for the globals and one for the tables.
use Rattle.std.specs.Prelude.{◌≤◌, length}
use Rattle.chunk_pool.specs.Pool.{IsPool}
use Rattle.machine_world.specs.Areas as world
use Rattle.machine_world.specs.WellFormed.{AreWords}
use Rattle.segment_run.specs.declared.areas.Areas.TheInside.{Inside}

abbrev pub areas_of : Inside → world.Areas
areas_of a = record { pool = a.pool; globals = a.globals.items; tables = a.tables.items }

-- at most 65,536 global words and at most 65,536 table words, and the invariant of the pool
pub record AreKept (areas : world.Areas) : Type 0 where
  pub pool : IsPool areas.pool
  pub globals : length areas.globals ≤ 65536
  pub tables : length areas.tables ≤ 65536
  pub global_words : AreWords areas.globals
  pub table_words : AreWords areas.tables
