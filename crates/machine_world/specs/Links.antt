-- What an UNLINK just after a LINK restores.
use Rattle.std.specs.Prelude.{◌≡◌, ℕ}
use Rattle.chunk_pool.specs.Pool.{payload_of, all_free}
use Rattle.rv_machine.specs.Registers.{read}
use Rattle.machine_world.specs.Held.{copies}
use Rattle.machine_world.specs.Local.{Local}

-- chain, registers, globals and tables are as before, each chunk occurs as often in the free lists, and all payloads
-- have the same words
pub record IsUndone (old new : Local) : Type 0 where
  pub chain : new.core.chain ≡ old.core.chain
  pub registers : (r : ℕ) → read new.core.x r ≡ read old.core.x r
  pub globals : new.areas.globals ≡ old.areas.globals
  pub tables : new.areas.tables ≡ old.areas.tables
  pub free : (chunk : ℕ) → copies chunk (all_free new.areas.pool) ≡ copies chunk (all_free old.areas.pool)
  pub payloads : (chunk : ℕ) → payload_of new.areas.pool chunk ≡ payload_of old.areas.pool chunk
