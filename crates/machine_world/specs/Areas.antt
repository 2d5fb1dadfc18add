-- The memory of the threads: the pool of chunks, the globals and the tables, each at its address in the map.
--
--   Globals            from 0x10000000, readable and writable
--   Tables             from 0x20000000, readable
--   Payloads of chunks from 0x80000000, readable and writable, of free chunks too
--
-- Every other byte, and so every header, is neither. The free lists aren't memory.
use Rattle.std.specs.Prelude.{ℕ, ◌+◌, ◌-◌, ◌*◌, ◌/◌, ◌%◌, ◌&&◌, Bool, true, false, List, length, Option, Some, None, if◌then◌else◌, nat_le, nat_lt}
use Rattle.chunk_pool.specs.Pool.{Pool, start_pool, chunk_of, word_of, with_word, place_of, payload_place_of, chunk_at}
use Rattle.rv_machine.specs.WordBytes.{word_with, byte_in, words_with}

pub record Areas : Type 0 where
  pub pool : Pool
  pub globals : List ℕ
  pub tables : List ℕ

-- the areas at the start of a run: a new pool of chunks of both sizes, given in bytes, and the words of the globals and
-- the tables
abbrev pub new_areas : (chunks bytes extra extra_bytes : ℕ) → (globals tables : List ℕ) → Areas
new_areas chunks bytes extra extra_bytes globals tables =
    record { pool = start_pool chunks (bytes / 4) extra (extra_bytes / 4); globals = globals; tables = tables }

-- the addresses of the first global word and of the first table word
abbrev pub globals_place : ℕ
globals_place = 0x1000_0000

abbrev pub tables_place : ℕ
tables_place = 0x2000_0000

-- the place of a byte in the map: its offset in bytes from the start of the globals, of the tables, or of a chunk
pub data Spot : Type 0 where
  InGlobals : (offset : ℕ) → Spot
  InTables : (offset : ℕ) → Spot
  InPayload : (chunk offset : ℕ) → Spot

-- the address is that of a byte of these words, which begin at a place
abbrev pub is_within : ℕ → List ℕ → ℕ → Bool
is_within place words address = nat_le place address && nat_lt address (place + 4 * length words)

-- the spot of an address in a chunk: a byte of the map exactly if it comes after the header
abbrev pub payload_spot : Pool → ℕ → Option ℕ → Option Spot
payload_spot pool address None = None
payload_spot pool address (Some chunk) =
    if nat_le (payload_place_of pool chunk) address then Some (InPayload chunk (address - place_of pool chunk)) else None

-- the spot of an address, if it is on the map
unfoldable pub spot_of : Areas → ℕ → Option Spot
spot_of areas address =
    if is_within globals_place areas.globals address then Some (InGlobals (address - globals_place)) else
    if is_within tables_place areas.tables address then Some (InTables (address - tables_place)) else
    payload_spot areas.pool address (chunk_at areas.pool address)

-- the byte at a spot
abbrev pub byte_on : Areas → Option Spot → Option ℕ
byte_on areas None = None
byte_on areas (Some (InGlobals offset)) = Some (byte_in areas.globals offset)
byte_on areas (Some (InTables offset)) = Some (byte_in areas.tables offset)
byte_on areas (Some (InPayload chunk offset)) = Some (byte_in (chunk_of areas.pool chunk) offset)

-- a byte may be written at this spot
abbrev pub is_writable_on : Option Spot → Bool
is_writable_on None = false
is_writable_on (Some (InGlobals offset)) = true
is_writable_on (Some (InTables offset)) = false
is_writable_on (Some (InPayload chunk offset)) = true

-- the areas after a byte is written at a writable spot; nothing else changes, and at any other spot nothing is written
abbrev pub with_byte_on : Areas → Option Spot → ℕ → Areas
with_byte_on areas None byte = areas
with_byte_on areas (Some (InGlobals offset)) byte = record areas { globals = words_with areas.globals offset byte }
with_byte_on areas (Some (InTables offset)) byte = areas
with_byte_on areas (Some (InPayload chunk offset)) byte =
    record areas { pool = with_word areas.pool chunk (offset / 4) (word_with (word_of areas.pool chunk (offset / 4)) (offset % 4) byte) }

-- ---- the areas as memory by bytes

-- the byte at an address, if it is readable
abbrev pub byte_at : Areas → ℕ → Option ℕ
byte_at areas address = byte_on areas (spot_of areas address)

-- the address is writable
abbrev pub is_writable : Areas → ℕ → Bool
is_writable areas address = is_writable_on (spot_of areas address)

-- the areas after a byte is written
abbrev pub with_byte : Areas → ℕ → ℕ → Areas
with_byte areas address byte = with_byte_on areas (spot_of areas address) byte
