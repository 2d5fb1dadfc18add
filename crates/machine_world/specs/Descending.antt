-- A program that links one chunk, run by the definitions: its checked code, the worlds of its run, and its frames just
-- after the link, at the callee's first word, and in the callee.
--
--   int f(int n) { int r; if (n < 1) return 0; r = f(n - 1); return r + 1; }
--   int main() { int r; r = f(1); put(r); return 0; }
--
-- Chunks have 80 bytes. The frame of main has 16 and that of f 32, so the payload of 64 has room for main and f(1), and
-- f(0) needs another chunk.
use Rattle.std.specs.Prelude.{ℕ, true, false, List, [], ◌∷◌, ◌++◌, length, map, flat_map, Option, Some, None}
use Rattle.std.specs.List.{range_with_len}
use Rattle.cap_word.specs.declared.stops.Stop.{Stop}
use Rattle.rv_code.specs.Table.{encoding}
use Rattle.rv_code.specs.declared.instructions.Instr.{Instr}
use Rattle.chunk_pool.specs.Pool.{Pool, all_free}
use Rattle.flat_code.specs.Codes.{function_at}
use Rattle.flat_code.specs.Samples.{descending}
use Rattle.stack_certificate.specs.declared.sites.LinkKind.{LinkKind}
use Rattle.stack_certificate.specs.Certificates.{fact_at}
use Rattle.stack_certificate.specs.Templates.{end_stub, prologue, template}
use Rattle.machine_world.specs.Local.{Core}
use Rattle.machine_world.specs.Places.{Checked}
use Rattle.machine_world.specs.InPlace.{Frame}
use Rattle.machine_world.specs.Threads.{Thread, World, Setting, Move, Goes, Puts, Spawns, Blocks, Ends, Stops, Wrong, step}
use Rattle.machine_world.specs.Runs.{start_world, Pick, and_then, after_actions, after_steps}
use Rattle.machine_world.specs.Areas.{new_areas}

-- ---- checked code

abbrev pub checked : Checked
checked = record {
  flat = descending;
  certificate = record {
    chunk = 80;
    max_path = 48;
    functions =
        record { entry = 4104; words = 67; frame = 32; ra = 28; bound = 32; places = 0 ∷ 4 ∷ 8 ∷ 12 ∷ [] } ∷
        record { entry = 4372; words = 30; frame = 16; ra = 12; bound = 48; places = 0 ∷ 4 ∷ [] } ∷ [];
    sites = record { number = 0; kind = LinkKind.Linked 32 } ∷ record { number = 1; kind = LinkKind.Plain } ∷ [];
  };
}

-- the instructions of a function: its prologue and its templates
abbrev pub instructions_of : Checked → ℕ → List Instr
instructions_of c f =
    prologue (fact_at c.certificate f) (function_at c.flat f).params ++
    flat_map (template c.flat c.certificate f) (range_with_len 0 (length (function_at c.flat f).ops))

-- the words of checked code: the end stub, and each function
abbrev pub words_of : Checked → List ℕ
words_of c = map encoding (end_stub ++ flat_map (instructions_of c) (range_with_len 0 (length c.flat.functions)))

-- these words, assembled by hand
abbrev pub code : List ℕ
code =
    0x01e00893 ∷ 0x00000073 ∷ 0xfe010113 ∷ 0x00112e23 ∷ 0x00a12023 ∷ 0x000002b7 ∷ 0x00028293 ∷ 0x00512223 ∷
    0x00012283 ∷ 0x00512423 ∷ 0x000002b7 ∷ 0x00128293 ∷ 0x00512623 ∷ 0x00812283 ∷ 0x00c12303 ∷ 0x0062a2b3 ∷
    0x00512423 ∷ 0x00812283 ∷ 0x00029463 ∷ 0x0200006f ∷ 0x000002b7 ∷ 0x00028293 ∷ 0x00512423 ∷ 0x00812503 ∷
    0x01c12083 ∷ 0x02010113 ∷ 0x00008067 ∷ 0x00012283 ∷ 0x00512423 ∷ 0x000002b7 ∷ 0x00128293 ∷ 0x00512623 ∷
    0x00812283 ∷ 0x00c12303 ∷ 0x406282b3 ∷ 0x00512423 ∷ 0x00812503 ∷ 0x00000337 ∷ 0x02030313 ∷ 0x406102b3 ∷
    0x0042e663 ∷ 0xf65ff0ef ∷ 0x0180006f ∷ 0x00100893 ∷ 0x00000073 ∷ 0xf55ff0ef ∷ 0x00200893 ∷ 0x00000073 ∷
    0x00a12223 ∷ 0x00412283 ∷ 0x00512423 ∷ 0x000002b7 ∷ 0x00128293 ∷ 0x00512623 ∷ 0x00812283 ∷ 0x00c12303 ∷
    0x006282b3 ∷ 0x00512423 ∷ 0x00812503 ∷ 0x01c12083 ∷ 0x02010113 ∷ 0x00008067 ∷ 0x000002b7 ∷ 0x00028293 ∷
    0x00512423 ∷ 0x00812503 ∷ 0x01c12083 ∷ 0x02010113 ∷ 0x00008067 ∷ 0xff010113 ∷ 0x00112623 ∷ 0x000002b7 ∷
    0x00028293 ∷ 0x00512023 ∷ 0x000002b7 ∷ 0x00128293 ∷ 0x00512223 ∷ 0x00412503 ∷ 0xed1ff0ef ∷ 0x00a12023 ∷
    0x00012283 ∷ 0x00512223 ∷ 0x00412503 ∷ 0x00300893 ∷ 0x00000073 ∷ 0x000002b7 ∷ 0x00028293 ∷ 0x00512223 ∷
    0x00412503 ∷ 0x00c12083 ∷ 0x01010113 ∷ 0x00008067 ∷ 0x000002b7 ∷ 0x00028293 ∷ 0x00512223 ∷ 0x00412503 ∷
    0x00c12083 ∷ 0x01010113 ∷ 0x00008067 ∷ []

-- ---- runs

abbrev pub setting : Setting
setting = record { code = code; fuel = 1000; backlog = 64; caps = [] }

-- the world with this many chunks when main has begun, after n steps
abbrev pub begun : ℕ → Option World
begun chunks =
    and_then (start_world (new_areas chunks 80 0 64 [] []) 4372 48) (after_actions setting (Pick 0 ∷ []))

abbrev pub world_at : ℕ → ℕ → Option World
world_at chunks n = and_then (begun chunks) (after_steps setting n)

-- the move after n steps
abbrev pub move_of : Option World → Option Move
move_of None = None
move_of (Some w) = Some (step setting w)

-- what is visible at an end: the number of retired instructions, the free list, and the number of live threads
pub record Shown : Type 0 where
  pub cost : ℕ
  pub free : List ℕ
  pub live : ℕ

abbrev pub shown : Option World → Option Shown
shown None = None
shown (Some w) = Some (record { cost = w.cost; free = all_free w.areas.pool; live = length w.threads })

abbrev pub put_in : Option Move → Option ℕ
put_in None = None
put_in (Some (Puts value after)) = Some value
put_in (Some (Goes after)) = None
put_in (Some (Spawns number after)) = None
put_in (Some (Blocks after)) = None
put_in (Some (Ends after)) = None
put_in (Some (Stops stop)) = None
put_in (Some Wrong) = None

abbrev pub stop_in : Option Move → Option Stop
stop_in None = None
stop_in (Some (Stops stop)) = Some stop
stop_in (Some (Puts value after)) = None
stop_in (Some (Goes after)) = None
stop_in (Some (Spawns number after)) = None
stop_in (Some (Blocks after)) = None
stop_in (Some (Ends after)) = None
stop_in (Some Wrong) = None

-- the pool and the first thread of a world
pub record Seen : Type 0 where
  pub pool : Pool
  pub core : Core

abbrev pub seen_first : World → List Thread → Option Seen
seen_first w [] = None
seen_first w (thread ∷ threads) = Some (record { pool = w.areas.pool; core = thread.core })

abbrev pub seen : Option World → Option Seen
seen None = None
seen (Some w) = seen_first w w.threads

-- ---- where the thread is

abbrev pub pool_of : List ℕ → List ℕ → Pool
pool_of first second = record {
  count = 2;
  first_count = 2;
  words = 20;
  extra_words = 16;
  contents = first ∷ second ∷ [];
  free = [];
  extra_free = [];
}

abbrev pub first_chunk : List ℕ
first_chunk = 0 ∷ 0 ∷ 0 ∷ 0 ∷ 0 ∷ 0 ∷ 0 ∷ 0 ∷ 1 ∷ 0 ∷ 0 ∷ 1 ∷ 0 ∷ 0 ∷ 0 ∷ 0x113c ∷ 0 ∷ 1 ∷ 0 ∷ 0x1000 ∷ []

-- at the second call instruction of the transfer, just after the LINK
abbrev pub at_link : Seen
at_link = record {
  pool = pool_of first_chunk (0x80000010 ∷ 0x80000020 ∷ 0 ∷ 0 ∷ 0 ∷ 0 ∷ 0 ∷ 0 ∷ 0 ∷ 0 ∷ 0 ∷ 0 ∷ 0 ∷ 0 ∷ 0 ∷ 0 ∷ 0 ∷ 0 ∷ 0 ∷ 0 ∷ []);
  core = record { pc = 0x10b4; x = 0 ∷ 0x113c ∷ 0x800000a0 ∷ 0 ∷ 0x80000060 ∷ 0x80000000 ∷ 0x20 ∷ 0 ∷ 0 ∷ 0 ∷ 0 ∷ 0 ∷ 0 ∷ 0 ∷ 0 ∷ 0 ∷ 0 ∷ 1 ∷ 0 ∷ 0 ∷ 0 ∷ 0 ∷ 0 ∷ 0 ∷ 0 ∷ 0 ∷ 0 ∷ 0 ∷ 0 ∷ 0 ∷ 0 ∷ 0 ∷ []; chain = 1 ∷ 0 ∷ [] };
}

-- at the first word of f(0)
abbrev pub at_entry : Seen
at_entry = record {
  pool = pool_of first_chunk (0x80000010 ∷ 0x80000020 ∷ 0 ∷ 0 ∷ 0 ∷ 0 ∷ 0 ∷ 0 ∷ 0 ∷ 0 ∷ 0 ∷ 0 ∷ 0 ∷ 0 ∷ 0 ∷ 0 ∷ 0 ∷ 0 ∷ 0 ∷ 0 ∷ []);
  core = record { pc = 0x1008; x = 0 ∷ 0x10b8 ∷ 0x800000a0 ∷ 0 ∷ 0x80000060 ∷ 0x80000000 ∷ 0x20 ∷ 0 ∷ 0 ∷ 0 ∷ 0 ∷ 0 ∷ 0 ∷ 0 ∷ 0 ∷ 0 ∷ 0 ∷ 1 ∷ 0 ∷ 0 ∷ 0 ∷ 0 ∷ 0 ∷ 0 ∷ 0 ∷ 0 ∷ 0 ∷ 0 ∷ 0 ∷ 0 ∷ 0 ∷ 0 ∷ []; chain = 1 ∷ 0 ∷ [] };
}

-- at the third word of f(0), which has its frame, with its return address in it
abbrev pub in_callee : Seen
in_callee = record {
  pool = pool_of first_chunk (0x80000010 ∷ 0x80000020 ∷ 0 ∷ 0 ∷ 0 ∷ 0 ∷ 0 ∷ 0 ∷ 0 ∷ 0 ∷ 0 ∷ 0 ∷ 0 ∷ 0 ∷ 0 ∷ 0 ∷ 0 ∷ 0 ∷ 0 ∷ 0x10b8 ∷ []);
  core = record { pc = 0x1010; x = 0 ∷ 0x10b8 ∷ 0x80000080 ∷ 0 ∷ 0x80000060 ∷ 0x80000000 ∷ 0x20 ∷ 0 ∷ 0 ∷ 0 ∷ 0 ∷ 0 ∷ 0 ∷ 0 ∷ 0 ∷ 0 ∷ 0 ∷ 1 ∷ 0 ∷ 0 ∷ 0 ∷ 0 ∷ 0 ∷ 0 ∷ 0 ∷ 0 ∷ 0 ∷ 0 ∷ 0 ∷ 0 ∷ 0 ∷ 0 ∷ []; chain = 1 ∷ 0 ∷ [] };
}

-- ---- frames

abbrev pub main_frame : Frame
main_frame = record { function = 1; operation = 2; chunk = 0; low = 0x8000_0040; bytes = 16; returns = 4096; is_first = true }

abbrev pub caller_frame : Frame
caller_frame = record { function = 0; operation = 10; chunk = 0; low = 0x8000_0020; bytes = 32; returns = 0x113c; is_first = false }

abbrev pub entry_frame : Frame
entry_frame = record { function = 0; operation = 0; chunk = 1; low = 0x8000_00a0; bytes = 0; returns = 0x10b8; is_first = true }

abbrev pub callee_frame : Frame
callee_frame = record { function = 0; operation = 0; chunk = 1; low = 0x8000_0080; bytes = 32; returns = 0x10b8; is_first = true }
