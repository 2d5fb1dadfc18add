-- Small threads, run by the definitions alone: the outcome of each is computed.
use Rattle.std.specs.Prelude.{ℕ, List, [], ◌∷◌, Option, Some, None, replicate}
use Rattle.cap_word.specs.Runs.{Goes, Asks, Stops, moves}
use Rattle.chunk_pool.specs.Pool.{Pool, all_free}
use Rattle.machine_world.specs.Areas.{Areas}
use Rattle.machine_world.specs.Local.{Local, LocalMove, Question, End, Ended, Trapped, NoRoom, Wrong, local_machine, passed}

-- the code of `int main() { put(7); return 0; }`: the end stub, the prologue, put(7), return 0, and the return at the
-- end of every int function
abbrev pub one_put : List ℕ
one_put =
    0x01e00893 ∷ 0x00000073 ∷
    0xff010113 ∷ 0x00112623 ∷
    0x000002b7 ∷ 0x00728293 ∷ 0x00512023 ∷
    0x00012503 ∷ 0x00300893 ∷ 0x00000073 ∷
    0x000002b7 ∷ 0x00028293 ∷ 0x00512023 ∷
    0x00012503 ∷ 0x00c12083 ∷ 0x01010113 ∷ 0x00008067 ∷
    0x000002b7 ∷ 0x00028293 ∷ 0x00512023 ∷
    0x00012503 ∷ 0x00c12083 ∷ 0x01010113 ∷ 0x00008067 ∷ []

-- a pool of chunks of 64 bytes and none of a second size, all words 0, with this free list
abbrev pub blank_pool : ℕ → List ℕ → Pool
blank_pool count free = record {
  count = count;
  first_count = count;
  words = 16;
  extra_words = 8;
  contents = replicate count (replicate 16 0);
  free = free;
  extra_free = [];
}

abbrev pub blank : ℕ → List ℕ → Areas
blank count free = record { pool = blank_pool count free; globals = []; tables = [] }

-- registers with these values of ra, sp, tp, t1, a0 and a7, and 0 in all others
abbrev pub registers : ℕ → ℕ → ℕ → ℕ → ℕ → ℕ → List ℕ
registers ra sp tp t1 a0 a7 =
    0 ∷ ra ∷ sp ∷ 0 ∷ tp ∷ 0 ∷ t1 ∷ 0 ∷ 0 ∷ 0 ∷ a0 ∷ 0 ∷ 0 ∷ 0 ∷ 0 ∷ 0 ∷ 0 ∷ a7 ∷ replicate 14 0

-- a thread at the start of main, on the only chunk of a pool
abbrev pub main_thread : Local
main_thread = record {
  areas = blank 1 [];
  core = record { pc = 0x1008; x = registers 0x1000 0x8000_0040 0x8000_0010 0 0 0; chain = 0 ∷ [] };
}

-- the same thread n steps after its first question was answered without a result
abbrev pub after_answer : List ℕ → ℕ → LocalMove → LocalMove
after_answer code n (Goes l) = Goes l
after_answer code n (Asks question l) = moves (local_machine code) n (record l { core = passed l.core None })
after_answer code n (Stops end) = Stops end

abbrev pub question_of : LocalMove → Option Question
question_of (Goes l) = None
question_of (Asks question l) = Some question
question_of (Stops end) = None

abbrev pub free_at : End → List ℕ
free_at (Ended areas) = all_free areas.pool
free_at (Trapped kind) = []
free_at NoRoom = []
free_at Wrong = []

abbrev pub free_at_end : LocalMove → Option (List ℕ)
free_at_end (Goes l) = None
free_at_end (Asks question l) = None
free_at_end (Stops end) = Some (free_at end)

-- code that consists of one ECALL, and a thread there on a pool of two chunks
abbrev pub ecall : List ℕ
ecall = 0x00000073 ∷ []

abbrev pub at_ecall : ℕ → ℕ → List ℕ → List ℕ → Local
at_ecall tp a7 chain free = record {
  areas = blank 2 free;
  core = record { pc = 0x1000; x = registers 0x1000 0x8000_0020 tp 48 0 a7; chain = chain };
}

-- the thread after its LINK: chunk 1 is in front, its header has the tp and sp from before, and tp and sp are its
-- payload and its end
abbrev pub linked_thread : Local
linked_thread = record {
  areas = record {
    pool = record (blank_pool 2 []) { contents = replicate 16 0 ∷ (0x8000_0010 ∷ 0x8000_0020 ∷ replicate 14 0) ∷ [] };
    globals = [];
    tables = [];
  };
  core = record { pc = 0x1004; x = registers 0x1000 0x8000_0080 0x8000_0050 48 0 1; chain = 1 ∷ 0 ∷ [] };
}
