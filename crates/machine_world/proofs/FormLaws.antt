-- A step of one thread keeps the form of areas and thread: what is stored are words, chunks are taken free and given back
-- held, and registers get words.
use Rattle.machine_world.proofs.Common.{◌≡◌, ℕ, ◌+◌, ◌/◌, ◌%◌, ◌^◌, ◌<◌, ◌≤◌, Bool, true, false, nat_eq, List, [], ◌∷◌, length, get_or, set, Option, Some, None, refl, ap, subst, ◌∙◌, arith, cond, inl, ⊎_elim, IfSome, nat_lt, cond_both, cases_lt, lt-ltb, le-ltb, eq-eqb, length-set, get_or_past, All-set, All-get_or, place_of-bounded, taken_for-sound, taken_for-shape, IsPool-with_word, IsPool-after_give, with_stored, with_half, with_word, Stored, Nothing, Byte, Half, Word, read, write, machine_after, word_with-below, Areas, Spot, InGlobals, InTables, InPayload, spot_of, byte_on, with_byte_on, with_byte, copies, copies_in, sp, tp, t1, a0, a1, Core, Local, LocalMove, Starts, Ended, after_call, with_header, machine_of, local_step, with_result, passed, Checked, AreWords, AreWellFormed, IsCore, IsChunk-chunk_of, words_of-payload, first_bytes-same, length-write}
use Rattle.cap_word.specs.Runs as runs
use Rattle.cap_word.proofs.WordRange.{add-below}
use Rattle.chunk_pool.specs.Pool.{Pool, Taken, taken_for, after_give, chunk_of, word_of, IsPool, IsHeld, all_free, payload_place_of, end_of}
use Rattle.chunk_pool.proofs.FreeLaws.{absent_from_copies}
use Rattle.rv_machine.specs.Rows as rows
use Rattle.rv_machine.specs.Words.{IsWords, TellsWords}
use Rattle.rv_machine.proofs.WordLaws.{read-below, IsWords-outcome, TellsWords-outcome}
use Rattle.machine_world.proofs.AreaLaws.{IsPool-with_byte}
use Rattle.machine_world.proofs.LocalCases.{on_local}
use Rattle.machine_world.proofs.HeldLaws.{copies-cons}

-- ---- words

pub word-below : (words : List ℕ) (i : ℕ) → AreWords words → get_or words i 0 < 2 ^ 32
word-below words i are = ⊎_elim
    (λ (within : i < length words). All-get_or (λ word. word < 2 ^ 32) words i 0 within are)
    (λ (past : length words ≤ i). let none : get_or words i 0 ≡ 0 = get_or_past words i 0 past in omega arith)
    (cases_lt i (length words))

AreWords-write : (x : List ℕ) (register value : ℕ) → value < 2 ^ 32 → AreWords x → AreWords (write x register value)
AreWords-write x register value below words =
    cond_both (nat_eq register 0) x (set x register value) AreWords (λ _. words) (λ _. All-set (λ (v : ℕ). v < 2 ^ 32) x register value below words)

-- ---- the areas under what is stored

AreWellFormed-byte_on : (c : Checked) (areas : Areas) (spot : Option Spot) (b : ℕ) → AreWellFormed c areas → IsPool (with_byte_on areas spot b).pool → b < 2 ^ 8 → AreWellFormed c (with_byte_on areas spot b)
AreWellFormed-byte_on c areas (Some (InGlobals offset)) b form pool below = record {
  pool = form.pool;
  chunk = form.chunk;
  globals = length-set areas.globals (offset / 4) _ ∙ form.globals;
  global_words = All-set (λ (v : ℕ). v < 2 ^ 32) areas.globals (offset / 4) _
      (word_with-below (get_or areas.globals (offset / 4) 0) (offset % 4) b (omega arith) below (word-below areas.globals (offset / 4) form.global_words)) form.global_words;
  tables = form.tables;
}
AreWellFormed-byte_on c areas (Some (InPayload chunk offset)) b form pool below = record {
  pool = pool;
  chunk = form.chunk;
  globals = form.globals;
  global_words = form.global_words;
  tables = form.tables;
}
AreWellFormed-byte_on c areas _ b form pool below = form

AreWellFormed-byte : (c : Checked) (areas : Areas) (a b : ℕ) → AreWellFormed c areas → b < 2 ^ 8 → AreWellFormed c (with_byte areas a b)
AreWellFormed-byte c areas a b form below = AreWellFormed-byte_on c areas (spot_of areas a) b form (IsPool-with_byte areas a b form.pool below) below

AreWellFormed-half : (c : Checked) (areas : Areas) (a h : ℕ) → AreWellFormed c areas → h < 2 ^ 16 → AreWellFormed c (with_half with_byte areas a h)
unfolding with_half
AreWellFormed-half c areas a h form below =
    let low : h % 2 ^ 8 < 2 ^ 8 = omega arith in
    let high : h / 2 ^ 8 < 2 ^ 8 = omega arith in
    AreWellFormed-byte c (with_byte areas a (h % 2 ^ 8)) (a + 1) (h / 2 ^ 8) (AreWellFormed-byte c areas a (h % 2 ^ 8) form low) high

AreWellFormed-word : (c : Checked) (areas : Areas) (a w : ℕ) → AreWellFormed c areas → w < 2 ^ 32 → AreWellFormed c (with_word with_byte areas a w)
unfolding with_word
AreWellFormed-word c areas a w form below =
    let low : w % 2 ^ 16 < 2 ^ 16 = omega arith in
    let high : w / 2 ^ 16 < 2 ^ 16 = omega arith in
    AreWellFormed-half c (with_half with_byte areas a (w % 2 ^ 16)) (a + 2) (w / 2 ^ 16) (AreWellFormed-half c areas a (w % 2 ^ 16) form low) high

AreWellFormed-stored : (c : Checked) (areas : Areas) (pc : ℕ) (x : List ℕ) (stored : Stored) → AreWellFormed c areas → TellsWords (rows.Goes pc x stored) → AreWellFormed c (with_stored with_byte stored areas)
AreWellFormed-stored c areas pc x Nothing form told = form
AreWellFormed-stored c areas pc x (Byte a v) form told = AreWellFormed-byte c areas a v form told.1
AreWellFormed-stored c areas pc x (Half a v) form told = AreWellFormed-half c areas a v form told.1
AreWellFormed-stored c areas pc x (Word a v) form told = AreWellFormed-word c areas a v form told.1

below_256 : (n : ℕ) → n % 2 ^ 8 < 2 ^ 8
below_256 n = omega arith

pub bytes_on : (areas : Areas) (spot : Option Spot) → IfSome (byte_on areas spot) (λ byte. byte < 2 ^ 8)
bytes_on areas None = tt
bytes_on areas (Some (InGlobals offset)) = below_256 _
bytes_on areas (Some (InTables offset)) = below_256 _
bytes_on areas (Some (InPayload chunk offset)) = below_256 _

IsWords-machine_of : (l : Local) → IsCore l.core → IsWords (machine_of l)
IsWords-machine_of l is = record {
  pc = is.pc;
  count = is.count;
  registers = is.registers;
  bytes = λ at. bytes_on l.areas (spot_of l.areas at);
}

-- ---- chunks of one thread

-- each chunk is in the thread's chain and the free list at most once, and no number that isn't below the count is
pub record Owns (l : Local) : Type 0 where
  pub once : (chunk : ℕ) → copies_in chunk l ≤ cond (nat_lt chunk l.areas.pool.count) 1 0

abbrev one_if : Bool → ℕ
one_if b = cond b 1 0

-- the front chunk is held
front_is_held : (l : Local) (chunk : ℕ) (chain : List ℕ) → Owns l → l.core.chain ≡ chunk ∷ chain → IsHeld l.areas.pool chunk
front_is_held l chunk chain owns is =
    let front : copies chunk l.core.chain ≡ cond (nat_eq chunk chunk) 1 0 + copies chunk chain = ap (copies chunk) is ∙ copies-cons chunk chunk chain in
    let one : one_if (nat_eq chunk chunk) ≡ one_if true = ap one_if (eq-eqb chunk chunk refl) in
    let most = owns.once chunk in
    ⊎_elim
    (λ (within : chunk < l.areas.pool.count).
    let count : one_if (nat_lt chunk l.areas.pool.count) ≡ one_if true = ap one_if (lt-ltb chunk l.areas.pool.count within) in
    let none : copies chunk (all_free l.areas.pool) ≡ 0 = omega (arith, front, one, most, count) in
    (within, absent_from_copies l.areas.pool chunk none))
    (λ (past : l.areas.pool.count ≤ chunk).
    let count : one_if (nat_lt chunk l.areas.pool.count) ≡ one_if false = ap one_if (le-ltb chunk l.areas.pool.count past) in
    absurd (omega (arith, front, one, most, count)))
    (cases_lt chunk l.areas.pool.count)

chunk_word-below : (pool : Pool) (chunk i : ℕ) → IsPool pool → chunk < pool.count → word_of pool chunk i < 2 ^ 32
chunk_word-below pool chunk i sound below =
    word-below (chunk_of pool chunk) i (IsChunk-chunk_of pool chunk sound below).fits

-- a chunk that was taken, with its header written
pub AreWellFormed-taken : (c : Checked) (areas : Areas) (need : ℕ) (taken : Taken) (tp_now sp_now : ℕ) → AreWellFormed c areas → taken_for areas.pool need ≡ Some taken → tp_now < 2 ^ 32 → sp_now < 2 ^ 32 →
    AreWellFormed c (record areas { pool = with_header taken.pool taken.chunk tp_now sp_now })
AreWellFormed-taken c areas need taken tp_now sp_now form some tp_below sp_below =
    let sound = taken_for-sound areas.pool need taken form.pool some in
    let first = IsPool-with_word taken.pool taken.chunk 0 tp_now sound.0 sound.1.0 tp_below (inl sound.1) in
    record {
      pool = IsPool-with_word _ taken.chunk 1 sp_now first sound.1.0 sp_below (inl sound.1);
      chunk = first_bytes-same areas.pool taken.pool (taken_for-shape areas.pool need taken some) ∙ form.chunk;
      globals = form.globals;
      global_words = form.global_words;
      tables = form.tables;
    }

-- its payload and its end are addresses
pub record AreAddresses (taken : Taken) : Type 0 where
  pub payload : payload_place_of taken.pool taken.chunk < 2 ^ 32
  pub end : end_of taken.pool taken.chunk < 2 ^ 32

pub AreAddresses-taken : (pool : Pool) (need : ℕ) (taken : Taken) → IsPool pool → taken_for pool need ≡ Some taken → AreAddresses taken
AreAddresses-taken pool need taken is some =
    let sound = taken_for-sound pool need taken is some in
    let bounded = place_of-bounded taken.pool taken.chunk sound.0 sound.1.0 in
    let words = words_of-payload taken.pool taken.chunk sound.0 sound.1.0 in
    record { payload = omega (arith, bounded, words); end = omega (arith, bounded) }

AreWellFormed-given : (c : Checked) (l : Local) (chunk : ℕ) (chain : List ℕ) → AreWellFormed c l.areas → Owns l → l.core.chain ≡ chunk ∷ chain →
    AreWellFormed c (record l.areas { pool = after_give l.areas.pool chunk })
AreWellFormed-given c l chunk chain form owns is = record {
  pool = IsPool-after_give l.areas.pool chunk form.pool (front_is_held l chunk chain owns is);
  chunk = form.chunk;
  globals = form.globals;
  global_words = form.global_words;
  tables = form.tables;
}

IsCore-after_call : (core : Core) (chain : List ℕ) (tp_now sp_now : ℕ) → IsCore core → tp_now < 2 ^ 32 → sp_now < 2 ^ 32 → IsCore (after_call core chain tp_now sp_now)
IsCore-after_call core chain tp_now sp_now is tp_below sp_below = record {
  pc = add-below core.pc 4;
  count = length-write (write core.x tp tp_now) sp sp_now (length-write core.x tp tp_now is.count);
  registers = AreWords-write (write core.x tp tp_now) sp sp_now sp_below (AreWords-write core.x tp tp_now tp_below is.registers);
}

pub IsCore-passed : (core : Core) (result : Option ℕ) → IsCore core → IfSome result (λ value. value < 2 ^ 32) → IsCore (passed core result)
IsCore-passed core None is below = record { pc = add-below core.pc 4; count = is.count; registers = is.registers }
IsCore-passed core (Some value) is below = record {
  pc = add-below core.pc 4;
  count = length-write core.x a0 value is.count;
  registers = AreWords-write core.x a0 value below is.registers;
}

pub IsCore-with_result : (core : Core) (result : Option ℕ) → IsCore core → IfSome result (λ value. value < 2 ^ 32) → IsCore (record core { x = with_result core.x result })
IsCore-with_result core None is below = record { pc = is.pc; count = is.count; registers = is.registers }
IsCore-with_result core (Some value) is below = record {
  pc = is.pc;
  count = length-write core.x a0 value is.count;
  registers = AreWords-write core.x a0 value below is.registers;
}

-- ---- moves

-- what a move leads to has its form, and a new thread is asked for at words
abbrev pub KeepsForm : Checked → LocalMove → Type 0
KeepsForm c (runs.Goes after) = AreWellFormed c after.areas × IsCore after.core
KeepsForm c (runs.Asks (Starts entry argument need) waiting) = (entry < 2 ^ 32) × (argument < 2 ^ 32)
KeepsForm c (runs.Stops (Ended areas)) = AreWellFormed c areas
KeepsForm c _ = Unit {0}

-- areas and thread have their form
pub record HasForm (c : Checked) (l : Local) : Type 0 where
  pub areas : AreWellFormed c l.areas
  pub core : IsCore l.core
  pub owns : Owns l

pub KeepsForm-step : (c : Checked) (code : List ℕ) (l : Local) → HasForm c l → KeepsForm c (local_step code l)
KeepsForm-step c code l form =
    let is = IsWords-machine_of l form.core in
    on_local code l (KeepsForm c) (record {
      goes = λ pc x stored e.
          let words = subst (λ (o : rows.Outcome). IsWords (machine_after o (machine_of l))) e (IsWords-outcome code (machine_of l) is) in
          let told = subst TellsWords e (TellsWords-outcome code (machine_of l) is) in
          (AreWellFormed-stored c l.areas pc x stored form.areas told, record { pc = words.pc; count = words.count; registers = words.registers });
      links = λ taken some.
          let addresses = AreAddresses-taken l.areas.pool (read l.core.x t1) taken form.areas.pool some in (
            AreWellFormed-taken c l.areas (read l.core.x t1) taken (read l.core.x tp) (read l.core.x sp) form.areas some (read-below l.core.x tp form.core.registers) (read-below l.core.x sp form.core.registers),
            IsCore-after_call l.core (taken.chunk ∷ l.core.chain) _ _ form.core addresses.payload addresses.end,
          );
      unlinks = λ given chain front.
          let held = front_is_held l given chain form.owns front in (
            AreWellFormed-given c l given chain form.areas form.owns front,
            IsCore-after_call l.core chain _ _ form.core (chunk_word-below l.areas.pool given 0 form.areas.pool held.0) (chunk_word-below l.areas.pool given 1 form.areas.pool held.0),
          );
      starts = (read-below l.core.x a0 form.core.registers, read-below l.core.x a1 form.core.registers);
      calls = λ number call some. tt;
      ends = λ last only. AreWellFormed-given c l last [] form.areas form.owns only;
      traps = λ kind. tt;
      no_room = tt;
      wrong = tt;
    })
