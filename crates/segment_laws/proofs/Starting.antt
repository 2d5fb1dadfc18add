-- A new thread rests at its function's first word.
use Rattle.segment_laws.proofs.Common.{◌≡◌, ℕ, zero, suc, ◌+◌, ◌*◌, ◌^◌, ◌<◌, ◌≤◌, Bool, true, cond, List, [], ◌∷◌, length, replicate, Some, refl, sym, ap, arith, lit<, ⊎_elim, nat_lt, slice_index, AllByRecursion, eq-eqb, lt-ltb, leb-true, All-from_recursion, Pool, Taken, taken_for, end_of, payload_place_of, IsFree, IsPool, all_free, payload_bytes_of, taken_for-leaves, taken_for-sound, taken_for-count, taken_for-fits, taken_for-shape, Contains-cases, read, function_at, fact_at, Areas, AreGlobals, copies, copies_in, Frame, IsFrame, HasFrames, a0, Checked, InPrologue, AtStart, start_registers, AreWellFormed, AreWords, AreWellFormed-taken, AreAddresses-taken, copies-cons, new_thread, RestsAtStart, CallFacts, words_of-payload, words_of-same, saved_tp-with_header}
use Rattle.chunk_pool.proofs.FreeLaws.{copies-free, copies-held, free_below_count}
use Rattle.segment_laws.proofs.Linking.{header_sp}
use Rattle.segment_laws.proofs.Needs.{NeedsFit}

-- ---- chunks

abbrev one_if : Bool → ℕ
one_if b = cond b 1 0

-- each chunk is free at most once, and only where it is one
free_once : (p : Pool) (chunk : ℕ) → IsPool p → copies chunk (all_free p) ≤ cond (nat_lt chunk p.count) 1 0
free_once p chunk sound = ⊎_elim
    (λ (free : IsFree p chunk).
    let once : copies chunk (all_free p) ≡ 1 = copies-free p chunk sound free in
    let below = free_below_count p chunk sound free in
    let one : one_if (nat_lt chunk p.count) ≡ one_if true = ap one_if (lt-ltb chunk p.count below) in
    omega (arith, once, one))
    (λ (held : IsFree p chunk → ⊥). let none : copies chunk (all_free p) ≡ 0 = copies-held p chunk held in omega (arith, none))
    (Contains-cases (all_free p) chunk)

owns_new : (c : Checked) (areas : Areas) (taken : Taken) (need f argument chunk : ℕ) → IsPool areas.pool → taken_for areas.pool need ≡ Some taken → copies_in chunk (new_thread c areas taken f argument) ≤ cond (nat_lt chunk (new_thread c areas taken f argument).areas.pool.count) 1 0
owns_new c areas taken need f argument chunk sound e =
    let leaves : copies chunk (all_free areas.pool) ≡ copies chunk (taken.chunk ∷ all_free taken.pool) = taken_for-leaves areas.pool need taken e chunk in
    let split = copies-cons chunk taken.chunk (all_free taken.pool) in
    let alone = copies-cons chunk taken.chunk [] in
    let count : one_if (nat_lt chunk taken.pool.count) ≡ one_if (nat_lt chunk areas.pool.count) = ap (λ (n : ℕ). one_if (nat_lt chunk n)) (taken_for-count areas.pool need taken e) in
    let once = free_once areas.pool chunk sound in
    omega (arith, leaves, split, alone, count, once)

-- ---- registers

by_zeroes : (n : ℕ) → AllByRecursion (λ (v : ℕ). v < 2 ^ 32) (replicate n 0)
by_zeroes zero = tt
by_zeroes (suc n) = (lit< tt, by_zeroes n)

start_words : (sp_now tp_now argument : ℕ) → sp_now < 2 ^ 32 → tp_now < 2 ^ 32 → argument < 2 ^ 32 → AreWords (start_registers sp_now tp_now argument)
start_words sp_now tp_now argument sp_below tp_below below =
    All-from_recursion (λ (v : ℕ). v < 2 ^ 32) (start_registers sp_now tp_now argument)
    (lit< tt, (lit< tt, (sp_below, (lit< tt, (tp_below, (lit< tt, (lit< tt, (lit< tt, (lit< tt, (lit< tt, (below, by_zeroes 21)))))))))))

-- ---- the thread

pub starts : (c : Checked) (code : List ℕ) (areas : Areas) (taken : Taken) (need f argument : ℕ) (arguments : List ℕ) (globals : List (List ℕ)) → CallFacts c → NeedsFit c → AreWellFormed c areas → taken_for areas.pool need ≡ Some taken → (fact_at c.certificate f).bound ≤ need → f < length c.flat.functions → argument < 2 ^ 32 →
    length arguments ≡ (function_at c.flat f).params → ((k : ℕ) → k < length arguments → slice_index arguments k ≡ read (new_thread c areas taken f argument).core.x (a0 + k)) → AreGlobals c.flat globals areas.globals → RestsAtStart c (new_thread c areas taken f argument) f arguments globals
starts c code areas taken need f argument arguments globals calls needs form e enough there below count registers globals_are =
    let l = new_thread c areas taken f argument in
    let pool = l.areas.pool in
    let sound = taken_for-sound areas.pool need taken form.pool e in
    let addresses = AreAddresses-taken areas.pool need taken form.pool e in
    let well : AreWellFormed c l.areas = AreWellFormed-taken c areas need taken 0 0 form e (lit< tt) (lit< tt) in
    let entry = calls.entries f there in
    let entry_room = entry.room in
    let fit = leb-true need (payload_bytes_of areas.pool taken.chunk) (taken_for-fits areas.pool need taken form.pool e).1 in
    let words_same = words_of-same areas.pool taken.pool taken.chunk (taken_for-shape areas.pool need taken e) in
    let header = words_of-payload taken.pool taken.chunk sound.0 sound.1.0 in
    let frame : Frame = record { function = f; operation = 0; chunk = taken.chunk; low = end_of taken.pool taken.chunk; bytes = 0; returns = 4096; is_first = true } in
    let end_same : end_of taken.pool taken.chunk + 0 ≡ end_of taken.pool taken.chunk = omega arith in
    let frame_is : IsFrame c pool frame = record {
      function = there;
      chunk = sound.1.0;
      lowest = (let low : payload_place_of taken.pool taken.chunk ≤ end_of taken.pool taken.chunk = omega (arith, header) in low);
      highest = (let high : end_of taken.pool taken.chunk + 0 ≤ end_of taken.pool taken.chunk = omega arith in high);
      bound = (let room : payload_place_of taken.pool taken.chunk + (fact_at c.certificate f).bound ≤ end_of taken.pool taken.chunk + 0 = omega (arith, enough, fit, words_same, header) in room);
      first = sym (eq-eqb (end_of taken.pool taken.chunk + 0) (end_of taken.pool taken.chunk) end_same);
    } in
    let has : HasFrames c pool l.core (InPrologue f 0) (frame ∷ []) = record {
      at = (there, omega arith, (let pc : (fact_at c.certificate f).entry ≡ (fact_at c.certificate f).entry + 4 * 0 = omega arith in pc));
      frames_are = (record { function = refl; operation = refl; chunk_is = refl; low_is = refl; bytes_are = refl; returns_are = refl }, (frame_is, refl, refl, refl));
      front = refl;
      headers = (saved_tp-with_header taken.pool taken.chunk 0 0 sound.0 sound.1.0, header_sp taken.pool taken.chunk 0 0 sound.0 sound.1.0);
    } in
    record {
      form = record {
        areas = well;
        core = record {
          pc = omega (arith, entry_room);
          count = refl;
          registers = start_words (end_of taken.pool taken.chunk) (payload_place_of taken.pool taken.chunk) argument addresses.end addresses.payload below;
        };
        owns = record { once = λ chunk. owns_new c areas taken need f argument chunk form.pool e };
      };
      stands = record {
        rests = AtStart f (frame ∷ []) has;
        stands = (record { arguments = arguments; count = count; pushed_so = refl; registers = registers }, tt);
        globals_are = globals_are;
      };
      start = tt;
      may = tt;
      runs = refl;
    }
