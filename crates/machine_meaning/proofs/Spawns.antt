-- A step of a segment that starts a thread, beside the source's run.
use Rattle.machine_meaning.proofs.Common.{◌≡◌, ◌≢◌, ℕ, zero, suc, ◌+◌, ◌^◌, ◌<◌, ◌≤◌, List, [], ◌∷◌, ◌++◌, length, map, Option, Some, None, refl, sym, ap, subst, ◌∙◌, arith, length-append, ⊎_elim, slice_get, slice_index, nat_le, cases_eq, cond_both, spawn_of, most_threads, Signature, signature_at, moves, Stop, lowered, Waiting, function_at, source_resume, Segment, segment_machine, ProgramTree, IsWellScoped, IsValid, Taken, taken_for, FlatFunction, Op, AreGlobals, Frame, a0, Local, with_header, passed, IsAtCall, AtStart, PastCall, Waits, StandAtCall, StandsForThread, StandsForRest, Thread, World, Setting, first_with, thread_of, replaced, retired, resumed, with_thread, start_core, spawned, starts, Move, IsWellFormed, KeepsWellFormed, read, fact_at, Certificate, Image, rests_law, IsReached, StepReaches, IsSettledIf, IsUnderWay, first_with-replaced, first_with-append, read-write_same}
use Rattle.c_mean.specs.World as source
use Rattle.flat_code.specs.Codes as codes
use Rattle.flat_code.specs.WellFormed as flat
use Rattle.machine_meaning.proofs.Lowered.{function_is}
use Rattle.machine_meaning.proofs.Formed.{follows}
use Rattle.machine_world.specs.Threads as machine
use Rattle.machine_meaning.proofs.Forms.{has_form, rest_stays}
use Rattle.machine_meaning.proofs.Fresh.{kept_starting, new_stands}
use Rattle.machine_meaning.proofs.Passing.{past_waits}
use Rattle.machine_meaning.proofs.Staying.{settled_stays, past_may, holds_by, get_append_other, get_append_last}
use Rattle.machine_meaning.proofs.SegmentSteps.{facts, runs_from, own, form, reach}
use Rattle.machine_meaning.proofs.Threads.{replaced_same, append_same, none_from}

module _ (program : ProgramTree) (image : Image) (certificate : Certificate) (scoped : IsWellScoped program) (valid : IsValid (lowered program) image certificate) (s : Setting) (code_is : s.code ≡ image.code)
    (start : source.World) (number : ℕ) (puts : List ℕ) (w : World) (formed_w : IsWellFormed (record { flat = lowered program; certificate = certificate }) s w) (r : IsReached (record { flat = lowered program; certificate = certificate }) program s start number puts w) where
  abbrev checked : Rattle.machine_world.specs.Places.Checked
  checked = record { flat = lowered program; certificate = certificate }

  abbrev segment : Segment
  segment = r.segment

  abbrev thread : Thread
  thread = r.under_way.thread

  own_number : thread.number ≡ segment.number
  own_number = own program image certificate scoped valid s code_is start number puts w formed_w r

  abbrev running_now : Thread
  running_now = resumed thread (Some w.next)

  abbrev fresh : Taken → ℕ → ℕ → Thread
  fresh taken g argument = record { number = w.next; core = start_core taken (fact_at certificate g).entry argument; blocked = None }

  abbrev world_now : Taken → ℕ → ℕ → World
  world_now taken g argument = with_thread (retired w running_now w.areas) taken (fact_at certificate g).entry argument

  abbrev segment_now : Waiting → List (List ℕ) → ℕ → ℕ → Segment
  segment_now waiting globals g argument = record {
    number = segment.number;
    running = source_resume waiting (record { result = length segment.world.threads; globals = globals });
    world = record segment.world { threads = segment.world.threads ++ source.Fresh g (argument ∷ []) ∷ [] };
  }

  -- the running thread is another than the new one
  apart_next : segment.number ≢ w.next
  apart_next e = let there = r.under_way.there in let next = r.under_way.next in omega (arith, e, there, next)

  found_running : (taken : Taken) (g argument : ℕ) → first_with segment.number (world_now taken g argument).threads ≡ Some running_now
  found_running taken g argument =
      first_with-append segment.number (fresh taken g argument) (replaced running_now w.threads) apart_next
      ∙ ap (λ (n : ℕ). first_with n (replaced running_now w.threads)) (sym own_number)
      ∙ replaced_same running_now thread w.threads (ap (λ (n : ℕ). first_with n w.threads) own_number ∙ r.under_way.live)

  found_other : (taken : Taken) (g argument n : ℕ) → n ≢ segment.number → n ≢ w.next → first_with n (world_now taken g argument).threads ≡ thread_of w n
  found_other taken g argument n apart old = first_with-append n (fresh taken g argument) (replaced running_now w.threads) old ∙ first_with-replaced n running_now w.threads (λ e. apart (e ∙ own_number))

  found_fresh : (taken : Taken) (g argument : ℕ) → first_with w.next (world_now taken g argument).threads ≡ Some (fresh taken g argument)
  found_fresh taken g argument =
      append_same (fresh taken g argument) (replaced running_now w.threads)
      (first_with-replaced w.next running_now w.threads (λ e. apart_next (sym (e ∙ own_number))) ∙ none_from 0 w.next w.next w.threads formed_w.counted.numbered (omega arith))

  module _ (m : ℕ) (waiting : Waiting) (globals : List (List ℕ)) (f i word : ℕ) (site g x : ℕ) (d : Option ℕ) (frames : List Frame)
      (rests : IsAtCall checked w.areas.pool thread.core f i (Op.Spawn site d g x) word frames) (stands : StandAtCall checked program w.areas.pool (Op.Spawn site d g x) frames waiting) (globals_are : AreGlobals (lowered program) globals w.areas.globals) where
    formed_op : flat.IsOperation (flat.context_of (lowered program) (codes.function_at (lowered program) f)) (Op.Spawn site d g x)
    formed_op = ((facts program image certificate scoped valid s code_is).operation f i (Op.Spawn site d g x) rests.frames_are.at.0 rests.operation).formed

    there_g : g < length (lowered program).functions
    there_g = (let op = formed_op in omega (arith, op.0, Rattle.std.proofs.lemmas.List.length-map (lowered program).functions flat.signature_of))

    params_g : (function_at program g).params ≡ 1
    params_g =
        let program_there : g < length program.functions = omega (arith, there_g, Rattle.std.proofs.lemmas.List.length-map program.functions Rattle.c_lower.specs.ProgramCode.lowered_function) in
        let flat_params : (codes.function_at (lowered program) g).params ≡ (function_at program g).params = ap (λ (h : FlatFunction). h.params) (function_is program scoped g program_there) in
        let signature : signature_at (map flat.signature_of (lowered program).functions) g ≡ flat.signature_of (codes.function_at (lowered program) g) =
        Rattle.std.proofs.lemmas.List.get_or-map flat.signature_of (lowered program).functions g _ _ there_g in
        sym flat_params ∙ ap (λ (t : Signature). t.params) (sym signature) ∙ formed_op.1

    given : (k argument : ℕ) (taken : Taken) → k < length (argument ∷ []) → slice_index (argument ∷ []) k ≡ read (start_core taken (fact_at certificate g).entry argument).x (a0 + k)
    given zero argument taken lt = refl
    given (suc k) argument taken lt = absurd (omega arith)

    under_now : (taken : Taken) (need argument : ℕ) → taken_for w.areas.pool need ≡ Some taken → (fact_at certificate g).bound ≤ need → IsWellFormed checked s (world_now taken g argument) → IsUnderWay checked program s (world_now taken g argument) (segment_now waiting globals g argument)
    under_now taken need argument e enough formed_now =
        let u = r.under_way in
        let pool_now = with_header taken.pool taken.chunk 0 0 in
        let core_now = passed thread.core (Some w.next) in
        let l_now : Local = record { areas = (world_now taken g argument).areas; core = core_now } in
        let p = past_waits checked s.code program w.areas.pool thread.core f i word (Op.Spawn site d g x) frames waiting (Some w.next) (facts program image certificate scoped valid s code_is) (follows program scoped) rests stands in
        let on = rests_law checked w.areas.pool pool_now core_now (PastCall f i (Op.Spawn site d g x) word p.place p.frames p.past) (kept_starting checked s w segment.number need taken thread formed_w e u.live) in
        let long = (form program image certificate scoped valid s code_is start number puts w formed_w r).core.count in
        let result_is : length segment.world.threads ≡ read core_now.x a0 = sym u.next ∙ sym (read-write_same thread.core.x a0 w.next (omega arith) (omega (arith, long))) in
        let may = past_may checked pool_now core_now on.rests (on.past tt) in
        let stands_now : StandsForThread checked program l_now (Waits waiting) globals = record { rests = on.rests; stands = on.stands program (Waits waiting) p.stands; globals_are = globals_are } in
        let new_form = has_form checked s (world_now taken g argument) w.next (fresh taken g argument) formed_now (found_fresh taken g argument) in
        let small : argument < 2 ^ 32 = new_form.core.registers 10 0 (omega arith) in
        let new = new_stands program image certificate scoped valid w.areas taken need g argument (argument ∷ []) globals formed_w.areas e enough there_g small (sym params_g) (λ k lt. given k argument taken lt) globals_are in
        let threads = segment.world.threads ++ source.Fresh g (argument ∷ []) ∷ [] in
        let more : length threads ≡ length segment.world.threads + 1 = length-append segment.world.threads (source.Fresh g (argument ∷ []) ∷ []) in
        record {
          running = u.running;
          thread = running_now;
          live = found_running taken g argument;
          there = omega (arith, u.there, more);
          from = l_now;
          steps = 0;
          comes = refl;
          runs = runs_from program image certificate scoped valid s code_is l_now (Waits waiting) globals (length segment.world.threads) (has_form checked s (world_now taken g argument) segment.number running_now formed_now (found_running taken g argument)) stands_now may
              (holds_by checked pool_now core_now on.rests (length segment.world.threads) result_is);
          others = λ n apart. ⊎_elim
              (λ (same : n ≡ w.next).
              let last : n ≡ length segment.world.threads = same ∙ u.next in
              subst (λ (o : Option Thread). StandsForRest checked program pool_now o (slice_get threads n)) (sym (ap (λ (k : ℕ). first_with k (world_now taken g argument).threads) same ∙ found_fresh taken g argument))
              (subst (StandsForRest checked program pool_now (Some (fresh taken g argument))) (sym (ap (λ (k : ℕ). slice_get threads k) last ∙ get_append_last segment.world.threads (source.Fresh g (argument ∷ []))))
              (record { unblocked = refl; rests = AtStart g new.frames new.in_place; stands = new.stands })))
              (λ (old : n ≡ w.next → ⊥).
              subst (λ (o : Option Thread). StandsForRest checked program pool_now o (slice_get threads n)) (sym (found_other taken g argument n apart old))
              (subst (StandsForRest checked program pool_now (thread_of w n)) (sym (get_append_other segment.world.threads (source.Fresh g (argument ∷ [])) n (λ last. old (last ∙ sym u.next))))
              (rest_stays checked program w.areas.pool pool_now (thread_of w n) (slice_get segment.world.threads n) (λ v found. kept_starting checked s w n need taken v formed_w e found) (u.others n apart))))
              (cases_eq n w.next);
          settled = λ n apart. ⊎_elim
              (λ (same : n ≡ w.next).
              subst (IsSettledIf checked pool_now) (sym (ap (λ (k : ℕ). first_with k (world_now taken g argument).threads) same ∙ found_fresh taken g argument)) (AtStart g new.frames new.in_place, new.single))
              (λ (old : n ≡ w.next → ⊥).
              subst (IsSettledIf checked pool_now) (sym (found_other taken g argument n apart old))
              (settled_stays checked w.areas.pool pool_now (thread_of w n) (λ v found. kept_starting checked s w n need taken v formed_w e found) (u.settled n apart)))
              (cases_eq n w.next);
          exchange = u.exchange;
          next = (let next = u.next in omega (arith, next, more));
        }

    spawned_by : (need argument : ℕ) (found : Option Taken) → taken_for w.areas.pool need ≡ found → (fact_at certificate g).bound ≤ need → moves (segment_machine program s.caps) m segment ≡ source.calls s.caps segment globals waiting (spawn_of g argument)
        → KeepsWellFormed checked s (spawned w thread (fact_at certificate g).entry argument found) → StepReaches checked program s start number puts (spawned w thread (fact_at certificate g).entry argument found)
    spawned_by need argument None e enough comes keeps = tt
    spawned_by need argument (Some taken) e enough comes keeps =
        reach program image certificate scoped valid s code_is start number puts w formed_w r (world_now taken g argument) puts m (segment_now waiting globals g argument) comes refl r.outputs (under_now taken need argument e enough keeps)

    pub spawn_reach : (need argument : ℕ) → (fact_at certificate g).bound ≤ need → moves (segment_machine program s.caps) m segment ≡ source.calls s.caps segment globals waiting (spawn_of g argument)
        → KeepsWellFormed checked s (starts w thread (fact_at certificate g).entry argument need) → StepReaches checked program s start number puts (starts w thread (fact_at certificate g).entry argument need)
    spawn_reach need argument enough comes keeps =
        cond_both (nat_le most_threads (length w.threads)) (machine.Stops Stop.Threads) (spawned w thread (fact_at certificate g).entry argument (taken_for w.areas.pool need))
        (λ (move : Move). KeepsWellFormed checked s move → StepReaches checked program s start number puts move)
        (λ full keeps'. tt)
        (λ room keeps'. spawned_by need argument (taken_for w.areas.pool need) refl enough comes keeps')
        keeps
