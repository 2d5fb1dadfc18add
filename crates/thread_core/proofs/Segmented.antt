-- A segment up to a call, as the state of a world shows it.
use Rattle.thread_core.proofs.Common.{◌≡◌, ◌≢◌, ℕ, zero, suc, ◌+◌, ◌-◌, ◌<◌, ◌⊎◌, inl, inr, Bool, true, false, List, [], ◌∷◌, length, Option, Some, None, option_map, IsSome, refl, sym, ◌∙◌, ap, subst, arith, slice_index_or, nat_eq, AllByRecursion, cases_eq, ThreadId, Acceptance, chunk_of, shape_of, Areas, Local, local_step, Checked, Blocked, Thread, World, Setting, first_with, thread_of, replaced, without, moved, step, IsWellFormed, KeepsWellFormed, KeepsWellFormed-step, checked_of, code_of, core_of, local_of, chain_from, AreOf, IsSegment, KeepsChunks, Context, Fuel, Segment, segment_keeps, replaced_gone, Slab, get, GoesOn, after_silent, goes_on, step_turns, IsNumbered, KeepsRecords, record_written, record_removed, IsKept, AreAligned, RunsAt, IsRunningThere, blocked_of, number_of, number_in, numbers_of, thread_of_record, threads_of, machine_of, setting_of, MayRun, Runs, IsNext, HasFuel, RanTo, RanOut, Ran, held_in, KeepsPlaces, Record, State, wait_at, count-same}
use Rattle.cap_word.specs.Runs as runs
use Rattle.machine_world.specs.Held.{copies_in, KeepsShape}
use Rattle.machine_world.specs.Local as local
use Rattle.machine_world.specs.Threads as machine
use Rattle.machine_world.proofs.HeldLaws.{KeepsShape-step}
use Rattle.segment_laws.specs.Ways.{WayIn, Leads}
use Rattle.segment_run.specs.declared.segments.Segment.TheVariants as answer
use Rattle.thread_core.proofs.OtherChains.{chain_stays}
use Rattle.thread_core.proofs.TellingLaws.{found_at, number_at}
use Rattle.machine_meaning.proofs.Threads.{without_same}

-- ---- any steps

formed_on : (c : Checked) (s : Setting) (n : ℕ) (w at : World) → IsWellFormed c s w → GoesOn s n w at → IsWellFormed c s at
formed_on c s zero w at formed e = subst (IsWellFormed c s) (sym e) formed
formed_on c s (suc n) w at formed h = formed_on c s n h.0 at (subst (KeepsWellFormed c s) h.1 (KeepsWellFormed-step c s w formed)) h.2

size_on : (c : Checked) (code : List ℕ) (n : ℕ) (l at : Local) → WayIn c code n l at → shape_of at.areas.pool ≡ shape_of l.areas.pool
size_on c code zero l at e = ap (λ (x : Local). shape_of x.areas.pool) (sym e)
size_on c code (suc n) l at way = size_on c code n way.1.0 at way.1.2 ∙ subst (KeepsShape l) way.1.1 (KeepsShape-step code l)

replaced_length : (t : Thread) (threads : List Thread) → length (replaced t threads) ≡ length threads
replaced_length t [] = refl
replaced_length t (x ∷ threads) = ap suc (replaced_length t threads)

gone_by : (number : ℕ) (x : Thread) (threads : List Thread) → first_with number (without number threads) ≡ None → (b : Bool) → nat_eq x.number number ≡ b → first_with number (without number (x ∷ threads)) ≡ None
gone_by number x threads rest true e = rw e rest
gone_by number x threads rest false e = rw (e, e) rest

abbrev with_chain : Record → Option Blocked → List ℕ → Thread
with_chain s blocked chain = record { number = s.number; core = record { pc = s.context.pc; x = s.context.x; chain = chain }; blocked = blocked }

not_some : {X : Type 0} (o : Option X) → o ≡ None → IsSome o → ⊥
not_some None e s = let f : false ≡ true = s in cc
not_some (Some x) e s = let h : Some x ≡ None = e in cc

module _ (accepted : Acceptance) (most : ℕ) (thread : ThreadId) (old : State) (may : MayRun accepted most old thread) (r : Record) (there : get old.records thread.slot ≡ Some r) where
  abbrev kept : IsKept accepted most old
  kept = may.runs.kept

  abbrev runner : Thread
  runner = thread_of_record old.areas.pool old.waits thread.slot r

  abbrev world : World
  world = machine_of most old

  abbrev setting : Setting
  setting = setting_of accepted most old

  named_by : (running : Option ThreadId) → running ≡ Some thread → IsRunningThere old running → r.number ≡ thread.number
  named_by None is h = absurd (let f : None ≡ Some thread = is in cc)
  named_by (Some other) is h =
      let same : other ≡ thread = cc in
      let slot : get old.records thread.slot ≡ Some h.0 = subst (λ (t : ThreadId). get old.records t.slot ≡ Some h.0) same h.1 in
      let both : Some h.0 ≡ Some r = sym slot ∙ there in
      let e : h.0 ≡ r = cc in
      sym (ap (λ (x : Record). x.number) e) ∙ h.2 ∙ ap (λ (t : ThreadId). t.number) same

  named : r.number ≡ thread.number
  named = named_by old.running may.runs.is kept.running

  runs_there : world.running ≡ Some r.number
  runs_there = ap number_in may.runs.is ∙ ap (λ (n : ℕ). Some n) (sym named)

  found : thread_of world r.number ≡ Some runner
  found = found_at accepted most old kept thread.slot r there

  other_number : (k : ℕ) (s : Record) → get old.records k ≡ Some s → (k ≡ thread.slot → ⊥) → s.number ≢ r.number
  other_number k s e apart = λ same. apart (kept.numbered.unique k thread.slot s r e there same)

  goes_at : (steps spare : ℕ) (at : Local) → Leads (checked_of accepted) (code_of accepted) steps (local_of old.areas r.context) at → steps + spare ≡ old.fuel.left → GoesOn setting steps world (after_silent world runner at steps)
  goes_at steps spare at leads sum = goes_on (checked_of accepted) setting world runner at steps kept.formed.counted runs_there found (omega (arith, sum, kept.fuel)) leads

  module _ (areas : Areas) (of : AreOf accepted areas) (shape : shape_of areas.pool ≡ shape_of old.areas.pool) (others : (chunk : ℕ) → copies_in chunk (local_of old.areas r.context) ≡ 0 → chunk_of areas.pool chunk ≡ chunk_of old.areas.pool chunk)
      (fuel : Fuel) (records : Slab Record) (rest : (place : ℕ) → place ≢ thread.slot → get records place ≡ get old.records place) where
    abbrev clock : ℕ
    clock = old.waits.clock + (old.fuel.left - fuel.left)

    kept_thread : (k : ℕ) (s : Record) → (k ≡ thread.slot → ⊥) → get old.records k ≡ Some s → thread_of_record areas.pool (record old.waits { clock = clock }) k s ≡ thread_of_record old.areas.pool old.waits k s
    kept_thread k s apart e =
        let all : AllByRecursion (λ chunk. chunk_of areas.pool chunk ≡ chunk_of old.areas.pool chunk) (chain_from old.areas.pool s.context.chunk s.context.depth) =
        segment_keeps world r.number s.number runner (thread_of_record old.areas.pool old.waits k s) areas.pool kept.formed.counted found (found_at accepted most old kept k s e) (other_number k s e apart) others in
        ap (with_chain s (blocked_of (wait_at old.waits k))) (chain_stays old.areas.pool areas.pool s.context.chunk s.context.depth shape all)

    keeps : KeepsRecords (thread_of_record old.areas.pool old.waits) (thread_of_record areas.pool (record old.waits { clock = clock })) old.records.slots records.slots thread.slot
    keeps = record { records = rest; threads = kept_thread }

    -- ---- it goes on

    module _ (context : Context) (written : get records thread.slot ≡ Some (record r { context = context })) where
      abbrev pub went : State
      went = record old { areas = areas; fuel = fuel; records = records; waits = record old.waits { clock = clock } }

      threads_are : IsNumbered number_of records.slots old.next × (threads_of went ≡ replaced (record runner { core = core_of areas.pool context }) world.threads)
      threads_are = record_written number_of (thread_of_record old.areas.pool old.waits) (thread_of_record areas.pool (record old.waits { clock = clock })) old.records.slots records.slots old.next thread.slot r (record r { context = context })
          (λ k s. refl) (λ k s. refl) kept.numbered there written refl keeps

      world_is : (steps : ℕ) → steps + fuel.left ≡ old.fuel.left → after_silent world runner (local_of areas context) steps ≡ machine_of most went
      world_is steps sum =
          let time : old.waits.clock + steps ≡ clock = omega (arith, sum) in
          let cost : most - old.fuel.left + steps ≡ most - fuel.left = omega (arith, sum, kept.fuel) in
          let threads : replaced (record runner { core = core_of areas.pool context }) world.threads ≡ threads_of went = sym threads_are.1 in
          (λ i. record world { threads = threads i; areas = areas; clock = time i; cost = cost i })

      was_by : (place : ℕ) (x : Record) → get records place ≡ Some x → (place ≡ thread.slot) ⊎ (place ≡ thread.slot → ⊥) → (y : Record) × (get old.records place ≡ Some y)
      was_by place x e (inl same) = (r, ap (get old.records) same ∙ there)
      was_by place x e (inr apart) = (x, sym (rest place apart) ∙ e)

      was : (place : ℕ) (x : Record) → get records place ≡ Some x → (y : Record) × (get old.records place ≡ Some y)
      was place x e = was_by place x e (cases_eq place thread.slot)

      none_by : (place : ℕ) → get records place ≡ None → (place ≡ thread.slot) ⊎ (place ≡ thread.slot → ⊥) → get old.records place ≡ None
      none_by place e (inl same) = absurd (let f : Some (record r { context = context }) ≡ None = sym written ∙ ap (get records) (sym same) ∙ e in cc)
      none_by place e (inr apart) = sym (rest place apart) ∙ e

      aligned : AreAligned went
      aligned = record {
        vacant = λ place e. kept.aligned.vacant place (none_by place e (cases_eq place thread.slot));
        runs = kept.aligned.runs;
        waits = λ place x e apart. kept.aligned.waits place (was place x e).0 (was place x e).1 apart;
        there = λ place x e. kept.aligned.there place (was place x e).0 (was place x e).1;
        named = λ place x e. kept.aligned.named place (was place x e).0 (was place x e).1;
        untrapped = kept.aligned.untrapped;
      }

      went_kept : (steps : ℕ) → steps + fuel.left ≡ old.fuel.left → IsWellFormed (checked_of accepted) setting (machine_of most went) → IsKept accepted most went
      went_kept steps sum formed = record {
        areas = of;
        numbered = threads_are.0;
        aligned = aligned;
        live = kept.live ∙ sym (ap length threads_are.1 ∙ replaced_length (record runner { core = core_of areas.pool context }) world.threads);
        fuel = omega (arith, sum, kept.fuel);
        begun = omega (arith, sum, kept.fuel, kept.begun);
        clock = omega (arith, sum, kept.fuel, kept.clock);
        formed = formed;
        running = subst (IsRunningThere went) (sym may.runs.is) (record r { context = context }, written, named);
      }

      number_by : (place : ℕ) → (place ≡ thread.slot) ⊎ (place ≡ thread.slot → ⊥) → option_map number_of (get records place) ≡ option_map number_of (get old.records place)
      number_by place (inl same) = ap (option_map number_of) (ap (get records) same ∙ written) ∙ sym (ap (option_map number_of) (ap (get old.records) same ∙ there))
      number_by place (inr apart) = ap (option_map number_of) (rest place apart)

      pub ran_to : (segment : Segment) (steps spare : ℕ) (at : Local) → Leads (checked_of accepted) (code_of accepted) steps (local_of old.areas r.context) at → steps + spare ≡ old.fuel.left → fuel.left ≡ spare → local_of areas context ≡ at →
          IsNext (checked_of accepted) (code_of accepted) segment at → HasFuel segment spare → RanTo accepted most thread old segment went
      ran_to segment steps spare at leads sum left is next some =
          let whole : steps + fuel.left ≡ old.fuel.left = ap (λ (n : ℕ). steps + n) left ∙ sum in
          let here : Leads (checked_of accepted) (code_of accepted) steps (local_of old.areas r.context) (local_of areas context) = subst (Leads (checked_of accepted) (code_of accepted) steps (local_of old.areas r.context)) (sym is) leads in
          let goes : GoesOn setting steps world (machine_of most went) = subst (GoesOn setting steps world) (world_is steps whole) (goes_at steps fuel.left (local_of areas context) here whole) in
          let size : shape_of areas.pool ≡ shape_of old.areas.pool = size_on (checked_of accepted) (code_of accepted) steps (local_of old.areas r.context) (local_of areas context) here.way in
          let formed : IsWellFormed (checked_of accepted) setting (machine_of most went) = formed_on (checked_of accepted) setting steps world (machine_of most went) kept.formed goes in
          record {
            steps = steps;
            goes_on = goes;
            runs = record { kept = went_kept steps whole formed; is = may.runs.is; going = may.runs.going };
            rest = record { caps = refl; backlog = refl; chunks = count-same old.areas.pool areas.pool size; begun = refl };
            same = λ place. number_by place (cases_eq place thread.slot);
            less = omega (arith, whole);
            next = λ x e.
                let both : Some (record r { context = context }) ≡ Some x = sym written ∙ e in
                let same : record r { context = context } ≡ x = cc in
                subst (λ (x : Record). IsNext (checked_of accepted) (code_of accepted) segment (local_of areas x.context)) same (subst (IsNext (checked_of accepted) (code_of accepted) segment) (sym is) next);
            fuel = subst (HasFuel segment) (sym left) some;
          }

    -- ---- it ends

    module _ (gone : get records thread.slot ≡ None) where
      abbrev pub left_by : State
      left_by = record old { areas = areas; fuel = fuel; records = records; live = old.live - 1; running = None; waits = record old.waits { clock = clock } }

      threads_left : IsNumbered number_of records.slots old.next × (threads_of left_by ≡ without r.number world.threads) × (length (without r.number world.threads) + 1 ≡ length world.threads)
      threads_left = record_removed number_of (thread_of_record old.areas.pool old.waits) (thread_of_record areas.pool (record old.waits { clock = clock })) old.records.slots records.slots old.next thread.slot r
          (λ k s. refl) kept.numbered there gone keeps

      other_place : (place : ℕ) (x : Record) → get records place ≡ Some x → place ≡ thread.slot → ⊥
      other_place place x e same = let f : Some x ≡ None = sym e ∙ ap (get records) same ∙ gone in cc

      was_left : (place : ℕ) (x : Record) → get records place ≡ Some x → get old.records place ≡ Some x
      was_left place x e = sym (rest place (other_place place x e)) ∙ e

      nobody : (place : ℕ) → get records place ≡ None → (place ≡ thread.slot) ⊎ (place ≡ thread.slot → ⊥) → wait_at old.waits place ≡ None
      nobody place e (inl same) = kept.aligned.runs place (subst (λ (o : Option ThreadId). RunsAt o place) (sym may.runs.is) (sym same))
      nobody place e (inr apart) = kept.aligned.vacant place (sym (rest place apart) ∙ e)

      elsewhere : (place : ℕ) (x : Record) → get records place ≡ Some x → RunsAt old.running place → ⊥
      elsewhere place x e at =
          let runs : thread.slot ≡ place = subst (λ (o : Option ThreadId). RunsAt o place) may.runs.is at in
          other_place place x e (sym runs)

      aligned_left : AreAligned left_by
      aligned_left = record {
        vacant = λ place e. nobody place e (cases_eq place thread.slot);
        runs = λ place none. absurd none;
        waits = λ place x e apart. kept.aligned.waits place x (was_left place x e) (elsewhere place x e);
        there = λ place x e. kept.aligned.there place x (was_left place x e);
        named = λ place x e. kept.aligned.named place x (was_left place x e);
        untrapped = kept.aligned.untrapped;
      }

      places_left : KeepsPlaces (held_in accepted most old) (held_in accepted most left_by)
      places_left = λ other is alive. places_by other is alive (cases_eq other.slot thread.slot)
        where
          places_by : (other : ThreadId) → slice_index_or (numbers_of old) other.slot None ≡ Some other.number → IsSome (first_with other.number (threads_of left_by)) → (other.slot ≡ thread.slot) ⊎ (other.slot ≡ thread.slot → ⊥) →
              slice_index_or (numbers_of left_by) other.slot None ≡ Some other.number
          places_by other is alive (inr apart) = number_at left_by other.slot ∙ ap (option_map number_of) (rest other.slot apart) ∙ sym (number_at old other.slot) ∙ is
          places_by other is alive (inl same) =
              let here : Some r.number ≡ Some other.number = sym (ap (option_map number_of) (ap (get old.records) same ∙ there)) ∙ sym (number_at old other.slot) ∙ is in
              let number : r.number ≡ other.number = cc in
              let none : first_with other.number (threads_of left_by) ≡ None = ap (first_with other.number) threads_left.1 ∙ subst (λ (n : ℕ). first_with n (without r.number world.threads) ≡ None) number (without_same r.number world.threads) in
              absurd (not_some (first_with other.number (threads_of left_by)) none alive)

      pub ran_out : (steps spare : ℕ) (at : Local) → Leads (checked_of accepted) (code_of accepted) steps (local_of old.areas r.context) at → steps + spare ≡ old.fuel.left → fuel.left + 1 ≡ spare →
          local_step (code_of accepted) at ≡ runs.Stops (local.Ended areas) → RanOut accepted most thread old left_by
      ran_out steps spare at leads sum left ends =
          let before : World = after_silent world runner at steps in
          let goes : GoesOn setting steps world before = goes_at steps spare at leads sum in
          let turns : step setting before ≡ moved setting before (record runner { core = at.core }) (runs.Stops (local.Ended areas)) =
          step_turns setting world runner at steps (runs.Stops (local.Ended areas)) runs_there found (omega (arith, sum, left, kept.fuel)) ends in
          let time : old.waits.clock + steps + 1 ≡ clock = omega (arith, sum, left) in
          let cost : most - old.fuel.left + steps + 1 ≡ most - fuel.left = omega (arith, sum, left, kept.fuel) in
          let threads : without r.number (replaced (record runner { core = at.core }) world.threads) ≡ threads_of left_by = replaced_gone (record runner { core = at.core }) world.threads ∙ sym threads_left.1 in
          let is : record before { threads = without r.number (replaced (record runner { core = at.core }) world.threads); areas = areas; clock = old.waits.clock + steps + 1; cost = most - old.fuel.left + steps + 1; running = None } ≡ machine_of most left_by =
          (λ i. record before { threads = threads i; areas = areas; clock = time i; cost = cost i; running = None }) in
          let stepped : step setting before ≡ machine.Ends (machine_of most left_by) = turns ∙ ap (λ (w : World). machine.Ends w) is in
          let formed_before : IsWellFormed (checked_of accepted) setting before = formed_on (checked_of accepted) setting steps world before kept.formed goes in
          let formed : IsWellFormed (checked_of accepted) setting (machine_of most left_by) = subst (KeepsWellFormed (checked_of accepted) setting) stepped (KeepsWellFormed-step (checked_of accepted) setting before formed_before) in
          let size_at : shape_of at.areas.pool ≡ shape_of old.areas.pool = size_on (checked_of accepted) (code_of accepted) steps (local_of old.areas r.context) at leads.way in
          let size : shape_of areas.pool ≡ shape_of old.areas.pool = subst (KeepsShape at) ends (KeepsShape-step (code_of accepted) at) ∙ size_at in
          record {
            steps = steps;
            at = before;
            goes_on = goes;
            ends = stepped;
            kept = record {
              areas = of;
              numbered = threads_left.0;
              aligned = aligned_left;
              live = omega (arith, kept.live, threads_left.2, ap length threads_left.1);
              fuel = omega (arith, sum, left, kept.fuel);
              begun = omega (arith, sum, left, kept.fuel, kept.begun);
              clock = omega (arith, sum, left, kept.fuel, kept.clock);
              formed = formed;
              running = tt;
            };
            is = refl;
            going = may.runs.going;
            rest = record { caps = refl; backlog = refl; chunks = count-same old.areas.pool areas.pool size; begun = refl };
            places = places_left;
          }

-- ---- someone lives where a segment is under way

some_found : (number : ℕ) (t : Thread) (threads : List Thread) → first_with number threads ≡ Some t → 0 < length threads
some_found number t [] e = absurd (let f : None ≡ Some t = e in cc)
some_found number t (x ∷ threads) e = omega arith

lives_by : (accepted : Acceptance) (most : ℕ) (old : State) → IsKept accepted most old → (running : Option ThreadId) (thread : ThreadId) → running ≡ Some thread → IsRunningThere old running → 0 < old.live
lives_by accepted most old kept None thread is h = absurd (let f : None ≡ Some thread = is in cc)
lives_by accepted most old kept (Some other) thread is h =
    let some : 0 < length (threads_of old) = some_found h.0.number (thread_of_record old.areas.pool old.waits other.slot h.0) (threads_of old) (found_at accepted most old kept other.slot h.0 h.1) in
    omega (arith, some, kept.live)

pub lives : (accepted : Acceptance) (most : ℕ) (thread : ThreadId) (old : State) → Runs accepted most old thread → 0 < old.live
lives accepted most thread old runs = lives_by accepted most old runs.kept old.running thread runs.is runs.kept.running

record_by : (old : State) (running : Option ThreadId) (thread : ThreadId) → running ≡ Some thread → IsRunningThere old running → (r : Record) × (get old.records thread.slot ≡ Some r)
record_by old None thread is h = absurd (let f : None ≡ Some thread = is in cc)
record_by old (Some other) thread is h =
    let same : other ≡ thread = cc in
    (h.0, subst (λ (t : ThreadId). get old.records t.slot ≡ Some h.0) same h.1)

pub record_of : (accepted : Acceptance) (most : ℕ) (thread : ThreadId) (old : State) → Runs accepted most old thread → (r : Record) × (get old.records thread.slot ≡ Some r)
record_of accepted most thread old runs = record_by old old.running thread runs.is runs.kept.running

-- ---- the whole

module _ (accepted : Acceptance) (most : ℕ) (thread : ThreadId) (old : State) (may : MayRun accepted most old thread) (r : Record) (there : get old.records thread.slot ≡ Some r)
    (areas : Areas) (context : Context) (fuel : Fuel) (of : AreOf accepted areas) (chunks : KeepsChunks (local_of old.areas r.context) (local_of areas context))
    (records : Slab Record) (rest : (place : ℕ) → place ≢ thread.slot → get records place ≡ get old.records place) where
  pub ran_on : (segment : Segment) → (segment ≡ answer.Ends → ⊥) → IsSegment (checked_of accepted) (code_of accepted) segment (local_of old.areas r.context) old.fuel.left (local_of areas context) fuel.left →
      (written : get records thread.slot ≡ Some (record r { context = context })) → Ran accepted most thread old segment (went accepted most thread old may r there areas of chunks.shape chunks.others fuel records rest context written)
  ran_on answer.Ends goes is written = absurd (goes refl)
  ran_on (answer.Blocks block) goes is written = ran_to accepted most thread old may r there areas of chunks.shape chunks.others fuel records rest context written (answer.Blocks block) is.steps is.spare is.at is.leads is.fuel is.end.3 is.end.2 is.end.1 is.end.0
  ran_on (answer.Asks ask) goes is written = ran_to accepted most thread old may r there areas of chunks.shape chunks.others fuel records rest context written (answer.Asks ask) is.steps is.spare is.at is.leads is.fuel is.end.3 is.end.2 is.end.1 is.end.0
  ran_on (answer.Traps kind) goes is written = ran_to accepted most thread old may r there areas of chunks.shape chunks.others fuel records rest context written (answer.Traps kind) is.steps is.spare is.at is.leads is.fuel is.end.3 is.end.2 is.end.1 is.end.0
  ran_on answer.NoChunk goes is written = ran_to accepted most thread old may r there areas of chunks.shape chunks.others fuel records rest context written answer.NoChunk is.steps is.spare is.at is.leads is.fuel is.end.4 is.end.3 is.end.1 is.end.0
  ran_on answer.OutOfFuel goes is written = ran_to accepted most thread old may r there areas of chunks.shape chunks.others fuel records rest context written answer.OutOfFuel is.steps is.spare is.at is.leads is.fuel (is.end.2 ∙ sym is.end.0) is.end.1 tt is.end.0

  pub ran_off : IsSegment (checked_of accepted) (code_of accepted) answer.Ends (local_of old.areas r.context) old.fuel.left (local_of areas context) fuel.left →
      (gone : get records thread.slot ≡ None) → Ran accepted most thread old answer.Ends (left_by accepted most thread old may r there areas of chunks.shape chunks.others fuel records rest gone)
  ran_off is gone = ran_out accepted most thread old may r there areas of chunks.shape chunks.others fuel records rest gone is.steps is.spare is.at is.leads is.fuel is.end.2 is.end.0
