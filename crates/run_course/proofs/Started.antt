-- The start of a run.
use Rattle.run_course.proofs.Common.{◌≡◌, ℕ, zero, suc, ◌+◌, ◌*◌, ◌/◌, ◌%◌, ◌<◌, ◌≤◌, Bool, true, false, [], ◌∷◌, Option, Some, None, refl, sym, ap, ◌∙◌, subst, arith, IsTrue, slice_index, empty_graph, lowered, ProgramTree, accepted_tree, Taken, IsPool, start_pool, taken_for, Rule, all_caps, uses_of, at_drop, checked_of, Setup, setting_of, main_fact, start_machine, start_areas, State, start_of, seen_of, AreWaiting, between_after, Areas, new_areas, Checked, start_world, started_on, empty_world, StandsForWorld, World, Setting, with_thread, AreWellFormed, AreWords, IsWellFormed, most_fuel, gate_after, MonitorState, pressures, IsAtStartBy, Next, Kept, IsOf, IsTraceOf, StandsBetween, Need, IsNeeded, HasStarted, RuleState, HasAccounts, HasNothing, rule_of, Rest, bytes_of, Unasked, Held, IsSettled, settled_sound}
use Rattle.c_mean.specs.World as source
use Rattle.c_tree.specs.WellScoped.{IsWellScoped}
use Rattle.certificate_rules.specs.Validity.{IsValid}
use Rattle.chunk_pool.proofs.PoolStart.{IsPool-start_bytes}
use Rattle.lawful_log.proofs.Kept.{first_waits}
use Rattle.machine_world.specs.Stretches as stretches
use Rattle.run_course.specs.Sound.{IsSound}
use Rattle.run_course.proofs.Rules.{accounts_first, kept_first, noted_first, told_first}
use Rattle.segment_run.proofs.Forming.{areas_formed}
use Rattle.stack_certificate.specs.Certificates.{fact_at}
use Rattle.stack_certificate.specs.declared.certificates.Certificate.{Certificate}
use Rattle.stack_image.specs.declared.images.Image.{Image}
use Rattle.machine_meaning.proofs.BetweenSegments.{starts_law}
use Rattle.run_course.proofs.Times.{timely_start}
use Rattle.chunk_pool.proofs.NeedLaws.{taken_for-count}
use Rattle.chunk_pool.proofs.ShapeLaws.{first_bytes-start}

-- ---- the machine world at the start

record Begun (areas : Areas) (entry : ℕ) (w : World) : Type 0 where
  taken : Taken
  is : w ≡ with_thread (empty_world areas) taken entry 0
  count : taken.pool.count ≡ areas.pool.count

begun_on : (areas : Areas) (entry need : ℕ) (w : World) (found : Option Taken) → taken_for areas.pool need ≡ found → started_on (empty_world areas) entry found ≡ Some w → Begun areas entry w
begun_on areas entry need w None f e = absurd (cc)
begun_on areas entry need w (Some taken) f e =
    let same : with_thread (empty_world areas) taken entry 0 ≡ w = cc in
    record { taken = taken; is = sym same; count = taken_for-count areas.pool need taken f }

begun : (areas : Areas) (entry need : ℕ) (w : World) → start_world areas entry need ≡ Some w → Begun areas entry w
unfolding start_world
begun areas entry need w e = begun_on areas entry need w (taken_for areas.pool need) refl e

-- the need of the first thread is nothing
first_needed : (areas : Areas) (taken : Taken) (entry : ℕ) → IsNeeded (with_thread (empty_world areas) taken entry 0) (record { thread = record { slot = 0; number = 0 }; need = Need.Nothing })
first_needed areas taken entry = record { thread = _; live = refl; need = refl }

is_true : (b : Bool) → IsTrue b → b ≡ true
is_true true h = refl
is_true false h = absurd (cc)

module _ (g : Setup) (held : Held) {rule : Rule} (monitor : MonitorState) (at : IsAtStartBy rule g held monitor) (sound : IsSound held.accepted) where
  pub scoped : IsWellScoped g.program
  scoped = subst IsWellScoped at.program held.accepted.program.well_scoped

  pub valid : IsValid (lowered g.program) g.image g.certificate
  valid = subst (λ (c : Certificate). IsValid (lowered g.program) g.image c) at.certificate
      (subst (λ (i : Image). IsValid (lowered g.program) i held.accepted.certificate) at.image
      (subst (λ (p : ProgramTree). IsValid (lowered p) held.accepted.image held.accepted.certificate) at.program sound.valid))

  abbrev areas_with : Certificate → Image → Areas
  areas_with c i = new_areas g.policy.chunks c.chunk g.policy.extra g.policy.extra_bytes i.globals i.tables

  pub starts : start_machine g ≡ Some held.machine
  starts = subst (λ (p : ProgramTree). start_world (start_areas g) (fact_at g.certificate p.main).entry (fact_at g.certificate p.main).bound ≡ Some held.machine) at.program
      (subst (λ (c : Certificate). start_world (areas_with c g.image) (fact_at c (accepted_tree held.accepted).main).entry (fact_at c (accepted_tree held.accepted).main).bound ≡ Some held.machine) at.certificate
      (subst (λ (i : Image). start_world (areas_with held.accepted.certificate i) (fact_at held.accepted.certificate (accepted_tree held.accepted).main).entry
      (fact_at held.accepted.certificate (accepted_tree held.accepted).main).bound ≡ Some held.machine) at.image at.made.machine))

  abbrev areas : Areas
  areas = start_areas g

  shape : Begun areas (main_fact g).entry held.machine
  shape = begun (start_areas g) (main_fact g).entry (main_fact g).bound held.machine starts

  checked_same : (let c : Checked = record { flat = lowered (accepted_tree held.accepted); certificate = held.accepted.certificate } in c) ≡ checked_of g
  checked_same =
      ap (λ (p : ProgramTree). let c : Checked = record { flat = lowered p; certificate = held.accepted.certificate } in c) at.program
      ∙ ap (λ (x : Certificate). let c : Checked = record { flat = lowered g.program; certificate = x } in c) at.certificate

  setting_same : held.setting ≡ setting_of g
  setting_same = at.made.setting ∙ ap (λ (i : Image). let s : Setting = record { code = i.code; fuel = g.policy.fuel; backlog = g.policy.backlog; caps = g.policy.caps } in s) at.image

  start_formed : IsWellFormed (checked_of g) (setting_of g) held.machine
  start_formed = subst (λ (c : Checked). IsWellFormed c (setting_of g) held.machine) checked_same
      (subst (λ (s : Setting). IsWellFormed (record { flat = lowered (accepted_tree held.accepted); certificate = held.accepted.certificate }) s held.machine) setting_same at.made.formed)

  start_stands : StandsForWorld (checked_of g) g.program held.machine (source.start_world g.program)
  start_stands = subst (λ (p : ProgramTree). StandsForWorld (checked_of g) p held.machine (source.start_world p)) at.program
      (subst (λ (c : Checked). StandsForWorld c (accepted_tree held.accepted) held.machine (source.start_world (accepted_tree held.accepted))) checked_same at.made.stands)

  chunk_is : held.accepted.certificate.chunk ≡ g.certificate.chunk
  chunk_is = ap (λ (c : Certificate). c.chunk) at.certificate

  fours : 4 * (g.certificate.chunk / 4) ≡ g.certificate.chunk
  fours = let aligned = sound.aligned in let same = chunk_is in omega (arith, aligned, same)

  pool_sound : IsPool (start_pool g.policy.chunks (g.certificate.chunk / 4) g.policy.extra (g.policy.extra_bytes / 4))
  pool_sound =
      let p = at.ranges in
      let size : g.policy.chunks * g.certificate.chunk + g.policy.extra * g.policy.extra_bytes ≤ 67108864 =
      subst (λ (n : ℕ). g.policy.chunks * n + g.policy.extra * g.policy.extra_bytes ≤ 67108864) chunk_is p.pool in
      IsPool-start_bytes g.policy.chunks g.certificate.chunk g.policy.extra g.policy.extra_bytes p.some_chunks p.chunks (subst (λ (n : ℕ). 64 ≤ n) chunk_is sound.least) (subst (λ (n : ℕ). n ≤ 65536) chunk_is sound.most) (subst (λ (n : ℕ). n % 16 ≡ 0) chunk_is sound.aligned)
      p.extra p.extra_least p.extra_most p.extra_whole size

  globals_same : held.machine.areas.globals ≡ g.image.globals
  globals_same = ap (λ (w : World). w.areas.globals) shape.is

  -- the areas at the start are well formed
  pub well : AreWellFormed (checked_of g) (start_areas g)
  well = areas_formed (lowered g.program) g.image g.certificate areas valid pool_sound (subst AreWords globals_same start_formed.areas.global_words)
      (first_bytes-start g.policy.chunks (g.certificate.chunk / 4) g.policy.extra (g.policy.extra_bytes / 4) ∙ fours) refl refl

  pub fuel_most : g.policy.fuel ≤ most_fuel
  fuel_most = at.ranges.most

  settled : IsSettled (checked_of g) held.machine
  settled = (starts_law g.program g.image g.certificate held.machine areas scoped valid refl well starts).settled

  pub start_sound : stretches.IsSound (checked_of g) held.machine
  start_sound = settled_sound (checked_of g) (setting_of g) held.machine start_formed settled

  small_by : (r : ℕ) → r < 8 → slice_index (all_caps g.policy) r ≤ 1000000
  small_by zero below = let most = at.ranges.chunks in let extra = at.ranges.extra in omega (arith, most, extra)
  small_by (suc r) below = subst (λ (n : ℕ). n ≤ 1000000) (sym (at_drop g.policy.caps r)) (at.ranges.caps (suc r) (omega arith) below)

  pub of_start : IsOf g held
  of_start = record {
    program = at.program;
    image = at.image;
    certificate = at.certificate;
    setting = setting_same;
    chunks = ap (λ (w : World). w.areas.pool.count) shape.is ∙ shape.count;
    timely = timely_start areas (main_fact g).entry (main_fact g).bound held.machine starts;
    small = small_by;
    scoped = scoped;
    valid = valid;
  }

  threads_wait : AreWaiting held.machine (record { thread = 0; node = 0; since = 0 } ∷ [])
  threads_wait = subst (λ (w : World). AreWaiting w (record { thread = 0; node = 0; since = 0 } ∷ [])) (sym shape.is) (first_waits areas shape.taken (main_fact g).entry)

  read_by : (left : Rest) → IsTraceOf (record { bytes = bytes_of left; lines = 0; last = 0 }) (record { held = []; lines = 0; last = 0; refused = None }) Next.Unread left
  read_by Unasked = tt
  read_by _ = refl

  module _ (left : Rest) (before after : RuleState) (rule_is : rule ≡ rule_of before) (nothing : HasNothing before) (starts : HasStarted before after (record { slot = 0; number = 0 })) where
    abbrev start_state : State
    start_state = start_of g (bytes_of left) held.machine

    abbrev pub first_kept : Kept
    first_kept = record { rule = after; graph = empty_graph; monitor = monitor; reader = record { held = []; lines = 0; last = 0; refused = None }; next = Next.Unread; under = None }

    pub start_between : StandsBetween g start_state first_kept held left
    start_between = record {
      of = of_start;
      going = at.made.stopped;
      between = between_after g start_state refl start_formed start_stands threads_wait;
      ended = λ none. refl;
      settled = settled;
      kept = kept_first held.places before after (record { slot = 0; number = 0 }) nothing starts at.made.main;
      needed = told_first held.machine before after (record { slot = 0; number = 0 }) nothing starts
          (subst (λ (w : World). IsNeeded w (record { thread = record { slot = 0; number = 0 }; need = Need.Nothing })) (sym shape.is) (first_needed areas shape.taken (main_fact g).entry));
      past = record {
        accounts = subst (λ (r : Rule). HasAccounts r after start_state.past) (sym (at.rule ∙ rule_is)) (accounts_first before after (record { slot = 0; number = 0 }) (uses_of (seen_of start_state)) nothing starts);
        graph_is = record { keys = refl; edges = refl };
        monitor_is = at.monitor_is;
        taken = noted_first before after (record { slot = 0; number = 0 }) nothing starts;
        noted = let none = noted_first before after (record { slot = 0; number = 0 }) nothing starts in omega (arith, none);
        records = omega arith;
        keys = omega arith;
      };
      gate = ap (λ (b : Bool). gate_after g.policy.high g.policy.low b (pressures g.policy.curves (uses_of (seen_of start_state)) (all_caps g.policy))) (is_true monitor.is_open at.gate);
      read = record { trace_is = read_by left; unrefused = refl; fits = tt };
    }
