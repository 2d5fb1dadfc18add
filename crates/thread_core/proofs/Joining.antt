-- A call behind silent steps, and the stop of a run.
use Rattle.cap_word.specs.Runs as runs
use Rattle.thread_core.proofs.Common.{◌≡◌, ℕ, ◌+◌, ◌-◌, ◌<◌, ◌≤◌, Option, Some, None, IfNone, refl, sym, ◌∙◌, ap, subst, arith, Stop, ThreadId, TrapKind, Acceptance, LocalMove, local_step, Thread, Setting, thread_of, moved, step, code_of, Segment, get, GoesOn, step_moves, step_fuel, IsRunningThere, number_in, thread_of_record, machine_of, setting_of, MayRun, Runs, LocalIs, KeepsRest, SamePlaces, PlacesIf, RanTo, Told, TellsIf, OnTold, held_in, KeepsPlaces, Record, State, Turn}
use Rattle.machine_world.specs.Local as local
use Rattle.machine_world.specs.Threads as machine
use Rattle.segment_run.specs.declared.segments.Segment.TheVariants as answer
use Rattle.segment_laws.proofs.Silent as silent
use Rattle.thread_core.proofs.Alike.{stop_told}
use Rattle.thread_core.proofs.TellingLaws.{found_at, number_at}
use Rattle.thread_core.proofs.BeginLaws.{setting_same}

-- ---- one after the other

rest_joined : (accepted : Acceptance) (most : ℕ) (a b c : State) → KeepsRest accepted most a b → KeepsRest accepted most b c → KeepsRest accepted most a c
rest_joined accepted most a b c first then = record {
  caps = then.caps ∙ first.caps;
  backlog = then.backlog ∙ first.backlog;
  chunks = then.chunks ∙ first.chunks;
  begun = then.begun ∙ first.begun;
}

places_on : (accepted : Acceptance) (most : ℕ) (a b c : State) → SamePlaces a b → KeepsPlaces (held_in accepted most b) (held_in accepted most c) → KeepsPlaces (held_in accepted most a) (held_in accepted most c)
places_on accepted most a b c same keeps = λ thread is alive.
    keeps thread (number_at b thread.slot ∙ same thread.slot ∙ sym (number_at a thread.slot) ∙ is) alive

places_joined : (accepted : Acceptance) (most : ℕ) (a b c : State) (answered : Option Turn) → SamePlaces a b → PlacesIf accepted most b answered c → PlacesIf accepted most a answered c
places_joined accepted most a b c None same then = λ place. then place ∙ same place
places_joined accepted most a b c (Some turn) same then = places_on accepted most a b c same then

pub joined : (accepted : Acceptance) (most : ℕ) (thread : ThreadId) (old mid new : State) (segment : Segment) (answered : Option Turn) → RanTo accepted most thread old segment mid → Told accepted most thread mid answered new → OnTold accepted most thread old answered new
joined accepted most thread old mid new segment answered ran told = record {
  steps = ran.steps;
  at = machine_of most mid;
  goes_on = ran.goes_on;
  kept = told.kept;
  rest = rest_joined accepted most old mid new ran.rest told.rest;
  places = places_joined accepted most old mid new answered ran.same told.places;
  tells = subst (λ (s : Setting). TellsIf (step s (machine_of most mid)) answered thread.number (machine_of most mid) (held_in accepted most new)) (setting_same accepted most old mid ran.rest) told.tells;
  goes = told.goes;
}

-- the thread has gone on silently, and may run
pub record IsGoing (accepted : Acceptance) (most : ℕ) (thread : ThreadId) (old now : State) : Type 0 where
  pub steps : ℕ
  pub goes_on : GoesOn (setting_of accepted most old) steps (machine_of most old) (machine_of most now)
  pub rest : KeepsRest accepted most old now
  pub same : SamePlaces old now
  pub may : MayRun accepted most now thread

pub again : (accepted : Acceptance) (most : ℕ) (thread : ThreadId) (old now new : State) (answered : Option Turn) → IsGoing accepted most thread old now → OnTold accepted most thread now answered new → OnTold accepted most thread old answered new
again accepted most thread old now new answered is then =
    let same : setting_of accepted most now ≡ setting_of accepted most old = setting_same accepted most old now is.rest in
    let on : GoesOn (setting_of accepted most old) then.steps (machine_of most now) then.at = subst (λ (s : Setting). GoesOn s then.steps (machine_of most now) then.at) same then.goes_on in
    record {
      steps = is.steps + then.steps;
      at = then.at;
      goes_on = silent.joined (setting_of accepted most old) is.steps then.steps (machine_of most old) (machine_of most now) then.at is.goes_on on;
      kept = then.kept;
      rest = rest_joined accepted most old now new is.rest then.rest;
      places = places_joined accepted most old now new answered is.same then.places;
      tells = subst (λ (s : Setting). TellsIf (step s then.at) answered thread.number then.at (held_in accepted most new)) same then.tells;
      goes = then.goes;
    }

-- where nothing is told it goes on
pub going_on : (accepted : Acceptance) (most : ℕ) (thread : ThreadId) (old now new : State) → IsGoing accepted most thread old now → OnTold accepted most thread now None new → IsGoing accepted most thread old new
going_on accepted most thread old now new is then =
    let whole : OnTold accepted most thread old None new = again accepted most thread old now new None is then in
    record {
      steps = whole.steps + 1;
      goes_on = silent.joined (setting_of accepted most old) whole.steps 1 (machine_of most old) whole.at (machine_of most new) whole.goes_on (machine_of most new, whole.tells.0, refl);
      rest = whole.rest;
      same = whole.places;
      may = whole.goes;
    }

pub less_joined : (answered : Option Turn) (a b c : ℕ) → IfNone answered (a < b) → b ≤ c → IfNone answered (a < c)
less_joined None a b c h l = omega (arith, h, l)
less_joined (Some turn) a b c h l = tt

-- ---- the thread that runs

record Named (st : State) (thread : ThreadId) : Type 0 where
  r : Record
  there : get st.records thread.slot ≡ Some r
  number : r.number ≡ thread.number

named_by : (st : State) (running : Option ThreadId) (thread : ThreadId) → running ≡ Some thread → IsRunningThere st running → Named st thread
named_by st None thread is h = absurd (let f : None ≡ Some thread = is in cc)
named_by st (Some other) thread is h =
    let same : other ≡ thread = cc in
    record {
      r = h.0;
      there = subst (λ (t : ThreadId). get st.records t.slot ≡ Some h.0) same h.1;
      number = h.2 ∙ ap (λ (t : ThreadId). t.number) same;
    }

module _ (accepted : Acceptance) (most : ℕ) (thread : ThreadId) (st : State) (runs_in : Runs accepted most st thread) where
  who : Named st thread
  who = named_by st st.running thread runs_in.is runs_in.kept.running

  abbrev runner : Thread
  runner = thread_of_record st.areas.pool st.waits thread.slot who.r

  pub step_is : (move : LocalMove) → 0 < st.fuel.left → LocalIs st thread (λ l. local_step (code_of accepted) l ≡ move) → (t : Thread) × (step (setting_of accepted most st) (machine_of most st) ≡ moved (setting_of accepted most st) (machine_of most st) t move)
  step_is move some is =
      let running : number_in st.running ≡ Some who.r.number = ap number_in runs_in.is ∙ ap (λ (n : ℕ). Some n) (sym who.number) in
      let found : thread_of (machine_of most st) who.r.number ≡ Some runner = found_at accepted most st runs_in.kept thread.slot who.r who.there in
      let cost : most - st.fuel.left < most = omega (arith, some, runs_in.kept.fuel) in
      (runner, step_moves (setting_of accepted most st) (machine_of most st) runner move running found cost (is who.r who.there))

  pub fuel_is : st.fuel.left ≡ 0 → step (setting_of accepted most st) (machine_of most st) ≡ machine.Stops Stop.Fuel
  fuel_is none =
      let running : number_in st.running ≡ Some who.r.number = ap number_in runs_in.is ∙ ap (λ (n : ℕ). Some n) (sym who.number) in
      let found : thread_of (machine_of most st) who.r.number ≡ Some runner = found_at accepted most st runs_in.kept thread.slot who.r who.there in
      let cost : most - st.fuel.left ≡ most = omega (arith, none) in
      step_fuel (setting_of accepted most st) (machine_of most st) runner running found cost

-- ---- the run stops

pub cut_trap : (accepted : Acceptance) (most : ℕ) (thread : ThreadId) (old mid : State) (kind : TrapKind) → (ran : RanTo accepted most thread old (answer.Traps kind) mid) → OnTold accepted most thread old (Some (Turn.Cut (Stop.Trap kind) (most - mid.fuel.left - mid.begun))) (record mid { stopped = Some (Turn.Cut (Stop.Trap kind) (most - mid.fuel.left - mid.begun)) })
cut_trap accepted most thread old mid kind ran =
    let told = stop_told accepted most mid thread ran.runs (Stop.Trap kind) (step_is accepted most thread mid ran.runs (runs.Stops (local.Trapped kind)) ran.fuel ran.next).1 in
    joined accepted most thread old mid (record mid { stopped = Some (Turn.Cut (Stop.Trap kind) (most - mid.fuel.left - mid.begun)) }) (answer.Traps kind) (Some (Turn.Cut (Stop.Trap kind) (most - mid.fuel.left - mid.begun))) ran told

pub cut_chunk : (accepted : Acceptance) (most : ℕ) (thread : ThreadId) (old mid : State) → (ran : RanTo accepted most thread old answer.NoChunk mid) → OnTold accepted most thread old (Some (Turn.Cut Stop.NoChunk (most - mid.fuel.left - mid.begun))) (record mid { stopped = Some (Turn.Cut Stop.NoChunk (most - mid.fuel.left - mid.begun)) })
cut_chunk accepted most thread old mid ran =
    let told = stop_told accepted most mid thread ran.runs Stop.NoChunk (step_is accepted most thread mid ran.runs (runs.Stops local.NoRoom) ran.fuel ran.next).1 in
    joined accepted most thread old mid (record mid { stopped = Some (Turn.Cut Stop.NoChunk (most - mid.fuel.left - mid.begun)) }) answer.NoChunk (Some (Turn.Cut Stop.NoChunk (most - mid.fuel.left - mid.begun))) ran told

pub cut_fuel : (accepted : Acceptance) (most : ℕ) (thread : ThreadId) (old mid : State) → (ran : RanTo accepted most thread old answer.OutOfFuel mid) → OnTold accepted most thread old (Some (Turn.Cut Stop.Fuel (most - mid.fuel.left - mid.begun))) (record mid { stopped = Some (Turn.Cut Stop.Fuel (most - mid.fuel.left - mid.begun)) })
cut_fuel accepted most thread old mid ran =
    let told = stop_told accepted most mid thread ran.runs Stop.Fuel (fuel_is accepted most thread mid ran.runs ran.fuel) in
    joined accepted most thread old mid (record mid { stopped = Some (Turn.Cut Stop.Fuel (most - mid.fuel.left - mid.begun)) }) answer.OutOfFuel (Some (Turn.Cut Stop.Fuel (most - mid.fuel.left - mid.begun))) ran told

-- the turn and the state that `cut` answers
pub cut_is : (accepted : Acceptance) (most : ℕ) (thread : ThreadId) (old mid : State) (turn told : Turn) (new : State) → OnTold accepted most thread old (Some told) (record mid { stopped = Some told }) → turn ≡ told → new ≡ record mid { stopped = Some turn } → OnTold accepted most thread old (Some turn) new
cut_is accepted most thread old mid turn told new on is after =
    subst (OnTold accepted most thread old (Some turn)) (sym after) (subst (λ (t : Turn). OnTold accepted most thread old (Some t) (record mid { stopped = Some t })) (sym is) on)

pub told_is : (accepted : Acceptance) (most : ℕ) (thread : ThreadId) (old mid : State) (turn told : Turn) (new : State) → Told accepted most thread old (Some told) (record mid { stopped = Some told }) → turn ≡ told → new ≡ record mid { stopped = Some turn } → Told accepted most thread old (Some turn) new
told_is accepted most thread old mid turn told new on is after =
    subst (Told accepted most thread old (Some turn)) (sym after) (subst (λ (t : Turn). Told accepted most thread old (Some t) (record mid { stopped = Some t })) (sym is) on)
