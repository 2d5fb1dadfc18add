-- What a turn makes of a world: a good stretch, and a world that keeps what every world keeps.
use Rattle.thread_core.proofs.Common.{◌≡◌, ℕ, ◌+◌, ◌-◌, Option, Some, None, IsSome, IsTrue, refl, sym, ◌∙◌, ap, subst, arith, lowered, IsWellScoped, ThreadId, Acceptance, accepted_tree, IsValid, world_of, Pick, after_action, IsGoodStretch, World, Setting, Move, Puts, Spawns, Blocks, Ends, Stops, step, IsWellFormed, get, checked_of, code_of, local_of, IsReady, Record, GoesOn, IsRunning, KeepsRunning, IsSettled, IsKept, HasCome, machine_of, setting_of, number_in, held_in, MayRun, OnTold, KeepsRest, GoesIf, is_ready_in, Tells, IsTurn, MayBegin, LeavesRun, Held, State, Turn, Counts, counts_step}
use Rattle.machine_meaning.proofs.Stretching as runs
use Rattle.thread_core.proofs.CostLaws.{goes_cost}
use Rattle.thread_core.proofs.OutsideLaws.{between_come}

-- what stays of a setting
pub setting_same : (accepted : Acceptance) (most : ℕ) (old new : State) → KeepsRest accepted most old new → setting_of accepted most new ≡ setting_of accepted most old
setting_same accepted most old new rest = λ i. record { code = accepted.image.code; fuel = most; backlog = rest.backlog i; caps = rest.caps i }

some_is : (running : Option ThreadId) (thread : ThreadId) → running ≡ Some thread → IsSome running
some_is None thread e = absurd (let x : None ≡ Some thread = e in cc)
some_is (Some other) thread e = refl

none_not : (o : Option Turn) → o ≡ None → IsSome o → ⊥
none_not None e h = cc
none_not (Some turn) e h = cc

same_thread : (running : Option ThreadId) (other thread : ThreadId) → running ≡ Some other → running ≡ Some thread → other ≡ thread
same_thread running other thread e f = let x : Some other ≡ Some thread = sym e ∙ f in cc

pub come_is : (accepted : Acceptance) (most : ℕ) (st : State) (running : Option ThreadId) (thread : ThreadId) → running ≡ Some thread → HasCome accepted most st running →
    IsRunning (checked_of accepted) (accepted_tree accepted) (setting_of accepted most st) (machine_of most st)
come_is accepted most st None thread e h = absurd (let x : None ≡ Some thread = e in cc)
come_is accepted most st (Some other) thread e h = h

pub may_begin : (held : Held) (thread : ThreadId) (stopped : Option Turn) → stopped ≡ None → MayBegin held thread stopped → IsTrue (is_ready_in held thread) × (held.machine.running ≡ None)
may_begin held thread None e may = may
may_begin held thread (Some turn) e may = absurd (let x : Some turn ≡ None = e in cc)

-- the pick of a thread runs its segment
pub begun_runs : (accepted : Acceptance) (most : ℕ) (thread : ThreadId) → IsWellScoped (accepted_tree accepted) → IsValid (lowered (accepted_tree accepted)) accepted.image accepted.certificate →
    (old mid : State) → IsKept accepted most old → IsSettled (checked_of accepted) (machine_of most old) → setting_of accepted most mid ≡ setting_of accepted most old →
    after_action (setting_of accepted most old) (machine_of most old) (Pick thread.number) ≡ Some (machine_of most mid) →
    IsRunning (checked_of accepted) (accepted_tree accepted) (setting_of accepted most mid) (machine_of most mid)
begun_runs accepted most thread scoped valid old mid kept settled same picks =
    subst (λ (t : Setting). IsRunning (checked_of accepted) (accepted_tree accepted) t (machine_of most mid)) (sym same)
    (runs.picks (accepted_tree accepted) accepted.image accepted.certificate (setting_of accepted most old) scoped valid refl (machine_of most old) (machine_of most mid) thread.number kept.formed settled picks)

-- what a turn leaves
running_now : (running : Option ThreadId) (thread : ThreadId) → running ≡ Some thread → IsSome (number_in running)
running_now None thread e = absurd (let x : None ≡ Some thread = e in cc)
running_now (Some other) thread e = refl

pub leaves_run : (accepted : Acceptance) (most : ℕ) (thread : ThreadId) (number : ℕ) (at : World) (new : State) (move : Move) (turn : Turn) → Tells move turn number at (held_in accepted most new) → GoesIf accepted most thread (Some turn) new → LeavesRun turn (held_in accepted most new)
leaves_run accepted most thread number at new (Puts value after) (Turn.Out told) t goes = (t.2, running_now new.running thread goes.runs.is)
leaves_run accepted most thread number at new (Spawns started after) (Turn.Spawned other) t goes = (t.3, running_now new.running thread goes.runs.is)
leaves_run accepted most thread number at new (Spawns started after) Turn.Memory t goes = t.1
leaves_run accepted most thread number at new (Blocks after) (Turn.Blocked key cost) t goes = (t.3, ap number_in goes)
leaves_run accepted most thread number at new (Ends after) (Turn.Ended cost) t goes = (t.2, ap number_in goes)
leaves_run accepted most thread number at new (Stops stop) (Turn.Cut told cost) t goes = t.3
leaves_run accepted most thread number at new move turn t goes = absurd t

running_come : (accepted : Acceptance) (most : ℕ) (st : State) (running : Option ThreadId) (thread : ThreadId) → running ≡ Some thread →
    IsRunning (checked_of accepted) (accepted_tree accepted) (setting_of accepted most st) (machine_of most st) → HasCome accepted most st running
running_come accepted most st None thread e h = absurd (let x : None ≡ Some thread = e in cc)
running_come accepted most st (Some other) thread e h = h

module _ (accepted : Acceptance) (most : ℕ) (thread : ThreadId) (scoped : IsWellScoped (accepted_tree accepted)) (valid : IsValid (lowered (accepted_tree accepted)) accepted.image accepted.certificate)
    (old new : State) (kept : IsKept accepted most old) (running : IsRunning (checked_of accepted) (accepted_tree accepted) (setting_of accepted most old) (machine_of most old)) where
  abbrev s : Setting
  s = setting_of accepted most old

  abbrev from : World
  from = machine_of most old

  -- the world that a turn leaves: after a good stretch of as many steps as it cost, and as every world has come
  pub record Came (running' : Option ThreadId) : Type 0 where
    pub good : IsGoodStretch (checked_of accepted) s ((machine_of most new).cost - from.cost) from
    pub come : HasCome accepted most new running'
    pub ready : (other : ThreadId) (r : Record) → new.running ≡ Some other → new.stopped ≡ None → get new.records other.slot ≡ Some r → IsReady (checked_of accepted) (code_of accepted) (local_of new.areas r.context)
    pub stopped : IsSome new.stopped → IsSome new.running

  module _ (rest : KeepsRest accepted most old new) (steps : ℕ) (at : World) (goes_on : GoesOn s steps from at) where
    at_all : IsGoodStretch (checked_of accepted) s steps from × IsRunning (checked_of accepted) (accepted_tree accepted) s at × IsWellFormed (checked_of accepted) s at
    at_all = runs.stretch (accepted_tree accepted) accepted.image accepted.certificate s scoped valid refl steps from at kept.formed running goes_on

    cost_at : at.cost ≡ from.cost + steps
    cost_at = goes_cost s steps from at goes_on

    still : (turn : Turn) → machine_of most new ≡ at → new.running ≡ Some thread → new.stopped ≡ Some turn → Came new.running
    still turn e is stop =
        let n : (machine_of most new).cost - from.cost ≡ steps = (let c : (machine_of most new).cost ≡ at.cost = ap (λ (w : World). w.cost) e in let d : at.cost ≡ from.cost + steps = cost_at in omega arith) in
        record {
          good = subst (λ (k : ℕ). IsGoodStretch (checked_of accepted) s k from) (sym n) at_all.0;
          come = running_come accepted most new new.running thread is
              (subst (λ (t : Setting). IsRunning (checked_of accepted) (accepted_tree accepted) t (machine_of most new)) (sym (setting_same accepted most old new rest))
              (subst (IsRunning (checked_of accepted) (accepted_tree accepted) s) (sym e) at_all.1));
          ready = λ other r runs going. absurd (let x : Some turn ≡ None = sym stop ∙ going in cc);
          stopped = λ h. some_is new.running thread is;
        }

    stretch_more : (after : World) → world_of (step s at) ≡ Some after → after.cost ≡ at.cost + 1 → machine_of most new ≡ after → IsGoodStretch (checked_of accepted) s ((machine_of most new).cost - from.cost) from
    stretch_more after leads c e =
        let n : (machine_of most new).cost - from.cost ≡ steps + 1 = (let f : (machine_of most new).cost ≡ after.cost = ap (λ (w : World). w.cost) e in let d : at.cost ≡ from.cost + steps = cost_at in omega arith) in
        subst (λ (k : ℕ). IsGoodStretch (checked_of accepted) s k from) (sym n)
        (runs.stretch_on (accepted_tree accepted) accepted.image accepted.certificate s scoped valid refl steps from at after kept.formed running goes_on leads)

    on : (after : World) → world_of (step s at) ≡ Some after → after.cost ≡ at.cost + 1 → machine_of most new ≡ after → IsRunning (checked_of accepted) (accepted_tree accepted) s after → MayRun accepted most new thread → Came new.running
    on after leads c e running_after may = let is : new.running ≡ Some thread = may.runs.is in record {
      good = stretch_more after leads c e;
      come = running_come accepted most new new.running thread is
          (subst (λ (t : Setting). IsRunning (checked_of accepted) (accepted_tree accepted) t (machine_of most new)) (sym (setting_same accepted most old new rest))
          (subst (IsRunning (checked_of accepted) (accepted_tree accepted) s) (sym e) running_after));
      ready = λ other r runs going there. may.ready r (subst (λ (t : ThreadId). get new.records t.slot ≡ Some r) (same_thread new.running other thread runs is) there);
      stopped = λ h. some_is new.running thread is;
    }

    off : (after : World) → world_of (step s at) ≡ Some after → after.cost ≡ at.cost + 1 → machine_of most new ≡ after → IsSettled (checked_of accepted) after → new.running ≡ None → new.stopped ≡ None → Came new.running
    off after leads c e settled none going = record {
      good = stretch_more after leads c e;
      come = between_come accepted most new new.running none (subst (IsSettled (checked_of accepted)) (sym e) settled);
      ready = λ other r runs. absurd (let x : None ≡ Some other = sym none ∙ runs in cc);
      stopped = λ h. absurd (none_not new.stopped going h);
    }

    by_move : (move : Move) → step s at ≡ move → KeepsRunning (checked_of accepted) (accepted_tree accepted) s move → Counts at move → (turn : Turn) → Tells move turn thread.number at (held_in accepted most new) →
        GoesIf accepted most thread (Some turn) new → Came new.running
    by_move (Puts value after) e k c (Turn.Out told) t goes = on after (ap world_of e) c.cost t.1 k goes
    by_move (Spawns started after) e k c (Turn.Spawned other) t goes = on after (ap world_of e) c.cost t.2 k goes
    by_move (Spawns started after) e k c Turn.Memory t goes = still Turn.Memory t.0 goes t.1
    by_move (Blocks after) e k c (Turn.Blocked key cost) t goes = off after (ap world_of e) c.cost t.2 k goes t.3
    by_move (Ends after) e k c (Turn.Ended cost) t goes = off after (ap world_of e) c.cost t.1 k goes t.2
    by_move (Stops stop) e k c (Turn.Cut told cost) t goes = still (Turn.Cut told cost) t.2 goes t.3
    by_move move e k c turn t goes = absurd t

  pub came : (turn : Turn) → OnTold accepted most thread old (Some turn) new → Came new.running
  came turn told =
      by_move told.rest told.steps told.at told.goes_on (step s told.at) refl
      (runs.steps (accepted_tree accepted) accepted.image accepted.certificate s scoped valid refl told.at (at_all told.rest told.steps told.at told.goes_on).2 (at_all told.rest told.steps told.at told.goes_on).1)
      (counts_step s told.at) turn told.tells told.goes

  -- the turn that it is, beside any world with this program and setting
  pub turn_is : (held : Held) → held.accepted ≡ accepted → held.setting ≡ s → (turn : Turn) → OnTold accepted most thread old (Some turn) new → IsTurn held thread.number from turn (held_in accepted most new)
  turn_is held a e turn told = record {
    steps = told.steps;
    at = told.at;
    goes_on = rw e told.goes_on;
    tells = rw e told.tells;
    good = rw (a, e) (came turn told).good;
  }
