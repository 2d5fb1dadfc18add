-- What holds between and within the segments of a run of a valid pair: every thread started with main or a function that some
-- site starts a thread with.
use Rattle.log_laws.proofs.Common.{◌≡◌, ℕ, ◌+◌, ◌&&◌, nat_eq, nat_le, List, [], ◌∷◌, ◌++◌, length, length-append, Some, None, refl, sym, ap, subst, ◌∙◌, arith, cond, ⊎_elim, inr, Option, AllByRecursion, cond_both, length-set, lowered, IsWellScoped, Call, Question, Stop, Waiting, Delivery, is_dropped, with_delivery, source_machine, IsValid, IsRoot, shape_of, Shape, Op, Setup, setting_of, checked_of, LocalMove, local_step, Frame, IsAtCall, Blocked, World, Thread, Move, step, moved, thread_of, local_in, IsWellFormed, DeliversWords, row_for, on_thread, on_printed, AsksCall, IsStepAsSource, IsAlongSource, first_of, IsGrown, IsUnderWayFrom, RestsFrom, under-way-from, grown-either, rests-from, thread-on, IsReached, IsFinishedIn, StandsSettled, delivered_law, advanced_law, All-push, all_set}
use Rattle.c_mean.specs.World as source
use Rattle.c_mean.specs.World.{Rest, Fresh, Segment, thread_moves, segment_machine}
use Rattle.c_mean.proofs.SegmentLemmas.{asks_in_world}
use Rattle.cap_word.specs.Runs.{Goes, Asks, Stops, moves}
use Rattle.machine_world.specs.Local as local
use Rattle.machine_world.specs.Runs.{Action, Deliver, Advance, Pick, Step, after_action, picked, picked_at, may_run, is_between, delivered, advanced}
use Rattle.machine_world.specs.Threads as machine
use Rattle.machine_meaning.proofs.WorldLaws as laws
use Rattle.machine_meaning.proofs.WorldSteps.{step_is}
use Rattle.log_laws.proofs.Kept.{formed_after, formed_step, reaches}
use Rattle.log_laws.proofs.RestLemmas.{all-left, all-get, none-added, IsRootedRest, began-rooted, first-rooted}
use Rattle.log_laws.proofs.StepLemmas.{Stays, StaysAt, stays-step}

module _ (g : Setup) (scoped : IsWellScoped g.program) (valid : IsValid (lowered g.program) g.image g.certificate) (shape : Shape) where
  abbrev AreRooted : List Rest → Type 0
  AreRooted threads = AllByRecursion (IsRootedRest (lowered g.program)) threads

  -- between segments
  pub record Rests (w : World) : Type 0 where
    pub form : IsWellFormed (checked_of g) (setting_of g) w
    pub other : source.World
    pub stands : StandsSettled (checked_of g) g.program w other
    pub rooted : AreRooted other.threads
    pub shape_is : shape_of w.areas.pool ≡ shape

  -- within one
  pub record Runs (w : World) : Type 0 where
    pub form : IsWellFormed (checked_of g) (setting_of g) w
    pub start : source.World
    pub number : ℕ
    pub puts : List ℕ
    pub reached : IsReached (checked_of g) g.program (setting_of g) start number puts w
    pub rooted : AreRooted reached.segment.world.threads
    pub shape_is : shape_of w.areas.pool ≡ shape

  -- the step of the running thread
  pub step_of_running : (w : World) (is : Runs w) → step (setting_of g) w ≡ cond (nat_eq w.cost (setting_of g).fuel) (machine.Stops Stop.Fuel)
      (moved (setting_of g) w is.reached.under_way.thread (local_step (setting_of g).code (local_in w is.reached.under_way.thread)))
  step_of_running w is = step_is (setting_of g) w is.reached.segment.number is.reached.under_way.thread is.reached.under_way.running is.reached.under_way.live

  stays : (w : World) (move : Move) (is : Runs w) → step (setting_of g) w ≡ move → StaysAt w move
  stays w move is e = stays-step (setting_of g) w is.reached.under_way.thread move (sym (step_of_running w is) ∙ e)

  -- the running thread started with one of these functions
  pub running-rooted : (w : World) (is : Runs w) → IsRoot (lowered g.program) (first_of is.reached.segment.running)
  running-rooted w is =
      let from : IsUnderWayFrom is.start is.number is.reached.segment = under-way-from g.program (setting_of g).caps is.start is.number is.reached.steps is.reached.segment is.reached.comes in
      let all = subst AreRooted from.grown.is is.rooted in
      let before = all-left (IsRootedRest (lowered g.program)) is.start.threads from.grown.more all in
      began-rooted (lowered g.program) (first_of is.reached.segment.running) from.rest from.first (all-get (IsRootedRest (lowered g.program)) is.start.threads is.number from.rest before from.rested)

  -- ---- steps that start no thread

  -- two segments of one thread's run with equally many threads have the same
  same-threads : (start : source.World) (number n k : ℕ) (a b : Segment) → thread_moves g.program (setting_of g).caps start number n ≡ Some (Goes a) → thread_moves g.program (setting_of g).caps start number k ≡ Some (Goes b) → length b.world.threads ≡ length a.world.threads →
      b.world.threads ≡ a.world.threads
  same-threads start number n k a b first second same = ⊎_elim
      (λ (grown : IsGrown a.world.threads b.world.threads). none-added a.world.threads b.world.threads grown same)
      (λ (grown : IsGrown b.world.threads a.world.threads). sym (none-added b.world.threads a.world.threads grown (sym same)))
      (grown-either g.program (setting_of g).caps start number n k a b first second)

  on : (w after : World) (is : Runs w) (puts : List ℕ) (r : IsReached (checked_of g) g.program (setting_of g) is.start is.number puts after) → Stays w after 0 → AreRooted r.segment.world.threads
  on w after is puts r stay =
      let a = is.reached.under_way.next in
      let b = r.under_way.next in
      let next = stay.next in
      let same : length r.segment.world.threads ≡ length is.reached.segment.world.threads = omega (arith, a, b, next) in
      subst AreRooted (sym (same-threads is.start is.number is.reached.steps r.steps is.reached.segment r.segment is.reached.comes r.comes same)) is.rooted

  pub goes : (w after : World) → Runs w → step (setting_of g) w ≡ machine.Goes after → Runs after
  goes w after is e =
      let r = reaches g scoped valid w (machine.Goes after) is.form is.reached e in
      let stay : Stays w after 0 = stays w (machine.Goes after) is e in
      record { form = formed_step g scoped valid w (machine.Goes after) is.form e; start = is.start; number = is.number; puts = is.puts; reached = r; rooted = on w after is is.puts r stay; shape_is = stay.shape ∙ is.shape_is }

  pub puts : (w after : World) (value : ℕ) → Runs w → step (setting_of g) w ≡ machine.Puts value after → Runs after
  puts w after value is e =
      let r = reaches g scoped valid w (machine.Puts value after) is.form is.reached e in
      let stay : Stays w after 0 = stays w (machine.Puts value after) is e in
      record { form = formed_step g scoped valid w (machine.Puts value after) is.form e; start = is.start; number = is.number; puts = is.puts ++ value ∷ []; reached = r; rooted = on w after is (is.puts ++ value ∷ []) r stay; shape_is = stay.shape ∙ is.shape_is }

  -- ---- the start of a thread

  -- a thread is started with a function that some site names
  record HasSpawned (w : World) (is : Runs w) : Type 0 where
    function : ℕ
    argument : ℕ
    root : IsRoot (lowered g.program) function
    steps : ℕ
    segment : Segment
    comes : thread_moves g.program (setting_of g).caps is.start is.number steps ≡ Some (Goes segment)
    threads : segment.world.threads ≡ is.reached.segment.world.threads ++ Fresh function (argument ∷ []) ∷ []

  abbrev HasSpawnedAt : (w : World) → Runs w → LocalMove → Type 0
  HasSpawnedAt w is (Asks (local.Starts entry argument need) still) = HasSpawned w is
  HasSpawnedAt w is _ = Unit {0}

  starts_not_calls : {A : Type 0} (entry argument need : ℕ) (call : Call) → (let q : local.Question = local.Starts entry argument need in q) ≡ local.Calls call → A
  starts_not_calls entry argument need call e = absurd cc

  spawned-by : (w : World) (is : Runs w) (entry argument need n : ℕ) (asked : Question) (waiting : Waiting) (f i word : ℕ) (op : Op) (frames : List Frame) →
      IsAtCall (checked_of g) w.areas.pool is.reached.under_way.thread.core f i op word frames →
      moves (source_machine g.program) n is.reached.segment.running ≡ Asks asked waiting → AsksCall (checked_of g) op (local.Starts entry argument need) asked.call → HasSpawned w is
  spawned-by w is entry argument need n asked waiting f i word (Op.Model site d m args) frames rests comes same = starts_not_calls entry argument need _ same.2
  spawned-by w is entry argument need n asked waiting f i word (Op.Spawn site d h x) frames rests comes same =
      let world = asks_in_world g.program (setting_of g).caps is.reached.segment n asked waiting comes in
      let on = subst (λ (call : Call). moves (segment_machine g.program (setting_of g).caps) world.0 is.reached.segment ≡ source.calls (setting_of g).caps is.reached.segment asked.globals waiting call) same.1 world.2 in
      record {
        function = h;
        argument = same.0;
        root = inr (record { f = f; k = i; site = site; result = d; argument = x; there = rests.operation });
        steps = is.reached.steps + world.0;
        segment = _;
        comes = thread-on g.program (setting_of g).caps is.start is.number is.reached.steps world.0 is.reached.segment _ is.reached.comes on;
        threads = refl;
      }
  spawned-by w is entry argument need n asked waiting f i word _ frames rests comes same = absurd same

  spawned-at : (w : World) (is : Runs w) (move : LocalMove) → IsStepAsSource (checked_of g) g.program is.reached.segment.running (local_in w is.reached.under_way.thread) move → HasSpawnedAt w is move
  spawned-at w is (Asks (local.Starts entry argument need) still) h =
      let at = h.1.4 in
      spawned-by w is entry argument need h.1.0 h.1.1 h.1.2 at.function at.operation at.word at.op at.frames at.rests h.1.3 at.same
  spawned-at w is _ h = tt

  abbrev StepSpawns : (w : World) → Runs w → Move → Type 0
  StepSpawns w is (machine.Spawns number after) = HasSpawned w is
  StepSpawns w is _ = Unit {0}

  -- where the running thread is, it runs as the source's
  pub along : (w : World) (is : Runs w) → IsAlongSource (checked_of g) (setting_of g).code g.program is.reached.segment.running (local_in w is.reached.under_way.thread)
  along w is = is.reached.under_way.runs.along is.reached.under_way.steps (local_in w is.reached.under_way.thread) is.reached.under_way.comes

  step-spawns : (w : World) (is : Runs w) (move : Move) → step (setting_of g) w ≡ move → StepSpawns w is move
  step-spawns w is move e =
      let thread = is.reached.under_way.thread in
      let own = spawned-at w is (local_step (setting_of g).code (local_in w thread)) (along w is).step in
      subst (StepSpawns w is) (sym (step_of_running w is) ∙ e)
      (on_thread (setting_of g) w (StepSpawns w is) (λ stop. tt) tt thread
      (λ left. record {
        goes = λ after at. tt;
        answers = λ ask still at. on_printed (StepSpawns w is) (row_for (setting_of g) w thread ask).prints _ tt (λ word some. tt);
        blocks = λ block. tt;
        spawns = λ entry argument need still taken at few some. subst (HasSpawnedAt w is) at own;
        ends = λ areas at. tt;
      }))

  pub spawns : (w after : World) (number : ℕ) → Runs w → step (setting_of g) w ≡ machine.Spawns number after → Runs after
  spawns w after number is e =
      let r = reaches g scoped valid w (machine.Spawns number after) is.form is.reached e in
      let stay : Stays w after 1 = stays w (machine.Spawns number after) is e in
      let new : HasSpawned w is = step-spawns w is (machine.Spawns number after) e in
      let a = is.reached.under_way.next in
      let b = r.under_way.next in
      let next = stay.next in
      let long = ap length new.threads in
      let one = length-append is.reached.segment.world.threads (Fresh new.function (new.argument ∷ []) ∷ []) in
      let same : length r.segment.world.threads ≡ length new.segment.world.threads = omega (arith, a, b, next, long, one) in
      let threads = same-threads is.start is.number new.steps r.steps new.segment r.segment new.comes r.comes same ∙ new.threads in
      record {
        form = formed_step g scoped valid w (machine.Spawns number after) is.form e;
        start = is.start;
        number = is.number;
        puts = is.puts;
        reached = r;
        rooted = subst AreRooted (sym threads) (All-push (IsRootedRest (lowered g.program)) is.reached.segment.world.threads (Fresh new.function (new.argument ∷ [])) is.rooted new.root);
        shape_is = stay.shape ∙ is.shape_is;
      }

  -- ---- a segment ends

  ended : (w after : World) (is : Runs w) → Stays w after 0 → IsWellFormed (checked_of g) (setting_of g) after → IsFinishedIn (checked_of g) g.program (setting_of g) is.start is.number is.puts after → Rests after
  ended w after is stay form finished =
      let other = finished.0 in
      let run = finished.1.runs in
      let from : RestsFrom is.reached.segment other =
      rests-from g.program (setting_of g).caps is.start is.number is.reached.steps run.0 is.reached.segment (record { trap = None; world = other }) is.reached.comes run.1 refl in
      let a = is.reached.under_way.next in
      let b = finished.2.stands.next in
      let next = stay.next in
      let set = length-set from.threads is.reached.segment.number from.rest in
      let whole = ap length from.is in
      let same : length from.threads ≡ length is.reached.segment.world.threads = omega (arith, a, b, next, set, whole) in
      let threads : from.threads ≡ is.reached.segment.world.threads = none-added is.reached.segment.world.threads from.threads from.grown same in
      let rest = first-rooted (lowered g.program) (first_of is.reached.segment.running) from.rest from.first (running-rooted w is) in
      let all = all_set (IsRootedRest (lowered g.program)) from.threads is.reached.segment.number from.rest (subst AreRooted (sym threads) is.rooted) rest in
      record { form = form; other = other; stands = finished.2; rooted = subst AreRooted (sym from.is) all; shape_is = stay.shape ∙ is.shape_is }

  pub blocks : (w after : World) → Runs w → step (setting_of g) w ≡ machine.Blocks after → Rests after
  blocks w after is e = ended w after is (stays w (machine.Blocks after) is e) (formed_step g scoped valid w (machine.Blocks after) is.form e) (reaches g scoped valid w (machine.Blocks after) is.form is.reached e)

  pub ends : (w after : World) → Runs w → step (setting_of g) w ≡ machine.Ends after → Rests after
  ends w after is e = ended w after is (stays w (machine.Ends after) is e) (formed_step g scoped valid w (machine.Ends after) is.form e) (reaches g scoped valid w (machine.Ends after) is.form is.reached e)

  -- ---- between segments

  -- what is picked, delivered or waited for leaves the next number and the pool
  record Same (w after : World) : Type 0 where
    next : after.next ≡ w.next
    pool : shape_of after.areas.pool ≡ shape_of w.areas.pool

  abbrev SameIf : World → Option World → Type 0
  SameIf w None = Unit {0}
  SameIf w (Some after) = Same w after

  same-at : (w : World) (thread : Thread) (blocked : Option Blocked) → Same w (picked_at (setting_of g) w thread blocked)
  same-at w thread None = record { next = refl; pool = refl }
  same-at w thread (Some blocked) = record { next = refl; pool = refl }

  same-picked : (w : World) (found : Option Thread) → SameIf w (picked (setting_of g) w found)
  same-picked w None = tt
  same-picked w (Some thread) = cond_both (may_run (setting_of g) w thread.blocked) (Some (picked_at (setting_of g) w thread thread.blocked)) None (SameIf w) (λ _. same-at w thread thread.blocked) (λ _. tt)

  same-delivered : (w : World) (delivery : Delivery) → Same w (delivered (setting_of g) w delivery)
  same-delivered w delivery = cond_both (is_dropped (setting_of g).backlog w.exchange delivery) w _ (Same w) (λ _. record { next = refl; pool = refl }) (λ _. record { next = refl; pool = refl })

  same-action : (w : World) (action : Action) → (action ≡ Step → ⊥) → SameIf w (after_action (setting_of g) w action)
  same-action w (Deliver delivery) not = cond_both (is_between w) (Some (delivered (setting_of g) w delivery)) None (SameIf w) (λ _. same-delivered w delivery) (λ _. tt)
  same-action w (Advance to) not = cond_both (is_between w && nat_le w.clock to) (Some (advanced w to)) None (SameIf w) (λ _. record { next = refl; pool = refl }) (λ _. tt)
  same-action w (Pick number) not = cond_both (is_between w) (picked (setting_of g) w (thread_of w number)) None (SameIf w) (λ _. same-picked w (thread_of w number)) (λ _. tt)
  same-action w Step not = absurd (not refl)

  same : (w after : World) (action : Action) → (action ≡ Step → ⊥) → after_action (setting_of g) w action ≡ Some after → Same w after
  same w after action not e = subst (SameIf w) e (same-action w action not)

  pub begins : (w after : World) (number : ℕ) → Rests w → after_action (setting_of g) w (Pick number) ≡ Some after → Runs after
  begins w after number is e =
      let r : IsReached (checked_of g) g.program (setting_of g) is.other number [] after =
      laws.picks g.program g.image g.certificate (setting_of g) w after is.other number scoped valid refl is.form is.stands e in
      let from : IsUnderWayFrom is.other number r.segment = under-way-from g.program (setting_of g).caps is.other number r.steps r.segment r.comes in
      let kept = same w after (Pick number) (λ no. cc) e in
      let a = is.stands.stands.next in
      let b = r.under_way.next in
      let next = kept.next in
      let threads = none-added is.other.threads r.segment.world.threads from.grown (omega (arith, a, b, next)) in
      record {
        form = formed_after g scoped valid w after (Pick number) tt is.form e;
        start = is.other;
        number = number;
        puts = [];
        reached = r;
        rooted = subst AreRooted (sym threads) is.rooted;
        shape_is = kept.pool ∙ is.shape_is;
      }

  pub advances : (w after : World) (to : ℕ) → Rests w → after_action (setting_of g) w (Advance to) ≡ Some after → Rests after
  advances w after to is e = record {
    form = formed_after g scoped valid w after (Advance to) tt is.form e;
    other = is.other;
    stands = advanced_law (checked_of g) g.program (setting_of g) w after is.other to is.stands e;
    rooted = is.rooted;
    shape_is = (same w after (Advance to) (λ no. cc) e).pool ∙ is.shape_is;
  }

  delivered-threads : (other : source.World) (delivery : Delivery) → (cond (is_dropped (setting_of g).backlog other.exchange delivery) other (record other { exchange = with_delivery other.exchange delivery })).threads ≡ other.threads
  delivered-threads other delivery =
      cond_both (is_dropped (setting_of g).backlog other.exchange delivery) other (record other { exchange = with_delivery other.exchange delivery }) (λ (o : source.World). o.threads ≡ other.threads) (λ _. refl) (λ _. refl)

  pub delivers : (w after : World) (delivery : Delivery) → DeliversWords (Deliver delivery) → Rests w → after_action (setting_of g) w (Deliver delivery) ≡ Some after → Rests after
  delivers w after delivery words is e = record {
    form = formed_after g scoped valid w after (Deliver delivery) words is.form e;
    other = cond (is_dropped (setting_of g).backlog is.other.exchange delivery) is.other (record is.other { exchange = with_delivery is.other.exchange delivery });
    stands = delivered_law (checked_of g) g.program (setting_of g) w after is.other delivery is.stands e;
    rooted = subst AreRooted (sym (delivered-threads is.other delivery)) is.rooted;
    shape_is = (same w after (Deliver delivery) (λ no. cc) e).pool ∙ is.shape_is;
  }
