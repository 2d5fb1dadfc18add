-- No run of a valid pair stops for want of a chunk where its pool has as many chunks that are large enough as the budget says.
use Rattle.log_laws.proofs.Common.{◌≡◌, ◌≢◌, inl, inr, ◌⊎◌, ℕ, zero, suc, ◌-◌, ◌*◌, ◌/◌, ◌≤◌, nat_le, false, List, [], ◌∷◌, Some, None, refl, sym, ap, subst, ◌∙◌, arith, cond, ⊎_elim, Option, is_none, AllByRecursion, cond-false, none-some, same_Some, lowered, IsWellScoped, Stop, IsValid, Budget, IsBudget, Pool, fits, shape_of, words_in, Shape, Setup, setting_of, start_machine, start_areas, checked_of, formed, Action, Deliver, Advance, Pick, Step, after_action, after_actions, and_then, is_between, world_of, World, Move, step, step_on, AreWellFormed, IsWellFormedIf, DeliversWords, most_fuel, all_free-new, IsWellFormedIf-start, CallFacts-valid, fact_at, starts_law, live, roomy_below, roomy}
use Rattle.c_mean.specs.World as source
use Rattle.machine_world.specs.Threads as machine
use Rattle.log_laws.proofs.CountLemmas.{once}
use Rattle.log_laws.proofs.EnoughLemmas.{never_short}
use Rattle.log_laws.proofs.StartLemmas.{Rests, Runs, goes, puts, spawns, blocks, ends, begins, advances, delivers}

-- ---- pools of one shape

fits-same : (p q : Pool) (bytes n : ℕ) → shape_of p ≡ shape_of q → fits p bytes n ≡ fits q bytes n
fits-same p q bytes n e = ap (λ (sh : Shape). nat_le bytes (4 * words_in sh n - 16)) e

below-same : (p q : Pool) (bytes n : ℕ) → shape_of p ≡ shape_of q → roomy_below p bytes n ≡ roomy_below q bytes n
below-same p q bytes zero e = refl
below-same p q bytes (suc n) e =
    let rest = below-same p q bytes n e in
    let here = ap once (fits-same p q bytes n e) in
    omega (arith, rest, here)

pub roomy-same : (p q : Pool) (bytes : ℕ) → shape_of p ≡ shape_of q → roomy p bytes ≡ roomy q bytes
roomy-same p q bytes e = below-same p q bytes p.count e ∙ ap (roomy_below q bytes) (ap (λ (sh : Shape). sh.count) e)

-- ---- a world between segments makes no step, and within one nothing comes from outside

no_step : (g : Setup) (w after : World) → w.running ≡ None → after_action (setting_of g) w Step ≡ Some after → ⊥
unfolding step
no_step g w after between e =
    let none : world_of (step_on (setting_of g) w w.running) ≡ None = ap (λ (o : Option ℕ). world_of (step_on (setting_of g) w o)) between in
    none-some after (sym none ∙ e)

under_way : (w : World) (number : ℕ) (o : Option World) (after : World) → w.running ≡ Some number → cond (is_between w) o None ≡ Some after → ⊥
under_way w number o after running e =
    let not : is_between w ≡ false = ap (λ (r : Option ℕ). is_none r) running in
    none-some after (sym (cond-false (is_between w) o None not) ∙ e)

module _ (g : Setup) (scoped : IsWellScoped g.program) (valid : IsValid (lowered g.program) g.image g.certificate) (shape : Shape) where
  abbrev pub Stage : World → Type 0
  Stage w = Rests g scoped valid shape w ⊎ Runs g scoped valid shape w

  rests-on : (w after : World) (action : Action) → DeliversWords action → Rests g scoped valid shape w → after_action (setting_of g) w action ≡ Some after → Stage after
  rests-on w after (Deliver delivery) words is e = inl (delivers g scoped valid shape w after delivery words is e)
  rests-on w after (Advance to) words is e = inl (advances g scoped valid shape w after to is e)
  rests-on w after (Pick number) words is e = inr (begins g scoped valid shape w after number is e)
  rests-on w after Step words is e = absurd (no_step g w after is.stands.settled.between e)

  step-by : (w after : World) (move : Move) → Runs g scoped valid shape w → step (setting_of g) w ≡ move → world_of move ≡ Some after → Stage after
  step-by w after (machine.Goes next) is e to = subst Stage (same_Some next after to) (inr (goes g scoped valid shape w next is e))
  step-by w after (machine.Puts value next) is e to = subst Stage (same_Some next after to) (inr (puts g scoped valid shape w next value is e))
  step-by w after (machine.Spawns number next) is e to = subst Stage (same_Some next after to) (inr (spawns g scoped valid shape w next number is e))
  step-by w after (machine.Blocks next) is e to = subst Stage (same_Some next after to) (inl (blocks g scoped valid shape w next is e))
  step-by w after (machine.Ends next) is e to = subst Stage (same_Some next after to) (inl (ends g scoped valid shape w next is e))
  step-by w after _ is e to = absurd (none-some after to)

  runs-on : (w after : World) (action : Action) → Runs g scoped valid shape w → after_action (setting_of g) w action ≡ Some after → Stage after
  runs-on w after (Deliver delivery) is e = absurd (under_way w is.reached.segment.number _ after is.reached.under_way.running e)
  runs-on w after (Advance to) is e = absurd (advance_not w is.reached.segment.number to after is.reached.under_way.running e)
    where
      advance_not : (v : World) (number to : ℕ) (next : World) → v.running ≡ Some number → after_action (setting_of g) v (Advance to) ≡ Some next → ⊥
      advance_not v number to next running done =
          let not : is_between v ≡ false = ap (λ (r : Option ℕ). is_none r) running in
          let none : after_action (setting_of g) v (Advance to) ≡ None = rw not refl in
          none-some next (sym none ∙ done)
  runs-on w after (Pick number) is e = absurd (under_way w is.reached.segment.number _ after is.reached.under_way.running e)
  runs-on w after Step is e = step-by w after (step (setting_of g) w) is refl e

  pub stage-on : (w after : World) (action : Action) → DeliversWords action → Stage w → after_action (setting_of g) w action ≡ Some after → Stage after
  stage-on w after action words stage e = ⊎_elim (λ rests. rests-on w after action words rests e) (λ runs. runs-on w after action runs e) stage

  -- where a first step has led to a world, the rest goes on from there
  pub then-on : (first : Option World) (more : World → Option World) (end : World) → ((next : World) → first ≡ Some next → more next ≡ Some end → Stage end) → and_then first more ≡ Some end → Stage end
  then-on None more end on e = absurd (none-some end e)
  then-on (Some next) more end on e = on next refl e

  pub all-on : (actions : List Action) (w end : World) → AllByRecursion DeliversWords actions → Stage w → after_actions (setting_of g) actions w ≡ Some end → Stage end
  all-on [] w end words stage e = subst Stage (same_Some w end e) stage
  all-on (action ∷ actions) w end words stage e =
      then-on (after_action (setting_of g) w action) (after_actions (setting_of g) actions) end
      (λ next first rest. all-on actions next end words.1 (stage-on w next action words.0 stage first) rest) e

  -- the start
  pub starts : (start : World) → AreWellFormed (checked_of g) (start_areas g) → g.policy.fuel ≤ most_fuel → start_machine g ≡ Some start → shape_of start.areas.pool ≡ shape → Rests g scoped valid shape start
  starts start areas fuel e shape_is =
      let code = formed g.program g.image g.certificate scoped valid in
      let room = ((CallFacts-valid (lowered g.program) g.image g.certificate code valid).entries g.program.main code.main_defined).room in
      record {
        form = subst (IsWellFormedIf (checked_of g) (setting_of g)) e
            (IsWellFormedIf-start (checked_of g) (setting_of g) (start_areas g) (fact_at g.certificate g.program.main).entry (fact_at g.certificate g.program.main).bound areas (all_free-new g.policy.chunks (g.certificate.chunk / 4) g.policy.extra (g.policy.extra_bytes / 4)) fuel (omega (arith, room)));
        other = source.start_world g.program;
        stands = starts_law g.program g.image g.certificate start (start_areas g) scoped valid refl areas e;
        rooted = (inl refl, tt);
        shape_is = shape_is;
      }

  -- a world between segments makes no step
  rests-short : (w : World) → Rests g scoped valid shape w → step (setting_of g) w ≢ machine.Stops Stop.NoChunk
  unfolding step
  rests-short w is e =
      let wrong : step_on (setting_of g) w w.running ≡ machine.Wrong = ap (step_on (setting_of g) w) is.stands.settled.between in
      let both : machine.Wrong ≡ machine.Stops Stop.NoChunk = sym wrong ∙ e in
      cc

  pub stage-short : (budget : Budget) (n : ℕ) (w : World) → IsBudget (lowered g.program) g.certificate budget → Stage w → live (setting_of g) w ≤ n → n * budget.per_thread ≤ roomy w.areas.pool g.certificate.max_path → step (setting_of g) w ≢ machine.Stops Stop.NoChunk
  stage-short budget n w is stage few enough = ⊎_elim (λ rests. rests-short w rests) (λ runs. never_short g scoped valid shape budget is w runs n few enough) stage

  pub stage-shape : (w : World) → Stage w → shape_of w.areas.pool ≡ shape
  stage-shape w stage = ⊎_elim (λ rests. rests.shape_is) (λ runs. runs.shape_is) stage

pub enough : (g : Setup) (budget : Budget) (threads : ℕ) (actions : List Action) (start end : World) → IsWellScoped g.program → IsValid (lowered g.program) g.image g.certificate → AreWellFormed (checked_of g) (start_areas g) → g.policy.fuel ≤ most_fuel →
    IsBudget (lowered g.program) g.certificate budget → start_machine g ≡ Some start → threads * budget.per_thread ≤ roomy start.areas.pool g.certificate.max_path →
    AllByRecursion DeliversWords actions → after_actions (setting_of g) actions start ≡ Some end → live (setting_of g) end ≤ threads → step (setting_of g) end ≢ machine.Stops Stop.NoChunk
enough g budget threads actions start end scoped valid areas fuel is begins_at room words comes few =
    let shape = shape_of start.areas.pool in
    let stage = all-on g scoped valid shape actions start end words (inl (starts g scoped valid shape start areas fuel begins_at refl)) comes in
    let same = roomy-same end.areas.pool start.areas.pool g.certificate.max_path (stage-shape g scoped valid shape end stage) in
    stage-short g scoped valid shape budget threads end is stage few (omega (arith, room, same))
