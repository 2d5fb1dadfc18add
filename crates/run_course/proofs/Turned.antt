-- What a call of `begin` or `proceed` leaves: the segment is under way, and its last turn is to be told.
use Rattle.run_course.proofs.Common.{◌≡◌, ℕ, ◌+◌, List, Option, Some, None, refl, sym, ap, ◌∙◌, subst, IsSome, AllByRecursion, accepted_tree, Waiter, Setup, setting_of, Segment, State, IsWaiting, IsWithin, Still, still_waiting, Thread, World, thread_of, Setting, Move, Puts, Spawns, Blocks, Ends, Stops, step, Choice, Tells, Proceeds, KeepsSetting, GoesOn, Held, KeepsPlaces, Turn, Kept, IsOf, HasPast, StandsInside, StandsWithin, StepsAsSource, IsTimely, Rest}
use Rattle.run_course.proofs.Times.{timely_turn}
use Rattle.run_course.proofs.Going.{Along, along}
use Rattle.run_course.proofs.Rules.{kept_beside, told_along}

pub of_kept : (g : Setup) (old new : Held) → IsOf g old → KeepsSetting old new → IsTimely new.machine → IsOf g new
of_kept g old new of keeps timely = record {
  program = ap (λ a. accepted_tree a) keeps.accepted ∙ of.program;
  image = ap (λ a. a.image) keeps.accepted ∙ of.image;
  certificate = ap (λ a. a.certificate) keeps.accepted ∙ of.certificate;
  setting = keeps.setting ∙ of.setting;
  chunks = keeps.chunks ∙ of.chunks;
  small = of.small;
  scoped = of.scoped;
  valid = of.valid;
  timely = timely;
}

-- where those that wait are live: in the machine world that the turn leaves
abbrev pub Lives : List Waiter → Held → Type 0
Lives waiting new = AllByRecursion (IsWaiting new.machine) waiting

pub told_live : (g : Setup) (state : State) (segment : Segment) (begun : ℕ) (here : World) (waiting : List Waiter) (is : IsWithin g state segment begun here waiting) (move : Move) (turn : Turn) (number : ℕ) (new : Held) →
    Still g state segment begun here waiting is move → Tells move turn number here new → Lives waiting new
told_live g state segment begun here waiting is (Puts value after) (Turn.Out told) number new still t = subst (λ (w : World). AllByRecursion (IsWaiting w) waiting) (sym t.1) still
told_live g state segment begun here waiting is (Spawns started after) (Turn.Spawned thread) number new still t = subst (λ (w : World). AllByRecursion (IsWaiting w) waiting) (sym t.2) still
told_live g state segment begun here waiting is (Spawns started after) Turn.Memory number new still t = subst (λ (w : World). AllByRecursion (IsWaiting w) waiting) (sym t.0) is.threads.each
told_live g state segment begun here waiting is (Blocks after) (Turn.Blocked key cost) number new still t = subst (λ (w : World). AllByRecursion (IsWaiting w) waiting) (sym t.2) still
told_live g state segment begun here waiting is (Ends after) (Turn.Ended cost) number new still t = subst (λ (w : World). AllByRecursion (IsWaiting w) waiting) (sym t.1) still
told_live g state segment begun here waiting is (Stops stop) (Turn.Cut told cost) number new still t = subst (λ (w : World). AllByRecursion (IsWaiting w) waiting) (sym t.2) is.threads.each
told_live g state segment begun here waiting is _ _ number new still t = absurd t

pub some_live : (w : World) (number : ℕ) (t : Thread) → thread_of w number ≡ Some t → IsSome (thread_of w number)
some_live w number t e = by (thread_of w number) e where
  by : (o : Option Thread) → o ≡ Some t → IsSome o
  by None f = absurd (cc)
  by (Some u) f = refl

module _ (g : Setup) (state : State) (k : Kept) (old : Held) (left : Rest) (choice : Choice) (before : List ℕ) (inside : StandsInside g state k old left choice before)
    (law : StepsAsSource g state inside.segment.thread) (new : Held) (keeps : KeepsSetting old new) (places : KeepsPlaces old new) (turn : Turn) (did : Proceeds old turn new) where
  number_is : did.number ≡ inside.segment.thread
  number_is = let both : Some did.number ≡ Some inside.segment.thread = sym did.running ∙ inside.within.running in cc

  pub there : Along g state inside.segment old.begun did.made.at inside.waiting
  there = along g state inside.segment old.begun inside.waiting law did.made.steps old.machine did.made.at
      (subst (λ (s : Setting). GoesOn s did.made.steps old.machine did.made.at) inside.of.setting did.made.goes_on) (record { within = inside.within; reached = inside.reached })

  pub tells_now : Tells (step (setting_of g) did.made.at) turn inside.segment.thread did.made.at new
  tells_now = subst (λ (n : ℕ). Tells (step (setting_of g) did.made.at) turn n did.made.at new) number_is
      (subst (λ (s : Setting). Tells (step s did.made.at) turn did.number did.made.at new) inside.of.setting did.made.tells)

  within_now : IsWithin g state inside.segment new.begun did.made.at inside.waiting
  within_now = subst (λ (b : ℕ). IsWithin g state inside.segment b did.made.at inside.waiting) (sym did.begun) there.within

  pub turned : StandsWithin g state k new left (record { choice = choice; before = before; turn = turn })
  turned = record {
    of = of_kept g old new inside.of keeps (timely_turn old did.number old.machine turn new did.made inside.of.timely);
    segment = inside.segment;
    waiting = inside.waiting;
    here = did.made.at;
    within = within_now;
    tells = tells_now;
    reached = there.reached;
    thread_is = inside.thread_is;
    node_is = inside.node_is;
    before_is = inside.before_is;
    within_caps = inside.within_caps;
    placed = λ live. places choice.thread
        (inside.placed (some_live old.machine choice.thread.number inside.reached.under_way.thread
        (ap (λ (n : ℕ). thread_of old.machine n) (inside.thread_is ∙ sym inside.reached.of_thread) ∙ inside.reached.under_way.live))) live;
    started = inside.started;
    kept = kept_beside old new k.rule inside.waiting choice.thread places
        (told_live g state inside.segment old.begun did.made.at inside.waiting there.within (step (setting_of g) did.made.at) turn inside.segment.thread new
        (still_waiting g state inside.segment old.begun did.made.at inside.waiting there.within (step (setting_of g) did.made.at) refl) tells_now) inside.kept;
    needed = told_along g state inside.segment old.begun inside.waiting old.places k.rule choice.thread inside.kept did.made.steps old.machine did.made.at
        (subst (λ (s : Setting). GoesOn s did.made.steps old.machine did.made.at) inside.of.setting did.made.goes_on) inside.within inside.needed;
    past = subst (λ (b : ℕ). HasPast g state.past k.rule k.graph k.monitor (b + 1) b) (sym did.begun) inside.past;
    gate = inside.gate;
    read = inside.read;
  }
