-- How a choice point goes on where no thread is ready: the clock moves, or the run is idle; and the other stops.
use Rattle.runner.proofs.Common.{◌≡◌, ◌≢◌, ℕ, ◌+◌, ◌*◌, ◌^◌, ◌<◌, ◌≤◌, ◌||◌, Bool, true, false, List, [], ◌++◌, Option, Some, None, refl, sym, ap, ◌∙◌, subst, arith, IfSome, is_some, if◌then◌else◌, nil_from_length, Event, FitsEvent, IsNext, is_due, event_times, IsLeastOf, latest, IsIdle, Setup, setting_of, Segment, State, seen_of, not_moved, moved_goes_on, advanced, Setting, World, StopLine, IsWake, any_ready_in, Held, Halt, Kept, known, due_at, long_rank, lines_rank, stuck_rank, IsTraceIn, IsTraceOf, FitsNext, StandsBetween, IsAtPoint, clock_same, KeepsRun, earlier, time_of, MovesOn, StaysIdle, Rest, HasBytes, Unasked, Told, Made}
use Rattle.choice_rules.specs.Readiness.{any_ready, waking_times}
use Rattle.lawful_log.specs.Stops.{IsStop}
use Rattle.lawful_log.specs.Clocks.{goes_on}
use Rattle.lawful_log.specs.Within.{IsBetween}
use Rattle.lawful_log.proofs.Between.{between_moved}
use Rattle.lawful_log.proofs.Wakes.{none_wakes, least_wakes}
use Rattle.thread_core.specs.Making.{after_wait}
use Rattle.run_course.specs.declared.looking.Next.{Next}
use Rattle.run_course.proofs.Rules.{told_same}
use Rattle.run_course.proofs.Ready.{any_ready_told}
use Rattle.run_course.proofs.Times.{possible, timely_advanced}
use Rattle.runner.proofs.Waking.{AreWakes, time_within, time_least, none_earlier}

module _ (g : Setup) (state : State) (held : Held) (next : Option Event) (is : IsBetween g state (Some next) held.machine) (setting_is : held.setting ≡ setting_of g) where
  unready : any_ready_in held ≡ false → any_ready g.policy (seen_of state) held.machine.clock ≡ false
  unready e = sym (any_ready_told g state held (Some next) is setting_is) ∙ e

  both_false : (a b : Bool) → a ≡ false → b ≡ false → (a || b) ≡ false
  both_false true b p q = absurd (cc)
  both_false false b p q = q

  stuck : any_ready_in held ≡ false → is_due next held.machine.clock ≡ false → goes_on g state next held.machine.clock ≡ false
  stuck e due = both_false (is_due next held.machine.clock) (any_ready g.policy (seen_of state) held.machine.clock) due (unready e)

  still : any_ready_in held ≡ false → is_due next held.machine.clock ≡ false → held.machine.clock ≡ state.machine.clock
  still e due = not_moved g state next held.machine.clock is.clock_is (stuck e due)

  -- the least time is that of the state's machine at this clock
  wake_here : (wake : Option ℕ) → IsWake held.setting held.machine wake → IsWake (setting_of g) (advanced state.machine held.machine.clock) wake
  wake_here wake w =
      subst (λ (m : World). IsWake (setting_of g) m wake) is.machine_is (subst (λ (s : Setting). IsWake s held.machine wake) setting_is w)

  pub idle_is : any_ready_in held ≡ false → next ≡ None → held.machine.threads ≢ [] → IsNext state.trace None → IsWake held.setting held.machine None → IsStop g state StopLine.Idle held.machine
  idle_is e none live over wake =
      let due : is_due next held.machine.clock ≡ false = ap (λ (o : Option Event). is_due o held.machine.clock) none in
      let same = clock_same state held.machine is.machine_is (still e due) in
      let threads : held.machine.threads ≡ state.machine.threads = ap (λ (w : World). w.threads) is.machine_is in
      let idle : IsIdle g.policy (seen_of state) = record {
        between = ap (λ (o : Option Segment). is_some o) is.between;
        live = λ f. live (threads ∙ nil_from_length state.machine.threads f);
        over = over;
        none_ready = subst (λ (n : ℕ). any_ready g.policy (seen_of state) n ≡ false) (still e due) (unready e);
        none_sleeps = none_wakes g state held.machine.clock is.formed.counted.numbered is.stands is.threads (unready e) (wake_here None wake);
      } in
      (idle, same)

-- ---- the clock goes on

due_alike : (n : Next) (next : Option Event) → known n ≡ Some next → (clock : ℕ) → due_at n clock ≡ is_due next clock
due_alike Next.Unread next e clock = absurd (cc)
due_alike (Next.Event event) next e clock = let same : Some event ≡ next = cc in ap (λ (o : Option Event). is_due o clock) same
due_alike Next.Over next e clock = let same : None ≡ next = cc in ap (λ (o : Option Event). is_due o clock) same

falls_by : (long lines a b : ℕ) → a ≡ 0 → b ≡ 1 → 6000010 * long + (2 * lines + a) < 6000010 * long + (2 * lines + b)
falls_by long lines a b p q = omega (arith, p, q)

module _ (g : Setup) (state : State) (k : Kept) (held : Held) (left : Rest) (stands : StandsBetween g state k held left) (next : Option Event) (known_is : known k.next ≡ Some next)
    (none_ready : any_ready_in held ≡ false) (due : is_due next held.machine.clock ≡ false) (live : held.machine.threads ≢ []) where
  is_between : IsBetween g state (Some next) held.machine
  is_between = subst (λ (o : Option (Option Event)). IsBetween g state o held.machine) known_is stands.between

  nobody_ready : any_ready g.policy (seen_of state) held.machine.clock ≡ false
  nobody_ready = unready g state held next is_between stands.of.setting none_ready

  machine_same : held.machine ≡ state.machine
  machine_same = clock_same state held.machine is_between.machine_is (still g state held next is_between stands.of.setting none_ready due)

  wakes_by : (wake : Option ℕ) → IsWake (setting_of g) (advanced state.machine held.machine.clock) wake → AreWakes (waking_times (seen_of state)) wake
  wakes_by None is =
      none_wakes g state held.machine.clock is_between.formed.counted.numbered is_between.stands is_between.threads nobody_ready is
  wakes_by (Some time) is =
      least_wakes g state held.machine.clock is_between.formed.counted.numbered is_between.stands is_between.threads nobody_ready time is.0 is.1

  wakes_are : (wake : Option ℕ) → IsWake held.setting held.machine wake → AreWakes (waking_times (seen_of state)) wake
  wakes_are wake is = wakes_by wake (wake_here g state held next is_between stands.of.setting wake is)

  module _ (wake : Option ℕ) (wake_is : IsWake held.setting held.machine wake) where
    module _ (time : ℕ) (within : (held.machine.clock < time) × (time ≤ latest held.machine.cost)) (e : earlier (time_of next) wake ≡ Some time) where
      least : IsLeastOf (event_times next ++ waking_times (seen_of state)) time
      least = time_least next wake time (waking_times (seen_of state)) (wakes_are wake wake_is) e

      between_later : IsBetween g state (Some next) (advanced held.machine time)
      between_later = between_moved g state held.machine next time is_between (let h = within.0 in omega (arith, h)) (stuck g state held next is_between stands.of.setting none_ready due) least

      moved_stands : StandsBetween g state k (after_wait held time) left
      moved_stands = record {
        of = record {
          program = stands.of.program;
          image = stands.of.image;
          certificate = stands.of.certificate;
          setting = stands.of.setting;
          chunks = stands.of.chunks;
          small = stands.of.small;
          scoped = stands.of.scoped;
          valid = stands.of.valid;
          timely = timely_advanced held.machine time within.1 stands.of.timely;
        };
        going = stands.going;
        between = subst (λ (o : Option (Option Event)). IsBetween g state o (advanced held.machine time)) (sym known_is) between_later;
        ended = λ none. absurd (live none);
        settled = record { between = stands.settled.between; threads = stands.settled.threads };
        kept = stands.kept;
        needed = told_same held.machine (after_wait held time).machine k.rule (λ number. refl) stands.needed;
        past = stands.past;
        gate = stands.gate;
        read = stands.read;
      }

      something : (due_at k.next time || any_ready_in (after_wait held time)) ≡ true
      something = ap (λ (b : Bool). b || any_ready_in (after_wait held time)) (due_alike k.next next known_is time)
          ∙ ap (λ (b : Bool). is_due next time || b) (any_ready_told g state (after_wait held time) (Some next) between_later stands.of.setting)
          ∙ moved_goes_on g state next time least.one

      nothing : (due_at k.next held.machine.clock || any_ready_in held) ≡ false
      nothing = ap (λ (b : Bool). b || any_ready_in held) (due_alike k.next next known_is held.machine.clock ∙ due) ∙ none_ready

      pub moved_on : (new : Held) → new ≡ after_wait held time → MovesOn g state k held new left
      moved_on new is = subst (λ (h : Held). MovesOn g state k held h left) (sym is) (record {
        stands = moved_stands;
        falls = falls_by (long_rank k held) (lines_rank k) (stuck_rank k.next (after_wait held time)) (stuck_rank k.next held)
            (ap (λ (b : Bool). if b then 0 else 1) something) (ap (λ (b : Bool). if b then 0 else 1) nothing);
      })

    pub idle_on : earlier (time_of next) wake ≡ None → StaysIdle g state held held left Halt.Idle
    idle_on e = record {
      halt_is = refl;
      same = refl;
      idle = λ told. idle_is g state held next is_between stands.of.setting none_ready (none_earlier next wake e).0 live (over_at k.next left told (known_is ∙ ap Some (none_earlier next wake e).0) stands.read.trace_is)
          (subst (IsWake held.setting held.machine) (none_earlier next wake e).1 wake_is);
      machine_is = machine_same;
    } where
      over_in : (n : Next) (bytes : List ℕ) → known n ≡ Some None → IsTraceIn state.trace k.reader n bytes → IsNext state.trace None
      over_in Next.Over bytes f is = is
      over_in _ bytes f is = absurd (cc)

      over_at : (n : Next) (l : Rest) → HasBytes l → known n ≡ Some None → IsTraceOf state.trace k.reader n l → IsNext state.trace None
      over_at n Unasked told f is = absurd told
      over_at n (Told l) told f is = over_in n (k.reader.held ++ l) f is
      over_at n (Made l) told f is = over_in n l f is

-- ---- at a choice point

fits_next : (n : Next) (next : Option Event) → known n ≡ Some next → FitsNext n → IfSome next FitsEvent
fits_next Next.Unread next e fits = absurd (cc)
fits_next (Next.Event event) next e fits = let same : Some event ≡ next = cc in subst (λ (o : Option Event). IfSome o FitsEvent) same fits
fits_next Next.Over next e fits = let same : None ≡ next = cc in subst (λ (o : Option Event). IfSome o FitsEvent) same tt

module _ (g : Setup) (state : State) (k : Kept) (held : Held) (left : Rest) (next : Option Event) (at : IsAtPoint g state k held left next) where
  few : held.machine.cost ≤ 1000000000
  few =
      let same : held.machine.cost ≡ state.machine.cost = ap (λ (w : World). w.cost) at.stands.between.machine_is in
      let within = at.stands.between.formed.cost in let most = at.stands.between.formed.fuel in omega (arith, same, within, most)

  module _ (due : is_due next held.machine.clock ≡ false) (wake : Option ℕ) (wake_is : IsWake held.setting held.machine wake) where
    time_is : (time : ℕ) → earlier (time_of next) wake ≡ Some time → (held.machine.clock < time) × (time ≤ latest held.machine.cost)
    time_is time e = time_within held.setting held.machine next wake time at.stands.of.timely (fits_next k.next next at.known_is at.stands.read.fits) due wake_is e

    pub is_later : (time : ℕ) → earlier (time_of next) wake ≡ Some time → held.machine.clock ≤ time
    is_later time e = let h = (time_is time e).0 in omega (arith, h)

    pub is_possible : (time : ℕ) → earlier (time_of next) wake ≡ Some time → time ≤ 2 ^ 63
    is_possible time e = possible held.machine time few (time_is time e).1

    module _ (none_ready : any_ready_in held ≡ false) where
      pub moves : (time : ℕ) → earlier (time_of next) wake ≡ Some time → (new : Held) → new ≡ after_wait held time → MovesOn g state k held new left
      moves time e new is = moved_on g state k held left at.stands next at.known_is none_ready due at.live wake wake_is time (time_is time e) e new is

      pub idles : earlier (time_of next) wake ≡ None → StaysIdle g state held held left Halt.Idle
      idles e = idle_on g state k held left at.stands next at.known_is none_ready due at.live wake wake_is e

pub keeps_wait : (held : Held) (time : ℕ) (new : Held) → new ≡ after_wait held time → KeepsRun held new
keeps_wait held time new e = record { accepted = ap (λ (h : Held). h.accepted) e; setting = ap (λ (h : Held). h.setting) e; chunks = ap (λ (h : Held). h.machine.areas.pool.count) e }
