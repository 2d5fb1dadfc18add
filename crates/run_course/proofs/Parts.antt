-- What a part of a step comes to: a line was put, or a beginning of it was taken; or nothing was.
use Rattle.run_course.proofs.Common.{◌≡◌, ℕ, zero, suc, ◌+◌, ◌≤◌, Bool, ◌&&◌, List, [], ◌∷◌, ◌++◌, Option, Some, None, Result, Ok, Err, refl, sym, ap, ◌∙◌, subst, arith, nat_le, is_none, if◌then◌else◌, checked_of, IsAllowed, nowhere, by_entry, quiet_world, after_quiet, Setup, setting_of, State, Counts, counts_step, Action, Advance, Deliver, Pick, advanced, delivered, world_of, and_then, after_action, after_actions, IsSound, Delivery, Under, Failure, Kept, Output, Grows, PutsText, TakesPart, IsOf, StandsBetween, StandsWithin, StandsBy, Stands, ActsTo, GoesTo, FailsIn, PartEnds, entry_text, log_text, Entry, Tells, Held, Turn, IsOnWay, has_waited, has_run, has_told, HasTicked, Rest, HasBytes, le_yes}
use Rattle.machine_world.specs.Threads.{World, Setting, Move, Goes, Puts as Puts_word, Spawns, Blocks, Ends, Stops, step}
use Rattle.run_course.proofs.Acting.{acts_on, one_step, told_acts}
use Rattle.run_course.proofs.FitTexts.{no_line, one_line}
use Rattle.run_course.proofs.Joined.{grows_none, part_none}
use Rattle.run_course.proofs.Soundness.{sound_between, sound_within, sound_now}

-- ---- one action

pub no_acts : (s : Setting) (w v : World) → v ≡ w → ActsTo s w v
no_acts s w v e = record { actions = []; leads = ap Some (sym e) }

one_action : (s : Setting) (w after : World) (action : Action) → after_action s w action ≡ Some after → ActsTo s w after
one_action s w after action e = record { actions = action ∷ []; leads = ap (λ (o : Option World). and_then o (after_actions s [])) e }

pub advance_acts : (s : Setting) (w : World) (clock : ℕ) → w.running ≡ None → w.clock ≤ clock → ActsTo s w (advanced w clock)
advance_acts s w clock between later = one_action s w (advanced w clock) (Advance clock)
    (ap (λ (o : Option ℕ). if is_none o && nat_le w.clock clock then Some (advanced w clock) else None) between
    ∙ ap (λ (b : Bool). if b then Some (advanced w clock) else None) (le_yes w.clock clock later))

pub deliver_acts : (s : Setting) (w : World) (delivery : Delivery) → w.running ≡ None → ActsTo s w (delivered s w delivery)
deliver_acts s w delivery between = one_action s w (delivered s w delivery) (Deliver delivery)
    (ap (λ (o : Option ℕ). if is_none o then Some (delivered s w delivery) else None) between)

pub pick_acts : (s : Setting) (w after : World) (number : ℕ) → after_action s w (Pick number) ≡ Some after → ActsTo s w after
pick_acts s w after number e = one_action s w after (Pick number) e

-- ---- silent steps

quiet_step : (m : Move) (o : Option World) → quiet_world m ≡ o → (after : World) → o ≡ Some after → world_of m ≡ Some after
quiet_step (Goes w) o e after f = e ∙ f
quiet_step (Spawns number w) o e after f = e ∙ f
quiet_step _ o e after f = absurd (let no : None ≡ Some after = e ∙ f in cc)

quiet_by : (s : Setting) (n : ℕ) (w at : World) → ((v : World) → after_quiet s n v ≡ Some at → ActsTo s v at) → (o : Option World) → quiet_world (step s w) ≡ o → and_then o (after_quiet s n) ≡ Some at → ActsTo s w at
quiet_by s n w at rest None f e = absurd (let no : None ≡ Some at = e in cc)
quiet_by s n w at rest (Some v) f e = acts_on s w v at (one_step s w v (quiet_step (step s w) (Some v) f v refl)) (rest v e)

pub quiet_acts : (s : Setting) (n : ℕ) (w at : World) → after_quiet s n w ≡ Some at → ActsTo s w at
quiet_acts s zero w at e = no_acts s w at (let same : Some w ≡ Some at = e in cc)
quiet_acts s (suc n) w at e = quiet_by s n w at (λ v f. quiet_acts s n v at f) (quiet_world (step s w)) refl e

-- ---- the way to the next entry

told_way : (s : Setting) (from at : World) (n : ℕ) → after_quiet s n from ≡ Some at → (move : Move) (turn : Turn) (number : ℕ) (new : Held) → step s at ≡ move → Tells move turn number at new → IsOnWay s from new.machine
told_way s from at n quiet (Puts_word value after) (Turn.Out told) number new e t = has_told n at quiet (ap world_of e ∙ ap Some (sym t.1))
told_way s from at n quiet (Spawns started after) (Turn.Spawned thread) number new e t = has_told n at quiet (ap world_of e ∙ ap Some (sym t.2))
told_way s from at n quiet (Spawns started after) Turn.Memory number new e t = has_run n (quiet ∙ ap Some (sym t.0))
told_way s from at n quiet (Blocks after) (Turn.Blocked key cost) number new e t = has_told n at quiet (ap world_of e ∙ ap Some (sym t.2))
told_way s from at n quiet (Ends after) (Turn.Ended cost) number new e t = has_told n at quiet (ap world_of e ∙ ap Some (sym t.1))
told_way s from at n quiet (Stops stop) (Turn.Cut told cost) number new e t = has_run n (quiet ∙ ap Some (sym t.2))
told_way s from at n quiet _ _ number new e t = absurd t

-- ---- the clock

pub same_ticks : (from after : World) → after ≡ from → HasTicked from after
same_ticks from after e = subst (λ (w : World). HasTicked from w) (sym e) refl

one_tick : (from at after : World) → HasTicked from at → after.clock ≡ at.clock + 1 → after.cost ≡ at.cost + 1 → HasTicked from after
one_tick from at after ticked clock cost = omega (arith, ticked, clock, cost)

quiet_tick : (from w : World) (m : Move) (after : World) → HasTicked from w → Counts w m → quiet_world m ≡ Some after → HasTicked from after
quiet_tick from w (Goes v) after ticked c e = let same : v ≡ after = cc in subst (λ (u : World). HasTicked from u) same (one_tick from w v ticked c.clock c.cost)
quiet_tick from w (Spawns number v) after ticked c e = let same : v ≡ after = cc in subst (λ (u : World). HasTicked from u) same (one_tick from w v ticked c.clock c.cost)
quiet_tick from w _ after ticked c e = absurd (let no : None ≡ Some after = e in cc)

ticks_by : (s : Setting) (n : ℕ) (from w at : World) → HasTicked from w → ((v : World) → HasTicked from v → after_quiet s n v ≡ Some at → HasTicked from at) → (o : Option World) → quiet_world (step s w) ≡ o →
    and_then o (after_quiet s n) ≡ Some at → HasTicked from at
ticks_by s n from w at ticked rest None f e = absurd (let no : None ≡ Some at = e in cc)
ticks_by s n from w at ticked rest (Some v) f e = rest v (quiet_tick from w (step s w) v ticked (counts_step s w) f) e

quiet_ticks : (s : Setting) (n : ℕ) (from w at : World) → HasTicked from w → after_quiet s n w ≡ Some at → HasTicked from at
quiet_ticks s zero from w at ticked e = let same : w ≡ at = (let some : Some w ≡ Some at = e in cc) in subst (λ (u : World). HasTicked from u) same ticked
quiet_ticks s (suc n) from w at ticked e = ticks_by s n from w at ticked (λ v t f. quiet_ticks s n from v at t f) (quiet_world (step s w)) refl e

told_ticks : (from at : World) (move : Move) (turn : Turn) (number : ℕ) (new : Held) → HasTicked from at → Counts at move → Tells move turn number at new → HasTicked from new.machine
told_ticks from at (Puts_word value after) (Turn.Out told) number new ticked c t = subst (λ (u : World). HasTicked from u) (sym t.1) (one_tick from at after ticked c.clock c.cost)
told_ticks from at (Spawns started after) (Turn.Spawned thread) number new ticked c t = subst (λ (u : World). HasTicked from u) (sym t.2) (one_tick from at after ticked c.clock c.cost)
told_ticks from at (Spawns started after) Turn.Memory number new ticked c t = subst (λ (u : World). HasTicked from u) (sym t.0) ticked
told_ticks from at (Blocks after) (Turn.Blocked key cost) number new ticked c t = subst (λ (u : World). HasTicked from u) (sym t.2) (one_tick from at after ticked c.clock c.cost)
told_ticks from at (Ends after) (Turn.Ended cost) number new ticked c t = subst (λ (u : World). HasTicked from u) (sym t.1) (one_tick from at after ticked c.clock c.cost)
told_ticks from at (Stops stop) (Turn.Cut told cost) number new ticked c t = subst (λ (u : World). HasTicked from u) (sym t.2) ticked
told_ticks from at _ _ number new ticked c t = absurd t

-- ---- where the run stands

-- how a machine world has gone on from that of a log's state
pub record Onward (g : Setup) (from after : World) : Type 0 where
  pub acts : ActsTo (setting_of g) from after
  pub way : IsOnWay (setting_of g) from after
  pub clock : HasTicked from after
  pub sound : IsSound (checked_of g) after

module _ (g : Setup) (state : State) (k : Kept) (held : Held) (left : Rest) where
  pub acts_between : StandsBetween g state k held left → ActsTo (setting_of g) state.machine held.machine
  acts_between stands = subst (λ (w : World). ActsTo (setting_of g) state.machine w) (sym stands.between.machine_is)
      (advance_acts (setting_of g) state.machine held.machine.clock stands.between.stands.between stands.between.later)

  pub acts_within : (under : Under) → StandsWithin g state k held left under → ActsTo (setting_of g) state.machine held.machine
  acts_within under stands = acts_on (setting_of g) state.machine stands.here held.machine
      (quiet_acts (setting_of g) stands.within.steps state.machine stands.here stands.within.quiet)
      (told_acts (setting_of g) stands.here (step (setting_of g) stands.here) under.turn stands.segment.thread held refl stands.tells)

  acts_by : (under : Option Under) → StandsBy g state k held left under → ActsTo (setting_of g) state.machine held.machine
  acts_by None stands = acts_between stands
  acts_by (Some under) stands = acts_within under stands

  pub way_between : StandsBetween g state k held left → IsOnWay (setting_of g) state.machine held.machine
  way_between stands = has_waited stands.between.machine_is stands.between.later

  pub way_within : (under : Under) → StandsWithin g state k held left under → IsOnWay (setting_of g) state.machine held.machine
  way_within under stands = told_way (setting_of g) state.machine stands.here stands.within.steps stands.within.quiet (step (setting_of g) stands.here) under.turn stands.segment.thread held refl stands.tells

  way_by : (under : Option Under) → StandsBy g state k held left under → IsOnWay (setting_of g) state.machine held.machine
  way_by None stands = way_between stands
  way_by (Some under) stands = way_within under stands

  pub way_now : Stands g state k held left → IsOnWay (setting_of g) state.machine held.machine
  way_now stands = way_by k.under stands

  pub ticks_within : (under : Under) → StandsWithin g state k held left under → HasTicked state.machine held.machine
  ticks_within under stands = told_ticks state.machine stands.here (step (setting_of g) stands.here) under.turn stands.segment.thread held
      (quiet_ticks (setting_of g) stands.within.steps state.machine state.machine stands.here refl stands.within.quiet) (counts_step (setting_of g) stands.here) stands.tells

  -- at a choice point where the clock hasn't moved
  pub onward_between : StandsBetween g state k held left → held.machine ≡ state.machine → Onward g state.machine held.machine
  onward_between stands same = record { acts = acts_between stands; way = way_between stands; clock = same_ticks state.machine held.machine same; sound = sound_between g state k held left stands }

  pub onward_within : (under : Under) → StandsWithin g state k held left under → Onward g state.machine held.machine
  onward_within under stands = record { acts = acts_within under stands; way = way_within under stands; clock = ticks_within under stands; sound = sound_within g state k held left under stands }

  pub acts_now : Stands g state k held left → ActsTo (setting_of g) state.machine held.machine
  acts_now stands = acts_by k.under stands

  of_by : (under : Option Under) → StandsBy g state k held left under → IsOf g held
  of_by None stands = stands.of
  of_by (Some under) stands = stands.of

  pub of_now : Stands g state k held left → IsOf g held
  of_now stands = of_by k.under stands

  pub by_none : k.under ≡ None → StandsBetween g state k held left → Stands g state k held left
  by_none e stands = by k.under e where
    by : (under : Option Under) → under ≡ None → StandsBy g state k held left under
    by None f = stands
    by (Some u) f = absurd (cc)

  pub by_some : (under : Under) → k.under ≡ Some under → StandsWithin g state k held left under → Stands g state k held left
  by_some under e stands = subst (λ (o : Option Under). StandsBy g state k held left o) (sym e) stands

  pub to_between : k.under ≡ None → Stands g state k held left → StandsBetween g state k held left
  to_between e stands = subst (λ (o : Option Under). StandsBy g state k held left o) e stands

-- ---- what was written

-- nothing was put
pub silent : (g : Setup) (state : State) (left : Rest) (k : Kept) (held : Held) (after : Rest) (taken : Output) → Stands g state k held after → GoesTo g state left k held after taken taken
silent g state left k held after taken stands = record {
  new = state;
  entries = [];
  leads = λ t. nowhere;
  acts = no_acts (setting_of g) state.machine state.machine refl;
  stands = stands;
  writes = subst (λ (l : List ℕ). Grows taken taken l) (sym no_line) (grows_none taken);
}

pub no_part : (g : Setup) (state : State) (left : Rest) (held : Held) (taken : Output) → IsOf g held → Onward g state.machine held.machine → FailsIn g state left held taken taken
no_part g state left held taken of onward = record {
  new = state;
  entries = [];
  leads = λ t. nowhere;
  few = omega arith;
  writes = part_none taken (log_text []);
  acts = onward.acts;
  way = onward.way;
  clock = onward.clock;
  sound = onward.sound;
  of = of;
}

-- a line was put, or a beginning of it and of what was held was taken
pub part_of : (g : Setup) (state new : State) (left : Rest) (k : Kept) (held : Held) (taken written : Output) (entry : Entry) (result : Result (Unit {0}) Failure) → (HasBytes left → IsAllowed g state entry new) →
    ActsTo (setting_of g) state.machine new.machine → HasTicked new.machine held.machine → Stands g new k held left → PutsText taken written (entry_text entry ++ 10 ∷ []) result → PartEnds g state left k held left taken written result
part_of g state new left k held taken written entry (Ok v) allowed acts ticked stands puts = record {
  new = new;
  entries = entry ∷ [];
  leads = λ told. by_entry (allowed told) nowhere;
  acts = acts;
  stands = stands;
  writes = subst (λ (l : List ℕ). Grows taken written l) (sym (one_line entry)) puts;
}
part_of g state new left k held taken written entry (Err failure) allowed acts ticked stands puts = record {
  new = new;
  entries = entry ∷ [];
  leads = λ told. by_entry (allowed told) nowhere;
  few = omega arith;
  writes = subst (λ (l : List ℕ). TakesPart taken written l) (sym (one_line entry)) puts;
  acts = acts_on (setting_of g) state.machine new.machine held.machine acts (acts_now g new k held left stands);
  way = way_now g new k held left stands;
  clock = ticked;
  sound = sound_now g new k held left stands;
  of = of_now g new k held left stands;
}
