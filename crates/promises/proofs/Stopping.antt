-- The last line of a run is that of its stop, and the program stops there in this way.
use Rattle.promises.proofs.Common.{◌≡◌, ◌≢◌, ◌∙◌, ℕ, List, [], Option, IfSome, Some, None, refl, sym, ap, subst, arith, nil_from_length, codes, slice_get, Appends, IsAnswer, Outside, Setup, setting_of, Entry, StopLine, World, Setting, State, entry_text, log_text, stop_status, Held}
use Rattle.std.specs.Prelude.{length}
use Rattle.audited_logs.specs.Audited.{given_of}
use Rattle.capriccio_commands.proofs.Counting.{last-is-stop, last-of-log}
use Rattle.cap_word.specs.declared.stops.Stop.{Stop as Cause}
use Rattle.cap_word.specs.declared.stops.Stop.TheVariants as cut
use Rattle.lawful_log.specs.Stops.{IsStop}
use Rattle.lawful_reading.specs.Given.{Given}
use Rattle.lawful_reading.specs.Ends as ends
use Rattle.lawful_reading.specs.Reading as reading
use Rattle.lawful_reading.specs.State as reading_state
use Rattle.machine_world.specs.Threads.{Stops, Wrong, first_with, step, step_of, step_on}
use Rattle.promises.specs.Stops.{KeepsStops, StopsRightly}
use Rattle.promises.proofs.Asked.{asked-of}
use Rattle.promises.proofs.Chosen.{given-is, read}
use Rattle.promises.proofs.Ran.{IsRan, ran-of}
use Rattle.promises.proofs.Returned.{returned}
use Rattle.promises.proofs.Stopped.{last-so, status-told, status_in, stops-of}

-- ---- the world at the stop

is-done : (stop : StopLine) → stop_status stop ≡ 0 → stop ≡ StopLine.Done
is-done StopLine.Done e = refl
is-done StopLine.Idle e = absurd (omega (arith, e))
is-done (StopLine.Trace line) e = absurd (omega (arith, e))
is-done (StopLine.Cut thread (cut.Trap kind) cost free) e = absurd (omega (arith, e))
is-done (StopLine.Cut thread cut.NoChunk cost free) e = absurd (omega (arith, e))
is-done (StopLine.Cut thread cut.Fuel cost free) e = absurd (omega (arith, e))
is-done (StopLine.Cut thread cut.Threads cost free) e = absurd (omega (arith, e))

nobody : (g : Setup) (state : State) (end : World) → IsStop g state StopLine.Done end → end.threads ≡ []
nobody g state end is = let done = is.0 in nil_from_length end.threads (ap (λ (w : World). length w.threads) is.1 ∙ done.nobody)

-- without threads no instruction stops a run
no-thread : (s : Setting) (w : World) (number : Option ℕ) (stop : Cause) → w.threads ≡ [] → step_on s w number ≡ Stops stop → ⊥
no-thread s w None stop none e = let wrong : Wrong ≡ Stops stop = e in cc
no-thread s w (Some number) stop none e =
    let wrong : step_on s w (Some number) ≡ Wrong = ap (λ threads. step_of s w (first_with number threads)) none in
    let both : Wrong ≡ Stops stop = sym wrong ∙ e in
    cc

somebody : (g : Setup) (state : State) (stop : StopLine) (end : World) → IsStop g state stop end → stop ≢ StopLine.Done → end.threads ≢ []
unfolding step
somebody g state StopLine.Done end is other none = other refl
somebody g state StopLine.Idle end is other none = let idle = is.0 in idle.live (sym (ap (λ (w : World). length w.threads) is.1) ∙ ap (λ threads. length threads) none)
somebody g state (StopLine.Trace line) end is other none = let bad = is.0 in bad.live (sym (ap (λ (w : World). length w.threads) is.1) ∙ ap (λ threads. length threads) none)
somebody g state (StopLine.Cut thread stop cost free) end is other none = no-thread (setting_of g) end end.running stop none is.stops

-- ---- the promise

stopping : {words : List (List ℕ)} {before after : Outside} {status : ℕ} (world : Held) → IsRan words before after world status → slice_get words 0 ≢ Some (codes "demo") → StopsRightly words before.left before.taken after.taken status world
stopping {words} {before} {after} {status} world r other =
    let asked = asked-of words r.request before after r.setup.policy r.trace r.entries r.asked r.policy r.prints other in
    let is = r.world_is in
    let log = r.lawful in
    let found = read r.setup asked.options r.trace r.entries r.stop r.end r.ready asked.ranges asked.same log in
    let lawful = found.lawful in
    let so = stops-of (given_of r.setup found.most_steps) r.trace (log_text r.entries) lawful in
    let text : entry_text (Entry.Stop so.stop) ≡ entry_text (Entry.Stop r.stop) =
    sym (last-so so.lines lawful.entries so.stop so.is) ∙ sym (last-of-log (log_text r.entries) lawful.entries lawful.log_is)
    ∙ last-of-log (log_text r.entries) r.entries refl ∙ last-is-stop r.setup r.trace r.entries r.stop r.end log in
    let status_same : stop_status so.stop ≡ stop_status r.stop = sym (status-told so.stop) ∙ ap status_in text ∙ status-told r.stop in
    let given = given-is r.setup world asked.options found.most_steps is.program asked.same in
    record {
      command = asked.command;
      items = asked.items;
      asked = asked.asked;
      options = asked.options;
      policy = asked.policy;
      trace = r.trace;
      told = asked.told;
      lines = so.lines;
      stop = so.stop;
      printed = subst (λ (text : List ℕ). Appends before.taken after.taken text) (lawful.log_is ∙ ap log_text so.is) asked.printed;
      status_is = r.status_is ∙ sym status_same;
      most_steps = found.most_steps;
      before = so.before;
      leads = subst (λ (g : Given). reading.Leads g (reading_state.start_of g r.trace) so.lines so.before) given so.leads;
      after = so.after;
      stops = subst (λ (g : Given). ends.IsStop g so.before so.stop so.after) given so.stops;
      done = λ is_done_now.
          let at : r.stop ≡ StopLine.Done = is-done r.stop (sym status_same ∙ ap stop_status is_done_now) in
          ap (λ (w : World). w.threads) is.machine ∙ nobody r.setup log.last r.end (subst (λ (s : StopLine). IsStop r.setup log.last s r.end) at log.stops);
      live = λ another none.
          somebody r.setup log.last r.stop r.end log.stops (λ at. another (is-done so.stop (status_same ∙ ap stop_status at))) (sym (ap (λ (w : World). w.threads) is.machine) ∙ none);
    }

kept : (words : List (List ℕ)) (before after : Outside) (err err' : Option (List ℕ)) (faults faults' : ℕ) (last : Option Held) (status : ℕ) → IsAnswer words before after err err' faults faults' last status →
    slice_get words 0 ≢ Some (codes "demo") → IfSome last (StopsRightly words before.left before.taken after.taken status)
kept words before after err err' faults faults' None status answer other = tt
kept words before after err err' faults faults' (Some world) status answer other = stopping world (ran-of words before after err err' faults faults' world status answer) other

pub stops-kept : (words : List (List ℕ)) (before after : Outside) (err err' : Option (List ℕ)) (faults faults' : ℕ) (last : Option Held) (status : ℕ) → IsAnswer words before after err err' faults faults' last status →
    KeepsStops words before.left before.taken after.taken last status
stops-kept words before after err err' faults faults' last status answer = record {
  returned = returned words before after err err' faults faults' last status answer;
  stops = kept words before after err err' faults faults' last status answer;
}
