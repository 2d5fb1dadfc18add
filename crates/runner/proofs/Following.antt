-- A run so far beside its log, and how it ends.
use Rattle.runner.proofs.Common.{◌≡◌, ℕ, zero, suc, ◌+◌, ◌-◌, ◌<◌, ◌≤◌, inl, inr, List, [], ◌∷◌, ◌++◌, length, take, Option, Some, None, refl, sym, ap, ◌∙◌, subst, arith, length-append, ⊎_elim, IfSome, Appends, cases_lt, EdgeLine, Rule, Leads, nowhere, by_entry, ending, IsLawfulLog, Setup, setting_of, State, start_of, World, Setting, MonitorState, IsAtStartBy, HasLog, IsEndAt, IsOfThread, CameTo, FellShort, HeldBack, last_line, Halt, Stop, ThreadId, Kept, halt_end, end_lines, Output, unheld, Grows, IsFitText, IsSound, IsOnWay, HasTicked, IsOnRun, StandsBetween, Stands, ActsTo, GoesTo, HaltsAt, HasThread, FailsIn, stop_line, Rest, HasBytes, bytes_of, Knows, Unasked, Told, Made, log_text, TakesPrefix, Entry, StopLine, Held, IsThread, grows_on, grows_none, whole_on, fit_on, no_line, text_append, no_acts, by_none, scoped, valid, starts, well, fuel_most, free_count}
use Rattle.log_laws.proofs.Good.{good}
use Rattle.blocking_graph.specs.Edges.{edges_of}
use Rattle.lawful_log.specs.Good.{IsGoodLog, checked_of}
use Rattle.lawful_log.proofs.AtMostOne.{begins_each}
use Rattle.machine_world.specs.Stretches as stretches
use Rattle.log_laws.specs.One.{HasOneLog}
use Rattle.log_laws.proofs.Starting.{one_log}
use Rattle.runner.proofs.Backs.{Sends, covers, few_bytes, held_at, held_done, last_on, sends_on, text_bytes}
use Rattle.run_course.proofs.Acting.{acts_on}

-- ---- lists and texts

leads_append : (g : Setup) (before between after : State) (a b : List Entry) → Leads g before a between → Leads g between b after → Leads g before (a ++ b) after
leads_append g before between after _ b nowhere q = q
leads_append g before between after _ b (by_entry {between = s} {entry = x} {entries = more} p ps) q = by_entry p (leads_append g s between after more b ps q)

take_in : (x y : List ℕ) (n : ℕ) → n ≤ length x → take n (x ++ y) ≡ take n x
take_in x y zero h = refl
take_in [] y (suc n) h = absurd (omega (arith, h))
take_in (b ∷ x) y (suc n) h = ap (λ (l : List ℕ). b ∷ l) (take_in x y n (omega (arith, h)))

-- ---- the end of a log

pub end_same : (g : Setup) (state : State) (k : Kept) (held : Held) (halt : Halt) (taken written : Output) (before : Rest) → HaltsAt g state before k held halt taken written → (stop : StopLine) →
    end_lines held.setting.caps k.graph.edges stop ≡ ending g state stop
end_same g state k held halt taken written before is stop =
    ap (λ (es : List EdgeLine). end_lines held.setting.caps es stop) is.graph.edges
    ∙ ap (λ (caps : List ℕ). end_lines caps (edges_of state.past.records) stop) (ap (λ (s : Setting). s.caps) is.of.setting)

end_at_cut : (thread : ThreadId) (stop : Stop) (cost free : ℕ) → IsEndAt (stop_line (Halt.Cut thread stop cost) free) (halt_end (Halt.Cut thread stop cost))
end_at_cut thread (Stop.Trap kind) cost free = (thread, refl, refl)
end_at_cut thread _ cost free = (thread, refl, refl)

end_at : (halt : Halt) (free : ℕ) → IsEndAt (stop_line halt free) (halt_end halt)
end_at (Halt.Cut thread stop cost) free = end_at_cut thread stop cost free
end_at _ free = refl

thread_cut : (held : Held) (thread : ThreadId) (stop : Stop) (cost : ℕ) → IsThread held thread → IsOfThread held (halt_end (Halt.Cut thread stop cost))
thread_cut held thread (Stop.Trap kind) cost is = is
thread_cut held thread _ cost is = is

thread_at : (held : Held) (halt : Halt) → HasThread held halt → IsOfThread held (halt_end halt)
thread_at held (Halt.Cut thread stop cost) is = thread_cut held thread stop cost is
thread_at held _ is = tt

-- ---- what a trace tells, where it tells its bytes

told_bytes : (left : Rest) (told : Option (List ℕ)) → Knows left told → HasBytes left → IfSome told (λ its. its ≡ bytes_of left)
told_bytes Unasked told knows has = absurd has
told_bytes (Told left) (Some its) knows has = cc
told_bytes (Made bytes) (Some its) knows has = absurd (cc)
told_bytes _ None knows has = tt

-- ---- a run that fell short

module _ (g : Setup) (first : Held) {rule : Rule} (monitor : MonitorState) (at : IsAtStartBy rule g first monitor) (sound : IsSound first.accepted) where
  good_on : (bytes : List ℕ) (entries : List Entry) (stop : StopLine) (end : World) → IsLawfulLog g bytes entries stop end → IsGoodLog g entries
  good_on bytes entries stop end lawful = good g bytes entries stop end (scoped g first monitor at sound) (valid g first monitor at sound) (well g first monitor at sound) (fuel_most g first monitor at sound) lawful

  -- the log of a run that stops in a world, beside another of the run
  abbrev log_at : (left : Option (List ℕ)) (held : Held) (bytes : List ℕ) → IfSome left (λ its. its ≡ bytes) → (entries : List Entry) (stop : StopLine) (end : World) → IsLawfulLog g bytes entries stop end →
      ActsTo (setting_of g) first.machine held.machine → stretches.IsSound (checked_of g) held.machine → HasLog g left end held.machine
  log_at left held bytes told entries stop end lawful acts sound_now = record {
    bytes = bytes;
    told = told;
    entries = entries;
    stop = stop;
    lawful = lawful;
    good = good_on bytes entries stop end lawful;
    start = first.machine;
    starts = starts g first monitor at sound;
    actions = acts.actions;
    machine = acts.leads;
    sound = sound_now;
  }

  longer : (a rest whole : List Entry) (count : ℕ) → whole ≡ a ++ rest → count ≤ length (log_text a) → count ≤ length (log_text whole)
  longer a rest whole count e part =
      let text : log_text whole ≡ log_text a ++ log_text rest = ap log_text e ∙ text_append a rest in
      let size : length (log_text whole) ≡ length (log_text a) + length (log_text rest) = ap length text ∙ length-append (log_text a) (log_text rest) in
      omega (arith, size, part)

  begins : (a rest whole : List Entry) (count : ℕ) → whole ≡ a ++ rest → count ≤ length (log_text a) → take count (log_text whole) ≡ take count (log_text a)
  begins a rest whole count e part = ap (take count) (ap log_text e ∙ text_append a rest) ∙ take_in (log_text a) (log_text rest) count part

  -- a part of entries was written that are allowed from the start: they begin the lawful log
  pub fell_leads : (left taken written : Option (List ℕ)) (held : Held) (bytes : List ℕ) → IfSome left (λ its. its ≡ bytes) → (state : State) (entries : List Entry) → Leads g (start_of g bytes first.machine) entries state → (count : ℕ) → count ≤ length (log_text entries) →
      length (log_text entries) ≤ count + (4096 + last_line entries) → Appends taken written (take count (log_text entries)) → ActsTo (setting_of g) first.machine held.machine → IsOnWay (setting_of g) state.machine held.machine → HasTicked state.machine held.machine →
      stretches.IsSound (checked_of g) held.machine → FellShort g held left taken written
  fell_leads left taken written held b told state entries leads count part most writes acts way ticked in_place =
      let whole : HasOneLog g b = one_log g (scoped g first monitor at sound) (valid g first monitor at sound) (well g first monitor at sound) (fuel_most g first monitor at sound) b in
      let rest = begins_each g b first.machine entries whole.entries state whole.stop whole.end (starts g first monitor at sound) leads whole.lawful in
      let back = held_done entries rest.0 whole.entries count rest.1 part most in
      record {
        end = whole.end;
        log = log_at left held b told whole.entries whole.stop whole.end whole.lawful acts in_place;
        count = count;
        part = longer entries rest.0 whole.entries count rest.1 part;
        writes = subst (λ (l : List ℕ). Appends taken written l) (sym (begins entries rest.0 whole.entries count rest.1 part)) writes;
        on_run = record { done = entries; rest = rest.0; joined = rest.1; state = state; leads = leads; way = way; clock = ticked };
        back = back.0;
        at_end = inl back.1;
      }

-- ---- a run so far

-- whatever is left of the trace: what was left of it at the start agrees with what the source told then, and the entries are allowed on
-- those bytes
pub record Follows (g : Setup) (first : Held) (left_first taken_first : Option (List ℕ)) (k : Kept) (held : Held) (left : Rest) (now : Output) : Type 0 where
  pub first_left : Rest
  pub knows : Knows first_left left_first
  pub had : HasBytes left → HasBytes first_left
  pub state : State
  pub entries : List Entry
  pub leads : HasBytes left → Leads g (start_of g (bytes_of first_left) first.machine) entries state
  pub acts : ActsTo (setting_of g) first.machine state.machine
  pub stands : Stands g state k held left
  pub writes : Grows (unheld taken_first) now (log_text entries)

pub follows_first : (g : Setup) (first : Held) (left_first taken : Option (List ℕ)) (k : Kept) (left : Rest) → Knows left left_first → k.under ≡ None → StandsBetween g (start_of g (bytes_of left) first.machine) k first left → Follows g first left_first taken k first left (unheld taken)
follows_first g first left_first taken k left knows under stands = record {
  first_left = left;
  knows = knows;
  had = λ has. has;
  state = start_of g (bytes_of left) first.machine;
  entries = [];
  leads = λ has. nowhere;
  acts = no_acts (setting_of g) first.machine first.machine refl;
  stands = by_none g (start_of g (bytes_of left) first.machine) k first left under stands;
  writes = subst (λ (l : List ℕ). Grows (unheld taken) (unheld taken) l) (sym no_line) (grows_none (unheld taken));
}

module _ (g : Setup) (first : Held) (left_first taken_first : Option (List ℕ)) (k : Kept) (held : Held) (left : Rest) (now : Output) (so_far : Follows g first left_first taken_first k held left now) where
  pub follows_on : (new : Kept) (after : Held) (left_after : Rest) (then_ : Output) → (HasBytes left_after → HasBytes left) → GoesTo g so_far.state left new after left_after now then_ → Follows g first left_first taken_first new after left_after then_
  follows_on new after left_after then_ had goes = record {
    first_left = so_far.first_left;
    knows = so_far.knows;
    had = λ has. so_far.had (had has);
    state = goes.new;
    entries = so_far.entries ++ goes.entries;
    leads = λ has. leads_append g (start_of g (bytes_of so_far.first_left) first.machine) so_far.state goes.new so_far.entries goes.entries (so_far.leads (had has)) (goes.leads (had has));
    acts = acts_on (setting_of g) first.machine so_far.state.machine goes.new.machine so_far.acts goes.acts;
    stands = goes.stands;
    writes = subst (λ (l : List ℕ). Grows (unheld taken_first) then_ l) (sym (text_append so_far.entries goes.entries)) (grows_on (unheld taken_first) now then_ (log_text so_far.entries) (log_text goes.entries) so_far.writes goes.writes);
  }

  -- what the sink took of what is held and of the text of more entries, from the start
  sends_from : (last : Option (List ℕ)) (more : List Entry) (part : TakesPrefix now.taken last (now.held ++ log_text more)) → Sends taken_first last (log_text (so_far.entries ++ more)) part.0 (length (now.held ++ log_text more))
  sends_from last more part = subst (λ (l : List ℕ). Sends taken_first last l part.0 (length (now.held ++ log_text more))) (sym (text_append so_far.entries more))
      (sends_on taken_first now.taken last now.held (log_text so_far.entries) (log_text more) part.0 so_far.writes.whole so_far.writes.part part.1 part.2)

  -- no more is held than the buffer has room for
  buffered_now : length now.held ≤ 4096
  buffered_now = so_far.writes.buffered (omega arith)

  held_bytes : (more : List Entry) → length (now.held ++ log_text more) ≡ length now.held + length (log_text more)
  held_bytes more = length-append now.held (log_text more)

  whole_from : (last : Option (List ℕ)) (more : List Entry) → Appends now.taken last (now.held ++ log_text more) → Appends taken_first last (log_text (so_far.entries ++ more))
  whole_from last more whole = subst (λ (l : List ℕ). Appends taken_first last l) (sym (text_append so_far.entries more)) (whole_on (unheld taken_first) now last (log_text so_far.entries) (log_text more) so_far.writes whole)

  -- of the entries so far and at most one more all was written but what the buffer has room for and a line
  few_held : (more : List Entry) (count sent : ℕ) → length more ≤ 1 → length (log_text (so_far.entries ++ more)) + sent ≤ count + length (now.held ++ log_text more) → length (log_text (so_far.entries ++ more)) ≤ count + (4096 + last_line (so_far.entries ++ more))
  few_held more count sent few left =
      let held = buffered_now in
      let size = held_bytes more in
      let line = few_bytes more few in
      let last = last_on so_far.entries more in
      omega (arith, left, held, size, line, last)

  -- ---- its end

  module _ {rule : Rule} (monitor : MonitorState) (at : IsAtStartBy rule g first monitor) (sound : IsSound first.accepted) (has : HasBytes left) where
    abbrev its_bytes : List ℕ
    its_bytes = bytes_of so_far.first_left

    told_first : IfSome left_first (λ its. its ≡ its_bytes)
    told_first = told_bytes so_far.first_left left_first so_far.knows (so_far.had has)

    -- a step fails
    pub fails_now : (after : Held) (then_ : Output) → FailsIn g so_far.state left after now then_ → FellShort g after left_first taken_first then_.taken
    fails_now after then_ fails =
        let sends = sends_from then_.taken fails.entries fails.writes in
        fell_leads g first monitor at sound left_first taken_first then_.taken after its_bytes told_first fails.new (so_far.entries ++ fails.entries)
        (leads_append g (start_of g its_bytes first.machine) so_far.state fails.new so_far.entries fails.entries (so_far.leads has) (fails.leads has))
        sends.count sends.inside (few_held fails.entries sends.count fails.writes.0 fails.few sends.left) sends.writes (acts_on (setting_of g) first.machine so_far.state.machine after.machine so_far.acts fails.acts) fails.way fails.clock fails.sound

    -- it stops
    module _ (halt : Halt) (new : Kept) (after : Held) (mid : Output) (halts : HaltsAt g so_far.state left new after halt now mid) where
      abbrev stop : StopLine
      stop = stop_line halt (free_count after.machine.areas.pool)

      abbrev whole : List Entry
      whole = so_far.entries ++ ending g so_far.state stop

      lawful : IsLawfulLog g its_bytes whole stop after.machine
      lawful = record {
        start = first.machine;
        starts = starts g first monitor at sound;
        before_end = so_far.entries;
        last = so_far.state;
        leads = so_far.leads has;
        stops = halts.stops has;
        entries_are = refl;
      }

      abbrev on_run : IsOnRun g its_bytes first.machine whole after.machine
      on_run = record { done = so_far.entries; rest = ending g so_far.state stop; joined = refl; state = so_far.state; leads = so_far.leads has; way = halts.way; clock = halts.clock }

      end_is : log_text (end_lines after.setting.caps new.graph.edges stop) ≡ log_text (ending g so_far.state stop)
      end_is = ap log_text (end_same g so_far.state new after halt now mid left halts stop)

      acted : ActsTo (setting_of g) first.machine after.machine
      acted = acts_on (setting_of g) first.machine so_far.state.machine after.machine so_far.acts halts.acts

      abbrev log_now : HasLog g left_first after.machine after.machine
      log_now = log_at g first monitor at sound left_first after its_bytes told_first whole stop after.machine lawful acted halts.sound

      pub comes_to : (written : Option (List ℕ)) → Appends mid.taken written (mid.held ++ log_text (end_lines after.setting.caps new.graph.edges stop)) → IsFitText (log_text (end_lines after.setting.caps new.graph.edges stop)) →
          CameTo g after left_first taken_first written (halt_end halt)
      comes_to written puts fits = record {
        log = log_now;
        end_is = end_at halt (free_count after.machine.areas.pool);
        thread = thread_at after halt halts.thread;
        writes = whole_from written (ending g so_far.state stop)
            (subst (λ (l : List ℕ). Appends now.taken written (now.held ++ l)) end_is (subst (λ (o : Output). Appends o.taken written (o.held ++ log_text (end_lines after.setting.caps new.graph.edges stop))) halts.writes puts));
        fits = subst IsFitText (sym (text_append so_far.entries (ending g so_far.state stop)))
            (fit_on (log_text so_far.entries) (log_text (ending g so_far.state stop)) so_far.writes.fits (subst IsFitText end_is fits));
      }

      -- what was put is the entries so far, or some of the end too
      back_by : (count : ℕ) → count ≤ length (log_text whole) → length (log_text so_far.entries) ≤ count + 4096 → HeldBack so_far.entries (ending g so_far.state stop) (take count (log_text whole))
      back_by count part most =
          let size = text_bytes so_far.entries (ending g so_far.state stop) in
          ⊎_elim
          (λ (beyond : length (log_text so_far.entries) < count).
          let c = covers (ending g so_far.state stop) (count - length (log_text so_far.entries)) (omega (arith, size, part, beyond)) in
          let both = text_bytes so_far.entries c.more in
          let reach = c.reach in
          let least = c.most in
          let last = last_on so_far.entries c.more in
          (held_at so_far.entries c.more c.later (ending g so_far.state stop) whole count refl c.lines_are (omega (arith, both, reach)) (omega (arith, both, least, beyond, last))).0)
          (λ (within : count ≤ length (log_text so_far.entries)). (held_done so_far.entries (ending g so_far.state stop) whole count refl within (omega (arith, most))).0)
          (cases_lt (length (log_text so_far.entries)) count)

      pub stops_short : (written : Option (List ℕ)) → TakesPrefix mid.taken written (mid.held ++ log_text (end_lines after.setting.caps new.graph.edges stop)) → FellShort g after left_first taken_first written
      stops_short written puts =
          let part : TakesPrefix now.taken written (now.held ++ log_text (ending g so_far.state stop)) =
          subst (λ (l : List ℕ). TakesPrefix now.taken written (now.held ++ l)) end_is (subst (λ (o : Output). TakesPrefix o.taken written (o.held ++ log_text (end_lines after.setting.caps new.graph.edges stop))) halts.writes puts) in
          let sends = sends_from written (ending g so_far.state stop) part in
          let left = sends.left in
          let held = buffered_now in
          let size = held_bytes (ending g so_far.state stop) in
          let both = text_bytes so_far.entries (ending g so_far.state stop) in
          record {
            end = after.machine;
            log = log_now;
            count = sends.count;
            part = sends.inside;
            writes = sends.writes;
            on_run = on_run;
            back = back_by sends.count sends.inside (omega (arith, left, held, size, both));
            at_end = inr (refl, refl);
          }
