-- What one run of the interpreter, and the answer to what it asks, come to.
use Rattle.schedule_reading.proofs.Common.{◌≡◌, ℕ, suc, ◌+◌, ◌-◌, Bool, List, length, Option, Some, None, Result, Ok, Err, refl, sym, ap, ◌∙◌, subst, arith, append-nil, Immediate, Goes, Stops, and_then, moves, moves_add, Ask, ProgramTree, Running, SourceMove, source_machine, source_step, Segment, segment_move, segment_step, Given, IsSilent, State, LeadsTo, asks, Thread, Happening, Under, Failure, Advances, Answers, CrowdsAt, NoneCrowded, Core}
use Rattle.c_mean.specs.World as source
use Rattle.lawful_reading.proofs.Moves.{not_both, same_next}
use Rattle.schedule_reading.specs.declared.events.Happening.TheVariants as happening
use Rattle.schedule_reading.proofs.Going.{none_here, none_on, silent_more}
use Rattle.schedule_reading.proofs.Leading.{at, last, silent_at, silent_last}

-- ---- a part of a silent run

record Part (program : ProgramTree) (m n : ℕ) (start end : Running) : Type 0 where
  pub middle : Running
  pub first : moves (source_machine program) m start ≡ Goes middle
  pub second : moves (source_machine program) n middle ≡ Goes end

part_by : (program : ProgramTree) (m n : ℕ) (start end : Running) (move : SourceMove) → moves (source_machine program) m start ≡ move → and_then move (moves (source_machine program) n) ≡ Goes end → Part program m n start end
part_by program m n start end (Goes middle) e h = record { middle = middle; first = e; second = h }
part_by program m n start end _ e h = absurd (cc)

part : (program : ProgramTree) (m n : ℕ) (start end : Running) → moves (source_machine program) (m + n) start ≡ Goes end → Part program m n start end
part program m n start end e = part_by program m n start end (moves (source_machine program) m start) refl (sym (moves_add (source_machine program) m n start) ∙ e)

goes_first : (program : ProgramTree) (n : ℕ) (start end : Running) (move : SourceMove) → source_step program start ≡ move → and_then move (moves (source_machine program) n) ≡ Goes end → (next : Running) × (source_step program start ≡ Goes next)
goes_first program n start end (Goes next) e h = (next, e)
goes_first program n start end _ e h = absurd (cc)

module _ (g : Given) where
  -- a step of the thread alone starts none
  alone_not : (here : Segment) (next : Running) (after : Segment) → segment_step g.program g.policy.caps here ≡ Goes after → source_step g.program here.running ≡ Goes next → length after.world.threads ≡ suc (length here.world.threads) → ⊥
  alone_not here next after goes step one_more =
      let same : at g.program g.policy.caps here next ≡ after = same_next (at g.program g.policy.caps here next) after (sym (ap (λ (m : SourceMove). segment_move g.policy.caps here m) step) ∙ goes) in
      let threads : length here.world.threads ≡ length after.world.threads = ap (λ (s : Segment). length s.world.threads) same in
      omega (arith, threads, one_more)

  -- where the thread runs alone no start comes
  pub quiet_none : (here : Segment) (n : ℕ) (end : Running) → moves (source_machine g.program) n here.running ≡ Goes end → NoneCrowded g here n
  quiet_none here n end e steps below q =
      let count : steps + suc (n - suc steps) ≡ n = omega (arith, below) in
      let p = part g.program steps (suc (n - suc steps)) here.running end (ap (λ (k : ℕ). moves (source_machine g.program) k here.running) count ∙ e) in
      let there : at g.program g.policy.caps here p.middle ≡ q.here =
      same_next (at g.program g.policy.caps here p.middle) q.here (sym (silent_at g.program g.policy.caps here steps p.middle p.first).moved ∙ q.silent.moved) in
      let first = goes_first g.program (n - suc steps) p.middle end (source_step g.program p.middle) refl p.second in
      let step : source_step g.program q.here.running ≡ Goes first.0 = subst (λ (s : Segment). source_step g.program s.running ≡ Goes first.0) there first.1 in
      alone_not q.here first.0 q.after q.starts step q.one_more

  -- at a step that stops no start comes
  stops_not : (here : Segment) (rested : source.Rested) → segment_step g.program g.policy.caps here ≡ Stops rested → CrowdsAt g here → ⊥
  stops_not here rested stops crowds = not_both rested crowds.1.after (sym stops ∙ crowds.1.goes)

  module _ (here : Segment) (steps : ℕ) (made : SourceMove) (leads : LeadsTo g.program here.running steps made) where
    abbrev last_at : Segment
    last_at = last g.program g.policy.caps here steps made leads

    pub none_by : (CrowdsAt g last_at → ⊥) → NoneCrowded g here steps
    none_by none =
        let count : leads.before + 1 ≡ steps = (let is = leads.steps_is in omega (arith, is)) in
        subst (λ (n : ℕ). NoneCrowded g here n) count
        (none_on g here last_at leads.before 1 (silent_last g.program g.policy.caps here steps made leads) (quiet_none here leads.before leads.here leads.silent) (none_here g last_at none))

    pub none_stopped : (rested : source.Rested) → segment_step g.program g.policy.caps last_at ≡ Stops rested → NoneCrowded g here steps
    none_stopped rested stops = none_by (stops_not last_at rested stops)

  -- ---- the answer to a call

  module _ (state : State) (here : Segment) (crowds : Bool) (old_left left : ℕ) (thread : Thread) (words : List ℕ) (ask : Ask)
      (leads : LeadsTo g.program here.running (old_left - left) (asks g.program thread words (Immediate ask))) (k : Core) (under : Under) where
    abbrev asked_at : Segment
    asked_at = last g.program g.policy.caps here (old_left - left) (asks g.program thread words (Immediate ask)) leads

    silent_here : IsSilent g.program g.policy.caps here leads.before asked_at
    silent_here = silent_last g.program g.policy.caps here (old_left - left) (asks g.program thread words (Immediate ask)) leads

    pub advanced : (result : Result (Option Happening) Failure) → Answers g state asked_at crowds k under result → Advances g state here crowds old_left left k under result
    advanced (Ok None) (goes, none) = record {
      after = goes.after;
      silent = subst (λ (n : ℕ). IsSilent g.program g.policy.caps here n goes.after) (sym leads.steps_is)
          (silent_more g.program g.policy.caps here asked_at goes.after leads.before silent_here goes.goes (goes.outputs_are ∙ append-nil asked_at.world.outputs));
      some = let is = leads.steps_is in omega (arith, is);
      runs = goes.runs;
      none = λ asked. none_by here (old_left - left) (asks g.program thread words (Immediate ask)) leads (none asked);
    }
    advanced (Ok (Some (happening.Puts word))) (goes, none) = (
      record {
        after = goes.after;
        next = record {
          before = leads.before;
          here = asked_at;
          silent = silent_here;
          puts = goes.goes;
          output = goes.outputs_are;
          steps_is = leads.steps_is;
        };
        runs = goes.runs;
      },
      λ asked. none_by here (old_left - left) (asks g.program thread words (Immediate ask)) leads (none asked),
    )
    advanced (Ok (Some (happening.Traps kind))) traps = (
      record {
        world = traps.world;
        next = record { before = leads.before; here = asked_at; silent = silent_here; stops = traps.stops; steps_is = leads.steps_is };
      },
      λ asked. none_stopped here (old_left - left) (asks g.program thread words (Immediate ask)) leads (record { trap = Some kind; world = traps.world }) traps.stops,
    )
    advanced (Ok (Some happening.IsCrowded)) (crowded, asked) = (
      record {
        steps = leads.before;
        next = record { here = asked_at; silent = silent_here; live = crowded.0; after = crowded.1.after; starts = crowded.1.goes; one_more = crowded.1.one_more };
        taken_is = leads.steps_is;
      },
      asked,
    )
    advanced (Err failure) is = is
    advanced (Ok (Some _)) never = absurd never
