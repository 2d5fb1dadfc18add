-- The choice of a thread, in a lawful log and in its reading.
use Rattle.audited_logs.proofs.Common.{◌≡◌, ℕ, ◌+◌, [], length, Some, refl, sym, ap, ◌∙◌, subst, arith, append-nil, Goes, lowered, IsWellScoped, IsValid, IsChoice, Seen, checked_of, Setup, setting_of, State, held_chunks, Advance, Pick, IsReached, advanced_law, given_of}
use Rattle.c_mean.specs.World as source
use Rattle.lawful_log.specs.Choice as log
use Rattle.lawful_reading.specs.Choice as reading
use Rattle.lawful_reading.specs.State as reading_state
use Rattle.machine_meaning.proofs.WorldLaws as laws
use Rattle.audited_logs.proofs.Acts.{two, advances, picks}
use Rattle.audited_logs.proofs.Begun.{begins}
use Rattle.audited_logs.proofs.Beside.{Rests, Runs, IsAt, Position, Between, Within, between_of, same_seen, not_within}
use Rattle.audited_logs.proofs.Comings.{holds_after}
use Rattle.audited_logs.proofs.Cuts.{begun_by, moves_from}
use Rattle.audited_logs.proofs.Policies.{choice_read}

-- the reading allows it too, and comes to the state beside the next one
pub record Chosen (g : Setup) (most : ℕ) (b : reading_state.State) (clock thread node : ℕ) (after : State) : Type 0 where
  pub now : reading_state.State
  pub run : reading.IsRun (given_of g most) b clock thread node now
  pub position : Position g after now

module _ (g : Setup) (scoped : IsWellScoped g.program) (valid : IsValid (lowered g.program) g.image g.certificate) (most : ℕ) (before after : State) (clock thread node : ℕ) (is : log.IsRun g before clock thread node after) where
  -- where a run begins it is cut at no output
  begins_cut : (first : source.Segment) → source.begun g.program g.policy.caps before.source is.chosen.thread ≡ Some first → IsAt g before.source is.chosen.thread [] first
  begins_cut first e =
      let from = begins g.program g.policy.caps before.source is.chosen.thread first e in
      let same : length first.world.outputs ≡ length before.source.outputs = ap length from.outputs in
      record {
        cut = (0, moves_from g.program g.policy.caps before.source is.chosen.thread 0 first e, omega (arith, same), λ n below earlier moved. absurd (omega (arith, below)));
        outputs = from.outputs ∙ sym (append-nil before.source.outputs);
      }

  run_at : (steps : ℕ) (here : source.Segment) → Rests g before → source.begun g.program g.policy.caps before.source thread ≡ Some here → reading.IsRun (given_of g most) (between_of before steps) clock thread node (reading.chosen_from (between_of before steps) clock is.chosen here)
  run_at steps here rests begins = record {
    not_over = refl;
    chosen = is.chosen;
    choice = choice_read g.policy (reading_state.seen_of (between_of before steps)) clock is.chosen (subst (λ (seen : Seen). IsChoice g.policy seen clock is.chosen) (same_seen g before steps rests) is.choice);
    thread_is = is.thread_is;
    node_is = is.node_is;
    here = here;
    begins = begins;
    after_is = refl;
  }

  position_at : (steps : ℕ) (here : source.Segment) → Runs g before.source is.chosen.thread [] clock before.machine.cost 0 is.machine → IsAt g before.source is.chosen.thread [] here → Position g after (reading.chosen_from (between_of before steps) clock is.chosen here)
  position_at steps here runs at = subst (λ (a : State). Position g a (reading.chosen_from (between_of before steps) clock is.chosen here)) (sym is.after_is) (Within _ clock before.machine.cost (held_chunks before.machine) here refl runs at refl)

  chosen_between : (steps : ℕ) → Rests g before → Chosen g most (between_of before steps) clock thread node after
  chosen_between steps rests =
      let both = two (setting_of g) (Advance clock) (Pick thread) before.machine is.machine is.begins in
      let first = advances (setting_of g) before.machine both.between clock both.once in
      let then = picks (setting_of g) both.between is.machine thread both.twice in
      let between_holds = holds_after g before.machine both.between (Advance clock) clock tt rests.holds both.once first in
      let holds = holds_after g both.between is.machine (Pick thread) both.between.clock tt between_holds both.twice then in
      let advanced = advanced_law (checked_of g) g.program (setting_of g) before.machine both.between before.source clock rests.stands both.once in
      let reached : IsReached (checked_of g) g.program (setting_of g) before.source is.chosen.thread [] is.machine =
      subst (λ (n : ℕ). IsReached (checked_of g) g.program (setting_of g) before.source n [] is.machine) is.thread_is
      (laws.picks g.program g.image g.certificate (setting_of g) both.between is.machine before.source thread scoped valid refl between_holds.formed advanced both.twice) in
      let begun = begun_by g.program g.policy.caps before.source is.chosen.thread reached.steps (let move : source.SegmentMove = Goes reached.segment in move) reached.comes in
      let clock_is : is.machine.clock ≡ clock + 0 = (let e = then.clock_is ∙ first.clock_is in omega (arith, e)) in
      let cost_is : is.machine.cost ≡ before.machine.cost + 0 = (let e = then.cost ∙ first.cost in omega (arith, e)) in
      let runs : Runs g before.source is.chosen.thread [] clock before.machine.cost 0 is.machine = record { holds = holds; reached = reached; clock_is = clock_is; cost_is = cost_is } in
      let begins_thread = subst (λ (n : ℕ). source.begun g.program g.policy.caps before.source n ≡ Some begun.first) (sym is.thread_is) begun.begins in
      record { now = reading.chosen_from (between_of before steps) clock is.chosen begun.first; run = run_at steps begun.first rests begins_thread; position = position_at steps begun.first runs (begins_cut begun.first begun.begins) }

  pub chosen : (b : reading_state.State) → Position g before b → Chosen g most b clock thread node after
  chosen b (Between rests b_is) = subst (λ (x : reading_state.State). Chosen g most x clock thread node after) (sym b_is) (chosen_between b.steps rests)
  chosen b (Within segment from cost held here under runs at b_is) = absurd (not_within before segment under is.choice.point.between)
