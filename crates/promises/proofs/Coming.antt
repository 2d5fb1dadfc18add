-- The lines of a lawful log are actions of the machine, which deliver words, up to the world at the stop.
use Rattle.promises.proofs.Common.{◌≡◌, ◌∙◌, ℕ, zero, suc, Bool, List, [], ◌∷◌, ◌++◌, Option, Some, None, refl, sym, ap, subst, AllByRecursion, All-append, none-some, IsAllowed, IsLawfulLog, Leads, nowhere, by_entry, Setup, setting_of, State, start_of, Entry, StopLine, Action, after_actions, and_then, world_of, World, Move, step, DeliversWords}
use Rattle.choice_rules.specs.Deliveries.{delivery_of}
use Rattle.lawful_log.specs.Choice.{IsRun}
use Rattle.lawful_log.specs.Deliveries.{IsComing}
use Rattle.lawful_log.specs.Segments.{after_quiet, quiet_world}
use Rattle.lawful_log.specs.Stops.{IsStop}
use Rattle.log_laws.proofs.Words.{delivers_words}
use Rattle.machine_world.proofs.ActionLaws.{after_actions-append}
use Rattle.machine_world.specs.Runs.{Advance, Deliver, Pick, Step}
use Rattle.machine_world.specs.Threads as machine
use Rattle.schedule_log.specs.declared.entries.Item.{Item}

-- a step without an entry is a step
quiet-is : (move : Move) (next : World) → quiet_world move ≡ Some next → world_of move ≡ Some next
quiet-is (machine.Goes after) next e = e
quiet-is (machine.Spawns number after) next e = e
quiet-is _ next e = absurd (none-some next e)

module _ (g : Setup) where
  -- actions that deliver words lead from one world to the other
  pub record Comes (w after : World) : Type 0 where
    pub actions : List Action
    pub words : AllByRecursion DeliversWords actions
    pub leads : after_actions (setting_of g) actions w ≡ Some after

  none : (w after : World) → w ≡ after → Comes w after
  none w after same = record { actions = []; words = tt; leads = ap (λ (x : World). Some x) same }

  both : (w between after : World) → Comes w between → Comes between after → Comes w after
  both w between after first second = record {
    actions = first.actions ++ second.actions;
    words = All-append DeliversWords first.actions second.actions first.words second.words;
    leads = after_actions-append (setting_of g) first.actions second.actions w
        ∙ ap (λ (o : Option World). and_then o (after_actions (setting_of g) second.actions)) first.leads
        ∙ second.leads;
  }

  one : (w after : World) → world_of (step (setting_of g) w) ≡ Some after → Comes w after
  one w after e = record { actions = Step ∷ []; words = (tt, tt); leads = ap (λ (o : Option World). and_then o (after_actions (setting_of g) [])) e }

  -- ---- steps without an entry

  then-quiet : (first : Option World) (n : ℕ) (after : World) {P : Type 0} → ((next : World) → first ≡ Some next → after_quiet (setting_of g) n next ≡ Some after → P) → and_then first (after_quiet (setting_of g) n) ≡ Some after → P
  then-quiet None n after on e = absurd (none-some after e)
  then-quiet (Some next) n after on e = on next refl e

  quiet : (n : ℕ) (w after : World) → after_quiet (setting_of g) n w ≡ Some after → Comes w after
  quiet zero w after e = record { actions = []; words = tt; leads = e }
  quiet (suc n) w after e =
      then-quiet (quiet_world (step (setting_of g) w)) n after
      (λ next first rest. both w next after (one w next (quiet-is (step (setting_of g) w) next first)) (quiet n next after rest)) e

  quiet-then : (n : ℕ) (w here after : World) (move : Move) → after_quiet (setting_of g) n w ≡ Some here → step (setting_of g) here ≡ move → world_of move ≡ Some after → Comes w after
  quiet-then n w here after move way e to = both w here after (quiet n w here way) (one here after (ap world_of e ∙ to))

  -- ---- entry by entry

  abbrev To : State → State → Type 0
  To before after = Comes before.machine after.machine

  ends-at : (before after : State) (machine : World) (rest : State) → after ≡ rest → rest.machine ≡ machine → Comes before.machine machine → To before after
  ends-at before after machine rest is same comes =
      subst (λ (w : World). Comes before.machine w) (sym (ap (λ (s : State). s.machine) is ∙ same)) comes

  coming : (before after : State) (clock : ℕ) (item : Item) (drops : Bool) → IsComing g before clock item drops after → To before after
  coming before after clock item drops is =
      let fits = is.delivery.point.next_is.line.spells.fits.kind in
      ends-at before after is.machine _ is.after_is refl
      (record { actions = Advance clock ∷ Deliver (delivery_of is.event.kind) ∷ []; words = (tt, (delivers_words is.event.kind fits, tt)); leads = is.delivers })

  chosen : (before after : State) (clock thread node : ℕ) → IsRun g before clock thread node after → To before after
  chosen before after clock thread node is =
      ends-at before after is.machine _ is.after_is refl (record { actions = Advance clock ∷ Pick thread ∷ []; words = (tt, (tt, tt)); leads = is.begins })

  entry : (before after : State) (entry : Entry) → IsAllowed g before entry after → To before after
  entry before after (Entry.Event clock item) is = coming before after clock item _ is
  entry before after (Entry.Dropped clock item) is = coming before after clock item _ is
  entry before after (Entry.Run clock thread node) is = chosen before after clock thread node is
  entry before after (Entry.Out thread value) is =
      ends-at before after is.machine _ is.after_is refl (quiet-then is.steps before.machine is.here is.machine (machine.Puts is.word is.machine) is.way.quiet is.puts refl)
  entry before after (Entry.Block thread node key cost free) is =
      ends-at before after is.machine _ is.after_is refl (quiet-then is.steps before.machine is.here is.machine (machine.Blocks is.machine) is.way.quiet is.blocks refl)
  entry before after (Entry.End thread cost free) is =
      ends-at before after is.machine _ is.after_is refl (quiet-then is.steps before.machine is.here is.machine (machine.Ends is.machine) is.way.quiet is.ends refl)
  entry before after _ is = absurd is

  lines : (before after : State) (entries : List Entry) → Leads g before entries after → To before after
  lines before after [] nowhere = none before.machine before.machine refl
  lines before after (first ∷ entries) (by_entry {between = between} is leads) = both before.machine between.machine after.machine (entry before between first is) (lines between after entries leads)

  stop : (last : State) (stop : StopLine) (end : World) → IsStop g last stop end → Comes last.machine end
  stop last StopLine.Done end is = none last.machine end (sym is.1)
  stop last StopLine.Idle end is = none last.machine end (sym is.1)
  stop last (StopLine.Trace line) end is = none last.machine end (sym is.1)
  stop last (StopLine.Cut thread cause cost free) end is = quiet is.steps last.machine end is.way.quiet

  -- so the machine comes from its start to the world at the stop
  pub to-stop : (trace : List ℕ) (entries : List Entry) (stop : StopLine) (end : World) → (log : IsLawfulLog g trace entries stop end) → Comes log.start end
  to-stop trace entries is end log =
      both log.start log.last.machine end (lines (start_of g trace log.start) log.last log.before_end log.leads) (stop log.last is end log.stops)
