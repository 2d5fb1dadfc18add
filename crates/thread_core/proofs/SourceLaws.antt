-- What a turn tells, beside the source's run of the thread.
use Rattle.thread_core.proofs.Common.{◌≡◌, ℕ, ◌<◌, List, [], ◌∷◌, ◌++◌, length, Option, Some, None, refl, sym, ◌∙◌, ap, subst, slice_get, lowered, ProgramTree, IsWellScoped, Stop, ThreadId, TrapKind, Acceptance, accepted_tree, IsValid, Checked, after_action, Pick, StandsForWorld, World, Setting, Move, Puts, Spawns, Blocks, Ends, Stops, step, IsWellFormed, checked_of, IsRunning, IsReached, IsFinished, IsFinishedIn, StepReaches, IsSettled, IsKept, AreFrom, IsBeside, IsDone, TellsSource, ProceedsAsSource, machine_of, setting_of, held_in, OnTold, Tells, State, Turn}
use Rattle.c_mean.specs.World as source
use Rattle.machine_meaning.proofs.Stretching as runs
use Rattle.machine_meaning.proofs.WorldLaws as law
use Rattle.thread_core.proofs.BeginLaws.{setting_same}
use Rattle.thread_core.proofs.Numbering.{Leaves, are_from_one, leaves_step, goes_next}
use Rattle.thread_core.proofs.SourceKeys.{key_of_rest, ended_rest}
use Rattle.thread_core.proofs.Trapped.{TrapsSo, trap_step}

module _ (accepted : Acceptance) (most : ℕ) (thread : ThreadId) (scoped : IsWellScoped (accepted_tree accepted)) (valid : IsValid (lowered (accepted_tree accepted)) accepted.image accepted.certificate)
    (old new : State) (kept : IsKept accepted most old) (start : source.World) (puts started : List ℕ) where
  abbrev c : Checked
  c = checked_of accepted

  abbrev program : ProgramTree
  program = accepted_tree accepted

  abbrev s : Setting
  s = setting_of accepted most old

  abbrev number : ℕ
  number = thread.number

  -- the segment under way, told with the setting of the new state
  beside : (same : setting_of accepted most new ≡ s) (puts_now started_now : List ℕ) (w : World) → machine_of most new ≡ w → IsReached c program s start number puts_now w → AreFrom (length start.threads) started_now w.next → IsBeside (held_in accepted most new) start number puts_now started_now
  beside same puts_now started_now w e reached starts =
      let now : IsReached c program (setting_of accepted most new) start number puts_now (machine_of most new) =
      subst (λ (t : Setting). IsReached c program t start number puts_now (machine_of most new)) (sym same) (subst (IsReached c program s start number puts_now) (sym e) reached) in
      record {
        reached = now;
        starts = subst (AreFrom (length start.threads) started_now) (ap (λ (v : World). v.next) (sym e) ∙ now.under_way.next) starts;
      }

  -- the source's run has come to its end
  done : (same : setting_of accepted most new ≡ s) (trap : Option TrapKind) (after : source.World) (end : ℕ) → IsFinished c program s start number puts trap after → AreFrom (length start.threads) started end → end ≡ length after.threads → IsDone (held_in accepted most new) start number puts started trap after
  done same trap after end finished starts e = record {
    finished = subst (λ (t : Setting). IsFinished c program t start number puts trap after) (sym same) finished;
    starts = subst (AreFrom (length start.threads) started) e starts;
  }

  module _ (turn : Turn) (told : OnTold accepted most thread old (Some turn) new) (from : IsReached c program s start number puts (machine_of most old)) (starts_from : AreFrom (length start.threads) started old.next) where
    abbrev at : World
    at = told.at

    same : setting_of accepted most new ≡ s
    same = setting_same accepted most old new told.rest

    running : IsRunning c program s (machine_of most old)
    running = record { start = start; number = number; puts = puts; reached = from }

    formed_at : IsWellFormed c s at
    formed_at = (runs.stretch program accepted.image accepted.certificate s scoped valid refl told.steps (machine_of most old) at kept.formed running told.goes_on).2

    reached_at : IsReached c program s start number puts at
    reached_at = runs.source_along program accepted.image accepted.certificate s scoped valid refl told.steps (machine_of most old) at start number puts kept.formed from told.goes_on

    starts_at : AreFrom (length start.threads) started at.next
    starts_at = subst (AreFrom (length start.threads) started) (sym (goes_next s told.steps (machine_of most old) at told.goes_on)) starts_from

    runs_at : at.running ≡ Some number
    runs_at = reached_at.under_way.running ∙ ap (λ (n : ℕ). Some n) reached_at.of_thread

    reaches : StepReaches c program s start number puts (step s at)
    reaches = law.steps program accepted.image accepted.certificate s at start number puts scoped valid refl formed_at reached_at

    traps : TrapsSo program accepted.image accepted.certificate scoped valid s refl start number puts at formed_at reached_at (step s at)
    traps = trap_step program accepted.image accepted.certificate scoped valid s refl start number puts at formed_at reached_at

    abbrev Trapped : Move → Type 0
    Trapped = TrapsSo program accepted.image accepted.certificate scoped valid s refl start number puts at formed_at reached_at

    still : machine_of most new ≡ at → IsBeside (held_in accepted most new) start number puts started
    still e = beside same puts started at e reached_at starts_at

    -- the run has come to its blocking call, or to its end
    after_block : (after : World) (key : List ℕ) (cost : ℕ) → IsFinishedIn c program s start number puts after → Leaves number at (Blocks after) → Tells (Blocks after) (Turn.Blocked key cost) number at (held_in accepted most new) → TellsSource (Turn.Blocked key cost) start number puts started (held_in accepted most new)
    after_block after key cost reach leaves t =
        let stands = reach.2.stands in (
          reach.0,
          done same None reach.0 at.next reach.1 starts_at (sym leaves.0 ∙ stands.next),
          key_of_rest c program after number key (slice_get reach.0.threads number) leaves.1 t.0 (stands.threads number),
          subst (λ (w : World). StandsForWorld c program w reach.0) (sym t.2) stands,
        )

    after_end : (after : World) (cost : ℕ) → IsFinishedIn c program s start number puts after → Leaves number at (Ends after) → Tells (Ends after) (Turn.Ended cost) number at (held_in accepted most new) → TellsSource (Turn.Ended cost) start number puts started (held_in accepted most new)
    after_end after cost reach leaves t =
        let stands = reach.2.stands in
        let long : length reached_at.segment.world.threads ≡ length reach.0.threads = sym reached_at.under_way.next ∙ sym leaves.0 ∙ stands.next in
        let there : number < length reach.0.threads = subst (λ (n : ℕ). n < length reach.0.threads) reached_at.of_thread (subst (λ (n : ℕ). reached_at.segment.number < n) long reached_at.under_way.there) in (
          reach.0,
          done same None reach.0 at.next reach.1 starts_at (sym leaves.0 ∙ stands.next),
          ended_rest c program after number reach.0.threads there leaves.1 (stands.threads number),
          subst (λ (w : World). StandsForWorld c program w reach.0) (sym t.1) stands,
        )

    at_stop : (stop : Stop) (cost : ℕ) → Trapped (Stops stop) → machine_of most new ≡ at → TellsSource (Turn.Cut stop cost) start number puts started (held_in accepted most new)
    at_stop (Stop.Trap kind) cost trap e = (trap.after, done same (Some kind) trap.after at.next trap.finished starts_at (reached_at.under_way.next ∙ sym (ap (λ rests. length rests) trap.same)))
    at_stop _ cost trap e = still e

    by_move : (move : Move) → StepReaches c program s start number puts move → Leaves number at move → Trapped move → (turn : Turn) → Tells move turn number at (held_in accepted most new) → TellsSource turn start number puts started (held_in accepted most new)
    by_move (Puts value after) reach leaves trap (Turn.Out told) t =
        subst (λ (v : ℕ). IsBeside (held_in accepted most new) start number (puts ++ v ∷ []) started) (sym t.0)
        (beside same (puts ++ value ∷ []) started after t.1 reach (subst (AreFrom (length start.threads) started) (sym leaves) starts_at))
    by_move (Spawns begun after) reach leaves trap (Turn.Spawned other) t =
        beside same puts (started ++ other.number ∷ []) after t.2 reach
        (subst (AreFrom (length start.threads) (started ++ other.number ∷ [])) (sym leaves.1) (are_from_one (length start.threads) started at.next other.number starts_at (t.0 ∙ leaves.0)))
    by_move (Spawns begun after) reach leaves trap Turn.Memory t = still t.0
    by_move (Blocks after) reach leaves trap (Turn.Blocked key cost) t = after_block after key cost reach leaves t
    by_move (Ends after) reach leaves trap (Turn.Ended cost) t = after_end after cost reach leaves t
    by_move (Stops stop) reach leaves trap (Turn.Cut told cost) t =
        subst (λ (v : Stop). TellsSource (Turn.Cut v cost) start number puts started (held_in accepted most new)) (sym t.0) (at_stop stop cost trap t.2)
    by_move move reach leaves trap turn t = absurd t

    pub tells_source : TellsSource turn start number puts started (held_in accepted most new)
    tells_source = by_move (step s at) reaches (leaves_step s at number runs_at) traps turn told.tells

-- the pick of a thread begins the source's run of it
pub picks_source : (accepted : Acceptance) (most : ℕ) (thread : ThreadId) → IsWellScoped (accepted_tree accepted) → IsValid (lowered (accepted_tree accepted)) accepted.image accepted.certificate →
    (old mid : State) → IsKept accepted most old → IsSettled (checked_of accepted) (machine_of most old) → setting_of accepted most mid ≡ setting_of accepted most old →
    after_action (setting_of accepted most old) (machine_of most old) (Pick thread.number) ≡ Some (machine_of most mid) →
    (start : source.World) → StandsForWorld (checked_of accepted) (accepted_tree accepted) (machine_of most old) start →
    IsReached (checked_of accepted) (accepted_tree accepted) (setting_of accepted most mid) start thread.number [] (machine_of most mid)
picks_source accepted most thread scoped valid old mid kept settled same picks start stands =
    subst (λ (t : Setting). IsReached (checked_of accepted) (accepted_tree accepted) t start thread.number [] (machine_of most mid)) (sym same)
    (law.picks (accepted_tree accepted) accepted.image accepted.certificate (setting_of accepted most old) (machine_of most old) (machine_of most mid) start thread.number scoped valid refl kept.formed (record { stands = stands; settled = settled }) picks)

-- the segment under way goes on
pub proceeds_source : (accepted : Acceptance) (most : ℕ) (thread : ThreadId) → IsWellScoped (accepted_tree accepted) → IsValid (lowered (accepted_tree accepted)) accepted.image accepted.certificate →
    (old new : State) → IsKept accepted most old → (machine_of most old).running ≡ Some thread.number → (turn : Turn) → OnTold accepted most thread old (Some turn) new → ProceedsAsSource (held_in accepted most old) turn (held_in accepted most new)
proceeds_source accepted most thread scoped valid old new kept running turn told start number puts started before =
    let both : Some before.reached.segment.number ≡ Some thread.number = sym before.reached.under_way.running ∙ running in
    let named : before.reached.segment.number ≡ thread.number = cc in
    let same : thread.number ≡ number = sym named ∙ before.reached.of_thread in
    subst (λ (n : ℕ). TellsSource turn start n puts started (held_in accepted most new)) same
    (tells_source accepted most thread scoped valid old new kept start puts started turn told
    (subst (λ (n : ℕ). IsReached (checked_of accepted) (accepted_tree accepted) (setting_of accepted most old) start n puts (machine_of most old)) (sym same) before.reached)
    (subst (AreFrom (length start.threads) started) (sym before.reached.under_way.next) before.starts))
