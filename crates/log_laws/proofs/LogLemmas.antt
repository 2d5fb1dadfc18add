-- No lawful log stops for want of a chunk where its pool has as many chunks that are large enough as the budget says.
use Rattle.log_laws.proofs.Common.{◌≡◌, inl, ℕ, zero, suc, ◌*◌, ◌≤◌, Bool, List, [], ◌∷◌, Some, refl, sym, ap, subst, ◌∙◌, arith, none-some, same_Some, lowered, IsWellScoped, Stop, IsValid, delivery_of, Budget, IsBudget, shape_of, Shape, IsRun, IsComing, checked_of, IsAllowed, Leads, nowhere, by_entry, IsLawfulLog, quiet_world, after_quiet, Setup, setting_of, start_machine, start_areas, State, start_of, Advance, Deliver, Pick, Step, world_of, World, Move, step, AreWellFormed, most_fuel, Entry, Item, StopLine, live, roomy}
use Rattle.machine_world.specs.Threads as machine
use Rattle.log_laws.proofs.RoomLemmas.{first_roomy, start-shape}
use Rattle.log_laws.proofs.RunLemmas.{Stage, stage-on, then-on, all-on, starts, stage-short, stage-shape, roomy-same}
use Rattle.log_laws.proofs.Words.{delivers_words}

-- a step without an entry is a step
quiet-is : (move : Move) (next : World) → quiet_world move ≡ Some next → world_of move ≡ Some next
quiet-is (machine.Goes after) next e = e
quiet-is (machine.Spawns number after) next e = e
quiet-is _ next e = absurd (none-some next e)

module _ (g : Setup) (scoped : IsWellScoped g.program) (valid : IsValid (lowered g.program) g.image g.certificate) (shape : Shape) where
  abbrev IsAt : World → Type 0
  IsAt w = Stage g scoped valid shape w

  -- one step more
  step-on : (w after : World) (move : Move) → IsAt w → step (setting_of g) w ≡ move → world_of move ≡ Some after → IsAt after
  step-on w after move at e to = stage-on g scoped valid shape w after Step tt at (ap world_of e ∙ to)

  quiet-on : (n : ℕ) (w after : World) → IsAt w → after_quiet (setting_of g) n w ≡ Some after → IsAt after
  quiet-on zero w after at e = subst IsAt (same_Some w after e) at
  quiet-on (suc n) w after at e =
      then-on g scoped valid shape (quiet_world (step (setting_of g) w)) (after_quiet (setting_of g) n) after
      (λ next first rest. quiet-on n next after (step-on w next (step (setting_of g) w) at refl (quiet-is (step (setting_of g) w) next first)) rest) e

  -- ---- entry by entry

  abbrev StandsAt : State → Type 0
  StandsAt state = IsAt state.machine

  coming : (before after : State) (clock : ℕ) (item : Item) (drops : Bool) → IsComing g before clock item drops after → StandsAt before → StandsAt after
  coming before after clock item drops is at =
      let fits = is.delivery.point.next_is.line.spells.fits.kind in
      subst StandsAt (sym is.after_is)
      (all-on g scoped valid shape (Advance clock ∷ Deliver (delivery_of is.event.kind) ∷ []) before.machine is.machine (tt, (delivers_words is.event.kind fits, tt)) at is.delivers)

  chosen : (before after : State) (clock thread node : ℕ) → IsRun g before clock thread node after → StandsAt before → StandsAt after
  chosen before after clock thread node is at =
      subst StandsAt (sym is.after_is)
      (all-on g scoped valid shape (Advance clock ∷ Pick thread ∷ []) before.machine is.machine (tt, (tt, tt)) at is.begins)

  entry-on : (before after : State) (entry : Entry) → IsAllowed g before entry after → StandsAt before → StandsAt after
  entry-on before after (Entry.Event clock item) is at = coming before after clock item _ is at
  entry-on before after (Entry.Dropped clock item) is at = coming before after clock item _ is at
  entry-on before after (Entry.Run clock thread node) is at = chosen before after clock thread node is at
  entry-on before after (Entry.Out thread value) is at =
      subst StandsAt (sym is.after_is) (step-on is.here is.machine (machine.Puts is.word is.machine) (quiet-on is.steps before.machine is.here at is.way.quiet) is.puts refl)
  entry-on before after (Entry.Block thread node key cost free) is at =
      subst StandsAt (sym is.after_is) (step-on is.here is.machine (machine.Blocks is.machine) (quiet-on is.steps before.machine is.here at is.way.quiet) is.blocks refl)
  entry-on before after (Entry.End thread cost free) is at =
      subst StandsAt (sym is.after_is) (step-on is.here is.machine (machine.Ends is.machine) (quiet-on is.steps before.machine is.here at is.way.quiet) is.ends refl)
  entry-on before after _ is at = absurd is

  leads-on : (before after : State) (entries : List Entry) → Leads g before entries after → StandsAt before → StandsAt after
  leads-on before after [] nowhere at = at
  leads-on before after (entry ∷ entries) (by_entry {between = between} is leads) at = leads-on between after entries leads (entry-on before between entry is at)

-- what holds of the setup of a run that a checker accepts
pub record IsReady (g : Setup) : Type 0 where
  pub scoped : IsWellScoped g.program
  pub valid : IsValid (lowered g.program) g.image g.certificate
  pub areas : AreWellFormed (checked_of g) (start_areas g)
  pub fuel : g.policy.fuel ≤ most_fuel

-- a log that stops for want of a chunk
abbrev IsShortLog : Setup → List ℕ → List Entry → ℕ → ℕ → ℕ → World → Type 0
IsShortLog g trace entries thread cost free end = IsLawfulLog g trace entries (StopLine.Cut thread Stop.NoChunk cost free) end

module _ (g : Setup) (ready : IsReady g) (trace : List ℕ) (entries : List Entry) (thread cost free : ℕ) (end : World) (log : IsShortLog g trace entries thread cost free end) where
  abbrev shape : Shape
  shape = shape_of (start_areas g).pool

  stopped : Stage g ready.scoped ready.valid shape end
  stopped =
      let at_start : Stage g ready.scoped ready.valid shape log.start =
      inl (starts g ready.scoped ready.valid shape log.start ready.areas ready.fuel log.starts (start-shape g log.start log.starts)) in
      let at_last = leads-on g ready.scoped ready.valid shape (start_of g trace log.start) log.last log.before_end log.leads at_start in
      quiet-on g ready.scoped ready.valid shape log.stops.steps log.last.machine end at_last log.stops.way.quiet

  -- the pool has as many chunks that are large enough as it had at the start
  pub roomy-at-stop : (bytes : ℕ) → roomy end.areas.pool bytes ≡ roomy (start_areas g).pool bytes
  roomy-at-stop bytes = roomy-same end.areas.pool (start_areas g).pool bytes (stage-shape g ready.scoped ready.valid shape end stopped)

  pub enough-at-stop : (budget : Budget) (threads : ℕ) → IsBudget (lowered g.program) g.certificate budget → threads * budget.per_thread ≤ roomy end.areas.pool g.certificate.max_path → live (setting_of g) end ≤ threads → ⊥
  enough-at-stop budget threads is room few = stage-short g ready.scoped ready.valid shape budget threads end is stopped few room log.stops.stops

  -- as many as a new pool of the policy has are enough
  pub enough-in-new : (budget : Budget) (threads : ℕ) → IsBudget (lowered g.program) g.certificate budget → threads * budget.per_thread ≤ roomy (start_areas g).pool g.certificate.max_path → live (setting_of g) end ≤ threads → ⊥
  enough-in-new budget threads is room few =
      let same = roomy-at-stop g.certificate.max_path in
      enough-at-stop budget threads is (omega (arith, room, same)) few

pub enough_in_logs : (g : Setup) (budget : Budget) (threads : ℕ) (trace : List ℕ) (entries : List Entry) (thread cost free : ℕ) (start end : World) → IsWellScoped g.program → IsValid (lowered g.program) g.image g.certificate →
    AreWellFormed (checked_of g) (start_areas g) → g.policy.fuel ≤ most_fuel → IsBudget (lowered g.program) g.certificate budget →
    start_machine g ≡ Some start → threads * budget.per_thread ≤ roomy start.areas.pool g.certificate.max_path →
    live (setting_of g) end ≤ threads → IsLawfulLog g trace entries (StopLine.Cut thread Stop.NoChunk cost free) end → ⊥
enough_in_logs g budget threads trace entries thread cost free start end scoped valid areas fuel is begins_at room few log =
    let same = roomy-same start.areas.pool (start_areas g).pool g.certificate.max_path (start-shape g start begins_at) in
    enough-in-new g (record { scoped = scoped; valid = valid; areas = areas; fuel = fuel }) trace entries thread cost free end log budget threads is (omega (arith, room, same)) few

-- so many of the certificate's size are enough
pub enough_first_chunks : (g : Setup) (budget : Budget) (threads : ℕ) (trace : List ℕ) (entries : List Entry) (thread cost free : ℕ) (end : World) → IsWellScoped g.program → IsValid (lowered g.program) g.image g.certificate →
    AreWellFormed (checked_of g) (start_areas g) → g.policy.fuel ≤ most_fuel → IsBudget (lowered g.program) g.certificate budget → threads * budget.per_thread ≤ g.policy.chunks →
    live (setting_of g) end ≤ threads → IsLawfulLog g trace entries (StopLine.Cut thread Stop.NoChunk cost free) end → ⊥
enough_first_chunks g budget threads trace entries thread cost free end scoped valid areas fuel is room few log =
    let first = first_roomy g valid in
    enough-in-new g (record { scoped = scoped; valid = valid; areas = areas; fuel = fuel }) trace entries thread cost free end log budget threads is (omega (arith, room, first)) few
