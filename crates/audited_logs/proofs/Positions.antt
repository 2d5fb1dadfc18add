-- Beside each state to which a lawful log leads stands one of its reading. So between segments as many threads of the machine are live as have
-- not ended in the source's world.
use Rattle.audited_logs.proofs.Common.{◌≡◌, ℕ, ◌/◌, ◌≤◌, false, List, [], ◌∷◌, length, Some, refl, sym, ap, ◌∙◌, subst, arith, is_some, lowered, IsWellScoped, IsValid, Waiter, uses_in, no_past, Trace, checked_of, Setup, setting_of, start_machine, start_areas, Given, live_in, World, AreWellFormed, IsWellFormed, IsWellFormedIf, most_fuel, IsWellFormedIf-start, Entry, StopLine, starts_law, given_of}
use Rattle.c_mean.specs.World as source
use Rattle.lawful_log.specs.Lawful.{IsAllowed, Leads, nowhere, by_entry, IsLawfulLog}
use Rattle.lawful_log.specs.State.{State, start_of}
use Rattle.lawful_reading.specs.State as reading_state
use Rattle.machine_meaning.proofs.Formed.{formed}
use Rattle.machine_world.proofs.CountedLaws.{all_free-new}
use Rattle.segment_laws.proofs.ValidCalls.{CallFacts-valid}
use Rattle.stack_certificate.specs.Certificates.{fact_at}
use Rattle.audited_logs.proofs.Beside.{Holds, Position, Between, Within, between_at, between_of, not_within}
use Rattle.audited_logs.proofs.Choices.{chosen}
use Rattle.audited_logs.proofs.Comings.{came}
use Rattle.audited_logs.proofs.Live.{live_between}
use Rattle.audited_logs.proofs.Outs.{put}
use Rattle.audited_logs.proofs.Pools.{starts}
use Rattle.audited_logs.proofs.Resting.{blocked, ended}

module _ (g : Setup) (scoped : IsWellScoped g.program) (valid : IsValid (lowered g.program) g.image g.certificate) (areas : AreWellFormed (checked_of g) (start_areas g)) (fuel : g.policy.fuel ≤ most_fuel) (most : ℕ) where
  abbrev given : Given
  given = given_of g most

  -- ---- the start

  pub starts_at : (trace : List ℕ) (start : World) → start_machine g ≡ Some start → Position g (start_of g trace start) (reading_state.start_of given trace)
  starts_at trace start e =
      let code = formed g.program g.image g.certificate scoped valid in
      let room = ((CallFacts-valid (lowered g.program) g.image g.certificate code valid).entries g.program.main code.main_defined).room in
      let form : IsWellFormed (checked_of g) (setting_of g) start =
      subst (IsWellFormedIf (checked_of g) (setting_of g)) e
      (IsWellFormedIf-start (checked_of g) (setting_of g) (start_areas g) (fact_at g.certificate g.program.main).entry (fact_at g.certificate g.program.main).bound areas
      (all_free-new g.policy.chunks (g.certificate.chunk / 4) g.policy.extra (g.policy.extra_bytes / 4)) fuel (omega (arith, room))) in
      let first = starts g.policy.chunks (g.certificate.chunk / 4) g.policy.extra (g.policy.extra_bytes / 4) (fact_at g.certificate g.program.main).entry (fact_at g.certificate g.program.main).bound g.image.globals g.image.tables start e in
      let holds : Holds g start = record { formed = form; count = first.count; few = (let one = first.threads in omega (arith, one)) } in
      let world = source.start_world g.program in
      let from : Trace = record { bytes = trace; lines = 0; last = 0 } in
      let waiting : List Waiter = record { thread = 0; node = 0; since = 0 } ∷ [] in
      let is : reading_state.start_of given trace ≡ between_of (start_of g trace start) 0 =
      ap (λ (n : ℕ). between_at n 0 1 world from waiting (no_past (uses_in 1 world.exchange)) 0) (sym first.clock)
      ∙ ap (λ (n : ℕ). between_at start.clock n 1 world from waiting (no_past (uses_in 1 world.exchange)) 0) (sym first.cost)
      ∙ ap (λ (n : ℕ). between_at start.clock start.cost n world from waiting (no_past (uses_in n world.exchange)) 0) (sym first.held) in
      Between (record { none = refl; holds = holds; stands = starts_law g.program g.image g.certificate start (start_areas g) scoped valid refl areas e }) is

  -- ---- entry by entry

  -- a state of the reading stands beside it
  abbrev IsBeside : State → Type 0
  IsBeside a = (b : reading_state.State) × Position g a b

  entry_on : (before after : State) (entry : Entry) → IsAllowed g before entry after → IsBeside before → IsBeside after
  entry_on before after (Entry.Event clock item) is at = let next = came g most before after clock item _ is at.0 at.1 in (next.now, next.position)
  entry_on before after (Entry.Dropped clock item) is at = let next = came g most before after clock item _ is at.0 at.1 in (next.now, next.position)
  entry_on before after (Entry.Run clock thread node) is at = let next = chosen g scoped valid most before after clock thread node is at.0 at.1 in (next.now, next.position)
  entry_on before after (Entry.Out thread value) is at = let next = put g scoped valid most before after thread value is at.0 at.1 in (next.now, next.position)
  entry_on before after (Entry.Block thread node key cost free) is at = let next = blocked g scoped valid most before after thread node key cost free is at.0 at.1 in (next.now, next.position)
  entry_on before after (Entry.End thread cost free) is at = let next = ended g scoped valid most before after thread cost free is at.0 at.1 in (next.now, next.position)
  entry_on before after _ is at = absurd is

  leads_on : (before after : State) (entries : List Entry) → Leads g before entries after → IsBeside before → IsBeside after
  leads_on before after entries nowhere at = at
  leads_on before after entries (by_entry {between = between} {entry = entry} {entries = rest} is leads) at = leads_on between after rest leads (entry_on before between entry is at)

  -- ---- live threads

  live_in_state : (a : State) → IsBeside a → is_some a.segment ≡ false → length a.machine.threads ≡ live_in a.source
  live_in_state a (b, Between rests b_is) between = live_between (checked_of g) g.program a.machine a.source rests.holds.formed.counted.numbered rests.stands.stands
  live_in_state a (b, Within segment clock cost held here under runs at b_is) between = absurd (not_within a segment under between)

  -- where a lawful log has come to its stop, if that comes at a choice point
  pub live_at_stop : (trace : List ℕ) (entries : List Entry) (stop : StopLine) (end : World) (log : IsLawfulLog g trace entries stop end) → is_some log.last.segment ≡ false → length log.last.machine.threads ≡ live_in log.last.source
  live_at_stop trace entries stop end log between =
      live_in_state log.last (leads_on (start_of g trace log.start) log.last log.before_end log.leads (reading_state.start_of given trace, starts_at trace log.start log.starts)) between
