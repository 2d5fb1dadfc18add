-- Every lawful log of a valid pair is read to its stop, or to a line that needs too many steps.
use Rattle.audited_logs.proofs.Common.{ℕ, ◌≤◌, List, ◌∷◌, ◌++◌, refl, sym, subst, arith, ⊎_elim, lowered, IsWellScoped, IsValid, checked_of, Setup, start_areas, Given, chunks_of, IsLawful, IsUnlawful, IsTooLong, World, AreWellFormed, most_fuel, log_text, Entry, StopLine, given_of, IsLawfulOrTooLong, AreCapsSmall}
use Rattle.lawful_log.specs.Lawful.{IsAllowed, Leads, nowhere, by_entry, ending, IsLawfulLog}
use Rattle.lawful_log.specs.State.{State, start_of}
use Rattle.chunk_pool.proofs.PoolLaws.{count-most}
use Rattle.lawful_reading.specs.State as reading_state
use Rattle.lawful_reading.proofs.Judgements.{lawful_unlawful, unlawful_too_long}
use Rattle.audited_logs.proofs.Begun.{begins}
use Rattle.audited_logs.proofs.Beside.{GoesOn, next_goes}
use Rattle.audited_logs.proofs.Choices.{chosen}
use Rattle.audited_logs.proofs.Comings.{came}
use Rattle.audited_logs.proofs.Endings.{ending_read}
use Rattle.audited_logs.proofs.Fitting as fitting
use Rattle.audited_logs.proofs.Limits.{leads_at}
use Rattle.audited_logs.proofs.Outs.{put}
use Rattle.audited_logs.proofs.Positions.{starts_at}
use Rattle.audited_logs.proofs.Resting.{blocked, ended}
use Rattle.audited_logs.proofs.Stops.{stops_as}
use Rattle.audited_logs.proofs.Texts.{Whole, whole_judged}

module _ (g : Setup) (scoped : IsWellScoped g.program) (valid : IsValid (lowered g.program) g.image g.certificate) (areas : AreWellFormed (checked_of g) (start_areas g)) (fuel : g.policy.fuel ≤ most_fuel) (caps : AreCapsSmall g.policy.caps) (most : ℕ) where
  abbrev given : Given
  given = given_of g most

  chunks : chunks_of given ≤ 131072
  chunks = let most_chunks = count-most (start_areas g).pool areas.pool in omega (arith, most_chunks)

  -- ---- entry by entry

  entry_goes : (before after : State) (entry : Entry) (rest : List Entry) → IsAllowed g before entry after → GoesOn g most after rest → GoesOn g most before (entry ∷ rest)
  entry_goes before after (Entry.Event clock item) rest is later b at range =
      let next = came g most before after clock item _ is b at in
      let fit = fitting.came given scoped caps fuel chunks b next.now clock item _ next.coming range in
      next_goes g most b (Entry.Event clock item) after rest (record { after = next.now; allowed = next.coming; position = next.position }) (fit.clock_small, fit.item_is) fit.range later
  entry_goes before after (Entry.Dropped clock item) rest is later b at range =
      let next = came g most before after clock item _ is b at in
      let fit = fitting.came given scoped caps fuel chunks b next.now clock item _ next.coming range in
      next_goes g most b (Entry.Dropped clock item) after rest (record { after = next.now; allowed = next.coming; position = next.position }) (fit.clock_small, fit.item_is) fit.range later
  entry_goes before after (Entry.Run clock thread node) rest is later b at range =
      let next = chosen g scoped valid most before after clock thread node is b at in
      let fit = fitting.chosen given scoped caps fuel chunks b next.now clock thread node next.run (λ here e. (begins g.program g.policy.caps b.source thread here e).number_is) range in
      next_goes g most b (Entry.Run clock thread node) after rest (record { after = next.now; allowed = next.run; position = next.position }) (fit.clock_small, fit.thread_small, fit.node_small) fit.range later
  entry_goes before after (Entry.Out thread value) rest is later b at range =
      let next = put g scoped valid most before after thread value is b at in
      let fit = fitting.put given scoped caps fuel chunks b next.now thread value next.out next.word_fits range in
      next_goes g most b (Entry.Out thread value) after rest (record { after = next.now; allowed = next.out; position = next.position }) (fit.thread_small, fit.value_small) fit.range later
  entry_goes before after (Entry.Block thread node key cost free) rest is later b at range =
      let next = blocked g scoped valid most before after thread node key cost free is b at in
      let fit = fitting.blocked given scoped caps fuel chunks b next.now thread node key cost free next.block next.ran range in
      next_goes g most b (Entry.Block thread node key cost free) after rest (record { after = next.now; allowed = next.block; position = next.position }) fit.fits fit.range later
  entry_goes before after (Entry.End thread cost free) rest is later b at range =
      let next = ended g scoped valid most before after thread cost free is b at in
      let fit = fitting.ended given scoped caps fuel chunks b next.now thread cost free next.end next.ran range in
      next_goes g most b (Entry.End thread cost free) after rest (record { after = next.now; allowed = next.end; position = next.position }) fit.fits fit.range later
  entry_goes before after _ rest is later b at range = absurd is

  leads_go : (before after : State) (entries more : List Entry) → Leads g before entries after → GoesOn g most after more → GoesOn g most before (entries ++ more)
  leads_go before after entries more nowhere later = later
  leads_go before after entries more (by_entry {between = between} {entry = entry} {entries = rest} is leads) later = entry_goes before between entry (rest ++ more) is (leads_go between after rest more leads later)

  -- ---- the log

  log_read : (trace : List ℕ) (entries : List Entry) (stop : StopLine) (end : World) → IsLawfulLog g trace entries stop end → Whole given (reading_state.start_of given trace) entries
  log_read trace entries stop end log =
      subst (Whole given (reading_state.start_of given trace)) (sym log.entries_are)
      (leads_go (start_of g trace log.start) log.last log.before_end (ending g log.last stop) log.leads
      (λ b at range.
      let stops = stops_as g scoped valid most log.last stop end log.stops b at in
      ending_read g most log.last stop b at (fitting.ending_fits given scoped caps fuel chunks b stop stops.steps stops.stops range) stops)
      (reading_state.start_of given trace) (starts_at g scoped valid areas fuel most trace log.start log.starts) (fitting.starts given scoped caps fuel chunks trace))

  pub log_judged : (trace : List ℕ) (entries : List Entry) (stop : StopLine) (end : World) → IsLawfulLog g trace entries stop end → IsLawfulOrTooLong given trace (log_text entries)
  log_judged trace entries stop end log = whole_judged given trace entries (log_read trace entries stop end log)

  pub never_unlawful : (trace : List ℕ) (entries : List Entry) (stop : StopLine) (end : World) (line : ℕ) → IsLawfulLog g trace entries stop end → IsUnlawful given trace (log_text entries) line → ⊥
  never_unlawful trace entries stop end line log unlawful = ⊎_elim
      (λ (lawful : IsLawful given trace (log_text entries)). lawful_unlawful given trace (log_text entries) line lawful unlawful)
      (λ (long : (other : ℕ) × IsTooLong given trace (log_text entries) other). unlawful_too_long given trace (log_text entries) line long.0 unlawful long.1)
      (log_judged trace entries stop end log)

  -- with so many steps, or with more, it is lawful
  pub enough : (trace : List ℕ) (entries : List Entry) (stop : StopLine) (end : World) → IsLawfulLog g trace entries stop end → (steps : ℕ) × ((most_steps : ℕ) → steps ≤ most_steps → IsLawful (given_of g most_steps) trace (log_text entries))
  enough trace entries stop end log =
      let whole = log_read trace entries stop end log in (
        whole.last.steps,
        λ most_steps within. record { entries = entries; last = whole.last; leads = leads_at given most_steps (reading_state.start_of given trace) whole.last entries whole.chain within; stopped = whole.stopped; log_is = refl },
      )
