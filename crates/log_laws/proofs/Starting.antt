-- The start of a valid pair, and the log from there.
use Rattle.log_laws.proofs.Common.{◌≡◌, ℕ, ◌+◌, ◌*◌, ◌/◌, ◌≤◌, List, ◌++◌, Some, refl, ap, subst, arith, lowered, IsWellScoped, IsValid, Taken, taken_for, checked_of, ending, IsLawfulLog, Setup, setting_of, main_fact, start_machine, start_areas, start_of, formed, Areas, empty_world, started_on, start_world, World, with_thread, AreWellFormed, IsWellFormed, IsWellFormedIf, most_fuel, IsWellFormedIf-start, CallFacts-valid, fact_at, StandsSettled, starts_law, between_after, taken_for-start, all_free-new}
use Rattle.lawful_log.proofs.AtMostOne.{same_entries, same_stops}
use Rattle.c_mean.specs.World as source
use Rattle.lawful_log.proofs.Kept.{first_waits}
use Rattle.log_laws.specs.One.{HasOneLog}
use Rattle.log_laws.proofs.Runs.{Between, rest_of}
use Rattle.chunk_pool.proofs.ShapeLaws.{first_bytes-start}

-- ---- the start

module _ (g : Setup) (scoped : IsWellScoped g.program) (valid : IsValid (lowered g.program) g.image g.certificate)
    (well : AreWellFormed (checked_of g) (start_areas g)) (fuel : g.policy.fuel ≤ most_fuel) where
  abbrev areas : Areas
  areas = start_areas g

  need_fits : (main_fact g).bound + 16 ≤ 4 * (g.certificate.chunk / 4)
  need_fits =
      let code = formed g.program g.image g.certificate scoped valid in
      let bound = (valid.holds 11 g.program.main 2).v11 refl in
      let within = bound.bound refl code.main_defined in
      let path = ((valid.holds 11 g.program.main 3).v11 refl).path refl in
      omega (arith, within, path, well.chunk, first_bytes-start g.policy.chunks (g.certificate.chunk / 4) g.policy.extra (g.policy.extra_bytes / 4))

  first : (taken : Taken) × (taken_for areas.pool (main_fact g).bound ≡ Some taken)
  first = taken_for-start g.policy.chunks (g.certificate.chunk / 4) g.policy.extra (g.policy.extra_bytes / 4) (main_fact g).bound well.pool need_fits

  abbrev start : World
  start = with_thread (empty_world areas) first.0 (main_fact g).entry 0

  starts : start_machine g ≡ Some start
  unfolding start_world
  starts = ap (started_on (empty_world areas) (main_fact g).entry) first.1

  start_formed : IsWellFormed (checked_of g) (setting_of g) start
  start_formed =
      let code = formed g.program g.image g.certificate scoped valid in
      let room = ((CallFacts-valid (lowered g.program) g.image g.certificate code valid).entries g.program.main code.main_defined).room in
      subst (IsWellFormedIf (checked_of g) (setting_of g)) starts
      (IsWellFormedIf-start (checked_of g) (setting_of g) areas (fact_at g.certificate g.program.main).entry (fact_at g.certificate g.program.main).bound well (all_free-new g.policy.chunks (g.certificate.chunk / 4) g.policy.extra (g.policy.extra_bytes / 4)) fuel (omega (arith, room)))

  start_stands : StandsSettled (checked_of g) g.program start (source.start_world g.program)
  start_stands = starts_law g.program g.image g.certificate start areas scoped valid refl well starts

  start_between : (trace : List ℕ) → Between g scoped valid (start_of g trace start)
  start_between trace = record {
    is = between_after g (start_of g trace start) refl start_formed start_stands.stands (first_waits areas first.0 (main_fact g).entry);
    settled = start_stands.settled;
  }

  -- ---- the log

  pub one_log : (trace : List ℕ) → HasOneLog g trace
  one_log trace =
      let rest = rest_of g scoped valid (start_of g trace start) (start_between trace) in
      let entries = rest.entries ++ ending g rest.last rest.stop in
      let lawful : IsLawfulLog g trace entries rest.stop rest.end = record {
        start = start;
        starts = starts;
        before_end = rest.entries;
        last = rest.last;
        leads = rest.leads;
        stops = rest.stops;
        entries_are = refl;
      } in
      record {
        entries = entries;
        stop = rest.stop;
        end = rest.end;
        lawful = lawful;
        only = λ others other w is. (same_entries g trace others entries other rest.stop w rest.end is lawful, same_stops g trace others entries other rest.stop w rest.end is lawful);
      }
