-- What has to come at a choice point, where the trace was looked at first.
use Rattle.schedule_reading.proofs.Common.{◌≡◌, ℕ, ◌<◌, List, Option, Some, None, refl, sym, subst, IsRefused, Trace, ReaderState, Event, Given, State, Point, Next, Kept, IsTold, IsLooked, IsTraceOf, StandsAt}
use Rattle.schedule_reading.specs.declared.points.Point.TheVariants as point
use Rattle.schedule_reading.specs.declared.reading.Next.TheVariants as next
use Rattle.schedule_reading.specs.Rulings.{Goes, Halts, IsPoint, Knows}
use Rattle.schedule_reading.proofs.Pointing.{between_is, live_is}

-- ---- the next line was looked at

module _ (g : Given) (state : State) (old k : Kept) (told told' : Option (List ℕ)) (on : IsTold state old told → IsTold state k told') where
  halts_from : (new : Kept) (Stops : Type 0) → Halts g state k told' new told' Stops → Halts g state old told new told' Stops
  halts_from new Stops h = record { stands = h.stands; looked = h.looked; stops = λ is. h.stops (on is); trace = λ is. h.trace (on is) }

  goes_from : (known : Option Event) (new : Kept) → Goes g state k told' known new told' → Goes g state old told known new told'
  goes_from known new h = record { stands = h.stands; looked = h.looked; known_is = h.known_is; point = λ is. h.point (on is); trace = λ is. h.trace (on is) }

  pub point_from : (new : Kept) (p : Point) → IsPoint g state k told' new told' p → IsPoint g state old told new told' p
  point_from new (point.Comes event) h = record { goes = goes_from (Some event) new h.goes; due = h.due }
  point_from new point.Choice h = record { known = h.known; goes = goes_from h.known new h.goes; not_due = h.not_due; ready = h.ready }
  point_from new _ h = halts_from new _ h

  -- it is refused
  pub bad_from : (line : ℕ) → StandsAt g state state.clock k.core → IsLooked k.reader k.next → 0 < k.core.threads.live → k.next ≡ next.Refused line → IsPoint g state old told k told' (point.BadTrace line)
  bad_from line stands looked live is = record {
    stands = stands;
    looked = looked;
    stops = λ t. record { between = between_is g state state.clock k.core stands; live = live_is g state state.clock k.core stands live; refused = refused_of state.trace k.reader k.next line told' is (on t) };
    trace = on;
  } where
    refused_of : (trace : Trace) (reader : ReaderState) (n : Next) (line : ℕ) (told : Option (List ℕ)) → n ≡ next.Refused line → IsTraceOf trace reader n told → IsRefused trace line
    refused_of trace reader n line None e t = absurd t
    refused_of trace reader n line (Some bytes) e t = subst (λ (m : Next). IsTraceOf trace reader m (Some bytes)) e t

-- what is kept is known where the line is good
pub knows_event : (n : Next) (event : Event) → n ≡ next.Event event → Knows n (Some event)
knows_event n event e = subst (λ (m : Next). Knows m (Some event)) (sym e) refl

pub knows_over : (n : Next) → n ≡ next.Over → Knows n None
knows_over n e = subst (λ (m : Next). Knows m None) (sym e) tt
