-- What stands where the end of a log may have begun, but hasn't come.
use Rattle.schedule_reading.proofs.Common.{◌≡◌, None, refl, subst, Given, State, End, Kept, StandsBetween, IsEnd, IsLooked, Stands, StandsBy, StandsUnless}
use Rattle.schedule_reading.specs.declared.reading.End.TheVariants as end

pub stands_by : (g : Given) (state : State) (k : Kept) → Stands g state k → (k.end ≡ end.Stopped → ⊥) → StandsBy g state k.core k.under × IsLooked k.reader k.next
stands_by g state k stands going = by k.end refl stands.stands where
  by : (e : End) → k.end ≡ e → StandsUnless g state k e → StandsBy g state k.core k.under × IsLooked k.reader k.next
  by end.NotYet same s = s
  by (end.Edges edges read) same s = s
  by end.Stopped same s = absurd (going same)

pub between_by : (g : Given) (state : State) (k : Kept) → Stands g state k → (k.end ≡ end.Stopped → ⊥) → k.under ≡ None → StandsBetween g state k
between_by g state k stands going none =
    let s = stands_by g state k stands going in
    (subst (StandsBy g state k.core) none s.0, s.1)

pub stands_as : (g : Given) (state : State) (k : Kept) → IsEnd g state k.end → (k.end ≡ end.Stopped → ⊥) → StandsBy g state k.core k.under → IsLooked k.reader k.next → Stands g state k
stands_as g state k is going by looked = record { end_is = is; stands = unless k.end refl } where
  unless : (e : End) → k.end ≡ e → StandsUnless g state k e
  unless end.NotYet same = (by, looked)
  unless (end.Edges edges read) same = (by, looked)
  unless end.Stopped same = absurd (going same)
