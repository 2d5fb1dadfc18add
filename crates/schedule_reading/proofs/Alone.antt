-- Between segments no segment is under way, whatever is kept of one.
use Rattle.schedule_reading.proofs.Common.{◌≡◌, ℕ, true, false, Option, Some, None, IsSome, refl, sym, ◌∙◌, Given, State, Wait, End, Under, Core, Kept, StandsBetween, StandsBetweenSomehow, Stands, StandsAt, StandsBy, StandsWithin}
use Rattle.schedule_reading.specs.declared.reading.End.TheVariants as end
use Rattle.schedule_reading.proofs.Unstopped.{between_by, stands_by}

none_some : (o : Option Wait) → o ≡ None → IsSome o → ⊥
none_some None e s = absurd (let no : false ≡ true = s in cc)
none_some (Some wait) e s = absurd (cc)

-- the thread that runs doesn't wait where it stands, and between segments each does
not_both : (g other : Given) (state another : State) (clock : ℕ) (k : Core) (under : Under) → StandsWithin g state k under → StandsAt other another clock k → ⊥
not_both g other state another clock k under within at =
    let b = within.runs.beside in
    none_some _ b.away_waits (at.resting under.choice.thread.slot b.away b.away_there)

none_by : (g other : Given) (state another : State) (clock : ℕ) (k : Core) (o : Option Under) → StandsBy g state k o → StandsAt other another clock k → o ≡ None
none_by g other state another clock k None by at = refl
none_by g other state another clock k (Some under) by at = absurd (not_both g other state another clock k under by at)

not_stopped : (e : End) → e ≡ end.NotYet → e ≡ end.Stopped → ⊥
not_stopped e p q = absurd (let no : end.NotYet ≡ end.Stopped = sym p ∙ q in cc)

module _ (g : Given) (state : State) (k : Kept) (stands : Stands g state k) (somehow : StandsBetweenSomehow k) (before_end : k.end ≡ end.NotYet) where
  pub none_under : k.under ≡ None
  none_under = none_by g somehow.0 state somehow.1 somehow.1.clock k.core k.under (stands_by g state k stands (not_stopped k.end before_end)).0 somehow.2.0

  pub between_of : StandsBetween g state k
  between_of = between_by g state k stands (not_stopped k.end before_end) none_under
