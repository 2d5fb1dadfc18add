-- A command that runs nothing ends as one that might run something and hands out no world.
use Rattle.capriccio_call.proofs.Common.{Option, None, Result, Ok, Err, ℕ, sym, subst, Stop, Refused, Failed, Outside, Outcome, Ran, EndsAs, IsStatus, IsEnd, IsLast}
use Rattle.capriccio_call.specs.Handing.{without_world}

pub ends-without : (due : Outcome → Type 0) (before after : Outside) (r : Result ℕ Stop) → EndsAs IsStatus due before after r → EndsAs IsEnd due before after (without_world r)
ends-without due before after (Ok status) h = (h.0, h.1, (h.2.0, h.2.1, subst (λ (ran : Option Ran). IsLast ran None) (sym h.2.2) tt))
ends-without due before after (Err (Refused cause)) h = h
ends-without due before after (Err (Failed fault)) h = h
