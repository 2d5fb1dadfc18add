-- A run of an accepted pair, under options in their ranges, is due.
use Rattle.decisions.proofs.Common.{ℕ, List, [], Option, Some, None, refl, Setup, IsAccepted, IsRun, RunsOn, run_outcome, ShowsRun, shown_outcome, IsInRange, areas-formed}
use Rattle.log_laws.specs.One.{HasOneLog}
use Rattle.log_laws.proofs.Starting.{one_log}
use Rattle.log_laws.proofs.Good.{good}
use Rattle.decisions.proofs.Loading.{Some_due}

-- its run on a trace
pub record ARun (g : Setup) (trace : List ℕ) : Type 0 where
  pub one : HasOneLog g trace
  pub run : IsRun g trace one.entries one.stop one.end

pub a_run : (g : Setup) (trace : List ℕ) → IsAccepted g → IsInRange g → ARun g trace
a_run g trace ok range =
    let well = areas-formed g ok range in
    let one = one_log g ok.scoped ok.valid well range.fuel trace in
    record { one = one; run = record { lawful = one.lawful; good = good g trace one.entries one.stop one.end ok.scoped ok.valid well range.fuel one.lawful } }

pub run_due : (trace : Option (List ℕ)) (g : Setup) → IsAccepted g → IsInRange g → Some_due (RunsOn trace g)
run_due None g ok range =
    let r = a_run g [] ok range in
    (run_outcome g r.one.entries r.one.stop r.one.end, (ok, r.one.entries, r.one.stop, r.one.end, tt, refl, record { bytes = []; told = tt; run = r.run }))
run_due (Some bytes) g ok range =
    let r = a_run g bytes ok range in
    (run_outcome g r.one.entries r.one.stop r.one.end, (ok, r.one.entries, r.one.stop, r.one.end, r.run, refl, record { bytes = bytes; told = refl; run = r.run }))

pub show_due : (trace : List ℕ) (g : Setup) → IsAccepted g → IsInRange g → Some_due (ShowsRun trace g)
show_due trace g ok range =
    let r = a_run g trace ok range in
    (shown_outcome g r.one.entries r.one.stop r.one.end, (ok, r.one.entries, r.one.stop, r.one.end, r.run, refl))
