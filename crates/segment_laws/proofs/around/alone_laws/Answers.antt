use Rattle.segment_laws.proofs.Untouched.{keeps_step, keeps_steps}
use Rattle.segment_laws.proofs.around.alone_laws.Goals as goal

pub returns-clause-step : goal.returns-clause-step
returns-clause-step c' = λ flat certificate code l chunk formed form good elsewhere. keeps_step (record { flat = flat; certificate = certificate }) code l chunk formed form good elsewhere

pub returns-clause-steps : goal.returns-clause-steps
returns-clause-steps c' = λ flat certificate code t l at k chunk formed all comes elsewhere.
    keeps_steps (record { flat = flat; certificate = certificate }) code k l at chunk formed (λ j between later. let is = all j between later in (is.form, is.good)) comes elsewhere
