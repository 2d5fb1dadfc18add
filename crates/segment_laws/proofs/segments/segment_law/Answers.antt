use Rattle.segment_laws.proofs.Common.{Checked, running_on}
use Rattle.segment_laws.proofs.ValidCalls.{CallFacts-valid}
use Rattle.segment_laws.proofs.ValidFacts.{CodeFacts-valid}
use Rattle.segment_laws.proofs.Needs.{NeedsFit-valid}
use Rattle.segment_laws.proofs.Reaching.{runs_alike}
use Rattle.segment_laws.proofs.FromRest.{rest_arrives}
use Rattle.segment_laws.proofs.segments.segment_law.Goals as goal

pub returns : goal.returns
returns c' = λ flat image certificate l t formed zeroes follows valid form stands may never.
    let c : Checked = record { flat = flat; certificate = certificate } in
    let facts = CodeFacts-valid flat image certificate formed zeroes valid in
    let calls = CallFacts-valid flat image certificate formed valid in
    let arrives = rest_arrives flat image certificate l t facts calls valid follows form stands.rests may stands.stands stands.globals_are in
    runs_alike c image.code facts calls (NeedsFit-valid flat image certificate formed valid) formed arrives.steps l arrives.after (running_on c l.areas.pool l.core stands.rests t) form arrives.leads arrives.simulates never
