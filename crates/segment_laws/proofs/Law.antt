-- The law of one segment, as a lemma for the crates above.
use Rattle.segment_laws.proofs.Common.{◌∷◌, IsValid, FlatCode, FlatThread, IsWellFormed, Local, Checked, StandsForFlatThread, ZeroesSome, HasForm, FollowsAsks, IsNeverLost, MayRun, running_on, RunsAlike, Certificate, Image}
use Rattle.segment_laws.proofs.ValidCalls.{CallFacts-valid}
use Rattle.segment_laws.proofs.ValidFacts.{CodeFacts-valid}
use Rattle.segment_laws.proofs.Needs.{NeedsFit-valid}
use Rattle.segment_laws.proofs.Reaching.{runs_alike}
use Rattle.segment_laws.proofs.FromRest.{rest_arrives}

pub segment_runs : (flat : FlatCode) (image : Image) (certificate : Certificate) (l : Local) (t : FlatThread) → IsWellFormed flat → ZeroesSome flat → FollowsAsks flat → IsValid flat image certificate →
    HasForm (record { flat = flat; certificate = certificate }) l → (stands : StandsForFlatThread (record { flat = flat; certificate = certificate }) l (t.frame ∷ t.below) t.globals) →
    MayRun (record { flat = flat; certificate = certificate }) l.areas.pool l.core stands.rests →
    IsNeverLost flat (running_on (record { flat = flat; certificate = certificate }) l.areas.pool l.core stands.rests t) →
    RunsAlike (record { flat = flat; certificate = certificate }) image.code l (running_on (record { flat = flat; certificate = certificate }) l.areas.pool l.core stands.rests t)
segment_runs flat image certificate l t formed zeroes follows valid form stands may never =
    let c : Checked = record { flat = flat; certificate = certificate } in
    let facts = CodeFacts-valid flat image certificate formed zeroes valid in
    let calls = CallFacts-valid flat image certificate formed valid in
    let arrives = rest_arrives flat image certificate l t facts calls valid follows form stands.rests may stands.stands stands.globals_are in
    runs_alike c image.code facts calls (NeedsFit-valid flat image certificate formed valid) formed arrives.steps l arrives.after (running_on c l.areas.pool l.core stands.rests t) form arrives.leads arrives.simulates never
