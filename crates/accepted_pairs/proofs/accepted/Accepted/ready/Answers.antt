use Rattle.accepted_pairs.proofs.Common.{length, sym, subst, Acceptance}
use Rattle.decoded_code.specs.Ready.{AreReady}
use Rattle.accepted_pairs.proofs.accepted.Accepted.ready.Goals as goal

pub returns : goal.returns
returns c =
    let a = c.self.inside in
    let ready : AreReady a.image.code (length a.image.code) c.as_slice.result.now = subst (AreReady a.image.code (length a.image.code)) (sym c.as_slice.ensures.value) c.self.invariant.2.ready in
    subst (λ (v : Acceptance). AreReady v.image.code (length v.image.code) c.as_slice.result.now) c.self.view_is ready
