use Rattle.segment_laws.proofs.Starting.{starts}
use Rattle.segment_laws.proofs.ValidCalls.{CallFacts-valid}
use Rattle.segment_laws.proofs.Needs.{NeedsFit-valid}
use Rattle.segment_laws.proofs.around.starting_law.Goals as goal

pub returns : goal.returns
returns c' = λ flat image certificate areas taken need f argument arguments globals formed valid form e enough there below count registers globals_are.
    starts (record { flat = flat; certificate = certificate }) image.code areas taken need f argument arguments globals (CallFacts-valid flat image certificate formed valid) (NeedsFit-valid flat image certificate formed valid) form e enough there below count registers globals_are
