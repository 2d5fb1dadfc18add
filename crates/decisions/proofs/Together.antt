-- What is laid out is read again.
use Rattle.decisions.proofs.Common.{◌≤◌, refl, arith, ProgramTree, IsWellScoped, lowered, AreInRange, Options, IsLaidOut, Image, Certificate, HasFittingCode, HasFittingFrames, IsReadAgain}
use Rattle.machine_world.specs.WellFormed.{AreWords}
use Rattle.one_plan.proofs.Limits.{image-fits, certificate-fits}
use Rattle.decisions.proofs.Lengths.{certificate_short, image_short}
use Rattle.decisions.proofs.Rules.{few_variables, plan_is, code_fits, valid}
use Rattle.decisions.proofs.WordsInPairs.{image_words, certificate_words, site_words}

pub read_again : (program : ProgramTree) (sizes : Options) (i : Image) (c : Certificate) → IsWellScoped program → AreInRange sizes → HasFittingFrames program sizes.max_path → HasFittingCode program sizes → AreWords i.globals →
    IsLaidOut (lowered program) sizes i c → IsReadAgain program i c
read_again program sizes i c scoped ranges frames fits globals laid =
    let code = lowered program in
    let plan = laid.0 in
    let few = code_fits program scoped sizes plan fits laid.1 in
    let planned = plan_is program scoped sizes plan frames laid.1 in
    let holds = valid program scoped sizes i c ranges frames fits laid in
    let path : sizes.max_path ≤ 65536 = (let room = ranges.room in let most = ranges.most in omega (arith, room, most)) in
    let is = laid.2 in
    let image_limits = image-fits program i c scoped holds in
    let certificate_limits = certificate-fits program plan sizes i c scoped holds is in
    let words = certificate_words code plan sizes.max_path path planned few sizes c refl ranges.most (site_words program scoped) is in
    record {
      image_fits = image_limits;
      image_words = image_words code i c holds laid.3 globals;
      image_short = image_short i image_limits;
      certificate_fits = certificate_limits;
      certificate_words = words;
      certificate_short = certificate_short code plan c is.facts few (few_variables program scoped sizes plan) certificate_limits words;
      valid = holds;
    }
