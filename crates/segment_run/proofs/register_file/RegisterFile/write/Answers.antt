use Rattle.segment_run.proofs.Common.{ℕ, List, ap, ◌∙◌, write}
use Rattle.segment_run.proofs.RegisterFiles.{written_beside, first_stays}
use Rattle.segment_run.proofs.register_file.RegisterFile.write.Goals as goal

pub invariant_of-self : goal.invariant_of-self
invariant_of-self c = first_stays c.self.inside.x c.args.register c.args.value c.requires.some ∙ c.self.invariant

pub returns : goal.returns
returns c =
    written_beside c.self.inside.x c.self.inside.first c.args.register c.args.value c.requires.some
    ∙ ap (λ (x : List ℕ). write x c.args.register c.args.value) c.self.view_is
