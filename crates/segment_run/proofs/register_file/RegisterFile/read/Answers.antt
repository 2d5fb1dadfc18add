use Rattle.segment_run.proofs.Common.{ℕ, List, ap, ◌∙◌, read}
use Rattle.segment_run.proofs.RegisterFiles.{read_beside}
use Rattle.segment_run.proofs.register_file.RegisterFile.read.Goals as goal

pub returns : goal.returns
returns c =
    read_beside c.self.inside.x c.self.inside.first c.args.register c.self.invariant
    ∙ ap (λ (x : List ℕ). read x c.args.register) c.self.view_is
