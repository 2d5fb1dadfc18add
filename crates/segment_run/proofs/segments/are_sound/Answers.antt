use Rattle.segment_run.proofs.Common.{accepted_tree, formed}
use Rattle.segment_run.proofs.segments.are_sound.Goals as goal

pub returns-clause-formed : goal.returns-clause-formed
returns-clause-formed c = formed (accepted_tree c.args.accepted.now) c.args.accepted.now.image c.args.accepted.now.certificate c.args.accepted.now.program.well_scoped c.is_valid.ensures
