use Rattle.segment_run.proofs.Common.{refl, accepted_tree, lowered, formed}
use Rattle.segment_run.proofs.FewWords.{few_globals, few_tables}
use Rattle.segment_run.proofs.sizes.sizes_law.Goals as goal

pub returns-clause-globals : goal.returns-clause-globals
returns-clause-globals c =
    let program = accepted_tree c.args.accepted.now in
    let image = c.args.accepted.now.image in
    let certificate = c.args.accepted.now.certificate in
    few_globals (lowered program) image certificate (formed program image certificate c.args.accepted.now.program.well_scoped c.is_valid.ensures) c.is_valid.ensures

pub returns-clause-tables : goal.returns-clause-tables
returns-clause-tables c =
    let program = accepted_tree c.args.accepted.now in
    let image = c.args.accepted.now.image in
    let certificate = c.args.accepted.now.certificate in
    few_tables (lowered program) image certificate (formed program image certificate c.args.accepted.now.program.well_scoped c.is_valid.ensures) c.is_valid.ensures

pub returns-clause-aligned : goal.returns-clause-aligned
returns-clause-aligned c = (((c.is_valid.ensures.holds 1 0 1).v1 refl).chunk refl).0

pub returns-clause-least : goal.returns-clause-least
returns-clause-least c = (((c.is_valid.ensures.holds 1 0 1).v1 refl).chunk refl).1

pub returns-clause-most : goal.returns-clause-most
returns-clause-most c = (((c.is_valid.ensures.holds 1 0 1).v1 refl).chunk refl).2
