use Rattle.segment_run.proofs.Common.{checked_of}
use Rattle.segment_run.proofs.Standing.{entry_stands, entry_of}
use Rattle.segment_run.proofs.lookups.function_with_entry.Goals as goal

pub function_at-requires : goal.function_at-requires
function_at-requires c =
    let there = c.requires.there in
    (there.0, entry_stands (checked_of c.args.accepted.now).flat c.args.accepted.now.image c.args.accepted.now.certificate c.requires.valid c.args.entry there.0 there.1)

pub returns : goal.returns
returns c =
    let there = c.requires.there in
    entry_of (checked_of c.args.accepted.now).flat c.args.accepted.now.image c.args.accepted.now.certificate c.requires.valid c.args.entry there.0 c.function_at.result there.1 c.function_at.ensures
