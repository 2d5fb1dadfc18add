use Rattle.reader_rows.proofs.Sample.{sample_scoped}
use Rattle.reader_rows.proofs.trees.sample.Goals as goal

pub new-requires : goal.new-requires
new-requires c =
    rw (c.in_ok-functions.ensures.items, c.in_ok-globals.ensures.items, c.in_ok-tables.ensures.items, c.in_ok-members.ensures.items, c.in_ok-identity.ensures, c.in_ok-caller.ensures) sample_scoped
