use Rattle.std.proofs.Common.{◌≡◌, [], ◌∷◌, ◌∙◌}
use Rattle.pair_rows.specs.Sample.{putting_function}
use Rattle.pair_rows.proofs.SampleLemmas.{putting_formed}
use Rattle.pair_rows.proofs.samples.putting.Goals as goal

pub new-requires : goal.new-requires
new-requires c =
    let functions : c.in_ok-functions.functions.items ≡ putting_function ∷ [] = c.in_ok-functions.ensures.items ∙ rw c.in_ok-function.ensures in
    rw (functions, c.new-globals.ensures.items, c.new-tables.ensures.items) putting_formed
