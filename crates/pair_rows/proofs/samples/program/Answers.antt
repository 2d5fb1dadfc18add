use Rattle.std.proofs.Common.{◌≡◌, [], ◌∷◌}
use Rattle.pair_rows.specs.Sample.{callee_function, main_function, sample_code}
use Rattle.pair_rows.proofs.SampleLemmas.{sample_formed}
use Rattle.pair_rows.proofs.samples.program.Goals as goal

pub new-requires : goal.new-requires
new-requires c =
    let functions : c.in_ok-functions.functions.items ≡ callee_function ∷ main_function ∷ [] = c.in_ok-functions.ensures in
    let globals : c.in_ok-globals.globals.items ≡ sample_code.globals = c.in_ok-globals.ensures in
    let tables : c.in_ok-tables.tables.items ≡ sample_code.tables = c.in_ok-tables.ensures in
    rw (functions, globals, tables) sample_formed
