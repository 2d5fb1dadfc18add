use Rattle.pair_commands.proofs.Common.{[], ◌∷◌, length, codes}
use Rattle.cap_text.specs.Decimals.{canonical_decimal}
use Rattle.command_outcomes.proofs.Appended.{seven-pieces}
use Rattle.pair_commands.proofs.build_command.put_built.Goals as goal

pub returns : goal.returns
returns c =
    let code = rw c.len.ensures at c.in_ok-put_number.ensures in
    let globals = rw c.len-2.ensures at c.in_ok-put_number-2.ensures in
    let tables = rw c.len-3.ensures at c.in_ok-put_number-3.ensures in
    let image = c.args.image.now in
    seven-pieces c.put_text-4.result c.args.line.now.items (codes "built code ") (canonical_decimal (length image.code)) (codes " globals ") (canonical_decimal (length image.globals)) (codes " tables ") (canonical_decimal (length image.tables)) (10 ∷ [])
    c.put_text.new.line.items c.put_number.new.line.items c.put_text-2.new.line.items c.put_number-2.new.line.items c.put_text-3.new.line.items c.put_number-3.new.line.items c.put_text-4.new.line.items
    c.in_ok-put_text.ensures code c.in_ok-put_text-2.ensures globals c.in_ok-put_text-3.ensures tables c.put_text-4.ensures
