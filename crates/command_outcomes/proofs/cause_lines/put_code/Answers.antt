use Rattle.std.specs.Prelude.{codes}
use Rattle.cap_text.specs.Decimals.{canonical_decimal}
use Rattle.command_outcomes.proofs.Appended.{three-pieces}
use Rattle.command_outcomes.proofs.cause_lines.put_code.Goals as goal

pub returns : goal.returns
returns c =
    three-pieces c.put_text-2.result c.args.line.now.items (codes "limit: code is ") (canonical_decimal c.args.words) (codes " words")
    c.put_text.new.line.items c.put_number.new.line.items c.put_text-2.new.line.items c.in_ok-put_text.ensures c.in_ok-put_number.ensures c.put_text-2.ensures
