use Rattle.capriccio_commands.proofs.Common.{[], ◌∷◌, canonical_decimal, three-pieces}
use Rattle.capriccio_commands.proofs.summaries.put_count.Goals as goal

pub returns : goal.returns
returns c =
    three-pieces c.put_text-2.result c.args.text.now.items c.args.name.now (canonical_decimal c.args.number) (10 ∷ [])
    c.put_text.new.line.items c.put_number.new.line.items c.put_text-2.new.line.items c.in_ok-put_text.ensures c.in_ok-put_number.ensures c.put_text-2.ensures
