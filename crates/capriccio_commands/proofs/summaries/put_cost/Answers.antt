use Rattle.capriccio_commands.proofs.Common.{[], ◌∷◌, w128, to_z_pos, canonical_decimal, three-pieces}
use Rattle.schedule_log.proofs.Pushed.{decimal_of_pos}
use Rattle.capriccio_commands.proofs.summaries.put_cost.Goals as goal

pub returns : goal.returns
returns c =
    let same = to_z_pos w128 c.args.number c.requires in
    let put = rw (same, decimal_of_pos c.args.number) at c.in_ok-put_dec.ensures.ok in
    three-pieces c.put_text-2.result c.args.text.now.items c.args.name.now (canonical_decimal c.args.number) (10 ∷ [])
    c.put_text.new.line.items c.put_dec.new.out.items c.put_text-2.new.line.items c.in_ok-put_text.ensures put c.put_text-2.ensures
