use Rattle.capriccio_commands.proofs.Common.{[], ◌∷◌, FitsSigned, rules, w128, to_z-of_z, canonical_integer, three-pieces}
use Rattle.capriccio_commands.proofs.summaries.put_sum.Goals as goal

pub returns : goal.returns
returns c =
    let fits : FitsSigned w128 c.args.value = search rules in
    let same = to_z-of_z w128 c.args.value fits in
    let put = rw same at c.in_ok-put_dec.ensures.ok in
    three-pieces c.put_text-2.result c.args.text.now.items c.args.name.now (canonical_integer c.args.value) (10 ∷ [])
    c.put_text.new.line.items c.put_dec.new.out.items c.put_text-2.new.line.items c.in_ok-put_text.ensures put c.put_text-2.ensures
