use Rattle.capriccio_commands.proofs.Common.{FitsSigned, rules, codes, w128, to_z-of_z, count_line, sum_line}
use Rattle.capriccio_commands.proofs.Shown.{four-pieces}
use Rattle.capriccio_commands.proofs.summaries.put_tally.Goals as goal

pub returns : goal.returns
returns c =
    let a = c.args.tally in
    let fits : FitsSigned w128 a.sum = search rules in
    let same = to_z-of_z w128 a.sum fits in
    let sum = rw same at c.in_ok-put_sum.ensures in
    four-pieces c.put_cost.result c.args.text.now.items (count_line (codes "choices ") a.choices) (count_line (codes "outputs ") a.outputs) (sum_line (codes "sum ") a.sum) (count_line (codes "cost ") a.cost)
    c.put_count.new.text.items c.put_count-2.new.text.items c.put_sum.new.text.items c.put_cost.new.text.items c.in_ok-put_count.ensures c.in_ok-put_count-2.ensures sum c.put_cost.ensures
