use Rattle.capriccio_commands.proofs.Common.{codes, three-pieces, count_line}
use Rattle.capriccio_commands.proofs.summaries.put_census.Goals as goal

pub returns : goal.returns
returns c =
    let a = c.args.census in
    three-pieces c.put_count-3.result c.args.text.now.items (count_line (codes "functions ") a.functions) (count_line (codes "sites ") a.sites) (count_line (codes "checkpoints ") a.checkpoints)
    c.put_count.new.text.items c.put_count-2.new.text.items c.put_count-3.new.text.items c.in_ok-put_count.ensures c.in_ok-put_count-2.ensures c.put_count-3.ensures
