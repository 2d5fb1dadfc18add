use Rattle.source_items.proofs.Common.{Bor, stmt_tree, Stmt}
use Rattle.source_items.proofs.Stacks.{taken-left}
use Rattle.source_items.proofs.items.leave.Goals as goal

pub returns : goal.returns
returns c = λ context all.
    taken-left context c.args.items.now.items c.take_to_back-stmt.new.items.items (λ (s : Bor Stmt). stmt_tree s.now) c.take_to_back-stmt.result (c.take_to_back-stmt.ensures context all)
