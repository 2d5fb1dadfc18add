use Rattle.hoist_rules.proofs.Common.{raw_expr_tree-Chain}
use Rattle.hoist_rules.proofs.copies.+copies.Goals as goal

pub expr_copy-returns-in_ok-first-in-Chain : goal.expr_copy-returns-in_ok-first-in-Chain
expr_copy-returns-in_ok-first-in-Chain t c =
    rw (c.in-Chain.is, raw_expr_tree-Chain c.in-Chain.first c.in-Chain.rest, ← c.deref-in-Chain.ensures, ← c.in_ok-first-in-Chain.ensures, ← c.deref-in-Chain-2.ensures.value) c.chain_copy.ensures
