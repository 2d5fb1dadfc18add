use Rattle.codegen_link.proofs.Common.{map, arith, ap, ◌∙◌, entry_in, flat-pushed}
use Rattle.codegen_link.proofs.areas.table_words.Goals as goal

pub loop-members-preserved : goal.loop-members-preserved
loop-members-preserved c =
    let entries = map (entry_in c.as_slice-facts.result.now) in
    flat-pushed entries c.tables-members-items.result.now c.loop-members.members-index c.members-item.result _ _ _ (omega arith)
    c.loop-members.invariant c.in_ok-push_members.ensures (ap entries (c.as_slice.ensures ∙ c.members-item.is))
