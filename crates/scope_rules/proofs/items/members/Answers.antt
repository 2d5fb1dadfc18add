use Rattle.scope_rules.proofs.Common.{◌≡◌, ◌∷◌, ◌+◌, map, drop, append_assoc, name_tree, find, is_member, use_faults, members_faults, drop_at}
use Rattle.scope_rules.proofs.Least.{least_of_append}
use Rattle.scope_rules.proofs.items.members.Goals as goal

pub loop-name-preserved : goal.loop-name-preserved
loop-name-preserved c =
    let item = c.name-item.result in
    let raw = c.args.raw.now in
    let i = c.loop-name.name-index in
    let names = c.args.names.now in
    let cut : drop i raw ≡ item ∷ drop (i + 1) raw = drop_at raw i item c.loop-name-test.true c.name-item.is in
    record {
      trees = rw (c.in_ok-push.ensures.items, c.member.ensures.function, append_assoc) (rw cut at c.loop-name.invariant.trees);
      faults = rw (c.member.ensures.faults, ← least_of_append c.loop-name.least (use_faults is_member (find item.text.items names) item.at) (members_faults names (map name_tree (drop (i + 1) raw)))) (rw cut at c.loop-name.invariant.faults);
    }
