use Rattle.source_items.proofs.Common.{ap, ◌∙◌, to_do}
use Rattle.source_items.proofs.Stacks.{to_do-push}
use Rattle.source_items.proofs.items.push.Goals as goal

pub returns-clause-next : goal.returns-clause-next
returns-clause-next c = ap to_do c.in_ok-push.ensures.items ∙ to_do-push c.args.items.now.items _
