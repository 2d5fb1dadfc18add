use Rattle.scope_rules.proofs.Common.{sym, subst, Changes}
use Rattle.scope_rules.proofs.names.restore.Goals as goal
use Rattle.scope_rules.proofs.names.restore.Goals.{in-Ok, in-Err}

pub returns-after-insert : goal.returns-after-insert
returns-after-insert c =
    subst (λ w. Changes c.args.text.items c.args.found.now c.insert.new.self w) (sym c.in-Some.is)
    (elim c.match-insert.branch [ in-Ok w ↦ w.in-Ok.ensures.updates | in-Err w ↦ absurd (c.requires w.in-Err.ensures.absent) ])
