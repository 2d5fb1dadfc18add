use Rattle.std.proofs.Common.{sym, subst}
use Rattle.thread_core.specs.Making.{IsPolicy, IsStart}
use Rattle.thread_core.specs.declared.policy.WorldPolicy.{WorldPolicy}
use Rattle.command_rows.proofs.Ranged.{policy_is, made_is}
use Rattle.command_rows.proofs.building.world_made.Goals as goal

pub make-requires : goal.make-requires
make-requires c =
    let a = c.args in
    let s = a.setup in
    subst (λ (p : WorldPolicy). IsPolicy a.accepted p s.fuel) (sym c.policy.ensures) (policy_is s.chunks s.fuel s.backlog s.cap a.accepted c.requires)

pub returns-in-Ok-clause-made : goal.returns-in-Ok-clause-made
returns-in-Ok-clause-made c =
    let a = c.args in
    let s = a.setup in
    made_is s.chunks s.fuel s.backlog s.cap a.accepted c.requires c.in-Ok.world (subst (λ (p : WorldPolicy). IsStart a.accepted p s.fuel c.in-Ok.world) c.policy.ensures c.in-Ok.ensures.made)
