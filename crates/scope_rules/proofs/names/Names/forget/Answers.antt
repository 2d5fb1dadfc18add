use Rattle.scope_rules.proofs.Links.{forget_links, is_there}
use Rattle.std.proofs.Common.{refl}
use Rattle.scope_rules.proofs.names.Names.forget.Goals as goal

pub restore-requires : goal.restore-requires
restore-requires c = is_there c.in-Some.last c.self.inside.declared.items c.pop.new.self.items c.self.inside.found c.in-Some.ensures.items c.self.invariant

pub invariant_of-self : goal.invariant_of-self
invariant_of-self c =
    forget_links c.in-Some.last c.self.inside.declared.items c.pop.new.self.items c.self.inside.found c.restore.new.found c.in-Some.last.hidden refl c.in-Some.ensures.items c.self.invariant c.restore.ensures
