use Rattle.scope_rules.proofs.Common.{map, option_map, raw_expr_tree, raw_simple_tree, spot_of}
use Rattle.scope_rules.proofs.ForLoops.{parts_broken}
use Rattle.scope_rules.proofs.places.Place.for_parts.Goals as goal

pub returns-clause-faults : goal.returns-clause-faults
returns-clause-faults c =
    let raw = c.args.raw.now in
    let place = rw c.deref.ensures.value at c.in_ok-init.ensures.place in
    let broken = rw c.deref.ensures.value at c.in_ok-init.ensures.faults in
    let same = rw c.in_ok-before.ensures.next at c.condition.ensures.place in
    let tested = rw c.in_ok-before.ensures.next at c.condition.ensures.faults in
    parts_broken (spot_of c.args.self.now) (spot_of c.simples.new.self) (spot_of c.condition.new.self)
    (map raw_simple_tree raw.init.items) (option_map raw_expr_tree raw.condition) (option_map raw_simple_tree raw.step)
    c.args.self.now.least c.simples.new.self.least c.condition.new.self.least c.then_step.new.self.least
    place same broken tested c.in_ok-init-2.ensures.faults
