use Rattle.scope_rules.proofs.Common.{◌≡◌, [], sym, ap, subst, map, arith, drop_of_length-le, nat_tests, ◌∙◌, table_row, IsMaking, closed_each, making_of}
use Rattle.scope_rules.specs.Making.{made_by}
use Rattle.scope_rules.specs.Openings.{open_trees}
use Rattle.scope_rules.proofs.Makings.{has_ended}
use Rattle.scope_rules.proofs.resolver.FunctionResolver.end.Goals as goal

pub returns : goal.returns
returns c = λ all read gives n params ss h.
    let parts = c.into_inner-items.result in
    let last = made_by c.loop-self.self in
    let left = c.loop-self.self.parts.value.begun.unfinished in
    let none : left.items ≡ [] = drop_of_length-le left.items {i = 0} (grind (arith, nat_tests, c.is_empty.ensures, c.loop-self-test.false, left.ok.0)) in
    let same = ap (λ os. closed_each (open_trees os) last) (sym none) ∙ c.loop-self.invariant in
    let made = subst (λ x. IsMaking x all read gives n params ss) (sym (ap (λ x. making_of x.items x.begun) c.into_inner-items.ensures ∙ same)) h in
    let end = c.in_ok-end.ensures in
    has_ended (making_of parts.items parts.begun) c.end.new.self all read gives n params ss made (record {
      definitions = end.definitions;
      spot = end.place;
      globals = ap (λ v. v.items) end.globals;
      tables = ap (λ v. map table_row v.items) end.tables;
      functions = end.functions;
      locals = end.locals;
      least = end.faults;
    })
