use Rattle.std.proofs.lemmas.Result.{err_from_is_err_and}
use Rattle.scope_rules.proofs.Common.{subst, raw_program_tree, IsResolved, HaveRead}
use Rattle.scope_rules.proofs.Made.{made_as, memory_refused}
use Rattle.scope_rules.proofs.resolver.decide.Goals as goal

pub resolved_parts-requires : goal.resolved_parts-requires
resolved_parts-requires c = record {
  source = raw_program_tree c.args.raw.now;
  read = subst (λ t. HaveRead c.in_ok-items.items t t) c.items.ensures c.in_ok-items.ensures;
  within = c.args.raw.now.within;
}

pub make_program-requires : goal.make_program-requires
make_program-requires c = c.in_ok-parts.ensures.scoped

pub returns-clause-resolved : goal.returns-clause-resolved
returns-clause-resolved c =
    let is = raw_program_tree c.args.raw.now in
    made_as (IsResolved is) c.make_program.result _ (c.in_ok-parts.ensures.resolved is (subst (λ t. HaveRead c.in_ok-items.items t t) c.items.ensures c.in_ok-items.ensures)) c.make_program.ensures.tree

pub returns-clause-refused : goal.returns-clause-refused
returns-clause-refused c = memory_refused (raw_program_tree c.args.raw.now) c.make_program.result c.make_program.ensures.memory

pub returns-in_err-parts-clause-refused : goal.returns-in_err-parts-clause-refused
returns-in_err-parts-clause-refused c =
    let p = err_from_is_err_and c.from_residual-in_err-parts.result c.from_residual-in_err-parts.ensures.1 in
    rw (p.1, p.2) (c.in_err-parts.ensures.refused (raw_program_tree c.args.raw.now) (subst (λ t. HaveRead c.in_ok-items.items t t) c.items.ensures c.in_ok-items.ensures))

pub returns-in_err-items-clause-refused : goal.returns-in_err-items-clause-refused
returns-in_err-items-clause-refused c =
    let p = err_from_is_err_and c.from_residual.result c.from_residual.ensures.1 in
    rw (p.1, p.2) tt
