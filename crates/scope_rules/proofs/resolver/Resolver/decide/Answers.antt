use Rattle.std.proofs.lemmas.Result.{err_from_is_err_and}
use Rattle.scope_rules.proofs.Common.{sym, subst, IsWellScoped, IsResolvedBy}
use Rattle.scope_rules.proofs.Made.{made_as, memory_refused, numbered_scoped, numbered_resolved}
use Rattle.scope_rules.proofs.resolver.Resolver.decide.Goals as goal

pub resolved_parts-requires : goal.resolved_parts-requires
resolved_parts-requires c = record { source = c.requires.source; read = c.requires.read; within = c.requires.within }

pub make_program-requires : goal.make_program-requires
make_program-requires c =
    let is = c.requires.source in
    subst IsWellScoped (sym c.numbered.ensures)
    (numbered_scoped c.args.numbers.now is _ (c.in_ok-parts.ensures.resolved is c.requires.read) c.in_ok-parts.ensures.scoped c.requires.distinct c.requires.each)

pub returns-clause-resolved : goal.returns-clause-resolved
returns-clause-resolved c = λ is h.
    made_as (IsResolvedBy c.args.numbers.now is) c.make_program.result _
    (subst (IsResolvedBy c.args.numbers.now is) (sym c.numbered.ensures) (numbered_resolved c.args.numbers.now is _ (c.in_ok-parts.ensures.resolved is h))) c.make_program.ensures.tree

pub returns-clause-refused : goal.returns-clause-refused
returns-clause-refused c = λ is h. memory_refused is c.make_program.result c.make_program.ensures.memory

pub returns-in_err-parts-clause-refused : goal.returns-in_err-parts-clause-refused
returns-in_err-parts-clause-refused c = λ is h.
    let p = err_from_is_err_and c.from_residual.result c.from_residual.ensures.1 in
    rw (p.1, p.2) (c.in_err-parts.ensures.refused is h)
