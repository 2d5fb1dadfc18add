use Rattle.std.proofs.Common.{refl}
use Rattle.std.proofs.lemmas.Result.{IfErr-weaker}
use Rattle.c_lower.specs.ProgramCode.{lowered}
use Rattle.accepted_pairs.specs.Accepting.{accepted_tree}
use Rattle.chunk_budget.specs.LeastBudgets.{HasNoBudget, IsCycleRefusal}
use Rattle.chunk_budget.proofs.CycleLemmas.{none-on_cycle}
use Rattle.chunk_budget.proofs.making.make_budget.Goals as goal

pub made_of-requires : goal.made_of-requires
made_of-requires c = rw c.certificate.ensures ((((c.is_valid.ensures.holds 1 0 5).v1 refl).sites refl).rising)

pub returns-clause-acyclic : goal.returns-clause-acyclic
returns-clause-acyclic c = rw c.flat.ensures at c.made_of.ensures.acyclic

pub returns-clause-none : goal.returns-clause-none
returns-clause-none c =
    let code = lowered (accepted_tree c.args.accepted.now) in
    let certificate = c.args.accepted.now.certificate in
    let refused = rw c.flat.ensures at c.made_of.ensures.refused in
    IfErr-weaker c.made_of.result (IsCycleRefusal code) (HasNoBudget code certificate) (none-on_cycle code c.args.accepted.now.image certificate c.is_valid.ensures) refused
