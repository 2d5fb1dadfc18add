use Rattle.chunk_budget.proofs.Common.{ℕ, ◌≤◌, length, map, refl, subst, sym, length-map, FlatCode}
use Rattle.c_lower.specs.ProgramCode.{lowered_function}
use Rattle.accepted_pairs.specs.Accepting.{accepted_tree}
use Rattle.chunk_budget.proofs.checking.check_budget.Goals as goal

pub check_code-requires-clause-few : goal.check_code-requires-clause-few
check_code-requires-clause-few c =
    let program = accepted_tree c.args.accepted.now in
    let few : length (map lowered_function program.functions) ≤ 4096
    = subst (λ (n : ℕ). n ≤ 4096) (sym (length-map program.functions lowered_function)) c.args.accepted.now.program.well_scoped.functions in
    subst (λ (code : FlatCode). length code.functions ≤ 4096) (sym c.flat.ensures) few

pub check_code-requires-clause-rising : goal.check_code-requires-clause-rising
check_code-requires-clause-rising c = rw c.certificate.ensures ((((c.is_valid.ensures.holds 1 0 5).v1 refl).sites refl).rising)

pub returns : goal.returns
returns c = record {
  budget = rw (c.flat.ensures, c.certificate.ensures) at c.check_code.ensures.budget;
  refused = rw (c.flat.ensures, c.certificate.ensures) at c.check_code.ensures.refused;
}
