-- What is given is in the ranges that a world and a monitor ask.
use Rattle.std.proofs.Common.{ℕ, zero, suc, ◌≤◌, [], ◌∷◌, slice_index, subst, sym, arith}
use Rattle.accepted_pairs.specs.Acceptance.{Acceptance}
use Rattle.thread_core.specs.Making.{IsPolicy, IsStart}
use Rattle.thread_core.specs.Worlds.{Held}
use Rattle.command_rows.specs.Given.{policy_of, IsGiven, IsMade}

-- at most two of eight numbers aren't 0
pub two_small : (first second most : ℕ) → first ≤ most → second ≤ most → (r : ℕ) → slice_index (first ∷ second ∷ 0 ∷ 0 ∷ 0 ∷ 0 ∷ 0 ∷ 0 ∷ []) r ≤ most
two_small first second most p q zero = p
two_small first second most p q (suc zero) = q
two_small first second most p q (suc (suc zero)) = omega arith
two_small first second most p q (suc (suc (suc zero))) = omega arith
two_small first second most p q (suc (suc (suc (suc zero)))) = omega arith
two_small first second most p q (suc (suc (suc (suc (suc zero))))) = omega arith
two_small first second most p q (suc (suc (suc (suc (suc (suc zero)))))) = omega arith
two_small first second most p q (suc (suc (suc (suc (suc (suc (suc zero))))))) = omega arith
two_small first second most p q (suc (suc (suc (suc (suc (suc (suc (suc r)))))))) = omega arith

module _ (chunks fuel backlog units : ℕ) (accepted : Acceptance) (given : IsGiven accepted.certificate.chunk chunks fuel backlog units) where
  pub policy_is : IsPolicy accepted (policy_of chunks backlog units) fuel
  policy_is = record {
    some_chunks = given.some_chunks;
    chunks = given.chunks_most;
    extra = omega arith;
    extra_least = omega arith;
    extra_most = omega arith;
    extra_whole = omega arith;
    some_backlog = given.some_backlog;
    backlog = given.backlog_most;
    caps = λ r some below. two_small 0 units 1000000 (omega arith) given.units_most r;
    most = given.fuel_most;
    pool = omega (arith, given.pool);
  }

  pub made_is : (held : Held) → IsStart accepted (policy_of chunks backlog units) fuel held → IsMade chunks fuel backlog units held
  made_is held start = record {
    ranges = subst (λ (a : Acceptance). IsPolicy a (policy_of chunks backlog units) fuel) (sym start.accepted_is) policy_is;
    made = subst (λ (a : Acceptance). IsStart a (policy_of chunks backlog units) fuel held) (sym start.accepted_is) start;
  }
