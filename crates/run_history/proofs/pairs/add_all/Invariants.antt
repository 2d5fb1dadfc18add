use Rattle.run_history.proofs.Common.{◌≡◌, ℕ, take, answers_at, answers_from, clocks_of}
use Rattle.run_history.proofs.pairs.add_all.Given as goal

abbrev pub invariant-loop-request : goal.invariant-loop-request
invariant-loop-request l =
    (request : ℕ) → answers_at l.answers request ≡ answers_from (answers_at l.initial.answers request) (clocks_of request l.at (take l.request-index l.requests))
