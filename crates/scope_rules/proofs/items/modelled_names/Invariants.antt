use Rattle.scope_rules.proofs.Common.{◌≡◌, [], drop, all_calls, with_calls}
use Rattle.scope_rules.proofs.items.modelled_names.Given as goal

abbrev pub invariant-loop-call : goal.invariant-loop-call
invariant-loop-call l = with_calls l.names (drop l.call-index l.call-items) ≡ with_calls [] all_calls
