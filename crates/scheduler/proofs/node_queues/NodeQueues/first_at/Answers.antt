use Rattle.scheduler.proofs.Common.{◌≡◌, Some, Option, List, sym, subst, rules, get, nat_cmp, Entry, entries_of, AreExact, places_of, IsFoundIf}
use Rattle.scheduler.proofs.node_queues.NodeQueues.first_at.Goals as goal

pub returns-clause-found : goal.returns-clause-found
returns-clause-found c = λ test exact.
    let there : get nat_cmp c.args.self.now.queues c.args.node ≡ Some c.in_ok-get.field-0.now = search rules in
    subst (λ (o : Option (List (Option Entry))). IsFoundIf test (places_of o) c.first_met.result) (sym there)
    (c.first_met.ensures test (subst (λ (o : Option (List (Option Entry))). AreExact c.args.bounds.now test (entries_of (places_of o))) there exact))
