use Rattle.capriccio_commands.proofs.Common.{◌≤◌, ℕ, List, Some, Ok, Err, subst, sym, RunEnds, err_from_is_err_and, accepted_tree, demo_policy, IsFitText, TakesFit, RunsOn, pool_bytes, setup_of, IsEnd}
use Rattle.command_words.specs.declared.options.Policy.{Policy}
use Rattle.capriccio_commands.proofs.FitCounting.{clean-fits}
use Rattle.capriccio_commands.proofs.Shown.{no-stop, served, served-world, shows-due}
use Rattle.capriccio_commands.proofs.Workloads.{demo-run-policy, demo-pool}
use Rattle.capriccio_commands.proofs.demo_command.show_run.Goals as goal

pub run_accepted-requires-clause-range : goal.run_accepted-requires-clause-range
run_accepted-requires-clause-range c = rw c.workload_policy.ensures demo-run-policy

pub run_accepted-requires-clause-pool : goal.run_accepted-requires-clause-pool
run_accepted-requires-clause-pool c =
    subst (λ (p : Policy). pool_bytes p c.args.accepted.certificate ≤ 67108864) (sym c.workload_policy.ensures) (demo-pool c.args.accepted.certificate.chunk c.requires)

pub show-requires-clause-world : goal.show-requires-clause-world
show-requires-clause-world c =
    let a = c.args.accepted in
    let g = setup_of (accepted_tree a) a.image a.certificate demo_policy in
    let R : Policy → List ℕ → List ℕ → Type 0 = λ p t l. RunEnds IsEnd (RunsOn (Some t) (setup_of (accepted_tree a) a.image a.certificate p)) (Some t) (Some c.run_accepted.new.trace) 0 0 (Some l) (Some c.run_accepted.new.out) 0 0 (Ok c.in_ok-ended.ended) in
    let one = subst (λ p. R p c.new-source.result c.new-log.result) c.workload_policy.ensures c.in_ok-ended.ensures.ends in
    let two = subst (λ t. R demo_policy t c.new-log.result) c.new-source.ensures one in
    let ran = subst (λ l. R demo_policy c.args.trace.items l) c.new-log.ensures two in
    served-world (Some c.args.trace.items) g _ c.in_ok-ended.ended (served c.args.trace.items _ g _ c.in_ok-ended.ended ran)

pub show-requires-clause-fits : goal.show-requires-clause-fits
show-requires-clause-fits c =
    let grew = subst (λ (l : List ℕ). TakesFit (Some l) (Some c.run_accepted.new.out)) c.new-log.ensures c.in_ok-ended.ensures.fits in
    subst IsFitText (sym c.bytes.ensures) (clean-fits c.run_accepted.new.out grew)

pub returns-in_err-ended : goal.returns-in_err-ended
returns-in_err-ended c =
    let p = err_from_is_err_and c.from_residual.result c.from_residual.ensures.1 in
    let a = c.args.accepted in
    let g = setup_of (accepted_tree a) a.image a.certificate demo_policy in
    let R : Policy → List ℕ → List ℕ → Type 0 = λ p t l. RunEnds IsEnd (RunsOn (Some t) (setup_of (accepted_tree a) a.image a.certificate p)) (Some t) (Some c.run_accepted.new.trace) 0 0 (Some l) (Some c.run_accepted.new.out) 0 0 (Err c.in_err-ended.field-0.0) in
    let one = subst (λ p. R p c.new-source.result c.new-log.result) c.workload_policy.ensures c.in_err-ended.ensures.ends in
    let two = subst (λ t. R demo_policy t c.new-log.result) c.new-source.ensures one in
    let ran = subst (λ l. R demo_policy c.args.trace.items l) c.new-log.ensures two in
    rw (p.1, p.2) (no-stop c.args.trace.items c.args.trace.items _ g _ c.in_err-ended.field-0.0 ran)

pub returns : goal.returns
returns c =
    let a = c.args.accepted in
    let g = setup_of (accepted_tree a) a.image a.certificate demo_policy in
    let R : Policy → List ℕ → List ℕ → Type 0 = λ p t l. RunEnds IsEnd (RunsOn (Some t) (setup_of (accepted_tree a) a.image a.certificate p)) (Some t) (Some c.run_accepted.new.trace) 0 0 (Some l) (Some c.run_accepted.new.out) 0 0 (Ok c.in_ok-ended.ended) in
    let one = subst (λ p. R p c.new-source.result c.new-log.result) c.workload_policy.ensures c.in_ok-ended.ensures.ends in
    let two = subst (λ t. R demo_policy t c.new-log.result) c.new-source.ensures one in
    let ran = subst (λ l. R demo_policy c.args.trace.items l) c.new-log.ensures two in
    let done = served c.args.trace.items _ g _ c.in_ok-ended.ended ran in
    let shown = rw (c.bytes.ensures, c.take_census-census.ensures) at c.show.ensures in
    shows-due c.args.trace.items (Some c.args.trace.items) g _ c.in_ok-ended.ended _ c.show.result done shown
