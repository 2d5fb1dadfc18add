use Rattle.scheduler.proofs.Common.{◌≡◌, true, ap, sym, ◌∙◌, arith, is_eligible, passes_at, place_at}
use Rattle.ready_tree.proofs.PlaceLaws.{first_is, first_none}
use Rattle.scheduler.proofs.finding.first_asked.Goals as goal

pub returns-then-may_go_on : goal.returns-then-may_go_on
returns-then-may_go_on g c =
    let test = is_eligible (g.R.Ready.is_ready c.args.ready.now) (g.R.Ready.at_accept c.args.ready.now) (g.R.Ready.any_elsewhere c.args.ready.now) c.args.gate_open in
    let here : passes_at test (place_at c.args.queue.now c.loop-place.place) ≡ true =
    ap (passes_at test) (sym c.at.ensures ∙ c.in-Some.is) ∙ sym c.may_go_on.ensures ∙ c.if-may_go_on.true in
    first_is (passes_at test) c.args.queue.now c.loop-place.place (let e = c.places-place-end.ensures in let t = c.loop-place-test.true in omega arith) (λ k before there. c.loop-place.invariant k before) here

pub returns : goal.returns
returns g c =
    let test = is_eligible (g.R.Ready.is_ready c.args.ready.now) (g.R.Ready.at_accept c.args.ready.now) (g.R.Ready.any_elsewhere c.args.ready.now) c.args.gate_open in
    let e = c.places-place-end.ensures in
    let past = c.loop-place-test.false in
    first_none (passes_at test) c.args.queue.now (λ k there. c.loop-place.invariant k (omega arith))
