use Rattle.schedule_reading.proofs.Common.{Bool, ap, subst, sym, TellsStop, Kept, IsEnd}
use Rattle.schedule_reading.proofs.Ended.{edge_counts, edge_not, edge_ruled, edges_by, of_by, steps_by}
use Rattle.schedule_reading.proofs.Unstopped.{stands_by}
use Rattle.schedule_reading.proofs.reading.Reading.edge.Goals as goal

pub returns-then-not-branch-clause-rules : goal.returns-then-not-branch-clause-rules
returns-then-not-branch-clause-rules g c = λ given state stands.
    let old = c.args.self.now in
    let told = g.S.Source.left c.args.trace.now in
    let told' = g.S.Source.left c.may_stop.new.trace in
    let mid = c.may_stop.new.self in
    let by = stands_by given state old stands c.requires.going in
    edge_not given state old told c.args.shown.now (steps_by given state old.core old.under by.0) mid told'
    (subst (λ (b : Bool). TellsStop given state old told mid told' b) c.if-not-branch.true (c.in_ok-may_stop.ensures.may given state stands))

pub returns-clause-rules : goal.returns-clause-rules
returns-clause-rules g c = λ given state stands.
    let old = c.args.self.now in
    let told = g.S.Source.left c.args.trace.now in
    let told' = g.S.Source.left c.may_stop.new.trace in
    let mid = c.may_stop.new.self in
    let by = stands_by given state old stands c.requires.going in
    let may = subst (λ (b : Bool). TellsStop given state old told mid told' b) c.if-not-branch.false (c.in_ok-may_stop.ensures.may given state stands) in
    let is : IsEnd given state mid.end = subst (IsEnd given state) (sym (ap (λ (x : Kept). x.end) c.may_stop.ensures.rest)) stands.end_is in
    edge_ruled given state old told c.args.shown.now (steps_by given state old.core old.under by.0) mid told' may c.next_edge.new.self c.next_edge.ensures.rest c.next_edge.result
    (c.next_edge.ensures.rules given state is (edges_by given state mid.core mid.under may.stands) (of_by given state mid.core mid.under may.stands).caps)

pub returns-clause-counts : goal.returns-clause-counts
returns-clause-counts g c =
    let w = c.requires.stands in
    let old = c.args.self.now in
    let told = g.S.Source.left c.args.trace.now in
    let told' = g.S.Source.left c.may_stop.new.trace in
    let mid = c.may_stop.new.self in
    let may = subst (λ (b : Bool). TellsStop w.0 w.1 old told mid told' b) c.if-not-branch.false (c.in_ok-may_stop.ensures.may w.0 w.1 w.2) in
    let is : IsEnd w.0 w.1 mid.end = subst (IsEnd w.0 w.1) (sym (ap (λ (x : Kept). x.end) c.may_stop.ensures.rest)) w.2.end_is in
    edge_counts w.0 w.1 mid c.args.shown.now c.next_edge.new.self c.next_edge.result (g.S.Source.faults c.args.trace.now) (g.S.Source.faults c.may_stop.new.trace)
    (c.next_edge.ensures.rules w.0 w.1 is (edges_by w.0 w.1 mid.core mid.under may.stands) (of_by w.0 w.1 mid.core mid.under may.stands).caps)
    c.in_ok-may_stop.ensures.counts
