use Rattle.schedule_reading.proofs.Common.{◌≡◌, ◌<◌, ◌≤◌, true, false, length, ap, ◌∙◌, subst, sym, arith, AreLeft, Kept}
use Rattle.schedule_reading.proofs.Ended.{edge_missing, edge_over, edge_other, edge_taken}
use Rattle.schedule_reading.proofs.reading.Reading.next_edge.Goals as goal

pub returns-then-read-len-clause-rules : goal.returns-then-read-len-clause-rules
returns-then-read-len-clause-rules g c = λ given state is same caps.
    let left = subst (AreLeft given state) c.in-Edges.is (subst (λ (x : Kept). AreLeft given state x.end) (sym c.self.view_is) (c.in_ok-begin_edges.ensures.begins given state is same)) in
    let caps_are = ap (λ (x : Kept). x.core.policy.caps) c.self.view_is ∙ ap (λ (x : Kept). x.core.policy.caps) c.begin_edges.ensures.rest ∙ caps in
    let past : length c.in-Edges.edges.items ≤ c.in-Edges.read = (let over = c.if-read-len.true in let size = c.len.ensures in let ok = c.in-Edges.edges.ok.0 in omega (arith, over, size, ok)) in
    edge_missing given state c.args.shown.now c.in-Edges.edges.items c.in-Edges.read left.0 c.self.inside.policy.caps caps_are past

pub returns-then-not-is_line_of-clause-rules : goal.returns-then-not-is_line_of-clause-rules
returns-then-not-is_line_of-clause-rules g c = λ given state is same caps.
    let left = subst (AreLeft given state) c.in-Edges.is (subst (λ (x : Kept). AreLeft given state x.end) (sym c.self.view_is) (c.in_ok-begin_edges.ensures.begins given state is same)) in
    let caps_are = ap (λ (x : Kept). x.core.policy.caps) c.self.view_is ∙ ap (λ (x : Kept). x.core.policy.caps) c.begin_edges.ensures.rest ∙ caps in
    let below : c.in-Edges.read < length c.in-Edges.edges.items = (let under = c.if-read-len.false in let size = c.len.ensures in let ok = c.in-Edges.edges.ok.0 in omega (arith, under, size, ok)) in
    edge_other given state c.args.shown.now c.in-Edges.edges.items c.in-Edges.read left.0 c.self.inside.policy.caps caps_are c.index.result.now below c.index.ensures
    (λ s. let both : true ≡ false = sym (c.is_line_of.ensures.1 s) ∙ c.if-not-is_line_of.true in absurd (cc))

pub returns-in-Edges-clause-rules : goal.returns-in-Edges-clause-rules
returns-in-Edges-clause-rules g c = λ given state is same caps.
    let left = subst (AreLeft given state) c.in-Edges.is (subst (λ (x : Kept). AreLeft given state x.end) (sym c.self.view_is) (c.in_ok-begin_edges.ensures.begins given state is same)) in
    let caps_are = ap (λ (x : Kept). x.core.policy.caps) c.self.view_is ∙ ap (λ (x : Kept). x.core.policy.caps) c.begin_edges.ensures.rest ∙ caps in
    let below : c.in-Edges.read < length c.in-Edges.edges.items = (let under = c.if-read-len.false in let size = c.len.ensures in let ok = c.in-Edges.edges.ok.0 in omega (arith, under, size, ok)) in
    edge_taken given state c.args.shown.now c.in-Edges.edges.items c.in-Edges.read left.0 c.self.inside.policy.caps caps_are c.index.result.now below c.index.ensures
    (c.is_line_of.ensures.0 c.if-not-is_line_of.false)

pub returns-clause-rules : goal.returns-clause-rules
returns-clause-rules g c = λ given state is same caps.
    let left = subst (λ (x : Kept). AreLeft given state x.end) (sym c.self.view_is) (c.in_ok-begin_edges.ensures.begins given state is same) in
    edge_over given state c.args.shown.now c.self.inside.end left c.in_default.not-Edges

pub returns-clause-rest : goal.returns-clause-rest
returns-clause-rest g c = c.self.view_is ∙ c.begin_edges.ensures.rest ∙ ap (λ (x : Kept). record c.args.self.now { end = x.end }) (sym c.self.view_is)
