use Rattle.thread_waits.proofs.Common.{◌≡◌, ℕ, ◌<◌, ◌≤◌, ◌-◌, [], false, All, sym, arith, slice_index_or, below_more, get_or_read_under, use_of, cap_of, IsTreeOf, amount_of, is_taker}
use Rattle.thread_waits.proofs.ReadyLaws.{some_taking, none_taking_one, none_taking}
use Rattle.thread_waits.proofs.waits.Waits.any_at_resource.Goals as goal

pub returns-then-least-unused : goal.returns-then-least-unused
returns-then-least-unused c =
    let r : ℕ = c.loop-resource.resource in
    let tree : c.index-tree.result.now ≡ slice_index_or c.self.inside.takers.items r [] =
    get_or_read_under c.self.inside.takers.items r 8 c.index-tree.result.now [] c.index-tree.ensures c.loop-resource-test.true (sym c.self.invariant.taker_count) in
    let is : IsTreeOf (amount_of r) c.self.inside.places.items c.index-tree.result.now = rw tree (c.self.invariant.takers r c.loop-resource-test.true) in
    let cap : c.cap.result ≡ cap_of c.args.exchange.now.caps r = c.cap.ensures in
    let within : c.used.result ≤ cap_of c.args.exchange.now.caps r = c.used.ensures.within in
    let used : c.used.result ≡ use_of c.args.exchange.now.exchange r = c.used.ensures.use_is in
    let past : c.least.result ≤ c.cap.result - c.used.result = c.if-least-unused.true in
    let fits : c.cap.result < 4294967296 = c.cap.type_inv in
    rw (← c.self.view_is) (sym (some_taking c.args.exchange.now.caps c.args.exchange.now.exchange r c.self.inside.places.items c.index-tree.result.now c.least.result is c.least.ensures
    (λ e. absurd (omega arith)) (omega arith)))

pub loop-resource-preserved : goal.loop-resource-preserved
loop-resource-preserved c =
    let r : ℕ = c.loop-resource.resource in
    let tree : c.index-tree.result.now ≡ slice_index_or c.self.inside.takers.items r [] =
    get_or_read_under c.self.inside.takers.items r 8 c.index-tree.result.now [] c.index-tree.ensures c.loop-resource-test.true (sym c.self.invariant.taker_count) in
    let is : IsTreeOf (amount_of r) c.self.inside.places.items c.index-tree.result.now = rw tree (c.self.invariant.takers r c.loop-resource-test.true) in
    let cap : c.cap.result ≡ cap_of c.args.exchange.now.caps r = c.cap.ensures in
    let within : c.used.result ≤ cap_of c.args.exchange.now.caps r = c.used.ensures.within in
    let used : c.used.result ≡ use_of c.args.exchange.now.exchange r = c.used.ensures.use_is in
    let later : c.cap.result - c.used.result < c.least.result = c.if-least-unused.false in
    let P : ℕ → Type 0 = λ k. 1 ≤ k → All (λ wait. is_taker c.args.exchange.now.caps c.args.exchange.now.exchange k wait ≡ false) c.self.inside.places.items in
    below_more P r c.loop-resource.invariant
    (λ some. none_taking_one c.args.exchange.now.caps c.args.exchange.now.exchange r c.self.inside.places.items c.index-tree.result.now c.least.result is c.least.ensures (omega arith))

pub returns : goal.returns
returns c =
    rw (← c.self.view_is) (sym (none_taking c.args.exchange.now.caps c.args.exchange.now.exchange c.self.inside.places.items c.self.invariant.in_range (λ r some most. c.loop-resource.invariant r (omega arith) some)))
