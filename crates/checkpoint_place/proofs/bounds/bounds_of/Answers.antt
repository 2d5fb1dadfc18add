use Rattle.checkpoint_place.proofs.Common.{◌≡◌, ◌<◌, length, take, reverse, get_or, slice_index, ap, ◌∙◌, arith, take_all, function_count, has, all-at, has-reverse, next-calls, AreKnownAmong}
use Rattle.checkpoint_place.proofs.KnownLemmas.{IsKnown-agree, AreKnownAmong-more}
use Rattle.checkpoint_place.proofs.BoundLemmas.{bound_by, bounds-kept, AreBound-more}
use Rattle.checkpoint_place.proofs.bounds.bounds_of.Goals as goal

pub loop-function-preserved : goal.loop-function-preserved
loop-function-preserved c =
    let graph = c.args.graph.now in
    let back = c.args.index.now.without.now in
    let order = c.args.order.now in
    let i = c.loop-function.function-index in
    let bounds = c.loop-function.bounds.items in
    let f = get_or order i 0 in
    let within : i < length order = omega arith in
    let below : f < function_count graph = all-at (λ n. n < function_count graph) order i 0 c.requires.functions within in
    let in_bounds : f < length bounds = omega (arith, below, c.loop-function.invariant.each) in
    let value : c.bound_of.result ≡ bound_by graph back c.args.max_path (slice_index bounds) f =
    rw (c.tables-tables.ensures, c.as_slice.ensures.value, c.weights-weights.ensures.value, c.requires.sites) at c.bound_of.ensures.bound in
    let known = rw (c.tables-tables.ensures, c.as_slice.ensures.value) at c.bound_of.ensures.known in
    let done = reverse (take i order) in
    let calls = next-calls graph back order i within c.requires.bottom_up in
    let ensured = rw (c.tables-tables.ensures, c.requires.sites) at c.bound_of.ensures.among in
    let among : AreKnownAmong graph.tables done c.bound_of.new.known = ensured done c.loop-function.invariant.among calls in
    let kept = bounds-kept graph back c.args.max_path order bounds i c.bound_of.result in_bounds c.loop-function.invariant.bound value in
    record {
      known = IsKnown-agree graph.tables (slice_index bounds) _ (reverse (take i order)) c.bound_of.new.known kept among known;
      among = AreKnownAmong-more graph.tables order i c.bound_of.new.known within among;
      each = c.loop-function.invariant.each;
      bound = AreBound-more graph back c.args.max_path order bounds i c.bound_of.result within in_bounds c.requires.bottom_up c.loop-function.invariant.bound value;
    }

pub returns-clause-bounds : goal.returns-clause-bounds
returns-clause-bounds c = λ f h.
    let order = c.args.order.now in
    let all : take c.loop-function.function-index order ≡ order = take_all c.loop-function.function-index order (omega arith) in
    c.loop-function.invariant.bound f (has-reverse f (take c.loop-function.function-index order) ∙ ap (has f) all ∙ h)
