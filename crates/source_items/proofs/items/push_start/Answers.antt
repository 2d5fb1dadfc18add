use Rattle.source_items.proofs.Common.{◌≡◌, map, suc, ◌-◌, ◌<◌, List, ◌∷◌, length, sym, ap, ◌∙◌, arith, slice_index_or, length-map, SimpleTree, DeclareScalar, simple_tree, stmt_tree, to_do, start_of}
use Rattle.c_mean.specs.ToDo as todo
use Rattle.source_items.proofs.Stacks.{start-cut}
use Rattle.source_items.proofs.items.push_start.Goals as goal

pub loop-left-preserved : goal.loop-left-preserved
loop-left-preserved c =
    let k = c.loop-left.left - 1 in
    let init = c.args.init.now in
    let old = to_do c.args.items.now.items in
    let one : c.loop-left.left ≡ suc k = omega (arith, c.loop-left-test.true) in
    let there : k < length init = omega (arith, c.loop-left-test.true, c.loop-left.invariant.within) in
    let has : k < length (start_of (stmt_tree c.args.stmt.now)) = rw c.requires (omega (arith, there, length-map init simple_tree)) in
    record {
      within = omega (arith, there);
      next = c.in_ok-push.ensures.next
          ∙ (ap (λ (l : List SimpleTree). todo.Simply (slice_index_or l k (DeclareScalar 0)) ∷ to_do c.loop-left.items.items) c.requires
          ∙ (ap (λ (xs : List todo.Item). todo.Simply (slice_index_or (map simple_tree init) k (DeclareScalar 0)) ∷ xs) c.loop-left.invariant.next
          ∙ sym (start-cut init k c.loop-left.left old one there)));
      fits = λ context all scoped. c.in_ok-push.ensures.fits context (c.loop-left.invariant.fits context all scoped) has scoped;
    }
