use Rattle.std.proofs.Common.{◌≡◌, ◌-◌, ◌∷◌, ℕ, List, take, ap, sym, ◌∙◌, arith, length-set}
use Rattle.source_runs.proofs.Keys.{key-all, key-full, key-more, sites-are, sites_of}
use Rattle.source_runs.proofs.frames.Thread.key.Goals as goal
use Rattle.source_runs.proofs.frames.Thread.key.Goals.{then-loop-left-test+else-count-lt-MOST, else-loop-left-test}

pub loop-left-preserved : goal.loop-left-preserved
loop-left-preserved c =
    let l = c.loop-left in
    let w = c.index.result.now in
    record {
      some = omega arith;
      most = omega (arith, c.if-count-lt-MOST.true);
      all = omega (arith, l.invariant.all, c.loop-left-test.true);
      places = length-set l.sites l.count w.site ∙ l.invariant.places;
      so_far = key-more c.args.self.now.site c.args.self.now.below.items l.sites l.count (l.left - 1) w l.invariant.some (omega (arith, l.invariant.places, c.if-count-lt-MOST.true)) (omega (arith, l.invariant.all, c.loop-left-test.true)) c.index.ensures l.invariant.so_far;
    }

pub returns : goal.returns
returns c = λ tree.
    let l = c.loop-left in
    let site = c.args.self.now.site in
    let below = c.args.self.now.below.items in
    let all : take (l.count - 1) (sites_of below) ≡ take 7 (sites_of below) =
    elim c.loop-left-test.branch [
      | then-loop-left-test+else-count-lt-MOST w ↦ key-full below l.count (omega (arith, l.invariant.most, w.if-count-lt-MOST.false))
      | else-loop-left-test w ↦ key-all below l.count l.left l.invariant.some l.invariant.most l.invariant.all (omega (arith, w.loop-left-test.false))
    ] in
    c.new.ensures ∙ (l.invariant.so_far ∙ ap (λ (xs : List ℕ). site ∷ xs) (all ∙ ap (take 7) (sym (sites-are tree below))))
