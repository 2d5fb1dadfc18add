use Rattle.run_course.proofs.Common.{◌≡◌, ◌≤◌, ◌<◌, ◌+◌, ◌∙◌, ℕ, ℤ, List, FitsSigned, get_or, rules, arith, sym, subst, w128, to_z-of_z}
use Rattle.run_course.proofs.Edged.{IsShown, shown_skip, shown_more, shown_end, cap_is}
use Rattle.run_course.proofs.edges.shown.Goals as goal
use Rattle.run_course.proofs.edges.shown.Goals.{then-cap-ne0, else-cap-ne0}

pub loop-resource-preserved : goal.loop-resource-preserved
loop-resource-preserved c =
    let is = c.loop-resource.invariant in
    let below : c.loop-resource.resource < 8 = c.loop-resource-test.true in
    let some : 1 ≤ c.loop-resource.resource = (let a = is.some in let b = is.within in omega (arith, a, b)) in
    let cap : c.cap.result ≡ get_or c.args.world.now.setting.caps c.loop-resource.resource 0 = c.cap.ensures ∙ cap_is c.args.world.now c.loop-resource.resource some in
    elim c.if-cap-ne0.branch [
      | then-cap-ne0 w ↦
          let fits : FitsSigned w128 w.average_at.result = search rules in
          subst (λ (n : ℕ). IsShown c.args.world.now.setting.caps c.args.change.now c.if-cap-ne0.places n (c.loop-resource.resource + 1)) (sym w.used-is)
          (subst (λ (l : List ℤ). IsShown c.args.world.now.setting.caps c.args.change.now l (c.loop-resource.used + 1) (c.loop-resource.resource + 1)) (sym w.places-is)
          (shown_more c.args.world.now.setting.caps c.args.change.now c.loop-resource.places c.loop-resource.used c.loop-resource.resource _ below (λ e. w.if-cap-ne0.true (cap ∙ e))
          (to_z-of_z w128 w.average_at.result fits ∙ w.average_at.ensures) is))
      | else-cap-ne0 w ↦
          subst (λ (l : List ℤ). IsShown c.args.world.now.setting.caps c.args.change.now l c.if-cap-ne0.used (c.loop-resource.resource + 1)) (sym w.places-is)
          (subst (λ (n : ℕ). IsShown c.args.world.now.setting.caps c.args.change.now c.loop-resource.places n (c.loop-resource.resource + 1)) (sym w.used-is)
          (shown_skip c.args.world.now.setting.caps c.args.change.now c.loop-resource.places c.loop-resource.used c.loop-resource.resource below (sym cap ∙ w.if-cap-ne0.false) is))
    ]

pub returns : goal.returns
returns c = c.new.ensures ∙ shown_end c.args.world.now.setting.caps c.args.change.now c.loop-resource.places c.loop-resource.used c.loop-resource.resource (let past = c.loop-resource-test.false in past) c.loop-resource.invariant
