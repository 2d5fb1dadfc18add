use Rattle.std.proofs.Common.{rules, ◌∙◌, ℕ, List, [], ◌∷◌, get_or, length, ap}
use Rattle.std.proofs.lemmas.List.{length-append}
use Rattle.report_figures.proofs.Zeros.{one_nearer, zero_more}
use Rattle.report_figures.specs.Ticks.{ticks_in}
use Rattle.report_figures.proofs.ticks.TickList.reach.Goals as goal

pub loop-self-preserved : goal.loop-self-preserved
loop-self-preserved c =
    let longer = ap (λ (l : List ℕ). length l) c.in_ok-push.ensures ∙ length-append (ticks_in c.loop-self.self) (0 ∷ []) in
    let nearer = one_nearer (length (ticks_in c.loop-self.self)) (length (ticks_in c.push.new.self)) c.args.place longer (search rules) in (
      (λ other. ap (λ (l : List ℕ). get_or l other 0) c.in_ok-push.ensures ∙ (zero_more (ticks_in c.loop-self.self) other ∙ c.loop-self.invariant.0 other)),
      nearer ∙ c.loop-self.invariant.1,
    )
