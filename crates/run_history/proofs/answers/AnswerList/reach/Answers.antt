use Rattle.report_figures.specs.Ticks.{ticks_in}
use Rattle.run_history.proofs.Common.{◌∙◌, ap, get_or, answers_of}
use Rattle.run_history.proofs.answers.AnswerList.reach.Goals as goal

pub returns-clause-same : goal.returns-clause-same
returns-clause-same c = λ other.
    let old = c.args.self.now in
    ap (λ n. answers_of n (get_or (ticks_in c.reach-2.new.self) other 0) (get_or c.reach-3.new.counts.items other 0)) (c.in_ok-reach.ensures.same other)
    ∙ (ap (λ n. answers_of (get_or (ticks_in old.firsts) other 0) n (get_or c.reach-3.new.counts.items other 0)) (c.in_ok-reach-2.ensures.same other)
    ∙ ap (λ n. answers_of (get_or (ticks_in old.firsts) other 0) (get_or (ticks_in old.lasts) other 0) n) (c.in_ok-reach-3.ensures.same other))
