use Rattle.std.proofs.Common.{◌∙◌, sym}
use Rattle.scheduler.proofs.QueueLemmas.{found_first, found_none, no_empty}
use Rattle.scheduler.proofs.finding.found_at.Goals as goal

pub returns-in_default : goal.returns-in_default
returns-in_default c = λ test first. found_none test c.args.queue.now (sym first ∙ c.in_default.is)

pub returns : goal.returns
returns c = λ test first. record {
  thread = found_first test c.args.queue.now c.in-Some.there c.in-Some-at.entry (sym first ∙ c.in-Some.is) (sym c.at.ensures ∙ c.in-Some-at.is);
  place = sym first ∙ c.in-Some.is;
}

pub returns-in_default-at : goal.returns-in_default-at
returns-in_default-at c = λ test first. absurd (no_empty test c.args.queue.now c.in-Some.there (sym first ∙ c.in-Some.is) (sym c.at.ensures ∙ c.in_default-at.is))
