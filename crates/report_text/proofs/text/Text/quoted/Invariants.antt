use Rattle.report_text.specs.Written.{Extends}
use Rattle.report_text.proofs.text.Text.quoted.Given as goal

abbrev pub invariant-loop-character : goal.invariant-loop-character
invariant-loop-character l = Extends l.initial.self l.self
