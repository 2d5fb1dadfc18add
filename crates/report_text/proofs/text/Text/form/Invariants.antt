use denote.Shadow.{shadow}
use denote.Text.{Utf8}
use Rattle.std.proofs.Common.{drop}
use Rattle.report_text.specs.Written.{filled}
use Rattle.report_text.proofs.Filled.{LeadsTo}
use Rattle.report_text.proofs.text.Text.form.Given as goal

abbrev pub invariant-loop-number : goal.invariant-loop-number
invariant-loop-number l = shadow (Utf8 l.rest) × LeadsTo (filled l.initial.rest l.numbers) (filled l.rest (drop l.number-index l.numbers)) l.initial.self l.self
