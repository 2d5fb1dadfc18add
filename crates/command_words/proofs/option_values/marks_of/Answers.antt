use Rattle.command_words.proofs.Common.{first_value, found_of}
use Rattle.command_words.proofs.Chosen.{if_none, no_low}
use Rattle.command_words.proofs.option_values.marks_of.Goals as goal

pub returns-in_err-caps-clause-none : goal.returns-in_err-caps-clause-none
returns-in_err-caps-clause-none c = if_none c.from_residual.result (λ marks is. c.in_err-caps.ensures.none marks.caps (rw c.text_of.ensures is.caps))

pub returns-in_err-high-clause-none : goal.returns-in_err-high-clause-none
returns-in_err-high-clause-none c = if_none c.from_residual-in_err-high.result (λ marks is. c.in_err-high.ensures.none marks.high is.high)

pub returns-in_err-low-clause-none : goal.returns-in_err-low-clause-none
returns-in_err-low-clause-none c =
    if_none c.from_residual-in_err-low.result
    (no_low (λ name. first_value (found_of c.args.matches.now) name) c.in_ok-high.high c.in_ok-high.ensures.found
    (rw c.row.ensures.default at c.in_err-low.ensures.none))

pub returns-in_err-knee-clause-none : goal.returns-in_err-knee-clause-none
returns-in_err-knee-clause-none c = if_none c.from_residual-in_err-knee.result (λ marks is. c.in_err-knee.ensures.none marks.knee is.knee)

pub returns-clause-found : goal.returns-clause-found
returns-clause-found c = record {
  caps = rw c.text_of.ensures at c.in_ok-caps.ensures.found;
  high = c.in_ok-high.ensures.found;
  low = rw c.row.ensures.default at c.in_ok-low.ensures.found;
  knee = c.in_ok-knee.ensures.found;
}
