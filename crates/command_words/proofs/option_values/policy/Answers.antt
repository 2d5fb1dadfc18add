use Rattle.command_words.proofs.Common.{first_value, found_of}
use Rattle.command_words.proofs.Chosen.{if_none, marks_of_policy, room_of_policy}
use Rattle.command_words.proofs.option_values.policy.Goals as goal

pub returns-in_err-chunks-clause-none : goal.returns-in_err-chunks-clause-none
returns-in_err-chunks-clause-none c =
    if_none c.from_residual.result (λ policy is. c.in_err-chunks.ensures.none _
    (room_of_policy (λ name. first_value (found_of c.args.matches.now) name) policy is))

pub returns-in_err-caps-clause-none : goal.returns-in_err-caps-clause-none
returns-in_err-caps-clause-none c =
    if_none c.from_residual-in_err-caps.result
    (λ policy is. c.in_err-caps.ensures.none _ (marks_of_policy (λ name. first_value (found_of c.args.matches.now) name) policy is))

pub returns-in_err-extra_bytes-clause-none : goal.returns-in_err-extra_bytes-clause-none
returns-in_err-extra_bytes-clause-none c =
    if_none c.from_residual-in_err-extra_bytes.result (λ policy is. c.in_err-extra_bytes.ensures.none policy.extra_bytes is.extra_bytes is.extra_whole)

pub returns-in_err-rule-clause-none : goal.returns-in_err-rule-clause-none
returns-in_err-rule-clause-none c =
    if_none c.from_residual-in_err-rule.result (λ policy is. c.in_err-rule.ensures.none policy.rule (rw (c.text_of.ensures, c.text_of-2.ensures) is.rule))

pub returns-clause-found : goal.returns-clause-found
returns-clause-found c = record {
  chunks = c.in_ok-chunks.ensures.found.chunks;
  extra = c.in_ok-chunks.ensures.found.extra;
  extra_bytes = c.in_ok-extra_bytes.ensures.found.0;
  extra_whole = c.in_ok-extra_bytes.ensures.found.1;
  fuel = c.in_ok-chunks.ensures.found.fuel;
  backlog = c.in_ok-chunks.ensures.found.backlog;
  caps = c.in_ok-caps.ensures.found.caps;
  high = c.in_ok-caps.ensures.found.high;
  low = c.in_ok-caps.ensures.found.low;
  rule = rw (c.text_of.ensures, c.text_of-2.ensures) at c.in_ok-rule.ensures.found;
  knee = c.in_ok-caps.ensures.found.knee;
}
