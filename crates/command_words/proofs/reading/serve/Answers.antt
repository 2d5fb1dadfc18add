use Rattle.command_words.proofs.Common.{codes, first_value, found_of}
use Rattle.command_words.proofs.Chosen.{if_none, no_pool, no_serve}
use Rattle.command_words.proofs.reading.serve.Goals as goal

pub returns-in_err-source-clause-none : goal.returns-in_err-source-clause-none
returns-in_err-source-clause-none c =
    if_none c.from_residual.result
    (no_serve (λ name. first_value (found_of c.args.matches.now) name) c.requires
    (λ source p q asked. c.in_err-source.ensures.none (codes "serve") source asked.0))

pub returns-in_err-placement-clause-none : goal.returns-in_err-placement-clause-none
returns-in_err-placement-clause-none c =
    if_none c.from_residual-in_err-placement.result
    (no_serve (λ name. first_value (found_of c.args.matches.now) name) c.requires (λ source p q asked. c.in_err-placement.ensures.none p asked.1))

pub returns-in_err-policy-clause-none : goal.returns-in_err-policy-clause-none
returns-in_err-policy-clause-none c =
    if_none c.from_residual-in_err-policy.result
    (no_serve (λ name. first_value (found_of c.args.matches.now) name) c.requires (λ source p q asked. c.in_err-policy.ensures.none q asked.2))

pub returns-then-from-extra_bytes-gt-MOST_BYTES-clause-none : goal.returns-then-from-extra_bytes-gt-MOST_BYTES-clause-none
returns-then-from-extra_bytes-gt-MOST_BYTES-clause-none c =
    no_serve (λ name. first_value (found_of c.args.matches.now) name) c.requires
    (no_pool (λ name. first_value (found_of c.args.matches.now) name) c.in_ok-placement.placement c.in_ok-policy.policy
    c.in_ok-placement.ensures.found c.in_ok-policy.ensures.found
    (rw (c.from.ensures, c.from-2.ensures, c.from-3.ensures, c.from-4.ensures) at c.if-from-extra_bytes-gt-MOST_BYTES.true))
