use Rattle.command_words.proofs.Chosen.{if_none}
use Rattle.command_words.proofs.option_values.room_of.Goals as goal

pub returns-in_err-chunks-clause-none : goal.returns-in_err-chunks-clause-none
returns-in_err-chunks-clause-none c = if_none c.from_residual.result (λ room is. c.in_err-chunks.ensures.none room.chunks is.chunks)

pub returns-in_err-extra-clause-none : goal.returns-in_err-extra-clause-none
returns-in_err-extra-clause-none c = if_none c.from_residual-in_err-extra.result (λ room is. c.in_err-extra.ensures.none room.extra is.extra)

pub returns-in_err-fuel-clause-none : goal.returns-in_err-fuel-clause-none
returns-in_err-fuel-clause-none c = if_none c.from_residual-in_err-fuel.result (λ room is. c.in_err-fuel.ensures.none room.fuel is.fuel)

pub returns-in_err-backlog-clause-none : goal.returns-in_err-backlog-clause-none
returns-in_err-backlog-clause-none c = if_none c.from_residual-in_err-backlog.result (λ room is. c.in_err-backlog.ensures.none room.backlog is.backlog)

pub returns-clause-found : goal.returns-clause-found
returns-clause-found c = record {
  chunks = c.in_ok-chunks.ensures.found;
  extra = c.in_ok-extra.ensures.found;
  fuel = c.in_ok-fuel.ensures.found;
  backlog = c.in_ok-backlog.ensures.found;
}
