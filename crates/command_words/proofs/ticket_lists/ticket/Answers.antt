use Rattle.std.proofs.Common.{arith}
use Rattle.command_words.proofs.Chosen.{if_none}
use Rattle.command_words.proofs.TicketsSoFar.{no_thread, no_count, no_end, no_tickets, ticket_read}
use Rattle.command_words.proofs.ticket_lists.ticket.Goals as goal

pub returns-in_err-thread-clause-none : goal.returns-in_err-thread-clause-none
returns-in_err-thread-clause-none c = if_none c.from_residual.result (no_thread c.args.field.now _ c.new-parts.ensures c.in_err-thread.ensures.none)

pub returns-in_err-count-clause-none : goal.returns-in_err-count-clause-none
returns-in_err-count-clause-none c =
    if_none c.from_residual-in_err-count.result
    (no_count c.args.field.now _ _ _ c.new-parts.ensures c.in_ok-thread.ensures.found.0 (rw c.row-row.ensures.most at c.in_err-count.ensures.none))

pub returns-in_err-end-clause-none : goal.returns-in_err-end-clause-none
returns-in_err-end-clause-none c =
    if_none c.from_residual-in_err-end.result
    (no_end c.args.field.now _ _ _ _ _ c.new-parts.ensures c.in_ok-thread.ensures.found.0 c.in_ok-count.ensures.found.0 c.in_err-end.ensures.none)

pub returns-then-count-row-clause-none : goal.returns-then-count-row-clause-none
returns-then-count-row-clause-none c =
    no_tickets c.args.field.now _ _ _ _ _ c.new-parts.ensures c.in_ok-thread.ensures.found.0 c.in_ok-count.ensures.found.0
    (omega (arith, c.row-row.ensures.least))

pub returns-clause-found : goal.returns-clause-found
returns-clause-found c =
    let thread = c.in_ok-thread.ensures.found in
    let count = c.in_ok-count.ensures.found in (
      ticket_read c.args.field.now _ _ _ _ _ c.new-parts.ensures thread.0 count.0 c.in_ok-end.ensures.found,
      thread.1,
      omega
          (arith, c.row-row.ensures.least),
      rw c.row-row.ensures.most at count.1,
    )
