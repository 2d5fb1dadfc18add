use Rattle.std.proofs.Common.{◌∙◌, sym, refl, arith}
use Rattle.command_words.proofs.TicketsSoFar.{none_so_far, count_few, one_more, no_ticket, no_room, all_read, ticket_parts}
use Rattle.command_words.proofs.ticket_lists.tickets_in.Goals as goal

pub returns-in_default-ticket-clause-none : goal.returns-in_default-ticket-clause-none
returns-in_default-ticket-clause-none c =
    no_ticket c.args.text.now c.in-Some.field.now _ _ _ _ c.loop-field.invariant c.in-Some.ensures
    (λ thread count above small some few is. c.in_default-ticket.ensures.none thread count small some few is)

pub returns-then-thread-least-clause-none : goal.returns-then-thread-least-clause-none
returns-then-thread-least-clause-none c =
    let found = c.in-Some-ticket.ensures.found in
    no_ticket c.args.text.now c.in-Some.field.now _ _ _ _ c.loop-field.invariant c.in-Some.ensures
    (λ thread count above small some few is.
    let one = ticket_parts c.in-Some-ticket.thread c.in-Some-ticket.count thread count (sym found.0 ∙ is) in
    absurd (omega (arith, one.0)))

pub returns-then-tickets-eq64-clause-none : goal.returns-then-tickets-eq64-clause-none
returns-then-tickets-eq64-clause-none c =
    no_room c.args.text.now c.in-Some.field.now _ _ _ _ c.loop-field.invariant c.in-Some.ensures (omega arith)

pub loop-field-preserved : goal.loop-field-preserved
loop-field-preserved c =
    let found = c.in-Some-ticket.ensures.found in
    let few = count_few _ _ _ _ c.loop-field.invariant in
    one_more c.args.text.now c.in-Some.field.now _ _ _ c.in-Some-ticket.thread c.in-Some-ticket.count _ _ c.loop-field.invariant c.in-Some.ensures
    found.0 (omega arith) found.1 found.2 found.3 (omega arith) refl

pub returns-clause-found : goal.returns-clause-found
returns-clause-found c = all_read c.args.text.now _ _ _ c.loop-field.invariant c.in_default.ensures.0

pub loop-field-init : goal.loop-field-init
loop-field-init c = none_so_far c.args.text.now _ _ c.new-fields.ensures refl
