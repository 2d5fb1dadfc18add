use Rattle.std.proofs.Common.{length}
use Rattle.command_words.proofs.TicketsSoFar.{AreSoFar}
use Rattle.command_words.proofs.ticket_lists.tickets_in.Given as goal

abbrev pub invariant-loop-field : goal.invariant-loop-field
invariant-loop-field l = AreSoFar l.text l.fields l.least l.tickets

abbrev pub decreases-loop-field : goal.decreases-loop-field
decreases-loop-field l = length l.fields
