use Rattle.run_history.proofs.Common.{◌∙◌, ℕ, List, sym, subst, Entry, happenings}
use Rattle.run_history.proofs.Readings.{IsReading, reading-starts, reading-goes-on, reading-is, reading-log, reading-refuses, reading-stops}
use Rattle.run_history.proofs.Seen.{Reads, reads-none, reads-more}
use Rattle.run_history.proofs.reading.numbers_of.Goals as goal

pub loop-line-init : goal.loop-line-init
loop-line-init g c =
    let holds : List Entry → Type 0 = Reads g.W.Watch.has_seen c.args.answering c.args.accepts.now c.args.window c.args.chunks c.args.watch.now c.args.watch.now c.new-history.result c.new-numbers.result c.new-answerer.result in
    let start = reading-starts c.args.log.now holds
    (reads-none g.W.Watch.has_seen c.args.answering c.args.accepts.now c.args.window c.args.chunks c.args.watch.now c.new-history.result c.new-numbers.result c.new-answerer.result
    c.new-history.ensures (c.new-numbers.ensures c.args.window c.args.chunks) c.new-answerer.ensures) in
    subst (λ (left : List (List ℕ)). IsReading c.args.log.now left holds) (sym (c.into_iter-line-iterator.ensures.into_iter_gives ∙ c.new-line-items.ensures)) start

pub loop-line-preserved : goal.loop-line-preserved
loop-line-preserved g c =
    let accepts = c.args.accepts.now in
    let holds : List Entry → Type 0 = Reads g.W.Watch.has_seen c.args.answering accepts c.args.window c.args.chunks c.args.watch.now c.loop-line.watch c.loop-line.course.history c.loop-line.course.numbers c.loop-line.course.answerer in
    let holds' : List Entry → Type 0 = Reads g.W.Watch.has_seen c.args.answering accepts c.args.window c.args.chunks c.args.watch.now c.take.new.watch c.take.new.self.history c.take.new.self.numbers c.take.new.self.answerer in
    reading-goes-on c.args.log.now c.in-Some.line.now c.loop-line.line-iterator c.next.new.self holds holds' c.in-Ok.entry
    c.loop-line.invariant c.in-Some.ensures.steps c.in-Ok.ensures.read.0 c.in-Ok.ensures.read.1
    (reads-more g.W.Watch.has_seen c.args.answering accepts c.args.window c.args.chunks c.args.watch.now c.loop-line.watch c.take.new.watch
    c.loop-line.course.history c.take.new.self.history c.loop-line.course.numbers c.take.new.self.numbers c.loop-line.course.answerer c.take.new.self.answerer c.in-Ok.entry
    c.in_ok-take-in-Ok.ensures.known c.in_ok-take-in-Ok.ensures.more (c.in_ok-take-in-Ok.ensures.kept c.args.answering) c.in_ok-take-in-Ok.ensures.watched)

pub returns-in-Err-Line-clause-line : goal.returns-in-Err-Line-clause-line
returns-in-Err-Line-clause-line g c = λ _.
    let holds : List Entry → Type 0 = Reads g.W.Watch.has_seen c.args.answering c.args.accepts.now c.args.window c.args.chunks c.args.watch.now c.loop-line.watch c.loop-line.course.history c.loop-line.course.numbers c.loop-line.course.answerer in
    reading-refuses c.args.log.now c.in-Some.line.now c.loop-line.line-iterator c.next.new.self holds c.loop-line.invariant c.in-Some.ensures.steps c.in-Err-Line.ensures.refused

pub returns-in-Err-Line-clause-refused : goal.returns-in-Err-Line-clause-refused
returns-in-Err-Line-clause-refused g c = λ _.
    let holds : List Entry → Type 0 = Reads g.W.Watch.has_seen c.args.answering c.args.accepts.now c.args.window c.args.chunks c.args.watch.now c.loop-line.watch c.loop-line.course.history c.loop-line.course.numbers c.loop-line.course.answerer in
    reading-stops c.args.log.now c.in-Some.line.now c.loop-line.line-iterator c.next.new.self holds c.loop-line.invariant c.in-Some.ensures.steps c.in-Err-Line.ensures.refused

pub returns-clause-log : goal.returns-clause-log
returns-clause-log g c =
    let holds : List Entry → Type 0 = Reads g.W.Watch.has_seen c.args.answering c.args.accepts.now c.args.window c.args.chunks c.args.watch.now c.loop-line.watch c.loop-line.course.history c.loop-line.course.numbers c.loop-line.course.answerer in
    reading-log c.args.log.now c.loop-line.line-iterator holds c.loop-line.invariant c.in-None.ensures.steps.0

pub returns-clause-numbers : goal.returns-clause-numbers
returns-clause-numbers g c = λ entries fits text.
    let holds : List Entry → Type 0 = Reads g.W.Watch.has_seen c.args.answering c.args.accepts.now c.args.window c.args.chunks c.args.watch.now c.loop-line.watch c.loop-line.course.history c.loop-line.course.numbers c.loop-line.course.answerer in
    let whole = reading-is c.args.log.now c.loop-line.line-iterator holds c.loop-line.invariant c.in-None.ensures.steps.0 entries fits text in
    c.hand_over.ensures c.args.answering c.args.window c.args.chunks (happenings c.args.accepts.now entries) whole.kept whole.counted

pub returns-clause-history : goal.returns-clause-history
returns-clause-history g c = λ entries fits text.
    let holds : List Entry → Type 0 = Reads g.W.Watch.has_seen c.args.answering c.args.accepts.now c.args.window c.args.chunks c.args.watch.now c.loop-line.watch c.loop-line.course.history c.loop-line.course.numbers c.loop-line.course.answerer in
    (reading-is c.args.log.now c.loop-line.line-iterator holds c.loop-line.invariant c.in-None.ensures.steps.0 entries fits text).known

pub returns-clause-watched : goal.returns-clause-watched
returns-clause-watched g c = λ entries fits text.
    let holds : List Entry → Type 0 = Reads g.W.Watch.has_seen c.args.answering c.args.accepts.now c.args.window c.args.chunks c.args.watch.now c.loop-line.watch c.loop-line.course.history c.loop-line.course.numbers c.loop-line.course.answerer in
    (reading-is c.args.log.now c.loop-line.line-iterator holds c.loop-line.invariant c.in-None.ensures.steps.0 entries fits text).watched
