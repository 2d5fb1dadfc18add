use Rattle.run_course.proofs.Common.{[], ◌∙◌, refl, TraceError}
use Rattle.run_course.proofs.Seen.{back_to, rest_in, over_seen, event_seen, refused_seen, machine_same}
use Rattle.run_course.proofs.Spelled.{line_and, bad_line}
use Rattle.run_course.proofs.course.Course.read.Goals as goal

pub returns-in-Ok-None-clause-looks : goal.returns-in-Ok-None-clause-looks
returns-in-Ok-None-clause-looks g c =
    let told = g.S.Source.left c.args.trace.now in
    let unread = rw (← c.self.view_is) at c.requires.unread in
    let unrefused = rw (← c.self.view_is) at c.requires.unrefused in
    back_to told (g.S.Source.left c.next.new.source) _ (λ after. []) (λ after knows s state held stands.
    over_seen s state _ held unread c.next.new.self told (g.S.Source.left c.next.new.source) after (rw (← c.self.view_is) at stands)
    (rw c.in-Ok-None.field-0-is at (c.in-Ok-None.ensures.told unrefused)) (rw c.in-Ok-None.field-0-is at (c.in-Ok-None.ensures.kept unrefused)))

pub returns-in-Ok-Some-clause-looks : goal.returns-in-Ok-Some-clause-looks
returns-in-Ok-Some-clause-looks g c =
    let told = g.S.Source.left c.args.trace.now in
    let unread = rw (← c.self.view_is) at c.requires.unread in
    let unrefused = rw (← c.self.view_is) at c.requires.unrefused in
    back_to told (g.S.Source.left c.next.new.source) _ (λ after. line_and c.in-Ok-Some.event (rest_in c.next.new.self after))
    (λ after knows s state held stands.
    event_seen s state _ held unread c.next.new.self told (g.S.Source.left c.next.new.source) after c.in-Ok-Some.event knows (rw (← c.self.view_is) at stands)
    (rw c.in-Ok-Some.field-0-is at (c.in-Ok-Some.ensures.told unrefused)) (rw c.in-Ok-Some.field-0-is at (c.in-Ok-Some.ensures.kept unrefused))
    (rw c.in-Ok-Some.field-0-is at c.in-Ok-Some.ensures.fits) c.next.ensures.counted)

pub returns-in-Err-Line-clause-looks : goal.returns-in-Err-Line-clause-looks
returns-in-Err-Line-clause-looks g c =
    let told = g.S.Source.left c.args.trace.now in
    let unread = rw (← c.self.view_is) at c.requires.unread in
    let unrefused = rw (← c.self.view_is) at c.requires.unrefused in
    back_to told (g.S.Source.left c.next.new.source) _ (λ after. bad_line) (λ after knows s state held stands.
    refused_seen s state _ held unread c.next.new.self told (g.S.Source.left c.next.new.source) after (TraceError.Line _) _
    (rw (← c.self.view_is) at stands) tt (rw c.in-Err-Line.field-0-is at (c.in-Err-Line.ensures.told unrefused))
    (c.from.ensures ∙ (rw c.in-Err-Line.field-0-is at (c.in-Err-Line.ensures.numbered unrefused))))

pub returns-in-Err-Order-clause-looks : goal.returns-in-Err-Order-clause-looks
returns-in-Err-Order-clause-looks g c =
    let told = g.S.Source.left c.args.trace.now in
    let unread = rw (← c.self.view_is) at c.requires.unread in
    let unrefused = rw (← c.self.view_is) at c.requires.unrefused in
    back_to told (g.S.Source.left c.next.new.source) _ (λ after. bad_line) (λ after knows s state held stands.
    refused_seen s state _ held unread c.next.new.self told (g.S.Source.left c.next.new.source) after (TraceError.Order _ _ _) _
    (rw (← c.self.view_is) at stands) tt (rw c.in-Err-Order.field-0-is at (c.in-Err-Order.ensures.told unrefused))
    (c.from-in-Err-Order.ensures ∙ (rw c.in-Err-Order.field-0-is at (c.in-Err-Order.ensures.numbered unrefused))))

pub returns-in-Err-ReadFault-clause-looks : goal.returns-in-Err-ReadFault-clause-looks
returns-in-Err-ReadFault-clause-looks g c =
    let told = g.S.Source.left c.args.trace.now in
    let unread = rw (← c.self.view_is) at c.requires.unread in
    back_to told (g.S.Source.left c.next.new.source) _ (λ after. []) (λ after knows s state held stands.
    (refl, machine_same s state _ held _ (rw (← c.self.view_is) at stands) unread))

pub returns-in-Ok-None-clause-counts : goal.returns-in-Ok-None-clause-counts
returns-in-Ok-None-clause-counts g c =
    let unrefused = rw (← c.self.view_is) at c.requires.unrefused in
    c.in-Ok-None.ensures.counts unrefused

pub returns-in-Ok-Some-clause-counts : goal.returns-in-Ok-Some-clause-counts
returns-in-Ok-Some-clause-counts g c =
    let unrefused = rw (← c.self.view_is) at c.requires.unrefused in
    c.in-Ok-Some.ensures.counts unrefused

pub returns-in-Err-Line-clause-counts : goal.returns-in-Err-Line-clause-counts
returns-in-Err-Line-clause-counts g c =
    let unrefused = rw (← c.self.view_is) at c.requires.unrefused in
    rw c.in-Err-Line.field-0-is at (c.in-Err-Line.ensures.counts unrefused)

pub returns-in-Err-Order-clause-counts : goal.returns-in-Err-Order-clause-counts
returns-in-Err-Order-clause-counts g c =
    let unrefused = rw (← c.self.view_is) at c.requires.unrefused in
    rw c.in-Err-Order.field-0-is at (c.in-Err-Order.ensures.counts unrefused)

pub returns-in-Err-ReadFault-clause-counts : goal.returns-in-Err-ReadFault-clause-counts
returns-in-Err-ReadFault-clause-counts g c =
    let unrefused = rw (← c.self.view_is) at c.requires.unrefused in
    let rose = rw c.in-Err-ReadFault.field-0-is at (c.in-Err-ReadFault.ensures.counts unrefused) in
    record { rose = rose; never_falls = c.next.ensures.never_falls }
