use Rattle.schedule_audit.proofs.Common.{◌≡◌, ◌<◌, ◌+◌, false, true, IsSome, Result, Ok, refl, sym, ap, ◌∙◌, subst, err_from_is_err_and, Entry, Happening, Failure, Ruling, HasEnded, AllowsWithin, HasProceeded, RulesWithin, closed, Core, Kept, end_other, fuel_now, live_now, may_close_now, there_now}
use Rattle.blocking_graph.specs.Edges.{count_of}
use Rattle.choice_rules.specs.Seen.{end_node}
use Rattle.slab.specs.Slab.{get}
use Rattle.schedule_reading.specs.declared.events.Happening.TheVariants as happening
use Rattle.schedule_reading.proofs.EndLines.{end_allowed, end_late, end_refused}
use Rattle.schedule_audit.proofs.segments.end_line.Goals as goal

pub returns-in_err-proceed : goal.returns-in_err-proceed
returns-in_err-proceed g c = λ given state stands end_is.
    let p = err_from_is_err_and c.from_residual.result c.from_residual.ensures.1 in
    subst (λ (r : Result Ruling Failure). RulesWithin given state c.args.reading.now (Entry.End c.args.thread c.args.cost c.args.free) c.proceed.new.reading r) (sym p.1) (p.2 ∙ (c.in_err-proceed.ensures.proceeds given state stands).happened)

pub returns-in-OutOfSteps : goal.returns-in-OutOfSteps
returns-in-OutOfSteps g c = λ given state stands end_is.
    end_late given state c.args.reading.now c.args.under.now c.proceed.new.reading.core c.proceed.new.under stands end_is c.args.thread c.args.cost c.args.free
    (subst (λ (h : Happening). HasProceeded given state c.args.reading.now.core c.args.under.now c.proceed.new.reading.core c.proceed.new.under (Ok h)) c.in-OutOfSteps.is (c.in_ok-proceed.ensures.proceeds given state stands))

pub returns-in_default : goal.returns-in_default
returns-in_default g c = λ given state stands end_is.
    end_other given state c.args.reading.now c.args.under.now c.proceed.new.reading.core c.proceed.new.under stands end_is c.args.thread c.args.cost c.args.free c.in_ok-proceed.field-0 (c.in_ok-proceed.ensures.proceeds given state stands)
    c.in_default.not-Ends c.in_default.not-OutOfSteps (λ e. c.proceed.ensures.alone (c.in_ok-proceed.was ∙ ap Ok e))

pub ends_segment-requires : goal.ends_segment-requires
ends_segment-requires g c =
    let w = c.requires.within in
    fuel_now w.0 w.1 c.args.reading.now.core c.args.under.now c.proceed.new.reading.core c.proceed.new.under w.2 (c.in_ok-proceed.ensures.proceeds w.0 w.1 w.2).keeps

pub close-requires : goal.close-requires
close-requires g c =
    let w = c.requires.within in
    let p : HasProceeded w.0 w.1 c.args.reading.now.core c.args.under.now c.proceed.new.reading.core c.proceed.new.under (Ok happening.Ends) =
    subst (λ (h : Happening). HasProceeded w.0 w.1 c.args.reading.now.core c.args.under.now c.proceed.new.reading.core c.proceed.new.under (Ok h)) c.in-Ends.is (c.in_ok-proceed.ensures.proceeds w.0 w.1 w.2) in
    let rests = p.happened.rests in
    let line = c.if-not-ends_segment.ensures.0 refl in
    may_close_now w.0 w.1 c.args.reading.now.core c.args.under.now c.proceed.new.reading.core c.proceed.new.under w.2 p.keeps rests.last.threads rests.last.exchange p.segment.here.number rests.beside c.args.cost c.args.free line.closing c.proceed.new.reading.core.graph refl

pub end-requires-clause-there : goal.end-requires-clause-there
end-requires-clause-there g c =
    let w = c.requires.within in
    let p : HasProceeded w.0 w.1 c.args.reading.now.core c.args.under.now c.proceed.new.reading.core c.proceed.new.under (Ok happening.Ends) =
    subst (λ (h : Happening). HasProceeded w.0 w.1 c.args.reading.now.core c.args.under.now c.proceed.new.reading.core c.proceed.new.under (Ok h)) c.in-Ends.is (c.in_ok-proceed.ensures.proceeds w.0 w.1 w.2) in
    let rests = p.happened.rests in
    let line = c.if-not-ends_segment.ensures.0 refl in
    subst (λ (x : Kept). IsSome (get x.core.threads.slots c.proceed.new.under.choice.thread.slot)) (sym (c.reading.view_is ∙ c.in_ok-close-in-Ends.ensures.after))
    (there_now w.0 w.1 c.args.reading.now.core c.args.under.now c.proceed.new.reading.core c.proceed.new.under w.2 p.keeps rests.last.threads rests.last.exchange p.segment.here.number rests.beside c.args.cost c.args.free line.closing)

pub end-requires-clause-live : goal.end-requires-clause-live
end-requires-clause-live g c =
    let w = c.requires.within in
    let p : HasProceeded w.0 w.1 c.args.reading.now.core c.args.under.now c.proceed.new.reading.core c.proceed.new.under (Ok happening.Ends) =
    subst (λ (h : Happening). HasProceeded w.0 w.1 c.args.reading.now.core c.args.under.now c.proceed.new.reading.core c.proceed.new.under (Ok h)) c.in-Ends.is (c.in_ok-proceed.ensures.proceeds w.0 w.1 w.2) in
    let rests = p.happened.rests in
    let line = c.if-not-ends_segment.ensures.0 refl in
    subst (λ (x : Kept). 0 < x.core.threads.live) (sym (c.reading.view_is ∙ c.in_ok-close-in-Ends.ensures.after))
    (live_now w.0 w.1 c.args.reading.now.core c.args.under.now c.proceed.new.reading.core c.proceed.new.under w.2 p.keeps rests.last.threads rests.last.exchange p.segment.here.number rests.beside c.args.cost c.args.free line.closing)

pub returns-then-not-ends_segment : goal.returns-then-not-ends_segment
returns-then-not-ends_segment g c = λ given state stands end_is.
    let p : HasProceeded given state c.args.reading.now.core c.args.under.now c.proceed.new.reading.core c.proceed.new.under (Ok happening.Ends) =
    subst (λ (h : Happening). HasProceeded given state c.args.reading.now.core c.args.under.now c.proceed.new.reading.core c.proceed.new.under (Ok h)) c.in-Ends.is (c.in_ok-proceed.ensures.proceeds given state stands) in
    let end_same = ap (λ (x : Kept). x.end) c.proceed.ensures.rest in
    end_refused given state c.args.reading.now c.args.under.now c.proceed.new.reading.core c.proceed.new.under stands end_is c.args.thread c.args.cost c.args.free p
    (λ is. let no : false ≡ true = c.if-not-ends_segment.ensures.1 (record { over = end_same ∙ is.over; thread_is = is.thread_is; closing = is.closing }) in absurd (cc))

pub returns-in_ok-close-in-Ends : goal.returns-in_ok-close-in-Ends
returns-in_ok-close-in-Ends g c = λ given state stands end_is.
    let p : HasProceeded given state c.args.reading.now.core c.args.under.now c.proceed.new.reading.core c.proceed.new.under (Ok happening.Ends) =
    subst (λ (h : Happening). HasProceeded given state c.args.reading.now.core c.args.under.now c.proceed.new.reading.core c.proceed.new.under (Ok h)) c.in-Ends.is (c.in_ok-proceed.ensures.proceeds given state stands) in
    let line = c.if-not-ends_segment.ensures.0 refl in
    let end_same = ap (λ (x : Kept). x.end) c.proceed.ensures.rest in
    let k = c.proceed.new.reading.core in
    let now : Core = closed k c.proceed.new.under end_node c.args.cost c.args.free in
    let same = c.reading.view_is ∙ c.in_ok-close-in-Ends.ensures.after ∙ ap (λ (x : Kept). record x { core = now }) c.proceed.ensures.rest in
    let ends = subst (λ (x : Kept). HasEnded x.core.threads c.proceed.new.under.choice.thread c.end.new.self) same c.end.ensures in
    let counted = subst (λ (x : Kept). count_of x.core.graph.edges ≡ count_of k.graph.edges + 1) c.in_ok-close-in-Ends.ensures.after c.in_ok-close-in-Ends.ensures.counted in
    subst (λ (n : Kept). AllowsWithin given state c.args.reading.now (Entry.End c.args.thread c.args.cost c.args.free) n) (sym (ap (λ (x : Kept). record x { core = record x.core { threads = c.end.new.self } }) same))
    (end_allowed given state c.args.reading.now c.args.under.now k c.proceed.new.under stands end_is c.args.thread c.args.cost c.args.free p
    (record { over = sym end_same ∙ line.over; thread_is = line.thread_is; closing = line.closing }) counted c.end.new.self ends c.requires.under)
