use Rattle.c_mean.specs.World.{Segment}
use Rattle.schedule_audit.proofs.Common.{◌≡◌, ◌-◌, false, true, Result, sym, subst, arith, Given, State, Happening, Failure, HasProceeded, Kept, has_proceeded, may_run}
use Rattle.schedule_reading.specs.Coming.{CrowdsFirst, HasHappened, KeepsBut, MayRun, RunsSomehow}
use Rattle.schedule_audit.proofs.segments.proceed.Goals as goal

pub happen-happened-requires : goal.happen-happened-requires
happen-happened-requires g c =
    let w = c.requires in
    subst (λ (x : Kept). RunsSomehow c.args.reading.now.core c.args.under.now x.core.left) (sym c.reading.view_is)
    (w.0, w.1, w.2.segment.here, may_run w.0 w.1 c.args.reading.now.core c.args.under.now w.2 c.args.reading.now.core.left (omega arith))

pub returns-clause-proceeds : goal.returns-clause-proceeds
returns-clause-proceeds g c = λ given state stands.
    let happens = subst (λ (x : Kept). (g' : Given) (s : State) (here : Segment) → MayRun g' s here c.args.reading.now.core c.args.under.now x.core.left → HasHappened g' s here x.core.left c.happen-happened.new.left c.happen-happened.new.self.core c.happen-happened.new.under c.happen-happened.result) c.reading.view_is c.happen-happened.ensures.happens in
    let keeps = subst (λ (x : Kept). KeepsBut c.args.reading.now.core c.args.under.now x.core.left c.happen-happened.new.self.core c.happen-happened.new.under c.happen-happened.new.left) c.reading.view_is c.happen-happened.ensures.keeps in
    let may = may_run given state c.args.reading.now.core c.args.under.now stands c.args.reading.now.core.left (omega arith) in
    subst (λ (x : Kept). HasProceeded given state c.args.reading.now.core c.args.under.now (record x.core { left = c.happen-happened.new.left }) c.happen-happened.new.under c.happen-happened.result) (sym c.reading-2.view_is)
    (has_proceeded given state c.args.reading.now.core c.args.under.now c.happen-happened.new.self.core c.happen-happened.new.under c.happen-happened.new.left c.happen-happened.result stands (happens given state stands.segment.here may) keeps)

pub returns-clause-alone : goal.returns-clause-alone
returns-clause-alone g c = λ e.
    let w = c.requires in
    let crowds = subst (λ (x : Kept). (g' : Given) (s : State) (here : Segment) → MayRun g' s here c.args.reading.now.core c.args.under.now x.core.left → CrowdsFirst g' here false (x.core.left - c.happen-happened.new.left) c.happen-happened.result) c.reading.view_is c.happen-happened.ensures.crowds in
    let may = may_run w.0 w.1 c.args.reading.now.core c.args.under.now w.2 c.args.reading.now.core.left (omega arith) in
    let no : false ≡ true = subst (λ (r : Result Happening Failure). CrowdsFirst w.0 w.2.segment.here false (c.args.reading.now.core.left - c.happen-happened.new.left) r) e (crowds w.0 w.1 w.2.segment.here may) in
    absurd (cc)
