use Rattle.schedule_reading.proofs.Common.{◌≡◌, ◌≤◌, None, sym, ap, subst, row_of, HasBlocked, IsAway, Kept}
use Rattle.thread_waits.specs.Waiting.{latest}
use Rattle.scheduler.specs.State.{IsJoined, IsTold}
use Rattle.schedule_reading.proofs.Rested.{away_then, early_then, has_rested, untrapped_then, waits_then}
use Rattle.schedule_reading.proofs.reading.Reading.rest_at.Goals as goal

pub block-requires-clause-away : goal.block-requires-clause-away
block-requires-clause-away g c =
    subst (λ (x : Kept). IsAway x.core.threads c.args.under.choice.thread) (sym c.self.view_is)
    (away_then c.args.self.now c.args.under c.args.node c.args.block c.args.cost c.args.free c.close.new.self c.in_ok-close.ensures c.requires.away)

pub block-requires-clause-untrapped : goal.block-requires-clause-untrapped
block-requires-clause-untrapped g c =
    subst (λ (x : Kept). (row_of x.core.threads.exchange c.args.block).trap ≡ None) (sym c.self.view_is)
    (untrapped_then c.args.self.now c.args.under c.args.node c.args.block c.args.cost c.args.free c.close.new.self c.in_ok-close.ensures c.requires.untrapped)

pub block-requires-clause-early : goal.block-requires-clause-early
block-requires-clause-early g c =
    subst (λ (x : Kept). x.core.threads.waits.clock ≤ latest) (sym c.self.view_is)
    (early_then c.args.self.now c.args.under c.args.node c.args.block c.args.cost c.args.free c.close.new.self c.in_ok-close.ensures c.requires.may)

pub need_of-need-requires : goal.need_of-need-requires
need_of-need-requires g c =
    let blocked = subst (λ (x : Kept). HasBlocked x.core.threads c.args.under.choice.thread c.args.block c.args.under.thread c.block.new.self) c.self.view_is c.block.ensures in
    waits_then c.args.self.now c.args.under c.args.node c.args.block c.args.cost c.args.free c.close.new.self c.in_ok-close.ensures c.block.new.self blocked
    (away_then c.args.self.now c.args.under c.args.node c.args.block c.args.cost c.args.free c.close.new.self c.in_ok-close.ensures c.requires.away)

pub returns : goal.returns
returns g c =
    let blocked = subst (λ (x : Kept). HasBlocked x.core.threads c.args.under.choice.thread c.args.block c.args.under.thread c.block.new.self) c.self.view_is c.block.ensures in
    let joined = subst (λ (x : Kept). IsJoined x.core.scheduler c.enqueue_for.new.self c.args.node c.args.under.choice.thread) c.self.view_is c.in_ok-enqueue_for.ensures.ok in
    let told = subst (λ (x : Kept). IsTold x.core.scheduler c.enqueue_for.new.self c.args.node (record { thread = c.args.under.choice.thread; need = c.need_of-need.result })) c.self.view_is c.in_ok-enqueue_for.ensures.told in
    has_rested c.args.self.now c.args.under c.args.node c.args.block c.args.cost c.args.free c.close.new.self c.in_ok-close.ensures c.block.new.self blocked c.enqueue_for.new.self c.need_of-need.result _ joined told c.need_of-need.ensures
    (ap (λ (x : Kept). record x { core = record x.core { threads = c.block.new.self; scheduler = c.enqueue_for.new.self } }) (sym c.self.view_is))
