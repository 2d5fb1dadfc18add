use Rattle.schedule_audit.proofs.Common.{◌≡◌, ◌≤◌, ◌<◌, ◌^◌, ◌+◌, false, true, length, None, Result, Ok, refl, sym, ap, ◌∙◌, subst, err_from_is_err_and, Entry, Happening, Failure, Ruling, IsAway, HasProceeded, HasRested, MayClose, RulesWithin, Kept, block_other, away_now, fuel_now, keys_now, may_close_now}
use Rattle.blocking_graph.specs.Graph.{GraphState}
use Rattle.blocking_graph.specs.Nodes.{keys_with, node_number}
use Rattle.schedule_reading.specs.declared.events.Happening.TheVariants as happening
use Rattle.thread_exchange.specs.Exchanges.{row_of}
use Rattle.schedule_reading.proofs.Blocks.{block_allowed, block_late, block_refused}
use Rattle.schedule_audit.proofs.segments.block.Goals as goal

pub returns-in_err-proceed : goal.returns-in_err-proceed
returns-in_err-proceed g c = λ given state stands end_is.
    let p = err_from_is_err_and c.from_residual.result c.from_residual.ensures.1 in
    subst (λ (r : Result Ruling Failure). RulesWithin given state c.args.reading.now (Entry.Block c.args.thread c.args.node c.args.key.now c.args.cost c.args.free) c.proceed.new.reading r) (sym p.1) (p.2 ∙ (c.in_err-proceed.ensures.proceeds given state stands).happened)

pub returns-in-OutOfSteps : goal.returns-in-OutOfSteps
returns-in-OutOfSteps g c = λ given state stands end_is.
    block_late given state c.args.reading.now c.args.under c.proceed.new.reading.core c.proceed.new.under stands end_is c.args.thread c.args.node c.args.key.now c.args.cost c.args.free
    (subst (λ (h : Happening). HasProceeded given state c.args.reading.now.core c.args.under c.proceed.new.reading.core c.proceed.new.under (Ok h)) c.in-OutOfSteps.is (c.in_ok-proceed.ensures.proceeds given state stands))

pub returns-in_default : goal.returns-in_default
returns-in_default g c = λ given state stands end_is.
    block_other given state c.args.reading.now c.args.under c.proceed.new.reading.core c.proceed.new.under stands end_is c.args.thread c.args.node c.args.key.now c.args.cost c.args.free c.in_ok-proceed.field-0 (c.in_ok-proceed.ensures.proceeds given state stands)
    c.in_default.not-Blocks c.in_default.not-OutOfSteps (λ e. c.proceed.ensures.alone (c.in_ok-proceed.was ∙ ap Ok e))

pub ends_segment-requires : goal.ends_segment-requires
ends_segment-requires g c =
    let w = c.requires.within in
    fuel_now w.0 w.1 c.args.reading.now.core c.args.under c.proceed.new.reading.core c.proceed.new.under w.2 (c.in_ok-proceed.ensures.proceeds w.0 w.1 w.2).keeps

pub node_of-requires : goal.node_of-requires
node_of-requires g c =
    let w = c.requires.within in
    subst (λ (x : Kept). length x.core.graph.keys < 2 ^ 31) (sym c.reading.view_is) (keys_now w.0 w.1 c.args.reading.now.core c.args.under c.proceed.new.reading.core c.proceed.new.under w.2 (c.in_ok-proceed.ensures.proceeds w.0 w.1 w.2).keeps)

pub rest_at-requires-clause-may : goal.rest_at-requires-clause-may
rest_at-requires-clause-may g c =
    let w = c.requires.within in
    let p : HasProceeded w.0 w.1 c.args.reading.now.core c.args.under c.proceed.new.reading.core c.proceed.new.under (Ok (happening.Blocks c.in-Blocks.block)) =
    subst (λ (h : Happening). HasProceeded w.0 w.1 c.args.reading.now.core c.args.under c.proceed.new.reading.core c.proceed.new.under (Ok h)) c.in-Blocks.is (c.in_ok-proceed.ensures.proceeds w.0 w.1 w.2) in
    let rests = p.happened.rests in
    let line = c.if-not-ends_segment.ensures.0 refl in
    subst (λ (x : Kept). MayClose (record x.core { graph = c.node_of.new.self }) c.proceed.new.under c.args.cost c.args.free) (sym c.reading.view_is)
    (may_close_now w.0 w.1 c.args.reading.now.core c.args.under c.proceed.new.reading.core c.proceed.new.under w.2 p.keeps rests.last.threads rests.last.exchange p.segment.here.number rests.beside c.args.cost c.args.free line.closing c.node_of.new.self
    (ap (λ (x : GraphState). x.edges) c.in_ok-at-in-Blocks.ensures.ok ∙ ap (λ (x : Kept). x.core.graph.edges) c.reading.view_is))

pub rest_at-requires-clause-away : goal.rest_at-requires-clause-away
rest_at-requires-clause-away g c =
    let w = c.requires.within in
    let p : HasProceeded w.0 w.1 c.args.reading.now.core c.args.under c.proceed.new.reading.core c.proceed.new.under (Ok (happening.Blocks c.in-Blocks.block)) =
    subst (λ (h : Happening). HasProceeded w.0 w.1 c.args.reading.now.core c.args.under c.proceed.new.reading.core c.proceed.new.under (Ok h)) c.in-Blocks.is (c.in_ok-proceed.ensures.proceeds w.0 w.1 w.2) in
    let rests = p.happened.rests in
    let line = c.if-not-ends_segment.ensures.0 refl in
    subst (λ (x : Kept). IsAway x.core.threads c.proceed.new.under.choice.thread) (sym c.reading.view_is)
    (away_now w.0 w.1 c.args.reading.now.core c.args.under c.proceed.new.reading.core c.proceed.new.under w.2 p.keeps rests.last.threads rests.last.exchange p.segment.here.number rests.beside c.args.cost c.args.free line.closing)

pub rest_at-requires-clause-untrapped : goal.rest_at-requires-clause-untrapped
rest_at-requires-clause-untrapped g c =
    let w = c.requires.within in
    let p : HasProceeded w.0 w.1 c.args.reading.now.core c.args.under c.proceed.new.reading.core c.proceed.new.under (Ok (happening.Blocks c.in-Blocks.block)) =
    subst (λ (h : Happening). HasProceeded w.0 w.1 c.args.reading.now.core c.args.under c.proceed.new.reading.core c.proceed.new.under (Ok h)) c.in-Blocks.is (c.in_ok-proceed.ensures.proceeds w.0 w.1 w.2) in
    subst (λ (x : Kept). (row_of x.core.threads.exchange c.in-Blocks.block).trap ≡ None) (sym c.reading.view_is) p.happened.untrapped

pub returns-then-not-ends_segment : goal.returns-then-not-ends_segment
returns-then-not-ends_segment g c = λ given state stands end_is.
    let p : HasProceeded given state c.args.reading.now.core c.args.under c.proceed.new.reading.core c.proceed.new.under (Ok (happening.Blocks c.in-Blocks.block)) =
    subst (λ (h : Happening). HasProceeded given state c.args.reading.now.core c.args.under c.proceed.new.reading.core c.proceed.new.under (Ok h)) c.in-Blocks.is (c.in_ok-proceed.ensures.proceeds given state stands) in
    let end_same = ap (λ (x : Kept). x.end) c.proceed.ensures.rest in
    block_refused given state c.args.reading.now c.args.under c.proceed.new.reading.core c.proceed.new.under stands end_is c.args.thread c.args.node c.args.key.now c.args.cost c.args.free c.in-Blocks.block p
    (λ is. let no : false ≡ true = c.if-not-ends_segment.ensures.1 (record { over = end_same ∙ is.over; thread_is = is.thread_is; closing = is.closing }) in absurd (cc))

pub returns-then-not-is_key_of : goal.returns-then-not-is_key_of
returns-then-not-is_key_of g c = λ given state stands end_is.
    let p : HasProceeded given state c.args.reading.now.core c.args.under c.proceed.new.reading.core c.proceed.new.under (Ok (happening.Blocks c.in-Blocks.block)) =
    subst (λ (h : Happening). HasProceeded given state c.args.reading.now.core c.args.under c.proceed.new.reading.core c.proceed.new.under (Ok h)) c.in-Blocks.is (c.in_ok-proceed.ensures.proceeds given state stands) in
    block_refused given state c.args.reading.now c.args.under c.proceed.new.reading.core c.proceed.new.under stands end_is c.args.thread c.args.node c.args.key.now c.args.cost c.args.free c.in-Blocks.block p
    (λ is. let no : false ≡ true = (c.if-not-is_key_of.ensures given.program).1 is.key_is in absurd (cc))

pub returns-then-at-node : goal.returns-then-at-node
returns-then-at-node g c = λ given state stands end_is.
    let p : HasProceeded given state c.args.reading.now.core c.args.under c.proceed.new.reading.core c.proceed.new.under (Ok (happening.Blocks c.in-Blocks.block)) =
    subst (λ (h : Happening). HasProceeded given state c.args.reading.now.core c.args.under c.proceed.new.reading.core c.proceed.new.under (Ok h)) c.in-Blocks.is (c.in_ok-proceed.ensures.proceeds given state stands) in
    block_refused given state c.args.reading.now c.args.under c.proceed.new.reading.core c.proceed.new.under stands end_is c.args.thread c.args.node c.args.key.now c.args.cost c.args.free c.in-Blocks.block p
    (λ is. c.if-at-node.true (c.in_ok-at-in-Blocks.ensures.number ∙ ap (λ (x : Kept). node_number x.core.graph.keys c.args.key.now) c.reading.view_is ∙ sym is.node_is))

pub returns-in_ok-rest_at-in-Blocks : goal.returns-in_ok-rest_at-in-Blocks
returns-in_ok-rest_at-in-Blocks g c = λ given state stands end_is.
    let p : HasProceeded given state c.args.reading.now.core c.args.under c.proceed.new.reading.core c.proceed.new.under (Ok (happening.Blocks c.in-Blocks.block)) =
    subst (λ (h : Happening). HasProceeded given state c.args.reading.now.core c.args.under c.proceed.new.reading.core c.proceed.new.under (Ok h)) c.in-Blocks.is (c.in_ok-proceed.ensures.proceeds given state stands) in
    let line = c.if-not-ends_segment.ensures.0 refl in
    let end_same = ap (λ (x : Kept). x.end) c.proceed.ensures.rest in
    let k = c.proceed.new.reading.core in
    let graph = c.node_of.new.self in
    let same = c.reading.view_is ∙ c.proceed.ensures.rest in
    let rested = subst (λ (x : Kept). HasRested (record x { core = record x.core { graph = graph } }) c.proceed.new.under c.args.node c.in-Blocks.block c.args.cost c.args.free c.rest_at.new.self) same c.in_ok-rest_at-in-Blocks.ensures in
    block_allowed given state c.args.reading.now c.args.under k c.proceed.new.under stands end_is c.args.thread c.args.node c.args.key.now c.args.cost c.args.free c.in-Blocks.block p
    (record {
      over = sym end_same ∙ line.over;
      thread_is = line.thread_is;
      closing = line.closing;
      key_is = (c.if-not-is_key_of.ensures given.program).0 refl;
      node_is = sym c.if-at-node.false ∙ c.in_ok-at-in-Blocks.ensures.number ∙ ap (λ (x : Kept). node_number x.core.graph.keys c.args.key.now) c.reading.view_is;
    })
    graph (ap (λ (x : GraphState). x.keys) c.in_ok-at-in-Blocks.ensures.ok ∙ ap (λ (x : Kept). keys_with x.core.graph.keys c.args.key.now) c.reading.view_is)
    (ap (λ (x : GraphState). x.edges) c.in_ok-at-in-Blocks.ensures.ok ∙ ap (λ (x : Kept). x.core.graph.edges) c.reading.view_is)
    (subst (λ (x : Kept). length graph.keys ≤ length x.core.graph.keys + 1) c.reading.view_is c.in_ok-at-in-Blocks.ensures.counted) c.rest_at.new.self rested c.requires.under
