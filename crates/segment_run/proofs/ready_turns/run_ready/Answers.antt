use Rattle.segment_run.proofs.Common.{refl, sym, subst, checked_of, code_of, thread_of, IsUnderWay}
use Rattle.segment_run.specs.declared.ready_turns.Progress.{Progress}
use Rattle.segment_run.proofs.Instructions.{stands_at}
use Rattle.segment_run.proofs.ReadyRuns.{run_of, begins}
use Rattle.segment_run.proofs.ready_turns.run_ready.Goals as goal

pub index_at-requires : goal.index_at-requires
index_at-requires c =
    let checked = checked_of c.args.accepted.now in
    let code = code_of c.args.accepted.now in
    let start = thread_of c.args.areas.now c.args.thread in
    let at = stands_at checked code start (c.requires.safe.safe 0 start refl) in
    (code, at.0, at.1)

pub run_groups-near-requires : goal.run_groups-near-requires
run_groups-near-requires c =
    let checked = checked_of c.args.accepted.now in
    let code = code_of c.args.accepted.now in
    let is = begins checked code c.args.areas.now c.args.thread c.args.fuel c.ready-ready.result.now c.index_at.result c.new-file.result
    c.requires.formed c.requires.form c.requires.safe c.ready-ready.ensures c.index_at.ensures c.new-file.ensures in
    (run_of checked code c.args.areas.now c.args.thread c.args.fuel, is)

pub run_singly-last-requires : goal.run_singly-last-requires
run_singly-last-requires c =
    let checked = checked_of c.args.accepted.now in
    let code = code_of c.args.accepted.now in
    let run = run_of checked code c.args.areas.now c.args.thread c.args.fuel in
    let is = begins checked code c.args.areas.now c.args.thread c.args.fuel c.ready-ready.result.now c.index_at.result c.new-file.result
    c.requires.formed c.requires.form c.requires.safe c.ready-ready.ensures c.index_at.ensures c.new-file.ensures in
    (run, c.run_groups-near.ensures run is)

pub stopped_at-requires : goal.stopped_at-requires
stopped_at-requires c =
    let checked = checked_of c.args.accepted.now in
    let code = code_of c.args.accepted.now in
    let run = run_of checked code c.args.areas.now c.args.thread c.args.fuel in
    let is = begins checked code c.args.areas.now c.args.thread c.args.fuel c.ready-ready.result.now c.index_at.result c.new-file.result
    c.requires.formed c.requires.form c.requires.safe c.ready-ready.ensures c.index_at.ensures c.new-file.ensures in
    (c.run_singly-last.ensures run (c.run_groups-near.ensures run is)).way.form.core.pc

pub returns : goal.returns
returns c =
    let checked = checked_of c.args.accepted.now in
    let code = code_of c.args.accepted.now in
    let run = run_of checked code c.args.areas.now c.args.thread c.args.fuel in
    let is = begins checked code c.args.areas.now c.args.thread c.args.fuel c.ready-ready.result.now c.index_at.result c.new-file.result
    c.requires.formed c.requires.form c.requires.safe c.ready-ready.ensures c.index_at.ensures c.new-file.ensures in
    let last = c.run_singly-last.ensures run (c.run_groups-near.ensures run is) in
    subst (λ (p : Progress). IsUnderWay checked code run.start run.fuel (thread_of c.run_singly-last.new.areas (record c.args.thread { regs = p.regs })) p.left) (sym c.stopped_at.ensures) last.way
