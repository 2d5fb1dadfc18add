use Rattle.segment_run.proofs.Common.{checked_of, local_of, accepted_tree}
use Rattle.segment_run.proofs.Whole.{form_of, keeps_chunks, are_of, runs_as}
use Rattle.segment_run.proofs.FromSource.{stays_safe, source_answer}
use Rattle.segment_run.proofs.segments.run_segment.Goals as goal

pub run_turns-segment-requires-clause-form : goal.run_turns-segment-requires-clause-form
run_turns-segment-requires-clause-form c =
    form_of c.args.accepted.now c.args.areas.now c.args.context.now c.are_sound.ensures.valid c.are_kept.ensures c.requires.areas c.requires.ready.owned c.are_registers.ensures.pc c.are_registers.ensures.count c.are_registers.ensures.registers

pub run_turns-segment-requires-clause-safe : goal.run_turns-segment-requires-clause-safe
run_turns-segment-requires-clause-safe c =
    stays_safe (accepted_tree c.args.accepted.now) c.args.accepted.now.image c.args.accepted.now.certificate (local_of c.args.areas.now c.args.context.now) c.args.accepted.now.program.well_scoped c.are_sound.ensures.valid
    (form_of c.args.accepted.now c.args.areas.now c.args.context.now c.are_sound.ensures.valid c.are_kept.ensures c.requires.areas c.requires.ready.owned c.are_registers.ensures.pc c.are_registers.ensures.count c.are_registers.ensures.registers)
    c.requires.ready.rests c.requires.ready.behind

pub returns-clause-chunks : goal.returns-clause-chunks
returns-clause-chunks c =
    let form = form_of c.args.accepted.now c.args.areas.now c.args.context.now c.are_sound.ensures.valid c.are_kept.ensures c.requires.areas c.requires.ready.owned c.are_registers.ensures.pc c.are_registers.ensures.count c.are_registers.ensures.registers in
    keeps_chunks (checked_of c.args.accepted.now) (local_of c.args.areas.now c.args.context.now) _ form.owns c.run_turns-segment.ensures.counts

pub returns-clause-areas : goal.returns-clause-areas
returns-clause-areas c =
    let form = form_of c.args.accepted.now c.args.areas.now c.args.context.now c.are_sound.ensures.valid c.are_kept.ensures c.requires.areas c.requires.ready.owned c.are_registers.ensures.pc c.are_registers.ensures.count c.are_registers.ensures.registers in
    are_of c.args.accepted.now c.args.areas.now c.run_turns-segment.new.areas form.areas c.run_turns-segment.ensures.counts.areas c.requires.areas

pub returns-clause-source : goal.returns-clause-source
returns-clause-source c = λ thread globals stands.
    let form = form_of c.args.accepted.now c.args.areas.now c.args.context.now c.are_sound.ensures.valid c.are_kept.ensures c.requires.areas c.requires.ready.owned c.are_registers.ensures.pc c.are_registers.ensures.count c.are_registers.ensures.registers in
    let runs = runs_as (accepted_tree c.args.accepted.now) c.args.accepted.now.image c.args.accepted.now.certificate (local_of c.args.areas.now c.args.context.now) thread globals
    c.args.accepted.now.program.well_scoped c.are_sound.ensures.valid form stands c.requires.ready.behind in
    source_answer (accepted_tree c.args.accepted.now) c.args.accepted.now.image c.args.accepted.now.certificate c.args.accepted.now.program.well_scoped c.are_sound.ensures.valid _
    c.run_turns-segment.result (local_of c.args.areas.now c.args.context.now) _ c.args.fuel.now.left c.run_turns-segment.new.fuel.left runs c.run_turns-segment.ensures.machine
