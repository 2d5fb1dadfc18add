use Rattle.segment_run.proofs.Common.{refl, sym, subst, ◌∙◌, arith, Local, local_step, system_call, checked_of, code_of, IsSafe, IsSafeMove, thread_of, IsUnderWay}
use Rattle.segment_run.proofs.Instructions.{IsAsked, went, asked, failed, stands_at}
use Rattle.segment_run.proofs.UnderWay.{safe_now, goes_on, stays_safe, way_then}
use Rattle.segment_run.proofs.running.run_to_call.Goals as goal
use Rattle.segment_run.proofs.running.run_to_call.Goals.{After-run_ready-progress, In-Call}

pub run_ready-progress-requires-clause-safe : goal.run_ready-progress-requires-clause-safe
run_ready-progress-requires-clause-safe c = stays_safe _ _ _ _ c.args.fuel c.loop-left.left c.requires.safe c.loop-left.invariant

-- the thread is under way after the ready operations
way : (c : After-run_ready-progress) →
    IsUnderWay (checked_of c.args.accepted.now) (code_of c.args.accepted.now) (thread_of c.args.areas.now c.args.thread) c.args.fuel
    (thread_of c.run_ready-progress.new.areas (record c.args.thread { regs = c.run_ready-progress.result.regs })) c.run_ready-progress.result.left
way c = way_then _ _ _ _ _ _ _ _ c.loop-left.invariant c.run_ready-progress.ensures

-- and safe
safe : (c : After-run_ready-progress) → IsSafe (checked_of c.args.accepted.now) (code_of c.args.accepted.now)
    (thread_of c.run_ready-progress.new.areas (record c.args.thread { regs = c.run_ready-progress.result.regs }))
safe c = safe_now _ _ _ _ _ _ c.requires.safe (way c)

pub returns-then-left-eq0-clause-way : goal.returns-then-left-eq0-clause-way
returns-then-left-eq0-clause-way c = way (goal.at.returns-then-left-eq0-clause-way c).After-run_ready-progress

pub fetch-instr-requires : goal.fetch-instr-requires
fetch-instr-requires c =
    let at = stands_at _ _ _ (safe (goal.at.fetch-instr-requires c).After-run_ready-progress) in
    record { there = (code_of c.args.accepted.now, at.0, c.instrs-instrs.ensures, at.1) }

pub loop-left-smaller : goal.loop-left-smaller
loop-left-smaller c = omega (arith, c.run_ready-progress.ensures.fuel, c.if-left-eq0.false)

pub loop-left-preserved : goal.loop-left-preserved
loop-left-preserved c =
    let code = code_of c.args.accepted.now in
    let under = way (goal.at.loop-left-preserved c).After-run_ready-progress in
    let there = c.fetch-instr.ensures code c.instrs-instrs.ensures in
    let goes = went code _ _ (record c.args.thread { regs = c.run_ready-progress.result.regs }) _ _
    (record { outcome_is = refl; registers = c.in-Went.ensures.registers code there; memory = c.in-Went.ensures.whole code there })
    under.form.areas.pool under.form.core (c.in-Went.ensures.answer code there) in
    goes_on _ code _ _ _ _ _ _ c.requires.formed c.requires.safe under goes (omega (arith, c.if-left-eq0.false))

-- it is at the ECALL of a call
at_call : (c : In-Call) →
    IsAsked (code_of c.args.accepted.now) c.run_ready-progress.new.areas c.step_of.new.memory (record c.args.thread { regs = c.run_ready-progress.result.regs })
    c.step_of.new.regs c.in-Call.number
at_call c =
    let code = code_of c.args.accepted.now in
    let there = c.fetch-instr.ensures code c.instrs-instrs.ensures in
    asked code _ _ _ _ c.in-Call.number _
    (record { outcome_is = refl; registers = c.in-Call.ensures.registers code there; memory = c.in-Call.ensures.whole code there })
    (c.in-Call.ensures.answer code there)

pub returns-in-Call-clause-way : goal.returns-in-Call-clause-way
returns-in-Call-clause-way c =
    let is = at_call c in
    let start = thread_of c.args.areas.now c.args.thread in
    let left = c.run_ready-progress.result.left in
    subst (λ (reached : Local). IsUnderWay (checked_of c.args.accepted.now) (code_of c.args.accepted.now) start c.args.fuel reached left)
    (λ i. thread_of (sym is.areas_are i) (record c.args.thread { regs = sym is.registers_are i }))
    (way (goal.at.returns-in-Call-clause-way c).After-run_ready-progress)

pub returns-in-Call-clause-calls : goal.returns-in-Call-clause-calls
returns-in-Call-clause-calls c =
    let is = at_call c in
    record {
      fuel = omega (arith, c.if-left-eq0.false);
      calls = (λ i. local_step (code_of c.args.accepted.now) (thread_of (is.areas_are i) (record c.args.thread { regs = is.registers_are i })))
          ∙ is.calls
          ∙ (λ i. system_call (thread_of (sym is.areas_are i) (record c.args.thread { regs = sym is.registers_are i })) c.in-Call.number);
    }

pub unreachable-requires : goal.unreachable-requires
unreachable-requires c =
    let code = code_of c.args.accepted.now in
    let there = c.fetch-instr.ensures code c.instrs-instrs.ensures in
    let wrong = failed code _ _ (record c.args.thread { regs = c.run_ready-progress.result.regs }) _ c.in-Fault.pc c.in-Fault.kind _
    (record { outcome_is = refl; registers = c.in-Fault.ensures.registers code there; memory = c.in-Fault.ensures.whole code there }) (c.in-Fault.ensures.answer code there) in
    subst (IsSafeMove (checked_of c.args.accepted.now) _) wrong (safe (goal.at.unreachable-requires c).After-run_ready-progress).move
