use Rattle.segment_run.proofs.Common.{◌≡◌, ◌∙◌, ℕ, List, ap, sym, subst, refl, arith, Ok, accepted_tree, Instr, instruction_at, core_of, Image}
use Rattle.segment_run.proofs.Behind.{behind_call, at_ecall, aligned_low}
use Rattle.segment_run.proofs.walking.ecall_of.Goals as goal

pub is_ecall-requires-clause-aligned : goal.is_ecall-requires-clause-aligned
is_ecall-requires-clause-aligned c =
    (aligned_low (accepted_tree c.args.accepted.now) c.args.accepted.now.image c.args.accepted.now.certificate c.args.accepted.now.program.well_scoped c.image.ensures.valid c.args.pool.now (core_of c.args.pool.now c.args.context.now) c.requires.rests c.requires.around).0

pub is_ecall-requires-clause-low : goal.is_ecall-requires-clause-low
is_ecall-requires-clause-low c =
    let low = (aligned_low (accepted_tree c.args.accepted.now) c.args.accepted.now.image c.args.accepted.now.certificate c.args.accepted.now.program.well_scoped c.image.ensures.valid c.args.pool.now (core_of c.args.pool.now c.args.context.now) c.requires.rests c.requires.around).1 in
    omega (arith, low)

pub returns-then-is_ecall-clause-behind : goal.returns-then-is_ecall-clause-behind
returns-then-is_ecall-clause-behind c f i word op place frames past =
    let is = behind_call (accepted_tree c.args.accepted.now) c.args.accepted.now.image c.args.accepted.now.certificate c.args.accepted.now.program.well_scoped c.image.ensures.valid c.args.pool.now (core_of c.args.pool.now c.args.context.now) f i word op place frames past in
    let code = c.as_slice.ensures ∙ ap (λ (x : Image). x.code) c.image.ensures.value in
    let ecall = subst (λ (x : List ℕ). instruction_at x c.args.context.now.pc ≡ Ok Instr.Ecall) code (c.if-is_ecall.ensures.0 refl) in
    absurd (is.no_ecall ecall)

pub returns-else-is_ecall-clause-at : goal.returns-else-is_ecall-clause-at
returns-else-is_ecall-clause-at c f i word op frames at =
    let is = at_ecall (accepted_tree c.args.accepted.now) c.args.accepted.now.image c.args.accepted.now.certificate c.args.accepted.now.program.well_scoped c.image.ensures.valid c.args.pool.now (core_of c.args.pool.now c.args.context.now) f i word op frames at in
    let code = c.as_slice.ensures ∙ ap (λ (x : Image). x.code) c.image.ensures.value in
    let bad = c.if-is_ecall.ensures.1 (subst (λ (x : List ℕ). instruction_at x c.args.context.now.pc ≡ Ok Instr.Ecall) (sym code) is) in
    absurd (cc)

pub returns-else-is_ecall-clause-behind : goal.returns-else-is_ecall-clause-behind
returns-else-is_ecall-clause-behind c f i word op place frames past =
    let low = (aligned_low (accepted_tree c.args.accepted.now) c.args.accepted.now.image c.args.accepted.now.certificate c.args.accepted.now.program.well_scoped c.image.ensures.valid c.args.pool.now (core_of c.args.pool.now c.args.context.now) c.requires.rests c.requires.around).1 in
    omega (arith, low)
