use Rattle.rule_failures.proofs.Common.{◌≡◌, ℕ, ◌+◌, ◌*◌, ◌<◌, Some, slice_get, Instr, program_code, begin, template, Stands}
use Rattle.rule_failures.proofs.operations.operation_stands.Given as goal

abbrev pub invariant-loop-word : goal.invariant-loop-word
invariant-loop-word l =
    (w : ℕ) (instr : Instr) → w < l.word → slice_get (template (program_code l.flat) l.certificate l.function l.op) w ≡ Some instr →
    Stands l.image (begin (program_code l.flat) l.certificate l.function l.op + 4 * w) instr
