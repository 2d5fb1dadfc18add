use Rattle.std.proofs.Common.{ℕ, ◌+◌, ◌-◌, ◌*◌, ◌/◌, ◌%◌, ◌<◌, ◌^◌, sym, subst, arith, Fits, w32}
use Rattle.segment_run.proofs.Scales.{scale_is, byte_below}
use Rattle.rv_machine.proofs.WordBytes.{word_with-below}
use Rattle.machine_rows.proofs.word_ram.put_byte.Goals as goal

pub overflow_mul-result-2 : goal.overflow_mul-result-2
overflow_mul-result-2 c =
    let byte : c.from.result < 2 ^ 8 = omega (arith, c.from.ensures) in
    let fits = byte_below c.args.k c.from.result c.requires byte in
    subst (λ (s : ℕ). Fits w32 (c.from.result * s)) (sym (scale_is c.args.k c.requires)) (omega (arith, fits))

pub overflow_add-result : goal.overflow_add-result
overflow_add-result c =
    let byte : c.from.result < 2 ^ 8 = omega (arith, c.from.ensures) in
    let fits = word_with-below c.args.word c.args.k c.from.result c.requires byte c.ranges.word.fits in
    subst (λ (s : ℕ). Fits w32 (c.args.word - c.args.word / s % 256 * s + c.from.result * s)) (sym (scale_is c.args.k c.requires)) (omega (arith, fits))
