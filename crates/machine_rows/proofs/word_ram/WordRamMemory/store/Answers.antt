use Rattle.std.proofs.Common.{ℕ, Some, None, cond, ltb, ap, ◌∙◌, ◌/◌, set, arith}
use Rattle.rv_machine.specs.WordBytes.{byte_in}
use Rattle.machine_rows.proofs.WordRows.{bytes_put}
use Rattle.machine_rows.proofs.word_ram.WordRamMemory.store.Goals as goal

pub returns-clause-bytes : goal.returns-clause-bytes
returns-clause-bytes c = λ at.
    ap (λ (word : ℕ). cond (ltb at 16) (Some (byte_in (set c.args.self.now.words (c.args.address / 4) word) at)) None) c.put_byte.ensures
    ∙ bytes_put c.args.self.now.words c.args.address c.args.byte at (omega arith) c.if-address-ge8.false c.ranges.byte.fits
