use Rattle.std.proofs.Common.{arith}
use Rattle.machine_rows.proofs.WordRows.{word_at-words, word_at-past}
use Rattle.machine_rows.proofs.word_ram.WordRamMemory.load_word.Goals as goal

pub returns-then-address-ge16 : goal.returns-then-address-ge16
returns-then-address-ge16 c = word_at-past c.args.self.now.words c.args.address c.if-address-ge16.true

pub returns : goal.returns
returns c = word_at-words c.args.self.now.words c.args.address c.requires c.if-address-ge16.false (omega arith)
