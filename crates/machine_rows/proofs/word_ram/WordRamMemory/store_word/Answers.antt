use Rattle.std.proofs.Common.{◌≡◌, ℕ, List, length, get_or, sym, ap, ◌∙◌, ◌/◌, ◌^◌, ◌<◌, arith}
use Rattle.rv_machine.specs.Bytes.{with_word, with_half}
use Rattle.rv_machine.specs.WordBytes.{words_with}
use Rattle.rv_machine.proofs.Memories.{IsWritten-word}
use Rattle.rv_machine.proofs.WordBytes.{with_word-row}
use Rattle.machine_rows.specs.declared.word_ram.WordRam.{WordRam}
use Rattle.machine_rows.proofs.WordRows.{Four, bytes_at, first_eight, IsMemory-words, word_is_writable-in, word_is_writable-past}
use Rattle.machine_rows.proofs.word_ram.WordRamMemory.store_word.Goals as goal

pub returns-then-address-ge8-clause-answer : goal.returns-then-address-ge8-clause-answer
returns-then-address-ge8-clause-answer c = word_is_writable-past c.args.self.now.words c.args.address c.if-address-ge8.true

pub returns-clause-answer : goal.returns-clause-answer
returns-clause-answer c = sym (word_is_writable-in c.args.self.now.words c.args.address c.requires c.if-address-ge8.false)

pub returns-clause-bytes : goal.returns-clause-bytes
returns-clause-bytes c =
    let words = c.args.self.now.words in
    let a = c.args.address in
    let four : length words ≡ 4 = omega arith in
    let fits : get_or words (a / 4) 0 < 2 ^ 32 = omega arith in
    let new = with_word-row words a c.args.word c.requires (omega arith) fits c.ranges.word.fits in
    let written = IsWritten-word Four bytes_at first_eight words_with words a c.args.word IsMemory-words four
    (word_is_writable-in words a c.requires c.if-address-ge8.false) c.ranges.word.fits in
    λ at. ap (λ (ws : List ℕ). bytes_at ws at) (sym new) ∙ written.bytes_are at

pub returns-clause-whole : goal.returns-clause-whole
unfolding with_word with_half
returns-clause-whole c =
    let words = c.args.self.now.words in
    let a = c.args.address in
    let four : length words ≡ 4 = omega arith in
    let fits : get_or words (a / 4) 0 < 2 ^ 32 = omega arith in
    let ram : List ℕ → WordRam = λ ws. record { words = ws; free = c.args.self.now.free } in
    ap ram (sym (with_word-row words a c.args.word c.requires (omega arith) fits c.ranges.word.fits))
