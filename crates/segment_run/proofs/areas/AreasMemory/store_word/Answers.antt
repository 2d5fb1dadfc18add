use Rattle.segment_run.proofs.Common.{◌≡◌, true, ap, sym, ◌∙◌, Areas, byte_at, is_writable, is_writable_on, option_map, with_byte, with_word, word_is_writable, Fit, world_spot}
use Rattle.segment_run.proofs.SpotWords.{unwritable-word, writable-on, stored-on, written-word}
use Rattle.segment_run.proofs.areas.AreasMemory.store_word.Goals as goal
use Rattle.segment_run.proofs.areas.AreasMemory.store_word.Goals.{After-write_on}

-- the word may be written, and then it was
stores : (c : After-write_on) →
    (word_is_writable (is_writable c.args.self.now) c.args.address ≡ true) ×
    (c.write_on.new.self ≡ with_word with_byte c.args.self.now c.args.address c.args.word)
stores c =
    let kept = c.spot.ensures.kept in
    let fit : Fit c.args.self.now = record { pool = kept.pool; globals = kept.globals; tables = kept.tables; global_words = kept.global_words } in
    let may = sym c.is_writable.ensures ∙ c.if-is_writable.true in (
      writable-on c.args.self.now c.args.address c.in-Some.spot fit c.requires c.in-Some.ensures.on may,
      c.write_on.ensures ∙ stored-on c.args.self.now c.args.address c.args.word c.in-Some.spot fit c.requires c.in-Some.ensures.on may c.ranges.word.fits,
    )

pub returns-in-Some-clause-answer : goal.returns-in-Some-clause-answer
returns-in-Some-clause-answer c = sym (stores c).0

pub returns-in-Some-clause-whole : goal.returns-in-Some-clause-whole
returns-in-Some-clause-whole c = (stores c).1

pub returns-in-Some-clause-bytes : goal.returns-in-Some-clause-bytes
returns-in-Some-clause-bytes c = λ at.
    let written = written-word c.args.self.now c.args.address c.args.word c.spot.ensures.kept.pool (stores c).0 c.ranges.word.fits in
    ap (λ (areas : Areas). byte_at areas at) (stores c).1 ∙ written.bytes_are at

pub returns-in-Some-clause-writable : goal.returns-in-Some-clause-writable
returns-in-Some-clause-writable c = λ at.
    let written = written-word c.args.self.now c.args.address c.args.word c.spot.ensures.kept.pool (stores c).0 c.ranges.word.fits in
    ap (λ (areas : Areas). is_writable areas at) (stores c).1 ∙ written.writable at

pub returns-in_default-clause-answer : goal.returns-in_default-clause-answer
returns-in_default-clause-answer c =
    unwritable-word c.args.self.now c.args.address (ap is_writable_on (sym c.in-Some.ensures.spot) ∙ sym c.is_writable.ensures ∙ c.if-is_writable.false)

pub returns-in_default-2-clause-answer : goal.returns-in_default-2-clause-answer
returns-in_default-2-clause-answer c =
    unwritable-word c.args.self.now c.args.address (ap is_writable_on (sym c.spot.ensures.spot ∙ ap (option_map world_spot) c.in_default.is))
