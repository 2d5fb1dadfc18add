use Rattle.segment_run.proofs.Common.{◌≡◌, ℕ, ◌%◌, true, ap, sym, ◌∙◌, Areas, byte_at, is_writable, with_byte, byte_at-with_byte, spot_of-with_byte, is_writable_on, with_word_on, word_with}
use Rattle.segment_run.proofs.SpotWords.{byte_stored-on}
use Rattle.segment_run.proofs.areas.AreasMemory.store.Goals as goal
use Rattle.segment_run.proofs.areas.AreasMemory.store.Goals.{After-write_on}

whole : (c : After-write_on) → c.write_on.new.self ≡ with_byte c.args.self.now c.args.address c.args.byte
whole c =
    let old = c.args.self.now in
    let may = sym c.is_writable.ensures ∙ c.if-is_writable.true in
    c.write_on.ensures
    ∙ ap (with_word_on old c.in-Some.spot) (c.put_byte-word.ensures ∙ ap (λ (w : ℕ). word_with w (c.args.address % 4) c.args.byte) c.word_on.ensures)
    ∙ byte_stored-on old c.args.address c.args.byte c.in-Some.spot c.spot.ensures.kept.pool c.in-Some.ensures.on c.in-Some.ensures.spot may

pub returns-in-Some-clause-bytes : goal.returns-in-Some-clause-bytes
returns-in-Some-clause-bytes c = λ at.
    let old = c.args.self.now in
    let there : is_writable old c.args.address ≡ true = ap is_writable_on (sym c.in-Some.ensures.spot) ∙ sym c.is_writable.ensures ∙ c.if-is_writable.true in
    ap (λ (areas : Areas). byte_at areas at) (whole c) ∙ byte_at-with_byte old c.args.address c.args.byte at c.spot.ensures.kept.pool there c.ranges.byte.fits

pub returns-in-Some-clause-writable : goal.returns-in-Some-clause-writable
returns-in-Some-clause-writable c = λ at.
    ap (λ (areas : Areas). is_writable areas at) (whole c) ∙ ap is_writable_on (spot_of-with_byte c.args.self.now c.args.address c.args.byte at)
