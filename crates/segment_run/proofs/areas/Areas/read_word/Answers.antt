use Rattle.segment_run.proofs.Common.{◌≡◌, Some, Ok, sym, ap, ◌∙◌, byte_at, Fit}
use Rattle.segment_run.proofs.ReadyTurns.{loaded_ok}
use Rattle.segment_run.proofs.SpotWords.{loaded-on, loaded_there}
use Rattle.segment_run.proofs.areas.Areas.read_word.Goals as goal

pub spot_on-spot-requires : goal.spot_on-spot-requires
spot_on-spot-requires c =
    loaded_there c.args.self.now c.args.address c.requires.0 (loaded_ok (byte_at c.args.self.now) c.args.address c.requires.0 c.requires.1).1

pub returns : goal.returns
returns c =
    let kept = c.spot_on-spot.ensures.kept in
    let fit : Fit c.args.self.now = record { pool = kept.pool; globals = kept.globals; tables = kept.tables; global_words = kept.global_words } in
    let there = loaded_ok (byte_at c.args.self.now) c.args.address c.requires.0 c.requires.1 in
    let both = sym there.1 ∙ loaded-on c.args.self.now c.args.address c.spot_on-spot.result fit kept.table_words there.0 c.spot_on-spot.ensures.on ∙ ap Some (sym c.word_on.ensures) in
    let same : c.requires.0 ≡ c.word_on.result = cc in
    c.requires.1 ∙ ap Ok same
