use Rattle.segment_run.proofs.Common.{ap, ◌∙◌, is_writable_on, Fit}
use Rattle.segment_run.proofs.SpotWords.{stored-on, written_there}
use Rattle.segment_run.proofs.areas.Areas.put_word.Goals as goal

pub spot_on-spot-requires : goal.spot_on-spot-requires
spot_on-spot-requires c =
    let there = written_there c.args.self.now c.args.address c.requires.writable in
    (there.0, there.1)

pub returns : goal.returns
returns c =
    let kept = c.spot_on-spot.ensures.kept in
    let fit : Fit c.args.self.now = record { pool = kept.pool; globals = kept.globals; tables = kept.tables; global_words = kept.global_words } in
    let there = written_there c.args.self.now c.args.address c.requires.writable in
    c.write_on.ensures
    ∙ stored-on c.args.self.now c.args.address c.args.word c.spot_on-spot.result fit c.requires.aligned c.spot_on-spot.ensures.on (ap is_writable_on (c.spot_on-spot.ensures.spot ∙ there.1) ∙ there.2) c.ranges.word.fits
