use Rattle.segment_run.proofs.Common.{Some, sym, ap, ◌∙◌, Fit}
use Rattle.segment_run.proofs.SpotWords.{loaded-on, loaded-none}
use Rattle.segment_run.proofs.areas.AreasMemory.load_word.Goals as goal

pub returns-in-Some : goal.returns-in-Some
returns-in-Some c =
    let kept = c.spot.ensures.kept in
    let fit : Fit c.args.self.now = record { pool = kept.pool; globals = kept.globals; tables = kept.tables; global_words = kept.global_words } in
    ap Some c.word_on.ensures
    ∙ sym (loaded-on c.args.self.now c.args.address c.in-Some.spot fit kept.table_words c.requires c.in-Some.ensures.on)

pub returns-in-None : goal.returns-in-None
returns-in-None c = loaded-none c.args.self.now c.args.address c.in-None.ensures.spot
