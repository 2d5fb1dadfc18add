use Rattle.stride_rule.proofs.LevelLemmas.{levels_renewed}
use Rattle.stride_rule.proofs.levels.Levels.renew.Goals as goal

pub returns : goal.returns
returns c =
    let are = levels_renewed c.args.self.now c.args.places.now c.args.place c.summary_of_places.result c.summary_of_level.result c.summary_of_level-2.result c.requires.but
    c.summary_of_places.ensures (rw c.deref.ensures.value at c.summary_of_level.ensures) (rw c.deref-2.ensures.value at c.summary_of_level-2.ensures) in
    record { small = are.small; middle = are.middle; large = are.large }
