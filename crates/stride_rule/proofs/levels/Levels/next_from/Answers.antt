use Rattle.stride_rule.proofs.Common.{◌≡◌, ◌/◌, ◌%◌, false, sym, ◌∙◌, rules, get_or_default, row_at, may_help, summary_at}
use Rattle.stride_rule.proofs.LevelLemmas.{block_16, block_256, passed_block}
use Rattle.stride_rule.proofs.levels.Levels.next_from.Goals as goal

pub returns-then-not-may_help-2-clause-passed : goal.returns-then-not-may_help-2-clause-passed
returns-then-not-may_help-2-clause-passed c = λ ps are other from to below.
    let level = c.args.self.now.middle.items in
    let is = c.index-then-place-eq0-2.ensures ∙ get_or_default level (c.args.place / 256) c.index-then-place-eq0-2.result.now _ c.requires.there.middle in
    let none : may_help c.args.bounds.now c.args.best.now (summary_at level (c.args.place / 256)) ≡ false = rw is at (sym c.if-not-may_help-2.ensures) in
    let start : c.args.place % 256 ≡ 0 = search rules in
    passed_block c.args.bounds.now c.args.best.now level (c.args.place / 256) (other / 256) (row_at ps other) none (block_256 c.args.place other start from to) (are.middle other below)

pub returns-then-not-may_help-3-clause-passed : goal.returns-then-not-may_help-3-clause-passed
returns-then-not-may_help-3-clause-passed c = λ ps are other from to below.
    let level = c.args.self.now.small.items in
    let is = c.index-2.ensures ∙ get_or_default level (c.args.place / 16) c.index-2.result.now _ c.requires.there.small in
    let none : may_help c.args.bounds.now c.args.best.now (summary_at level (c.args.place / 16)) ≡ false = rw is at (sym c.if-not-may_help-3.ensures) in
    let start : c.args.place % 16 ≡ 0 = search rules in
    passed_block c.args.bounds.now c.args.best.now level (c.args.place / 16) (other / 16) (row_at ps other) none (block_16 c.args.place other start from to) (are.small other below)
