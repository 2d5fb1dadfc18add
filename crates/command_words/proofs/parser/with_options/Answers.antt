use Rattle.command_words.proofs.Common.{option_rule}
use Rattle.command_words.proofs.Chain.{all_arguments, more_arguments}
use Rattle.command_words.proofs.parser.with_options.Goals as goal

pub loop-option-preserved : goal.loop-option-preserved
loop-option-preserved c =
    more_arguments option_rule c.loop-option.command c.argument.result c.in_ok-command.command _ c.args.options.now c.loop-option.option-index _
    c.in_ok-command.ensures c.argument.ensures.local c.loop-option.invariant c.loop-option-test.true
    (rw (c.row-row.ensures.name, c.row-row.ensures.long) at c.argument.ensures.rule)

pub returns : goal.returns
returns c =
    all_arguments option_rule c.loop-option.command _ c.args.options.now c.loop-option.option-index c.loop-option.invariant c.loop-option-test.false
