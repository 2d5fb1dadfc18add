use Rattle.command_words.proofs.Common.{new_rule}
use Rattle.command_words.proofs.Chain.{all_arguments, more_arguments}
use Rattle.command_words.proofs.parser.with_places.Goals as goal

pub loop-name-preserved : goal.loop-name-preserved
loop-name-preserved c =
    more_arguments (λ name. new_rule name.now) c.loop-name.command c.argument.result c.in_ok-command.command _ c.args.names.now c.loop-name.name-index _
    c.in_ok-command.ensures c.argument.ensures.local c.loop-name.invariant c.loop-name-test.true c.argument.ensures.rule

pub returns : goal.returns
returns c =
    all_arguments (λ name. new_rule name.now) c.loop-name.command _ c.args.names.now c.loop-name.name-index c.loop-name.invariant c.loop-name-test.false
