use Rattle.command_words.proofs.Common.{◌∙◌, refl, sym, bytes_eq-Decides}
use Rattle.command_words.proofs.Named.{named}
use Rattle.command_words.proofs.refusals.is_named.Goals as goal

pub returns-then-eq : goal.returns-then-eq
returns-then-eq c =
    let same = (bytes_eq-Decides c.row.result.name.now c.args.word.now).0 (sym c.eq.ensures ∙ c.if-eq.true) in (
      (λ _. c.loop-option.invariant.1 (named c.args.options.now c.loop-option.option-index _ c.args.word.now c.loop-option-test.true
          (sym c.row.ensures.name ∙ same))),
      (λ _. refl),
    )
