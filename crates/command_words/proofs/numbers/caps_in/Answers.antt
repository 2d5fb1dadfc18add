use Rattle.std.proofs.Common.{◌∙◌, sym, refl, arith}
use Rattle.command_words.proofs.CapsSoFar.{one_more, no_cap, all_read, one_cap}
use Rattle.command_words.proofs.numbers.caps_in.Goals as goal

pub returns-in_default-cap-clause-none : goal.returns-in_default-cap-clause-none
returns-in_default-cap-clause-none c =
    no_cap c.args.text.now c.in-Some.field.now _ _ _ _ c.loop-field.invariant c.in-Some.ensures
    (λ resource most above small some few is. c.in_default-cap.ensures.none resource most (omega arith) small some few is)

pub returns-then-resource-below-clause-none : goal.returns-then-resource-below-clause-none
returns-then-resource-below-clause-none c =
    let found = c.in-Some-cap.ensures.found in
    no_cap c.args.text.now c.in-Some.field.now _ _ _ _ c.loop-field.invariant c.in-Some.ensures
    (λ resource most above small some few is.
    let one = one_cap c.in-Some-cap.resource c.in-Some-cap.most resource most found.2 small (sym found.0 ∙ is) in
    absurd (omega (arith, one.0)))

pub loop-field-preserved : goal.loop-field-preserved
loop-field-preserved c =
    let found = c.in-Some-cap.ensures.found in
    one_more c.args.text.now c.in-Some.field.now _ _ _ c.in-Some-cap.resource c.in-Some-cap.most _ _ c.loop-field.invariant c.in-Some.ensures
    found.0 (omega arith) found.2 found.3 found.4 refl

pub returns-clause-found : goal.returns-clause-found
returns-clause-found c = all_read c.args.text.now _ _ _ c.loop-field.invariant c.in_default.ensures.0
