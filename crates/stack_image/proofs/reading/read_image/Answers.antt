use Rattle.stack_image.proofs.Common.{◌∙◌, sym, ap, subst, arith, spelling, IsWithinLimits, HoldsWords, refusal_of, image_of}
use Rattle.stack_image.proofs.WordBytes.{IsBytes}
use Rattle.stack_image.proofs.NoRefusal.{refused_by_nothing}
use Rattle.stack_image.proofs.Spelled.{spelled, image_of-limits, image_of-words}
use Rattle.stack_image.proofs.ReadAgain.{spelling_not_refused, image_of-spelling}
use Rattle.stack_image.proofs.reading.read_image.Goals as goal

pub returns-in-Some-clause-again : goal.returns-in-Some-clause-again
returns-in-Some-clause-again c = λ image limits fits e. let h = c.in-Some.ensures in let k = ap refusal_of e ∙ spelling_not_refused image limits in absurd cc

pub image_of-requires : goal.image_of-requires
image_of-requires c = (refused_by_nothing c.args.bytes.now (sym c.refusal.ensures ∙ c.in_default.is)).end

pub returns-clause-spelled : goal.returns-clause-spelled
returns-clause-spelled c =
    let fits : IsBytes c.args.bytes.now = λ i. omega (arith, c.type_inv.bytes i) in
    let none = refused_by_nothing c.args.bytes.now (sym c.refusal.ensures ∙ c.in_default.is) in
    spelled c.args.bytes.now fits none ∙ ap spelling (sym c.in_ok-image_of.ensures)

pub returns-clause-limits : goal.returns-clause-limits
returns-clause-limits c =
    let none = refused_by_nothing c.args.bytes.now (sym c.refusal.ensures ∙ c.in_default.is) in
    subst IsWithinLimits (sym c.in_ok-image_of.ensures) (image_of-limits c.args.bytes.now none)

pub returns-clause-words : goal.returns-clause-words
returns-clause-words c =
    let fits : IsBytes c.args.bytes.now = λ i. omega (arith, c.type_inv.bytes i) in
    subst HoldsWords (sym c.in_ok-image_of.ensures) (image_of-words c.args.bytes.now fits)

pub returns-clause-again : goal.returns-clause-again
returns-clause-again c = λ image limits fits e. c.in_ok-image_of.ensures ∙ ap image_of e ∙ image_of-spelling image limits fits
