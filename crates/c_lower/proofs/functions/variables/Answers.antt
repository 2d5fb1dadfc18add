use Rattle.c_lower.proofs.Common.{[], ◌∷◌, ◌++◌, ◌∙◌, append_assoc, ap, scalars}
use Rattle.c_lower.proofs.FormedPrograms.{scalars_push}
use Rattle.c_lower.proofs.functions.variables.Goals as goal

pub loop-preserved : goal.loop-preserved
loop-preserved c =
    c.in_ok-push.ensures.items
    ∙ (ap (λ words. words ++ (1 ∷ [])) c.loop.invariant
    ∙ (append_assoc c.args.sizes.now (scalars c.loop.counter) (1 ∷ []) ∙ ap (λ more. c.args.sizes.now ++ more) (scalars_push c.loop.counter)))
