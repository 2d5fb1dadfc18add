use Rattle.grammar_reader.proofs.Common.{◌≡◌, [], ◌∷◌, ap, ◌∙◌, IfOk-weaker, IfErr-weaker}
use Rattle.c_tree.specs.declared.raw_statements.RawSimple.{RawSimple}
use Rattle.grammar_reader.proofs.Paths.{exit}
use Rattle.grammar_reader.proofs.LoopRules.{init_refused, init_open_end, init_read}
use Rattle.grammar_reader.proofs.loops.simple_init.Goals as goal

pub returns-in_err-first-clause-refused : goal.returns-in_err-first-clause-refused
returns-in_err-first-clause-refused c = exit _ _ c.from_residual.ensures.1 (init_refused _ _ _ _ c.requires.fits c.requires.some c.requires.no_locals c.in_err-first.ensures.refused)

pub returns-in_err-first-2-clause-refused : goal.returns-in_err-first-2-clause-refused
returns-in_err-first-2-clause-refused c = exit _ _ c.from_residual-in_err-first-2.ensures.1 (init_open_end _ _ _ _ _ _ _ c.requires.fits c.in_ok-first.ensures.read c.in_err-first-2.ensures.place c.in_err-first-2.ensures.other)

pub returns-clause-read : goal.returns-clause-read
returns-clause-read c =
    IfOk-weaker c.alone.result _ _
    (λ init e.
    let same : init.items ≡ c.in_ok-first.first ∷ [] = e ∙ ap (λ (s : RawSimple). s ∷ []) c.in_ok-first-2.ensures.held in
    rw same (init_read _ _ _ _ _ _ _ c.requires.fits c.in_ok-first.ensures.read c.in_ok-first-2.ensures.taken))
    c.alone.ensures.held

pub returns-clause-refused : goal.returns-clause-refused
returns-clause-refused c = IfErr-weaker c.alone.result _ _ (λ error e other. absurd (other e)) c.alone.ensures.memory
