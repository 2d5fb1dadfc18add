use Rattle.grammar_reader.proofs.Common.{IfOk-weaker, IfErr-weaker}
use Rattle.grammar_reader.proofs.Paths.{arm_is}
use Rattle.grammar_reader.proofs.LoopRules.{init_none, init_locals, init_locals_refused}
use Rattle.grammar_reader.proofs.loops.for_init.Goals as goal

pub returns-in-Semicolon-clause-read : goal.returns-in-Semicolon-clause-read
returns-in-Semicolon-clause-read c = rw c.new.ensures.items (init_none _ _ _ _ _ c.requires (arm_is c.sign.ensures c.in-Semicolon.is) c.pass.ensures)

pub returns-in-Int-clause-read : goal.returns-in-Int-clause-read
returns-in-Int-clause-read c = IfOk-weaker c.locals.result _ _ (λ x h. init_locals _ _ _ _ _ _ c.requires (arm_is c.sign.ensures c.in-Int.is) h) c.locals.ensures.read

pub returns-in-Int-clause-refused : goal.returns-in-Int-clause-refused
returns-in-Int-clause-refused c = IfErr-weaker c.locals.result _ _ (λ error h. init_locals_refused _ _ _ _ c.requires (arm_is c.sign.ensures c.in-Int.is) h) c.locals.ensures.refused
