use Rattle.grammar_reader.proofs.Common.{inl, inr, IfOk-weaker, IfErr-weaker}
use Rattle.grammar_reader.proofs.cursor.Cursor.open_with.Goals as goal
use Rattle.grammar_reader.proofs.Paths.{sign_is, sign_other}

pub returns-then-eq-clause-opened : goal.returns-then-eq-clause-opened
returns-then-eq-clause-opened c = IfOk-weaker c.open.result _ _ (λ inside h. (h.0, record { is_next = sign_is c.sign.ensures c.if-eq.ensures; behind = h.1 })) c.open.ensures.taken

pub returns-then-eq-clause-refused : goal.returns-then-eq-clause-refused
returns-then-eq-clause-refused c = IfErr-weaker c.open.result _ _ (λ error h. inr (h.0, sign_is c.sign.ensures c.if-eq.ensures, h.1)) c.open.ensures.deep

pub returns-else-eq-clause-refused : goal.returns-else-eq-clause-refused
returns-else-eq-clause-refused c = inl (c.unexpected.ensures, sign_other c.sign.ensures c.if-eq.ensures)
