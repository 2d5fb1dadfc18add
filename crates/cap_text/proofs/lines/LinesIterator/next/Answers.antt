use Rattle.cap_text.proofs.Common.{◌≡◌, [], ◌∷◌, ◌+◌, take, sym, ◌∙◌, ap, take_rest, lines_of}
use Rattle.cap_text.proofs.LineLaws.{line_at, line_to_end, none_left, some_left, fewer}
use Rattle.cap_text.proofs.lines.LinesIterator.next.Goals as goal

pub returns-then-is_empty-clause-steps : goal.returns-then-is_empty-clause-steps
returns-then-is_empty-clause-steps c =
    let none : c.args.self.now ≡ [] = sym c.self.view_is ∙ none_left _ c.if-is_empty.ensures in (none, none)

pub returns-in-Some-clause-steps : goal.returns-in-Some-clause-steps
returns-in-Some-clause-steps c =
    let line = line_at c.self.inside.rest.now c.in-Some.end c.in-Some.ensures in
    sym c.self.view_is ∙ line.1 ∙ ap (λ x. take c.in-Some.end c.self.inside.rest.now ∷ lines_of x) (sym (take_rest c.self.inside.rest.now (c.in-Some.end + 1)))

pub returns-in-Some-clause-goes : goal.returns-in-Some-clause-goes
returns-in-Some-clause-goes c =
    let e = fewer _ _ _ (returns-in-Some-clause-steps c) in record { on = λ _. (tt, tt, e); keeps = tt; rests = λ _. tt }

pub returns-in-None-clause-steps : goal.returns-in-None-clause-steps
returns-in-None-clause-steps c = sym c.self.view_is ∙ line_to_end c.self.inside.rest.now c.in-None.ensures (some_left _ c.if-is_empty.ensures)

pub returns-in-None-clause-goes : goal.returns-in-None-clause-goes
returns-in-None-clause-goes c =
    let e = fewer _ _ _ (returns-in-None-clause-steps c) in record { on = λ _. (tt, tt, e); keeps = tt; rests = λ _. tt }
