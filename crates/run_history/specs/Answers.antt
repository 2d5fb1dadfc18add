-- The answers to a request, in the order of their clocks.
use Rattle.std.specs.Prelude.{ℕ, zero, suc, ◌+◌, List, [], ◌∷◌, Option, Some, None, get_or}
use Rattle.run_history.specs.declared.answers.AnswerList.{AnswerList}
use Rattle.run_history.specs.declared.answers.Answers.{Answers}
use Rattle.report_figures.specs.Ticks.{ticks_in}

-- one more answer, at that clock
abbrev pub with_answer : Option Answers → ℕ → Answers
with_answer None at = record { first = at; last = at; count = 1 }
with_answer (Some before) at = record { first = before.first; last = at; count = before.count + 1 }

-- the answers at these clocks, after earlier ones
abbrev pub answers_from : Option Answers → List ℕ → Option Answers
answers_from before [] = before
answers_from before (at ∷ clocks) = answers_from (Some (with_answer before at)) clocks

-- the answers from a first to a last one
abbrev pub answers_of : ℕ → ℕ → ℕ → Option Answers
answers_of first last zero = None
answers_of first last (suc count) = Some (record { first = first; last = last; count = suc count })

-- the answers to a request in a list by request number; none after the last place
abbrev pub answers_at : AnswerList → ℕ → Option Answers
answers_at kept request = answers_of (get_or (ticks_in kept.firsts) request 0) (get_or (ticks_in kept.lasts) request 0) (get_or kept.counts.items request 0)
