-- Which request an output answers, by the numbers of requests and outputs.
use Rattle.std.specs.Prelude.{◌≡◌, ℕ, zero, suc, ◌+◌, ◌-◌, ℤ, List, [], ◌∷◌, ◌++◌, Option, Some, None, if◌then◌else◌}
use Rattle.std.specs.Ordering.{int_eq}
use Rattle.schedule_log.specs.declared.entries.Item.TheVariants.{Arrive}
use Rattle.run_history.specs.declared.answers.Answers.{Answers}
use Rattle.run_history.specs.declared.happenings.Happening.{Happening}
use Rattle.run_history.specs.declared.happenings.Happening.TheVariants.{Came, Put, Ran}
use Rattle.run_history.specs.PairedRuns.{came_after, first_answers, none_waits, value_answers}

-- the clock at which the segment in progress ends, if a log has it: that of its outputs
abbrev pub end_of : List Happening → Option ℕ
end_of [] = None
end_of (Ran segment free ∷ told) = Some segment.ended
end_of (_ ∷ told) = end_of told

-- the clock of the output of that number, from 0
abbrev pub output_at : List Happening → ℕ → Option ℕ
output_at [] number = None
output_at (Put thread value ∷ told) zero = end_of told
output_at (Put thread value ∷ told) (suc number) = output_at told number
output_at (_ ∷ told) number = output_at told number

-- the same for the outputs of one value
abbrev pub output_of : ℤ → List Happening → ℕ → Option ℕ
output_of value [] number = None
output_of value (Put thread put ∷ told) zero = if int_eq put value then end_of told else output_of value told zero
output_of value (Put thread put ∷ told) (suc number) = if int_eq put value then output_of value told number else output_of value told (suc number)
output_of value (_ ∷ told) number = output_of value told number

-- the number of waiting requests of a value: each that comes waits, and each output of the value answers one, if any
-- waits
abbrev pub count_waiting : ℤ → ℕ → List Happening → ℕ
count_waiting value waiting [] = waiting
count_waiting value waiting (Came clock (Arrive arrived) ∷ told) = count_waiting value (if int_eq arrived value then waiting + 1 else waiting) told
count_waiting value waiting (Put thread put ∷ told) = count_waiting value (if int_eq put value then waiting - 1 else waiting) told
count_waiting value waiting (_ ∷ told) = count_waiting value waiting told

-- one answer at that clock, if there is one
abbrev pub answered_once : Option ℕ → Option Answers
answered_once None = None
answered_once (Some at) = Some (record { first = at; last = at; count = 1 })

-- by order, the request of a number has one answer: the output of that number
abbrev pub AnswersInOrder : Type 0
AnswersInOrder = (told : List Happening) (request : ℕ) → first_answers request 0 [] None told ≡ answered_once (output_at told request)

-- by value, a request that comes while n others of its value wait has one answer: output n of the following outputs of
-- its value
abbrev pub AnswersInTurn : Type 0
AnswersInTurn = (before after : List Happening) (clock : ℕ) (value : ℤ) →
    value_answers (came_after 0 before) 0 none_waits [] None (before ++ Came clock (Arrive value) ∷ after)
    ≡ answered_once (output_of value after (count_waiting value 0 before))
