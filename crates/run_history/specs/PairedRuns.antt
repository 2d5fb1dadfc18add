-- Which outputs answer which requests over a whole run, if the user chooses.
use Rattle.std.specs.Prelude.{◌≡◌, ℕ, ℤ, List, [], ◌∷◌, Option, None}
use Rattle.run_history.specs.declared.answers.Answers.{Answers}
use Rattle.run_history.specs.declared.happenings.Happening.{Happening}
use Rattle.run_history.specs.declared.pairs.Pairs.{Pairs}
use Rattle.run_history.specs.Answers.{answers_at}
use Rattle.run_history.specs.Pairs.{answers_with, came_with, first_with, puts_with, value_with, waiting_in, waiting_with}

-- the number of words put, and the number of requests that came
abbrev pub put_after : ℕ → List Happening → ℕ
put_after put [] = put
put_after put (one ∷ told) = put_after (puts_with one put) told

abbrev pub came_after : ℕ → List Happening → ℕ
came_after came [] = came
came_after came (one ∷ told) = came_after (came_with one came) told

-- ---- output N answers request N

-- the requests that the segment at the end has answered so far
abbrev pub first_after : ℕ → List ℕ → List Happening → List ℕ
first_after put under_way [] = under_way
first_after put under_way (one ∷ told) = first_after (puts_with one put) (first_with one put under_way) told

-- the answers to a request
abbrev pub first_answers : ℕ → ℕ → List ℕ → Option Answers → List Happening → Option Answers
first_answers request put under_way before [] = before
first_answers request put under_way before (one ∷ told) =
    first_answers request (puts_with one put) (first_with one put under_way) (answers_with request one under_way before) told

-- these are the pairs of the happenings of a log
pub record ArePairsByOrder (told : List Happening) (pairs : Pairs) : Type 0 where
  pub put : pairs.put ≡ put_after 0 told
  pub under_way : pairs.under_way.items ≡ first_after 0 [] told
  pub answers : (request : ℕ) → answers_at pairs.answers request ≡ first_answers request 0 [] None told

-- ---- an output answers the oldest request of its value without an answer

-- the requests of a value without an answer
abbrev pub waiting_after : ℕ → (ℤ → List ℕ) → List Happening → ℤ → List ℕ
waiting_after came waiting [] value = waiting value
waiting_after came waiting (one ∷ told) value = waiting_after (came_with one came) (λ other. waiting_with one came other (waiting other)) told value

-- the requests that the segment at the end has answered so far
abbrev pub value_after : ℕ → (ℤ → List ℕ) → List ℕ → List Happening → List ℕ
value_after came waiting under_way [] = under_way
value_after came waiting under_way (one ∷ told) =
    value_after (came_with one came) (λ other. waiting_with one came other (waiting other)) (value_with one waiting under_way) told

-- the answers to a request
abbrev pub value_answers : ℕ → ℕ → (ℤ → List ℕ) → List ℕ → Option Answers → List Happening → Option Answers
value_answers request came waiting under_way before [] = before
value_answers request came waiting under_way before (one ∷ told) =
    value_answers request (came_with one came) (λ other. waiting_with one came other (waiting other))
    (value_with one waiting under_way) (answers_with request one under_way before) told

-- no request has come
abbrev pub none_waits : ℤ → List ℕ
none_waits value = []

-- these are the pairs of the happenings of a log
pub record ArePairsByValue (told : List Happening) (pairs : Pairs) : Type 0 where
  pub came : pairs.came ≡ came_after 0 told
  pub waiting : (value : ℤ) → waiting_in pairs.unanswered value ≡ waiting_after 0 none_waits told value
  pub under_way : pairs.under_way.items ≡ value_after 0 none_waits [] told
  pub answers : (request : ℕ) → answers_at pairs.answers request ≡ value_answers request 0 none_waits [] None told
