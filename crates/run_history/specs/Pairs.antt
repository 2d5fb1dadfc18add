-- Which outputs answer which requests, if the user chooses.
use Rattle.std.specs.Prelude.{ℕ, ℤ, ◌+◌, List, [], ◌∷◌, ◌++◌, Option, Some, None, flat_map, take, drop, nat_eq, if◌then◌else◌}
use Rattle.std.specs.BTreeMap.{BTreeMap, get}
use Rattle.std.specs.Ordering.{int_cmp, int_eq}
use Rattle.std.specs.declared.collections.VecDeque.{VecDeque}
use Rattle.std.specs.VecDeque.{deque_items}
use Rattle.schedule_log.specs.declared.entries.Item.{Item}
use Rattle.schedule_log.specs.declared.entries.Item.TheVariants.{Arrive, Data}
use Rattle.run_history.specs.declared.answers.Answers.{Answers}
use Rattle.run_history.specs.declared.happenings.Happening.{Happening}
use Rattle.run_history.specs.declared.happenings.Happening.TheVariants.{Came, Put, Ran}
use Rattle.run_history.specs.Answers.{answers_from}

-- the clock of an answer to one request, if it is this one
abbrev pub clocks_for : ℕ → ℕ → ℕ → List ℕ
clocks_for request at one = if nat_eq one request then at ∷ [] else []

-- the clocks of the answers to a request, given the requests that are answered at one clock
abbrev pub clocks_of : ℕ → ℕ → List ℕ → List ℕ
clocks_of request at requests = flat_map (clocks_for request at) requests

-- the number of words put, with one more entry
abbrev pub puts_with : Happening → ℕ → ℕ
puts_with (Put thread value) put = put + 1
puts_with _ put = put

-- the requests that the outputs of the segment in progress answer: output N answers request N
abbrev pub first_with : Happening → ℕ → List ℕ → List ℕ
first_with (Put thread value) put under_way = under_way ++ put ∷ []
first_with (Ran segment free) put under_way = []
first_with _ put under_way = under_way

-- ---- an output answers the first request of its value without an answer

-- the number of requests that came, with one more event
abbrev pub came_item : Item → ℕ → ℕ
came_item (Arrive value) came = came + 1
came_item (Data channel value) came = came

abbrev pub came_with : Happening → ℕ → ℕ
came_with (Came clock item) came = came_item item came
came_with _ came = came

-- the requests of a value that came and have no answer, the oldest first, with one more event: the number of a request
-- is the number of those that came before it
abbrev pub waiting_item : Item → ℕ → ℤ → List ℕ → List ℕ
waiting_item (Arrive arrived) came value waiting = if int_eq arrived value then waiting ++ came ∷ [] else waiting
waiting_item (Data channel sent) came value waiting = waiting

-- the same with one more entry: an output of the value answers the oldest
abbrev pub waiting_with : Happening → ℕ → ℤ → List ℕ → List ℕ
waiting_with (Came clock item) came value waiting = waiting_item item came value waiting
waiting_with (Put thread put) came value waiting = if int_eq put value then drop 1 waiting else waiting
waiting_with _ came value waiting = waiting

-- the requests that the outputs of the segment in progress answer
abbrev pub value_with : Happening → (ℤ → List ℕ) → List ℕ → List ℕ
value_with (Put thread value) waiting under_way = under_way ++ take 1 (waiting value)
value_with (Ran segment free) waiting under_way = []
value_with _ waiting under_way = under_way

-- the requests of a value without an answer, as they are stored
abbrev pub waiting_of : {Z : Type 0} → Option (VecDeque ℕ Z) → List ℕ
waiting_of None = []
waiting_of (Some queue) = deque_items queue

abbrev pub waiting_in : {Z : Type 0} → BTreeMap ℤ (VecDeque ℕ Z) → ℤ → List ℕ
waiting_in open_requests value = waiting_of (get int_cmp open_requests value)

-- ---- both

-- the answers to a request: at the end of a segment, one for each time that the segment answers the request
abbrev pub answers_with : ℕ → Happening → List ℕ → Option Answers → Option Answers
answers_with request (Ran segment free) under_way before = answers_from before (clocks_of request segment.ended under_way)
answers_with request _ under_way before = before
