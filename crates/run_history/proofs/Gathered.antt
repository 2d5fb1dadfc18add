-- The lists and counts of what a log tells, when one entry more has told something.
use Rattle.run_history.proofs.Common.{◌≡◌, ◌∙◌, ℕ, ◌+◌, ◌-◌, List, [], ◌∷◌, ◌++◌, Option, Some, None, ap, map, sym, refl, max, append_assoc, arith, Arrive, Data, Happening, Came, Lost, Started, Waited, Put, Ran, Nothing, answered_at, clocks_in, most_held, arrivals_from, requests_dropped, drops_request, map-append, Window, is_told, told_of, with_ticks, Answers, with_answer, answers_from, ByThread, Numbers, is_event, take_of, takes, takers, taken, wait_lengths, IsNumbersOf, IsOneMore}
use Rattle.std.specs.Prelude.{count_by, cond, fold}
use Rattle.std.proofs.lemmas.List.Elements.{filter-append}
use Rattle.std.proofs.lemmas.List.Sums.{sum_by-append, fold-append}
use Rattle.run_history.specs.Longest.{longer_at}
use Rattle.run_history.specs.declared.happenings.Wait.{Wait}
use Rattle.run_history.specs.declared.waits.WaitLength.{WaitLength}

-- lists that grow at their end
pub takes-append : (told more : List Happening) → takes (told ++ more) ≡ takes told ++ takes more
takes-append [] more = refl
takes-append (Came clock item ∷ told) more = takes-append told more
takes-append (Lost clock item ∷ told) more = takes-append told more
takes-append (Started thread clock ∷ told) more = takes-append told more
takes-append (Waited wait ∷ told) more =
    ap (λ rest. take_of wait wait.request ++ rest) (takes-append told more) ∙ sym (append_assoc (take_of wait wait.request) (takes told) (takes more))
takes-append (Put thread value ∷ told) more = takes-append told more
takes-append (Ran segment free ∷ told) more = takes-append told more
takes-append (Nothing ∷ told) more = takes-append told more

pub wait_lengths-append : (told more : List Happening) → wait_lengths (told ++ more) ≡ wait_lengths told ++ wait_lengths more
wait_lengths-append [] more = refl
wait_lengths-append (Came clock item ∷ told) more = wait_lengths-append told more
wait_lengths-append (Lost clock item ∷ told) more = wait_lengths-append told more
wait_lengths-append (Started thread clock ∷ told) more = wait_lengths-append told more
wait_lengths-append (Waited wait ∷ told) more =
    ap (λ (rest : List WaitLength). record { site = wait.site; thread = wait.thread; ticks = wait.until - wait.since; until = wait.until } ∷ rest) (wait_lengths-append told more)
wait_lengths-append (Put thread value ∷ told) more = wait_lengths-append told more
wait_lengths-append (Ran segment free ∷ told) more = wait_lengths-append told more
wait_lengths-append (Nothing ∷ told) more = wait_lengths-append told more

pub answered_at-append : (request : ℕ) (told more : List Happening) → answered_at request (told ++ more) ≡ answered_at request told ++ answered_at request more
answered_at-append request [] more = refl
answered_at-append request (Came clock item ∷ told) more = answered_at-append request told more
answered_at-append request (Lost clock item ∷ told) more = answered_at-append request told more
answered_at-append request (Started thread clock ∷ told) more = answered_at-append request told more
answered_at-append request (Waited wait ∷ told) more = answered_at-append request told more
answered_at-append request (Put thread value ∷ told) more = answered_at-append request told more
answered_at-append request (Ran segment free ∷ told) more =
    ap (λ rest. clocks_in request segment ++ rest) (answered_at-append request told more) ∙ sym (append_assoc (clocks_in request segment) (answered_at request told) (answered_at request more))
answered_at-append request (Nothing ∷ told) more = answered_at-append request told more

-- answers at clocks, and then at more
pub answers_from-append : (before : Option Answers) (clocks more : List ℕ) → answers_from before (clocks ++ more) ≡ answers_from (answers_from before clocks) more
answers_from-append before [] more = refl
answers_from-append before (at ∷ clocks) more = answers_from-append (Some (with_answer before at)) clocks more

-- the most chunks of two stretches are the more of both
pub most_held-append : (chunks : ℕ) (told more : List Happening) → most_held chunks (told ++ more) ≡ max (most_held chunks told) (most_held chunks more)
most_held-append chunks [] more = omega arith
most_held-append chunks (Came clock item ∷ told) more = most_held-append chunks told more
most_held-append chunks (Lost clock item ∷ told) more = most_held-append chunks told more
most_held-append chunks (Started thread clock ∷ told) more = most_held-append chunks told more
most_held-append chunks (Waited wait ∷ told) more = most_held-append chunks told more
most_held-append chunks (Put thread value ∷ told) more = most_held-append chunks told more
most_held-append chunks (Ran segment free ∷ told) more = omega (arith, most_held-append chunks told more)
most_held-append chunks (Nothing ∷ told) more = most_held-append chunks told more

pub arrivals_from-append : (line : ℕ) (told more : List Happening) → arrivals_from line (told ++ more) ≡ arrivals_from line told ++ arrivals_from (line + count_by is_event told) more
arrivals_from-append line [] more = ap (λ n. arrivals_from n more) (omega arith)
arrivals_from-append line (Came clock (Arrive value) ∷ told) more =
    let one = sum_by-append (λ x. cond (is_event x) 1 0) (Came clock (Arrive value) ∷ []) told in
    ap (λ rest. line ∷ rest) (arrivals_from-append (line + 1) told more ∙ ap (λ n. arrivals_from (line + 1) told ++ arrivals_from n more) (omega (arith, one)))
arrivals_from-append line (Came clock (Data channel value) ∷ told) more =
    let one = sum_by-append (λ x. cond (is_event x) 1 0) (Came clock (Data channel value) ∷ []) told in
    arrivals_from-append (line + 1) told more ∙ ap (λ n. arrivals_from (line + 1) told ++ arrivals_from n more) (omega arith)
arrivals_from-append line (Lost clock item ∷ told) more =
    let one = sum_by-append (λ x. cond (is_event x) 1 0) (Lost clock item ∷ []) told in
    arrivals_from-append (line + 1) told more ∙ ap (λ n. arrivals_from (line + 1) told ++ arrivals_from n more) (omega arith)
arrivals_from-append line (Started thread clock ∷ told) more = arrivals_from-append line told more
arrivals_from-append line (Waited wait ∷ told) more = arrivals_from-append line told more
arrivals_from-append line (Put thread value ∷ told) more = arrivals_from-append line told more
arrivals_from-append line (Ran segment free ∷ told) more = arrivals_from-append line told more
arrivals_from-append line (Nothing ∷ told) more = arrivals_from-append line told more

-- what is folded over the waits in a window, and over those of what is told next
folded-on : {B : Type 0} (f : B → WaitLength → B) (start : B) (window : Option Window) (told more : List Happening) →
    fold f start (told_of window (wait_lengths (told ++ more))) ≡ fold f (fold f start (told_of window (wait_lengths told))) (told_of window (wait_lengths more))
folded-on f start window told more =
    ap (λ l. fold f start (told_of window l)) (wait_lengths-append told more)
    ∙ (ap (fold f start) (filter-append (λ (wait : WaitLength). is_told window wait.until) (wait_lengths told) (wait_lengths more))
    ∙ fold-append f start (told_of window (wait_lengths told)) (told_of window (wait_lengths more)))

-- what a log tells and one entry more
pub numbers_more : (window : Option Window) (chunks : ℕ) (before : List Happening) (told : Happening) (old new : Numbers) → IsNumbersOf ByThread window chunks before old → IsOneMore window chunks told old new → IsNumbersOf ByThread window chunks (before ++ told ∷ []) new
numbers_more window chunks before told old new was more = record {
  events = more.events ∙ (ap (λ n. n + count_by is_event (told ∷ [])) was.events ∙ sym (sum_by-append (λ x. cond (is_event x) 1 0) before (told ∷ [])));
  arrivals = more.arrivals ∙ (ap (λ l. l ++ arrivals_from old.events (told ∷ [])) was.arrivals ∙ (ap (λ n. arrivals_from 0 before ++ arrivals_from n (told ∷ [])) (let at : old.events ≡ 0 + count_by is_event before = omega (arith, was.events) in at) ∙ sym (arrivals_from-append 0 before (told ∷ []))));
  dropped = more.dropped ∙ (ap (λ n. n + requests_dropped (told ∷ [])) was.dropped ∙ sym (sum_by-append (λ x. cond (drops_request x) 1 0) before (told ∷ [])));
  takers = more.takers ∙ (ap (λ l. l ++ takers (told ∷ [])) was.takers ∙ sym (ap (map (λ (wait : Wait). wait.thread)) (takes-append before (told ∷ [])) ∙ map-append (λ (wait : Wait). wait.thread) (takes before) (takes (told ∷ []))));
  taken = more.taken ∙ (ap (λ l. l ++ taken (told ∷ [])) was.taken ∙ sym (ap (map (λ (wait : Wait). wait.until)) (takes-append before (told ∷ [])) ∙ map-append (λ (wait : Wait). wait.until) (takes before) (takes (told ∷ []))));
  answers = λ request. more.answers request
      ∙ (ap (λ a. answers_from a (answered_at request (told ∷ []))) (was.answers request)
      ∙ (sym (answers_from-append None (answered_at request before) (answered_at request (told ∷ [])))
      ∙ ap (answers_from None) (sym (answered_at-append request before (told ∷ [])))));
  waits = λ site. more.waits site ∙ (ap (λ l. fold (with_ticks site) l (told_of window (wait_lengths (told ∷ [])))) (was.waits site)
      ∙ sym (folded-on (with_ticks site) [] window before (told ∷ [])));
  longest = λ site. more.longest site ∙ (ap (λ l. fold (longer_at site) l (told_of window (wait_lengths (told ∷ [])))) (was.longest site)
      ∙ sym (folded-on (longer_at site) None window before (told ∷ [])));
  held = more.held ∙ (ap (λ n. max n (most_held chunks (told ∷ []))) was.held ∙ sym (most_held-append chunks before (told ∷ [])));
}
