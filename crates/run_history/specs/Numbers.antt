-- The numbers of a log's happenings.
use Rattle.std.specs.Prelude.{◌≡◌, ℕ, ◌+◌, ◌-◌, Bool, true, false, List, [], ◌∷◌, ◌++◌, Option, Some, None, count_by, fold, map, max}
use Rattle.std.specs.BTreeMap.{get}
use Rattle.std.specs.Ordering.{nat_cmp}
use Rattle.report_figures.specs.declared.windows.Window.{Window}
use Rattle.run_history.specs.declared.happenings.Wait.{Wait}
use Rattle.run_history.specs.declared.happenings.Happening.{Happening}
use Rattle.run_history.specs.declared.happenings.Happening.TheVariants.{Came, Lost, Waited}
use Rattle.run_history.specs.declared.answering.Answering.{Answering}
use Rattle.run_history.specs.AnsweredBy.{answers_by}
use Rattle.run_history.specs.Happenings.{requests_dropped, arrivals_from, answered_at, most_held}
use Rattle.run_history.specs.declared.numbers.Numbers.{Numbers}
use Rattle.run_history.specs.declared.waits.WaitLength.{WaitLength}
use Rattle.run_history.specs.Answers.{answers_from, answers_at}
use Rattle.run_history.specs.Longest.{longer_at, longest_at}
use Rattle.run_history.specs.Waits.{told_of, ticks_at, with_ticks, ticks_kept, longest_kept}
use Rattle.report_figures.specs.Ticks.{ticks_in}

-- an event of the trace came or was dropped
abbrev pub is_event : Happening → Bool
is_event (Came clock item) = true
is_event (Lost clock item) = true
is_event _ = false

-- the wait, if it took a request
abbrev pub take_of : Wait → Option ℕ → List Wait
take_of wait None = []
take_of wait (Some request) = wait ∷ []

-- the waits that took requests
abbrev pub takes : List Happening → List Wait
takes [] = []
takes (Waited wait ∷ told) = take_of wait wait.request ++ takes told
takes (_ ∷ told) = takes told

-- the threads that took requests, and the clocks of the takes
abbrev pub takers : List Happening → List ℕ
takers told = map (λ (wait : Wait). wait.thread) (takes told)

abbrev pub taken : List Happening → List ℕ
taken told = map (λ (wait : Wait). wait.until) (takes told)

-- the lengths of all waits, with their sites, their threads and their ends
abbrev pub wait_lengths : List Happening → List WaitLength
wait_lengths [] = []
wait_lengths (Waited wait ∷ told) = record { site = wait.site; thread = wait.thread; ticks = wait.until - wait.since; until = wait.until } ∷ wait_lengths told
wait_lengths (_ ∷ told) = wait_lengths told

-- these are the numbers of the happenings of a run with this number of chunks, with these outputs as the answers; with
-- a window, the waits are those that ended in it
pub record IsNumbersOf (answering : Answering) (window : Option Window) (chunks : ℕ) (told : List Happening) (n : Numbers) : Type 0 where
  pub events : n.events ≡ count_by is_event told
  pub arrivals : ticks_in n.arrivals ≡ arrivals_from 0 told
  pub dropped : n.dropped ≡ requests_dropped told
  pub takers : n.takers.items ≡ takers told
  pub taken : ticks_in n.taken ≡ taken told
  pub answers : (request : ℕ) → answers_at n.answers request ≡ answers_by answering told request
  pub waits : (site : ℕ) → ticks_kept (get nat_cmp n.waits.sites site) ≡ ticks_at site (told_of window (wait_lengths told))
  pub longest : (site : ℕ) → longest_kept (get nat_cmp n.waits.sites site) ≡ longest_at site (told_of window (wait_lengths told))
  pub held : n.most_held ≡ most_held chunks told

-- the numbers with the happening of one more entry
pub record IsOneMore (window : Option Window) (chunks : ℕ) (told : Happening) (old new : Numbers) : Type 0 where
  pub events : new.events ≡ old.events + count_by is_event (told ∷ [])
  pub arrivals : ticks_in new.arrivals ≡ ticks_in old.arrivals ++ arrivals_from old.events (told ∷ [])
  pub dropped : new.dropped ≡ old.dropped + requests_dropped (told ∷ [])
  pub takers : new.takers.items ≡ old.takers.items ++ takers (told ∷ [])
  pub taken : ticks_in new.taken ≡ ticks_in old.taken ++ taken (told ∷ [])
  pub answers : (request : ℕ) → answers_at new.answers request ≡ answers_from (answers_at old.answers request) (answered_at request (told ∷ []))
  pub waits : (site : ℕ) → ticks_kept (get nat_cmp new.waits.sites site) ≡ fold (with_ticks site) (ticks_kept (get nat_cmp old.waits.sites site)) (told_of window (wait_lengths (told ∷ [])))
  pub longest : (site : ℕ) → longest_kept (get nat_cmp new.waits.sites site) ≡ fold (longer_at site) (longest_kept (get nat_cmp old.waits.sites site)) (told_of window (wait_lengths (told ∷ [])))
  pub held : new.most_held ≡ max old.most_held (most_held chunks (told ∷ []))

-- everything except the answers stays the same
pub record KeepsOthers (old new : Numbers) : Type 0 where
  pub events : new.events ≡ old.events
  pub arrivals : ticks_in new.arrivals ≡ ticks_in old.arrivals
  pub dropped : new.dropped ≡ old.dropped
  pub takers : new.takers.items ≡ old.takers.items
  pub taken : ticks_in new.taken ≡ ticks_in old.taken
  pub waits : new.waits ≡ old.waits
  pub held : new.most_held ≡ old.most_held

-- everything except the takes of requests stays the same
pub record KeepsAllButTakes (old new : Numbers) : Type 0 where
  pub events : new.events ≡ old.events
  pub arrivals : ticks_in new.arrivals ≡ ticks_in old.arrivals
  pub dropped : new.dropped ≡ old.dropped
  pub answers : new.answers ≡ old.answers
  pub waits : new.waits ≡ old.waits
  pub held : new.most_held ≡ old.most_held
