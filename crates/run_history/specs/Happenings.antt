-- The happenings of a whole log, and the numbers of a report that follow from them.
use Rattle.std.specs.Prelude.{ℕ, ◌+◌, ◌-◌, Bool, true, false, List, [], ◌∷◌, ◌++◌, Option, Some, None, count_by, max, nat_eq, nat_lt, ◌&&◌, if◌then◌else◌}
use Rattle.schedule_log.specs.declared.entries.Entry.{Entry}
use Rattle.schedule_log.specs.declared.entries.Item.{Item}
use Rattle.schedule_log.specs.declared.entries.Item.TheVariants.{Arrive, Data}
use Rattle.run_history.specs.declared.happenings.Segment.{Segment}
use Rattle.run_history.specs.declared.happenings.Happening.{Happening}
use Rattle.run_history.specs.declared.happenings.Happening.TheVariants.{Came, Lost, Waited, Ran}
use Rattle.run_history.specs.Known.{Known, nothing_known, with_entry, happening}

-- the happenings of entries, one after another, from what is known
abbrev pub happenings_from : List Bool → Known → List Entry → List Happening
happenings_from accepts k [] = []
happenings_from accepts k (entry ∷ entries) = happening accepts entry k ∷ happenings_from accepts (with_entry accepts entry k) entries

-- the happenings of a log
abbrev pub happenings : List Bool → List Entry → List Happening
happenings accepts entries = happenings_from accepts nothing_known entries

-- ---- requests

-- the item is a connection, whose requests `accept` takes
abbrev pub is_arrival : Item → Bool
is_arrival (Arrive value) = true
is_arrival (Data channel value) = false

-- a request was dropped
abbrev pub drops_request : Happening → Bool
drops_request (Lost clock item) = is_arrival item
drops_request _ = false

abbrev pub requests_dropped : List Happening → ℕ
requests_dropped told = count_by drops_request told

-- the places in the trace, from 0, of the requests that came, in order: each event that came or was dropped is the next
-- of the trace
abbrev pub arrivals_from : ℕ → List Happening → List ℕ
arrivals_from line [] = []
arrivals_from line (Came clock (Arrive value) ∷ told) = line ∷ arrivals_from (line + 1) told
arrivals_from line (Came clock (Data channel value) ∷ told) = arrivals_from (line + 1) told
arrivals_from line (Lost clock item ∷ told) = arrivals_from (line + 1) told
arrivals_from line (_ ∷ told) = arrivals_from line told

-- ---- answers

-- the segment serves this request and puts something
abbrev pub is_request : ℕ → Option ℕ → Bool
is_request request None = false
is_request request (Some served) = nat_eq served request

abbrev pub answers : ℕ → Segment → Bool
answers request segment = is_request request segment.request && nat_lt 0 segment.puts

-- the clock of a segment's answers to a request: its end, since the log has no clock of an `out`
abbrev pub clocks_in : ℕ → Segment → List ℕ
clocks_in request segment = if answers request segment then segment.ended ∷ [] else []

-- the clocks of the answers to a request, in order
abbrev pub answered_at : ℕ → List Happening → List ℕ
answered_at request [] = []
answered_at request (Ran segment free ∷ told) = clocks_in request segment ++ answered_at request told
answered_at request (_ ∷ told) = answered_at request told

-- ---- waits

-- the lengths of the waits at a site, in order
abbrev pub waits_at : ℕ → List Happening → List ℕ
waits_at site [] = []
waits_at site (Waited wait ∷ told) = (if nat_eq wait.site site then (wait.until - wait.since) ∷ [] else []) ++ waits_at site told
waits_at site (_ ∷ told) = waits_at site told

-- ---- chunks

-- the maximum number of chunks held after a segment, given the number of all chunks
abbrev pub most_held : ℕ → List Happening → ℕ
most_held chunks [] = 0
most_held chunks (Ran segment free ∷ told) = max (chunks - free) (most_held chunks told)
most_held chunks (_ ∷ told) = most_held chunks told
