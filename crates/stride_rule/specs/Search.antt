-- A search through the places of clients, one after another.
use Rattle.std.specs.Prelude.{ℕ, Bool, true, false, ◌&&◌, if◌then◌else◌, Option, Some, None, List, [], ◌∷◌}
use Rattle.cap_word.specs.declared.threads.ThreadId.{ThreadId}
use Rattle.ready_tree.specs.declared.bounds.Bounds.{Bounds}
use Rattle.ready_tree.specs.Needs.{is_met}
use Rattle.stride_rule.specs.declared.clients.Client.{Client}
use Rattle.stride_rule.specs.declared.rows.Row.{Row}
use Rattle.stride_rule.specs.declared.searching.Found.{Found}
use Rattle.stride_rule.specs.Clients.{is_before, is_running}

-- the first of the best so far and one more client
abbrev pub better : Option Client → Client → Option Client
better None client = Some client
better (Some best) client = if is_before client best then Some client else Some best

-- the state of the search after one more client
abbrev pub found_with : (ThreadId → Bool) → Option ℕ → Found → Client → Found
found_with eligible running found client =
    if is_running running client then found
    else if eligible client.thread then record { best = better found.best client; all = found.all }
    else record { best = found.best; all = false }

-- the same after one more place, and after all these
abbrev pub found_at : (ThreadId → Bool) → Option ℕ → Found → Option Row → Found
found_at eligible running found None = found
found_at eligible running found (Some row) = found_with eligible running found row.client

abbrev pub found_among : (ThreadId → Bool) → Option ℕ → Found → List (Option Row) → Found
found_among eligible running found [] = found
found_among eligible running found (place ∷ places) = found_among eligible running (found_at eligible running found place) places

-- ---- the first whose need is met

-- whether a client comes before the best so far, or there is none
abbrev pub is_before_best : Client → Option Client → Bool
is_before_best client None = true
is_before_best client (Some best) = is_before client best

-- the first so far, given the thread at one more place, if its need is met
abbrev pub met_with : Bounds → Option Client → Option Row → Option Client
met_with bounds best None = best
met_with bounds best (Some row) = if is_before_best row.client best && is_met bounds row.need then Some row.client else best

abbrev pub met_among : Bounds → Option Client → List (Option Row) → Option Client
met_among bounds best [] = best
met_among bounds best (place ∷ places) = met_among bounds (met_with bounds best place) places
