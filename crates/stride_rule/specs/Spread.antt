-- The differences between the passes of threads.
use Rattle.std.specs.Prelude.{ℕ, ◌-◌, min, max, if◌then◌else◌, Option, Some, None, List, [], ◌∷◌}
use Rattle.stride_rule.specs.declared.clients.Client.{Client}
use Rattle.stride_rule.specs.declared.rows.Row.{Row}
use Rattle.stride_rule.specs.State.{StrideState}

-- the greatest and the least of a pass and those of the clients
abbrev pub most_from : ℕ → List Client → ℕ
most_from pass [] = pass
most_from pass (client ∷ clients) = most_from (max pass client.pass) clients

abbrev pub least_from : ℕ → List Client → ℕ
least_from pass [] = pass
least_from pass (client ∷ clients) = least_from (min pass client.pass) clients

-- the same for a pass and those at places
abbrev pub most_with : ℕ → Option Row → ℕ
most_with pass None = pass
most_with pass (Some row) = max pass row.client.pass

abbrev pub least_with : ℕ → Option Row → ℕ
least_with pass None = pass
least_with pass (Some row) = min pass row.client.pass

abbrev pub most_among : ℕ → List (Option Row) → ℕ
most_among pass [] = pass
most_among pass (place ∷ places) = most_among (most_with pass place) places

abbrev pub least_among : ℕ → List (Option Row) → ℕ
least_among pass [] = pass
least_among pass (place ∷ places) = least_among (least_with pass place) places

-- the pass of the first client
abbrev pub first_pass : List Client → Option ℕ
first_pass [] = None
first_pass (client ∷ clients) = Some client.pass

-- the greatest pass minus the least, or 0 without clients
abbrev pub apart_in : List Client → ℕ
apart_in [] = 0
apart_in (client ∷ clients) = most_from client.pass clients - least_from client.pass clients

-- the same for the threads that haven't left, unless a waiting thread wasn't eligible at some choice
abbrev pub spread_of : StrideState → Option ℕ
spread_of rule = if rule.held_back then None else Some (apart_in rule.clients)
