-- Requests followed through `spawn`.
use Rattle.std.specs.Prelude.{ℕ, ◌+◌, List, [], ◌∷◌, Option, Some, None, nat_eq, nat_lt, ◌&&◌, if◌then◌else◌}
use Rattle.run_history.specs.declared.answers.Answers.{Answers}
use Rattle.run_history.specs.declared.followed.Spawned.{Spawned}
use Rattle.run_history.specs.declared.happenings.Segment.{Segment}
use Rattle.run_history.specs.declared.happenings.Happening.{Happening}
use Rattle.run_history.specs.declared.happenings.Happening.TheVariants.{Ran}
use Rattle.run_history.specs.Answers.{answers_from}
use Rattle.run_history.specs.Happenings.{is_request}

-- the request for which a segment's thread works: the one that it serves, or else that of the thread that started it
abbrev pub works_for : Option ℕ → Option ℕ → Option ℕ
works_for (Some served) started = Some served
works_for None started = started

-- the request for which a started thread works, given that of the segment which started it
abbrev pub passed_on : Option ℕ → Option ℕ → Option ℕ
passed_on None before = before
passed_on (Some request) before = Some request

-- the request for which a thread works after the threads of the segment of that number are started, of those that are
-- yet to start
abbrev pub inherits : ℕ → Option ℕ → ℕ → List Spawned → Option ℕ → Option ℕ
inherits segment request thread [] before = before
inherits segment request thread (one ∷ rest) before =
    if nat_eq one.segment segment
    then inherits segment request thread rest (if nat_eq one.thread thread then passed_on request before else before)
    else before

-- the threads that are yet to start after that segment
abbrev pub left_after : ℕ → List Spawned → List Spawned
left_after segment [] = []
left_after segment (one ∷ rest) = if nat_eq one.segment segment then left_after segment rest else one ∷ rest

-- the clock of the answer of a segment whose thread works for a request
abbrev pub clocks_by : ℕ → Option ℕ → Segment → List ℕ
clocks_by request works segment = if is_request request works && nat_lt 0 segment.puts then segment.ended ∷ [] else []

-- the happening of an entry, with the request for which its segment's thread works as the one that it serves
abbrev pub named_by : (ℕ → Option ℕ) → Happening → Happening
named_by started (Ran segment free) =
    Ran (record {
      thread = segment.thread;
      began = segment.began;
      ended = segment.ended;
      puts = segment.puts;
      request = works_for segment.request (started segment.thread);
    }) free
named_by started told = told

-- the number of finished segments, with one more entry
abbrev pub segments_with : Happening → ℕ → ℕ
segments_with (Ran segment free) segments = segments + 1
segments_with told segments = segments

-- the threads that are yet to start, with one more entry
abbrev pub left_with : Happening → ℕ → List Spawned → List Spawned
left_with (Ran segment free) number left = left_after number left
left_with told number left = left

-- the request for which a thread works that took none, with one more entry
abbrev pub started_with : Happening → ℕ → List Spawned → (ℕ → Option ℕ) → ℕ → Option ℕ
started_with (Ran segment free) number left started thread =
    inherits number (works_for segment.request (started segment.thread)) thread left (started thread)
started_with told number left started thread = started thread

-- the answers to a request, with one more entry
abbrev pub followed_with : ℕ → Happening → (ℕ → Option ℕ) → Option Answers → Option Answers
followed_with request (Ran segment free) started before = answers_from before (clocks_by request (works_for segment.request (started segment.thread)) segment)
followed_with request told started before = before
