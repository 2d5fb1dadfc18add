-- The parts of the time of one request, after the `accept` that took it.
use Rattle.std.specs.Prelude.{ℕ, List, [], ◌∷◌, Option, Some, None, nat_eq, if◌then◌else◌}
use Rattle.run_history.specs.declared.happenings.Wait.{Wait}
use Rattle.run_history.specs.declared.happenings.Segment.{Segment}
use Rattle.run_history.specs.declared.happenings.Happening.{Happening}
use Rattle.run_history.specs.declared.happenings.Happening.TheVariants.{Came, Lost, Started, Waited, Put, Ran, Nothing}
use Rattle.run_history.specs.declared.parts.Part.{Part}
use Rattle.run_history.specs.declared.parts.Part.TheVariants.{Runs, Waits}
use Rattle.run_history.specs.Happenings.{is_request}

-- ---- the thread that serves the request: the one that took it, until it takes another

abbrev pub server_by : ℕ → ℕ → Option ℕ → Option ℕ → Option ℕ
server_by request thread None server = server
server_by request thread (Some taken) server =
    if nat_eq taken request then Some thread else (if is_request thread server then None else server)

abbrev pub server_of : ℕ → Wait → Option ℕ → Option ℕ
server_of request wait server = server_by request wait.thread wait.request server

abbrev pub server_after : ℕ → Happening → Option ℕ → Option ℕ
server_after request (Came clock item) server = server
server_after request (Lost clock item) server = server
server_after request (Started thread clock) server = server
server_after request (Waited wait) server = server_of request wait server
server_after request (Put thread value) server = server
server_after request (Ran segment free) server = server
server_after request Nothing server = server

-- ---- the parts: the segments and waits of the thread that serves it

-- a wait at an `accept` is no part
abbrev pub waited_by : Wait → Option ℕ → Option ℕ → Option Part
waited_by wait None server = if is_request wait.thread server then Some (Waits wait.site wait.since wait.until) else None
waited_by wait (Some taken) server = None

abbrev pub waited_part : Wait → Option ℕ → Option Part
waited_part wait server = waited_by wait wait.request server

abbrev pub ran_by : ℕ → Segment → Option ℕ → Option Part
ran_by request segment None = None
ran_by request segment (Some served) = if nat_eq served request then Some (Runs segment.began segment.ended) else None

abbrev pub ran_part : ℕ → Segment → Option Part
ran_part request segment = ran_by request segment segment.request

abbrev pub part_in : ℕ → Happening → Option ℕ → Option Part
part_in request (Came clock item) server = None
part_in request (Lost clock item) server = None
part_in request (Started thread clock) server = None
part_in request (Waited wait) server = waited_part wait server
part_in request (Put thread value) server = None
part_in request (Ran segment free) server = ran_part request segment
part_in request Nothing server = None

-- a part as a list, if there is one
abbrev pub kept : Option Part → List Part
kept None = []
kept (Some part) = part ∷ []
