-- The answers of a run.
use Rattle.std.specs.Prelude.{ℕ, ◌≡◌, ◌≤◌, ◌⊎◌, List, [], length, take, Option, IfSome, Some}
use Rattle.std.specs.Io.KnownBytes.{Appends}
use Rattle.cap_io.specs.Faults.{IsRisen}
use Rattle.cap_word.specs.declared.stops.Stop.TheVariants as cut
use Rattle.cap_word.specs.declared.threads.ThreadId.{ThreadId}
use Rattle.lawful_log.specs.Good.{IsGoodLog, checked_of}
use Rattle.lawful_log.specs.Lawful.{IsLawfulLog, ending}
use Rattle.lawful_log.specs.Setup.{Setup, setting_of, start_machine}
use Rattle.machine_world.specs.Runs.{Action, after_actions}
use Rattle.machine_world.specs.Stretches.{IsSound}
use Rattle.machine_world.specs.Threads.{World}
use Rattle.schedule_log.specs.EntryText.{log_text}
use Rattle.schedule_log.specs.declared.entries.Entry.{Entry}
use Rattle.schedule_log.specs.declared.entries.StopLine.{StopLine}
use Rattle.thread_core.specs.Worlds.{Held, IsThread}
use Rattle.run_course.specs.Output.{IsFitText}
use Rattle.run_course.specs.Ways.{IsOnRun}
use Rattle.runner.specs.HeldBack.{HeldBack}
use Rattle.runner.specs.declared.ends.RunEnd.{RunEnd}
use Rattle.runner.specs.declared.ends.RunEnd.TheVariants as end

-- the end of a run that reached this stop
abbrev pub IsEndAt : StopLine → RunEnd → Type 0
IsEndAt StopLine.Done answer = answer ≡ end.Done
IsEndAt StopLine.Idle answer = answer ≡ end.Idle
IsEndAt (StopLine.Trace line) answer = answer ≡ end.BadTrace line
IsEndAt (StopLine.Cut number (cut.Trap kind) cost free) answer = (thread : ThreadId) × (thread.number ≡ number) × (answer ≡ end.Trap thread kind)
IsEndAt (StopLine.Cut number cut.NoChunk cost free) answer = (thread : ThreadId) × (thread.number ≡ number) × (answer ≡ end.NoChunk thread)
IsEndAt (StopLine.Cut number cut.Fuel cost free) answer = (thread : ThreadId) × (thread.number ≡ number) × (answer ≡ end.Fuel thread)
IsEndAt (StopLine.Cut number cut.Threads cost free) answer = (thread : ThreadId) × (thread.number ≡ number) × (answer ≡ end.Threads thread)

-- the record of a thread that an answer names is at its place
abbrev pub IsOfThread : Held → RunEnd → Type 0
IsOfThread after (end.Trap thread kind) = IsThread after thread
IsOfThread after (end.NoChunk thread) = IsThread after thread
IsOfThread after (end.Fuel thread) = IsThread after thread
IsOfThread after (end.Threads thread) = IsThread after thread
IsOfThread after answer = Unit {0}

-- the log of a run that stops in the world `end`, and a world of that run. The log is lawful and good. Some actions
-- lead from the run's start to the world, in which every live thread is in place and the chunks are partitioned. The
-- trace has these bytes if it exposes its bytes, and otherwise could have had them.
pub record HasLog (g : Setup) (left : Option (List ℕ)) (end world : World) : Type 0 where
  pub bytes : List ℕ
  pub told : IfSome left (λ its. its ≡ bytes)
  pub entries : List Entry
  pub stop : StopLine
  pub lawful : IsLawfulLog g bytes entries stop end
  pub good : IsGoodLog g entries
  pub start : World
  pub starts : start_machine g ≡ Some start
  pub actions : List Action
  pub machine : after_actions (setting_of g) actions start ≡ Some world
  pub sound : IsSound (checked_of g) world

-- a run that reached its stop: the whole of its log was written, and the world is as at the stop. Each line that was
-- written is read back as an entry: the log is the text of entries that fit their types.
pub record CameTo (g : Setup) (after : Held) (left taken taken' : Option (List ℕ)) (answer : RunEnd) : Type 0 where
  pub log : HasLog g left after.machine after.machine
  pub end_is : IsEndAt log.stop answer
  pub thread : IsOfThread after answer
  pub writes : Appends taken taken' (log_text log.entries)
  pub fits : IsFitText (log_text log.entries)

-- a run that failed: a prefix of its log was written, and the world is on that log's run. What was put is the text of
-- the entries that were done; only if the run has reached its stop may lines of the log's end have been put too.
pub record FellShort (g : Setup) (after : Held) (left taken taken' : Option (List ℕ)) : Type 0 where
  pub end : World
  pub log : HasLog g left end after.machine
  pub count : ℕ
  pub part : count ≤ length (log_text log.entries)
  pub writes : Appends taken taken' (take count (log_text log.entries))
  pub on_run : IsOnRun g log.bytes log.start log.entries after.machine
  pub back : HeldBack on_run.done on_run.rest (take count (log_text log.entries))
  pub at_end : (back.more ≡ []) ⊎ ((end ≡ after.machine) × (on_run.rest ≡ ending g on_run.state log.stop))

abbrev pub IsRunEnd : Setup → (after : Held) → (left taken taken' : Option (List ℕ)) → (reads reads' writes writes' : ℕ) → RunEnd → Type 0
IsRunEnd g after left taken taken' reads reads' writes writes' end.ReadFault = FellShort g after left taken taken' × IsRisen reads reads' × (writes' ≡ writes)
IsRunEnd g after left taken taken' reads reads' writes writes' end.WriteFault = FellShort g after left taken taken' × (reads' ≡ reads) × IsRisen writes writes'
IsRunEnd g after left taken taken' reads reads' writes writes' end.Memory = FellShort g after left taken taken' × (reads' ≡ reads) × (writes' ≡ writes)
IsRunEnd g after left taken taken' reads reads' writes writes' answer = CameTo g after left taken taken' answer × (reads' ≡ reads) × (writes' ≡ writes)
