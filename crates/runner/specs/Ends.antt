-- The end of a run.
use Rattle.std.specs.Prelude.{Result, Ok, Err}
use Rattle.cap_word.specs.declared.stops.Stop.{Stop}
use Rattle.cap_word.specs.declared.threads.ThreadId.{ThreadId}
use Rattle.run_course.specs.declared.ends.Failure.{Failure}
use Rattle.run_course.specs.declared.ends.Halt.{Halt}
use Rattle.runner.specs.declared.ends.RunEnd.{RunEnd}

-- the end of a run that is cut off, and the end at each stop
abbrev pub cut_end : ThreadId → Stop → RunEnd
cut_end thread (Stop.Trap kind) = RunEnd.Trap thread kind
cut_end thread Stop.NoChunk = RunEnd.NoChunk thread
cut_end thread Stop.Fuel = RunEnd.Fuel thread
cut_end thread Stop.Threads = RunEnd.Threads thread

abbrev pub halt_end : Halt → RunEnd
halt_end Halt.Done = RunEnd.Done
halt_end Halt.Idle = RunEnd.Idle
halt_end (Halt.BadTrace line) = RunEnd.BadTrace line
halt_end (Halt.Cut thread stop cost) = cut_end thread stop

abbrev pub failure_end : Failure → RunEnd
failure_end Failure.Read = RunEnd.ReadFault
failure_end Failure.Write = RunEnd.WriteFault
failure_end Failure.Memory = RunEnd.Memory

-- the end of a run, from its result
abbrev pub run_end : Result RunEnd Failure → RunEnd
run_end (Ok end) = end
run_end (Err failure) = failure_end failure
