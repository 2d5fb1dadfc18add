use Rattle.std.proofs.Common.{take}
use Rattle.buffered_writer.specs.Writing.{Writes, log_state}
use Rattle.buffered_writer.proofs.writer.BufferedWriter.write.Given as goal

abbrev pub invariant-loop-byte : goal.invariant-loop-byte
invariant-loop-byte g l =
    Writes (log_state l.fn.self (g.K.Sink.taken l.fn.out) (g.K.Sink.faults l.fn.out))
    (log_state l.self (g.K.Sink.taken l.out) (g.K.Sink.faults l.out)) (take l.byte-index l.bytes)
