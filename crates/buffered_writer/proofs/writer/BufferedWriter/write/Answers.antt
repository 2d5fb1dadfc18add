use Rattle.std.proofs.lemmas.List.{take_more}
use Rattle.buffered_writer.proofs.Written.{writes_step}
use Rattle.buffered_writer.proofs.writer.BufferedWriter.write.Goals as goal

pub loop-byte-preserved : goal.loop-byte-preserved
loop-byte-preserved g c =
    writes_step _ _ _ _ _ _ c.loop-byte.invariant c.write_byte.ensures (take_more c.args.bytes.now c.loop-byte.byte-index 0 c.loop-byte-test.true)
