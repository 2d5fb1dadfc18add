use Rattle.buffered_writer.proofs.Written.{writes_more, writes_held}
use Rattle.buffered_writer.proofs.writer.BufferedWriter.write_byte.Goals as goal

pub returns : goal.returns
returns g c =
    writes_more _ _ _ _ _ c.make_room.ensures.bytes (writes_held _ _ _ _ _ c.hold.ensures.refused c.hold.ensures.more c.hold.ensures.stays)
