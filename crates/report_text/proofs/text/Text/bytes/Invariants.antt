use Rattle.std.proofs.Common.{take, flat_map}
use Rattle.std.specs.Char.{encode_utf8}
use Rattle.report_text.specs.Written.{Adds}
use Rattle.report_text.proofs.text.Text.bytes.Given as goal

abbrev pub invariant-loop-byte : goal.invariant-loop-byte
invariant-loop-byte l = Adds (flat_map encode_utf8 (take l.byte-index l.bytes)) l.initial.self l.self
