use Rattle.std.proofs.Common.{◌≡◌, ◌≤◌, ◌-◌, [], vec_len, vec_capacity}
use Rattle.std.specs.Io.KnownBytes.{prepend_known}
use Rattle.event_trace.specs.Gathering.{LeavesTail}
use Rattle.event_trace.proofs.Gathered.{Gathered, StillWhole}
use Rattle.event_trace.proofs.gathering.read_line.Given as goal

abbrev pub invariant-loop-byte : goal.invariant-loop-byte
invariant-loop-byte g l = record {
  gathered : Gathered (prepend_known l.fn.block (g.S.Source.left l.fn.source)) (prepend_known l.block (g.S.Source.left l.source)) l.line.items;
  whole : StillWhole l.fn.block l.block l.fn.source l.source;
  first : l.line.items ≡ [] → l.block ≡ l.fn.block;
  tail : LeavesTail (g.S.Source.left l.fn.source) (g.S.Source.left l.source);
  counts : g.S.Source.faults l.source ≡ g.S.Source.faults l.fn.source;
  short : vec_len l.line ≤ 64;
  room : 64 ≤ vec_capacity l.line;
}

abbrev pub decreases-loop-byte : goal.decreases-loop-byte
decreases-loop-byte g l = 65 - vec_len l.line
