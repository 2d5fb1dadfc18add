use Rattle.std.proofs.Common.{◌≤◌, ◌-◌, vec_len}
use Rattle.cap_io.proofs.folder.read_into.Given as goal

abbrev pub invariant-loop-count : goal.invariant-loop-count
invariant-loop-count g l = vec_len l.bytes ≤ l.max

abbrev pub decreases-loop-count : goal.decreases-loop-count
decreases-loop-count g l = l.max - vec_len l.bytes
