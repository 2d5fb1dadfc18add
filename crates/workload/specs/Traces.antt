-- The trace of the workload of n: n arrivals, 10 ticks apart, and later a message for each of them.
use Rattle.std.specs.Prelude.{ℕ, zero, suc, ◌+◌, ◌*◌, ◌%◌, List, [], ◌++◌, codes}
use Rattle.cap_text.specs.Decimals.{canonical_decimal}
use Rattle.workload.specs.Programs.{line_feed}

-- the channels of the arrivals: the 64 channels in turn
abbrev pub channel_of : ℕ → ℕ
channel_of j = j % 64

-- arrival j, whose value is its channel
unfoldable pub arrival_line : ℕ → List ℕ
arrival_line j = codes "arrive " ++ (canonical_decimal (10 * j) ++ (codes " " ++ (canonical_decimal (channel_of j) ++ line_feed)))

-- message j, on the channel of arrival j
unfoldable pub message_line : ℕ → List ℕ
message_line j = codes "data " ++ (canonical_decimal (1000000 + 10 * j) ++ (codes " " ++ (canonical_decimal (channel_of j) ++ (codes " " ++ (canonical_decimal j ++ line_feed)))))

-- the lines of the numbers below n
unfoldable pub lines_below : (ℕ → List ℕ) → ℕ → List ℕ
lines_below line zero = []
lines_below line (suc j) = lines_below line j ++ line j

-- the whole trace
unfoldable pub trace_text : ℕ → List ℕ
trace_text n = lines_below arrival_line n ++ lines_below message_line n
