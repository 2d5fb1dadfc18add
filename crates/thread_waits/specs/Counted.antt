-- The counts and trees over waiting threads.
use Rattle.std.specs.Prelude.{◌≡◌, ◌≢◌, ℕ, ◌+◌, ◌-◌, ◌*◌, ◌<◌, ◌≤◌, ◌^◌, Bool, true, false, List, [], length, All, Option, Some, None, if◌then◌else◌, nat_eq, nat_le, nat_lt, slice_index, slice_index_or, count_by}
use Rattle.cap_word.specs.declared.calls.Block.{Block}
use Rattle.c_mean.specs.ModelledCalls.{ticks_of, wakes_at}
use Rattle.thread_waits.specs.Waiting.{Waiting, is_at_accept, IsWaitInRangeIf, latest}
use Rattle.thread_waits.specs.declared.waits.Wait.{Wait}
use Rattle.thread_waits.specs.declared.waits.Waits.TheInside.{Inside}

abbrev pub waiting : Inside → Waiting
waiting w = record { places = w.places.items; clock = w.clock }

-- ready whatever the queues, the uses and the clock are
abbrev pub is_block_ready_always : Block → Bool
is_block_ready_always Block.Accept = false
is_block_ready_always (Block.Wait channel) = false
is_block_ready_always (Block.Sleep ticks) = false
is_block_ready_always Block.Yield = true
is_block_ready_always (Block.Take resource amount) = false
is_block_ready_always (Block.WaitFor channel ticks) = false

abbrev pub is_ready_always : Option Wait → Bool
is_ready_always None = false
is_ready_always (Some Wait.Fresh) = true
is_ready_always (Some (Wait.At block since)) = is_block_ready_always block

-- ready at the clock whatever the queues and uses are
abbrev pub is_block_ready_anyway : ℕ → ℕ → Block → Bool
is_block_ready_anyway clock since Block.Accept = false
is_block_ready_anyway clock since (Block.Wait channel) = false
is_block_ready_anyway clock since (Block.Sleep ticks) = nat_le (since + ticks_of ticks) clock
is_block_ready_anyway clock since Block.Yield = true
is_block_ready_anyway clock since (Block.Take resource amount) = false
is_block_ready_anyway clock since (Block.WaitFor channel ticks) = nat_le (since + ticks_of ticks) clock

abbrev pub is_ready_anyway : ℕ → Option Wait → Bool
is_ready_anyway clock None = false
is_ready_anyway clock (Some Wait.Fresh) = true
is_ready_anyway clock (Some (Wait.At block since)) = is_block_ready_anyway clock since block

-- the time from which on a thread with this wait is ready whatever they are
abbrev pub wake_for : Wait → Option ℕ
wake_for Wait.Fresh = None
wake_for (Wait.At block since) = wakes_at since block

abbrev pub wake_of : Option Wait → Option ℕ
wake_of None = None
wake_of (Some wait) = wake_for wait

-- the same, if it is after the clock
abbrev pub if_later : ℕ → Option ℕ → Option ℕ
if_later clock None = None
if_later clock (Some time) = if nat_lt clock time then Some time else None

abbrev pub later_wake : ℕ → Option Wait → Option ℕ
later_wake clock wait = if_later clock (wake_of wait)

abbrev pub is_block_at_channel : ℕ → Block → Bool
is_block_at_channel channel Block.Accept = false
is_block_at_channel channel (Block.Wait other) = nat_eq other channel
is_block_at_channel channel (Block.Sleep ticks) = false
is_block_at_channel channel Block.Yield = false
is_block_at_channel channel (Block.Take resource amount) = false
is_block_at_channel channel (Block.WaitFor other ticks) = nat_eq other channel

abbrev pub is_at_channel : ℕ → Option Wait → Bool
is_at_channel channel None = false
is_at_channel channel (Some Wait.Fresh) = false
is_at_channel channel (Some (Wait.At block since)) = is_block_at_channel channel block

-- the number in a tree of a place without one
abbrev pub no_number : ℕ
no_number = 2 ^ 64 - 1

abbrev pub number_or : Option ℕ → ℕ
number_or None = no_number
number_or (Some number) = number

-- the amount of a resource that is waited for
abbrev pub block_amount : ℕ → Block → Option ℕ
block_amount r Block.Accept = None
block_amount r (Block.Wait other) = None
block_amount r (Block.Sleep ticks) = None
block_amount r Block.Yield = None
block_amount r (Block.Take resource amount) = if nat_eq resource r then Some amount else None
block_amount r (Block.WaitFor other ticks) = None

abbrev pub amount_of : ℕ → Option Wait → Option ℕ
amount_of r None = None
amount_of r (Some Wait.Fresh) = None
amount_of r (Some (Wait.At block since)) = block_amount r block

-- ---- trees over blocks of 16 places

-- the number is that of a waiting thread at a place from one place on and before another
pub record IsBetween (number : Option Wait → Option ℕ) (places : List (Option Wait)) (start end value : ℕ) : Type 0 where
  pub place : ℕ
  pub from : start ≤ place
  pub before : place < end
  pub number_is : number (slice_index_or places place None) ≡ Some value

-- the least number of the threads that wait there, or `no_number`
pub record IsLeastBetween (number : Option Wait → Option ℕ) (places : List (Option Wait)) (start end least : ℕ) : Type 0 where
  pub most : least ≤ no_number
  pub lowest : (k : ℕ) → start ≤ k → k < end → least ≤ number_or (number (slice_index_or places k None))
  pub stands : least ≢ no_number → IsBetween number places start end least

abbrev pub IsLeafOf : (Option Wait → Option ℕ) → List (Option Wait) → ℕ → ℕ → Type 0
IsLeafOf number places block leaf = IsLeastBetween number places (16 * block) (16 * block + 16) leaf

-- for each block of places, a tree has the least number of the threads that wait there
pub record IsTreeOf (number : Option Wait → Option ℕ) (places : List (Option Wait)) (leaves : List ℕ) : Type 0 where
  pub places_fit : length places ≤ 16 * length leaves
  pub leaf : (block : ℕ) → IsLeafOf number places block (slice_index_or leaves block no_number)

pub record IsCounted (w : Inside) : Type 0 where
  pub in_range : All IsWaitInRangeIf w.places.items
  pub clock : w.clock ≤ latest
  pub ready_always : w.ready_always ≡ count_by is_ready_always w.places.items
  pub at_accept : w.at_accept ≡ count_by is_at_accept w.places.items
  pub channel_count : length w.at_channels ≡ 64
  pub at_channels : (channel : ℕ) → channel < 64 → slice_index w.at_channels channel ≡ count_by (is_at_channel channel) w.places.items
  pub sleepers : IsTreeOf wake_of w.places.items w.sleepers
  pub taker_count : length w.takers.items ≡ 8
  pub takers : (r : ℕ) → r < 8 → IsTreeOf (amount_of r) w.places.items (slice_index_or w.takers.items r [])

-- ---- parts

-- the number is this one
abbrev pub is_at : Option ℕ → ℕ → Bool
is_at None k = false
is_at (Some other) k = nat_eq other k

-- more places, and what was at each
pub record IsGrown (none : ℕ) (old new : List ℕ) : Type 0 where
  pub longer : length old ≤ length new
  pub same : (k : ℕ) → slice_index_or new k none ≡ slice_index_or old k none
