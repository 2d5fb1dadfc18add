-- The kinds of readiness, one by one, and the least number of waiting threads.
use Rattle.std.specs.Prelude.{◌≡◌, ◌≢◌, ℕ, ◌+◌, ◌<◌, ◌≤◌, Bool, false, List, length, Option, Some, None, if◌then◌else◌, nat_le, slice_index_or}
use Rattle.cap_word.specs.declared.calls.Block.{Block}
use Rattle.c_mean.specs.ModelledCalls.{Exchange, cap_of, use_of, channel_of, holds_some}
use Rattle.thread_waits.specs.declared.waits.Wait.{Wait}
use Rattle.thread_waits.specs.Counted.{amount_of, later_wake, no_number, number_or}

-- the block's channel has a message
abbrev pub is_block_at_message : Exchange → Block → Bool
is_block_at_message x Block.Accept = false
is_block_at_message x (Block.Wait channel) = holds_some (channel_of x channel)
is_block_at_message x (Block.Sleep ticks) = false
is_block_at_message x Block.Yield = false
is_block_at_message x (Block.Take resource amount) = false
is_block_at_message x (Block.WaitFor channel ticks) = holds_some (channel_of x channel)

abbrev pub is_at_message : Exchange → Option Wait → Bool
is_at_message x None = false
is_at_message x (Some Wait.Fresh) = false
is_at_message x (Some (Wait.At block since)) = is_block_at_message x block

-- the amount that is waited for is unused
abbrev pub is_unused : List ℕ → Exchange → ℕ → Option ℕ → Bool
is_unused caps x r None = false
is_unused caps x r (Some amount) = nat_le (use_of x r + amount) (cap_of caps r)

-- an unused amount of a resource is waited for
abbrev pub is_taker : List ℕ → Exchange → ℕ → Option Wait → Bool
is_taker caps x r wait = is_unused caps x r (amount_of r wait)

abbrev pub is_block_taking : List ℕ → Exchange → Block → Bool
is_block_taking caps x Block.Accept = false
is_block_taking caps x (Block.Wait channel) = false
is_block_taking caps x (Block.Sleep ticks) = false
is_block_taking caps x Block.Yield = false
is_block_taking caps x (Block.Take resource amount) = is_unused caps x resource (Some amount)
is_block_taking caps x (Block.WaitFor channel ticks) = false

abbrev pub is_taking : List ℕ → Exchange → Option Wait → Bool
is_taking caps x None = false
is_taking caps x (Some Wait.Fresh) = false
is_taking caps x (Some (Wait.At block since)) = is_block_taking caps x block

-- ---- sleeping threads

-- the wake time of a wait, if it is after the clock and no message is in the channel
abbrev pub silent_wake : Exchange → ℕ → Option Wait → Option ℕ
silent_wake x clock wait = if is_at_message x wait then None else later_wake clock wait

-- this number occurs at a place
pub record HasPlace (f : Option Wait → Option ℕ) (places : List (Option Wait)) (value : ℕ) : Type 0 where
  pub place : ℕ
  pub there : place < length places
  pub number : f (slice_index_or places place None) ≡ Some value

-- the least of the numbers at the first `count` places, or `no_number`, which is none of them
pub record IsLeastOfFirst (f : Option Wait → Option ℕ) (places : List (Option Wait)) (count least : ℕ) : Type 0 where
  pub numbers : (k : ℕ) → k < count → (n : ℕ) → f (slice_index_or places k None) ≡ Some n → n < no_number
  pub lowest : (k : ℕ) → k < count → least ≤ number_or (f (slice_index_or places k None))
  pub stands : least ≢ no_number → HasPlace f places least

abbrev pub IsLeastNumber : (Option Wait → Option ℕ) → List (Option Wait) → ℕ → Type 0
IsLeastNumber f places least = IsLeastOfFirst f places (length places) least
