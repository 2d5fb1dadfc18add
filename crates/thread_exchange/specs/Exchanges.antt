-- An exchange as its calls see it: the queues and uses of the modelled calls, the caps of the resources, and the
-- maximum length of a queue.
use Rattle.std.specs.Prelude.{◌≡◌, ℕ, ◌≤◌, ◌<◌, ◌||◌, List, None, is_none, is_some, IsTrue, if◌then◌else◌}
use Rattle.cap_word.specs.declared.calls.Block.{Block}
use Rattle.c_mean.specs.ModelledCalls.{Exchange, cap_of, use_of, BlockingRow, blocking_row, ImmediateRow, Delivery, is_dropped, with_delivery}

pub record Exchanging : Type 0 where
  pub caps : List ℕ
  pub backlog : ℕ
  pub exchange : Exchange

-- the exchange after a delivery, unchanged if it was dropped
abbrev pub after_delivery : Exchanging → Delivery → Exchanging
after_delivery x delivery = if is_dropped x.backlog x.exchange delivery then x else record x { exchange = with_delivery x.exchange delivery }

-- the row of a call that blocks
abbrev pub row_of : Exchanging → Block → BlockingRow
row_of x block = blocking_row x.caps x.exchange block

-- a thread may resume from a call that blocks: the call was no trap, and it is ready, or becomes ready at some time
pub record MayResume (x : Exchanging) (block : Block) : Type 0 where
  pub untrapped : (row_of x block).trap ≡ None
  pub ready : IsTrue ((row_of x block).ready || is_some (row_of x block).wait)

-- the exchange after a call that is answered at once, unchanged if the call is a trap
abbrev pub after_ask : Exchanging → ImmediateRow → Exchanging
after_ask x row = if is_none row.trap then record x { exchange = row.after } else x

-- no use is greater than its cap
abbrev pub AreWithinCaps : Exchanging → Type 0
AreWithinCaps x = (r : ℕ) → r < 8 → use_of x.exchange r ≤ cap_of x.caps r
