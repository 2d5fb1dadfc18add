-- The needs of threads, by what they wait for.
use Rattle.std.specs.Prelude.{ℕ, ◌+◌, ◌-◌, ◌^◌}
use Rattle.cap_word.specs.declared.calls.Block.{Block}
use Rattle.c_mean.specs.ModelledCalls.{ticks_of}
use Rattle.ready_tree.specs.declared.needs.Need.{Need}
use Rattle.thread_waits.specs.declared.waits.Wait.{Wait}

-- the need of a thread that is blocked at a call since a clock; no clock is 2 ^ 64 - 1
abbrev pub need_of_block : ℕ → Block → Need
need_of_block since Block.Accept = Need.Arrival
need_of_block since (Block.Wait channel) = Need.Event (2 ^ channel) (2 ^ 64 - 1)
need_of_block since (Block.Sleep ticks) = Need.Event 0 (since + ticks_of ticks)
need_of_block since Block.Yield = Need.Nothing
need_of_block since (Block.WaitFor channel ticks) = Need.Event (2 ^ channel) (since + ticks_of ticks)
need_of_block since (Block.Take resource amount) = Need.Amount resource amount

abbrev pub need_for : Wait → Need
need_for Wait.Fresh = Need.Nothing
need_for (Wait.At block since) = need_of_block since block
