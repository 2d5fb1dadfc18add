-- The clock goes on.
use Rattle.thread_waits.proofs.Common.{ℕ, ◌≤◌, latest, IsCounted, Inside}

-- what is counted doesn't depend on the clock
pub advanced_counted : (old : Inside) (to : ℕ) → IsCounted old → to ≤ latest → IsCounted (record old { clock = to })
advanced_counted old to k possible = record {
  in_range = k.in_range;
  clock = possible;
  ready_always = k.ready_always;
  at_accept = k.at_accept;
  channel_count = k.channel_count;
  at_channels = k.at_channels;
  sleepers = k.sleepers;
  taker_count = k.taker_count;
  takers = k.takers;
}
