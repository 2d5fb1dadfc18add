-- What a run of one thread leaves unchanged.
use Rattle.std.specs.Prelude.{◌≡◌, ◌≢◌, ℕ, ◌<◌, ◌≤◌, List, ◌++◌, map, length, slice_get}
use Rattle.c_mean.specs.ModelledCalls.{Exchange, Delivery, Arrival, Message, channel_of}
use Rattle.c_mean.specs.World.{World}

-- after thread t ran in a world: every other thread rests where it rested, none has been removed, the outputs before
-- are followed only by those of t, and the number of channels is the same
pub record LeavesAlone (world : World) (t : ℕ) (after : World) : Type 0 where
  pub others : (u : ℕ) → u ≢ t → u < length world.threads → slice_get after.threads u ≡ slice_get world.threads u
  pub none_gone : length world.threads ≤ length after.threads
  pub outputs : (values : List ℕ) × (after.outputs ≡ world.outputs ++ map (λ v. (t, v)) values)
  pub channels : length after.exchange.channels ≡ length world.exchange.channels

-- after a delivery only its queue has changed
pub record LeavesOtherQueues (x : Exchange) (delivery : Delivery) (after : Exchange) : Type 0 where
  pub uses : after.uses ≡ x.uses
  pub arrivals : (channel value : ℕ) → delivery ≡ Message channel value → after.arrivals ≡ x.arrivals
  pub channels : (value : ℕ) → delivery ≡ Arrival value → after.channels ≡ x.channels
  pub other_channels : (channel other value : ℕ) → delivery ≡ Message channel value → other ≢ channel → channel_of after other ≡ channel_of x other
