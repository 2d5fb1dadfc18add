-- The contents of an exchange's fields.
use Rattle.std.specs.Prelude.{◌≡◌, ℕ, List, length, map, All}
use Rattle.circular_buffer.specs.Buffer.{Buffer}
use Rattle.thread_exchange.specs.Exchanges.{Exchanging, AreWithinCaps}
use Rattle.thread_exchange.specs.declared.exchange.Exchange.TheInside.{Inside}

-- the items of queues
abbrev pub items_of : List (Buffer ℕ) → List (List ℕ)
items_of queues = map (λ queue. queue.items) queues

abbrev pub exchanging : Inside → Exchanging
exchanging x = record {
  caps = x.caps;
  backlog = x.backlog;
  exchange = record { arrivals = x.arrivals.items; channels = items_of x.channels.items; uses = x.uses };
}

pub record IsExchanging (x : Inside) : Type 0 where
  pub cap_count : length x.caps ≡ 8
  pub use_count : length x.uses ≡ 8
  pub arrivals : x.arrivals.capacity ≡ x.backlog
  pub channels : All (λ queue. queue.capacity ≡ x.backlog) x.channels.items
  pub count : length x.channels.items ≡ 64
  pub within : AreWithinCaps (exchanging x)
