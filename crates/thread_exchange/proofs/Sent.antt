-- A message joins its channel's queue, or is dropped.
use Rattle.std.proofs.Common.{◌≡◌, ℕ, ◌<◌, ◌≤◌, List, [], ◌∷◌, ◌++◌, length, sym, ap, subst, arith, nat_le, true, false, slice_index_or}
use Rattle.std.proofs.lemmas.List.Elements.{All-get_or}
use Rattle.std.specs.Vec.{with_item}
use Rattle.c_mean.specs.ModelledCalls.{Message}
use Rattle.circular_buffer.specs.Buffer.{Buffer, buffer}
use Rattle.thread_exchange.specs.Exchanges.{after_delivery}
use Rattle.thread_exchange.specs.Inside.{exchanging, IsExchanging, items_of}
use Rattle.thread_exchange.specs.declared.exchange.Exchange.TheInside.{Inside}
use Rattle.thread_exchange.proofs.QueueLaws.{items_at, items_of-set, items_of-same}

capacity_is : (x : Inside) (i : ℕ) (queue : Buffer ℕ) → IsExchanging x → i < length x.channels.items → queue ≡ slice_index_or x.channels.items i queue → queue.capacity ≡ x.backlog
capacity_is x i queue k h e = subst (λ (q : Buffer ℕ). q.capacity ≡ x.backlog) (sym e) (All-get_or (λ q. q.capacity ≡ x.backlog) x.channels.items i queue h k.channels)

pub sent : (x : Inside) (i value : ℕ) (queue new : Buffer ℕ) → IsExchanging x → i < length x.channels.items → queue ≡ slice_index_or x.channels.items i queue →
    length queue.items < queue.capacity → new ≡ buffer (queue.items ++ value ∷ []) queue.capacity →
    exchanging (record x { channels = with_item x.channels i new }) ≡ after_delivery (exchanging x) (Message i value)
sent x i value queue new k h e room f =
    let at : slice_index_or (items_of x.channels.items) i [] ≡ queue.items = items_at x.channels.items i queue h e in
    let kept : nat_le x.backlog (length (slice_index_or (items_of x.channels.items) i [])) ≡ false = rw at (let c : queue.capacity ≡ x.backlog = capacity_is x i queue k h e in grind arith) in
    rw kept (ap (λ (channels : List (List ℕ)). record { caps = x.caps; backlog = x.backlog; exchange = record { arrivals = x.arrivals.items; channels = channels; uses = x.uses } })
    (items_of-set x.channels.items i queue new h e (λ items. items ++ value ∷ []) (ap (λ b. b.items) f)))

pub dropped : (x : Inside) (i value : ℕ) (queue new : Buffer ℕ) → IsExchanging x → i < length x.channels.items → queue ≡ slice_index_or x.channels.items i queue →
    queue.capacity ≤ length queue.items → new ≡ queue →
    exchanging (record x { channels = with_item x.channels i new }) ≡ after_delivery (exchanging x) (Message i value)
dropped x i value queue new k h e full f =
    let at : slice_index_or (items_of x.channels.items) i [] ≡ queue.items = items_at x.channels.items i queue h e in
    let kept : nat_le x.backlog (length (slice_index_or (items_of x.channels.items) i [])) ≡ true = rw at (let c : queue.capacity ≡ x.backlog = capacity_is x i queue k h e in grind arith) in
    rw kept (ap (λ (channels : List (List ℕ)). record { caps = x.caps; backlog = x.backlog; exchange = record { arrivals = x.arrivals.items; channels = channels; uses = x.uses } })
    (items_of-same x.channels.items i queue new h e (ap (λ b. b.items) f)))
