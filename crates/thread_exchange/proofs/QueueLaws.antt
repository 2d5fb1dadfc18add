-- One queue among many is written.
use Rattle.std.proofs.Common.{◌≡◌, ℕ, ◌<◌, List, [], length, sym, ◌∙◌, ap, slice_index_or, slice_set}
use Rattle.std.proofs.lemmas.List.{map-set, get_or-map, set-get_or}
use Rattle.circular_buffer.specs.Buffer.{Buffer}
use Rattle.thread_exchange.specs.Inside.{items_of}

-- the items of a queue
pub items_at : (queues : List (Buffer ℕ)) (i : ℕ) (queue : Buffer ℕ) → i < length queues → queue ≡ slice_index_or queues i queue →
    slice_index_or (items_of queues) i [] ≡ queue.items
items_at queues i queue h e = get_or-map (λ q. q.items) queues i queue [] h ∙ ap (λ q. q.items) (sym e)

-- the items of all, where a queue is written
pub items_of-set : (queues : List (Buffer ℕ)) (i : ℕ) (queue new : Buffer ℕ) → i < length queues → queue ≡ slice_index_or queues i queue →
    (items : List ℕ → List ℕ) → new.items ≡ items queue.items →
    items_of (slice_set queues i new) ≡ slice_set (items_of queues) i (items (slice_index_or (items_of queues) i []))
items_of-set queues i queue new h e items f =
    rw (items_at queues i queue h e, ← f) (map-set (λ q. q.items) queues i new)

-- and where it is written as it was
pub items_of-same : (queues : List (Buffer ℕ)) (i : ℕ) (queue new : Buffer ℕ) → i < length queues → queue ≡ slice_index_or queues i queue →
    new.items ≡ queue.items → items_of (slice_set queues i new) ≡ items_of queues
items_of-same queues i queue new h e f =
    items_of-set queues i queue new h e (λ xs. xs) f ∙ set-get_or (items_of queues) i []
