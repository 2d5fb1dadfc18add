-- The tree above the queues covers them after each change, and tells at which nodes nobody may go on.
use Rattle.scheduler.proofs.Common.{◌≡◌, ◌≢◌, ℕ, ◌+◌, ◌<◌, ◌≤◌, Bool, false, IsSome, Option, None, find, List, [], ◌∷◌, refl, sym, ◌∙◌, arith, ⊎_elim, BTreeMap, cases_lt, ThreadId, Bounds, Entry, AreExact, entries_in, queue_in, threads_of}
use Rattle.scheduler.specs.NodeQueues.{AreUnmet, IsFirstNode}
use Rattle.scheduler.proofs.ChoiceLemmas.{not_none}

-- ---- nodes at which nobody may go on

-- where no need is met, nobody passes
pub unmet_nobody : (bounds : Bounds) (test : ThreadId → Bool) (entries : List Entry) → AreExact bounds test entries → AreUnmet bounds entries → find test (threads_of entries) ≡ None
unmet_nobody bounds test [] exact none = refl
unmet_nobody bounds test (entry ∷ entries) exact none =
    let fails : test entry.thread ≡ false = sym exact.0 ∙ none.0 in
    rw fails (unmet_nobody bounds test entries exact.1 none.1)

-- the nodes up to the next one were seen, where each with an eligible thread is meant
pub seen_before : (bounds : Bounds) (test : ThreadId → Bool) (queues : BTreeMap ℕ (List (Option Entry))) (from node : ℕ) → ((other : ℕ) → AreExact bounds test (entries_in queues other)) → IsFirstNode bounds queues from node →
    (other : ℕ) → IsSome (find test (queue_in queues other)) → other < node + 1 → node ≢ other → other < from
seen_before bounds test queues from node exact first other some now ne = ⊎_elim
    (λ lt. lt)
    (λ ge. absurd (not_none (find test (queue_in queues other)) (unmet_nobody bounds test (entries_in queues other) (exact other) (first.before other ge (omega arith))) some))
    (cases_lt other from)

-- and all where there is no next one
pub all_seen : (bounds : Bounds) (test : ThreadId → Bool) (queues : BTreeMap ℕ (List (Option Entry))) (from : ℕ) → ((other : ℕ) → AreExact bounds test (entries_in queues other)) →
    ((other : ℕ) → from ≤ other → AreUnmet bounds (entries_in queues other)) → (other : ℕ) → IsSome (find test (queue_in queues other)) → other < from
all_seen bounds test queues from exact none other some = ⊎_elim
    (λ lt. lt)
    (λ ge. absurd (not_none (find test (queue_in queues other)) (unmet_nobody bounds test (entries_in queues other) (exact other) (none other ge)) some))
    (cases_lt other from)
