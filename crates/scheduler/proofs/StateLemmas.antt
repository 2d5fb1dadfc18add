-- The state of a scheduler after one step on its queues.
use Rattle.scheduler.proofs.Common.{◌≡◌, ◌≢◌, ℕ, ◌+◌, ◌<◌, ◌≤◌, Bool, IsSome, ℤ, Option, Some, None, Contains, List, [], ◌∷◌, ◌++◌, length, set, get_or, get_or-set_same, get_or-set_other, slice_index, refl, sym, ap, ◌∙◌, subst, arith, rules, ⊎_elim, BTreeMap, get, nat_cmp, cases_eq, cases_lt, ThreadId, Entry, entries_of, Choice, IsLawfulChoice, entries_in, queue_in, queues_of, places_of, threads_of, without_entry, SchedulerState, IsJoined, IsNoted, IsTold, IsTaken}
use Rattle.std.proofs.Math.Path.{fun_ext}
use Rattle.std.proofs.Math.ListN.{get_or-eq_default}
use Rattle.std.proofs.lemmas.List.FromFn.{get_or-map-range_with_len, length-map-range_with_len}
use Rattle.std.proofs.lemmas.List.{map-append}
use Rattle.scheduler.proofs.QueueLemmas.{without_threads}

-- ---- the queue of a node is the one that is kept of it

no_entries : (queue : Option (List (Option Entry))) → (IsSome queue → ⊥) → entries_of (places_of queue) ≡ []
no_entries None h = refl
no_entries (Some queue) h = absurd (h (search rules))

some_entries : (queue : Option (List (Option Entry))) → 0 < length (threads_of (entries_of (places_of queue))) → IsSome queue
some_entries None h = absurd (omega arith)
some_entries (Some queue) h = search rules

pub entries_are : (queues : BTreeMap ℕ (List (Option Entry))) (count : ℕ) → ((node : ℕ) → IsSome (get nat_cmp queues node) → node < count) →
    (node : ℕ) → get_or (queues_of queues count) node [] ≡ entries_in queues node
entries_are queues count placed node =
    ⊎_elim
    (λ lt. get_or-map-range_with_len (entries_in queues) 0 count node node [] lt (omega arith))
    (λ ge. let long : length (queues_of queues count) ≤ node = omega (arith, length-map-range_with_len (entries_in queues) 0 count) in
    get_or-eq_default (queues_of queues count) [] long
    ∙ sym (no_entries (get nat_cmp queues node) (λ some. let lt : node < count = placed node some in absurd (omega arith))))
    (cases_lt node count)

pub queue_at : (queues : BTreeMap ℕ (List (Option Entry))) (count : ℕ) → ((node : ℕ) → IsSome (get nat_cmp queues node) → node < count) →
    (node : ℕ) → threads_of (get_or (queues_of queues count) node []) ≡ queue_in queues node
queue_at queues count placed node = ap threads_of (entries_are queues count placed node)

-- a choice is lawful for queues that are the same at each node
pub lawful_by_queues : (queue given : ℕ → List ThreadId) (eligible : ThreadId → Bool) (score : ℕ → ℤ) (last : ℕ → ℕ) (choice : Option Choice) →
    ((node : ℕ) → given node ≡ queue node) → IsLawfulChoice queue eligible score last choice → IsLawfulChoice given eligible score last choice
lawful_by_queues queue given eligible score last choice each lawful =
    subst (λ q. IsLawfulChoice q eligible score last choice) (sym (fun_ext each)) lawful

-- a queue with a thread is that of a node with a place
pub node-placed : (queues : BTreeMap ℕ (List (Option Entry))) (count node : ℕ) (thread : ThreadId) → ((other : ℕ) → IsSome (get nat_cmp queues other) → other < count) →
    Contains (queue_in queues node) thread → node < count
node-placed queues count node thread placed queued = placed node (some_entries (get nat_cmp queues node) (omega (arith, queued.1)))

abbrev pub state_of : BTreeMap ℕ (List (Option Entry)) → List ℕ → ℕ → SchedulerState
state_of queues lasts count = record { queues = queues_of queues (length lasts); lasts = lasts; noted = count }

-- ---- a thread joined a node's queue

pub placed_joined : (old new : BTreeMap ℕ (List (Option Entry))) (less more node : ℕ) → less ≤ more → node < more →
    ((other : ℕ) → IsSome (get nat_cmp old other) → other < less) →
    ((other : ℕ) → other ≢ node → IsSome (get nat_cmp new other) → IsSome (get nat_cmp old other)) →
    (other : ℕ) → IsSome (get nat_cmp new other) → other < more
placed_joined old new less more node longer lt placed nodes other some =
    ⊎_elim
    (λ same. let e : other ≡ node = same in omega arith)
    (λ ne. let before : other < less = placed other (nodes other ne some) in omega arith)
    (cases_eq other node)

pub told_of : (queues new_queues : BTreeMap ℕ (List (Option Entry))) (old new : List ℕ) (count node : ℕ) (entry : Entry) → ((other : ℕ) → IsSome (get nat_cmp queues other) → other < length old) →
    length old ≤ length new → node < length new →
    entries_in new_queues node ≡ entries_in queues node ++ entry ∷ [] → ((other : ℕ) → other ≢ node → entries_in new_queues other ≡ entries_in queues other) →
    ((other : ℕ) → other ≢ node → IsSome (get nat_cmp new_queues other) → IsSome (get nat_cmp queues other)) →
    IsTold (state_of queues old count) (state_of new_queues new count) node entry
told_of queues new_queues old new count node entry placed longer lt queue others nodes =
    let before = entries_are queues (length old) placed in
    let after = entries_are new_queues (length new) (placed_joined queues new_queues (length old) (length new) node longer lt placed nodes) in
    record {
      queue = after node ∙ queue ∙ ap (λ (q : List Entry). q ++ entry ∷ []) (sym (before node));
      others = λ other ne. after other ∙ others other ne ∙ sym (before other);
    }

pub joined_of : (old new : SchedulerState) (node : ℕ) (entry : Entry) → IsTold old new node entry → ((other : ℕ) → slice_index new.lasts other ≡ slice_index old.lasts other) → new.noted ≡ old.noted →
    IsJoined old new node entry.thread
joined_of old new node entry told same noted = record {
  queue = ap threads_of told.queue ∙ map-append (λ (e : Entry). e.thread) (get_or old.queues node []) (entry ∷ []);
  others = λ other ne. ap threads_of (told.others other ne);
  lasts = same;
  noted = noted;
}

-- ---- a choice's thread left its queue, and its node's last was set

pub taken_of : (choice : Choice) (queues new_queues : BTreeMap ℕ (List (Option Entry))) (lasts new : List ℕ) (count more : ℕ) → ((other : ℕ) → IsSome (get nat_cmp queues other) → other < length lasts) → length new ≡ length lasts →
    entries_in new_queues choice.node ≡ without_entry choice.thread (entries_in queues choice.node) →
    ((other : ℕ) → other ≢ choice.node → entries_in new_queues other ≡ entries_in queues other) →
    ((other : ℕ) → IsSome (get nat_cmp new_queues other) → IsSome (get nat_cmp queues other)) →
    IsTaken (state_of queues lasts count) (state_of new_queues new more) choice
taken_of choice queues new_queues lasts new count more placed long queue others nodes =
    let before = entries_are queues (length lasts) placed in
    let after = entries_are new_queues (length new) (λ other some. let below : other < length lasts = placed other (nodes other some) in omega arith) in
    record {
      queue = after choice.node ∙ queue ∙ ap (λ (q : List Entry). without_entry choice.thread q) (sym (before choice.node));
      others = λ other ne. after other ∙ others other ne ∙ sym (before other);
    }

pub noted_from : (choice : Choice) (old new : SchedulerState) → IsTaken old new choice → choice.node < length old.lasts → new.lasts ≡ set old.lasts choice.node (old.noted + 1) → new.noted ≡ old.noted + 1 →
    IsNoted old new choice
noted_from choice old new taken lt lasts noted = record {
  queue = ap threads_of taken.queue ∙ without_threads choice.thread (get_or old.queues choice.node []);
  others = λ other ne. ap threads_of (taken.others other ne);
  last = rw (lasts, get_or-set_same old.lasts choice.node (old.noted + 1) 0 lt) refl;
  other_lasts = λ other ne. rw (lasts, get_or-set_other old.lasts choice.node other (old.noted + 1) 0 ne) refl;
  noted = noted;
}
