-- Needs that say who may go on.
use Rattle.scheduler.proofs.Common.{◌≡◌, ◌<◌, ℕ, Bool, true, false, ◌&&◌, ◌||◌, not, cond, Option, Some, None, position, List, [], ◌∷◌, length, nat_lt, slice_index_or, IsSome, refl, sym, ap, subst, ◌∙◌, BTreeMap, get, AllByRecursion, nat_cmp, ThreadId, Bounds, Entry, entries_of, may_go, AreExact, entries_in, passes_at, queues_of}
use Rattle.ready_tree.specs.declared.needs.Need.{Need}
use Rattle.ready_tree.specs.Needs.{is_met, is_arrival}
use Rattle.scheduler.proofs.QueueLemmas.{same_first}
use Rattle.scheduler.proofs.StateLemmas.{entries_are}

-- ---- at the gate

no_gate : (ready : Bool) → ready ≡ (ready && true)
no_gate true = refl
no_gate false = refl

-- with the arrival as far as the gate lets it pass, a need is met where the thread is eligible
pub met_at_gate : (bounds : Bounds) (need : Need) (ready accept elsewhere gate : Bool) → ready ≡ is_met bounds need → accept ≡ is_arrival need →
    is_met (record bounds { arrival = bounds.arrival && (gate || not elsewhere) }) need ≡ (ready && (not accept || (gate || not elsewhere)))
met_at_gate bounds Need.Nothing ready accept elsewhere gate r a = rw (r, a) refl
met_at_gate bounds Need.Arrival ready accept elsewhere gate r a = rw (r, a) refl
met_at_gate bounds (Need.Event channels from) ready accept elsewhere gate r a = sym r ∙ no_gate ready ∙ rw a refl
met_at_gate bounds (Need.Amount resource amount) ready accept elsewhere gate r a = sym r ∙ no_gate ready ∙ rw a refl

-- ---- places

exact_places : (bounds : Bounds) (test : ThreadId → Bool) (places : List (Option Entry)) → AreExact bounds test (entries_of places) →
    AllByRecursion (λ place. may_go bounds place ≡ passes_at test place) places
exact_places bounds test [] exact = tt
exact_places bounds test (None ∷ places) exact = (refl, exact_places bounds test places exact)
exact_places bounds test (Some entry ∷ places) exact = (exact.0, exact_places bounds test places exact.1)

-- the first need that is met is that of the first thread that passes
pub exact_first : (bounds : Bounds) (test : ThreadId → Bool) (places : List (Option Entry)) → AreExact bounds test (entries_of places) →
    position (may_go bounds) places ≡ position (passes_at test) places
exact_first bounds test places exact =
    ap (λ (k : ℕ). cond (nat_lt k (length places)) (Some k) None) (same_first (may_go bounds) (passes_at test) places (exact_places bounds test places exact))

-- ---- all

pub all_map : {X : Type 0} (P Q : X → Type 0) (xs : List X) → ((x : X) → P x → Q x) → AllByRecursion P xs → AllByRecursion Q xs
all_map P Q [] goes all = tt
all_map P Q (x ∷ xs) goes all = (goes x all.0, all_map P Q xs goes all.1)

-- the needs that a world vouches for say who passes, where the bounds do for each such need
pub all_exact : (queues : BTreeMap ℕ (List (Option Entry))) (count : ℕ) → ((node : ℕ) → IsSome (get nat_cmp queues node) → node < count) → (vouches : ThreadId → Need → Type 0) (given : Bounds) (test : ThreadId → Bool) →
    ((thread : ThreadId) (need : Need) → vouches thread need → is_met given need ≡ test thread) →
    ((node : ℕ) → AllByRecursion (λ entry. vouches entry.thread entry.need) (slice_index_or (queues_of queues count) node [])) →
    (node : ℕ) → AreExact given test (entries_in queues node)
all_exact queues count placed vouches given test says known node =
    all_map (λ (e : Entry). vouches e.thread e.need) (λ (e : Entry). is_met given e.need ≡ test e.thread) (entries_in queues node)
    (λ e vouched. says e.thread e.need vouched)
    (subst (AllByRecursion (λ (e : Entry). vouches e.thread e.need)) (entries_are queues count placed node) (known node))
