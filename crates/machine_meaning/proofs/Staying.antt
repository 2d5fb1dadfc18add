-- What stays of the threads that don't run, and lists of rests.
use Rattle.machine_meaning.proofs.Common.{◌≡◌, ◌≢◌, ℕ, zero, suc, ◌<◌, List, [], ◌∷◌, ◌++◌, length, Option, Some, None, refl, ap, arith, slice_get, slice_set, Pool, a0, Core, Checked, IsResting, AtStart, PastCall, IsPast, Blocked, Thread, result_place, read, HoldsWanted, HoldsResult, MayRun, KeepsChunks, frames_law, IsSettledIf, RestsSo, keeps_self}

-- ---- rest

settled_thread : (c : Checked) (pool after : Pool) (thread : Thread) (blocked : Option Blocked) (rests : IsResting c pool thread.core) → KeepsChunks pool after thread.core.chain → RestsSo c pool thread rests blocked → (now : IsResting c after thread.core) × RestsSo c after thread now blocked
settled_thread c pool after thread None (AtStart f frames in_place) kept h = (AtStart f frames (frames_law c pool after thread.core thread.core _ frames kept (keeps_self thread.core) in_place), h)
settled_thread c pool after thread (Some blocked) (PastCall f i op word place frames in_place) kept h =
    (PastCall f i op word place frames (record { operation = in_place.operation; ecall = in_place.ecall; pc = in_place.pc; frames_are = frames_law c pool after thread.core thread.core place frames kept (keeps_self thread.core) in_place.frames_are }), h)
settled_thread c pool after thread _ _ kept h = absurd h

pub settled_stays : (c : Checked) (pool after : Pool) (thread : Option Thread) → ((t : Thread) → thread ≡ Some t → KeepsChunks pool after t.core.chain) → IsSettledIf c pool thread → IsSettledIf c after thread
settled_stays c pool after None kept h = tt
settled_stays c pool after (Some thread) kept h = settled_thread c pool after thread thread.blocked h.0 (kept thread refl) h.1

-- a thread past its ECALL may run
pub past_may : (c : Checked) (pool : Pool) (core : Core) (rests : IsResting c pool core) → IsPast c pool core rests → MayRun c pool core rests
past_may c pool core (PastCall f i op word place frames in_place) past = tt
past_may c pool core _ past = absurd past

wanted_by : (d : Option ℕ) (core : Core) (result : ℕ) → result ≡ read core.x a0 → HoldsWanted d core result
wanted_by None core result e = tt
wanted_by (Some d) core result e = e

-- what a0 holds is a result wherever one is wanted
pub holds_by : (c : Checked) (pool : Pool) (core : Core) (rests : IsResting c pool core) (result : ℕ) → result ≡ read core.x a0 → HoldsResult c pool core rests result
holds_by c pool core (PastCall f i op word place frames in_place) result e = wanted_by (result_place op) core result e
holds_by c pool core _ result e = tt

-- ---- lists

pub get_set_same : {A : Type 0} (xs : List A) (i : ℕ) (a : A) → i < length xs → slice_get (slice_set xs i a) i ≡ Some a
get_set_same [] i a lt = absurd (omega arith)
get_set_same (x ∷ xs) zero a lt = refl
get_set_same (x ∷ xs) (suc i) a lt = get_set_same xs i a (omega arith)

pub get_append_other : {A : Type 0} (xs : List A) (a : A) (u : ℕ) → u ≢ length xs → slice_get (xs ++ a ∷ []) u ≡ slice_get xs u
get_append_other [] a zero ne = absurd (ne refl)
get_append_other (x ∷ xs) a (suc u) ne = get_append_other xs a u (λ e. ne (ap suc e))
get_append_other _ a _ ne = refl

pub get_append_last : {A : Type 0} (xs : List A) (a : A) → slice_get (xs ++ a ∷ []) (length xs) ≡ Some a
get_append_last [] a = refl
get_append_last (x ∷ xs) a = get_append_last xs a
