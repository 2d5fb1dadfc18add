-- The live threads, read from records at places: found by their numbers, in the order of the numbers.
use Rattle.std.specs.Prelude.{◌≡◌, ℕ, zero, suc, ◌+◌, ◌<◌, List, [], ◌∷◌, Option, Some, None, if◌then◌else◌, nat_eq, slice_index_or}
use Rattle.machine_world.specs.Threads.{Thread}

-- the record at a place, if there is one
abbrev pub at_place : {R : Type 0} → List (Option R) → ℕ → Option R
at_place slots place = slice_index_or slots place None

-- the thread of a number among the records from a place on: the first one with that number
abbrev pub find_from : {R : Type 0} → (R → ℕ) → (ℕ → R → Thread) → ℕ → List (Option R) → ℕ → Option Thread
find_from number_of thread_in place [] number = None
find_from number_of thread_in place (None ∷ rest) number = find_from number_of thread_in (place + 1) rest number
find_from number_of thread_in place (Some r ∷ rest) number =
    if nat_eq (number_of r) number then Some (thread_in place r) else find_from number_of thread_in (place + 1) rest number

abbrev pub with_found : Option Thread → List Thread → List Thread
with_found None threads = threads
with_found (Some thread) threads = thread ∷ threads

-- the threads that are found for n consecutive numbers from one on
abbrev pub threads_from : (ℕ → Option Thread) → ℕ → ℕ → List Thread
threads_from find number zero = []
threads_from find number (suc n) = with_found (find number) (threads_from find (number + 1) n)

-- the threads of all records with numbers below a bound
abbrev pub threads_in : {R : Type 0} → (R → ℕ) → (ℕ → R → Thread) → List (Option R) → ℕ → List Thread
threads_in number_of thread_in slots next = threads_from (find_from number_of thread_in 0 slots) 0 next

-- no two records have the same number, and all numbers are below a bound
pub record IsNumbered {R : Type 0} (number_of : R → ℕ) (slots : List (Option R)) (next : ℕ) : Type 0 where
  pub unique : (i j : ℕ) (r s : R) → at_place slots i ≡ Some r → at_place slots j ≡ Some s → number_of r ≡ number_of s → i ≡ j
  pub below : (i : ℕ) (r : R) → at_place slots i ≡ Some r → number_of r < next

-- a thread is that of a record
pub record IsOfRecord {R : Type 0} (number_of : R → ℕ) (thread_in : ℕ → R → Thread) (slots : List (Option R)) (thread : Thread) : Type 0 where
  pub place : ℕ
  pub r : R
  pub there : at_place slots place ≡ Some r
  pub is : thread ≡ thread_in place r

-- every other place has the same record with the same thread
pub record KeepsRecords {R : Type 0} (thread_in thread_in' : ℕ → R → Thread) (slots slots' : List (Option R)) (place : ℕ) : Type 0 where
  pub records : (k : ℕ) → (k ≡ place → ⊥) → at_place slots' k ≡ at_place slots k
  pub threads : (k : ℕ) (s : R) → (k ≡ place → ⊥) → at_place slots k ≡ Some s → thread_in' k s ≡ thread_in k s
