-- No step of a thread loses a chunk or holds one twice: an instruction leaves chain and free list, LINK, UNLINK and END
-- move one chunk between them.
use Rattle.std.proofs.lemmas.List.Sums.{sum_by-cons}
use Rattle.machine_world.proofs.Common.{◌≡◌, ℕ, ◌+◌, nat_eq, List, [], ◌∷◌, Option, Some, None, refl, ap, ◌∙◌, arith, cond, all_free, shape_of, taken_for-leaves, taken_for-shape, with_stored, with_half, with_word, Stored, Nothing, Byte, Half, Word, read, Areas, Spot, InGlobals, InTables, InPayload, spot_of, with_byte_on, with_byte, t1, Local, local_step, copies, KeepsCopies, KeepsShape, copies-after_give}
use Rattle.machine_world.proofs.LocalCases.{on_local}

-- ---- the free list under writes

free-with_byte_on : (areas : Areas) (spot : Option Spot) (b : ℕ) → all_free (with_byte_on areas spot b).pool ≡ all_free areas.pool
free-with_byte_on areas None b = refl
free-with_byte_on areas (Some (InGlobals offset)) b = refl
free-with_byte_on areas (Some (InTables offset)) b = refl
free-with_byte_on areas (Some (InPayload chunk offset)) b = refl

pub free-with_byte : (areas : Areas) (a b : ℕ) → all_free (with_byte areas a b).pool ≡ all_free areas.pool
free-with_byte areas a b = free-with_byte_on areas (spot_of areas a) b

free-with_half : (areas : Areas) (a h : ℕ) → all_free (with_half with_byte areas a h).pool ≡ all_free areas.pool
unfolding with_half
free-with_half areas a h = free-with_byte _ _ _ ∙ free-with_byte areas a _

free-with_word : (areas : Areas) (a w : ℕ) → all_free (with_word with_byte areas a w).pool ≡ all_free areas.pool
unfolding with_word
free-with_word areas a w = free-with_half _ _ _ ∙ free-with_half areas a _

pub free-with_stored : (areas : Areas) (stored : Stored) → all_free (with_stored with_byte stored areas).pool ≡ all_free areas.pool
free-with_stored areas Nothing = refl
free-with_stored areas (Byte a v) = free-with_byte areas a v
free-with_stored areas (Half a v) = free-with_half areas a v
free-with_stored areas (Word a v) = free-with_word areas a v

-- ---- copies

pub copies-cons : (chunk x : ℕ) (xs : List ℕ) → copies chunk (x ∷ xs) ≡ cond (nat_eq x chunk) 1 0 + copies chunk xs
copies-cons chunk x xs = sum_by-cons (λ (other : ℕ). cond (nat_eq other chunk) 1 0) x xs

pub KeepsCopies-step : (code : List ℕ) (l : Local) (chunk : ℕ) → KeepsCopies chunk l (local_step code l)
KeepsCopies-step code l chunk = on_local code l (KeepsCopies chunk l) (record {
  goes = λ pc x stored e. ap (λ (free : List ℕ). copies chunk l.core.chain + copies chunk free) (free-with_stored l.areas stored);
  links = λ taken some.
      let left = taken_for-leaves l.areas.pool (read l.core.x t1) taken some chunk in
      let front = copies-cons chunk taken.chunk l.core.chain in
      let moved = copies-cons chunk taken.chunk (all_free taken.pool) in
      omega (arith, left, front, moved);
  unlinks = λ given chain is.
      let whole = ap (copies chunk) is ∙ copies-cons chunk given chain in
      let given_back = copies-after_give l.areas.pool given chunk in
      omega (arith, whole, given_back);
  starts = refl;
  calls = λ number call some. refl;
  ends = λ last is.
      let whole = ap (copies chunk) is ∙ copies-cons chunk last [] in
      let given_back = copies-after_give l.areas.pool last chunk in
      omega (arith, whole, given_back);
  traps = λ kind. tt;
  no_room = tt;
  wrong = tt;
})

-- ---- the shape of the pool

shape-with_byte_on : (areas : Areas) (spot : Option Spot) (b : ℕ) → shape_of (with_byte_on areas spot b).pool ≡ shape_of areas.pool
shape-with_byte_on areas None b = refl
shape-with_byte_on areas (Some (InGlobals offset)) b = refl
shape-with_byte_on areas (Some (InTables offset)) b = refl
shape-with_byte_on areas (Some (InPayload chunk offset)) b = refl

shape-with_half : (areas : Areas) (a h : ℕ) → shape_of (with_half with_byte areas a h).pool ≡ shape_of areas.pool
unfolding with_half
shape-with_half areas a h = shape-with_byte_on _ _ _ ∙ shape-with_byte_on areas (spot_of areas a) _

shape-with_word : (areas : Areas) (a w : ℕ) → shape_of (with_word with_byte areas a w).pool ≡ shape_of areas.pool
unfolding with_word
shape-with_word areas a w = shape-with_half _ _ _ ∙ shape-with_half areas a _

shape-with_stored : (areas : Areas) (stored : Stored) → shape_of (with_stored with_byte stored areas).pool ≡ shape_of areas.pool
shape-with_stored areas Nothing = refl
shape-with_stored areas (Byte a v) = shape-with_byte_on areas (spot_of areas a) v
shape-with_stored areas (Half a v) = shape-with_half areas a v
shape-with_stored areas (Word a v) = shape-with_word areas a v

pub KeepsShape-step : (code : List ℕ) (l : Local) → KeepsShape l (local_step code l)
KeepsShape-step code l = on_local code l (KeepsShape l) (record {
  goes = λ pc x stored e. shape-with_stored l.areas stored;
  links = λ taken some. taken_for-shape l.areas.pool (read l.core.x t1) taken some;
  unlinks = λ chunk chain is. refl;
  starts = refl;
  calls = λ number call some. refl;
  ends = λ chunk is. refl;
  traps = λ kind. tt;
  no_room = tt;
  wrong = tt;
})
