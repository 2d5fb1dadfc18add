-- The variables of a well-formed program's operations have places.
use Rattle.stack_certificate.proofs.Common.{◌≡◌, ℕ, zero, suc, ◌<◌, ◌≤◌, List, [], ◌∷◌, length, map, arith, refl, ap, Option, Some, None, Bool, slice_index_or, All, option_map, AllByRecursion, Op, FlatCode, function_at, signature_of, Context, context_of, IsScalar, IsResultPlace, IsReturned, IsOperation, IsFunction, IsWellFormed, FunctionFact, HasPlace, HavePlaces, HasPlaces}
use Rattle.cap_word.proofs.CallLemmas.{number_is}
use Rattle.cap_word.specs.ModelledCalls.{call_numbered, number_of, parameters_of}
use Rattle.cap_word.specs.declared.modelled_calls.ModelledCall.{ModelledCall}
use Rattle.flat_code.specs.declared.functions.FlatFunction.{FlatFunction}
use Rattle.flat_code.specs.Modelled.{modelled_parameters}
use Rattle.cap_word.specs.Signatures.{signature_at}

pub all_at : {X : Type 0} (P : X → Type 0) (xs : List X) (i : ℕ) (d : X) → AllByRecursion P xs → i < length xs → P (slice_index_or xs i d)
all_at P [] i d h lt = absurd (omega arith)
all_at P (x ∷ xs) zero d h lt = h.0
all_at P (x ∷ xs) (suc i) d h lt = all_at P xs i d h.1 (omega arith)

variables : (c : Context) (xs : List ℕ) → AllByRecursion (IsScalar c) xs → All (λ x. x < length c.sizes) xs
variables c xs h k d lt = (all_at (IsScalar c) xs k d h lt).0

-- each function has at most six parameters
few : (fs : List FlatFunction) (g : ℕ) → ((i : ℕ) (d : FlatFunction) → i < length fs → (slice_index_or fs i d).params ≤ 6) → (signature_at (map signature_of fs) g).params ≤ 6
few [] g h = omega arith
few (f ∷ fs) zero h = h zero f (omega arith)
few (f ∷ fs) (suc g) h = few fs g (λ i d lt. h (suc i) d (omega arith))

result_place : (c : Context) (gives : Bool) (d : Option ℕ) → IsResultPlace c gives d → HasPlace (length c.sizes) d
result_place c gives None h = tt
result_place c gives (Some d) h = h.1.0

returned_place : (c : Context) (s : Option ℕ) → IsReturned c s → HasPlace (length c.sizes) s
returned_place c None h = tt
returned_place c (Some s) h = h.1.0

-- the row of a modelled call in the table: its number is small, and so is the count of its parameters
row_small : (call : ModelledCall) → (number_of call < 2048) × (parameters_of call ≤ 6)
row_small ModelledCall.Accept = (omega arith, omega arith)
row_small _ = (omega arith, omega arith)

-- a modelled call's number is small, and it has few arguments
modelled_small : (n k : ℕ) → modelled_parameters n ≡ Some k → (n < 2048) × (k ≤ 6)
modelled_small n k h = by_call (call_numbered n) refl h
  where
    by_call : (o : Option ModelledCall) → call_numbered n ≡ o → option_map parameters_of o ≡ Some k → (n < 2048) × (k ≤ 6)
    by_call None e h = absurd (cc)
    by_call (Some call) e h =
        let count : parameters_of call ≡ k = cc in
        let small = row_small call in
        (omega (arith, small.0, number_is n call e), omega (arith, small.1, count))

have_places : (c : Context) → ((g : ℕ) → (signature_at c.signatures g).params ≤ 6) → (op : Op) → IsOperation c op → HavePlaces (length c.sizes) op
have_places c most (Op.Const d value) h = h.0.0
have_places c most (Op.Bin op d a b) h = (h.0.0, h.1.0, h.2.0)
have_places c most (Op.Zero a) h = h
have_places c most (Op.LoadGlobal d g) h = h.0.0
have_places c most (Op.StoreGlobal g s) h = h.1.0
have_places c most (Op.LoadLocal d a i) h = (h.0.0, h.1, h.2.0)
have_places c most (Op.LoadArray d a i) h = (h.0.0, h.2.0)
have_places c most (Op.StoreLocal a i s) h = (h.0, h.1.0, h.2.0)
have_places c most (Op.StoreArray a i s) h = (h.1.0, h.2.0)
have_places c most (Op.Jump to) h = tt
have_places c most (Op.JumpZero s to) h = h.0.0
have_places c most (Op.Call site d f args) h = (variables c args h.2, rw h.1 (most f), result_place c (signature_at c.signatures f).gives d h.3)
have_places c most (Op.CallTable site d t i s) h = (h.1.0, h.2.0, result_place c _ d h.3)
have_places c most (Op.Model site d n args) h = (variables c args h.1, (modelled_small n (length args) h.0).1, (modelled_small n (length args) h.0).0, result_place c _ d h.2)
have_places c most (Op.Spawn site d f s) h = (h.2.0, result_place c _ d h.3)
have_places c most (Op.Return s) h = returned_place c s h
have_places c most _ h = (h.0.0, h.1.0)

pub function_formed : (code : FlatCode) (f : ℕ) → IsWellFormed code → f < length code.functions → IsFunction code (function_at code f)
function_formed code f formed lt = all_at (IsFunction code) code.functions f _ formed.functions lt

-- an operation of a function of a well-formed program, and as many places as it has variables
pub operation_places : (code : FlatCode) (f i n : ℕ) (d : Op) → IsWellFormed code → f < length code.functions → i < length (function_at code f).ops → n ≡ length (function_at code f).sizes → HavePlaces n (slice_index_or (function_at code f).ops i d)
operation_places code f i n d formed lt inside e =
    let function : IsFunction code (function_at code f) = all_at (IsFunction code) code.functions f _ formed.functions lt in
    rw e (have_places (context_of code (function_at code f)) (λ g. few code.functions g (λ j x l. (all_at (IsFunction code) code.functions j x formed.functions l).params))
    (slice_index_or (function_at code f).ops i d) (all_at (IsOperation (context_of code (function_at code f))) (function_at code f).ops i d function.ops inside))

-- an operation of a function of a well-formed program is well formed
pub operation_formed : (code : FlatCode) (f i : ℕ) (d : Op) → IsWellFormed code → f < length code.functions → i < length (function_at code f).ops → IsOperation (context_of code (function_at code f)) (slice_index_or (function_at code f).ops i d)
operation_formed code f i d formed lt inside =
    all_at (IsOperation (context_of code (function_at code f))) (function_at code f).ops i d (function_formed code f formed lt).ops inside

pub same_count : (fs : List FlatFunction) (facts : List FunctionFact) → HasPlaces fs facts → length facts ≡ length fs
same_count [] [] h = refl
same_count (f ∷ fs) (fact ∷ facts) h = ap suc (same_count fs facts h.1)
same_count _ _ h = absurd h

pub same_places : (fs : List FlatFunction) (facts : List FunctionFact) (i : ℕ) (f : FlatFunction) (fact : FunctionFact) → HasPlaces fs facts → i < length fs → length (slice_index_or facts i fact).places ≡ length (slice_index_or fs i f).sizes
same_places [] facts i f fact h lt = absurd (omega arith)
same_places (x ∷ xs) [] i f fact h lt = absurd h
same_places (x ∷ xs) (y ∷ ys) zero f fact h lt = h.0
same_places (x ∷ xs) (y ∷ ys) (suc i) f fact h lt = same_places xs ys i f fact h.1 (omega arith)

-- an element that is there doesn't depend on what stands for a missing one
pub any_default : {X : Type 0} (xs : List X) (i : ℕ) (d e : X) → i < length xs → slice_index_or xs i d ≡ slice_index_or xs i e
any_default [] i d e lt = absurd (omega arith)
any_default (x ∷ xs) zero d e lt = refl
any_default (x ∷ xs) (suc i) d e lt = any_default xs i d e (omega arith)
