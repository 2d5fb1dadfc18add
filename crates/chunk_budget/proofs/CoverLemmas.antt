-- The least site that the checker takes is the least at which a call isn't covered.
use Rattle.chunk_budget.proofs.Common.{◌≡◌, ℕ, ◌+◌, ◌<◌, ◌≤◌, ◌⊎◌, List, [], ◌∷◌, length, refl, sym, ap, ◌∙◌, subst, arith, Some, None, inl, inr, ⊎_elim, leb-true, leb-false, Option, nat_le, nat_lt, map, ltb-false, le-ltb, AllByRecursion, none-some, same_Some, by_test, all-at, Op, FlatCode, function_at, operation_at, members_of, IsFunction, IsOperation, IsWellFormed, context_of, signature_of, Certificate, kind_of, slice_get_within, get_or_from_slice_get, IsLeastOf, height_of, chunks_added, IsCovered, AreCovered, IsLow, least_below, highest, unless, low_site}
use Rattle.cap_word.specs.Signatures.{IsTable}
use Rattle.certificate_rules.specs.Sites.{certified_site}
use Rattle.chunk_budget.proofs.LeastLemmas.{IsHeldBelow, same_least, below_least, inside}

-- ---- what a test tells

pub kept : (a b number : ℕ) → unless (nat_le a b) number ≡ None → a ≤ b
kept a b number e = by_test (nat_le a b) (λ t. leb-true a b t) (λ f. let some : Some number ≡ None = rw f at e in absurd cc)

pub refused : (a b number n : ℕ) → unless (nat_le a b) number ≡ Some n → (b < a) × (number ≡ n)
refused a b number n e = by_test (nat_le a b)
    (λ t. let none : None ≡ Some n = rw t at e in absurd cc)
    (λ f. (leb-false a b f, same_Some number n (rw f at e)))

pub refused_below : (a b number n : ℕ) → unless (nat_lt a b) number ≡ Some n → (b ≤ a) × (number ≡ n)
refused_below a b number n e = by_test (nat_lt a b)
    (λ t. let none : None ≡ Some n = rw t at e in absurd cc)
    (λ f. (ltb-false a b f, same_Some number n (rw f at e)))

pub rejected : (a b number : ℕ) → b ≤ a → unless (nat_lt a b) number ≡ Some number
rejected a b number le = rw (le-ltb a b le) refl

-- ---- the greatest height

pub all_within : (heights gs : List ℕ) (added caller : ℕ) → highest heights gs + added ≤ caller → AllByRecursion (λ g. height_of heights g + added ≤ caller) gs
all_within heights [] added caller h = tt
all_within heights (g ∷ gs) added caller h = (omega arith, all_within heights gs added caller (omega arith))

pub highest_within : (heights gs : List ℕ) (added caller : ℕ) → 0 < length gs → AllByRecursion (λ g. height_of heights g + added ≤ caller) gs → highest heights gs + added ≤ caller
highest_within heights [] added caller some h = absurd (omega arith)
highest_within heights (g ∷ []) added caller some h = let first = h.0 in omega arith
highest_within heights (g ∷ (other ∷ gs)) added caller some h =
    let first = h.0 in
    let rest = highest_within heights (other ∷ gs) added caller (omega arith) h.1 in
    omega arith

-- ---- one operation

-- a table that an operation calls has a member
abbrev pub HasMember : FlatCode → Op → Type 0
HasMember code op = (site : ℕ) (d : Option ℕ) (t i s : ℕ) → op ≡ Op.CallTable site d t i s → 0 < length (members_of code t)

pub has_member : (code : FlatCode) (f k : ℕ) (op : Op) → IsWellFormed code → operation_at code f k ≡ Some op → HasMember code op
has_member code f k op formed there site d t i s e =
    let function : IsFunction code (function_at code f) = all-at (IsFunction code) code.functions f _ formed.functions (inside code f k op there) in
    let within = slice_get_within (function_at code f).ops k op there in
    let at = all-at (IsOperation (context_of code (function_at code f))) (function_at code f).ops k op function.ops within in
    let here : IsOperation (context_of code (function_at code f)) op = subst (IsOperation (context_of code (function_at code f))) (get_or_from_slice_get (function_at code f).ops k op op there) at in
    let call = subst (IsOperation (context_of code (function_at code f))) e here in
    let table : IsTable (map signature_of code.functions) (members_of code t) = all-at (IsTable (map signature_of code.functions)) code.tables t [] formed.tables call.0 in
    let some = table.0 in
    omega arith

covered : (code : FlatCode) (certificate : Certificate) (heights : List ℕ) (f : ℕ) (op : Op) → low_site code certificate heights f op ≡ None → IsCovered code certificate heights f op
covered code certificate heights f (Op.Call site d g args) e =
    (kept (height_of heights g + chunks_added (kind_of certificate (Op.Call site d g args))) (height_of heights f) site e, tt)
covered code certificate heights f (Op.CallTable site d t i s) e =
    all_within heights (members_of code t) (chunks_added (kind_of certificate (Op.CallTable site d t i s))) (height_of heights f)
    (kept (highest heights (members_of code t) + chunks_added (kind_of certificate (Op.CallTable site d t i s))) (height_of heights f) site e)
covered code certificate heights f _ e = tt

-- what it says of a site at which a call isn't covered
record IsLowHere (code : FlatCode) (certificate : Certificate) (heights : List ℕ) (f : ℕ) (op : Op) (site : ℕ) : Type 0 where
  at : certified_site op ≡ Some site
  low : IsCovered code certificate heights f op → ⊥

low_here : (code : FlatCode) (certificate : Certificate) (heights : List ℕ) (f : ℕ) (op : Op) (n : ℕ) → HasMember code op → low_site code certificate heights f op ≡ Some n → IsLowHere code certificate heights f op n
low_here code certificate heights f (Op.Call site d g args) n member e =
    let r = refused (height_of heights g + chunks_added (kind_of certificate (Op.Call site d g args))) (height_of heights f) site n e in
    record { at = ap Some r.1; low = λ c. (let less = r.0 in let le = c.0 in omega arith) }
low_here code certificate heights f (Op.CallTable site d t i s) n member e =
    let r = refused (highest heights (members_of code t) + chunks_added (kind_of certificate (Op.CallTable site d t i s))) (height_of heights f) site n e in
    record {
      at = ap Some r.1;
      low = λ c. (let less = r.0 in
          let le = highest_within heights (members_of code t) (chunks_added (kind_of certificate (Op.CallTable site d t i s))) (height_of heights f) (member site d t i s refl) c in
          omega arith);
    }
low_here code certificate heights f _ n member e = absurd (none-some n e)

-- ---- the whole program

module _ (code : FlatCode) (certificate : Certificate) (heights : List ℕ) (formed : IsWellFormed code) where
  -- an option that is a number or none
  some_or_none : (r : Option ℕ) → (r ≡ None) ⊎ ((n : ℕ) × (r ≡ Some n))
  some_or_none None = inl refl
  some_or_none (Some n) = inr (n, refl)

  to_low : (n : ℕ) → ⊥ ⊎ IsHeldBelow (low_site code certificate heights) code (length code.functions) n → IsLow code certificate heights n
  to_low n (inl x) = absurd x
  to_low n (inr b) =
      let here = low_here code certificate heights b.f b.held.op n (has_member code b.f b.held.k b.held.op formed b.held.there) b.held.number_is in
      record { f = b.f; k = b.held.k; op = b.held.op; there = b.held.there; at = here.at; low = here.low }

  from_low : (n : ℕ) → IsLow code certificate heights n → ⊥ ⊎ IsHeldBelow (low_site code certificate heights) code (length code.functions) n
  from_low n l = ⊎_elim
      (λ none. absurd (l.low (covered code certificate heights l.f l.op none)))
      (λ some.
      let here = low_here code certificate heights l.f l.op some.0 (has_member code l.f l.k l.op formed l.there) some.1 in
      let is : some.0 ≡ n = same_Some some.0 n (sym here.at ∙ l.at) in
      inr (record { f = l.f; below = inside code l.f l.k l.op l.there; held = record { k = l.k; op = l.op; there = l.there; number_is = some.1 ∙ ap Some is } }))
      (some_or_none (low_site code certificate heights l.f l.op))

  -- the answer is the least site at which a call isn't covered, or none
  pub low_least : (r : Option ℕ) → r ≡ least_below (low_site code certificate heights) code None (length code.functions) → IsLeastOf (IsLow code certificate heights) r
  low_least r e = subst (IsLeastOf (IsLow code certificate heights)) (sym e)
      (same_least (λ n. ⊥ ⊎ IsHeldBelow (low_site code certificate heights) code (length code.functions) n) (IsLow code certificate heights)
      (least_below (low_site code certificate heights) code None (length code.functions)) to_low from_low
      (below_least (λ n. ⊥) (low_site code certificate heights) code None (length code.functions) (λ n x. x)))

  -- where no site is too low, each operation is covered
  pub all_covered : ((n : ℕ) → IsLow code certificate heights n → ⊥) → AreCovered code certificate heights
  all_covered none f k op there = ⊎_elim
      (λ e. covered code certificate heights f op e)
      (λ some.
      let here = low_here code certificate heights f op some.0 (has_member code f k op formed there) some.1 in
      absurd (none some.0 (record { f = f; k = k; op = op; there = there; at = here.at; low = here.low })))
      (some_or_none (low_site code certificate heights f op))
