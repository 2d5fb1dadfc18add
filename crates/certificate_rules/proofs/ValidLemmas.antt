-- What validity gives to the layers above.
use Rattle.std.proofs.Common.{◌≡◌, ℕ, zero, suc, ◌+◌, ◌*◌, ◌<◌, ◌≤◌, ◌⊎◌, List, [], ◌∷◌, length, arith, refl, subst, Some, None, inl, inr}
use Rattle.std.specs.Prelude.{slice_get, slice_index_or, Contains}
use Rattle.std.proofs.Math.Nat.{le-max_left, le-max_right}
use Rattle.std.proofs.lemmas.Bool.{cases_lt}
use Rattle.flat_code.specs.declared.operations.Op.{Op}
use Rattle.flat_code.specs.Codes.{FlatCode, operation_at}
use Rattle.stack_image.specs.declared.images.Image.{Image}
use Rattle.stack_certificate.specs.declared.certificates.Certificate.{Certificate}
use Rattle.stack_certificate.specs.declared.sites.LinkKind.{LinkKind}
use Rattle.stack_certificate.specs.Certificates.{fact_at}
use Rattle.stack_certificate.specs.Templates.{kind_of}
use Rattle.certificate_rules.specs.Ranges.{AreApart}
use Rattle.certificate_rules.specs.Rules.{IsNeed, member_entries, starting_words}
use Rattle.certificate_rules.specs.Sites.{certified_site, callees_of, callee_bound, greatest_bound}
use Rattle.certificate_rules.specs.Validity.{IsValid}

-- lists with the same element at each index are the same
pub same_words : (xs ys : List ℕ) → ((i : ℕ) → slice_get xs i ≡ slice_get ys i) → xs ≡ ys
same_words [] [] h = refl
same_words [] (y ∷ ys) h = let e : None ≡ Some y = h zero in cc
same_words (x ∷ xs) [] h = let e : Some x ≡ None = h zero in cc
same_words (x ∷ xs) (y ∷ ys) h =
    let e : Some x ≡ Some y = h zero in
    let rest : xs ≡ ys = same_words xs ys (λ i. h (suc i)) in
    cc

pub tables_are : (code : FlatCode) (image : Image) (certificate : Certificate) → IsValid code image certificate → image.tables ≡ member_entries code certificate
tables_are code image certificate valid = same_words _ _ (λ i. ((valid.holds 8 zero i).v8 refl).word)

pub globals_are : (code : FlatCode) (image : Image) (certificate : Certificate) → IsValid code image certificate → image.globals ≡ starting_words code
globals_are code image certificate valid = same_words _ _ (λ i. ((valid.holds 12 zero i).v12 refl).word)

-- no function's bound is above the greatest
pub bound_within : (certificate : Certificate) (fs : List ℕ) (g : ℕ) → Contains fs g → (fact_at certificate g).bound ≤ greatest_bound certificate fs
bound_within certificate [] g h = absurd (omega (arith, h.1))
bound_within certificate (f ∷ fs) g h = at h.0 h.1 h.2 (λ k lt e. bound_within certificate fs g (k, lt, e))
  where
    at : (k : ℕ) → k < length (f ∷ fs) → slice_index_or (f ∷ fs) k g ≡ g →
        ((j : ℕ) → j < length fs → slice_index_or fs j g ≡ g → (fact_at certificate g).bound ≤ greatest_bound certificate fs) →
        (fact_at certificate g).bound ≤ greatest_bound certificate (f ∷ fs)
    at zero lt e later =
        subst (λ (x : ℕ). (fact_at certificate x).bound ≤ greatest_bound certificate (f ∷ fs)) e
        (le-max_left (fact_at certificate f).bound (greatest_bound certificate fs))
    at (suc k) lt e later =
        let below : (fact_at certificate g).bound ≤ greatest_bound certificate fs = later k (omega arith) e in
        let within = le-max_right (fact_at certificate f).bound (greatest_bound certificate fs) in
        omega arith

-- a plain call leaves room for each function that it may enter
pub plain_room : (code : FlatCode) (image : Image) (certificate : Certificate) → IsValid code image certificate → (f k site g : ℕ) (op : Op) →
    operation_at code f k ≡ Some op → certified_site op ≡ Some site → kind_of certificate op ≡ LinkKind.Plain → Contains (callees_of code op) g →
    (fact_at certificate f).frame + (fact_at certificate g).bound ≤ (fact_at certificate f).bound
plain_room code image certificate valid f k site g op there named plain callee =
    let room : (fact_at certificate f).frame + callee_bound code certificate op ≤ (fact_at certificate f).bound =
    ((valid.holds 10 f site).v10 refl).bound k op there named plain in
    let below = bound_within certificate (callees_of code op) g callee in
    omega arith

-- a need is enough for each function that may be entered
need_enough : (kind : LinkKind) (need bytes : ℕ) → IsNeed kind bytes → (kind ≡ LinkKind.Linked need) ⊎ (kind ≡ LinkKind.Spawned need) → need ≡ bytes
need_enough kind need bytes h (inl e) = subst (λ (x : LinkKind). IsNeed x bytes) e h
need_enough kind need bytes h (inr e) = subst (λ (x : LinkKind). IsNeed x bytes) e h

pub need_room : (code : FlatCode) (image : Image) (certificate : Certificate) → IsValid code image certificate → (f k site need g : ℕ) (op : Op) →
    operation_at code f k ≡ Some op → certified_site op ≡ Some site → (kind_of certificate op ≡ LinkKind.Linked need) ⊎ (kind_of certificate op ≡ LinkKind.Spawned need) →
    Contains (callees_of code op) g → (fact_at certificate g).bound ≤ need
need_room code image certificate valid f k site need g op there named kind callee =
    let is : need ≡ callee_bound code certificate op =
    need_enough (kind_of certificate op) need (callee_bound code certificate op) (((valid.holds 9 f site).v9 refl).need k op there named) kind in
    let below = bound_within certificate (callees_of code op) g callee in
    omega arith

-- of two runs that meet nowhere and have words, one ends before the other begins
pub one_before : (a m b n : ℕ) → 0 < m → 0 < n → AreApart a m b n → (a + 4 * m ≤ b) ⊎ (b + 4 * n ≤ a)
one_before a m b n some_a some_b apart = by (cases_lt a b) (cases_lt b (a + 4 * m)) (cases_lt a (b + 4 * n))
  where
    by : (a < b) ⊎ (b ≤ a) → (b < a + 4 * m) ⊎ (a + 4 * m ≤ b) → (a < b + 4 * n) ⊎ (b + 4 * n ≤ a) → (a + 4 * m ≤ b) ⊎ (b + 4 * n ≤ a)
    by first (inr past) third = inl past
    by first second (inr past) = inr past
    by (inl low) (inl meets) (inl third) = absurd (apart.no_byte b (omega arith, meets) (omega arith, omega arith))
    by (inr high) (inl second) (inl meets) = absurd (apart.no_byte a (omega arith, omega arith) (high, meets))
