-- The least of the numbers that a program's operations have is the least that some operation has.
use Rattle.chunk_budget.proofs.Common.{◌≡◌, ℕ, zero, suc, ◌+◌, ◌<◌, ◌≤◌, ◌⊎◌, false, min, List, [], ◌∷◌, length, refl, sym, ap, ◌∙◌, subst, arith, Some, None, inl, inr, ⊎_elim, drop, drop-cons, add-one, Option, slice_get, slice_index_or, cases_lt, none-some, same_Some, get_or_past, Op, FlatCode, function_at, operation_at, IsLeast, IsLeastOf, lesser, least_in, least_below}

pub same_least : (P Q : ℕ → Type 0) (r : Option ℕ) → ((n : ℕ) → P n → Q n) → ((n : ℕ) → Q n → P n) → IsLeastOf P r → IsLeastOf Q r
same_least P Q None to from h = λ n q. h n (from n q)
same_least P Q (Some n) to from h = record { holds = to n h.holds; least = λ m q. h.least m (from m q) }

-- the number that there is, if there is one, is the least
pub own_least : (r : Option ℕ) → IsLeastOf (λ n. r ≡ Some n) r
own_least None = λ n e. none-some n e
own_least (Some s) = record { holds = refl; least = λ m e. (let is = same_Some s m e in omega arith) }

lesser_least : (P : ℕ → Type 0) (first second : Option ℕ) → IsLeastOf P first → IsLeastOf (λ n. P n ⊎ (second ≡ Some n)) (lesser first second)
lesser_least P None None h = λ n x. ⊎_elim (λ p. h n p) (λ e. none-some n e) x
lesser_least P None (Some s) h = record { holds = inr refl; least = λ m x. ⊎_elim (λ p. absurd (h m p)) (λ e. let is = same_Some s m e in omega arith) x }
lesser_least P (Some f) None h = record { holds = inl h.holds; least = λ m x. ⊎_elim (λ p. h.least m p) (λ e. absurd (none-some m e)) x }
lesser_least P (Some f) (Some s) h = ⊎_elim
    (λ below.
    let is : f ≡ min f s = omega arith in
    subst (λ (n : ℕ). IsLeast (λ m. P m ⊎ (Some s ≡ Some m)) n) is
    (record { holds = inl h.holds; least = λ m x. ⊎_elim (λ p. h.least m p) (λ e. let same = same_Some s m e in omega arith) x }))
    (λ above.
    let is : s ≡ min f s = omega arith in
    subst (λ (n : ℕ). IsLeast (λ m. P m ⊎ (Some s ≡ Some m)) n) is
    (record { holds = inr refl; least = λ m x. ⊎_elim (λ p. let le = h.least m p in omega arith) (λ e. let same = same_Some s m e in omega arith) x }))
    (cases_lt f s)

-- ---- the operations of a function

-- one of some operations has the number n
pub record IsHeld (number : Op → Option ℕ) (ops : List Op) (n : ℕ) : Type 0 where
  pub k : ℕ
  pub op : Op
  pub there : slice_get ops k ≡ Some op
  pub number_is : number op ≡ Some n

first_or_later : (number : Op → Option ℕ) (op : Op) (ops : List Op) (n k : ℕ) (o : Op) → slice_get (op ∷ ops) k ≡ Some o → number o ≡ Some n → (number op ≡ Some n) ⊎ IsHeld number ops n
first_or_later number op ops n zero o there is = inl (ap number (same_Some op o there) ∙ is)
first_or_later number op ops n (suc k) o there is = inr (record { k = k; op = o; there = there; number_is = is })

in_least : (P : ℕ → Type 0) (number : Op → Option ℕ) (ops : List Op) (first : Option ℕ) → IsLeastOf P first → IsLeastOf (λ n. P n ⊎ IsHeld number ops n) (least_in number ops first)
in_least P number [] first h = same_least P (λ n. P n ⊎ IsHeld number [] n) first (λ n p. inl p) (λ n x. ⊎_elim (λ p. p) (λ held. absurd (none-some held.op held.there)) x) h
in_least P number (op ∷ ops) first h =
    same_least (λ n. (P n ⊎ (number op ≡ Some n)) ⊎ IsHeld number ops n) (λ n. P n ⊎ IsHeld number (op ∷ ops) n) (least_in number ops (lesser first (number op))) to from
    (in_least (λ n. P n ⊎ (number op ≡ Some n)) number ops (lesser first (number op)) (lesser_least P first (number op) h))
  where
    to : (n : ℕ) → (P n ⊎ (number op ≡ Some n)) ⊎ IsHeld number ops n → P n ⊎ IsHeld number (op ∷ ops) n
    to n (inl (inl p)) = inl p
    to n (inl (inr e)) = inr (record { k = zero; op = op; there = refl; number_is = e })
    to n (inr held) = inr (record { k = suc held.k; op = held.op; there = held.there; number_is = held.number_is })

    from : (n : ℕ) → P n ⊎ IsHeld number (op ∷ ops) n → (P n ⊎ (number op ≡ Some n)) ⊎ IsHeld number ops n
    from n (inl p) = inl (inl p)
    from n (inr held) = ⊎_elim (λ e. inl (inr e)) (λ later. inr later) (first_or_later number op ops n held.k held.op held.there held.number_is)

-- ---- the functions of a program

-- an operation of one of the first so many functions has the number n
pub record IsHeldBelow (number : ℕ → Op → Option ℕ) (code : FlatCode) (count n : ℕ) : Type 0 where
  pub f : ℕ
  pub below : f < count
  pub held : IsHeld (number f) (function_at code f).ops n

pub below_least : (P : ℕ → Type 0) (number : ℕ → Op → Option ℕ) (code : FlatCode) (first : Option ℕ) (count : ℕ) → IsLeastOf P first →
    IsLeastOf (λ n. P n ⊎ IsHeldBelow number code count n) (least_below number code first count)
below_least P number code first zero h =
    same_least P (λ n. P n ⊎ IsHeldBelow number code zero n) first (λ n p. inl p) (λ n x. ⊎_elim (λ p. p) (λ b. absurd (let lt = b.below in omega arith)) x) h
below_least P number code first (suc count) h =
    same_least (λ n. (P n ⊎ IsHeldBelow number code count n) ⊎ IsHeld (number count) (function_at code count).ops n) (λ n. P n ⊎ IsHeldBelow number code (suc count) n)
    (least_in (number count) (function_at code count).ops (least_below number code first count)) to from
    (in_least (λ n. P n ⊎ IsHeldBelow number code count n) (number count) (function_at code count).ops (least_below number code first count) (below_least P number code first count h))
  where
    to : (n : ℕ) → (P n ⊎ IsHeldBelow number code count n) ⊎ IsHeld (number count) (function_at code count).ops n → P n ⊎ IsHeldBelow number code (suc count) n
    to n (inl (inl p)) = inl p
    to n (inl (inr b)) = inr (record { f = b.f; below = (let lt = b.below in omega arith); held = b.held })
    to n (inr held) = inr (record { f = count; below = omega arith; held = held })

    from : (n : ℕ) → P n ⊎ IsHeldBelow number code (suc count) n → (P n ⊎ IsHeldBelow number code count n) ⊎ IsHeld (number count) (function_at code count).ops n
    from n (inl p) = inl (inl p)
    from n (inr b) = ⊎_elim
        (λ lt. inl (inr (record { f = b.f; below = lt; held = b.held })))
        (λ le.
        let less = b.below in
        let is : b.f ≡ count = omega arith in
        inr (subst (λ (f : ℕ). IsHeld (number f) (function_at code f).ops n) is b.held))
        (cases_lt b.f count)

-- an operation stands in a function that is there
pub inside : (code : FlatCode) (f k : ℕ) (op : Op) → operation_at code f k ≡ Some op → f < length code.functions
inside code f k op e = ⊎_elim
    (λ below. below)
    (λ past.
    let none : function_at code f ≡ record { params = 0; gives = false; sizes = []; ops = [] } = get_or_past code.functions f _ past in
    let nothing : None ≡ Some op = sym (ap (λ h. slice_get h.ops k) none) ∙ e in
    absurd (none-some op nothing))
    (cases_lt f (length code.functions))

-- ---- the loops

-- one operation more
pub least_more : (number : Op → Option ℕ) (ops : List Op) (i : ℕ) (op : Op) (least next : Option ℕ) → i < length ops → op ≡ slice_index_or ops i op → next ≡ lesser least (number op) →
    least_in number (drop (i + 1) ops) next ≡ least_in number (drop i ops) least
least_more number ops i op least next lt at e =
    let cons : drop i ops ≡ slice_index_or ops i op ∷ drop (suc i) ops = drop-cons ops i op lt in
    let here : drop i ops ≡ op ∷ drop (i + 1) ops = cons ∙ (ap (λ o. o ∷ drop (suc i) ops) (sym at) ∙ ap (λ (n : ℕ). op ∷ drop n ops) (sym (add-one i))) in
    ap (least_in number (drop (i + 1) ops)) e ∙ ap (λ l. least_in number l least) (sym here)

-- no operation is left
pub least_over : (number : Op → Option ℕ) (ops : List Op) (i : ℕ) (least : Option ℕ) → length ops ≤ i → least_in number (drop i ops) least ≡ least
least_over number [] zero least le = refl
least_over number [] (suc i) least le = refl
least_over number (op ∷ ops) zero least le = absurd (omega arith)
least_over number (op ∷ ops) (suc i) least le = least_over number ops i least (omega arith)

-- one function more
pub below_more : (number : ℕ → Op → Option ℕ) (code : FlatCode) (first : Option ℕ) (n : ℕ) →
    least_below number code first (n + 1) ≡ least_in (number n) (function_at code n).ops (least_below number code first n)
below_more number code first n = ap (least_below number code first) (add-one n)
