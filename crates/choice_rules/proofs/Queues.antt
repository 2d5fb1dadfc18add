-- Queues of a scheduler beside the threads that wait.
use Rattle.choice_rules.proofs.Common.{◌≡◌, ◌≢◌, ℕ, ◌==◌, Bool, true, false, nat_eq, not, List, [], ◌∷◌, ◌++◌, Option, Some, find, refl, sym, ap, ◌∙◌, subst, cond, IsSome, AllByRecursion, cond-true, cond-false, eq-eqb, ne_eqb, ThreadId, Waiter, is_same, without, IsOnce, at_node, IsPlaced, IsQueue, and_from, and_right}
use Rattle.choice_rules.proofs.Waiters.{but}

-- ---- more at the end

on : (t : Bool) (x : Waiter) (ab a b : List Waiter) → ab ≡ a ++ b → cond t (x ∷ ab) ab ≡ cond t (x ∷ a) a ++ b
on true x ab a b e = ap (λ (l : List Waiter). x ∷ l) e
on false x ab a b e = e

pub at_node-append : (a b : List Waiter) (node : ℕ) → at_node (a ++ b) node ≡ at_node a node ++ at_node b node
at_node-append [] b node = refl
at_node-append (x ∷ a) b node = on (nat_eq x.node node) x _ _ _ (at_node-append a b node)

pub queue_append : (places : List (Option ℕ)) (ts us : List ThreadId) (xs ys : List Waiter) → IsQueue places ts xs → IsQueue places us ys → IsQueue places (ts ++ us) (xs ++ ys)
queue_append places [] us [] ys p q = q
queue_append places (t ∷ ts) us (x ∷ xs) ys p q = (p.0, (p.1.0, queue_append places ts us xs ys p.1.1 q))
queue_append places _ us _ ys p q = absurd p

-- where the places of its threads stay
pub queue_kept : (old new : List (Option ℕ)) (ts : List ThreadId) (xs : List Waiter) (live : Waiter → Type 0) → ((t : ThreadId) (x : Waiter) → t.number ≡ x.thread → live x → IsPlaced old t → IsPlaced new t) →
    AllByRecursion live xs → IsQueue old ts xs → IsQueue new ts xs
queue_kept old new [] [] live keeps all p = tt
queue_kept old new (t ∷ ts) (x ∷ xs) live keeps all p = (p.0, (keeps t x p.0 all.0 p.1.0, queue_kept old new ts xs live keeps all.1 p.1.1))
queue_kept old new _ _ live keeps all p = absurd p

all_on : (P : Waiter → Type 0) (t : Bool) (x : Waiter) (xs : List Waiter) → P x → AllByRecursion P xs → AllByRecursion P (cond t (x ∷ xs) xs)
all_on P true x xs p all = (p, all)
all_on P false x xs p all = all

pub all_at_node : (P : Waiter → Type 0) (xs : List Waiter) (node : ℕ) → AllByRecursion P xs → AllByRecursion P (at_node xs node)
all_at_node P [] node all = tt
all_at_node P (x ∷ xs) node all = all_on P (nat_eq x.node node) x (at_node xs node) all.0 (all_at_node P xs node all.1)

-- ---- the first that is eligible

pub record FoundBoth (places : List (Option ℕ)) (xs : List Waiter) (other : Waiter → Bool) (t : ThreadId) : Type 0 where
  pub waiter : Waiter
  pub found : find other xs ≡ Some waiter
  pub same : t.number ≡ waiter.thread
  pub placed : IsPlaced places t

find_on : (places : List (Option ℕ)) (u : ThreadId) (ts : List ThreadId) (x : Waiter) (xs : List Waiter) (eligible : ThreadId → Bool) (other : Waiter → Bool) (t : ThreadId) (a b : Bool) → a ≡ b →
    u.number ≡ x.thread → IsPlaced places u → eligible u ≡ a → other x ≡ b → find eligible (u ∷ ts) ≡ Some t → (find eligible ts ≡ Some t → FoundBoth places xs other t) → FoundBoth places (x ∷ xs) other t
find_on places u ts x xs eligible other t true true ab number placed ea ob e rest =
    let here : Some u ≡ Some t = sym (cond-true (eligible u) (Some u) (find eligible ts) ea) ∙ e in
    let is : u ≡ t = cc in
    record {
      waiter = x;
      found = cond-true (other x) (Some x) (find other xs) ob;
      same = ap (λ (v : ThreadId). v.number) (sym is) ∙ number;
      placed = subst (λ (v : ThreadId). IsPlaced places v) is placed;
    }
find_on places u ts x xs eligible other t false false ab number placed ea ob e rest =
    let found = rest (sym (cond-false (eligible u) (Some u) (find eligible ts) ea) ∙ e) in
    record { waiter = found.waiter; found = cond-false (other x) (Some x) (find other xs) ob ∙ found.found; same = found.same; placed = found.placed }
find_on places u ts x xs eligible other t _ _ ab number placed ea ob e rest = absurd (cc)

pub find_same : (places : List (Option ℕ)) (ts : List ThreadId) (xs : List Waiter) (P : Waiter → Type 0) (eligible : ThreadId → Bool) (other : Waiter → Bool) →
    ((t : ThreadId) (x : Waiter) → t.number ≡ x.thread → IsPlaced places t → P x → eligible t ≡ other x) → AllByRecursion P xs → IsQueue places ts xs → (t : ThreadId) → find eligible ts ≡ Some t →
    FoundBoth places xs other t
find_same places [] xs P eligible other same all p t e = absurd (cc)
find_same places (u ∷ ts) [] P eligible other same all p t e = absurd p
find_same places (u ∷ ts) (x ∷ xs) P eligible other same all p t e =
    let is : eligible u ≡ other x = same u x p.0 p.1.0 all.0 in
    find_on places u ts x xs eligible other t (eligible u) (other x) is p.0 p.1.0 refl refl e (λ e'. find_same places ts xs P eligible other same all.1 p.1.1 t e')

some_on : (a b : Bool) (u : ThreadId) (x : Waiter) (ts : Option ThreadId) (xs : Option Waiter) → a ≡ b → IsSome (cond b (Some x) xs) → (IsSome xs → IsSome ts) → IsSome (cond a (Some u) ts)
some_on true b u x ts xs ab e rest = refl
some_on false true u x ts xs ab e rest = absurd (cc)
some_on false false u x ts xs ab e rest = rest e

-- the other way round: where a waiter is eligible so is a thread of the queue
pub some_eligible : (places : List (Option ℕ)) (ts : List ThreadId) (xs : List Waiter) (P : Waiter → Type 0) (eligible : ThreadId → Bool) (other : Waiter → Bool) →
    ((t : ThreadId) (x : Waiter) → t.number ≡ x.thread → IsPlaced places t → P x → eligible t ≡ other x) → AllByRecursion P xs → IsQueue places ts xs → IsSome (find other xs) → IsSome (find eligible ts)
some_eligible places [] [] P eligible other same all p e = e
some_eligible places (u ∷ ts) (x ∷ xs) P eligible other same all p e =
    some_on (eligible u) (other x) u x (find eligible ts) (find other xs) (same u x p.0 p.1.0 all.0) e (λ e'. some_eligible places ts xs P eligible other same all.1 p.1.1 e')
some_eligible places _ _ P eligible other same all p e = absurd p

-- ---- without the first that is eligible

swap : (t u : Bool) (x : Waiter) (node number : ℕ) (rest both : List Waiter) → nat_eq x.node node ≡ t → nat_eq x.thread number ≡ u → at_node rest node ≡ but number both →
    at_node (cond (not u) (x ∷ rest) rest) node ≡ but number (cond t (x ∷ both) both)
swap true true x node number rest both et eu e = e ∙ sym (ap (λ (v : Bool). cond (not v) (x ∷ but number both) (but number both)) eu)
swap true false x node number rest both et eu e =
    ap (λ (v : Bool). cond v (x ∷ at_node rest node) (at_node rest node)) et ∙ ap (λ (l : List Waiter). x ∷ l) e ∙ sym (ap (λ (v : Bool). cond (not v) (x ∷ but number both) (but number both)) eu)
swap false true x node number rest both et eu e = e
swap false false x node number rest both et eu e = ap (λ (v : Bool). cond v (x ∷ at_node rest node) (at_node rest node)) et ∙ e

pub at_node-but : (xs : List Waiter) (node number : ℕ) → at_node (but number xs) node ≡ but number (at_node xs node)
at_node-but [] node number = refl
at_node-but (x ∷ xs) node number = swap (nat_eq x.node node) (nat_eq x.thread number) x node number _ _ refl refl (at_node-but xs node number)

-- nobody of that number
pub but_none : (number : ℕ) (xs : List Waiter) → AllByRecursion (λ x. x.thread ≢ number) xs → but number xs ≡ xs
but_none number [] all = refl
but_none number (x ∷ xs) all =
    ap (λ (v : Bool). cond (not v) (x ∷ but number xs) (but number xs)) (ne_eqb x.thread number all.0) ∙ ap (λ (l : List Waiter). x ∷ l) (but_none number xs all.1)

is_same_self : (t : ThreadId) → is_same t t ≡ true
is_same_self t = and_from (t.slot == t.slot) (t.number == t.number) (eq-eqb t.slot t.slot refl) (eq-eqb t.number t.number refl)

other_number : (t u : ThreadId) → t.number ≢ u.number → is_same t u ≡ false
other_number t u apart = and_right (t.slot == u.slot) (t.number == u.number) (ne_eqb t.number u.number apart)

number_on : (a : Bool) (u : ThreadId) (ts : List ThreadId) (eligible : ThreadId → Bool) (t : ThreadId) (number : ℕ) (x : Waiter) → u.number ≡ x.thread → eligible u ≡ a → cond a (Some u) (find eligible ts) ≡ Some t →
    x.thread ≢ number → (find eligible ts ≡ Some t → ⊥) → t.number ≡ number → ⊥
number_on true u ts eligible t number x n ea e apart rest same = let is : u ≡ t = cc in apart (sym n ∙ ap (λ (v : ThreadId). v.number) is ∙ same)
number_on false u ts eligible t number x n ea e apart rest same = rest e

find_number : (places : List (Option ℕ)) (ts : List ThreadId) (xs : List Waiter) (eligible : ThreadId → Bool) (t : ThreadId) (number : ℕ) → IsQueue places ts xs → find eligible ts ≡ Some t →
    AllByRecursion (λ x. x.thread ≢ number) xs → t.number ≢ number
find_number places [] xs eligible t number p e apart same = absurd (cc)
find_number places (u ∷ ts) [] eligible t number p e apart same = absurd p
find_number places (u ∷ ts) (x ∷ xs) eligible t number p e apart same = number_on (eligible u) u ts eligible t number x p.0 refl e apart.0 (λ e'. find_number places ts xs eligible t number p.1.1 e' apart.1 same) same

without_on : (a : Bool) (places : List (Option ℕ)) (u : ThreadId) (ts : List ThreadId) (x : Waiter) (xs : List Waiter) (eligible : ThreadId → Bool) (t : ThreadId) → IsOnce (x ∷ xs) → IsQueue places (u ∷ ts) (x ∷ xs) →
    eligible u ≡ a → cond a (Some u) (find eligible ts) ≡ Some t → (find eligible ts ≡ Some t → IsQueue places (without t ts) (but t.number xs)) → IsQueue places (without t (u ∷ ts)) (but t.number (x ∷ xs))
without_on true places u ts x xs eligible t once p ea e rest =
    let is : u ≡ t = cc in
    let numbers : x.thread ≡ t.number = sym p.0 ∙ ap (λ (v : ThreadId). v.number) is in
    let none : but t.number xs ≡ xs = but_none t.number xs (subst (λ (n : ℕ). AllByRecursion (λ y. y.thread ≢ n) xs) numbers once.0) in
    let left : without t (u ∷ ts) ≡ ts = cond-true (is_same u t) ts (u ∷ without t ts) (subst (λ (v : ThreadId). is_same u v ≡ true) is (is_same_self u)) in
    let right : but t.number (x ∷ xs) ≡ xs = ap (λ (v : Bool). cond (not v) (x ∷ but t.number xs) (but t.number xs)) (eq-eqb x.thread t.number numbers) ∙ none in
    subst (λ (l : List ThreadId). IsQueue places l (but t.number (x ∷ xs))) (sym left) (subst (λ (l : List Waiter). IsQueue places ts l) (sym right) p.1.1)
without_on false places u ts x xs eligible t once p ea e rest =
    let apart : t.number ≢ x.thread = find_number places ts xs eligible t x.thread p.1.1 e once.0 in
    let left : without t (u ∷ ts) ≡ u ∷ without t ts = cond-false (is_same u t) ts (u ∷ without t ts) (other_number u t (λ n. apart (sym n ∙ p.0))) in
    let right : but t.number (x ∷ xs) ≡ x ∷ but t.number xs = ap (λ (v : Bool). cond (not v) (x ∷ but t.number xs) (but t.number xs)) (ne_eqb x.thread t.number (λ n. apart (sym n))) in
    subst (λ (l : List ThreadId). IsQueue places l (but t.number (x ∷ xs))) (sym left) (subst (λ (l : List Waiter). IsQueue places (u ∷ without t ts) l) (sym right) (p.0, (p.1.0, rest e)))

pub without_found : (places : List (Option ℕ)) (ts : List ThreadId) (xs : List Waiter) (eligible : ThreadId → Bool) (t : ThreadId) → IsOnce xs → IsQueue places ts xs → find eligible ts ≡ Some t →
    IsQueue places (without t ts) (but t.number xs)
without_found places [] xs eligible t once p e = absurd (cc)
without_found places (u ∷ ts) [] eligible t once p e = absurd p
without_found places (u ∷ ts) (x ∷ xs) eligible t once p e =
    without_on (eligible u) places u ts x xs eligible t once p refl e (λ e'. without_found places ts xs eligible t once.1 p.1.1 e')
