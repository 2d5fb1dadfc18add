-- The choice by strides: the waiters that are found, the first of the eligible ones, and the passes after one more choice.
use Rattle.choice_rules.proofs.Common.{◌≡◌, ◌≢◌, ℕ, ◌+◌, ◌<◌, ◌≤◌, ◌&&◌, Bool, true, false, IsTrue, List, [], ◌∷◌, Some, refl, sym, ◌∙◌, subst, arith, find, nat_eq, nat_le, AllByRecursion, list_any, nat_tests, Waiter, PastChoice, pass_of, latest_pass, goes_before-asym, goes_before-total, goes_before-cotrans, by_test}
use Rattle.stride_rule.specs.Clients.{goes_before}
use Rattle.stride_rule.specs.Tickets.{stride_of}

-- ---- what is found

-- what holds of all holds of the one that is found
pub all_found : (P : Waiter → Type 0) (test : Waiter → Bool) (waiting : List Waiter) (w : Waiter) → AllByRecursion P waiting → find test waiting ≡ Some w → P w
all_found P test [] w all e = absurd cc
all_found P test (x ∷ xs) w all e =
    by_test (test x) _
    (λ here. let it : Some x ≡ Some w = rw here at e in let is : x ≡ w = cc in subst (λ (v : Waiter). P v) is all.0)
    (λ later. let rest : find test xs ≡ Some w = rw later at e in all_found P test xs w all.1 rest)

pub found_passes : (test : Waiter → Bool) (waiting : List Waiter) (w : Waiter) → find test waiting ≡ Some w → test w ≡ true
found_passes test [] w e = absurd cc
found_passes test (x ∷ xs) w e =
    by_test (test x) _
    (λ here. let it : Some x ≡ Some w = rw here at e in let is : x ≡ w = cc in subst (λ (v : Waiter). test v ≡ true) is here)
    (λ later. let rest : find test xs ≡ Some w = rw later at e in found_passes test xs w rest)

pub both_left : (a b : Bool) → (a && b) ≡ true → a ≡ true
both_left true b e = refl
both_left false b e = absurd (let failing : false ≡ true = e in cc)

-- the first waiter of a thread that passes a test passes it
pub first_passes : (test : Waiter → Bool) (thread : ℕ) (waiting : List Waiter) (w : Waiter) → find (λ v. test v && nat_eq v.thread thread) waiting ≡ Some w → IsTrue (test w)
first_passes test thread waiting w e = both_left (test w) (nat_eq w.thread thread) (found_passes (λ v. test v && nat_eq v.thread thread) waiting w e)

-- of one thread there is one such waiter
pub one_thread : (test : Waiter → Bool) (waiting : List Waiter) (a b : Waiter) → a.thread ≡ b.thread → find (λ w. test w && nat_eq w.thread a.thread) waiting ≡ Some a →
    find (λ w. test w && nat_eq w.thread b.thread) waiting ≡ Some b → a ≡ b
one_thread test waiting a b e p q =
    let at : find (λ w. test w && nat_eq w.thread b.thread) waiting ≡ Some a = subst (λ (n : ℕ). find (λ (w : Waiter). test w && nat_eq w.thread n) waiting ≡ Some a) e p in
    let two : Some a ≡ Some b = sym at ∙ q in cc

found_head : (test : Waiter → Bool) (x : Waiter) (xs : List Waiter) → test x ≡ true → find test (x ∷ xs) ≡ Some x
found_head test x xs e = rw e refl

found_tail : (test : Waiter → Bool) (x w : Waiter) (xs : List Waiter) → test x ≡ false → find test xs ≡ Some w → find test (x ∷ xs) ≡ Some w
found_tail test x w xs e h = rw e h

-- ---- the first of those that pass a test, by an order of threads

module _ (test : Waiter → Bool) (pass : ℕ → ℕ) where
  abbrev goes : ℕ → ℕ → Bool
  goes a b = goes_before (pass a) a (pass b) b

  abbrev IsBehind : ℕ → Waiter → Type 0
  IsBehind thread other = IsTrue (test other) → other.thread ≢ thread → IsTrue (goes thread other.thread)

  -- one that passes, that is the first such waiter of its thread, and that all others that pass are behind
  pub record First (waiting : List Waiter) : Type 0 where
    pub first : Waiter
    pub passes : IsTrue (test first)
    pub found : find (λ w. test w && nat_eq w.thread first.thread) waiting ≡ Some first
    pub behind : AllByRecursion (IsBehind first.thread) waiting

  none_pass : (thread : ℕ) (waiting : List Waiter) → list_any test waiting ≡ false → AllByRecursion (IsBehind thread) waiting
  none_pass thread [] e = tt
  none_pass thread (x ∷ xs) e =
      by_test (test x) _
      (λ passing. absurd (let failing : true ≡ false = rw passing at e in cc))
      (λ failing. let rest : list_any test xs ≡ false = rw failing at e in
      ((λ passing ne. absurd (let both : true ≡ false = sym passing ∙ failing in cc)), none_pass thread xs rest))

  further : (a b : ℕ) (waiting : List Waiter) → IsTrue (goes a b) → AllByRecursion (IsBehind b) waiting → AllByRecursion (IsBehind a) waiting
  further a b [] before all = tt
  further a b (x ∷ xs) before all = (behind x all.0, further a b xs before all.1) where
    behind : (x : Waiter) → IsBehind b x → IsBehind a x
    behind x is passing ne =
        by_test (nat_eq x.thread b) _
        (λ same. let e : x.thread ≡ b = grind (arith, nat_tests) in subst (λ (n : ℕ). IsTrue (goes a n)) (sym e) before)
        (λ apart.
        let onward : IsTrue (goes b x.thread) = is passing (λ e. grind (arith, nat_tests)) in
        by_test (goes a x.thread) _ (λ e. e)
        (λ e.
        let back : goes x.thread b ≡ false = goes_before-asym (pass b) b (pass x.thread) x.thread onward in
        let failing : goes a b ≡ false = goes_before-cotrans (pass a) a (pass x.thread) x.thread (pass b) b e back in
        absurd (let both : true ≡ false = sym before ∙ failing in cc)))

  passes_at : (x : Waiter) (thread : ℕ) → test x ≡ true → x.thread ≡ thread → (test x && nat_eq x.thread thread) ≡ true
  passes_at x thread passing e = grind (arith, nat_tests)

  fails_at : (b : Bool) (thread other : ℕ) → thread ≢ other → (b && nat_eq thread other) ≡ false
  fails_at b thread other ne = grind (arith, nat_tests)

  -- a waiter that passes is first of itself and those behind it
  here_first : (x : Waiter) (xs : List Waiter) → test x ≡ true → AllByRecursion (IsBehind x.thread) xs → First (x ∷ xs)
  here_first x xs passing behind = record {
    first = x;
    passes = passing;
    found = found_head (λ w. test w && nat_eq w.thread x.thread) x xs (passes_at x x.thread passing refl);
    behind = ((λ also ne. absurd (ne refl)), behind);
  }

  compared : (x : Waiter) (xs : List Waiter) → test x ≡ true → First xs → First (x ∷ xs)
  compared x xs passing f =
      by_test (nat_eq x.thread f.first.thread) _
      (λ same.
      let e : x.thread ≡ f.first.thread = grind (arith, nat_tests) in
      here_first x xs passing (subst (λ (n : ℕ). AllByRecursion (IsBehind n) xs) (sym e) f.behind))
      (λ apart.
      let ne : x.thread ≢ f.first.thread = (λ e. grind (arith, nat_tests)) in
      by_test (goes x.thread f.first.thread) _
      (λ before. here_first x xs passing (further x.thread f.first.thread xs before f.behind))
      (λ after. record {
        first = f.first;
        passes = f.passes;
        found = found_tail (λ w. test w && nat_eq w.thread f.first.thread) x f.first xs (fails_at (test x) x.thread f.first.thread ne) f.found;
        behind = ((λ also other. goes_before-total (pass x.thread) x.thread (pass f.first.thread) f.first.thread ne after), f.behind);
      }))

  passed_by : (x : Waiter) (xs : List Waiter) → test x ≡ false → First xs → First (x ∷ xs)
  passed_by x xs failing f = record {
    first = f.first;
    passes = f.passes;
    found = found_tail (λ w. test w && nat_eq w.thread f.first.thread) x f.first xs (rw failing refl) f.found;
    behind = ((λ passing ne. absurd (let both : true ≡ false = sym passing ∙ failing in cc)), f.behind);
  }

  -- where some waiter passes there is a first
  pub first_of : (waiting : List Waiter) → list_any test waiting ≡ true → First waiting
  first_of [] e = absurd (let failing : false ≡ true = e in cc)
  first_of (x ∷ xs) e =
      by_test (test x) _
      (λ passing.
      by_test (list_any test xs) _
      (λ more. compared x xs passing (first_of xs more))
      (λ none. here_first x xs passing (none_pass x.thread xs none)))
      (λ failing. let more : list_any test xs ≡ true = rw failing at e in passed_by x xs failing (first_of xs more))

-- ---- the passes after one more choice

module _ (tickets : List (ℕ × ℕ)) (latest : PastChoice) (earlier : List PastChoice) where
  -- a thread that hadn't been started then is at the pass of the chosen one
  pub pass_of-newcomer : (thread : ℕ) → latest.started ≤ thread → pass_of tickets (latest ∷ earlier) thread ≡ latest_pass tickets (latest ∷ earlier)
  pass_of-newcomer thread h = let new : nat_le latest.started thread ≡ true = grind (arith, nat_tests) in rw new refl

  -- the pass of the chosen thread grows
  pub pass_of-chosen : latest.thread < latest.started →
      pass_of tickets (latest ∷ earlier) latest.thread ≡ pass_of tickets earlier latest.thread + stride_of tickets latest.thread
  pass_of-chosen h =
      let old : nat_le latest.started latest.thread ≡ false = grind (arith, nat_tests) in
      let same : nat_eq latest.thread latest.thread ≡ true = grind (arith, nat_tests) in
      rw (old, same) refl

  -- every other stays
  pub pass_of-other : (thread : ℕ) → thread < latest.started → thread ≢ latest.thread → pass_of tickets (latest ∷ earlier) thread ≡ pass_of tickets earlier thread
  pass_of-other thread h ne =
      let old : nat_le latest.started thread ≡ false = grind (arith, nat_tests) in
      let other : nat_eq latest.thread thread ≡ false = grind (arith, nat_tests) in
      rw (old, other) refl
