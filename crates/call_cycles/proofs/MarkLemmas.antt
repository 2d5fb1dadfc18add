-- Marks that are set, and the list of what was marked.
use Rattle.call_cycles.proofs.Common.{◌≡◌, inl, inr, ⊎_elim, ◌⊎◌, ℕ, ◌+◌, ◌<◌, ◌≤◌, ◌==◌, Bool, true, false, List, [], ◌∷◌, ◌++◌, length, length-append, set, refl, sym, ap, ◌∙◌, subst, arith, Some, slice_get, cases_lt, length-set, get_or-set_same, get_or-set_other, get_or_past, slice_get_within, same_Some, Op, FlatCode, function_at, members_of, has, by_test, by_eq, has-head, has-cases, true_false, functions_called, Calls, AreSeen, Marks, is_marked, unmarked-set, mark-stays}
use Rattle.std.proofs.lemmas.List.Folds.{list_any-append}

-- ---- numbers in lists

pub has-left : (n : ℕ) (xs ys : List ℕ) → has n xs ≡ true → has n (xs ++ ys) ≡ true
has-left n xs ys h = list_any-append (λ x. x == n) xs ys ∙ rw h refl

pub has-last : (n : ℕ) (xs : List ℕ) → has n (xs ++ n ∷ []) ≡ true
has-last n xs = list_any-append (λ x. x == n) xs (n ∷ []) ∙ by_test (has n xs) (λ t. rw t refl) (λ f. rw (f, has-head n []) refl)

pub has-either : (n x : ℕ) (xs : List ℕ) → has n (xs ++ x ∷ []) ≡ true → (has n xs ≡ true) ⊎ (x ≡ n)
has-either n x xs h =
    by_test (has n xs) (λ t. inl t)
    (λ f. let last : has n (x ∷ []) ≡ true = let both = sym (list_any-append (λ y. y == n) xs (x ∷ [])) ∙ h in rw f at both in
    inr (has-cases n x [] last (λ e. e) (λ none. true_false false none refl)))

-- ---- marks

pub marked-below : (marks : List Bool) (g : ℕ) → is_marked marks g ≡ true → g < length marks
marked-below marks g h = ⊎_elim (λ lt. lt) (λ le. true_false (is_marked marks g) h (get_or_past marks g false le)) (cases_lt g (length marks))

-- nothing is marked
pub marks-none : (P : ℕ → Type 0) (marks : List Bool) (left : List ℕ) → ((g : ℕ) → P g → is_marked marks g ≡ true) → Marks P marks left marks left
marks-none P marks left all = record {
  each = refl;
  done = all;
  kept = λ g h. h;
  from = λ g h. inl h;
  later = λ g h. inl h;
  still = λ g h. h;
  added = λ g h. inl h;
  work = refl;
}

-- one function is marked
pub marks-one : (f : ℕ) (marks : List Bool) (left : List ℕ) → f < length marks → is_marked marks f ≡ false → Marks (λ g. g ≡ f) marks left (set marks f true) (left ++ f ∷ [])
marks-one f marks left within out =
    let here : is_marked (set marks f true) f ≡ true = get_or-set_same marks f true false within in
    let work = unmarked-set marks f within out in
    let more : length (left ++ f ∷ []) ≡ length left + 1 = length-append left (f ∷ []) in
    record {
      each = length-set marks f true;
      done = λ g e. subst (λ n. is_marked (set marks f true) n ≡ true) (sym e) here;
      kept = λ g h. by_eq g f (λ e. subst (λ n. is_marked (set marks f true) n ≡ true) (sym e) here) (λ ne. get_or-set_other marks f g true false ne ∙ h);
      from = λ g h. by_eq g f (λ e. inr e) (λ ne. inl (sym (get_or-set_other marks f g true false ne) ∙ h));
      later = λ g h. by_eq g f (λ e. inr (subst (λ n. has n (left ++ f ∷ []) ≡ true) (sym e) (has-last f left))) (λ ne. inl (sym (get_or-set_other marks f g true false ne) ∙ h));
      still = λ g h. has-left g left (f ∷ []) h;
      added = λ g h. ⊎_elim (λ before. inl before) (λ e. inr (subst (λ n. is_marked (set marks f true) n ≡ true) e here)) (has-either g f left h);
      work = omega (arith, work, more);
    }

-- some functions are marked, and then others
pub marks-then : (P Q R : ℕ → Type 0) (m : List Bool) (l : List ℕ) (m1 : List Bool) (l1 : List ℕ) (m2 : List Bool) (l2 : List ℕ) →
    ((g : ℕ) → R g → P g ⊎ Q g) → ((g : ℕ) → P g → R g) → ((g : ℕ) → Q g → R g) → Marks P m l m1 l1 → Marks Q m1 l1 m2 l2 → Marks R m l m2 l2
marks-then P Q R m l m1 l1 m2 l2 split first second a b = record {
  each = b.each ∙ a.each;
  done = λ g r. ⊎_elim (λ p. b.kept g (a.done g p)) (λ q. b.done g q) (split g r);
  kept = λ g h. b.kept g (a.kept g h);
  from = λ g h. ⊎_elim (λ was. ⊎_elim (λ old. inl old) (λ p. inr (first g p)) (a.from g was)) (λ q. inr (second g q)) (b.from g h);
  later = λ g h. ⊎_elim (λ was. ⊎_elim (λ old. inl old) (λ there. inr (b.still g there)) (a.later g was)) (λ there. inr there) (b.later g h);
  still = λ g h. b.still g (a.still g h);
  added = λ g h. ⊎_elim (λ was. ⊎_elim (λ old. inl old) (λ marked. inr (b.kept g marked)) (a.added g was)) (λ marked. inr marked) (b.added g h);
  work = b.work ∙ a.work;
}

pub marks-same : (P Q : ℕ → Type 0) (m : List Bool) (l : List ℕ) (m' : List Bool) (l' : List ℕ) → ((g : ℕ) → P g → Q g) → ((g : ℕ) → Q g → P g) → Marks P m l m' l' → Marks Q m l m' l'
marks-same P Q m l m' l' to from marks = record {
  each = marks.each;
  done = λ g q. marks.done g (from g q);
  kept = marks.kept;
  from = λ g h. ⊎_elim (λ was. inl was) (λ p. inr (to g p)) (marks.from g h);
  later = marks.later;
  still = marks.still;
  added = marks.added;
  work = marks.work;
}

-- ---- the loop over the operations of a function

-- one of the first so many operations calls a function
pub record CallsBefore (ops : List Op) (code : FlatCode) (end g : ℕ) : Type 0 where
  pub k : ℕ
  pub before : k < end
  pub op : Op
  pub there : slice_get ops k ≡ Some op
  pub called : has g (functions_called code op) ≡ true

pub ops-none : (ops : List Op) (code : FlatCode) (marks : List Bool) (left : List ℕ) → Marks (CallsBefore ops code 0) marks left marks left
ops-none ops code marks left = marks-none (CallsBefore ops code 0) marks left (λ g h. absurd (let lt = h.before in omega arith))

pub ops-more : (ops : List Op) (code : FlatCode) (i : ℕ) (op : Op) (m : List Bool) (l : List ℕ) (m1 : List Bool) (l1 : List ℕ) (m2 : List Bool) (l2 : List ℕ) → slice_get ops i ≡ Some op →
    Marks (CallsBefore ops code i) m l m1 l1 → Marks (λ g. has g (functions_called code op) ≡ true) m1 l1 m2 l2 → Marks (CallsBefore ops code (i + 1)) m l m2 l2
ops-more ops code i op m l m1 l1 m2 l2 at a b =
    marks-then (CallsBefore ops code i) (λ g. has g (functions_called code op) ≡ true) (CallsBefore ops code (i + 1)) m l m1 l1 m2 l2
    (λ g h. by_eq h.k i
    (λ e. let same : h.op ≡ op = same_Some h.op op (sym h.there ∙ (ap (slice_get ops) e ∙ at)) in inr (subst (λ o. has g (functions_called code o) ≡ true) same h.called))
    (λ ne. inl (record { k = h.k; before = (let lt = h.before in omega (arith, lt, ne)); op = h.op; there = h.there; called = h.called })))
    (λ g h. record { k = h.k; before = (let lt = h.before in omega (arith, lt)); op = h.op; there = h.there; called = h.called })
    (λ g h. record { k = i; before = omega arith; op = op; there = at; called = h }) a b

pub ops-over : (code : FlatCode) (f i : ℕ) (m : List Bool) (l : List ℕ) (m' : List Bool) (l' : List ℕ) → length (function_at code f).ops ≤ i →
    Marks (CallsBefore (function_at code f).ops code i) m l m' l' → Marks (Calls code f) m l m' l'
ops-over code f i m l m' l' le marks =
    marks-same (CallsBefore (function_at code f).ops code i) (Calls code f) m l m' l'
    (λ g h. record { k = h.k; op = h.op; there = h.there; called = h.called })
    (λ g h. record { k = h.k; before = (let lt = slice_get_within (function_at code f).ops h.k h.op h.there in omega (arith, lt, le)); op = h.op; there = h.there; called = h.called }) marks

-- ---- the tables that were seen

-- what is marked stays marked
pub seen-kept : (P : ℕ → Type 0) (code : FlatCode) (m : List Bool) (l : List ℕ) (m' : List Bool) (l' : List ℕ) (seen : List Bool) → Marks P m l m' l' → AreSeen code m seen → AreSeen code m' seen
seen-kept P code m l m' l' seen new was = record { each = was.each; members = λ t g s h. new.kept g (was.members t g s h) }

-- the members of one more table are marked
pub seen-more : (code : FlatCode) (t : ℕ) (m : List Bool) (l : List ℕ) (m' : List Bool) (l' : List ℕ) (seen : List Bool) →
    Marks (λ g. has g (members_of code t) ≡ true) m l m' l' → AreSeen code m seen → AreSeen code m' (set seen t true)
seen-more code t m l m' l' seen new was = record {
  each = length-set seen t true ∙ was.each;
  members = λ u g s h.
      by_eq u t
      (λ e. new.done g (subst (λ (n : ℕ). has g (members_of code n) ≡ true) e h))
      (λ ne. new.kept g (was.members u g (sym (get_or-set_other seen t u true false ne) ∙ s) h));
}

-- one function more is marked
pub seen-set : (code : FlatCode) (f : ℕ) (marks seen : List Bool) → f < length marks → AreSeen code marks seen → AreSeen code (set marks f true) seen
seen-set code f marks seen within was = record { each = was.each; members = λ t g s h. mark-stays marks f g within (was.members t g s h) }
