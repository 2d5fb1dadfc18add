-- The operations of an expression leave its value in their variable, or come to its first trap.
use Rattle.machine_meaning.proofs.Common.{◌≡◌, ℕ, zero, suc, ◌+◌, ◌<◌, ◌≤◌, Bool, true, false, List, [], ◌∷◌, map, length, Option, Some, None, refl, sym, ap, ◌∙◌, subst, arith, get_or, IsTrue, nat_lt, slice_index, Ok, Err, row, width, word_at, TrapKind, UnaryOperator, expr_temporaries, Context, visible, IsExprScoped, Value, in_range, element, on_one, on_both, truth, choice, value, Op, FlatCode, operation_at, FlatFrame, FlatThread, Finished, result_of, where_in, puts, flat_step, operator_of, expr_takes_one}
use Rattle.c_tree.specs.declared.operators.BinaryOperator.{BinaryOperator}
use Rattle.c_tree.specs.Trees.{ExprTree, Number, Local, Global, LocalElement, GlobalElement, Unary, Parenthesized, Binary, LogicalAnd, LogicalOr, Conditional}
use Rattle.c_mean.specs.Operators.{unary_value, binary_value}
use Rattle.machine_meaning.proofs.InPlace.{ExprAt}
use Rattle.machine_meaning.proofs.Silent.{Vars, put, Has, Kept, kept_all, kept_both, kept_fewer, kept_put, has_put, Leads, Ends, one_leads, one_ends, leads_both, ends_later, th, const_leads, copy_leads, neg_leads, not_leads, flip_leads, bin_leads, global_leads, jump_leads, zero_leads, passes, local_step, array_step}

-- each name in scope has its words in its variable
abbrev pub Reads : Context → List ℕ → List (List ℕ) → Vars → Type 0
Reads c scope names vars = (x : ℕ) → x < length c.sizes → IsTrue (visible x scope) → get_or vars x None ≡ Some (row names x)

-- each name has as many words as it was declared with
abbrev pub Wide : Context → List (List ℕ) → Type 0
Wide c names = map length names ≡ c.sizes

widths_at : (names : List (List ℕ)) (x : ℕ) → width names x ≡ slice_index (map length names) x
widths_at (n ∷ names) (suc x) = widths_at names x
widths_at _ _ = refl

pub wide_at : (c : Context) (names : List (List ℕ)) → Wide c names → (x : ℕ) → width names x ≡ slice_index c.sizes x
wide_at c names wide x = widths_at names x ∙ ap (λ s. slice_index s x) wide

pub reads_kept : (c : Context) (scope : List ℕ) (names : List (List ℕ)) (n : ℕ) (vars after : Vars) → length c.sizes ≤ n → Kept n vars after → Reads c scope names vars → Reads c scope names after
reads_kept c scope names n vars after le h reads x lt seen = h.same x (omega arith) ∙ reads x lt seen

-- a row of one word is its word
pub one_word : (words : List ℕ) → length words ≡ 1 → words ≡ slice_index words 0 ∷ []
one_word (w ∷ []) e = refl
one_word _ e = absurd (omega arith)

same_operator : (op : BinaryOperator) (a b : ℕ) → result_of (operator_of op) a b ≡ binary_value op a b
same_operator BinaryOperator.Add a b = refl
same_operator _ a b = refl

module _ (code : FlatCode) (f : ℕ) (below : List FlatFrame) (globals : List (List ℕ)) where
  abbrev at : ℕ → Vars → FlatThread
  at p vars = th code f below globals p vars

  -- steps lead from p to q and leave a word in variable d
  pub record Leaves (p q d : ℕ) (vars : Vars) (word : ℕ) : Type 0 where
    pub after : Vars
    pub leads : Leads code (at p vars) (at q after)
    pub holds : Has after d word
    pub kept : Kept d vars after

  -- a value is left in variable d, or its trap stops the thread
  abbrev pub Comes : ℕ → ℕ → ℕ → Vars → Value → Type 0
  Comes p q d vars (Ok word) = Leaves p q d vars word
  Comes p q d vars (Err trap) = Ends code (at p vars) (Finished (record { trap = Some trap; globals = globals }))

  pub later : (p m q d : ℕ) (vars middle : Vars) (v : Value) → Leads code (at p vars) (at m middle) → Kept d vars middle → Comes m q d middle v → Comes p q d vars v
  later p m q d vars middle (Ok word) h k r =
      record { after = r.after; leads = leads_both code (at p vars) (at m middle) (at q r.after) h r.leads; holds = r.holds; kept = kept_both d vars middle r.after k r.kept }
  later p m q d vars middle (Err trap) h k r = ends_later code (at p vars) (at m middle) (Finished (record { trap = Some trap; globals = globals })) h r

  -- the last step sets the variable
  pub puts_it : (m q d word : ℕ) (vars : Vars) → Leads code (at m vars) (at (m + 1) (put vars d word)) → q ≡ m + 1 → d < length vars → Comes m q d vars (Ok word)
  puts_it m q d word vars h e lt =
      record { after = put vars d word; leads = subst (λ k. Leads code (at m vars) (at k (put vars d word))) (sym e) h; holds = has_put d word vars lt; kept = kept_put d d word vars (omega arith) }

  -- a range test and then the word
  in_range_comes : (m q d word : ℕ) (vars : Vars) (within' : Bool) → flat_step code (at m vars) ≡ where_in within' (at m vars) TrapKind.Index (puts (at m vars) d word) → q ≡ m + 1 → d < length vars → Comes m q d vars (in_range within' word)
  in_range_comes m q d word vars true h e lt = puts_it m q d word vars (one_leads code (at m vars) (at (m + 1) (put vars d word)) h) e lt
  in_range_comes m q d word vars false h e lt = one_ends code (at m vars) (Finished (record { trap = Some TrapKind.Index; globals = globals })) h

  abbrev fetch : ℕ → Option Op
  fetch p = operation_at code f p

  -- the two ends of `&&` and `||`: 1, and 0
  gives_one : (n q d : ℕ) (vars : Vars) → fetch (n + 1) ≡ Some (Op.Const d 1) → fetch (n + 1 + 1) ≡ Some (Op.Jump q) → d < length vars → Comes (n + 1) q d vars (Ok 1)
  gives_one n q d vars e j lt = record {
    after = put vars d 1;
    leads = leads_both code (at (n + 1) vars) (at (n + 1 + 1) (put vars d 1)) (at q (put vars d 1)) (const_leads code f below globals (n + 1) d 1 vars e) (jump_leads code f below globals (n + 1 + 1) q (put vars d 1) j);
    holds = has_put d 1 vars lt;
    kept = kept_put d d 1 vars (omega arith);
  }

  gives_zero : (z q d : ℕ) (vars : Vars) → fetch z ≡ Some (Op.Const d 0) → q ≡ z + 1 → d < length vars → Comes z q d vars (Ok 0)
  gives_zero z q d vars e g lt = puts_it z q d 0 vars (const_leads code f below globals z d 0 vars e) g lt

  -- the second operand's truth
  truth_comes : (p n q d z : ℕ) (vars : Vars) (v : Value) → fetch n ≡ Some (Op.JumpZero d z) → fetch (n + 1) ≡ Some (Op.Const d 1) → fetch (n + 1 + 1) ≡ Some (Op.Jump q) → fetch z ≡ Some (Op.Const d 0) → q ≡ z + 1 → d < length vars → Comes p n d vars v → Comes p q d vars (truth v)
  truth_comes p n q d z vars (Ok zero) t o j e g lt r =
      later p n q d vars r.after (Ok 0) r.leads r.kept
      (later n z q d r.after r.after (Ok 0) (zero_leads code f below globals n d z r.after t r.holds) (kept_all d r.after) (gives_zero z q d r.after e g (omega (arith, r.kept.long))))
  truth_comes p n q d z vars (Ok (suc a)) t o j e g lt r =
      later p n q d vars r.after (Ok 1) r.leads r.kept
      (later n (n + 1) q d r.after r.after (Ok 1) (passes code f below globals n d z a r.after t r.holds) (kept_all d r.after) (gives_one n q d r.after o j (omega (arith, r.kept.long))))
  truth_comes p n q d z vars (Err trap) t o j e g lt r = r

  -- a condition, and then the one or the other
  choice_comes : (p m y z q d : ℕ) (vars : Vars) (v first second : Value) → Comes p m d vars v
      → ((after : Vars) → Kept d vars after → (n : ℕ) → Has after d (suc n) → Comes m q d after first)
      → ((after : Vars) → Kept d vars after → Has after d 0 → Comes m q d after second)
      → Comes p q d vars (choice v first second)
  choice_comes p m y z q d vars (Ok zero) first second r yes' no' = later p m q d vars r.after second r.leads r.kept (no' r.after r.kept r.holds)
  choice_comes p m y z q d vars (Ok (suc n)) first second r yes' no' = later p m q d vars r.after first r.leads r.kept (yes' r.after r.kept n r.holds)
  choice_comes p m y z q d vars (Err trap) first second r yes' no' = r

  -- a value, and then a jump
  goes_to : (p n q d : ℕ) (vars : Vars) (v : Value) → fetch n ≡ Some (Op.Jump q) → Comes p n d vars v → Comes p q d vars v
  goes_to p n q d vars (Ok word) j r =
      record { after = r.after; leads = leads_both code (at p vars) (at n r.after) (at q r.after) r.leads (jump_leads code f below globals n q r.after j); holds = r.holds; kept = r.kept }
  goes_to p n q d vars (Err trap) j r = r

  element_comes : (p m q d a : ℕ) (vars : Vars) (rows : List (List ℕ)) (v : Value) → Comes p m d vars v
      → ((k : ℕ) (after : Vars) → Has after d k → Kept d vars after → Comes m q d after (in_range (nat_lt k (width rows a)) (word_at rows a k)))
      → Comes p q d vars (element rows a v)
  element_comes p m q d a vars rows (Ok k) r rest = later p m q d vars r.after (in_range (nat_lt k (width rows a)) (word_at rows a k)) r.leads r.kept (rest k r.after r.holds r.kept)
  element_comes p m q d a vars rows (Err trap) r rest = r

  one_comes : (p m q d : ℕ) (vars : Vars) (operator : ℕ → ℕ) (v : Value) → Comes p m d vars v
      → ((w : ℕ) (after : Vars) → Has after d w → Kept d vars after → Comes m q d after (Ok (operator w)))
      → Comes p q d vars (on_one operator v)
  one_comes p m q d vars operator (Ok w) r rest = later p m q d vars r.after (Ok (operator w)) r.leads r.kept (rest w r.after r.holds r.kept)
  one_comes p m q d vars operator (Err trap) r rest = r

  same_one : (operator : ℕ → ℕ) (v : Value) → ((w : ℕ) → operator w ≡ w) → on_one operator v ≡ v
  same_one operator (Ok w) same = ap (λ n. Ok n) (same w)
  same_one operator (Err trap) same = refl

  second_comes : (m n q d a : ℕ) (vars : Vars) (operator : ℕ → ℕ → ℕ) (r : Value) → Has vars d a → Comes m n (d + 1) vars r
      → ((b : ℕ) (after : Vars) → Has after d a → Has after (d + 1) b → Kept d vars after → Comes n q d after (Ok (operator a b)))
      → Comes m q d vars (on_both operator (Ok a) r)
  second_comes m n q d a vars operator (Ok b) h r rest =
      let kept : Kept d vars r.after = kept_fewer (d + 1) d vars r.after (omega arith) r.kept in
      later m n q d vars r.after (Ok (operator a b)) r.leads kept (rest b r.after (r.kept.same d (omega arith) ∙ h) r.holds kept)
  second_comes m n q d a vars operator (Err trap) h r rest = r

  both_comes : (p m n q d : ℕ) (vars : Vars) (operator : ℕ → ℕ → ℕ) (l r : Value) → Comes p m d vars l
      → ((after : Vars) → Kept d vars after → Comes m n (d + 1) after r)
      → ((a b : ℕ) (after : Vars) → Has after d a → Has after (d + 1) b → Kept d vars after → Comes n q d after (Ok (operator a b)))
      → Comes p q d vars (on_both operator l r)
  both_comes p m n q d vars operator (Ok a) r h second rest =
      later p m q d vars h.after (on_both operator (Ok a) r) h.leads h.kept
      (second_comes m n q d a h.after operator r h.holds (second h.after h.kept) (λ b after x y k. rest a b after x y (kept_both d vars h.after after h.kept k)))
  both_comes p m n q d vars operator (Err trap) r h second rest = h

  module _ (c : Context) (scope : List ℕ) (names : List (List ℕ)) (wide : Wide c names) where
    pub expr_comes : (e : ExprTree) (p d q : ℕ) (vars : Vars) → ExprAt (operation_at code f) p e d q → IsExprScoped c scope e → length c.sizes ≤ d → d + expr_temporaries e ≤ length vars → Reads c scope names vars → Comes p q d vars (value names globals e)
    expr_comes (Number v) p d q vars h s le room reads = puts_it p q d v vars (const_leads code f below globals p d v vars h.0) h.1 (omega arith)
    expr_comes (Local x) p d q vars h s le room reads =
        let word : row names x ≡ word_at names x 0 ∷ [] = one_word (row names x) (wide_at c names wide x ∙ s.1) in
        puts_it p q d (word_at names x 0) vars (copy_leads code f below globals p d x (word_at names x 0) vars h.0 (reads x s.0 s.2 ∙ ap (λ w. Some w) word)) h.1 (omega arith)
    expr_comes (Global g) p d q vars h s le room reads = puts_it p q d (word_at globals g 0) vars (global_leads code f below globals p d g vars h.0) h.1 (omega arith)
    expr_comes (LocalElement a i) p d q vars h s le room reads =
        let some = expr_takes_one i in
        element_comes p h.0 q d a vars names (value names globals i) (expr_comes i p d h.0 vars h.1 s.2 le room reads)
        (λ k after has kept. in_range_comes h.0 q d (word_at names a k) after (nat_lt k (width names a)) (local_step code f below globals h.0 d a d k (row names a) after h.2 has (kept.same a (omega (arith, s.0)) ∙ reads a s.0 s.1)) h.3 (omega (arith, kept.long)))
    expr_comes (GlobalElement a i) p d q vars h s le room reads =
        let some = expr_takes_one i in
        element_comes p h.0 q d a vars globals (value names globals i) (expr_comes i p d h.0 vars h.1 s.1 le room reads)
        (λ k after has kept. in_range_comes h.0 q d (word_at globals a k) after (nat_lt k (width globals a)) (array_step code f below globals h.0 d a d k after h.2 has) h.3 (omega (arith, kept.long)))
    expr_comes (Unary UnaryOperator.Plus e) p d q vars h s le room reads =
        subst (Comes p q d vars) (sym (same_one (unary_value UnaryOperator.Plus) (value names globals e) (λ w. refl))) (expr_comes e p d q vars h s le room reads)
    expr_comes (Unary UnaryOperator.Negate e) p d q vars h s le room reads =
        let some = expr_takes_one e in
        one_comes p h.0 q d vars (unary_value UnaryOperator.Negate) (value names globals e) (expr_comes e p d h.0 vars h.1 s le room reads)
        (λ w after has kept. puts_it h.0 q d (unary_value UnaryOperator.Negate w) after (neg_leads code f below globals h.0 d d w after h.2 has) h.3 (omega (arith, kept.long)))
    expr_comes (Unary UnaryOperator.Complement e) p d q vars h s le room reads =
        let some = expr_takes_one e in
        one_comes p h.0 q d vars (unary_value UnaryOperator.Complement) (value names globals e) (expr_comes e p d h.0 vars h.1 s le room reads)
        (λ w after has kept. puts_it h.0 q d (unary_value UnaryOperator.Complement w) after (not_leads code f below globals h.0 d d w after h.2 has) h.3 (omega (arith, kept.long)))
    expr_comes (Unary UnaryOperator.Not e) p d q vars h s le room reads =
        let some = expr_takes_one e in
        one_comes p h.0 q d vars (unary_value UnaryOperator.Not) (value names globals e) (expr_comes e p d h.0 vars h.1 s le room reads)
        (λ w after has kept. puts_it h.0 q d (unary_value UnaryOperator.Not w) after (flip_leads code f below globals h.0 d d w after h.2 has) h.3 (omega (arith, kept.long)))
    expr_comes (Parenthesized e) p d q vars h s le room reads = expr_comes e p d q vars h s le room reads
    expr_comes (Binary op l r) p d q vars h s le room reads =
        let some = expr_takes_one r in
        both_comes p h.0 h.1 q d vars (binary_value op) (value names globals l) (value names globals r)
        (expr_comes l p d h.0 vars h.2 s.0 le (omega arith) reads)
        (λ after kept. expr_comes r h.0 (d + 1) h.1 after h.3 s.1 (omega arith) (omega (arith, kept.long)) (reads_kept c scope names d vars after le kept reads))
        (λ a b after x y kept. subst (λ w. Comes h.1 q d after (Ok w)) (same_operator op a b)
        (puts_it h.1 q d (result_of (operator_of op) a b) after (bin_leads code f below globals h.1 d d (d + 1) a b (operator_of op) after h.4 x y) h.5 (omega (arith, kept.long))))
    expr_comes (LogicalAnd l r) p d q vars h s le room reads =
        let some = expr_takes_one r in
        choice_comes p h.0 h.2 h.2 q d vars (value names globals l) (truth (value names globals r)) (Ok 0)
        (expr_comes l p d h.0 vars h.3 s.0 le (omega arith) reads)
        (λ after kept n has. later h.0 (h.0 + 1) q d after after (truth (value names globals r)) (passes code f below globals h.0 d h.2 n after h.4 has) (kept_all d after)
        (truth_comes (h.0 + 1) h.1 q d h.2 after (value names globals r) h.6 h.7 h.8 h.9 h.10 (omega (arith, kept.long))
        (expr_comes r (h.0 + 1) d h.1 after h.5 s.1 le (omega (arith, kept.long)) (reads_kept c scope names d vars after le kept reads))))
        (λ after kept has. later h.0 h.2 q d after after (Ok 0) (zero_leads code f below globals h.0 d h.2 after h.4 has) (kept_all d after)
        (gives_zero h.2 q d after h.9 h.10 (omega (arith, kept.long))))
    expr_comes (LogicalOr l r) p d q vars h s le room reads =
        let some = expr_takes_one r in
        choice_comes p h.0 h.2 h.3 q d vars (value names globals l) (Ok 1) (truth (value names globals r))
        (expr_comes l p d h.0 vars h.4 s.0 le (omega arith) reads)
        (λ after kept n has. later h.0 (h.1 + 1) q d after after (Ok 1)
        (leads_both code (at h.0 after) (at (h.0 + 1) after) (at (h.1 + 1) after) (passes code f below globals h.0 d h.2 n after h.5 has) (jump_leads code f below globals (h.0 + 1) (h.1 + 1) after h.6)) (kept_all d after)
        (gives_one h.1 q d after h.9 h.10 (omega (arith, kept.long))))
        (λ after kept has. later h.0 h.2 q d after after (truth (value names globals r)) (zero_leads code f below globals h.0 d h.2 after h.5 has) (kept_all d after)
        (truth_comes h.2 h.1 q d h.3 after (value names globals r) h.8 h.9 h.10 h.11 h.12 (omega (arith, kept.long))
        (expr_comes r h.2 d h.1 after h.7 s.1 le (omega (arith, kept.long)) (reads_kept c scope names d vars after le kept reads))))
    expr_comes (Conditional e a b) p d q vars h s le room reads =
        choice_comes p h.0 h.2 h.2 q d vars (value names globals e) (value names globals a) (value names globals b)
        (expr_comes e p d h.0 vars h.3 s.0 le (omega arith) reads)
        (λ after kept n has. later h.0 (h.0 + 1) q d after after (value names globals a) (passes code f below globals h.0 d h.2 n after h.4 has) (kept_all d after)
        (goes_to (h.0 + 1) h.1 q d after (value names globals a) h.6
        (expr_comes a (h.0 + 1) d h.1 after h.5 s.1 le (omega (arith, kept.long)) (reads_kept c scope names d vars after le kept reads))))
        (λ after kept has. later h.0 h.2 q d after after (value names globals b) (zero_leads code f below globals h.0 d h.2 after h.4 has) (kept_all d after)
        (expr_comes b h.2 d q after h.7 s.2 le (omega (arith, kept.long)) (reads_kept c scope names d vars after le kept reads)))
