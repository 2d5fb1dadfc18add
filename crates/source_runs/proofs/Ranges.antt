-- What is well scoped is in range, and its values one after another.
use Rattle.source_runs.proofs.Common.{◌≡◌, ℕ, zero, suc, ◌+◌, ◌<◌, ◌≤◌, List, [], ◌∷◌, ◌++◌, length, map, drop, sym, ap, ◌∙◌, arith, refl, subst, get_or, append_assoc, Result, Ok, Err, MatchResult, AllByRecursion, drop_all, TrapKind, ExprTree, expr_tree, Context, AreExprsScoped, Expr, IsInRange, Value, value, values, with_first, scoped_in_range}
use Rattle.c_tree.proofs.Cuts.{drop_at}

pub all-in-range : (c : Context) (scope : List ℕ) (es : List ExprTree) → AreExprsScoped c scope es → AllByRecursion (IsInRange c.sizes c.globals) es
all-in-range c scope [] h = tt {0}
all-in-range c scope (e ∷ es) h = (scoped_in_range c scope e h.0, all-in-range c scope es h.1)

pub range-at : (ns ms : List ℕ) (es : List Expr) (i : ℕ) (e : Expr) → AllByRecursion (IsInRange ns ms) (map expr_tree es) → i < length es → e ≡ get_or es i e → IsInRange ns ms (expr_tree e)
range-at ns ms [] i e h lt is = absurd (omega arith)
range-at ns ms (x ∷ es) zero e h lt is = subst (λ (y : Expr). IsInRange ns ms (expr_tree y)) (sym is) h.0
range-at ns ms (x ∷ es) (suc i) e h lt is = range-at ns ms es i e h.1 (omega arith) is

-- ---- the values of arguments, one after another

-- words that are known, and then those of the rest
abbrev pub after_words : List ℕ → Result (List ℕ) TrapKind → Result (List ℕ) TrapKind
after_words words (Ok rest) = Ok (words ++ rest)
after_words words (Err trap) = Err trap

pub after-none : (made : Result (List ℕ) TrapKind) → after_words [] made ≡ made
after-none (Ok rest) = refl
after-none (Err trap) = refl

after-first : (words : List ℕ) (a : ℕ) (rest : Result (List ℕ) TrapKind) → after_words words (with_first (Ok a) rest) ≡ after_words (words ++ a ∷ []) rest
after-first words a (Ok rest) = ap Ok (sym (append_assoc words (a ∷ []) rest))
after-first words a (Err trap) = refl

pub append-none : (xs : List ℕ) → xs ++ [] ≡ xs
append-none [] = refl
append-none (x ∷ xs) = ap (λ (ys : List ℕ). x ∷ ys) (append-none xs)

module _ (names globals : List (List ℕ)) where
  abbrev pub of : List Expr → Result (List ℕ) TrapKind
  of es = values names globals (map expr_tree es)

  pub values-more : (es : List Expr) (i : ℕ) (e : Expr) (words more : List ℕ) (a : ℕ) → i < length es → e ≡ get_or es i e → Ok a ≡ value names globals (expr_tree e) → more ≡ words ++ a ∷ [] → after_words words (of (drop i es)) ≡ of es → after_words more (of (drop (i + 1) es)) ≡ of es
  values-more es i e words more a lt is v push h =
      let cut : of (drop i es) ≡ with_first (value names globals (expr_tree e)) (of (drop (i + 1) es)) = ap of (drop_at es i e lt is) in
      let first : of (drop i es) ≡ with_first (Ok a) (of (drop (i + 1) es)) = cut ∙ ap (λ (x : Value). with_first x (of (drop (i + 1) es))) (sym v) in
      ap (λ (xs : List ℕ). after_words xs (of (drop (i + 1) es))) push ∙ (sym (after-first words a (of (drop (i + 1) es))) ∙ (ap (after_words words) (sym first) ∙ h))

  pub values-trap : (es : List Expr) (i : ℕ) (e : Expr) (words : List ℕ) (trap : TrapKind) → i < length es → e ≡ get_or es i e → Err trap ≡ value names globals (expr_tree e) → after_words words (of (drop i es)) ≡ of es → of es ≡ Err trap
  values-trap es i e words trap lt is v h =
      let cut : of (drop i es) ≡ with_first (Err trap) (of (drop (i + 1) es)) = ap of (drop_at es i e lt is) ∙ ap (λ (x : Value). with_first x (of (drop (i + 1) es))) (sym v) in
      sym h ∙ ap (after_words words) cut

  pub values-all : (es : List Expr) (i : ℕ) (words : List ℕ) → length es ≤ i → after_words words (of (drop i es)) ≡ of es → of es ≡ Ok words
  values-all es i words past h = sym h ∙ (ap (λ (xs : List Expr). after_words words (of xs)) (drop_all i es past) ∙ ap Ok (append-none words))

  -- ---- a few arguments

  pub values-one : (es : List Expr) (e : Expr) → length es ≡ 1 → e ≡ get_or es 0 e → of es ≡ with_first (value names globals (expr_tree e)) (Ok [])
  values-one (x ∷ []) e h is = ap (λ (y : Expr). with_first (value names globals (expr_tree y)) (Ok [])) (sym is)
  values-one _ e h is = absurd (omega arith)

  pub only-value : (es : List Expr) (e : Expr) (made : Value) → length es ≡ 1 → e ≡ get_or es 0 e → made ≡ value names globals (expr_tree e) → MatchResult made (λ word. of es ≡ Ok (word ∷ [])) (λ trap. of es ≡ Err trap)
  only-value es e (Ok word) h is v = values-one es e h is ∙ ap (λ (x : Value). with_first x (Ok [])) (sym v)
  only-value es e (Err trap) h is v = values-one es e h is ∙ ap (λ (x : Value). with_first x (Ok [])) (sym v)

  pub values-two : (es : List Expr) (e f : Expr) → length es ≡ 2 → e ≡ get_or es 0 e → f ≡ get_or es 1 f → of es ≡ with_first (value names globals (expr_tree e)) (with_first (value names globals (expr_tree f)) (Ok []))
  values-two (x ∷ y ∷ []) e f h is also =
      ap (λ (z : Expr). with_first (value names globals (expr_tree z)) (with_first (value names globals (expr_tree y)) (Ok []))) (sym is)
      ∙ ap (λ (z : Expr). with_first (value names globals (expr_tree e)) (with_first (value names globals (expr_tree z)) (Ok []))) (sym also)
  values-two _ e f h is also = absurd (omega arith)
