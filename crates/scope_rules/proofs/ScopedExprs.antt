-- An expression that breaks no rule is well scoped, with numbers for names.
use Rattle.scope_rules.proofs.Common.{ℕ, ◌≡◌, ◌<◌, ◌%◌, ◌^◌, refl, true, false, List, [], ◌∷◌, ◌++◌, arith, NameTree, RawExprTree, RawNumber, RawName, RawElement, RawUnary, RawParenthesized, RawBinary, RawLogicalAnd, RawLogicalOr, RawConditional, ExprTree, Context, IsExprScoped, AreExprsScoped, Meaning, Binding, find, is_scalar, is_array, variable_in, variable_of, scalar_faults, array_faults, expr_faults, exprs_faults, scalar_value, element_value, expr_of, exprs_of}
use Rattle.scope_rules.proofs.NoFaults.{both_none, Used, used}
use Rattle.scope_rules.proofs.Fits.{MeaningFits, AllFit, find_fits}

scalar_fits : (c : Context) (scope : List ℕ) (m : Meaning) → MeaningFits c scope m → is_scalar m ≡ true → IsExprScoped c scope (scalar_value (variable_in m))
scalar_fits c scope (Meaning.Local x false) h e = (h.0, h.2 refl, h.1)
scalar_fits c scope (Meaning.Global g false) h e = (h.0, h.1 refl)
scalar_fits c scope _ h e = cc

element_fits : (c : Context) (scope : List ℕ) (m : Meaning) (i : ExprTree) → MeaningFits c scope m → is_array m ≡ true → IsExprScoped c scope i → IsExprScoped c scope (element_value (variable_in m) i)
element_fits c scope (Meaning.Local x true) i h e k = (h.0, h.1, k)
element_fits c scope (Meaning.Global g true) i h e k = (h.0, k)
element_fits c scope _ i h e k = cc

word_fits : (v : ℕ) → v % 2 ^ 32 < 2 ^ 32
word_fits v = omega arith

module _ (c : Context) (scope : List ℕ) (names : List Binding) (fit : AllFit c scope names) where
  pub scalar_scoped : (n : NameTree) → scalar_faults names n ≡ [] → IsExprScoped c scope (scalar_value (variable_of (find n.text names)))
  scalar_scoped n h =
      let u : Used is_scalar (find n.text names) = used is_scalar (find n.text names) n.at h in
      rw u.is (scalar_fits c scope u.found.meaning (find_fits c scope n.text names u.found fit u.is) u.may_be)

  pub element_scoped : (n : NameTree) (i : ExprTree) → array_faults names n ≡ [] → IsExprScoped c scope i → IsExprScoped c scope (element_value (variable_of (find n.text names)) i)
  element_scoped n i h k =
      let u : Used is_array (find n.text names) = used is_array (find n.text names) n.at h in
      rw u.is (element_fits c scope u.found.meaning i (find_fits c scope n.text names u.found fit u.is) u.may_be k)

  pub expr_scoped : (e : RawExprTree) → expr_faults names e ≡ [] → IsExprScoped c scope (expr_of names e)
  expr_scoped (RawNumber v) h = word_fits v
  expr_scoped (RawName n) h = scalar_scoped n h
  expr_scoped (RawElement n i) h =
      let k = both_none (array_faults names n) (expr_faults names i) h in
      element_scoped n (expr_of names i) k.0 (expr_scoped i k.1)
  expr_scoped (RawUnary op e) h = expr_scoped e h
  expr_scoped (RawParenthesized e) h = expr_scoped e h
  expr_scoped (RawBinary op l r) h =
      let k = both_none (expr_faults names l) (expr_faults names r) h in (expr_scoped l k.0, expr_scoped r k.1)
  expr_scoped (RawLogicalAnd l r) h =
      let k = both_none (expr_faults names l) (expr_faults names r) h in (expr_scoped l k.0, expr_scoped r k.1)
  expr_scoped (RawLogicalOr l r) h =
      let k = both_none (expr_faults names l) (expr_faults names r) h in (expr_scoped l k.0, expr_scoped r k.1)
  expr_scoped (RawConditional e a b) h =
      let k = both_none (expr_faults names e ++ expr_faults names a) (expr_faults names b) h in
      let j = both_none (expr_faults names e) (expr_faults names a) k.0 in
      (expr_scoped e j.0, expr_scoped a j.1, expr_scoped b k.1)
  expr_scoped _ h = word_fits 0

  pub exprs_scoped : (es : List RawExprTree) → exprs_faults names es ≡ [] → AreExprsScoped c scope (exprs_of names es)
  exprs_scoped [] h = tt
  exprs_scoped (e ∷ es) h =
      let k = both_none (expr_faults names e) (exprs_faults names es) h in (expr_scoped e k.0, exprs_scoped es k.1)
