-- A call or a right side that breaks no rule is well scoped, with numbers for names.
use Rattle.scope_rules.proofs.Common.{ℕ, ◌≡◌, ◌<◌, refl, sym, ◌∙◌, Bool, true, false, not, List, [], ◌∷◌, ◌++◌, length, Option, Some, None, arith, nat_eq, ◌||◌, ◌&&◌, length-map, parameters_of, gives_result, NameTree, RawExprTree, RawNumber, RawName, RawElement, RawUnary, RawParenthesized, RawBinary, RawLogicalAnd, RawLogicalOr, RawConditional, RawCall, RawTableCall, Context, IsCallScoped, call_gives, IsRightScoped, signature_at, Rule, Meaning, Found, Binding, find, broken, is_callable, is_table, is_spawnable, is_void, takes, is_wrong_count, function_in, table_in, table_of, callee_in, callee_of, expr_faults, exprs_faults, listed, expr_of, call_name_faults, table_name_faults, spawned_faults, spawn_faults, arguments_faults, call_faults, table_call_faults, right_faults, spawned_function, spawn_of, call_by, call_of, table_call_of, right_of, not-false}
use Rattle.scope_rules.proofs.NoFaults.{both_none, not_broken, same_number, Used, used}
use Rattle.scope_rules.proofs.Fits.{MeaningFits, AllFit, find_fits}
use Rattle.scope_rules.proofs.ScopedExprs.{expr_scoped, exprs_scoped}

-- a name that is in scope, and what is wrong with it otherwise
pub record Known (o : Option Found) : Type 0 where
  pub found : Found
  pub is : o ≡ Some found

pub known_call : (u : Bool) (o : Option Found) (at k : ℕ) → call_name_faults u o at k ≡ [] → Known o
known_call u None at k h = cc
known_call u (Some f) at k h = record { found = f; is = refl }

known_table : (o : Option Found) (at : ℕ) → table_name_faults o at ≡ [] → Known o
known_table None at h = cc
known_table (Some f) at h = record { found = f; is = refl }

pub right_count : (n k : ℕ) → is_wrong_count (Some n) k ≡ false → n ≡ k
right_count n k h = same_number n k (not-false (nat_eq n k) h)

used_gives : (u : Bool) (g : Bool) → (u && not g) ≡ false → u ≡ true → g ≡ true
used_gives true g h e = not-false g h
used_gives false g h e = cc

spawnable_in : (c : Context) (scope : List ℕ) (m : Meaning) → MeaningFits c scope m → is_spawnable m ≡ true
    → (function_in m < length c.signatures) × ((signature_at c.signatures (function_in m)).params ≡ 1)
spawnable_in c scope (Meaning.Function f gives params defined) h e = (h.0, h.1 ∙ same_number params 1 e)
spawnable_in c scope _ h e = cc

table_scoped_in : (c : Context) (scope : List ℕ) (m : Meaning) → MeaningFits c scope m → is_table m ≡ true → table_in m < c.tables
table_scoped_in c scope (Meaning.Table t) h e = h
table_scoped_in c scope _ h e = cc

spawn_gives : (c : Context) (names : List Binding) (k : ℕ) (es : List RawExprTree) → call_gives c (spawn_of names k es) ≡ true
spawn_gives c names k [] = refl
spawn_gives c names k (e ∷ es) = refl

module _ (c : Context) (scope : List ℕ) (names : List Binding) (fit : AllFit c scope names) where
  spawned_scoped : (at : ℕ) (e : RawExprTree) → spawned_faults names at e ≡ []
      → (spawned_function names e < length c.signatures) × ((signature_at c.signatures (spawned_function names e)).params ≡ 1)
  spawned_scoped at (RawName g) h =
      let u : Used is_spawnable (find g.text names) = used is_spawnable (find g.text names) g.at h in
      rw u.is (spawnable_in c scope u.found.meaning (find_fits c scope g.text names u.found fit u.is) u.may_be)
  spawned_scoped at _ h = cc

  spawn_scoped : (k at : ℕ) (es : List RawExprTree) → length es ≡ 2 → spawn_faults names at es ≡ [] → IsCallScoped c scope (spawn_of names k es)
  spawn_scoped k at (a ∷ b ∷ []) l h =
      let j = both_none (spawned_faults names at a) (exprs_faults names (b ∷ [])) h in
      let s = spawned_scoped at a j.0 in
      let i = both_none (expr_faults names b) [] j.1 in
      (s.0, s.1, expr_scoped c scope names fit b i.0)
  spawn_scoped k at _ l h = absurd (omega arith)

  call_scoped_by : (u : Bool) (m : Meaning) (k at : ℕ) (es : List RawExprTree) → MeaningFits c scope m
      → is_wrong_count (takes m) (length es) ≡ false → (not (is_callable m) || (u && is_void m)) ≡ false
      → arguments_faults (callee_in m) names at es ≡ []
      → IsCallScoped c scope (call_by (callee_in m) names k es) × (u ≡ true → call_gives c (call_by (callee_in m) names k es) ≡ true)
  call_scoped_by u (Meaning.Function fn gives params defined) k at es f w v h = (
    (f.0, length-map es (expr_of names) ∙ (sym (right_count params (length es) w) ∙ sym f.1), exprs_scoped c scope names fit es h),
    λ e. f.2 ∙ used_gives u gives v e,
  )
  call_scoped_by u (Meaning.Modelled m) k at es f w v h = (
    (length-map es (expr_of names) ∙ sym (right_count (parameters_of m) (length es) w), exprs_scoped c scope names fit es h),
    λ e. used_gives u (gives_result m) v e,
  )
  call_scoped_by u Meaning.Spawn k at es f w v h =
      (spawn_scoped k at es (sym (right_count 2 (length es) w)) h, λ e. spawn_gives c names k es)
  call_scoped_by u _ k at es f w v h = cc

  pub call_scoped : (u : Bool) (k : ℕ) (n : NameTree) (es : List RawExprTree) → call_faults u names n es ≡ []
      → IsCallScoped c scope (call_of names k n es) × (u ≡ true → call_gives c (call_of names k n es) ≡ true)
  call_scoped u k n es h =
      let o = find n.text names in
      let j = both_none (call_name_faults u o n.at (length es)) (arguments_faults (callee_of o) names n.at es) h in
      let kn : Known o = known_call u o n.at (length es) j.0 in
      let m = kn.found.meaning in
      let a = rw kn.is at j.0 in
      let b = rw kn.is at j.1 in
      let i = both_none (broken (is_wrong_count (takes m) (length es)) n.at Rule.Arity) (broken (not (is_callable m) || (u && is_void m)) n.at Rule.Kind) a in
      rw kn.is (call_scoped_by u m k n.at es (find_fits c scope n.text names kn.found fit kn.is)
      (not_broken (is_wrong_count (takes m) (length es)) n.at Rule.Arity i.0) (not_broken (not (is_callable m) || (u && is_void m)) n.at Rule.Kind i.1) b)

  pub table_call_scoped : (k : ℕ) (n : NameTree) (i e : RawExprTree) → table_call_faults names n i e ≡ [] → IsCallScoped c scope (table_call_of names k n i e)
  table_call_scoped k n i e h =
      let o = find n.text names in
      let j = both_none (table_name_faults o n.at) (expr_faults names i ++ expr_faults names e) h in
      let l = both_none (expr_faults names i) (expr_faults names e) j.1 in
      let kn : Known o = known_table o n.at j.0 in
      let m = kn.found.meaning in
      let a = rw kn.is at j.0 in
      let b = both_none (broken (is_wrong_count (takes m) 1) n.at Rule.Arity) (broken (not (is_table m)) n.at Rule.Kind) a in
      let t : table_of o < c.tables = rw kn.is (table_scoped_in c scope m (find_fits c scope n.text names kn.found fit kn.is) (not-false (is_table m) (not_broken (not (is_table m)) n.at Rule.Kind b.1))) in
      (t, expr_scoped c scope names fit i l.0, expr_scoped c scope names fit e l.1)

  pub right_scoped : (k : ℕ) (v : RawExprTree) → right_faults names v ≡ [] → IsRightScoped c scope (right_of names k v)
  right_scoped k (RawNumber v) h = expr_scoped c scope names fit (RawNumber v) h
  right_scoped k (RawName n) h = expr_scoped c scope names fit (RawName n) h
  right_scoped k (RawElement n i) h = expr_scoped c scope names fit (RawElement n i) h
  right_scoped k (RawUnary op e) h = expr_scoped c scope names fit (RawUnary op e) h
  right_scoped k (RawParenthesized e) h = expr_scoped c scope names fit (RawParenthesized e) h
  right_scoped k (RawBinary op l r) h = expr_scoped c scope names fit (RawBinary op l r) h
  right_scoped k (RawLogicalAnd l r) h = expr_scoped c scope names fit (RawLogicalAnd l r) h
  right_scoped k (RawLogicalOr l r) h = expr_scoped c scope names fit (RawLogicalOr l r) h
  right_scoped k (RawConditional e a b) h = expr_scoped c scope names fit (RawConditional e a b) h
  right_scoped k (RawCall n es) h = let r = call_scoped true k n (listed es) h in (r.0, r.1 refl)
  right_scoped k (RawTableCall n i e) h = (table_call_scoped k n i e h, refl)
