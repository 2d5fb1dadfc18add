-- Declarations, assignments and calls that break no rule are well scoped, with numbers for names.
use Rattle.scope_rules.proofs.Common.{ℕ, ◌≡◌, ◌<◌, ◌≤◌, ◌+◌, refl, ap, ◌∙◌, Bool, true, false, List, [], ◌∷◌, ◌++◌, length, length-append, append_assoc, get_or, arith, slice_index, IsTrue, eqb, nat_lt, ◌||◌, nat_tests, NameTree, RawSimpleTree, RawDeclareScalar, RawDeclareArray, RawDeclareWith, RawSet, RawSetElement, RawCalling, RawTableCalling, ExprTree, RightTree, simple_names, capped, Context, visible, IsExprScoped, IsRightScoped, IsSimpleScoped, AreSimplesScoped, with_names, scope_after_all, Rule, Meaning, Variable, find, is_fixed, is_scalar, is_array, variable_in, variable_of, scalar_faults, array_faults, expr_faults, listed, expr_of, right_faults, right_of, right_after, Spot, declare_faults, size_faults, next_variable, with_variable, simple_faults, set_scalar, set_element, simple_of, simple_after, simples_faults, simples_of, simples_after, or_parts}
use Rattle.scope_rules.proofs.NoFaults.{both_none, not_broken, not_less, Used, used}
use Rattle.scope_rules.proofs.Fits.{MeaningFits, AllFit, find_fits, all_fit_more, all_fit_bound}
use Rattle.scope_rules.proofs.ScopedExprs.{expr_scoped}
use Rattle.scope_rules.proofs.ScopedCalls.{call_scoped, table_call_scoped, right_scoped}
use Rattle.scope_rules.proofs.Growth.{simples_grown}

abbrev pub IsPrefix : List ℕ → List ℕ → Type 0
IsPrefix some all = (rest : List ℕ) × (all ≡ some ++ rest)

pub prefix_back : (a b all more : List ℕ) → b ≡ a ++ more → IsPrefix b all → IsPrefix a all
prefix_back a b all more e p = (more ++ p.0, p.1 ∙ (ap (λ x. x ++ p.0) e ∙ append_assoc a more p.0))

after_all : (xs ys : List ℕ) (y : ℕ) → get_or (xs ++ y ∷ ys) (length xs) 0 ≡ y
after_all [] ys y = refl
after_all (x ∷ xs) ys y = after_all xs ys y

-- the next variable is there, with its words
pub next_is_there : (sizes all : List ℕ) (w : ℕ) → IsPrefix (sizes ++ w ∷ []) all → length all ≤ 65536
    → (capped (length sizes) < length all) × (slice_index all (capped (length sizes)) ≡ w)
next_is_there sizes all w p l =
    let k : length all ≡ length sizes + 1 + length p.0 = rw (p.1, length-append (sizes ++ w ∷ []) p.0, length-append sizes (w ∷ [])) refl in
    let e : capped (length sizes) ≡ length sizes = omega arith in
    (omega arith, rw (e, p.1, append_assoc sizes (w ∷ []) p.0) (after_all sizes p.0 w))

same_visible : (x : ℕ) (scope : List ℕ) → IsTrue (visible x (x ∷ scope))
same_visible x scope = seen (eqb x x) refl
  where
    seen : (b : Bool) → b ≡ eqb x x → IsTrue (b || visible x scope)
    seen true e = refl
    seen false e = let t : eqb x x ≡ true = grind (arith, nat_tests) in cc

scalar_set : (c : Context) (scope : List ℕ) (m : Meaning) (v : RightTree) → MeaningFits c scope m → is_scalar m ≡ true → IsRightScoped c scope v → IsSimpleScoped c scope (set_scalar (variable_in m) v)
scalar_set c scope (Meaning.Local x false) v h e k = (h.0, h.2 refl, h.1, k)
scalar_set c scope (Meaning.Global g false) v h e k = (h.0, h.1 refl, k)
scalar_set c scope _ v h e k = cc

element_set : (c : Context) (scope : List ℕ) (m : Meaning) (i : ExprTree) (v : RightTree) → MeaningFits c scope m → is_array m ≡ true → IsExprScoped c scope i → IsRightScoped c scope v → IsSimpleScoped c scope (set_element (variable_in m) i v)
element_set c scope (Meaning.Local x true) i v h e j k = (h.0, h.1, j, k)
element_set c scope (Meaning.Global g true) i v h e j k = (h.0, j, k)
element_set c scope _ i v h e j k = cc

set_scalar_adds : (scope : List ℕ) (x : Variable) (v : RightTree) → with_names scope (simple_names (set_scalar x v)) ≡ scope
set_scalar_adds scope (Variable.Local x) v = refl
set_scalar_adds scope (Variable.Global x) v = refl

set_element_adds : (scope : List ℕ) (x : Variable) (i : ExprTree) (v : RightTree) → with_names scope (simple_names (set_element x i v)) ≡ scope
set_element_adds scope (Variable.Local x) i v = refl
set_element_adds scope (Variable.Global x) i v = refl

module _ (c : Context) (small : length c.sizes ≤ 65536) where
  pub variable_fits : (scope : List ℕ) (s : Spot) (n : NameTree) (array : Bool) (w : ℕ) → (array ≡ false → w ≡ 1) → AllFit c scope s.names → IsPrefix (s.sizes ++ w ∷ []) c.sizes
      → AllFit c (next_variable s ∷ scope) (with_variable s n array w).names
  variable_fits scope s n array w one fit p =
      let t = next_is_there s.sizes c.sizes w p small in
      all_fit_bound c (next_variable s ∷ scope) (record { text = n.text; meaning = Meaning.Local (next_variable s) array }) s.names (is_fixed (find n.text s.names))
      (t.0, same_visible (next_variable s) scope, λ e. t.1 ∙ one e) (all_fit_more c (next_variable s) scope s.names fit)

  pub simple_scoped : (scope : List ℕ) (s : Spot) (p : RawSimpleTree) → AllFit c scope s.names → simple_faults s p ≡ [] → IsPrefix (simple_after s p).sizes c.sizes → IsSimpleScoped c scope (simple_of s p)
  simple_scoped scope s (RawDeclareScalar n) fit h p = next_is_there s.sizes c.sizes 1 p small
  simple_scoped scope s (RawDeclareArray n size) fit h p =
      let k = both_none (declare_faults s n) (size_faults n size) h in
      let b = or_parts (nat_lt size 1) (nat_lt 65536 size) (not_broken (nat_lt size 1 || nat_lt 65536 size) n.at Rule.Kind k.1) in
      let t = next_is_there s.sizes c.sizes size p small in
      (t.0, t.1, not_less size 1 b.0)
  simple_scoped scope s (RawDeclareWith n v) fit h p =
      let k = both_none (declare_faults s n) (right_faults s.names v) h in
      let t = next_is_there s.sizes c.sizes 1 p small in
      (t.0, t.1, right_scoped c scope s.names fit s.site v k.1)
  simple_scoped scope s (RawSet n v) fit h p =
      let k = both_none (scalar_faults s.names n) (right_faults s.names v) h in
      let u : Used is_scalar (find n.text s.names) = used is_scalar (find n.text s.names) n.at k.0 in
      rw u.is (scalar_set c scope u.found.meaning (right_of s.names s.site v) (find_fits c scope n.text s.names u.found fit u.is) u.may_be (right_scoped c scope s.names fit s.site v k.1))
  simple_scoped scope s (RawSetElement n i v) fit h p =
      let k = both_none (array_faults s.names n) (expr_faults s.names i ++ right_faults s.names v) h in
      let j = both_none (expr_faults s.names i) (right_faults s.names v) k.1 in
      let u : Used is_array (find n.text s.names) = used is_array (find n.text s.names) n.at k.0 in
      rw u.is (element_set c scope u.found.meaning (expr_of s.names i) (right_of s.names s.site v) (find_fits c scope n.text s.names u.found fit u.is) u.may_be (expr_scoped c scope s.names fit i j.0) (right_scoped c scope s.names fit s.site v j.1))
  simple_scoped scope s (RawCalling n es) fit h p = (call_scoped c scope s.names fit false s.site n (listed es) h).0
  simple_scoped scope s (RawTableCalling n i e) fit h p = table_call_scoped c scope s.names fit s.site n i e h

  pub simple_fits : (scope : List ℕ) (s : Spot) (p : RawSimpleTree) → AllFit c scope s.names → IsPrefix (simple_after s p).sizes c.sizes → AllFit c (with_names scope (simple_names (simple_of s p))) (simple_after s p).names
  simple_fits scope s (RawDeclareScalar n) fit p = variable_fits scope s n false 1 (λ e. refl) fit p
  simple_fits scope s (RawDeclareArray n size) fit p = variable_fits scope s n true size (λ e. cc) fit p
  simple_fits scope s (RawDeclareWith n v) fit p = variable_fits scope (record s { site = right_after s.site v }) n false 1 (λ e. refl) fit p
  simple_fits scope s (RawSet n v) fit p = rw (set_scalar_adds scope (variable_of (find n.text s.names)) (right_of s.names s.site v)) fit
  simple_fits scope s (RawSetElement n i v) fit p = rw (set_element_adds scope (variable_of (find n.text s.names)) (expr_of s.names i) (right_of s.names s.site v)) fit
  simple_fits scope s _ fit p = fit

  pub simples_scoped : (scope : List ℕ) (s : Spot) (ps : List RawSimpleTree) → AllFit c scope s.names → simples_faults s ps ≡ [] → IsPrefix (simples_after s ps).sizes c.sizes → AreSimplesScoped c scope (simples_of s ps)
  simples_scoped scope s [] fit h p = tt
  simples_scoped scope s (x ∷ ps) fit h p =
      let k = both_none (simple_faults s x) (simples_faults (simple_after s x) ps) h in
      let q : IsPrefix (simple_after s x).sizes c.sizes = prefix_back (simple_after s x).sizes (simples_after (simple_after s x) ps).sizes c.sizes _ (simples_grown (simple_after s x) ps).sizes p in
      (simple_scoped scope s x fit k.0 q, simples_scoped (with_names scope (simple_names (simple_of s x))) (simple_after s x) ps (simple_fits scope s x fit q) k.1 p)

  pub simples_fits : (scope : List ℕ) (s : Spot) (ps : List RawSimpleTree) → AllFit c scope s.names → IsPrefix (simples_after s ps).sizes c.sizes → AllFit c (scope_after_all scope (simples_of s ps)) (simples_after s ps).names
  simples_fits scope s [] fit p = fit
  simples_fits scope s (x ∷ ps) fit p =
      let q : IsPrefix (simple_after s x).sizes c.sizes = prefix_back (simple_after s x).sizes (simples_after (simple_after s x) ps).sizes c.sizes _ (simples_grown (simple_after s x) ps).sizes p in
      simples_fits (with_names scope (simple_names (simple_of s x))) (simple_after s x) ps (simple_fits scope s x fit q) p
