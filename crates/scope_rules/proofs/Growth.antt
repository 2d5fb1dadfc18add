-- What statements declare and call, against the counts of variables and sites before and after them.
use Rattle.scope_rules.proofs.Common.{ℕ, ◌≡◌, ◌≤◌, ◌+◌, refl, sym, ap, ◌∙◌, List, [], ◌∷◌, ◌++◌, length, map, length-append, append_assoc, add-zero, arith, Bool, true, false, Option, Some, None, subst, map-append, length-map, append-nil, Site, RawExprTree, RawCall, RawTableCall, RawSimpleTree, RawDeclareScalar, RawDeclareArray, RawDeclareWith, RawSet, RawSetElement, RawCalling, RawTableCalling, RawStmtTree, RawStmtTrees, RawDo, RawBlock, RawIf, RawIfElse, RawWhile, RawFor, RawReturn, NoRawStmts, RawThen, CallTree, Declared, simple_names, simples_names, step_names, stmt_names, stmts_names, call_site, right_sites, returned_sites, simple_sites, simples_sites, step_sites, stmt_sites, stmts_sites, counting, capped, counting-append, Variable, Binding, find, callee_of, variable_of, listed, expr_of, call_by, call_of, table_call_of, right_of, right_after, spawn_of, Spot, called, next_variable, with_variable, set_scalar, set_element, simple_of, simple_after, simples_of, simples_after, inside, left, step_after, returned_of, returned_after, stmt_of, stmts_of, stmt_after, stmts_after, option_map}
use Rattle.scope_rules.specs.declared.meanings.Callee.{Callee}

abbrev pub variables : List Declared → List ℕ
variables ds = map (λ d. d.variable) ds

abbrev pub words : List Declared → List ℕ
words ds = map (λ d. d.words) ds

abbrev pub numbers : List Site → List ℕ
numbers ks = map (λ k. k.number) ks

-- from the first spot to the second these names are declared and these calls stand there: each variable and each site has
-- the next number, as far as numbers go
pub record Grown (s : Spot) (ds : List Declared) (ks : List Site) (e : Spot) : Type 0 where
  pub sizes : e.sizes ≡ s.sizes ++ words ds
  pub variables_rise : length e.sizes ≤ 65536 → counting (length s.sizes) (variables ds)
  pub site : s.site ≤ 65537 → e.site ≡ capped (s.site + length ks)
  pub sites_rise : s.site + length ks ≤ 65536 → counting s.site (numbers ks)

-- spots that differ in scope alone
pub grown_between : {s e : Spot} {ds : List Declared} {ks : List Site} (t f : Spot) → Grown s ds ks e → t.sizes ≡ s.sizes → t.site ≡ s.site → f.sizes ≡ e.sizes → f.site ≡ e.site → Grown t ds ks f
grown_between {s} {e} {ds} {ks} t f g a b c d = record {
  sizes = c ∙ (g.sizes ∙ ap (λ x. x ++ words ds) (sym a));
  variables_rise = λ h. rw a (g.variables_rise (rw (← c) h));
  site = λ h. rw (d, b) (g.site (rw (← b) h));
  sites_rise = λ h. rw b (g.sites_rise (rw (← b) h));
}

pub grown_none : (s : Spot) → Grown s [] [] s
grown_none s = record {
  sizes = sym (append-nil s.sizes);
  variables_rise = λ h. tt;
  site = λ h. rw add-zero (omega arith);
  sites_rise = λ h. tt;
}

pub grown_then : {s m e : Spot} {ds es : List Declared} {ks js : List Site} → Grown s ds ks m → Grown m es js e → Grown s (ds ++ es) (ks ++ js) e
grown_then {s} {m} {e} {ds} {es} {ks} {js} g h = record {
  sizes = rw (h.sizes, g.sizes, map-append (λ (d : Declared). d.words) ds es) (append_assoc s.sizes (words ds) (words es));
  variables_rise = λ k.
      let lm : length m.sizes ≡ length s.sizes + length ds = rw (g.sizes, length-append s.sizes (words ds), length-map ds (λ (d : Declared). d.words)) refl in
      let le : length e.sizes ≡ length m.sizes + length es = rw (h.sizes, length-append m.sizes (words es), length-map es (λ (d : Declared). d.words)) refl in
      let lv : length (variables ds) ≡ length ds = length-map ds (λ (d : Declared). d.variable) in
      rw (map-append (λ (d : Declared). d.variable) ds es)
      (counting-append (length s.sizes) (variables ds) (variables es) (g.variables_rise (omega arith))
      (subst (λ n. counting n (variables es)) (lm ∙ ap (λ x. length s.sizes + x) (sym lv)) (h.variables_rise k)));
  site = λ k.
      let a : m.site ≡ capped (s.site + length ks) = g.site k in
      let b : e.site ≡ capped (m.site + length js) = h.site (omega arith) in
      rw (length-append ks js) (omega arith);
  sites_rise = λ k.
      let l : length (ks ++ js) ≡ length ks + length js = length-append ks js in
      let a : m.site ≡ capped (s.site + length ks) = g.site (omega arith) in
      let b : m.site ≡ s.site + length ks = omega arith in
      let ln : length (numbers ks) ≡ length ks = length-map ks (λ (x : Site). x.number) in
      rw (map-append (λ (x : Site). x.number) ks js)
      (counting-append s.site (numbers ks) (numbers js) (g.sites_rise (omega arith))
      (subst (λ n. counting n (numbers js)) (b ∙ ap (λ x. s.site + x) (sym ln)) (h.sites_rise (omega arith))));
}

-- one declared name
pub grown_variable : (s : Spot) (n : Rattle.c_tree.specs.RawTrees.NameTree) (array : Bool) (w : ℕ) → Grown s (record { variable = next_variable s; words = w } ∷ []) [] (with_variable s n array w)
grown_variable s n array w = record {
  sizes = refl;
  variables_rise = λ h.
      let l : length (s.sizes ++ w ∷ []) ≡ length s.sizes + 1 = length-append s.sizes (w ∷ []) in
      (let e : capped (length s.sizes) ≡ length s.sizes = omega arith in e, tt);
  site = λ h. rw add-zero (omega arith);
  sites_rise = λ h. tt;
}

-- one call
spawn_number : (names : List Binding) (k : ℕ) (es : List RawExprTree) → (call_site (spawn_of names k es)).number ≡ k
spawn_number names k [] = refl
spawn_number names k (e ∷ es) = refl

call_number : (o : Callee) (names : List Binding) (k : ℕ) (es : List RawExprTree) → (call_site (call_by o names k es)).number ≡ k
call_number Callee.Spawn names k es = spawn_number names k es
call_number _ names k es = refl

pub grown_call : (s : Spot) (c : CallTree) → (call_site c).number ≡ s.site → Grown s [] (call_site c ∷ []) (called s)
grown_call s c e = record {
  sizes = sym (append-nil s.sizes);
  variables_rise = λ h. tt;
  site = λ h. omega arith;
  sites_rise = λ h. (e, tt);
}

pub grown_right : (s : Spot) (v : RawExprTree) → Grown s [] (right_sites (right_of s.names s.site v)) (record s { site = right_after s.site v })
grown_right s (RawCall n es) = grown_call s (call_of s.names s.site n (listed es)) (call_number (callee_of (find n.text s.names)) s.names s.site (listed es))
grown_right s (RawTableCall n i e) = grown_call s (table_call_of s.names s.site n i e) refl
grown_right s _ = grown_none s

pub set_scalar_names : (x : Variable) (v : Rattle.c_tree.specs.Trees.RightTree) → simple_names (set_scalar x v) ≡ []
set_scalar_names (Variable.Local x) v = refl
set_scalar_names (Variable.Global x) v = refl

set_scalar_sites : (x : Variable) (v : Rattle.c_tree.specs.Trees.RightTree) → simple_sites (set_scalar x v) ≡ right_sites v
set_scalar_sites (Variable.Local x) v = refl
set_scalar_sites (Variable.Global x) v = refl

pub set_element_names : (x : Variable) (i : Rattle.c_tree.specs.Trees.ExprTree) (v : Rattle.c_tree.specs.Trees.RightTree) → simple_names (set_element x i v) ≡ []
set_element_names (Variable.Local x) i v = refl
set_element_names (Variable.Global x) i v = refl

set_element_sites : (x : Variable) (i : Rattle.c_tree.specs.Trees.ExprTree) (v : Rattle.c_tree.specs.Trees.RightTree) → simple_sites (set_element x i v) ≡ right_sites v
set_element_sites (Variable.Local x) i v = refl
set_element_sites (Variable.Global x) i v = refl

pub simple_grown : (s : Spot) (p : RawSimpleTree) → Grown s (simple_names (simple_of s p)) (simple_sites (simple_of s p)) (simple_after s p)
simple_grown s (RawDeclareScalar n) = grown_variable s n false 1
simple_grown s (RawDeclareArray n size) = grown_variable s n true size
simple_grown s (RawDeclareWith n v) =
    subst (λ ks. Grown s (record { variable = next_variable s; words = 1 } ∷ []) ks (with_variable (record s { site = right_after s.site v }) n false 1)) (append-nil (right_sites (right_of s.names s.site v)))
    (grown_then (grown_right s v) (grown_variable (record s { site = right_after s.site v }) n false 1))
simple_grown s (RawSet n v) = rw (set_scalar_names (variable_of (find n.text s.names)) (right_of s.names s.site v), set_scalar_sites (variable_of (find n.text s.names)) (right_of s.names s.site v)) (grown_right s v)
simple_grown s (RawSetElement n i v) = rw (set_element_names (variable_of (find n.text s.names)) (expr_of s.names i) (right_of s.names s.site v), set_element_sites (variable_of (find n.text s.names)) (expr_of s.names i) (right_of s.names s.site v)) (grown_right s v)
simple_grown s (RawCalling n es) = grown_call s (call_of s.names s.site n (listed es)) (call_number (callee_of (find n.text s.names)) s.names s.site (listed es))
simple_grown s (RawTableCalling n i e) = grown_call s (table_call_of s.names s.site n i e) refl

pub simples_grown : (s : Spot) (ps : List RawSimpleTree) → Grown s (simples_names (simples_of s ps)) (simples_sites (simples_of s ps)) (simples_after s ps)
simples_grown s [] = grown_none s
simples_grown s (p ∷ ps) = grown_then (simple_grown s p) (simples_grown (simple_after s p) ps)

pub step_grown : (s : Spot) (p : Option RawSimpleTree) → Grown s (step_names (option_map (simple_of s) p)) (step_sites (option_map (simple_of s) p)) (step_after s p)
step_grown s None = grown_none s
step_grown s (Some p) = simple_grown s p

returned_grown : (s : Spot) (v : Option RawExprTree) → Grown s [] (returned_sites (returned_of s v)) (returned_after s v)
returned_grown s None = grown_none s
returned_grown s (Some v) = grown_right s v

mutual
  pub stmt_grown : (s : Spot) (p : RawStmtTree) → Grown s (stmt_names (stmt_of s p)) (stmt_sites (stmt_of s p)) (stmt_after s p)
  stmt_grown s (RawDo p) = simple_grown s p
  stmt_grown s (RawBlock ps) = grown_between s (left s (stmts_after (inside s) ps)) (stmts_grown (inside s) ps) refl refl refl refl
  stmt_grown s (RawIf c p) = grown_between s (left s (stmt_after (inside s) p)) (stmt_grown (inside s) p) refl refl refl refl
  stmt_grown s (RawIfElse c p r) =
      let m = left s (stmt_after (inside s) p) in
      let e = left s (stmt_after (inside m) r) in
      grown_then (grown_between s m (stmt_grown (inside s) p) refl refl refl refl) (grown_between m e (stmt_grown (inside m) r) refl refl refl refl)
  stmt_grown s (RawWhile c p) = grown_between s (left s (stmt_after (inside s) p)) (stmt_grown (inside s) p) refl refl refl refl
  stmt_grown s (RawFor init c step p) =
      let a = inside s in
      let b = simples_after a init in
      let d = step_after b step in
      let e = left s (stmt_after (inside d) p) in
      grown_then (grown_between s b (simples_grown a init) refl refl refl refl)
      (grown_then (step_grown b step) (grown_between d e (stmt_grown (inside d) p) refl refl refl refl))
  stmt_grown s (RawReturn at v) = returned_grown s v
  stmt_grown s _ = grown_none s

  pub stmts_grown : (s : Spot) (ps : RawStmtTrees) → Grown s (stmts_names (stmts_of s ps)) (stmts_sites (stmts_of s ps)) (stmts_after s ps)
  stmts_grown s NoRawStmts = grown_none s
  stmts_grown s (RawThen p ps) = grown_then (stmt_grown s p) (stmts_grown (stmt_after s p) ps)
