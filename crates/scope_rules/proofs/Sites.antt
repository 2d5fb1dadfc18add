-- The calls of a program are numbered in the order of the text.
use Rattle.scope_rules.proofs.Common.{ℕ, ◌≡◌, ◌≤◌, ◌+◌, refl, sym, ap, subst, ◌∙◌, List, [], ◌∷◌, ◌++◌, append_assoc, length, length-append, arith, map-append, length-map, append-nil, Site, RawItemTree, RawFunctionItem, FunctionTree, stmts_names, stmts_sites, functions_sites, counting, capped, counting-append, Binding, Spot, stmts_of, stmts_after, Sofar, definitions, at_start, parts_of, body_spot, function_tree_of, item_after, items_after}
use Rattle.scope_rules.proofs.Growth.{Grown, numbers, stmts_grown}
use Rattle.scope_rules.proofs.Programs.{body_site}

-- these calls are numbered from 0, and the next number is this
pub record AreNumbered (ks : List Site) (following : ℕ) : Type 0 where
  pub site : following ≡ capped (length ks)
  pub rise : length ks ≤ 65536 → counting 0 (numbers ks)

functions_sites-append : (fs : List FunctionTree) (f : FunctionTree) → functions_sites (fs ++ f ∷ []) ≡ functions_sites fs ++ stmts_sites f.body
functions_sites-append [] f = append-nil (stmts_sites f.body)
functions_sites-append (g ∷ fs) f = ap (λ x. stmts_sites g.body ++ x) (functions_sites-append fs f) ∙ sym (append_assoc (stmts_sites g.body) (functions_sites fs) (stmts_sites f.body))

more_numbered : (ks : List Site) (b : Spot) (ds : List Rattle.c_tree.specs.TextOrder.Declared) (js : List Site) (e : Spot) → AreNumbered ks b.site → Grown b ds js e → AreNumbered (ks ++ js) e.site
more_numbered ks b ds js e h g =
    let l : length (ks ++ js) ≡ length ks + length js = length-append ks js in
    let s = h.site in
    let t : e.site ≡ capped (b.site + length js) = g.site (omega arith) in
    record {
      site = omega arith;
      rise = λ k.
          let z : b.site ≡ length ks = omega arith in
          let ln : length (numbers ks) ≡ length ks = length-map ks (λ (x : Site). x.number) in
          rw (map-append (λ (x : Site). x.number) ks js)
          (counting-append 0 (numbers ks) (numbers js) (h.rise (omega arith))
          (subst (λ n. counting n (numbers js)) (z ∙ (sym ln ∙ omega arith)) (g.sites_rise (omega arith))));
    }

item_numbered : (defs : List Binding) (w : Sofar) (i : RawItemTree) → AreNumbered (functions_sites w.functions) w.spot.site → AreNumbered (functions_sites (item_after defs w i).functions) (item_after defs w i).spot.site
item_numbered defs w (RawFunctionItem gives n params body) h =
    let b = body_spot defs w.spot gives n params in
    let g : Grown b (stmts_names (stmts_of b body)) (stmts_sites (stmts_of b body)) (stmts_after b body) = stmts_grown b body in
    rw (functions_sites-append w.functions (function_tree_of b gives n params body))
    (more_numbered (functions_sites w.functions) b (stmts_names (stmts_of b body)) (stmts_sites (stmts_of b body)) (stmts_after b body) (rw (body_site defs w.spot gives n params) h) g)
item_numbered defs w _ h = h

pub items_numbered : (defs : List Binding) (w : Sofar) (is : List RawItemTree) → AreNumbered (functions_sites w.functions) w.spot.site → AreNumbered (functions_sites (items_after defs w is).functions) (items_after defs w is).spot.site
items_numbered defs w [] h = h
items_numbered defs w (i ∷ is) h = items_numbered defs (item_after defs w i) is (item_numbered defs w i h)

pub all_numbered : (is : List RawItemTree) → AreNumbered (functions_sites (parts_of is).functions) (parts_of is).spot.site
all_numbered is = items_numbered (definitions is) at_start is (record { site = refl; rise = λ h. tt })
