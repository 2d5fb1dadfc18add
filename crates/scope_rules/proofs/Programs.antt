-- A source that breaks no rule and exceeds no limit is a well-scoped program.
use Rattle.scope_rules.proofs.Common.{ℕ, zero, suc, ◌≡◌, ◌≤◌, ◌+◌, refl, sym, ap, subst, ◌∙◌, Bool, true, false, List, [], ◌∷◌, ◌++◌, length, length-append, append_assoc, map, sum, arith, max, if◌then◌else◌, length-map, append-nil, NameTree, RawStmtTrees, raw_stmts_temporaries, ProgramTree, Declared, stmts_names, counting, scalars, below, capped, stmts_temporaries, signature_of, Context, context_of, IsFunctionScoped, Meaning, Binding, Spot, next_variable, with_variable, stmts_after, stmts_faults, stmts_of, params_after, params_spot, body_spot, function_tree_of}
use Rattle.scope_rules.proofs.Fits.{MeaningFits, AllFit}
use Rattle.scope_rules.proofs.Growth.{Grown, words, variables, stmts_grown}
use Rattle.scope_rules.proofs.Fewer.{AreSix, bound_six, stmts_fewer}
use Rattle.scope_rules.proofs.ScopedSimples.{IsPrefix, prefix_back, variable_fits}
use Rattle.scope_rules.proofs.ScopedStmts.{stmts_scoped}

-- names outside functions fit in every function
rebased_in : (c d : Context) (scope : List ℕ) (m : Meaning) → c.sizes ≡ [] → d.signatures ≡ c.signatures → d.globals ≡ c.globals → d.tables ≡ c.tables → MeaningFits c [] m → MeaningFits d scope m
rebased_in c d scope (Meaning.Local x array) z s g t h = let e = ap length z in absurd (omega (arith, h.0))
rebased_in c d scope (Meaning.Global x array) z s g t h = rw g h
rebased_in c d scope (Meaning.Table x) z s g t h = rw t h
rebased_in c d scope (Meaning.Function f gives params defined) z s g t h = rw s h
rebased_in c d scope _ z s g t h = tt

pub rebased : (c d : Context) (scope : List ℕ) (names : List Binding) → c.sizes ≡ [] → d.signatures ≡ c.signatures → d.globals ≡ c.globals → d.tables ≡ c.tables → AllFit c [] names → AllFit d scope names
rebased c d scope [] z s g t h = tt
rebased c d scope (b ∷ bs) z s g t h = (rebased_in c d scope b.meaning z s g t h.0, rebased c d scope bs z s g t h.1)

-- parameters
pub params_sizes : (s : Spot) (ns : List NameTree) → (params_after s ns).sizes ≡ s.sizes ++ scalars (length ns)
params_sizes s [] = sym (append-nil s.sizes)
params_sizes s (n ∷ ns) = params_sizes (with_variable s n false 1) ns ∙ append_assoc s.sizes (1 ∷ []) (scalars (length ns))

pub scalars_length : (n : ℕ) → length (scalars n) ≡ n
scalars_length zero = refl
scalars_length (suc n) = ap suc (scalars_length n)

pub params_six : (s : Spot) (ns : List NameTree) → AreSix s.names → AreSix (params_after s ns).names
params_six s [] h = h
params_six s (n ∷ ns) h = params_six (with_variable s n false 1) ns (bound_six s.names n.text _ tt h)

params_fit : (c : Context) (small : length c.sizes ≤ 65536) (s : Spot) (ns : List NameTree) → AllFit c (below (length s.sizes)) s.names → IsPrefix (params_after s ns).sizes c.sizes
    → AllFit c (below (length (params_after s ns).sizes)) (params_after s ns).names
params_fit c small s [] h p = h
params_fit c small s (n ∷ ns) h p =
    let t = with_variable s n false 1 in
    let q : IsPrefix t.sizes c.sizes = prefix_back t.sizes (params_after t ns).sizes c.sizes (scalars (length ns)) (params_sizes t ns) p in
    let l : length t.sizes ≡ suc (length s.sizes) = length-append s.sizes (1 ∷ []) ∙ omega arith in
    let lc : length c.sizes ≡ length t.sizes + length q.0 = ap length q.1 ∙ length-append t.sizes q.0 in
    let e : next_variable s ≡ length s.sizes = omega arith in
    let f : AllFit c (next_variable s ∷ below (length s.sizes)) t.names = variable_fits c small (below (length s.sizes)) s n false 1 (λ r. refl) h q in
    let g : AllFit c (below (length t.sizes)) t.names = subst (λ x. AllFit c (below x) t.names) (sym l) (subst (λ x. AllFit c (x ∷ below (length s.sizes)) t.names) e f) in
    params_fit c small t ns g p

pub params_site : (s : Spot) (ns : List NameTree) → (params_after s ns).site ≡ s.site
params_site s [] = refl
params_site s (n ∷ ns) = params_site (with_variable s n false 1) ns

pub body_site : (defs : List Binding) (s : Spot) (gives : Bool) (n : NameTree) (params : List NameTree) → (body_spot defs s gives n params).site ≡ s.site
body_site defs s gives n params = params_site (params_spot defs s gives n params) params

-- what a function may name that stands outside it
abbrev pub outer_context : ProgramTree → Context
outer_context p = record { signatures = map signature_of p.functions; globals = map (λ g. g.words) p.globals; tables = length p.tables; sizes = []; gives = false }

-- a function's facts, and that it is well scoped
module _ (p : ProgramTree) (defs : List Binding) (s : Spot) (gives : Bool) (n : NameTree) (params : List NameTree) (body : RawStmtTrees)
    (few : length params ≤ 6)
    (positive : length (stmts_names (stmts_of (body_spot defs s gives n params) body)) ≤ sum (words (stmts_names (stmts_of (body_spot defs s gives n params) body))))
    (locals : sum (words (stmts_names (stmts_of (body_spot defs s gives n params) body))) ≤ 4096) where
  start_sizes : (body_spot defs s gives n params).sizes ≡ scalars (length params)
  start_sizes = params_sizes (params_spot defs s gives n params) params

  start_length : length (body_spot defs s gives n params).sizes ≡ length params
  start_length = ap length start_sizes ∙ scalars_length (length params)

  end_length : length (stmts_after (body_spot defs s gives n params) body).sizes ≤ 65536
  end_length =
      let b = body_spot defs s gives n params in
      let ds = stmts_names (stmts_of b body) in
      let e : length (stmts_after b body).sizes ≡ length b.sizes + length (words ds) = ap length (stmts_grown b body).sizes ∙ length-append b.sizes (words ds) in
      let l : length (words ds) ≡ length ds = length-map ds (λ (d : Declared). d.words) in
      let z = start_length in
      omega arith

  exact : capped (length params) ≡ length params
  exact = omega arith

  pub function_scoped : AllFit (outer_context p) [] (params_spot defs s gives n params).names → AreSix (params_spot defs s gives n params).names
      → stmts_faults gives false (body_spot defs s gives n params) body ≡ [] → raw_stmts_temporaries body ≤ 65536
      → IsFunctionScoped p (function_tree_of (body_spot defs s gives n params) gives n params body)
  function_scoped fit six none held =
      let a = params_spot defs s gives n params in
      let b = body_spot defs s gives n params in
      let f = function_tree_of b gives n params body in
      let c = context_of p f in
      let g : Grown b (stmts_names (stmts_of b body)) _ (stmts_after b body) = stmts_grown b body in
      let ds = stmts_names (stmts_of b body) in
      let fit1 : AllFit c (below (length a.sizes)) a.names = rebased (outer_context p) c [] a.names refl refl refl refl fit in
      let fit2 : AllFit c (below (length b.sizes)) b.names = params_fit c end_length a params fit1 (words ds, g.sizes) in
      let l : length b.sizes ≡ capped (length params) = start_length ∙ sym exact in
      let fit3 : AllFit c (below (capped (length params))) b.names = subst (λ x. AllFit c (below x) b.names) l fit2 in
      let t : stmts_temporaries (stmts_of b body) ≤ raw_stmts_temporaries body = stmts_fewer gives false b body (params_six a params six) none in
      record {
        params = (omega (arith, few));
        sizes = g.sizes ∙ (ap (λ x. x ++ words ds) start_sizes ∙ ap (λ x. scalars x ++ words ds) (sym exact));
        order = subst (λ x. counting x (variables ds)) l (g.variables_rise end_length);
        words = locals;
        temporaries = one_at_least gives (stmts_temporaries (stmts_of b body)) (omega arith);
        body = stmts_scoped c end_length false (below (capped (length params))) b body fit3 none ([], sym (append-nil (stmts_after b body).sizes));
      }
    where
      one_at_least : (v : Bool) (k : ℕ) → k ≤ 65536 → max (if v then 1 else 0) k ≤ 65536
      one_at_least true k h = omega arith
      one_at_least false k h = omega arith
