-- The order of the call graph's walk, and what it says of the code.
use Rattle.call_cycles.proofs.Common.{◌≡◌, inl, inr, ⊎_elim, ◌⊎◌, ℕ, zero, suc, ◌+◌, ◌<◌, true, false, List, [], ◌∷◌, ◌++◌, length, take, reverse, get_or, refl, sym, ap, ◌∙◌, subst, arith, Option, Some, None, slice_get, slice_index_or, AllByRecursion, filter_map, cons_option, cases_lt, get_or_past, take_all, none-some, same_Some, Op, FlatCode, function_at, operation_at, GraphSite, Function, Table, CallGraphState, has, IsAmong, Call, IsCallBy, IsPath, BreaksEveryCycle, CallsOnly, IsBottomUp, all-has, has-cases, true_false, has-reverse, functions_called, Calls, IsWay, IsOnCycle, IsGraph, StandsBefore, IsFromBottom}
use Rattle.std.specs.List.Sorted.{IsPermutation}
use Rattle.std.proofs.lemmas.List.Elements.{All-from_recursion, recursion_from_All}
use Rattle.std.proofs.lemmas.List.Sorted.{All-permutation, IsPermutation-sym}
use Rattle.flat_code.specs.declared.functions.FlatFunction.{FlatFunction}
use Rattle.call_graph.specs.Callees.{callees}
use Rattle.call_graph.specs.FlatCalls.{call_site, call_sites_from}
use Rattle.call_graph.specs.Index.{sites_of}
use Rattle.cycle_break.proofs.SiteLemmas.{all-among, among-all, own-among}
use Rattle.cycle_break.proofs.BottomUpOrders.{next-calls}

-- ---- the sites of operations

among-left : (xs ys : List GraphSite) (s : GraphSite) → IsAmong xs s → IsAmong (xs ++ ys) s
among-left [] ys s h = absurd h
among-left (x ∷ xs) ys s h = elim h [ inl e ↦ inl e | inr rest ↦ inr (among-left xs ys s rest) ]

among-right : (xs ys : List GraphSite) (s : GraphSite) → IsAmong ys s → IsAmong (xs ++ ys) s
among-right [] ys s h = h
among-right (x ∷ xs) ys s h = inr (among-right xs ys s h)

among-either : (xs ys : List GraphSite) (s : GraphSite) → IsAmong (xs ++ ys) s → IsAmong xs s ⊎ IsAmong ys s
among-either [] ys s h = inr h
among-either (x ∷ xs) ys s h = elim h [
  | inl e ↦ inl (inl e)
  | inr rest ↦ ⊎_elim (λ a. inl (inr a)) (λ b. inr b) (among-either xs ys s rest)
]

-- an operation of some functions that has a site
record IsFound (base : ℕ) (fs : List FlatFunction) (s : GraphSite) : Type 0 where
  f : ℕ
  k : ℕ
  op : Op
  there : slice_get (slice_index_or fs f (record { params = 0; gives = false; sizes = []; ops = [] })).ops k ≡ Some op
  site : call_site (base + f) op ≡ Some s

record IsFoundIn (f : ℕ) (ops : List Op) (s : GraphSite) : Type 0 where
  k : ℕ
  op : Op
  there : slice_get ops k ≡ Some op
  site : call_site f op ≡ Some s

found-or-later : (f : ℕ) (op : Op) (ops : List Op) (s : GraphSite) (o : Option GraphSite) → call_site f op ≡ o → IsAmong (cons_option o (filter_map (call_site f) ops)) s →
    (IsAmong (filter_map (call_site f) ops) s → IsFoundIn f ops s) → IsFoundIn f (op ∷ ops) s
found-or-later f op ops s None is h rest = let r = rest h in record { k = suc r.k; op = r.op; there = r.there; site = r.site }
found-or-later f op ops s (Some t) is h rest = elim h [
  | inl e ↦ record { k = zero; op = op; there = refl; site = is ∙ ap Some e }
  | inr later ↦ let r = rest later in record { k = suc r.k; op = r.op; there = r.there; site = r.site }
]

found-in : (f : ℕ) (ops : List Op) (s : GraphSite) → IsAmong (filter_map (call_site f) ops) s → IsFoundIn f ops s
found-in f [] s h = absurd h
found-in f (op ∷ ops) s h = found-or-later f op ops s (call_site f op) refl h (λ later. found-in f ops s later)

found : (base : ℕ) (fs : List FlatFunction) (s : GraphSite) → IsAmong (call_sites_from base fs) s → IsFound base fs s
found base [] s h = absurd h
found base (g ∷ gs) s h =
    ⊎_elim
    (λ here. let r = found-in base g.ops s here in
    let same : base ≡ base + 0 = omega arith in
    record { f = zero; k = r.k; op = r.op; there = r.there; site = ap (λ n. call_site n r.op) (sym same) ∙ r.site })
    (λ later. let r = found (base + 1) gs s later in
    let same : base + 1 + r.f ≡ base + suc r.f = omega arith in
    record { f = suc r.f; k = r.k; op = r.op; there = r.there; site = ap (λ n. call_site n r.op) (sym same) ∙ r.site })
    (among-either (filter_map (call_site base) g.ops) (call_sites_from (base + 1) gs) s h)

among-cons : (o : Option GraphSite) (xs : List GraphSite) (s : GraphSite) → IsAmong xs s → IsAmong (cons_option o xs) s
among-cons None xs s h = h
among-cons (Some x) xs s h = inr h

among-in : (f : ℕ) (ops : List Op) (k : ℕ) (op : Op) (s : GraphSite) → slice_get ops k ≡ Some op → call_site f op ≡ Some s → IsAmong (filter_map (call_site f) ops) s
among-in f [] k op s there site = absurd (none-some op there)
among-in f (o ∷ ops) zero op s there site =
    let first : call_site f o ≡ Some s = ap (call_site f) (same_Some o op there) ∙ site in
    subst (λ c. IsAmong (cons_option c (filter_map (call_site f) ops)) s) (sym first) (inl refl)
among-in f (o ∷ ops) (suc k) op s there site = among-cons (call_site f o) (filter_map (call_site f) ops) s (among-in f ops k op s there site)

among-sites : (base : ℕ) (fs : List FlatFunction) (f k : ℕ) (op : Op) (s : GraphSite) →
    slice_get (slice_index_or fs f (record { params = 0; gives = false; sizes = []; ops = [] })).ops k ≡ Some op → call_site (base + f) op ≡ Some s → IsAmong (call_sites_from base fs) s
among-sites base [] f k op s there site = absurd (none-some op there)
among-sites base (g ∷ gs) zero k op s there site =
    let same : base + 0 ≡ base = omega arith in
    among-left (filter_map (call_site base) g.ops) (call_sites_from (base + 1) gs) s (among-in base g.ops k op s there (ap (λ n. call_site n op) (sym same) ∙ site))
among-sites base (g ∷ gs) (suc f) k op s there site =
    let same : base + 1 + f ≡ base + suc f = omega arith in
    among-right (filter_map (call_site base) g.ops) (call_sites_from (base + 1) gs) s (among-sites (base + 1) gs f k op s there (ap (λ n. call_site n op) same ∙ site))

permuted : (xs ys : List GraphSite) (s : GraphSite) → IsPermutation xs ys → IsAmong xs s → IsAmong ys s
permuted xs ys s permutation h =
    among-all (IsAmong ys) xs s
    (recursion_from_All (IsAmong ys) xs (All-permutation (IsAmong ys) ys xs (IsPermutation-sym xs ys permutation) (All-from_recursion (IsAmong ys) ys (all-among ys)))) h

-- an operation that calls some function has a site
record HasSite (code : FlatCode) (f : ℕ) (op : Op) : Type 0 where
  s : GraphSite
  is : call_site f op ≡ Some s

no-call : (code : FlatCode) (f g : ℕ) (op : Op) → has g [] ≡ true → HasSite code f op
no-call code f g op h = absurd (true_false false h refl)

has-site : (code : FlatCode) (f g : ℕ) (op : Op) → has g (functions_called code op) ≡ true → HasSite code f op
has-site code f g (Op.Call site d h args) called = record { s = record { number = site; caller = f; target = Function h }; is = refl }
has-site code f g (Op.CallTable site d t i x) called = record { s = record { number = site; caller = f; target = Table t }; is = refl }
has-site code f g (Op.Spawn site d h x) called = no-call code f g (Op.Spawn site d h x) called
has-site code f g (Op.Model site d n args) called = no-call code f g (Op.Model site d n args) called
has-site code f g (Op.Const d value) called = no-call code f g (Op.Const d value) called
has-site code f g (Op.Copy d x) called = no-call code f g (Op.Copy d x) called
has-site code f g (Op.Neg d x) called = no-call code f g (Op.Neg d x) called
has-site code f g (Op.Not d x) called = no-call code f g (Op.Not d x) called
has-site code f g (Op.Flip d x) called = no-call code f g (Op.Flip d x) called
has-site code f g (Op.Bin op d a b) called = no-call code f g (Op.Bin op d a b) called
has-site code f g (Op.Zero a) called = no-call code f g (Op.Zero a) called
has-site code f g (Op.LoadGlobal d x) called = no-call code f g (Op.LoadGlobal d x) called
has-site code f g (Op.StoreGlobal x s) called = no-call code f g (Op.StoreGlobal x s) called
has-site code f g (Op.LoadLocal d a i) called = no-call code f g (Op.LoadLocal d a i) called
has-site code f g (Op.LoadArray d a i) called = no-call code f g (Op.LoadArray d a i) called
has-site code f g (Op.StoreLocal a i x) called = no-call code f g (Op.StoreLocal a i x) called
has-site code f g (Op.StoreArray a i x) called = no-call code f g (Op.StoreArray a i x) called
has-site code f g (Op.Jump to) called = no-call code f g (Op.Jump to) called
has-site code f g (Op.JumpZero x to) called = no-call code f g (Op.JumpZero x to) called
has-site code f g (Op.Return x) called = no-call code f g (Op.Return x) called

-- what a site tells of its operation
record IsSiteOf (code : FlatCode) (f : ℕ) (op : Op) (s : GraphSite) : Type 0 where
  caller : s.caller ≡ f
  called : callees code.tables s.target ≡ functions_called code op

is-site : (code : FlatCode) (f : ℕ) (op : Op) (a s : GraphSite) → a.caller ≡ f → callees code.tables a.target ≡ functions_called code op → Some a ≡ Some s → IsSiteOf code f op s
is-site code f op a s caller called e =
    let same = same_Some a s e in
    record { caller = subst (λ (x : GraphSite). x.caller ≡ f) same caller; called = subst (λ (x : GraphSite). callees code.tables x.target ≡ functions_called code op) same called }

site-tells : (code : FlatCode) (f : ℕ) (op : Op) (s : GraphSite) → call_site f op ≡ Some s → IsSiteOf code f op s
site-tells code f (Op.Call site d h args) s e = is-site code f (Op.Call site d h args) (record { number = site; caller = f; target = Function h }) s refl refl e
site-tells code f (Op.CallTable site d t i x) s e = is-site code f (Op.CallTable site d t i x) (record { number = site; caller = f; target = Table t }) s refl refl e
site-tells code f _ s e = absurd (none-some s e)

-- ---- calls and ways, in the code and in the graph

module _ (code : FlatCode) (graph : CallGraphState) (is : IsGraph code graph) where
  record IsCalled (f g : ℕ) : Type 0 where
    call : Call
    by : IsCallBy graph [] f call
    callee : call.callee ≡ g

  called : (f g : ℕ) → Calls code f g → IsCalled f g
  called f g c =
      let at = has-site code f g c.op c.called in
      let tells = site-tells code f c.op at.s at.is in
      let zero_more : 0 + f ≡ f = omega arith in
      let site : call_site (0 + f) c.op ≡ Some at.s = ap (λ n. call_site n c.op) zero_more ∙ at.is in
      let same : callees graph.tables at.s.target ≡ functions_called code c.op = ap (λ tables. callees tables at.s.target) is.tables ∙ tells.called in
      record {
        call = record { site = at.s; callee = g };
        by = record {
          site = permuted (call_sites_from 0 code.functions) graph.sites at.s is.sites (among-sites 0 code.functions f c.k c.op at.s c.there site);
          caller = tells.caller;
          kept = refl;
          callee = subst (λ (gs : List ℕ). has g gs ≡ true) (sym same) c.called;
        };
        callee = refl;
      }

  calls : (f : ℕ) (call : Call) → IsCallBy graph [] f call → Calls code f call.callee
  calls f call by =
      let at = found 0 code.functions call.site (permuted graph.sites (call_sites_from 0 code.functions) call.site (IsPermutation-sym (call_sites_from 0 code.functions) graph.sites is.sites) by.site) in
      let tells = site-tells code (0 + at.f) at.op call.site at.site in
      let zero_more : 0 + at.f ≡ at.f = omega arith in
      let caller : at.f ≡ f = sym zero_more ∙ (sym tells.caller ∙ by.caller) in
      let same : callees graph.tables call.site.target ≡ functions_called code at.op = ap (λ tables. callees tables call.site.target) is.tables ∙ tells.called in
      record {
        k = at.k;
        op = at.op;
        there = subst (λ (n : ℕ). operation_at code n at.k ≡ Some at.op) caller at.there;
        called = subst (λ (gs : List ℕ). has call.callee gs ≡ true) same by.callee;
      }

  record IsLed (f g : ℕ) : Type 0 where
    path : List Call
    leads : IsPath graph [] f path g

  led : (f g : ℕ) (way : List ℕ) → IsWay code f way g → IsLed f g
  led f g [] e = record { path = []; leads = e }
  led f g (next ∷ way) w =
      let one = called f next w.0 in
      let rest = led next g way w.1 in
      record { path = one.call ∷ rest.path; leads = (one.by, subst (λ (n : ℕ). IsPath graph [] n rest.path g) (sym one.callee) rest.leads) }

  -- without cycles in the graph there are none in the code
  pub acyclic : BreaksEveryCycle graph [] → (f : ℕ) → IsOnCycle code f → ⊥
  acyclic breaks f cycle =
      let one = called f cycle.first cycle.call in
      let rest = led cycle.first f cycle.rest cycle.way in
      breaks f one.call rest.path (one.by, subst (λ (n : ℕ). IsPath graph [] n rest.path f) (sym one.callee) rest.leads)

  pub acyclic-where : (back : List ℕ) → length back ≡ 0 → BreaksEveryCycle graph back → (f : ℕ) → IsOnCycle code f → ⊥
  acyclic-where [] none breaks f cycle = acyclic breaks f cycle
  acyclic-where (x ∷ back) none breaks f cycle = absurd (omega arith)

  record IsGone (f g : ℕ) : Type 0 where
    way : List ℕ
    leads : IsWay code f way g

  gone : (f g : ℕ) (path : List Call) → IsPath graph [] f path g → IsGone f g
  gone f g [] e = record { way = []; leads = e }
  gone f g (call ∷ path) p =
      let rest = gone call.callee g path p.1 in
      record { way = call.callee ∷ rest.way; leads = (calls f call p.0, rest.leads) }

  -- without cycles in the code there are none in the graph
  pub breaks : ((f : ℕ) → IsOnCycle code f → ⊥) → BreaksEveryCycle graph []
  breaks none f call path p =
      let rest = gone call.callee f path p.1 in
      none f (record { first = call.callee; call = calls f call p.0; rest = rest.way; way = rest.leads })

  -- ---- the order

  stands-take : (order : List ℕ) (i g : ℕ) → has g (take i order) ≡ true → StandsBefore order i g
  stands-take [] zero g h = true_false false h refl
  stands-take [] (suc i) g h = true_false false h refl
  stands-take (f ∷ order) zero g h = true_false false h refl
  stands-take (f ∷ order) (suc i) g h =
      has-cases g f (take i order) h
      (λ e. record { place = 0; before = omega arith; is = e })
      (λ later. let r = stands-take order i g later in record { place = suc r.place; before = (let lt = r.before in omega (arith, lt)); is = r.is })

  pub stands-all : (order : List ℕ) (g : ℕ) → has g (reverse order) ≡ true → StandsBefore order (length order) g
  stands-all order g h =
      stands-take order (length order) g (ap (has g) (take_all (length order) order (omega arith)) ∙ (sym (has-reverse g order) ∙ h))

  pub from-bottom : (order : List ℕ) → IsBottomUp graph [] (reverse order) → IsFromBottom code order
  from-bottom order up i g within c =
      let one = called (get_or order i 0) g c in
      let own = own-among graph.sites [] one.call.site one.by.site one.by.kept in
      let mine = subst (λ (n : ℕ). IsAmong (sites_of graph.sites [] n) one.call.site) one.by.caller own in
      let only : CallsOnly graph [] (reverse (take i order)) (get_or order i 0) = next-calls graph [] order i within up in
      let all = among-all (λ site. AllByRecursion (λ callee. has callee (reverse (take i order)) ≡ true) (callees graph.tables site.target)) (sites_of graph.sites [] (get_or order i 0)) one.call.site only mine in
      let there = all-has (λ callee. has callee (reverse (take i order)) ≡ true) (callees graph.tables one.call.site.target) one.call.callee all one.by.callee in
      stands-take order i g (sym (has-reverse g (take i order)) ∙ subst (λ (n : ℕ). has n (reverse (take i order)) ≡ true) one.callee there)

-- a function on a cycle is there
pub cycle-within : (code : FlatCode) (f : ℕ) → IsOnCycle code f → f < length code.functions
cycle-within code f cycle = ⊎_elim
    (λ below. below)
    (λ past.
    let none : function_at code f ≡ record { params = 0; gives = false; sizes = []; ops = [] } = get_or_past code.functions f _ past in
    let nothing : None ≡ Some cycle.call.op = sym (ap (λ h. slice_get h.ops cycle.call.k) none) ∙ cycle.call.there in
    absurd (none-some cycle.call.op nothing))
    (cases_lt f (length code.functions))
