-- Names outside functions, and the place where a function's body begins.
use Rattle.hoist_meaning.proofs.Common.{ℕ, zero, suc, ◌≡◌, ◌+◌, ◌<◌, ◌≤◌, inl, inr, refl, sym, ap, subst, ◌∙◌, Bool, true, false, List, [], ◌∷◌, ◌++◌, length, Option, Some, arith, if◌then◌else◌, codes, bytes_eq, bytes_eq-Decides, all_calls, name_of, ModelledCall, NameTree, RawItemTree, RawGlobal, RawGlobalArray, RawTableItem, RawPrototypeItem, RawFunctionItem, capped, Meaning, Found, Binding, find, is_fixed, bound, function_of, callee_in, callee_of, Spot, next_variable, with_variable, modelled, with_calls, modelled_names, is_defined, with_function, params_after, params_spot, body_spot, DeepSofar, is_spawn_by, IsSourceName, AreNamed, IsItemNamed}
use Rattle.deep_mean.specs.Naming as deep
use Rattle.hoist_meaning.proofs.Bindings.{Agreement, Outside, in_text, IsOutside, AreOutside, AreBelow, Paired}
use Rattle.hoist_meaning.proofs.Declarations.{declared_or, with_declared, BothStand, declaration_stands}
use Rattle.hoist_meaning.proofs.Premises.{KnowsSpawnAlone}
use Rattle.hoist_meaning.proofs.Fits.{PlaceFits}
use Rattle.hoist_meaning.proofs.Rising.{bound_other, bound_alone}
use Rattle.hoist_meaning.proofs.Starts.{ones}

-- the names in scope outside functions
pub record OuterNames (ds : List Binding) : Type 0 where
  pub outside : AreOutside ds
  pub knows : KnowsSpawnAlone ds

-- where a body begins in the text and in the tree
pub record BodyStarts (s t : Spot) (params : ℕ) : Type 0 where
  pub first : Agreement
  pub place : PlaceFits first s t
  pub pairs : (x y : ℕ) → Paired first x y → (x ≡ y) × (x < params)
  pub text_ones : s.sizes ≡ ones params
  pub tree_ones : t.sizes ≡ ones params

-- ---- the modelled calls

abbrev NoneSpawn : List Binding → Type 0
NoneSpawn [] = Unit {0}
NoneSpawn (b ∷ bs) = (is_spawn_by (callee_in b.meaning) ≡ false) × NoneSpawn bs

if_other : (b : Bool) (f : Found) (o : Option Found) → is_spawn_by (callee_in f.meaning) ≡ false → is_spawn_by (callee_of o) ≡ false → is_spawn_by (callee_of (if b then Some f else o)) ≡ false
if_other true f o h g = h
if_other false f o h g = g

none_spawn : (t : List ℕ) (bs : List Binding) → NoneSpawn bs → is_spawn_by (callee_of (find t bs)) ≡ false
none_spawn t [] h = refl
none_spawn t (b ∷ bs) h = if_other (bytes_eq b.text t) (record { position = length bs; meaning = b.meaning }) (find t bs) h.0 (none_spawn t bs h.1)

-- whether two texts are the same, either way round
both_ways : (b c : Bool) (t u : List ℕ) → bytes_eq t u ≡ b → bytes_eq u t ≡ c → b ≡ c
both_ways true false t u e f = absurd (let wrong : false ≡ true = sym f ∙ (bytes_eq-Decides u t).1 (sym ((bytes_eq-Decides t u).0 e)) in cc)
both_ways false true t u e f = absurd (let wrong : false ≡ true = sym e ∙ (bytes_eq-Decides t u).1 (sym ((bytes_eq-Decides u t).0 f)) in cc)
both_ways _ _ t u e f = refl

first_spawn : (b : Bool) (t : List ℕ) (f : Found) (o : Option Found) → bytes_eq (codes "spawn") t ≡ b → is_spawn_by (callee_in f.meaning) ≡ true → is_spawn_by (callee_of o) ≡ false → is_spawn_by (callee_of (if b then Some f else o)) ≡ bytes_eq t (codes "spawn")
first_spawn true t f o e h g = h ∙ both_ways true (bytes_eq t (codes "spawn")) (codes "spawn") t e refl
first_spawn false t f o e h g = g ∙ both_ways false (bytes_eq t (codes "spawn")) (codes "spawn") t e refl

abbrev others : List Binding
others = with_calls [] all_calls

none_calls : (names : List Binding) (calls : List ModelledCall) → NoneSpawn names → NoneSpawn (with_calls names calls)
none_calls names [] h = h
none_calls names (call ∷ calls) h = none_calls (modelled call ∷ names) calls (refl, h)

call_named : (call : ModelledCall) → IsSourceName (name_of call)
call_named ModelledCall.Accept = inr (omega arith)
call_named _ = inr (omega arith)

outside_calls : (names : List Binding) (calls : List ModelledCall) → AreOutside names → AreOutside (with_calls names calls)
outside_calls names [] h = h
outside_calls names (call ∷ calls) h = outside_calls (modelled call ∷ names) calls (tt, call_named call, h)

outside_names : AreOutside modelled_names
outside_names = (tt, inr (omega arith), outside_calls [] all_calls tt)

pub start_outer : OuterNames modelled_names
start_outer = record {
  outside = outside_names;
  knows = λ t. first_spawn (bytes_eq (codes "spawn") t) t (record { position = length others; meaning = Meaning.Spawn }) (find t others) refl refl (none_spawn t others (none_calls [] all_calls tt));
}

-- ---- what items declare

outside_if : (v : Bool) (ds : List Binding) (t : List ℕ) (m : Meaning) → AreOutside ds → IsOutside m → IsSourceName t → AreOutside (if v then ds else record { text = t; meaning = m } ∷ ds)
outside_if true ds t m h o s = h
outside_if false ds t m h o s = (o, s, h)

bound_outer : (ds : List Binding) (t : List ℕ) (m : Meaning) → OuterNames ds → IsOutside m → is_spawn_by (callee_in m) ≡ false → IsSourceName t → OuterNames (bound ds t m)
bound_outer ds t m h o other s = record { outside = outside_if (is_fixed (find t ds)) ds t m h.outside o s; knows = bound_other ds t m other h.knows }

pub item_outer : (defs : List Binding) (w : DeepSofar) (i : RawItemTree) → IsItemNamed i → OuterNames w.spot.names → OuterNames (deep.item_after defs w i).spot.names
item_outer defs w (RawGlobal n start) named h = bound_outer w.spot.names n.text (Meaning.Global (capped (length w.globals)) false) h tt refl named
item_outer defs w (RawGlobalArray n size) named h = bound_outer w.spot.names n.text (Meaning.Global (capped (length w.globals)) true) h tt refl named
item_outer defs w (RawTableItem n size members) named h = bound_outer w.spot.names n.text (Meaning.Table (capped (length w.tables))) h tt refl named.0
item_outer defs w (RawPrototypeItem gives n params) named h = bound_outer w.spot.names n.text (Meaning.Function (function_of (find n.text defs)) gives (length params) (is_defined (find n.text w.spot.names))) h tt refl named.0
item_outer defs w (RawFunctionItem gives n params body) named h = bound_outer w.spot.names n.text (Meaning.Function (function_of (find n.text defs)) gives (length params) true) h tt refl named.0

-- ---- parameters

ones_next : (j : ℕ) → ones j ++ 1 ∷ [] ≡ ones (j + 1)
ones_next j = let next : suc j ≡ j + 1 = omega arith in ones_suc j ∙ ap ones next
  where
    ones_suc : (i : ℕ) → ones i ++ 1 ∷ [] ≡ ones (suc i)
    ones_suc zero = refl
    ones_suc (suc i) = ap (λ xs. 1 ∷ xs) (ones_suc i)

declared_pairs : (v : Bool) (t : List ℕ) (j : ℕ) (a : Agreement) → ((x y : ℕ) → Paired a x y → (x ≡ y) × (x < j)) → (x y : ℕ) → Paired (declared_or v t j j false a) x y → (x ≡ y) × (x < j + 1)
declared_pairs true t j a h x y p = let q = h x y p in (q.0, omega (arith, q.1))
declared_pairs false t j a h x y (inl p) = (p.0 ∙ sym p.1, omega (arith, p.0))
declared_pairs false t j a h x y (inr p) = let q = h x y p in (q.0, omega (arith, q.1))

params_start : (ns : List NameTree) (a : Agreement) (j : ℕ) (s t : Spot) → AreNamed ns → BothStand a j j s t → ((x y : ℕ) → Paired a x y → (x ≡ y) × (x < j)) → s.sizes ≡ ones j → t.sizes ≡ ones j → KnowsSpawnAlone s.names → j + length ns ≤ 65535 →
    BodyStarts (params_after s ns) (params_after t ns) (j + length ns)
params_start [] a j s t named h pairs text_ones tree_ones knows few =
    subst (λ k. BodyStarts s t k) (omega arith) (record {
      first = a;
      place = record {
        stand = record {
          text = record { names = h.text.names; count = refl };
          tree = record { agrees = h.tree.agrees; names = h.tree.names; count = refl };
          below = subst (λ i. AreBelow i (length t.sizes) a) (sym h.text.count) (subst (λ i. AreBelow j i a) (sym h.tree.count) h.below);
        };
        knows = knows;
      };
      pairs = pairs;
      text_ones = text_ones;
      tree_ones = tree_ones;
    })
params_start (n ∷ ns) a j s t named h pairs text_ones tree_ones knows few =
    let rest = params_start ns (with_declared n.text j j false a) (j + 1) (with_variable s n false 1) (with_variable t n false 1) named.1 (declaration_stands a j j n false 1 s t named.0 (omega (arith, few)) (omega (arith, few)) h)
    (declared_pairs (is_fixed (find n.text (in_text a))) n.text j a pairs) (ap (λ xs. xs ++ 1 ∷ []) text_ones ∙ ones_next j) (ap (λ xs. xs ++ 1 ∷ []) tree_ones ∙ ones_next j) (bound_alone s.names n.text (next_variable s) false knows) (omega (arith, few)) in
    subst (λ k. BodyStarts (params_after s (n ∷ ns)) (params_after t (n ∷ ns)) k) (omega arith) rest

pub body_starts : (one other : List Binding) (s t : Spot) (gives : Bool) (n : NameTree) (params : List NameTree) → one ≡ other → s.names ≡ t.names → IsSourceName n.text → AreNamed params → length params ≤ 65535 → OuterNames s.names
    → BodyStarts (body_spot one s gives n params) (body_spot other t gives n params) (length params)
body_starts one other s t gives n params same names named all few h =
    let m = Meaning.Function (function_of (find n.text one)) gives (length params) true in
    let bs = bound s.names n.text m in
    let outer = bound_outer s.names n.text m h tt refl named in
    let u = params_spot one s gives n params in
    let v = params_spot other t gives n params in
    let trees : v.names ≡ bs = sym (λ i. with_function (same i) (names i) gives n (length params) true) in
    let start : BothStand (Outside bs) 0 0 u v = record { text = record { names = refl; count = refl }; tree = record { agrees = outer.outside; names = trees; count = refl }; below = tt } in
    subst (λ k. BodyStarts (body_spot one s gives n params) (body_spot other t gives n params) k) (omega arith)
    (params_start params (Outside bs) 0 u v all start (λ x y p. absurd p) refl refl outer.knows (omega (arith, few)))
