-- A declaration of the text keeps the agreement of both: the name is in scope in both after it, under the next number of each, or, where
-- it can't be declared, in neither.
use Rattle.hoist_meaning.proofs.Common.{ℕ, ◌+◌, ◌≤◌, ◌≡◌, refl, sym, ap, subst, ◌∙◌, Bool, true, false, List, [], ◌∷◌, ◌++◌, length, length-append, Option, Some, None, arith, NameTree, RawSimpleTree, RawDeclareScalar, RawDeclareArray, RawDeclareWith, Meaning, Found, find, is_fixed, bound, is_modelled, Spot, with_variable, simple_after, simple_left, IsSourceName, IsSimpleNamed}
use Rattle.deep_mean.specs.Naming as deep
use Rattle.hoist_meaning.proofs.Bindings.{Agreement, Outside, Both, New, in_text, in_tree, IsAgreement, AreBelow, LocalAlike, MeaningAlike, FoundAlike, found_alike}
use Rattle.hoist_meaning.proofs.Spots.{StandsAt, below_limit}

-- ---- a name can be declared in both or in neither

fixed_local : (a : Agreement) (x : ℕ) (array : Bool) (n : Meaning) → LocalAlike a x array n → false ≡ is_modelled n
fixed_local a x array (Meaning.Modelled m) h = absurd h
fixed_local a x array Meaning.Spawn h = absurd h
fixed_local a x array _ h = refl

fixed_meaning : (a : Agreement) (m n : Meaning) → MeaningAlike a m n → is_modelled m ≡ is_modelled n
fixed_meaning a (Meaning.Local x array) n h = fixed_local a x array n h
fixed_meaning a _ n h = sym (ap is_modelled h)

fixed_found : (a : Agreement) (o p : Option Found) → FoundAlike a o p → is_fixed o ≡ is_fixed p
fixed_found a None None h = refl
fixed_found a (Some f) (Some g) h = fixed_meaning a f.meaning g.meaning h
fixed_found a _ _ h = absurd h

pub fixed_alike : (a : Agreement) (t : List ℕ) → IsAgreement a → IsSourceName t → is_fixed (find t (in_text a)) ≡ is_fixed (find t (in_tree a))
fixed_alike a t h s = fixed_found a (find t (in_text a)) (find t (in_tree a)) (found_alike a t h s)

-- ---- a declaration

abbrev pub declared_or : Bool → List ℕ → ℕ → ℕ → Bool → Agreement → Agreement
declared_or true t x y array a = a
declared_or false t x y array a = Both t x y array a

-- after the declaration of a name as variable x of the text and y of the tree
abbrev pub with_declared : List ℕ → ℕ → ℕ → Bool → Agreement → Agreement
with_declared t x y array a = declared_or (is_fixed (find t (in_text a))) t x y array a

text_bound : (v : Bool) (a : Agreement) (t : List ℕ) (x y : ℕ) (array : Bool) → is_fixed (find t (in_text a)) ≡ v → bound (in_text a) t (Meaning.Local x array) ≡ in_text (declared_or v t x y array a)
text_bound true a t x y array e = rw e refl
text_bound false a t x y array e = rw e refl

tree_bound : (v : Bool) (a : Agreement) (t : List ℕ) (x y : ℕ) (array : Bool) → is_fixed (find t (in_tree a)) ≡ v → bound (in_tree a) t (Meaning.Local y array) ≡ in_tree (declared_or v t x y array a)
tree_bound true a t x y array e = rw e refl
tree_bound false a t x y array e = rw e refl

agrees_after : (v : Bool) (a : Agreement) (t : List ℕ) (x y : ℕ) (array : Bool) → IsSourceName t → IsAgreement a → IsAgreement (declared_or v t x y array a)
agrees_after true a t x y array s h = h
agrees_after false a t x y array s h = (s, h)

-- numbers rise as well
text_more : (a : Agreement) (n m : ℕ) → AreBelow n m a → AreBelow (n + 1) m a
text_more (Outside bs) n m b = tt
text_more (Both t x y array a) n m b = (omega (arith, b.0), b.1, b.2)
text_more (New k y a) n m b = (b.0, text_more a n y b.1)

both_more : (a : Agreement) (n m : ℕ) → AreBelow n m a → AreBelow (n + 1) (m + 1) a
both_more (Outside bs) n m b = tt
both_more (Both t x y array a) n m b = (omega (arith, b.0), omega (arith, b.1), b.2)
both_more (New k y a) n m b = (omega (arith, b.0), text_more a n y b.1)

below_after : (v : Bool) (a : Agreement) (t : List ℕ) (n m : ℕ) (array : Bool) → AreBelow n m a → AreBelow (n + 1) (m + 1) (declared_or v t n m array a)
below_after true a t n m array b = both_more a n m b
below_after false a t n m array b = (omega arith, omega arith, b)

-- ---- places in both

-- a place of the text with these names in scope, where n variables were declared so far
pub record TextStandsAt (a : Agreement) (n : ℕ) (s : Spot) : Type 0 where
  pub names : s.names ≡ in_text a
  pub count : length s.sizes ≡ n

-- a place of the text, and the one of the tree that stands for it
pub record BothStand (a : Agreement) (n m : ℕ) (s t : Spot) : Type 0 where
  pub text : TextStandsAt a n s
  pub tree : StandsAt a m t
  pub below : AreBelow n m a

one_size : (sizes : List ℕ) (words v : ℕ) → length sizes ≡ v → length (sizes ++ words ∷ []) ≡ v + 1
one_size sizes words v e = let many = length-append sizes (words ∷ []) in omega (arith, many, e)

pub declaration_stands : (a : Agreement) (n m : ℕ) (name : NameTree) (array : Bool) (words : ℕ) (s t : Spot) → IsSourceName name.text → n ≤ 65536 → m ≤ 65536 → BothStand a n m s t →
    BothStand (with_declared name.text n m array a) (n + 1) (m + 1) (with_variable s name array words) (with_variable t name array words)
declaration_stands a n m name array words s t named few fewer h =
    let v = is_fixed (find name.text (in_text a)) in
    let same = fixed_alike a name.text h.tree.agrees named in
    record {
      text = record {
        names = (λ i. bound (h.text.names i) name.text (Meaning.Local (below_limit (length s.sizes) n h.text.count few i) array)) ∙ text_bound v a name.text n m array refl;
        count = one_size s.sizes words n h.text.count;
      };
      tree = record {
        agrees = agrees_after v a name.text n m array named h.tree.agrees;
        names = (λ i. bound (h.tree.names i) name.text (Meaning.Local (below_limit (length t.sizes) m h.tree.count fewer i) array)) ∙ tree_bound v a name.text n m array (sym same);
        count = one_size t.sizes words m h.tree.count;
      };
      below = below_after v a name.text n m array h.below;
    }

-- what a simple statement declares
abbrev pub simple_declares : ℕ → ℕ → RawSimpleTree → Agreement → Agreement
simple_declares n m (RawDeclareScalar x) a = with_declared x.text n m false a
simple_declares n m (RawDeclareArray x size) a = with_declared x.text n m true a
simple_declares n m (RawDeclareWith x v) a = with_declared x.text n m false a
simple_declares n m _ a = a

-- and how many variables
abbrev pub variables_of : RawSimpleTree → ℕ
variables_of (RawDeclareScalar x) = 1
variables_of (RawDeclareArray x size) = 1
variables_of (RawDeclareWith x v) = 1
variables_of _ = 0

-- another number of the next site changes nothing of it
resited : (a : Agreement) (n m j k : ℕ) (s t : Spot) → BothStand a n m s t → BothStand a n m (record s { site = j }) (record t { site = k })
resited a n m j k s t h = record {
  text = record { names = h.text.names; count = h.text.count };
  tree = record { agrees = h.tree.agrees; names = h.tree.names; count = h.tree.count };
  below = h.below;
}

none_more : (a : Agreement) (n m : ℕ) → AreBelow n m a → AreBelow (n + 0) (m + 0) a
none_more a n m b = let e : n ≡ n + 0 = omega arith in let f : m ≡ m + 0 = omega arith in subst (λ i. AreBelow i (m + 0) a) e (subst (λ i. AreBelow n i a) f b)

kept_stand : (a : Agreement) (n m j k : ℕ) (s t : Spot) → BothStand a n m s t → BothStand a (n + 0) (m + 0) (record s { site = j }) (record t { site = k })
kept_stand a n m j k s t h = record {
  text = record { names = h.text.names; count = (let e = h.text.count in omega (arith, e)) };
  tree = record { agrees = h.tree.agrees; names = h.tree.names; count = (let e = h.tree.count in omega (arith, e)) };
  below = none_more a n m h.below;
}

-- after a simple statement of the text, and after what is left of it in the tree
pub simple_stands : (a : Agreement) (n m k : ℕ) (p : RawSimpleTree) (s t : Spot) → IsSimpleNamed p → n ≤ 65536 → m ≤ 65536 → BothStand a n m s t →
    BothStand (simple_declares n m p a) (n + variables_of p) (m + variables_of p) (deep.simple_after s p) (simple_after t (simple_left k p))
simple_stands a n m k (RawDeclareScalar x) s t named few fewer h = declaration_stands a n m x false 1 s t named few fewer h
simple_stands a n m k (RawDeclareArray x size) s t named few fewer h = declaration_stands a n m x true size s t named few fewer h
simple_stands a n m k (RawDeclareWith x v) s t named few fewer h = declaration_stands a n m x false 1 (record s { site = _ }) (record t { site = _ }) named.0 few fewer (resited a n m _ _ s t h)
simple_stands a n m k _ s t named few fewer h = kept_stand a n m _ _ s t h
