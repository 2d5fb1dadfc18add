-- What simple statements declare, and what their faults say of their right sides.
use Rattle.hoist_meaning.proofs.Common.{ℕ, ◌≡◌, ◌+◌, ⊎_elim, inl, inr, refl, sym, ap, subst, ◌∙◌, Bool, true, false, List, [], ◌∷◌, ◌++◌, length, arith, slice_index, RawExprTree, RawNumber, RawSimpleTree, RawDeclareScalar, RawDeclareArray, RawDeclareWith, Binding, find, is_fixed, right_faults, Spot, next_variable, holds_nested, is_named, names_in, part_after, value_names}
use Rattle.deep_mean.specs.Naming as deep
use Rattle.hoist_meaning.proofs.Bindings.{Agreement, in_text, AreBelow}
use Rattle.hoist_meaning.proofs.Spots.{with_part, with_names}
use Rattle.hoist_meaning.proofs.Declarations.{declared_or, BothStand, simple_declares}
use Rattle.hoist_meaning.proofs.Extends.{Extends, extends_from, names_extend, part_and}
use Rattle.hoist_meaning.proofs.Premises.{KnowsSpawnAlone, with_value_names, with_element_names, side_faults}
use Rattle.hoist_meaning.proofs.SidePlaces.{value_extend}
use Rattle.hoist_meaning.proofs.Sizes.{Grows}
use Rattle.hoist_meaning.proofs.Alike.{Within}
use Rattle.hoist_meaning.proofs.Rising.{bound_alone}

-- ---- what a statement's own faults say of its right side

pub right_is_side : (bs : List Binding) (e : RawExprTree) → right_faults bs e ≡ side_faults true bs e
right_is_side bs (RawNumber v) = refl
right_is_side bs _ = refl

-- ---- a size that comes next

next_size : (xs : List ℕ) (w : ℕ) (more : List ℕ) → slice_index ((xs ++ w ∷ []) ++ more) (length xs) ≡ w
next_size [] w more = refl
next_size (x ∷ xs) w more = next_size xs w more

pub size_there : (xs : List ℕ) (w : ℕ) (all : List ℕ) → Grows (xs ++ w ∷ []) all → slice_index all (length xs) ≡ w
size_there xs w all h = ap (λ s. slice_index s (length xs)) h.is ∙ next_size xs w h.more

-- ---- places by the numbers of their variables

pub renumbered : (b : Agreement) (n m : ℕ) (s t : Spot) → BothStand b n m s t → BothStand b (length s.sizes) (length t.sizes) s t
renumbered b n m s t h = record {
  text = record { names = h.text.names; count = refl };
  tree = record { agrees = h.tree.agrees; names = h.tree.names; count = refl };
  below = subst (λ i. AreBelow i (length t.sizes) b) (sym h.text.count) (subst (λ j. AreBelow n j b) (sym h.tree.count) h.below);
}

pub simple_alone : (s : Spot) (p : RawSimpleTree) → KnowsSpawnAlone s.names → KnowsSpawnAlone (deep.simple_after s p).names
simple_alone s (RawDeclareScalar n) h = bound_alone s.names n.text (next_variable s) false h
simple_alone s (RawDeclareArray n size) h = bound_alone s.names n.text (next_variable s) true h
simple_alone s (RawDeclareWith n v) h = bound_alone s.names n.text (next_variable s) false h
simple_alone s _ h = h

-- a name that is declared, or that can't be
pub declared_within : (v : Bool) (t : List ℕ) (x y : ℕ) (array : Bool) (c a : Agreement) → Within c a → Within (declared_or v t x y array c) (declared_or v t x y array a)
declared_within true t x y array c a h = h
declared_within false t x y array c a h = λ u w p. ⊎_elim (λ q. inl q) (λ q. inr (h u w q)) p

declared_more : (v : Bool) (t : List ℕ) (x y : ℕ) (array : Bool) (a : Agreement) → Within a (declared_or v t x y array a)
declared_more true t x y array a = λ u w p. p
declared_more false t x y array a = λ u w p. inr p

-- a simple statement keeps the pairs from before
pub simple_more : (n m : ℕ) (p : RawSimpleTree) (a : Agreement) → Within a (simple_declares n m p a)
simple_more n m (RawDeclareScalar x) a = declared_more (is_fixed (find x.text (in_text a))) x.text n m false a
simple_more n m (RawDeclareArray x size) a = declared_more (is_fixed (find x.text (in_text a))) x.text n m true a
simple_more n m (RawDeclareWith x v) a = declared_more (is_fixed (find x.text (in_text a))) x.text n m false a
simple_more n m _ a = λ u w p. p

pub element_extend : (k v : ℕ) (i e : RawExprTree) (a : Agreement) → Extends k v (v + (part_after 0 (holds_nested e) i + value_names e)) a (with_element_names k v i e a)
element_extend k v i e a =
    let later = holds_nested e in
    let c = with_part (is_named later i) (k + names_in i) (v + names_in i) (with_names k v i a) in
    let k1 = part_after k later i in
    let v1 = part_after v later i in
    let w = v + (part_after 0 later i + value_names e) in
    part_and later k v w i a (with_value_names k1 v1 e c) (omega arith) (names_extend k v i a) (extends_from k1 v1 k1 v1 (v1 + value_names e) w c (with_value_names k1 v1 e c) (omega arith) (omega arith) (omega arith) (value_extend k1 v1 e c))
