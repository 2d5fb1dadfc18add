-- More new names in scope: what an agreement says of the names of the source, and of earlier new names, stays so.
use Rattle.hoist_meaning.proofs.Common.{ℕ, ◌≡◌, ◌+◌, ◌<◌, ◌≤◌, inl, inr, refl, ◌∙◌, Bool, true, false, ◌||◌, arith, bytes_eq, bytes_eq-Decides, RawExprTree, RawExprTrees, RawElement, RawUnary, RawParenthesized, RawBinary, RawLogicalAnd, RawLogicalOr, RawConditional, RawCall, RawTableCall, NoExprs, And, find, new_name, holds_call, hold_call, is_named, is_spawn, one_if, names_in, arguments_names, part_after, or_left, or_right, new_distinct}
use Rattle.hoist_meaning.proofs.Bindings.{Agreement, Outside, Both, New, in_text, in_tree, IsAgreement, Paired, AreBelow}
use Rattle.hoist_meaning.proofs.Spots.{with_part, with_names, with_argument_names}

-- b has more new names than a, with numbers from k on, which are variables from v on and below w
pub data Extends (k v w : ℕ) (a : Agreement) : Agreement → Type 0 where
  same : Extends k v w a a
  more : (h x : ℕ) (b : Agreement) → k ≤ h → v ≤ x → x < w → Extends k v w a b → Extends k v w a (New h x b)

pub extends_on : (k v w : ℕ) (a b c : Agreement) → Extends k v w a b → Extends k v w b c → Extends k v w a c
extends_on k v w a b c h Extends.same = h
extends_on k v w a b c h (Extends.more j x d p q r g) = Extends.more j x d p q r (extends_on k v w a b d h g)

pub extends_from : (j u k v w z : ℕ) (a b : Agreement) → j ≤ k → u ≤ v → w ≤ z → Extends k v w a b → Extends j u z a b
extends_from j u k v w z a b p q r Extends.same = Extends.same
extends_from j u k v w z a b p q r (Extends.more h x d m n o g) = Extends.more h x d (omega (arith, p, m)) (omega (arith, q, n)) (omega (arith, r, o)) (extends_from j u k v w z a d p q r g)

-- ---- what stays

pub extends_text : (k v w : ℕ) (a b : Agreement) → Extends k v w a b → in_text b ≡ in_text a
extends_text k v w a b Extends.same = refl
extends_text k v w a b (Extends.more h x d p q r g) = extends_text k v w a d g

pub extends_agrees : (k v w : ℕ) (a b : Agreement) → Extends k v w a b → IsAgreement a → IsAgreement b
extends_agrees k v w a b Extends.same i = i
extends_agrees k v w a b (Extends.more h x d p q r g) i = extends_agrees k v w a d g i

pub extends_paired : (k v w : ℕ) (a b : Agreement) (x y : ℕ) → Extends k v w a b → Paired b x y → Paired a x y
extends_paired k v w a b x y Extends.same p = p
extends_paired k v w a b x y (Extends.more h z d r s t g) p = extends_paired k v w a d x y g p

apart_if : (b : Bool) (h j : ℕ) → bytes_eq (new_name h).text (new_name j).text ≡ b → j < h → b ≡ false
apart_if true h j e less = let same = new_distinct h j ((bytes_eq-Decides (new_name h).text (new_name j).text).0 e) in absurd (omega (arith, less, same))
apart_if false h j e less = refl

pub later_apart : (h j : ℕ) → j < h → bytes_eq (new_name h).text (new_name j).text ≡ false
later_apart h j less = apart_if (bytes_eq (new_name h).text (new_name j).text) h j refl less

pub extends_find : (k v w : ℕ) (a b : Agreement) (j : ℕ) → j < k → Extends k v w a b → find (new_name j).text (in_tree b) ≡ find (new_name j).text (in_tree a)
extends_find k v w a b j less Extends.same = refl
extends_find k v w a b j less (Extends.more h x d p q r g) = rw (later_apart h j (omega (arith, less, p))) (extends_find k v w a d j less g)

-- ---- numbers of variables

-- the variables of the tree are below m
abbrev pub TreeBelow : ℕ → Agreement → Type 0
TreeBelow m (Outside bs) = Unit {0}
TreeBelow m (Both t x y array a) = (y < m) × TreeBelow m a
TreeBelow m (New k y a) = (y < m) × TreeBelow m a

pub below_more : (m n : ℕ) (a : Agreement) → m ≤ n → TreeBelow m a → TreeBelow n a
below_more m n (Outside bs) less h = tt
below_more m n (Both t x y array a) less h = (omega (arith, less, h.0), below_more m n a less h.1)
below_more m n (New k y a) less h = (omega (arith, less, h.0), below_more m n a less h.1)

pub tree_below : (n m : ℕ) (a : Agreement) → AreBelow n m a → TreeBelow m a
tree_below n m (Outside bs) h = tt
tree_below n m (Both t x y array a) h = (h.1, below_more y m a (omega (arith, h.1)) (tree_below x y a h.2))
tree_below n m (New k y a) h = (h.0, below_more y m a (omega (arith, h.0)) (tree_below n y a h.1))

pub pair_below : (m : ℕ) (a : Agreement) (x y : ℕ) → TreeBelow m a → Paired a x y → y < m
pair_below m (Outside bs) x y h p = absurd p
pair_below m (Both t u v array a) x y h (inl p) = omega (arith, h.0, p.1)
pair_below m (Both t u v array a) x y h (inr p) = pair_below m a x y h.1 p
pair_below m (New k v a) x y h p = pair_below m a x y h.1 p

pub extends_below : (k v w : ℕ) (a b : Agreement) → v ≤ w → Extends k v w a b → TreeBelow v a → TreeBelow w b
extends_below k v w a b less Extends.same h = below_more v w a less h
extends_below k v w a b less (Extends.more j x d p q r g) h = (r, extends_below k v w a d less g h)

-- ---- the names that an expression takes

pub part_extends : (b : Bool) (k v w h x : ℕ) (a : Agreement) → k ≤ h → v ≤ x → x + one_if b ≤ w → Extends k v w a (with_part b h x a)
part_extends true k v w h x a p q r = Extends.more h x a p q (omega (arith, r)) Extends.same
part_extends false k v w h x a p q r = Extends.same

-- a part, and then more names
pub part_and : (later : Bool) (k v w : ℕ) (e : RawExprTree) (a c : Agreement) → v + names_in e + one_if (is_named later e) ≤ w → Extends k v (v + names_in e) a (with_names k v e a) →
    Extends (part_after k later e) (part_after v later e) w (with_part (is_named later e) (k + names_in e) (v + names_in e) (with_names k v e a)) c → Extends k v w a c
part_and later k v w e a c few first rest =
    let b = with_names k v e a in
    let d = with_part (is_named later e) (k + names_in e) (v + names_in e) b in
    extends_on k v w a d c
    (extends_on k v w a b d (extends_from k v k v (v + names_in e) w a b (omega arith) (omega arith) (omega (arith, few)) first) (part_extends (is_named later e) k v w (k + names_in e) (v + names_in e) b (omega arith) (omega arith) few))
    (extends_from k v (part_after k later e) (part_after v later e) w w d c (omega arith) (omega arith) (omega arith) rest)

-- a part, and then one name where there are more in branches
pub part_then : (b : Bool) (k v w : ℕ) (e : RawExprTree) (a : Agreement) → v + names_in e + one_if b ≤ w → Extends k v (v + names_in e) a (with_names k v e a) → Extends k v w a (with_part b (k + names_in e) (v + names_in e) (with_names k v e a))
part_then b k v w e a few first =
    extends_on k v w a (with_names k v e a) (with_part b (k + names_in e) (v + names_in e) (with_names k v e a))
    (extends_from k v k v (v + names_in e) w a (with_names k v e a) (omega arith) (omega arith) (omega (arith, few)) first)
    (part_extends b k v w (k + names_in e) (v + names_in e) (with_names k v e a) (omega arith) (omega arith) few)

mutual
  pub names_extend : (k v : ℕ) (e : RawExprTree) (a : Agreement) → Extends k v (v + names_in e) a (with_names k v e a)
  names_extend k v (RawElement n i) a = names_extend k v i a
  names_extend k v (RawUnary op e) a = names_extend k v e a
  names_extend k v (RawParenthesized e) a = names_extend k v e a
  names_extend k v (RawBinary op l r) a =
      let c = with_part (is_named (holds_call r) l) (k + names_in l) (v + names_in l) (with_names k v l a) in
      let k1 = part_after k (holds_call r) l in
      let v1 = part_after v (holds_call r) l in
      part_and (holds_call r) k v (v + names_in (RawBinary op l r)) l a (with_names k1 v1 r c) (omega arith) (names_extend k v l a)
      (extends_from k1 v1 k1 v1 (v1 + names_in r) (v + names_in (RawBinary op l r)) c (with_names k1 v1 r c) (omega arith) (omega arith) (omega arith) (names_extend k1 v1 r c))
  names_extend k v (RawLogicalAnd l r) a = part_then (holds_call r) k v (v + names_in (RawLogicalAnd l r)) l a (omega arith) (names_extend k v l a)
  names_extend k v (RawLogicalOr l r) a = part_then (holds_call r) k v (v + names_in (RawLogicalOr l r)) l a (omega arith) (names_extend k v l a)
  names_extend k v (RawConditional c x y) a = part_then (holds_call x || holds_call y) k v (v + names_in (RawConditional c x y)) c a (omega arith) (names_extend k v c a)
  names_extend k v (RawCall n es) a =
      let m = arguments_names (is_spawn n) es in
      Extends.more (k + m) (v + m) (with_argument_names (is_spawn n) k v es a) (omega arith) (omega arith) (omega arith)
      (extends_from k v k v (v + m) (v + (m + 1)) a (with_argument_names (is_spawn n) k v es a) (omega arith) (omega arith) (omega arith) (arguments_extend (is_spawn n) k v es a))
  names_extend k v (RawTableCall n i e) a =
      let c = with_part (is_named (holds_call e) i) (k + names_in i) (v + names_in i) (with_names k v i a) in
      let k1 = part_after k (holds_call e) i in
      let v1 = part_after v (holds_call e) i in
      let w = v + names_in (RawTableCall n i e) in
      Extends.more (k1 + names_in e) (v1 + names_in e) (with_names k1 v1 e c) (omega arith) (omega arith) (omega arith)
      (part_and (holds_call e) k v w i a (with_names k1 v1 e c) (omega arith) (names_extend k v i a) (extends_from k1 v1 k1 v1 (v1 + names_in e) w c (with_names k1 v1 e c) (omega arith) (omega arith) (omega arith) (names_extend k1 v1 e c)))
  names_extend k v _ a = Extends.same

  pub arguments_extend : (stays : Bool) (k v : ℕ) (es : RawExprTrees) (a : Agreement) → Extends k v (v + arguments_names stays es) a (with_argument_names stays k v es a)
  arguments_extend stays k v NoExprs a = Extends.same
  arguments_extend true k v (And e es) a = arguments_extend false k v es a
  arguments_extend false k v (And e es) a =
      let c = with_part (is_named (hold_call es) e) (k + names_in e) (v + names_in e) (with_names k v e a) in
      let k1 = part_after k (hold_call es) e in
      let v1 = part_after v (hold_call es) e in
      let w = v + arguments_names false (And e es) in
      part_and (hold_call es) k v w e a (with_argument_names false k1 v1 es c) (omega arith) (names_extend k v e a)
      (extends_from k1 v1 k1 v1 (v1 + arguments_names false es) w c (with_argument_names false k1 v1 es c) (omega arith) (omega arith) (omega arith) (arguments_extend false k1 v1 es c))

-- one without a call takes none
pub no_more_names : (k v : ℕ) (e : RawExprTree) (a : Agreement) → holds_call e ≡ false → with_names k v e a ≡ a
no_more_names k v (RawElement n i) a h = no_more_names k v i a h
no_more_names k v (RawUnary op e) a h = no_more_names k v e a h
no_more_names k v (RawParenthesized e) a h = no_more_names k v e a h
no_more_names k v (RawBinary op l r) a h =
    let hr = or_right (holds_call l) (holds_call r) h in
    rw hr (no_more_names (part_after k false l) (part_after v false l) r (with_names k v l a) hr ∙ no_more_names k v l a (or_left (holds_call l) (holds_call r) h))
no_more_names k v (RawLogicalAnd l r) a h = rw (or_right (holds_call l) (holds_call r) h) (no_more_names k v l a (or_left (holds_call l) (holds_call r) h))
no_more_names k v (RawLogicalOr l r) a h = rw (or_right (holds_call l) (holds_call r) h) (no_more_names k v l a (or_left (holds_call l) (holds_call r) h))
no_more_names k v (RawConditional c x y) a h =
    rw (or_right (holds_call c) (holds_call x || holds_call y) h) (no_more_names k v c a (or_left (holds_call c) (holds_call x || holds_call y) h))
no_more_names k v (RawCall n es) a h = cc
no_more_names k v (RawTableCall n i e) a h = cc
no_more_names k v _ a h = refl

pub no_more_argument_names : (k v : ℕ) (es : RawExprTrees) (a : Agreement) → hold_call es ≡ false → with_argument_names false k v es a ≡ a
no_more_argument_names k v NoExprs a h = refl
no_more_argument_names k v (And e es) a h =
    let hr = or_right (holds_call e) (hold_call es) h in
    (λ i. with_argument_names false (part_after k (hr i) e) (part_after v (hr i) e) es (with_part (is_named (hr i) e) (k + names_in e) (v + names_in e) (with_names k v e a)))
    ∙ no_more_argument_names (part_after k false e) (part_after v false e) es (with_names k v e a) hr ∙ no_more_names k v e a (or_left (holds_call e) (hold_call es) h)
