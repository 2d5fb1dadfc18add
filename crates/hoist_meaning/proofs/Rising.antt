-- Places that stand for one another, after what goes before an expression, and what is known of them.
use Rattle.hoist_meaning.proofs.Common.{ℕ, ◌≡◌, ◌+◌, ◌≤◌, refl, sym, ap, subst, ◌∙◌, Bool, true, false, ◌||◌, List, ◌∷◌, length, length-append, Option, Some, None, arith, if◌then◌else◌, codes, bytes_eq, bytes_eq-Decides, RawExprTree, RawExprTrees, RawNumber, RawName, RawElement, RawUnary, RawParenthesized, RawBinary, RawLogicalAnd, RawLogicalOr, RawConditional, RawCall, RawTableCall, NoExprs, And, ProgramTree, function_at, Meaning, Found, Binding, find, is_fixed, bound, callee_in, callee_of, Spot, DeepProgram, is_spawn_by, holds_call, hold_call, holds_nested, is_named, is_spawn, one_if, names_in, arguments_names, part_after, value_names}
use Rattle.hoist_meaning.proofs.Bindings.{Agreement, Outside, Both, New, AreBelow, Paired}
use Rattle.hoist_meaning.proofs.Spots.{StandsAt, with_part, with_names, with_argument_names}
use Rattle.hoist_meaning.proofs.Declarations.{BothStand}
use Rattle.hoist_meaning.proofs.Extends.{Extends, tree_below, extends_text}
use Rattle.hoist_meaning.proofs.Premises.{KnowsSpawnAlone, with_value_names, with_element_names}
use Rattle.hoist_meaning.proofs.Sizes.{Grows, Adds, added_wide}
use Rattle.hoist_meaning.proofs.Goes.{Scope}
use Rattle.hoist_meaning.proofs.Fits.{PlaceFits}

-- ---- numbers rise with new names

pub rise_more : (n m l : ℕ) (a : Agreement) → m ≤ l → AreBelow n m a → AreBelow n l a
rise_more n m l (Outside bs) less h = tt
rise_more n m l (Both t x y array a) less h = (h.0, omega (arith, h.1, less), h.2)
rise_more n m l (New k y a) less h = (omega (arith, h.0, less), h.1)

part_rises : (b : Bool) (n m l k : ℕ) (a : Agreement) → m + one_if b ≤ l → AreBelow n m a → AreBelow n l (with_part b k m a)
part_rises true n m l k a less h = (omega (arith, less), h)
part_rises false n m l k a less h = rise_more n m l a (omega (arith, less)) h

mutual
  pub names_rise : (n k v : ℕ) (e : RawExprTree) (a : Agreement) → AreBelow n v a → AreBelow n (v + names_in e) (with_names k v e a)
  names_rise n k v (RawElement t i) a h = names_rise n k v i a h
  names_rise n k v (RawUnary op e) a h = names_rise n k v e a h
  names_rise n k v (RawParenthesized e) a h = names_rise n k v e a h
  names_rise n k v (RawBinary op l r) a h =
      let b = with_names k v l a in
      let c = with_part (is_named (holds_call r) l) (k + names_in l) (v + names_in l) b in
      let k1 = part_after k (holds_call r) l in
      let v1 = part_after v (holds_call r) l in
      rise_more n (v1 + names_in r) (v + names_in (RawBinary op l r)) (with_names k1 v1 r c) (omega arith) (names_rise n k1 v1 r c (part_rises (is_named (holds_call r) l) n (v + names_in l) v1 (k + names_in l) b (omega arith) (names_rise n k v l a h)))
  names_rise n k v (RawLogicalAnd l r) a h = part_rises (holds_call r) n (v + names_in l) (v + names_in (RawLogicalAnd l r)) (k + names_in l) (with_names k v l a) (omega arith) (names_rise n k v l a h)
  names_rise n k v (RawLogicalOr l r) a h = part_rises (holds_call r) n (v + names_in l) (v + names_in (RawLogicalOr l r)) (k + names_in l) (with_names k v l a) (omega arith) (names_rise n k v l a h)
  names_rise n k v (RawConditional c x y) a h =
      part_rises (holds_call x || holds_call y) n (v + names_in c) (v + names_in (RawConditional c x y)) (k + names_in c) (with_names k v c a) (omega arith) (names_rise n k v c a h)
  names_rise n k v (RawCall t es) a h = (omega arith, arguments_rise n k v (is_spawn t) es a h)
  names_rise n k v (RawTableCall t i e) a h =
      let b = with_names k v i a in
      let c = with_part (is_named (holds_call e) i) (k + names_in i) (v + names_in i) b in
      let v1 = part_after v (holds_call e) i in
      (omega arith, names_rise n (part_after k (holds_call e) i) v1 e c (part_rises (is_named (holds_call e) i) n (v + names_in i) v1 (k + names_in i) b (omega arith) (names_rise n k v i a h)))
  names_rise n k v _ a h = rise_more n v (v + 0) a (omega arith) h

  pub arguments_rise : (n k v : ℕ) (stays : Bool) (es : RawExprTrees) (a : Agreement) → AreBelow n v a → AreBelow n (v + arguments_names stays es) (with_argument_names stays k v es a)
  arguments_rise n k v stays NoExprs a h = rise_more n v (v + 0) a (omega arith) h
  arguments_rise n k v true (And e es) a h = arguments_rise n k v false es a h
  arguments_rise n k v false (And e es) a h =
      let b = with_names k v e a in
      let c = with_part (is_named (hold_call es) e) (k + names_in e) (v + names_in e) b in
      let k1 = part_after k (hold_call es) e in
      let v1 = part_after v (hold_call es) e in
      rise_more n (v1 + arguments_names false es) (v + arguments_names false (And e es)) (with_argument_names false k1 v1 es c) (omega arith)
      (arguments_rise n k1 v1 false es c (part_rises (is_named (hold_call es) e) n (v + names_in e) v1 (k + names_in e) b (omega arith) (names_rise n k v e a h)))

pub value_rises : (n k v : ℕ) (e : RawExprTree) (a : Agreement) → AreBelow n v a → AreBelow n (v + value_names e) (with_value_names k v e a)
value_rises n k v (RawCall t es) a h = arguments_rise n k v (is_spawn t) es a h
value_rises n k v (RawTableCall t i e) a h =
    let b = with_names k v i a in
    let c = with_part (is_named (holds_call e) i) (k + names_in i) (v + names_in i) b in
    let k1 = part_after k (holds_call e) i in
    let v1 = part_after v (holds_call e) i in
    rise_more n (v1 + names_in e) (v + value_names (RawTableCall t i e)) (with_names k1 v1 e c) (omega arith)
    (names_rise n k1 v1 e c (part_rises (is_named (holds_call e) i) n (v + names_in i) v1 (k + names_in i) b (omega arith) (names_rise n k v i a h)))
value_rises n k v (RawNumber w) a h = names_rise n k v (RawNumber w) a h
value_rises n k v (RawName t) a h = names_rise n k v (RawName t) a h
value_rises n k v (RawElement t i) a h = names_rise n k v (RawElement t i) a h
value_rises n k v (RawUnary op e) a h = names_rise n k v (RawUnary op e) a h
value_rises n k v (RawParenthesized e) a h = names_rise n k v (RawParenthesized e) a h
value_rises n k v (RawBinary op l r) a h = names_rise n k v (RawBinary op l r) a h
value_rises n k v (RawLogicalAnd l r) a h = names_rise n k v (RawLogicalAnd l r) a h
value_rises n k v (RawLogicalOr l r) a h = names_rise n k v (RawLogicalOr l r) a h
value_rises n k v (RawConditional c x y) a h = names_rise n k v (RawConditional c x y) a h

pub element_rises : (n k v : ℕ) (i e : RawExprTree) (a : Agreement) → AreBelow n v a → AreBelow n (v + (part_after 0 (holds_nested e) i + value_names e)) (with_element_names k v i e a)
element_rises n k v i e a h =
    let later = holds_nested e in
    let b = with_names k v i a in
    let c = with_part (is_named later i) (k + names_in i) (v + names_in i) b in
    let k1 = part_after k later i in
    let v1 = part_after v later i in
    rise_more n (v1 + value_names e) (v + (part_after 0 later i + value_names e)) (with_value_names k1 v1 e c) (omega arith)
    (value_rises n k1 v1 e c (part_rises (is_named later i) n (v + names_in i) v1 (k + names_in i) b (omega arith) (names_rise n k v i a h)))

-- a pair stays one
pub extends_pair : (k v w : ℕ) (a b : Agreement) (x y : ℕ) → Extends k v w a b → Paired a x y → Paired b x y
extends_pair k v w a b x y Extends.same p = p
extends_pair k v w a b x y (Extends.more h z d r s t g) p = extends_pair k v w a d x y g p

-- ---- `spawn`

spawn_meaning : (m : Meaning) → is_spawn_by (callee_in m) ≡ true → m ≡ Meaning.Spawn
spawn_meaning Meaning.Spawn e = refl
spawn_meaning _ e = absurd (let wrong : false ≡ true = e in cc)

spawn_found : (o : Option Found) → is_spawn_by (callee_of o) ≡ true → (position : ℕ) × (o ≡ Some (record { position = position; meaning = Meaning.Spawn }))
spawn_found None e = absurd (let wrong : false ≡ true = e in cc)
spawn_found (Some g) e = (g.position, ap (λ m. Some (record { position = g.position; meaning = m })) (spawn_meaning g.meaning e))

abbrev spawn_text : List ℕ
spawn_text = codes "spawn"

spawn_fixed : (o : Option Found) → is_spawn_by (callee_of o) ≡ true → is_fixed o ≡ true
spawn_fixed o e = let found = spawn_found o e in ap is_fixed found.1

not_spawn : (b : Bool) (names : List Binding) (t u : List ℕ) → t ≡ u → is_fixed (find t names) ≡ false → bytes_eq u spawn_text ≡ b → KnowsSpawnAlone names → b ≡ false
not_spawn true names t u same free g alone =
    let fixed = spawn_fixed (find u names) (alone u ∙ g) in
    absurd (let wrong : false ≡ true = sym free ∙ ap (λ z. is_fixed (find z names)) same ∙ fixed in cc)
not_spawn false names t u same free g alone = refl

bound_by : (v w : Bool) (ds : List Binding) (t u : List ℕ) (m : Meaning) → is_spawn_by (callee_in m) ≡ false → is_fixed (find t ds) ≡ v → bytes_eq t u ≡ w → KnowsSpawnAlone ds →
    is_spawn_by (callee_of (find u (if v then ds else record { text = t; meaning = m } ∷ ds))) ≡ bytes_eq u spawn_text
bound_by true w ds t u m other e f knows = knows u
bound_by false true ds t u m other e f knows = rw f (other ∙ sym (not_spawn (bytes_eq u spawn_text) ds t u ((bytes_eq-Decides t u).0 f) e refl knows))
bound_by false false ds t u m other e f knows = rw f (knows u)

-- a declaration keeps it
pub bound_other : (ds : List Binding) (t : List ℕ) (m : Meaning) → is_spawn_by (callee_in m) ≡ false → KnowsSpawnAlone ds → KnowsSpawnAlone (bound ds t m)
bound_other ds t m other knows = λ u. bound_by (is_fixed (find t ds)) (bytes_eq t u) ds t u m other refl refl knows

pub bound_alone : (ds : List Binding) (t : List ℕ) (x : ℕ) (array : Bool) → KnowsSpawnAlone ds → KnowsSpawnAlone (bound ds t (Meaning.Local x array))
bound_alone ds t x array knows = bound_other ds t (Meaning.Local x array) refl knows

-- ---- from what is known of places

module _ (text : DeepProgram) (program : ProgramTree) (f : ℕ) where
  -- the next variables are the function's, of one word
  pub scope_of : (a : Agreement) (room : ℕ) (s t : Spot) (later : List ℕ) → PlaceFits a s t → Adds room t.sizes later → Grows later (function_at program f).sizes → length (function_at program f).sizes ≤ 65536 → Scope text program f a (length t.sizes) room s t
  scope_of a room s t later fits adds begins few =
      let all = (function_at program f).sizes in
      let one = ap length adds.is in
      let two = length-append t.sizes adds.more in
      let three = ap length begins.is in
      let four = length-append later begins.more in
      let many = adds.many in
      record {
        place = fits.stand.tree;
        text_names = sym fits.stand.text.names;
        below = tree_below (length s.sizes) (length t.sizes) a fits.stand.below;
        few = omega (arith, one, two, three, four, many, few);
        wide = λ y low high. added_wide room t.sizes later all adds begins (length t.sizes) y refl low high;
        spawns = fits.knows;
      }

-- after new names, at places with the text's names as before
pub stand_later : (a b : Agreement) (k w : ℕ) (s s2 t t2 : Spot) → PlaceFits a s t → s2.names ≡ s.names → s2.sizes ≡ s.sizes → Extends k (length t.sizes) w a b → StandsAt b w t2 → AreBelow (length s.sizes) w b → BothStand b (length s.sizes) (length t2.sizes) s2 t2
stand_later a b k w s s2 t t2 fits names sizes ext place below = record {
  text = record { names = names ∙ fits.stand.text.names ∙ sym (extends_text k (length t.sizes) w a b ext); count = ap length sizes };
  tree = record { agrees = place.agrees; names = place.names; count = refl };
  below = subst (λ m. AreBelow (length s.sizes) m b) (sym place.count) below;
}
