-- A part of an expression before a later one that holds a call: it comes to its value, which a number or a new name holds from then on, or it
-- stops. The silent steps at the declaration and the setting of a new name.
use Rattle.hoist_meaning.proofs.Common.{ℕ, ◌≡◌, ◌+◌, ◌<◌, ◌≤◌, refl, sym, ap, subst, ◌∙◌, Bool, true, false, List, [], ◌∷◌, ◌++◌, length, Some, arith, ◌%◌, ◌^◌, slice_index, Ok, Err, row, with_word, with_zeros, TrapKind, RawExprTree, RawNumber, RawName, RawElement, RawUnary, RawParenthesized, RawBinary, RawLogicalAnd, RawLogicalOr, RawConditional, RawCall, RawTableCall, RawStmtTree, Computed, DeclareWith, DeclareScalar, SetLocal, ProgramTree, HasNoCall, Value, value, Item, Simply, Meaning, Variable, Binding, find, is_scalar, variable_of, use_faults, scalar_value, expr_faults, expr_of, right_faults, right_of, Spot, declare_faults, set_scalar, simple_numbered, right_numbered, both_none, of_value, evaluate, new_name, used, declared, declared_as, set_to, holds_call, is_named, is_spawn, one_if, names_in, arguments_names, part_after, part_or, part_named, left_of, before, left_whole}
use Rattle.deep_mean.specs.Naming as deep
use Rattle.hoist_meaning.proofs.KnownSpawn.{AreFine, both_fine, one_fine}
use Rattle.hoist_meaning.proofs.Bindings.{Agreement, New, in_tree, last_found}
use Rattle.hoist_meaning.proofs.Items.{items_of, after, after_both, at, stop_step, declared_leads, declared_stops, set_leads, set_stops, zeroed_leads}
use Rattle.hoist_meaning.proofs.Spots.{StandsAt, below_limit, with_part, with_names, with_argument_names, part_stands, before_stands}
use Rattle.hoist_meaning.proofs.Extends.{Extends, part_and, names_extend}
use Rattle.hoist_meaning.proofs.Ends.{Rows, NoCall, Comes, StopsAt, EndsAs, at_once, reach_ends}
use Rattle.hoist_meaning.proofs.Premises.{side_faults, after_part, IsPlaced, IsSound, Keeps, IsLeft}
use Rattle.hoist_meaning.proofs.Settled.{keeps_on, write_keeps, less_placed, written, single, last_variable, IsSettled}

-- ---- a right side without a call

pub computed : (ds : List Binding) (j : ℕ) (e : RawExprTree) → HasNoCall e → right_of ds j e ≡ Computed (expr_of ds e)
computed ds j (RawCall n es) h = absurd h
computed ds j (RawTableCall n i e) h = absurd h
computed ds j _ h = refl

pub plain_faults : (ds : List Binding) (e : RawExprTree) → HasNoCall e → right_faults ds e ≡ expr_faults ds e
plain_faults ds (RawCall n es) h = absurd h
plain_faults ds (RawTableCall n i e) h = absurd h
plain_faults ds _ h = refl

pub plain_side_faults : (used_ : Bool) (ds : List Binding) (e : RawExprTree) → HasNoCall e → side_faults used_ ds e ≡ expr_faults ds e
plain_side_faults used_ ds (RawCall n es) h = absurd h
plain_side_faults used_ ds (RawTableCall n i e) h = absurd h
plain_side_faults used_ ds _ h = refl

-- ---- one list of statements after another, which break no rule

pub three_fine : (gives loop : Bool) (s : Spot) (xs ys zs : List RawStmtTree) → AreFine gives loop s (xs ++ ys ++ zs) → AreFine gives loop s xs × AreFine gives loop (after s xs) ys × AreFine gives loop (after (after s xs) ys) zs
three_fine gives loop s xs ys zs h =
    let outer = both_fine gives loop s (xs ++ ys) zs h in
    let inner = both_fine gives loop s xs ys outer.0 in
    (inner.0, inner.1, subst (λ t. AreFine gives loop t zs) (after_both s xs ys) outer.1)

-- the new name that was declared last breaks none
pub used_fine : (h x : ℕ) (b : Agreement) → expr_faults (in_tree (New h x b)) (used h) ≡ []
used_fine h x b = ap (λ o. use_faults is_scalar o 0) (last_found (new_name h).text (Meaning.Local x false) (in_tree b))

module _ (gives loop : Bool) (b : Agreement) (v : ℕ) (t : Spot) (place : StandsAt b v t) where
  pub named_fine : (h : ℕ) (left : RawExprTree) → HasNoCall left → AreFine gives loop t (declared_as h left ∷ []) → expr_faults (in_tree b) left ≡ []
  named_fine h left quiet fine =
      let both = both_none (declare_faults t (new_name h)) (right_faults t.names left) (one_fine gives loop t (declared_as h left) fine) in
      ap (λ ds. expr_faults ds left) (sym place.names) ∙ sym (plain_faults t.names left quiet) ∙ both.1

-- what is left of a part that is named breaks none where its declaration doesn't
pub part_fine : (gives loop : Bool) (a : Agreement) (k v : ℕ) (e : RawExprTree) (t : Spot) → StandsAt (with_names k v e a) (v + names_in e) t → AreFine gives loop t (part_named (is_named true e) (k + names_in e) (left_of k e))
    → expr_faults (in_tree (with_names k v e a)) (left_of k e) ≡ []
part_fine gives loop a k v (RawNumber n) t place fine = refl
part_fine gives loop a k v (RawName n) t place fine = named_fine gives loop a (v + 0) t place (k + 0) (RawName n) tt fine
part_fine gives loop a k v (RawElement n i) t place fine = named_fine gives loop (with_names k v i a) (v + names_in i) t place (k + names_in i) (left_of k (RawElement n i)) (left_whole k (RawElement n i)) fine
part_fine gives loop a k v (RawUnary op e) t place fine = named_fine gives loop (with_names k v e a) (v + names_in e) t place (k + names_in e) (left_of k (RawUnary op e)) (left_whole k (RawUnary op e)) fine
part_fine gives loop a k v (RawParenthesized e) t place fine = named_fine gives loop (with_names k v e a) (v + names_in e) t place (k + names_in e) (left_of k (RawParenthesized e)) (left_whole k (RawParenthesized e)) fine
part_fine gives loop a k v (RawBinary op l r) t place fine =
    named_fine gives loop (with_names k v (RawBinary op l r) a) (v + names_in (RawBinary op l r)) t place (k + names_in (RawBinary op l r)) (left_of k (RawBinary op l r)) (left_whole k (RawBinary op l r)) fine
part_fine gives loop a k v (RawLogicalAnd l r) t place fine =
    named_fine gives loop (with_names k v (RawLogicalAnd l r) a) (v + names_in (RawLogicalAnd l r)) t place (k + names_in (RawLogicalAnd l r)) (left_of k (RawLogicalAnd l r)) (left_whole k (RawLogicalAnd l r)) fine
part_fine gives loop a k v (RawLogicalOr l r) t place fine =
    named_fine gives loop (with_names k v (RawLogicalOr l r) a) (v + names_in (RawLogicalOr l r)) t place (k + names_in (RawLogicalOr l r)) (left_of k (RawLogicalOr l r)) (left_whole k (RawLogicalOr l r)) fine
part_fine gives loop a k v (RawConditional c x y) t place fine =
    named_fine gives loop (with_names k v (RawConditional c x y) a) (v + names_in (RawConditional c x y)) t place (k + names_in (RawConditional c x y)) (left_of k (RawConditional c x y)) (left_whole k (RawConditional c x y)) fine
part_fine gives loop a k v (RawCall n es) t place fine = used_fine (k + arguments_names (is_spawn n) es) (v + arguments_names (is_spawn n) es) (with_argument_names (is_spawn n) k v es a)
part_fine gives loop a k v (RawTableCall n i e) t place fine =
    used_fine (part_after k (holds_call e) i + names_in e) (part_after v (holds_call e) i + names_in e)
    (with_names (part_after k (holds_call e) i) (part_after v (holds_call e) i) e (with_part (is_named (holds_call e) i) (k + names_in i) (v + names_in i) (with_names k v i a)))

-- strictly, an expression that isn't a call
abbrev pub MayBe : Bool → RawExprTree → Type 0
MayBe true (RawCall n es) = ⊥
MayBe true (RawTableCall n i e) = ⊥
MayBe _ _ = Unit {0}

-- ---- values

abbrev from_ok : Value → ℕ
from_ok (Ok word) = word
from_ok (Err trap) = 0

abbrev is_trap : Value → Bool
is_trap (Ok word) = false
is_trap (Err trap) = true

pub same_word : (v w : ℕ) → ◌≡◌ {A = Value} (Ok v) (Ok w) → v ≡ w
same_word v w e = ap from_ok e

pub no_trap : (v : ℕ) (trap : TrapKind) → ◌≡◌ {A = Value} (Ok v) (Err trap) → ⊥
no_trap v trap e = let wrong : false ≡ true = ap is_trap e in cc

-- the place after a part that is named or not
pub part_place : (later : Bool) (a : Agreement) (k v : ℕ) (e : RawExprTree) (s : Spot) → StandsAt a v s → v + names_in e + one_if (is_named later e) ≤ 65536 →
    StandsAt (with_part (is_named later e) (k + names_in e) (v + names_in e) (with_names k v e a)) (part_after v later e) (after_part s k later e)
part_place later a k v e s place few =
    part_stands (is_named later e) (with_names k v e a) (k + names_in e) (v + names_in e) (left_of k e) (after s (before k e)) (before_stands a k v e s place (omega (arith, few))) few

pub part_extend : (later : Bool) (a : Agreement) (k v : ℕ) (e : RawExprTree) → Extends k v (part_after v later e) a (with_part (is_named later e) (k + names_in e) (v + names_in e) (with_names k v e a))
part_extend later a k v e = part_and later k v (part_after v later e) e a (with_part (is_named later e) (k + names_in e) (v + names_in e) (with_names k v e a)) (omega arith) (names_extend k v e a) Extends.same

module _ (program : ProgramTree) (ns : List ℕ) (f : ℕ) (text : Rows) where
  -- ---- steps at a new name

  declared_item : (b : Agreement) (h v : ℕ) (left : RawExprTree) (s : Spot) (rest : List Item) → StandsAt b v s → v ≤ 65536 → HasNoCall left →
      items_of ns s (declared_as h left ∷ []) rest ≡ Simply (DeclareWith v (Computed (expr_of (in_tree b) left))) ∷ rest
  declared_item b h v left s rest place few quiet =
      let right = computed s.names s.site left quiet ∙ ap (λ ds. Computed (expr_of ds left)) place.names in
      let number = below_limit (length s.sizes) v place.count few in
      λ i. Simply (DeclareWith (number i) (right_numbered ns (right i))) ∷ rest

  pub declares : (b : Agreement) (h v word : ℕ) (left : RawExprTree) (s : Spot) (globals names : Rows) (rest : List Item) → StandsAt b v s → v ≤ 65536 → HasNoCall left → value names globals (expr_of (in_tree b) left) ≡ Ok word →
      Comes program f text globals names (items_of ns s (declared_as h left ∷ []) rest) (with_word names v 0 word) rest
  declares b h v word left s globals names rest place few quiet e =
      subst (λ items. Comes program f text globals names items (with_word names v 0 word) rest) (sym (declared_item b h v left s rest place few quiet))
      (record { leads = λ below. declared_leads program f below globals names v word (expr_of (in_tree b) left) rest e })

  pub declaring_stops : (b : Agreement) (h v : ℕ) (trap : TrapKind) (left : RawExprTree) (s : Spot) (globals names : Rows) (rest : List Item) → StandsAt b v s → v ≤ 65536 → HasNoCall left → value names globals (expr_of (in_tree b) left) ≡ Err trap →
      StopsAt program f text globals names (items_of ns s (declared_as h left ∷ []) rest) trap
  declaring_stops b h v trap left s globals names rest place few quiet e =
      subst (λ items. StopsAt program f text globals names items trap) (sym (declared_item b h v left s rest place few quiet))
      (record {
        stops = λ below.
            stop_step program (at program f below globals names (Simply (DeclareWith v (Computed (expr_of (in_tree b) left))) ∷ rest)) (record { trap = Some trap; globals = globals })
            (declared_stops program f below globals names v trap (expr_of (in_tree b) left) rest e);
      })

  set_item : (b : Agreement) (h x : ℕ) (left : RawExprTree) (s : Spot) (rest : List Item) → s.names ≡ in_tree b → variable_of (find (new_name h).text (in_tree b)) ≡ Variable.Local x → HasNoCall left →
      items_of ns s (set_to h left ∷ []) rest ≡ Simply (SetLocal x (Computed (expr_of (in_tree b) left))) ∷ rest
  set_item b h x left s rest place found quiet =
      let right = computed s.names s.site left quiet ∙ ap (λ ds. Computed (expr_of ds left)) place in
      let variable = ap (λ ds. variable_of (find (new_name h).text ds)) place ∙ found in
      λ i. Simply (simple_numbered ns (set_scalar (variable i) (right i))) ∷ rest

  pub sets : (b : Agreement) (h x word : ℕ) (left : RawExprTree) (s : Spot) (globals names : Rows) (rest : List Item) → s.names ≡ in_tree b → variable_of (find (new_name h).text (in_tree b)) ≡ Variable.Local x → HasNoCall left →
      value names globals (expr_of (in_tree b) left) ≡ Ok word → Comes program f text globals names (items_of ns s (set_to h left ∷ []) rest) (with_word names x 0 word) rest
  sets b h x word left s globals names rest place found quiet e =
      subst (λ items. Comes program f text globals names items (with_word names x 0 word) rest) (sym (set_item b h x left s rest place found quiet))
      (record { leads = λ below. set_leads program f below globals names x word (expr_of (in_tree b) left) rest e })

  pub setting_stops : (b : Agreement) (h x : ℕ) (trap : TrapKind) (left : RawExprTree) (s : Spot) (globals names : Rows) (rest : List Item) → s.names ≡ in_tree b → variable_of (find (new_name h).text (in_tree b)) ≡ Variable.Local x → HasNoCall left →
      value names globals (expr_of (in_tree b) left) ≡ Err trap → StopsAt program f text globals names (items_of ns s (set_to h left ∷ []) rest) trap
  setting_stops b h x trap left s globals names rest place found quiet e =
      subst (λ items. StopsAt program f text globals names items trap) (sym (set_item b h x left s rest place found quiet))
      (record {
        stops = λ below.
            stop_step program (at program f below globals names (Simply (SetLocal x (Computed (expr_of (in_tree b) left))) ∷ rest)) (record { trap = Some trap; globals = globals })
            (set_stops program f below globals names x trap (expr_of (in_tree b) left) rest e);
      })

  pub zeroes : (b : Agreement) (h v : ℕ) (s : Spot) (globals names : Rows) (rest : List Item) → StandsAt b v s → v ≤ 65536 → Comes program f text globals names (items_of ns s (declared h ∷ []) rest) (with_zeros names v) rest
  zeroes b h v s globals names rest place few =
      let number = below_limit (length s.sizes) v place.count few in
      subst (λ items. Comes program f text globals names items (with_zeros names v) rest) (sym (ap (λ x. Simply (DeclareScalar x) ∷ rest) number)) (record { leads = λ below. zeroed_leads program f below globals names v rest })

  -- ---- a part is done

  -- the function has come to `rest`, where what is left of the part holds its value from now on
  pub record IsDone (k1 v1 : ℕ) (c : Agreement) (left : RawExprTree) (v : ℕ) (start globals names : Rows) (items rest : List Item) (word : ℕ) : Type 0 where
    pub after : Rows
    pub comes : Comes program f text globals names items after rest
    pub keeps : Keeps v start after
    pub settled : IsSettled k1 v1 c after left word

  module _ (ds : List Binding) (a : Agreement) (k v room : ℕ) (s : Spot) (start : Rows) (placed : IsPlaced text start ds a v room s) (globals names : Rows) (rest : List Item) where
    -- a call's result has a name
    called_done : (h x word k1 v1 : ℕ) (b : Agreement) → h < k1 → x < v1 → v ≤ x → x < v + room → IsLeft v (New h x b) (used h) start globals names (Ok word) → IsDone k1 v1 (New h x b) (used h) v start globals names rest rest word
    called_done h x word k1 v1 b p q r z leaf = record {
      after = names;
      comes = at_once program f text globals names rest;
      keeps = leaf.keeps;
      settled =
          IsSettled.name h x word p q (last_variable h x b)
          (single (row names x) word (leaf.keeps.widths x ∙ placed.wide x r z) (same_word (slice_index (row names x) 0) word (sym (ap (λ y. value names globals (scalar_value y)) (last_variable h x b)) ∙ leaf.is)));
    }

    called_stops : (h x : ℕ) (trap : TrapKind) (b : Agreement) → IsLeft v (New h x b) (used h) start globals names (Err trap) → ⊥
    called_stops h x trap b leaf = no_trap (slice_index (row names x) 0) trap (sym (ap (λ y. value names globals (scalar_value y)) (last_variable h x b)) ∙ leaf.is)

    -- any other part is given one
    named_done : (h x word : ℕ) (b : Agreement) (left : RawExprTree) (t : Spot) → StandsAt b x t → x ≤ 65536 → v ≤ x → x < v + room → HasNoCall left → IsLeft v b left start globals names (Ok word) →
        IsDone (h + 1) (x + 1) (New h x b) (used h) v start globals names (items_of ns t (declared_as h left ∷ []) rest) rest word
    named_done h x word b left t place few p q quiet leaf = record {
      after = with_word names x 0 word;
      comes = declares b h x word left t globals names rest place few quiet leaf.is;
      keeps = keeps_on v x start names (with_word names x 0 word) p leaf.keeps (write_keeps x x word names (omega arith));
      settled = IsSettled.name h x word (omega arith) (omega arith) (last_variable h x b) (written names x word (leaf.keeps.widths x ∙ placed.wide x p q));
    }

    -- the state of a part after its value: its own items are done
    abbrev DoneFor : RawExprTree → ℕ → Type 0
    DoneFor e word =
        IsDone (part_after k true e) (part_after v true e) (with_part (is_named true e) (k + names_in e) (v + names_in e) (with_names k v e a)) (part_or (is_named true e) (k + names_in e) (left_of k e)) v start globals names
        (items_of ns (after s (before k e)) (part_named (is_named true e) (k + names_in e) (left_of k e)) rest) rest word

    any_done : (e : RawExprTree) (word : ℕ) → v + (names_in e + 1) ≤ v + room → IsLeft v (with_names k v e a) (left_of k e) start globals names (Ok word) →
        IsDone (k + names_in e + 1) (v + names_in e + 1) (New (k + names_in e) (v + names_in e) (with_names k v e a)) (used (k + names_in e)) v start globals names (items_of ns (after s (before k e)) (declared_as (k + names_in e) (left_of k e) ∷ []) rest) rest word
    any_done e word small leaf =
        let few = placed.few in
        named_done (k + names_in e) (v + names_in e) word (with_names k v e a) (left_of k e) (after s (before k e)) (before_stands a k v e s placed.place (omega (arith, small, few))) (omega (arith, small, few)) (omega arith) (omega (arith, small)) (left_whole k e) leaf

    any_stops : (e : RawExprTree) (trap : TrapKind) → v + (names_in e + 1) ≤ v + room → IsLeft v (with_names k v e a) (left_of k e) start globals names (Err trap) →
        StopsAt program f text globals names (items_of ns (after s (before k e)) (declared_as (k + names_in e) (left_of k e) ∷ []) rest) trap
    any_stops e trap small leaf =
        let few = placed.few in
        declaring_stops (with_names k v e a) (k + names_in e) (v + names_in e) trap (left_of k e) (after s (before k e)) globals names rest (before_stands a k v e s placed.place (omega (arith, small, few))) (omega (arith, small, few)) (left_whole k e) leaf.is

    part_done : (e : RawExprTree) (word : ℕ) → v + (names_in e + one_if (is_named true e)) ≤ v + room → IsLeft v (with_names k v e a) (left_of k e) start globals names (Ok word) → DoneFor e word
    part_done (RawNumber n) word small leaf = record {
      after = names;
      comes = at_once program f text globals names rest;
      keeps = leaf.keeps;
      settled = subst (λ w. IsSettled (k + 0 + 0) (v + 0 + 0) a names (RawNumber n) w) (same_word (n % 2 ^ 32) word leaf.is) (IsSettled.number n);
    }
    part_done (RawName n) word small leaf = any_done (RawName n) word small leaf
    part_done (RawElement n i) word small leaf = any_done (RawElement n i) word small leaf
    part_done (RawUnary op e) word small leaf = any_done (RawUnary op e) word small leaf
    part_done (RawParenthesized e) word small leaf = any_done (RawParenthesized e) word small leaf
    part_done (RawBinary op l r) word small leaf = any_done (RawBinary op l r) word small leaf
    part_done (RawLogicalAnd l r) word small leaf = any_done (RawLogicalAnd l r) word small leaf
    part_done (RawLogicalOr l r) word small leaf = any_done (RawLogicalOr l r) word small leaf
    part_done (RawConditional c x y) word small leaf = any_done (RawConditional c x y) word small leaf
    part_done (RawCall n es) word small leaf =
        let m = arguments_names (is_spawn n) es in
        called_done (k + m) (v + m) word (part_after k true (RawCall n es)) (part_after v true (RawCall n es)) (with_argument_names (is_spawn n) k v es a) (omega arith) (omega arith) (omega arith) (omega (arith, small)) leaf
    part_done (RawTableCall n i e) word small leaf =
        let k1 = part_after k (holds_call e) i in
        let v1 = part_after v (holds_call e) i in
        called_done (k1 + names_in e) (v1 + names_in e) word (part_after k true (RawTableCall n i e)) (part_after v true (RawTableCall n i e)) (with_names k1 v1 e (with_part (is_named (holds_call e) i) (k + names_in i) (v + names_in i) (with_names k v i a)))
        (omega arith) (omega arith) (omega arith) (omega (arith, small)) leaf

    part_stops : (e : RawExprTree) (trap : TrapKind) → v + (names_in e + one_if (is_named true e)) ≤ v + room → IsLeft v (with_names k v e a) (left_of k e) start globals names (Err trap) →
        StopsAt program f text globals names (items_of ns (after s (before k e)) (part_named (is_named true e) (k + names_in e) (left_of k e)) rest) trap
    part_stops (RawNumber n) trap small leaf = absurd (no_trap (n % 2 ^ 32) trap leaf.is)
    part_stops (RawName n) trap small leaf = any_stops (RawName n) trap small leaf
    part_stops (RawElement n i) trap small leaf = any_stops (RawElement n i) trap small leaf
    part_stops (RawUnary op e) trap small leaf = any_stops (RawUnary op e) trap small leaf
    part_stops (RawParenthesized e) trap small leaf = any_stops (RawParenthesized e) trap small leaf
    part_stops (RawBinary op l r) trap small leaf = any_stops (RawBinary op l r) trap small leaf
    part_stops (RawLogicalAnd l r) trap small leaf = any_stops (RawLogicalAnd l r) trap small leaf
    part_stops (RawLogicalOr l r) trap small leaf = any_stops (RawLogicalOr l r) trap small leaf
    part_stops (RawConditional c x y) trap small leaf = any_stops (RawConditional c x y) trap small leaf
    part_stops (RawCall n es) trap small leaf = absurd (called_stops (k + arguments_names (is_spawn n) es) (v + arguments_names (is_spawn n) es) trap (with_argument_names (is_spawn n) k v es a) leaf)
    part_stops (RawTableCall n i e) trap small leaf =
        absurd (called_stops (part_after k (holds_call e) i + names_in e) (part_after v (holds_call e) i + names_in e) trap
        (with_names (part_after k (holds_call e) i) (part_after v (holds_call e) i) e (with_part (is_named (holds_call e) i) (k + names_in i) (v + names_in i) (with_names k v i a))) leaf)

  -- what is so after a part: it holds its value from now on, and no trap comes so far
  abbrev pub PartIs : ℕ → ℕ → Agreement → RawExprTree → ℕ → Rows → Rows → Rows → Value → Type 0
  PartIs k1 v1 c left v start globals after (Ok word) = Keeps v start after × IsSettled k1 v1 c after left word
  PartIs k1 v1 c left v start globals after (Err trap) = ⊥

  module _ (ds : List Binding) (gives loop : Bool) where
    -- each evaluation of an expression ends as the function does
    abbrev pub Evaluates : RawExprTree → Type 0
    Evaluates e = (strict : Bool) → MayBe strict e → (a : Agreement) (k v site : ℕ) (s : Spot) (globals names : Rows) (rest : List Item) → IsPlaced text names ds a v (names_in e) s → IsSound ns gives loop a k v site e s →
        EndsAs program f text strict (IsLeft v (with_names k v e a) (left_of k e) names) NoCall rest globals names (items_of ns s (before k e) rest) (evaluate text globals (deep.expr_of ds site e))

    part_outcome : (e : RawExprTree) (a : Agreement) (k v room : ℕ) (s : Spot) (start globals names : Rows) (rest : List Item) → v + (names_in e + one_if (is_named true e)) ≤ v + room → IsPlaced text start ds a v room s → (outcome : Value) →
        IsLeft v (with_names k v e a) (left_of k e) start globals names outcome →
        EndsAs program f text false
        (PartIs (part_after k true e) (part_after v true e) (with_part (is_named true e) (k + names_in e) (v + names_in e) (with_names k v e a)) (part_or (is_named true e) (k + names_in e) (left_of k e)) v start) NoCall rest globals names
        (items_of ns (after s (before k e)) (part_named (is_named true e) (k + names_in e) (left_of k e)) rest) (of_value outcome)
    part_outcome e a k v room s start globals names rest small placed (Ok word) leaf =
        let done = part_done ds a k v room s start placed globals names rest e word small leaf in
        EndsAs.Valued globals names (items_of ns (after s (before k e)) (part_named (is_named true e) (k + names_in e) (left_of k e)) rest) word done.after done.comes (done.keeps, done.settled)
    part_outcome e a k v room s start globals names rest small placed (Err trap) leaf =
        EndsAs.Stopped globals names (items_of ns (after s (before k e)) (part_named (is_named true e) (k + names_in e) (left_of k e)) rest) trap (part_stops ds a k v room s start placed globals names rest e trap small leaf)

    -- a part before a later call, which is named or left alone
    pub part_ends : (e : RawExprTree) → Evaluates e → (a : Agreement) (k v site room : ℕ) (s : Spot) (globals names : Rows) (rest : List Item) → v + (names_in e + one_if (is_named true e)) ≤ v + room → IsPlaced text names ds a v room s → IsSound ns gives loop a k v site e s →
        EndsAs program f text false
        (PartIs (part_after k true e) (part_after v true e) (with_part (is_named true e) (k + names_in e) (v + names_in e) (with_names k v e a)) (part_or (is_named true e) (k + names_in e) (left_of k e)) v names) NoCall rest globals names
        (items_of ns s (before k e) (items_of ns (after s (before k e)) (part_named (is_named true e) (k + names_in e) (left_of k e)) rest)) (evaluate text globals (deep.expr_of ds site e))
    part_ends e whole a k v site room s globals names rest small placed sound =
        let named = part_named (is_named true e) (k + names_in e) (left_of k e) in
        let between = items_of ns (after s (before k e)) named rest in
        let Part = IsLeft v (with_names k v e a) (left_of k e) names in
        let Leaf = PartIs (part_after k true e) (part_after v true e) (with_part (is_named true e) (k + names_in e) (v + names_in e) (with_names k v e a)) (part_or (is_named true e) (k + names_in e) (left_of k e)) v names in
        reach_ends program f text false Leaf NoCall rest false Part NoCall between (λ outer opens. opens)
        (λ others later outcome leaf. part_outcome e a k v room s names others later rest small placed outcome leaf)
        (λ others later call none. absurd none)
        (whole false tt a k v site s globals names between (less_placed text names ds a v room (names_in e) s (omega (arith, small)) placed) sound)
