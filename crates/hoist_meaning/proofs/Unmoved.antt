-- The value of what is left of an expression stays as it is where one more new name is declared, whose variable comes after those in it.
use Rattle.hoist_meaning.proofs.Common.{ℕ, ◌≡◌, ◌+◌, ◌<◌, ◌≤◌, refl, ap, ◌∙◌, Bool, true, false, not, ◌||◌, List, [], ◌∷◌, ◌++◌, length, Option, Some, None, arith, if◌then◌else◌, nat_lt, slice_index, Ok, Err, bytes_eq, row, RawExprTree, RawNumber, RawName, RawElement, RawUnary, RawParenthesized, RawBinary, RawLogicalAnd, RawLogicalOr, RawConditional, RawCall, RawTableCall, ExprTree, unary_value, binary_value, Value, value, in_range, element, on_one, on_both, truth, choice, Meaning, Found, Rule, Binding, find, is_scalar, is_array, variable_in, variable_of, use_faults, array_faults, expr_faults, scalar_value, element_value, expr_of, both_none, not_broken, new_name, used, holds_call, is_named, is_spawn, one_if, names_in, arguments_names, part_after, part_or, left_of, AreSourceNames, or_parts, not-false}
use Rattle.hoist_meaning.proofs.Bindings.{Agreement, Outside, Both, New, in_tree, IsOutside, AreOutside, IsAgreement, new_apart}
use Rattle.hoist_meaning.proofs.Extends.{TreeBelow, later_apart}
use Rattle.hoist_meaning.proofs.Ends.{Rows}

-- ---- no name of an expression is the new name h

abbrev pub AreApart : ℕ → RawExprTree → Type 0
AreApart h (RawNumber v) = Unit {0}
AreApart h (RawName n) = bytes_eq (new_name h).text n.text ≡ false
AreApart h (RawElement n i) = (bytes_eq (new_name h).text n.text ≡ false) × AreApart h i
AreApart h (RawUnary op e) = AreApart h e
AreApart h (RawParenthesized e) = AreApart h e
AreApart h (RawBinary op l r) = AreApart h l × AreApart h r
AreApart h (RawLogicalAnd l r) = AreApart h l × AreApart h r
AreApart h (RawLogicalOr l r) = AreApart h l × AreApart h r
AreApart h (RawConditional c x y) = AreApart h c × AreApart h x × AreApart h y
AreApart h _ = ⊥

-- names of the source aren't
source_apart : (h : ℕ) (e : RawExprTree) → AreSourceNames e → holds_call e ≡ false → AreApart h e
source_apart h (RawNumber v) s q = tt
source_apart h (RawName n) s q = new_apart h n.text s
source_apart h (RawElement n i) s q = (new_apart h n.text s.0, source_apart h i s.1 q)
source_apart h (RawUnary op e) s q = source_apart h e s q
source_apart h (RawParenthesized e) s q = source_apart h e s q
source_apart h (RawBinary op l r) s q = let n = or_parts (holds_call l) (holds_call r) q in (source_apart h l s.0 n.0, source_apart h r s.1 n.1)
source_apart h (RawLogicalAnd l r) s q = let n = or_parts (holds_call l) (holds_call r) q in (source_apart h l s.0 n.0, source_apart h r s.1 n.1)
source_apart h (RawLogicalOr l r) s q = let n = or_parts (holds_call l) (holds_call r) q in (source_apart h l s.0 n.0, source_apart h r s.1 n.1)
source_apart h (RawConditional c x y) s q =
    let n = or_parts (holds_call c) (holds_call x || holds_call y) q in
    let m = or_parts (holds_call x) (holds_call y) n.1 in
    (source_apart h c s.0 n.0, source_apart h x s.1 m.0, source_apart h y s.2 m.1)
source_apart h _ s q = absurd (let wrong : true ≡ false = q in cc)

part_apart : (named : Bool) (h k : ℕ) (left : RawExprTree) → (named ≡ true → k < h) → AreApart h left → AreApart h (part_or named k left)
part_apart true h k left less a = later_apart h k (less refl)
part_apart false h k left less a = a

if_apart : (b : Bool) (h k : ℕ) (e : RawExprTree) → (b ≡ true → k < h) → (b ≡ false → AreApart h e) → AreApart h (if b then used k else e)
if_apart true h k e less a = later_apart h k (less refl)
if_apart false h k e less a = a refl

name_below : (h k n : ℕ) (b : Bool) (m : ℕ) → b ≡ true → k + (n + one_if b + m) ≤ h → k + n < h
name_below h k n true m e less = omega (arith, less)
name_below h k n false m e less = absurd (let wrong : false ≡ true = e in cc)

-- nor are earlier new names
pub left_apart : (h k : ℕ) (e : RawExprTree) → k + names_in e ≤ h → AreSourceNames e → AreApart h (left_of k e)
left_apart h k (RawNumber v) less s = tt
left_apart h k (RawName n) less s = new_apart h n.text s
left_apart h k (RawElement n i) less s = (new_apart h n.text s.0, left_apart h k i less s.1)
left_apart h k (RawUnary op e) less s = left_apart h k e less s
left_apart h k (RawParenthesized e) less s = left_apart h k e less s
left_apart h k (RawBinary op l r) less s = (
  part_apart (is_named (holds_call r) l) h (k + names_in l) (left_of k l) (λ e. name_below h k (names_in l) (is_named (holds_call r) l) (names_in r) e less) (left_apart h k l (omega (arith, less)) s.0),
  left_apart h (part_after k (holds_call r) l) r (omega (arith, less)) s.1,
)
left_apart h k (RawLogicalAnd l r) less s =
    if_apart (holds_call r) h (k + names_in l) (RawLogicalAnd (left_of k l) r) (λ e. name_below h k (names_in l) (holds_call r) (names_in r) e less) (λ e. (left_apart h k l (omega (arith, less)) s.0, source_apart h r s.1 e))
left_apart h k (RawLogicalOr l r) less s =
    if_apart (holds_call r) h (k + names_in l) (RawLogicalOr (left_of k l) r) (λ e. name_below h k (names_in l) (holds_call r) (names_in r) e less) (λ e. (left_apart h k l (omega (arith, less)) s.0, source_apart h r s.1 e))
left_apart h k (RawConditional c x y) less s =
    if_apart (holds_call x || holds_call y) h (k + names_in c) (RawConditional (left_of k c) x y) (λ e. name_below h k (names_in c) (holds_call x || holds_call y) (names_in x + names_in y) e (omega (arith, less)))
    (λ e. let n = or_parts (holds_call x) (holds_call y) e in (left_apart h k c (omega (arith, less)) s.0, source_apart h x s.1 n.0, source_apart h y s.2 n.1))
left_apart h k (RawCall n es) less s = later_apart h (k + arguments_names (is_spawn n) es) (omega (arith, less))
left_apart h k (RawTableCall n i e) less s = later_apart h (part_after k (holds_call e) i + names_in e) (omega (arith, less))

-- ---- a name that is found and isn't h

abbrev MeaningBelow : ℕ → Meaning → Type 0
MeaningBelow m (Meaning.Local x array) = x < m
MeaningBelow m _ = Unit {0}

-- a variable that is found is below a number
abbrev FoundBelow : ℕ → Option Found → Type 0
FoundBelow m None = Unit {0}
FoundBelow m (Some f) = MeaningBelow m f.meaning

outside_below : (m : ℕ) (n : Meaning) → IsOutside n → MeaningBelow m n
outside_below m (Meaning.Local x array) h = absurd h
outside_below m _ h = tt

if_below : (b : Bool) (m : ℕ) (f : Found) (o : Option Found) → MeaningBelow m f.meaning → FoundBelow m o → FoundBelow m (if b then Some f else o)
if_below true m f o h g = h
if_below false m f o h g = g

outside_found : (m : ℕ) (bs : List Binding) (t : List ℕ) → AreOutside bs → FoundBelow m (find t bs)
outside_found m [] t h = tt
outside_found m (b ∷ bs) t h = if_below (bytes_eq b.text t) m _ (find t bs) (outside_below m b.meaning h.0) (outside_found m bs t h.2)

found_below : (m : ℕ) (b : Agreement) (t : List ℕ) → TreeBelow m b → IsAgreement b → FoundBelow m (find t (in_tree b))
found_below m (Outside bs) t h a = outside_found m bs t a
found_below m (Both u x y array b) t h a = if_below (bytes_eq u t) m _ (find t (in_tree b)) h.0 (found_below m b t h.1 a.1)
found_below m (New k y b) t h a = if_below (bytes_eq (new_name k).text t) m _ (find t (in_tree b)) h.0 (found_below m b t h.1 a)

skip_new : (h x : ℕ) (b : Agreement) (t : List ℕ) → bytes_eq (new_name h).text t ≡ false → find t (in_tree (New h x b)) ≡ find t (in_tree b)
skip_new h x b t e = rw e refl

pub faults_skip : (h x : ℕ) (b : Agreement) (e : RawExprTree) → AreApart h e → expr_faults (in_tree (New h x b)) e ≡ expr_faults (in_tree b) e
faults_skip h x b (RawNumber v) p = refl
faults_skip h x b (RawName n) p = ap (λ o. use_faults is_scalar o n.at) (skip_new h x b n.text p)
faults_skip h x b (RawElement n i) p =
    let first = ap (λ o. use_faults is_array o n.at) (skip_new h x b n.text p.0) in
    let second = faults_skip h x b i p.1 in
    λ j. first j ++ second j
faults_skip h x b (RawUnary op e) p = faults_skip h x b e p
faults_skip h x b (RawParenthesized e) p = faults_skip h x b e p
faults_skip h x b (RawBinary op l r) p =
    let first = faults_skip h x b l p.0 in
    let second = faults_skip h x b r p.1 in
    λ j. first j ++ second j
faults_skip h x b (RawLogicalAnd l r) p =
    let first = faults_skip h x b l p.0 in
    let second = faults_skip h x b r p.1 in
    λ j. first j ++ second j
faults_skip h x b (RawLogicalOr l r) p =
    let first = faults_skip h x b l p.0 in
    let second = faults_skip h x b r p.1 in
    λ j. first j ++ second j
faults_skip h x b (RawConditional c y z) p =
    let first = faults_skip h x b c p.0 in
    let second = faults_skip h x b y p.1 in
    let third = faults_skip h x b z p.2 in
    λ j. first j ++ second j ++ third j
faults_skip h x b _ p = absurd p

row_element : (later names : Rows) (y : ℕ) (v : Value) → row later y ≡ row names y → element later y v ≡ element names y v
row_element later names y (Ok i) e = ap (λ r. in_range (nat_lt i (length r)) (slice_index r i)) e
row_element later names y (Err trap) e = refl

module _ (m : ℕ) (names later globals : Rows) (kept : (y : ℕ) → y < m → row later y ≡ row names y) where
  scalar_unmoved : (n : Meaning) → MeaningBelow m n → is_scalar n ≡ true → value later globals (scalar_value (variable_in n)) ≡ value names globals (scalar_value (variable_in n))
  scalar_unmoved (Meaning.Local y array) less s = ap (λ r. Ok (slice_index r 0)) (kept y less)
  scalar_unmoved (Meaning.Global g array) less s = refl
  scalar_unmoved _ less s = absurd (let wrong : false ≡ true = s in cc)

  scalar_found : (o : Option Found) (at : ℕ) → FoundBelow m o → use_faults is_scalar o at ≡ [] → value later globals (scalar_value (variable_of o)) ≡ value names globals (scalar_value (variable_of o))
  scalar_found None at less f = absurd (let wrong = f in cc)
  scalar_found (Some g) at less f = scalar_unmoved g.meaning less (not-false (is_scalar g.meaning) (not_broken (not (is_scalar g.meaning)) at Rule.Kind f))

  module _ (i j : ExprTree) (same : value later globals i ≡ value names globals j) where
    array_unmoved : (n : Meaning) → MeaningBelow m n → is_array n ≡ true → value later globals (element_value (variable_in n) i) ≡ value names globals (element_value (variable_in n) j)
    array_unmoved (Meaning.Local y array) less s = ap (element later y) same ∙ row_element later names y (value names globals j) (kept y less)
    array_unmoved (Meaning.Global g array) less s = ap (element globals g) same
    array_unmoved _ less s = absurd (let wrong : false ≡ true = s in cc)

    array_found : (o : Option Found) (at : ℕ) → FoundBelow m o → use_faults is_array o at ≡ [] → value later globals (element_value (variable_of o) i) ≡ value names globals (element_value (variable_of o) j)
    array_found None at less f = absurd (let wrong = f in cc)
    array_found (Some g) at less f = array_unmoved g.meaning less (not-false (is_array g.meaning) (not_broken (not (is_array g.meaning)) at Rule.Kind f))

  module _ (h x : ℕ) (b : Agreement) (below : TreeBelow m b) (agrees : IsAgreement b) where
    pub value_unmoved : (e : RawExprTree) → AreApart h e → expr_faults (in_tree b) e ≡ [] → value later globals (expr_of (in_tree (New h x b)) e) ≡ value names globals (expr_of (in_tree b) e)
    value_unmoved (RawNumber v) p f = refl
    value_unmoved (RawName n) p f =
        ap (λ o. value later globals (scalar_value (variable_of o))) (skip_new h x b n.text p) ∙ scalar_found (find n.text (in_tree b)) n.at (found_below m b n.text below agrees) f
    value_unmoved (RawElement n i) p f =
        let fs = both_none (array_faults (in_tree b) n) (expr_faults (in_tree b) i) f in
        ap (λ o. value later globals (element_value (variable_of o) (expr_of (in_tree (New h x b)) i))) (skip_new h x b n.text p.0)
        ∙ array_found (expr_of (in_tree (New h x b)) i) (expr_of (in_tree b) i) (value_unmoved i p.1 fs.1) (find n.text (in_tree b)) n.at (found_below m b n.text below agrees) fs.0
    value_unmoved (RawUnary op e) p f = ap (on_one (unary_value op)) (value_unmoved e p f)
    value_unmoved (RawParenthesized e) p f = value_unmoved e p f
    value_unmoved (RawBinary op l r) p f =
        let fs = both_none (expr_faults (in_tree b) l) (expr_faults (in_tree b) r) f in
        let el = value_unmoved l p.0 fs.0 in
        let er = value_unmoved r p.1 fs.1 in
        λ i. on_both (binary_value op) (el i) (er i)
    value_unmoved (RawLogicalAnd l r) p f =
        let fs = both_none (expr_faults (in_tree b) l) (expr_faults (in_tree b) r) f in
        let el = value_unmoved l p.0 fs.0 in
        let er = value_unmoved r p.1 fs.1 in
        λ i. choice (el i) (truth (er i)) (Ok 0)
    value_unmoved (RawLogicalOr l r) p f =
        let fs = both_none (expr_faults (in_tree b) l) (expr_faults (in_tree b) r) f in
        let el = value_unmoved l p.0 fs.0 in
        let er = value_unmoved r p.1 fs.1 in
        λ i. choice (el i) (Ok 1) (truth (er i))
    value_unmoved (RawConditional c y z) p f =
        let fs = both_none (expr_faults (in_tree b) c ++ expr_faults (in_tree b) y) (expr_faults (in_tree b) z) f in
        let gs = both_none (expr_faults (in_tree b) c) (expr_faults (in_tree b) y) fs.0 in
        let ec = value_unmoved c p.0 gs.0 in
        let ey = value_unmoved y p.1 gs.1 in
        let ez = value_unmoved z p.2 fs.1 in
        λ i. choice (ec i) (ey i) (ez i)
    value_unmoved _ p f = absurd p
