-- The sites that a certificate names, against those that a program has.
use Rattle.rule_failures.proofs.Common.{◌≡◌, ◌≢◌, ℕ, ◌+◌, ◌<◌, ◌≤◌, Bool, true, false, List, [], length, take, arith, refl, sym, ap, ◌∙◌, subst, Some, None, inl, inr, ◌||◌, IsTrue, slice_get, slice_index, slice_index_or, slice_set, list_any, IsStrictlyIncreasing, cases_lt, cases_eq, eq-eqb, ne_eqb, or_right, get_or-set_same, get_or-set_other, get_or_default, take_all, get_or_past, same_Some, slice_get_read, Op, FlatCode, function_at, operation_at, site_of, Certificate, kind_in, kind_of, kind_at, certified_site, starts_thread, is_spawned, fact_numbers, is_named, is_site, has_site, NamesSites, IsNamedRight, is_marked}
use Rattle.std.proofs.lemmas.List.Folds.{list_any_more}
use Rattle.flat_code.specs.declared.functions.FlatFunction.{FlatFunction}
use Rattle.stack_certificate.specs.declared.sites.SiteFact.{SiteFact}
use Rattle.accepted_pairs.proofs.RisingLemmas as rising

-- ---- one operation

pub not_named : (facts : List SiteFact) (op : Op) (site : ℕ) → certified_site op ≡ Some site →
    ((k : ℕ) → k < length facts → slice_index (fact_numbers facts) k ≡ site → ⊥) → IsNamedRight facts op → ⊥
not_named facts op site e none h =
    let w = rising.named_where facts site (h site e).0 in
    none w.0 w.1 w.2

pub named_right : (facts : List SiteFact) (op : Op) (site k : ℕ) (d : SiteFact) → IsStrictlyIncreasing (fact_numbers facts) → certified_site op ≡ Some site →
    k < length facts → slice_index (fact_numbers facts) k ≡ site → is_spawned (slice_index_or facts k d).kind ≡ starts_thread op → IsNamedRight facts op
named_right facts op site k d rises e lt is right = λ other f.
    let same : site ≡ other = same_Some site other (sym e ∙ f) in
    let named : IsTrue (is_named facts site) = rising.named_at facts k site lt is in
    let kind : is_spawned (kind_in facts site) ≡ starts_thread op = sym (ap is_spawned (rising.kind_at facts site k d rises lt is)) ∙ right in
    subst (λ (s : ℕ). IsTrue (is_named facts s) × (is_spawned (kind_in facts s) ≡ starts_thread op)) same (named, kind)

pub named_wrong : (facts : List SiteFact) (op : Op) (site k : ℕ) (d : SiteFact) → IsStrictlyIncreasing (fact_numbers facts) → certified_site op ≡ Some site →
    k < length facts → slice_index (fact_numbers facts) k ≡ site → (is_spawned (slice_index_or facts k d).kind ≡ starts_thread op → IsTrue false) →
    IsNamedRight facts op → IsTrue false
named_wrong facts op site k d rises e lt is wrong h = wrong (ap is_spawned (rising.kind_at facts site k d rises lt is) ∙ (h site e).1)

or_false : (b c : Bool) → c ≡ false → b ≡ (b || c)
or_false true c e = refl
or_false false c e = sym e

differ : (facts : List SiteFact) (j k site : ℕ) → IsStrictlyIncreasing (fact_numbers facts) → j < length facts → k < length facts → slice_index (fact_numbers facts) k ≡ site →
    (j ≡ k → ⊥) → site ≡ slice_index (fact_numbers facts) j → ⊥
differ facts j k site rises jl kl is other e = elim (cases_lt j k) [
  | inl below ↦ rising.lower_differ facts k site rises kl is j below (sym e)
  | inr above ↦ rising.lower_differ facts j (slice_index (fact_numbers facts) j) rises jl refl k (let ne : j ≢ k = other in omega arith) (is ∙ e)
]

pub noted_one : (facts : List SiteFact) (seen : List Bool) (op : Op) (site k : ℕ) → IsStrictlyIncreasing (fact_numbers facts) → length seen ≡ length facts →
    certified_site op ≡ Some site → k < length facts → slice_index (fact_numbers facts) k ≡ site → (j : ℕ) → j < length facts →
    is_marked (slice_set seen k true) j ≡ (is_marked seen j || is_site (slice_index (fact_numbers facts) j) (certified_site op))
noted_one facts seen op site k rises same e lt is j jl = elim (cases_eq j k) [
  | inl at ↦
      (let room : k < length seen = omega arith in
      let here : is_marked (slice_set seen k true) j ≡ true = ap (λ (n : ℕ). is_marked (slice_set seen k true) n) at ∙ get_or-set_same seen k true false room in
      let number : site ≡ slice_index (fact_numbers facts) j = sym (ap (λ (n : ℕ). slice_index (fact_numbers facts) n) at ∙ is) in
      let there : is_site (slice_index (fact_numbers facts) j) (certified_site op) ≡ true =
      ap (λ o. is_site (slice_index (fact_numbers facts) j) o) e ∙ eq-eqb site (slice_index (fact_numbers facts) j) number in
      here ∙ sym (or_right (is_marked seen j) (is_site (slice_index (fact_numbers facts) j) (certified_site op)) there))
  | inr other ↦
      (let there : is_site (slice_index (fact_numbers facts) j) (certified_site op) ≡ false =
      ap (λ o. is_site (slice_index (fact_numbers facts) j) o) e ∙ ne_eqb site (slice_index (fact_numbers facts) j) (differ facts j k site rises jl lt is other) in
      get_or-set_other seen k j true false other ∙ or_false (is_marked seen j) (is_site (slice_index (fact_numbers facts) j) (certified_site op)) there)
]

-- ---- the operations of a function

pub one_unnamed : (facts : List SiteFact) (ops : List Op) (i : ℕ) (op : Op) → i < length ops → op ≡ slice_index_or ops i op → (IsNamedRight facts op → IsTrue false) →
    ((k : ℕ) (o : Op) → slice_get ops k ≡ Some o → IsNamedRight facts o) → IsTrue false
one_unnamed facts ops i op lt at wrong all = wrong (all i op (slice_get_read ops (length ops) i op refl lt at))

pub named_more : (facts : List SiteFact) (ops : List Op) (i : ℕ) (op : Op) → i < length ops → op ≡ slice_index_or ops i op → IsNamedRight facts op →
    ((j : ℕ) (o : Op) → j < i → slice_get ops j ≡ Some o → IsNamedRight facts o) → (j : ℕ) (o : Op) → j < i + 1 → slice_get ops j ≡ Some o → IsNamedRight facts o
named_more facts ops i op lt at right before j o less e = elim (cases_lt j i) [
  | inl below ↦ before j o below e
  | inr above ↦
      (let is : i ≡ j = omega arith in
      let here : slice_get ops j ≡ Some op = ap (λ (n : ℕ). slice_get ops n) (sym is) ∙ slice_get_read ops (length ops) i op refl lt at in
      let same : op ≡ o = same_Some op o (sym here ∙ e) in
      subst (λ (p : Op). IsNamedRight facts p) same right)
]

or_assoc : (a b c : Bool) → ((a || b) || c) ≡ (a || (b || c))
or_assoc true b c = refl
or_assoc false b c = refl

pub noted_more : {X : Type 0} (p : X → Bool) (xs : List X) (i : ℕ) (x : X) (new old first : Bool) → i < length xs → x ≡ slice_index_or xs i x →
    new ≡ (old || p x) → old ≡ (first || list_any p (take i xs)) → new ≡ (first || list_any p (take (i + 1) xs))
noted_more p xs i x new old first lt at e before =
    let step : list_any p (take (i + 1) xs) ≡ (list_any p (take i xs) || p x) = list_any_more p xs i x lt ∙ ap (λ y. list_any p (take i xs) || p y) (sym at) in
    e ∙ (ap (λ b. b || p x) before ∙ (or_assoc first (list_any p (take i xs)) (p x) ∙ ap (λ b. first || b) (sym step)))

pub noted_function : {X : Type 0} (p : X → Bool) (xs : List X) (i : ℕ) (x : X) (new old : Bool) → i < length xs → x ≡ slice_index_or xs i x →
    new ≡ (old || p x) → old ≡ list_any p (take i xs) → new ≡ list_any p (take (i + 1) xs)
noted_function p xs i x new old lt at e before = noted_more p xs i x new old false lt at e before

-- ---- the whole program

site_is : (op : Op) (site : ℕ) → certified_site op ≡ Some site → site_of op ≡ Some site
site_is (Op.Call s d f args) site e = e
site_is (Op.CallTable s d t i x) site e = e
site_is (Op.Spawn s d f x) site e = e
site_is _ site e = cc

links_as : (certificate : Certificate) (op : Op) (site : ℕ) → certified_site op ≡ Some site → kind_of certificate op ≡ kind_in certificate.sites site
links_as certificate op site e = ap (λ o. kind_at certificate o) (site_is op site e)

-- function g is the one that the code reads at g
pub function_is : (code : FlatCode) (g : ℕ) (function : FlatFunction) → g < length code.functions → function ≡ slice_index_or code.functions g function → function_at code g ≡ function
function_is code g function lt at = get_or_default code.functions g _ function lt ∙ sym at

pub right_in : (code : FlatCode) (certificate : Certificate) (g : ℕ) (function : FlatFunction) (facts : List SiteFact) (ops : List Op) → g < length code.functions →
    function ≡ slice_index_or code.functions g function → facts ≡ certificate.sites → ops ≡ function.ops →
    NamesSites code certificate → (k : ℕ) (op : Op) → slice_get ops k ≡ Some op → IsNamedRight facts op
right_in code certificate g function facts ops lt at same listed names k op e = subst (λ fs. IsNamedRight fs op) (sym same) right
  where
    right : IsNamedRight certificate.sites op
    right = λ site f.
        let there : operation_at code g k ≡ Some op = ap (λ h. slice_get h.ops k) (function_is code g function lt at) ∙ (ap (λ l. slice_get l k) (sym listed) ∙ e) in
        let both = names.each g k site op there f in
        (both.0, ap is_spawned (sym (links_as certificate op site f)) ∙ both.1)

pub right_more : (code : FlatCode) (facts : List SiteFact) (i : ℕ) (function : FlatFunction) (ops : List Op) → i < length code.functions → function ≡ slice_index_or code.functions i function →
    ops ≡ function.ops → ((k : ℕ) (op : Op) → slice_get ops k ≡ Some op → IsNamedRight facts op) →
    ((g j : ℕ) (op : Op) → g < i → operation_at code g j ≡ Some op → IsNamedRight facts op) →
    (g j : ℕ) (op : Op) → g < i + 1 → operation_at code g j ≡ Some op → IsNamedRight facts op
right_more code facts i function ops lt at listed right before g j op less e = elim (cases_lt g i) [
  | inl below ↦ before g j op below e
  | inr above ↦
      (let is : i ≡ g = omega arith in
      let here : slice_get function.ops j ≡ Some op = ap (λ h. slice_get h.ops j) (sym (function_is code i function lt at)) ∙ (ap (λ (n : ℕ). operation_at code n j) is ∙ e) in
      right j op (ap (λ l. slice_get l j) listed ∙ here))
]

inside : (code : FlatCode) (g i k : ℕ) (op : Op) → length code.functions ≤ i → operation_at code g k ≡ Some op → g < i
inside code g i k op le e = elim (cases_lt g (length code.functions)) [
  | inl below ↦ omega arith
  | inr past ↦
      (let none : function_at code g ≡ record { params = 0; gives = false; sizes = []; ops = [] } = get_or_past code.functions g _ past in
      let nothing : None ≡ Some op = sym (ap (λ h. slice_get h.ops k) none) ∙ e in
      absurd (cc))
]

pub names_all : (code : FlatCode) (certificate : Certificate) (i : ℕ) (seen : List Bool) (facts : List SiteFact) → facts ≡ certificate.sites → length code.functions ≤ i →
    IsStrictlyIncreasing (fact_numbers facts) → length seen ≡ length facts →
    ((g j : ℕ) (op : Op) → g < i → operation_at code g j ≡ Some op → IsNamedRight facts op) →
    ((k : ℕ) → k < length facts → is_marked seen k ≡ list_any (λ f. list_any (λ op. is_site (slice_index (fact_numbers facts) k) (certified_site op)) f.ops) (take i code.functions)) →
    ((k : ℕ) → k < length seen → is_marked seen k ≡ true) → NamesSites code certificate
names_all code certificate i seen facts eq le rises same right noted all = record {
  rising = subst (λ fs. IsStrictlyIncreasing (fact_numbers fs)) eq rises;
  each = λ g k site op e f.
      let named = right g k op (inside code g i k op le e) e site f in (
        subst (λ fs. IsTrue (is_named fs site)) eq named.0,
        ap is_spawned (links_as certificate op site f) ∙ (ap (λ fs. is_spawned (kind_in fs site)) (sym eq) ∙ named.1),
      );
  no_other = λ site named.
      let here : is_named facts site ≡ true = subst (λ fs. IsTrue (is_named fs site)) (sym eq) named in
      let w = rising.named_where facts site here in
      let marked : is_marked seen w.0 ≡ true = all w.0 (let lt = w.1 in omega arith) in
      let whole : take i code.functions ≡ code.functions = take_all i code.functions le in
      let some : has_site code (slice_index (fact_numbers facts) w.0) ≡ true =
      ap (λ fs. list_any (λ f. list_any (λ op. is_site (slice_index (fact_numbers facts) w.0) (certified_site op)) f.ops) fs) (sym whole) ∙ (sym (noted w.0 w.1) ∙ marked) in
      subst (λ (s : ℕ). has_site code s ≡ true) w.2 some;
}

pub seen_all : (code : FlatCode) (certificate : Certificate) (i : ℕ) (seen : List Bool) (facts : List SiteFact) → facts ≡ certificate.sites → length code.functions ≤ i →
    length seen ≡ length facts →
    ((k : ℕ) → k < length facts → is_marked seen k ≡ list_any (λ f. list_any (λ op. is_site (slice_index (fact_numbers facts) k) (certified_site op)) f.ops) (take i code.functions)) →
    NamesSites code certificate → (k : ℕ) → k < length seen → is_marked seen k ≡ true
seen_all code certificate i seen facts eq le same noted names k lt =
    let room : k < length facts = omega arith in
    let named : is_named facts (slice_index (fact_numbers facts) k) ≡ true = rising.named_at facts k (slice_index (fact_numbers facts) k) room refl in
    let whole : take i code.functions ≡ code.functions = take_all i code.functions le in
    noted k room ∙
    (ap (λ fs. list_any (λ f. list_any (λ op. is_site (slice_index (fact_numbers facts) k) (certified_site op)) f.ops) fs) whole ∙
    names.no_other (slice_index (fact_numbers facts) k) (subst (λ fs. is_named fs (slice_index (fact_numbers facts) k) ≡ true) eq named))
