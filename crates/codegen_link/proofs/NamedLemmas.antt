-- The certificate that is laid out names just the sites of the program, and says the bounds of the plan.
use Rattle.codegen_link.proofs.Common.{◌≡◌, ℕ, zero, suc, ◌<◌, ◌≤◌, inl, inr, Bool, true, false, List, [], ◌∷◌, length, map, max, Some, None, refl, sym, ap, ◌∙◌, arith, nat_eq, ◌||◌, slice_get, slice_index, slice_index_or, filter_map, flat_map, AllByRecursion, cons_option, list_any, cases_lt, nat_tests, length-map, list_any-IsPermutation, slice_get-get_or, Op, FlatFunction, FlatCode, function_at, operation_at, members_of, IsWellFormed, signature_of, greatest, Plan, Certificate, SiteFact, all_at, IsNeed, callee_bound, callees_of, certified_site, greatest_bound, has_site, is_named, is_site, is_spawned, starts_thread, NamesThere, HasFacts, link, linked_if, need, site_fact, site_facts, list_any-append, any_passes_from_place}
use Rattle.cap_word.specs.Signatures.{IsMember, IsTable}
use Rattle.codegen_link.proofs.FactLemmas.{fact-is}

get-past : {X : Type 0} (xs : List X) (i : ℕ) (d : X) → length xs ≤ i → slice_index_or xs i d ≡ d
get-past [] i d le = refl
get-past (x ∷ xs) zero d le = absurd (omega arith)
get-past (x ∷ xs) (suc i) d le = get-past xs i d (omega arith)

or-assoc : (a b c : Bool) → (a || (b || c)) ≡ ((a || b) || c)
or-assoc true b c = refl
or-assoc false b c = refl

-- an operation that is there stands in a function that is there
pub function-there : (code : FlatCode) (f i : ℕ) (op : Op) → operation_at code f i ≡ Some op → f < length code.functions
function-there code f i op e = elim (cases_lt f (length code.functions)) [
  | inl lt ↦ lt
  | inr past ↦
      let none : operation_at code f i ≡ None = ap (λ (function : FlatFunction). slice_get function.ops i) (get-past code.functions f (record { params = 0; gives = false; sizes = []; ops = [] }) past) in
      let no : None ≡ Some op = sym none ∙ e in
      cc
]

-- ---- whether a site is named

module _ (code : FlatCode) (plan : Plan) (site : ℕ) where
  abbrev is-fact-of : SiteFact → Bool
  is-fact-of fact = nat_eq fact.number site

  abbrev is-at : Op → Bool
  is-at op = is_site site (certified_site op)

  named-op : (op : Op) (facts : List SiteFact) → list_any is-fact-of (cons_option (site_fact code plan op) facts) ≡ (is-at op || list_any is-fact-of facts)
  named-op (Op.Call number d f args) facts = refl
  named-op _ facts = refl

  named-ops : (ops : List Op) → list_any is-fact-of (filter_map (site_fact code plan) ops) ≡ list_any is-at ops
  named-ops [] = refl
  named-ops (op ∷ ops) = named-op op (filter_map (site_fact code plan) ops) ∙ ap (λ b. is-at op || b) (named-ops ops)

  named-functions : (fs : List FlatFunction) → list_any is-fact-of (flat_map (λ f. filter_map (site_fact code plan) f.ops) fs) ≡ list_any (λ (f : FlatFunction). list_any is-at f.ops) fs
  named-functions [] = refl
  named-functions (f ∷ fs) =
      list_any-append is-fact-of (filter_map (site_fact code plan) f.ops) (flat_map (λ g. filter_map (site_fact code plan) g.ops) fs) ∙
      (ap (λ b. b || list_any is-fact-of (flat_map (λ (g : FlatFunction). filter_map (site_fact code plan) g.ops) fs)) (named-ops f.ops) ∙
      ap (λ b. list_any is-at f.ops || b) (named-functions fs))

  pub named-is : (certificate : Certificate) → HasFacts code plan certificate → is_named certificate.sites site ≡ has_site code site
  named-is certificate has = sym (list_any-IsPermutation is-fact-of (site_facts code plan) certificate.sites has.sites) ∙ named-functions code.functions

  pub site-there : (f i : ℕ) (op : Op) → operation_at code f i ≡ Some op → certified_site op ≡ Some site → has_site code site ≡ true
  site-there f i op e is =
      let lt = function-there code f i op e in
      let same : nat_eq site site ≡ true = grind (arith, nat_tests) in
      let here : is-at op ≡ true = ap (is_site site) is ∙ same in
      any_passes_from_place (λ (g : FlatFunction). list_any is-at g.ops) code.functions f (function_at code f)
      (slice_get-get_or code.functions f (record { params = 0; gives = false; sizes = []; ops = [] }) lt) (any_passes_from_place is-at (function_at code f).ops i op e here)

-- ---- how operations link

not-spawned : (b : Bool) (bytes : ℕ) → is_spawned (linked_if b bytes) ≡ false
not-spawned true bytes = refl
not-spawned false bytes = refl

pub spawned-is : (code : FlatCode) (plan : Plan) (op : Op) → is_spawned (link code plan op) ≡ starts_thread op
spawned-is code plan (Op.Call site d f args) = not-spawned _ _
spawned-is code plan (Op.CallTable site d t i x) = not-spawned _ _
spawned-is code plan (Op.Spawn site d f x) = refl
spawned-is code plan _ = refl

is-need : (b : Bool) (bytes : ℕ) → IsNeed (linked_if b bytes) bytes
is-need true bytes = refl
is-need false bytes = tt

pub need-is : (code : FlatCode) (plan : Plan) (op : Op) → IsNeed (link code plan op) (need code plan op)
need-is code plan (Op.Call site d f args) = is-need _ _
need-is code plan (Op.CallTable site d t i x) = is-need _ _
need-is code plan (Op.Spawn site d f x) = refl
need-is code plan _ = tt

-- ---- bounds

bounds-same : (code : FlatCode) (plan : Plan) (certificate : Certificate) → HasFacts code plan certificate → (fs : List ℕ) → AllByRecursion (λ g. g < length code.functions) fs →
    greatest_bound certificate fs ≡ greatest (slice_index plan.bounds) fs
bounds-same code plan certificate has [] all = refl
bounds-same code plan certificate has (f ∷ fs) all =
    ap (λ (n : ℕ). max n (greatest_bound certificate fs)) (ap (λ fact. fact.bound) (fact-is code plan certificate f _ has all.0)) ∙
    ap (λ n. max (slice_index plan.bounds f) n) (bounds-same code plan certificate has fs all.1)

members-there : (code : FlatCode) (row : List ℕ) → AllByRecursion (IsMember (map signature_of code.functions)) row → AllByRecursion (λ g. g < length code.functions) row
members-there code [] all = tt
members-there code (g ∷ row) all = (omega (arith, all.0.0, length-map code.functions signature_of), members-there code row all.1)

callees-there : (code : FlatCode) (op : Op) → IsWellFormed code → NamesThere code op → AllByRecursion (λ g. g < length code.functions) (callees_of code op)
callees-there code (Op.Call site d f args) formed names = (names, tt)
callees-there code (Op.CallTable site d t i x) formed names =
    members-there code (members_of code t) (all_at (IsTable (map signature_of code.functions)) code.tables t [] formed.tables names).1
callees-there code (Op.Spawn site d f x) formed names = (names, tt)
callees-there code _ formed names = tt

-- the certificate's bounds of what an operation may enter are the plan's
pub bound-is : (code : FlatCode) (plan : Plan) (certificate : Certificate) (op : Op) → IsWellFormed code → HasFacts code plan certificate → NamesThere code op →
    callee_bound code certificate op ≡ need code plan op
bound-is code plan certificate op formed has names = bounds-same code plan certificate has (callees_of code op) (callees-there code op formed names)
