-- How the operations of a program link by a certificate that is laid out.
use Rattle.codegen_link.proofs.Common.{◌≡◌, ℕ, zero, suc, ◌<◌, ◌⊎◌, inl, inr, Bool, true, false, List, [], ◌∷◌, ◌++◌, length, map, get_or, Option, Some, None, refl, sym, ap, subst, ◌∙◌, arith, eqb, nat_eq, slice_get, filter_map, flat_map, Contains, AllByRecursion, IsDistinct, cons_option, IsPermutation, IsNonDecreasingBy, IsNonDecreasing, IsStrictlyIncreasing, nat_tests, length-map, get_or-map, All-from_recursion, recursion_from_All, filter_map-append, All-permutation, Contains-permutation, IsPermutation-map, Op, FlatFunction, FlatCode, operation_at, site_of, IsWellFormed, Plan, Certificate, LinkKind, SiteFact, kind_in, kind_or, kind_of, HasFacts, link, site_fact, site_facts, eqb-flips}
use Rattle.std.proofs.lemmas.Map.Keys.{IsDistinct-head, IsDistinct-tail, IsDistinct-cons, IsDistinct-IsPermutation, IsStrictlyIncreasing-from_distinct}

abbrev numbers : List SiteFact → List ℕ
numbers facts = map (λ fact. fact.number) facts

-- ---- operations of a program, one after another

abbrev Among : List Op → Op → Type 0
Among [] op = ⊥
Among (x ∷ xs) op = (x ≡ op) ⊎ Among xs op

abbrev all_ops : List FlatFunction → List Op
all_ops fs = flat_map (λ f. f.ops) fs

flatten : {Y : Type 0} (h : Op → Option Y) (fs : List FlatFunction) → flat_map (λ f. filter_map h f.ops) fs ≡ filter_map h (all_ops fs)
flatten h [] = refl
flatten h (f ∷ fs) = ap (λ t. filter_map h f.ops ++ t) (flatten h fs) ∙ sym (filter_map-append h f.ops (all_ops fs))

among-at : (ops : List Op) (i : ℕ) (op : Op) → slice_get ops i ≡ Some op → Among ops op
among-at [] i op h = cc
among-at (x ∷ xs) zero op h = inl (cc)
among-at (x ∷ xs) (suc i) op h = inr (among-at xs i op h)

among-left : (xs ys : List Op) (op : Op) → Among xs op → Among (xs ++ ys) op
among-left [] ys op h = absurd h
among-left (x ∷ xs) ys op h = elim h [ inl e ↦ inl e | inr more ↦ inr (among-left xs ys op more) ]

among-right : (xs ys : List Op) (op : Op) → Among ys op → Among (xs ++ ys) op
among-right [] ys op h = h
among-right (x ∷ xs) ys op h = inr (among-right xs ys op h)

among-functions : (fs : List FlatFunction) (f i : ℕ) (d : FlatFunction) (op : Op) → f < length fs → slice_get (get_or fs f d).ops i ≡ Some op → Among (all_ops fs) op
among-functions [] f i d op lt h = absurd (omega arith)
among-functions (x ∷ xs) zero i d op lt h = among-left x.ops (all_ops xs) op (among-at x.ops i op h)
among-functions (x ∷ xs) (suc f) i d op lt h = among-right x.ops (all_ops xs) op (among-functions xs f i d op (omega arith) h)

-- ---- facts of sites

contains-cons : (x fact : SiteFact) (xs : List SiteFact) → Contains xs fact → Contains (x ∷ xs) fact
contains-cons x fact xs h = (suc h.0, omega (arith, h.1), h.2)

all-numbers : (P : ℕ → Type 0) (xs : List SiteFact) (fact : SiteFact) → AllByRecursion P (numbers xs) → (k : ℕ) → k < length xs → get_or xs k fact ≡ fact → P fact.number
all-numbers P [] fact all k lt e = absurd (omega arith)
all-numbers P (x ∷ xs) fact all zero lt e = subst (λ (y : SiteFact). P y.number) e all.0
all-numbers P (x ∷ xs) fact all (suc k) lt e = all-numbers P xs fact all.1 k (omega arith) e

same-number : (n : ℕ) → nat_eq n n ≡ true
same-number n = grind (arith, nat_tests)

kind-head : (test : Bool) (kind rest : LinkKind) → test ≡ true → kind_or test kind rest ≡ kind
kind-head true kind rest h = refl
kind-head false kind rest h = cc

kind-rest : (test : Bool) (kind rest : LinkKind) → test ≡ false → kind_or test kind rest ≡ rest
kind-rest true kind rest h = cc
kind-rest false kind rest h = refl

-- where no number stands twice, a site links as its fact says
kind-is : (facts : List SiteFact) (fact : SiteFact) → IsDistinct eqb (numbers facts) → (k : ℕ) → k < length facts → get_or facts k fact ≡ fact → kind_in facts fact.number ≡ fact.kind
kind-is [] fact distinct k lt e = absurd (omega arith)
kind-is (x ∷ xs) fact distinct zero lt e =
    subst (λ (y : SiteFact). kind_or (nat_eq y.number fact.number) y.kind (kind_in xs fact.number) ≡ fact.kind) (sym e)
    (kind-head (nat_eq fact.number fact.number) fact.kind (kind_in xs fact.number) (same-number fact.number))
kind-is (x ∷ xs) fact distinct (suc k) lt e =
    kind-rest (nat_eq x.number fact.number) x.kind (kind_in xs fact.number)
    (all-numbers (λ y. eqb x.number y ≡ false) xs fact (IsDistinct-head eqb x.number (numbers xs) distinct) k (omega arith) e) ∙
    kind-is xs fact (IsDistinct-tail eqb x.number (numbers xs) distinct) k (omega arith) e

-- a site without a fact is plain
kind-absent : (facts : List SiteFact) (site : ℕ) → AllByRecursion (λ n. eqb n site ≡ false) (numbers facts) → kind_in facts site ≡ LinkKind.Plain
kind-absent [] site all = refl
kind-absent (x ∷ xs) site all = kind-rest (nat_eq x.number site) x.kind (kind_in xs site) all.0 ∙ kind-absent xs site all.1

-- ---- numbers of sites, where an operation has one

all-rest : (P : ℕ → Type 0) (o : Option ℕ) (ns : List ℕ) → AllByRecursion P (cons_option o ns) → AllByRecursion P ns
all-rest P None ns all = all
all-rest P (Some n) ns all = all.1

all-first : (P : ℕ → Type 0) (o : Option ℕ) (ns : List ℕ) (n : ℕ) → o ≡ Some n → AllByRecursion P (cons_option o ns) → P n
all-first P None ns n e all = cc
all-first P (Some m) ns n e all = let same : m ≡ n = cc in subst P same all.0

distinct-rest : (o : Option ℕ) (ns : List ℕ) → IsDistinct eqb (cons_option o ns) → IsDistinct eqb ns
distinct-rest None ns h = h
distinct-rest (Some n) ns h = IsDistinct-tail eqb n ns h

distinct-first : (o : Option ℕ) (ns : List ℕ) (n : ℕ) → o ≡ Some n → IsDistinct eqb (cons_option o ns) → AllByRecursion (λ y. eqb n y ≡ false) ns
distinct-first None ns n e h = cc
distinct-first (Some m) ns n e h =
    let same : m ≡ n = cc in
    subst (λ k. AllByRecursion (λ y. eqb k y ≡ false) ns) same (IsDistinct-head eqb m ns h)

site-among : (ops : List Op) (op : Op) (site : ℕ) (P : ℕ → Type 0) → Among ops op → site_of op ≡ Some site → AllByRecursion P (filter_map site_of ops) → P site
site-among [] op site P h is all = absurd h
site-among (x ∷ xs) op site P h is all = elim h [
  | inl e ↦ all-first P (site_of x) (filter_map site_of xs) site (ap site_of e ∙ is) all
  | inr more ↦ site-among xs op site P more is (all-rest P (site_of x) (filter_map site_of xs) all)
]

all-flipped : (site : ℕ) (ns : List ℕ) → AllByRecursion (λ y. eqb site y ≡ false) ns → AllByRecursion (λ y. eqb y site ≡ false) ns
all-flipped site [] all = tt
all-flipped site (n ∷ ns) all = (eqb-flips n site ∙ all.0, all-flipped site ns all.1)

absent-cons : (P : ℕ → Type 0) (o : Option SiteFact) (fs : List SiteFact) → ((fact : SiteFact) → o ≡ Some fact → P fact.number) → AllByRecursion P (numbers fs) → AllByRecursion P (numbers (cons_option o fs))
absent-cons P None fs first more = more
absent-cons P (Some fact) fs first more = (first fact refl, more)

-- ---- the facts of operations

module _ (code : FlatCode) (plan : Plan) where
  abbrev facts : List Op → List SiteFact
  facts ops = filter_map (site_fact code plan) ops

  fact-cons : (o : Option SiteFact) (xs : List SiteFact) (fact : SiteFact) → Contains xs fact → Contains (cons_option o xs) fact
  fact-cons None xs fact h = h
  fact-cons (Some x) xs fact h = contains-cons x fact xs h

  fact-first : (o : Option SiteFact) (xs : List SiteFact) (fact : SiteFact) → o ≡ Some fact → Contains (cons_option o xs) fact
  fact-first None xs fact h = cc
  fact-first (Some x) xs fact h = let e : x ≡ fact = cc in (0, omega arith, e)

  fact-among : (ops : List Op) (op : Op) (fact : SiteFact) → Among ops op → site_fact code plan op ≡ Some fact → Contains (facts ops) fact
  fact-among [] op fact h is = absurd h
  fact-among (x ∷ xs) op fact h is = elim h [
    | inl e ↦ fact-first (site_fact code plan x) (facts xs) fact (ap (site_fact code plan) e ∙ is)
    | inr more ↦ fact-cons (site_fact code plan x) (facts xs) fact (fact-among xs op fact more is)
  ]

  number-apart : (op : Op) (P : ℕ → Type 0) (fs : List SiteFact) (ns : List ℕ) → (AllByRecursion P ns → AllByRecursion P (numbers fs)) →
      AllByRecursion P (cons_option (site_of op) ns) → AllByRecursion P (numbers (cons_option (site_fact code plan op) fs))
  number-apart (Op.Call site d f args) P fs ns more all = (all.0, more all.1)
  number-apart (Op.CallTable site d t i s) P fs ns more all = (all.0, more all.1)
  number-apart (Op.Model site d n args) P fs ns more all = more all.1
  number-apart (Op.Spawn site d f s) P fs ns more all = (all.0, more all.1)
  number-apart _ P fs ns more all = more all

  numbers-apart : (ops : List Op) (P : ℕ → Type 0) → AllByRecursion P (filter_map site_of ops) → AllByRecursion P (numbers (facts ops))
  numbers-apart [] P all = tt
  numbers-apart (op ∷ ops) P all = number-apart op P (facts ops) (filter_map site_of ops) (numbers-apart ops P) all

  distinct-op : (op : Op) (ops : List Op) → (IsDistinct eqb (filter_map site_of ops) → IsDistinct eqb (numbers (facts ops))) →
      IsDistinct eqb (cons_option (site_of op) (filter_map site_of ops)) → IsDistinct eqb (numbers (cons_option (site_fact code plan op) (facts ops)))
  distinct-op (Op.Call site d f args) ops more h =
      IsDistinct-cons eqb site (numbers (facts ops)) (numbers-apart ops (λ y. eqb site y ≡ false) (IsDistinct-head eqb site (filter_map site_of ops) h)) (more (IsDistinct-tail eqb site (filter_map site_of ops) h))
  distinct-op (Op.CallTable site d t i s) ops more h =
      IsDistinct-cons eqb site (numbers (facts ops)) (numbers-apart ops (λ y. eqb site y ≡ false) (IsDistinct-head eqb site (filter_map site_of ops) h)) (more (IsDistinct-tail eqb site (filter_map site_of ops) h))
  distinct-op (Op.Model site d n args) ops more h = more (IsDistinct-tail eqb site (filter_map site_of ops) h)
  distinct-op (Op.Spawn site d f s) ops more h =
      IsDistinct-cons eqb site (numbers (facts ops)) (numbers-apart ops (λ y. eqb site y ≡ false) (IsDistinct-head eqb site (filter_map site_of ops) h)) (more (IsDistinct-tail eqb site (filter_map site_of ops) h))
  distinct-op _ ops more h = more h

  numbers-distinct : (ops : List Op) → IsDistinct eqb (filter_map site_of ops) → IsDistinct eqb (numbers (facts ops))
  numbers-distinct [] h = h
  numbers-distinct (op ∷ ops) h = distinct-op op ops (numbers-distinct ops) h

  fact-number : (op : Op) (fact : SiteFact) → site_fact code plan op ≡ Some fact → site_of op ≡ Some fact.number
  fact-number (Op.Call site d f args) fact e = let same : record { number = site; kind = link code plan (Op.Call site d f args) } ≡ fact = cc in ap (λ (x : SiteFact). Some x.number) same
  fact-number (Op.CallTable site d t i s) fact e = let same : record { number = site; kind = link code plan (Op.CallTable site d t i s) } ≡ fact = cc in ap (λ (x : SiteFact). Some x.number) same
  fact-number (Op.Spawn site d f s) fact e = let same : record { number = site; kind = link code plan (Op.Spawn site d f s) } ≡ fact = cc in ap (λ (x : SiteFact). Some x.number) same
  fact-number _ fact e = cc

  -- the number of a site without a fact is no fact's
  absent : (ops : List Op) (op : Op) (site : ℕ) → site_of op ≡ Some site → site_fact code plan op ≡ None → IsDistinct eqb (filter_map site_of ops) → Among ops op →
      AllByRecursion (λ n. eqb n site ≡ false) (numbers (facts ops))
  absent [] op site is none distinct h = absurd h
  absent (x ∷ xs) op site is none distinct h = elim h [
    | inl e ↦ absent-cons (λ n. eqb n site ≡ false) (site_fact code plan x) (facts xs)
        (λ fact some. let no : None ≡ Some fact = sym none ∙ (sym (ap (site_fact code plan) e) ∙ some) in cc)
        (numbers-apart xs (λ n. eqb n site ≡ false) (all-flipped site (filter_map site_of xs) (distinct-first (site_of x) (filter_map site_of xs) site (ap site_of e ∙ is) distinct)))
    | inr more ↦ absent-cons (λ n. eqb n site ≡ false) (site_fact code plan x) (facts xs)
        (λ fact some. site-among xs op site (λ y. eqb fact.number y ≡ false) more is (distinct-first (site_of x) (filter_map site_of xs) fact.number (fact-number x fact some) distinct))
        (absent xs op site is none (distinct-rest (site_of x) (filter_map site_of xs) distinct) more)
  ]

  module _ (ops : List Op) (certificate : Certificate) (distinct : IsDistinct eqb (filter_map site_of ops)) (sorted : IsPermutation (facts ops) certificate.sites) where
    distinct-sorted : IsDistinct eqb (numbers certificate.sites)
    distinct-sorted = IsDistinct-IsPermutation eqb eqb-flips (numbers (facts ops)) (numbers certificate.sites) (IsPermutation-map (λ (fact : SiteFact). fact.number) (facts ops) certificate.sites sorted) (numbers-distinct ops distinct)

    by-fact : (op : Op) (fact : SiteFact) → Among ops op → site_fact code plan op ≡ Some fact → kind_in certificate.sites fact.number ≡ fact.kind
    by-fact op fact h is =
        let there : Contains certificate.sites fact = Contains-permutation (facts ops) certificate.sites fact sorted (fact-among ops op fact h is) in
        kind-is certificate.sites fact distinct-sorted there.0 there.1 there.2

    planned : (op : Op) → Among ops op → kind_of certificate op ≡ link code plan op
    planned (Op.Call site d f args) h = by-fact (Op.Call site d f args) (record { number = site; kind = link code plan (Op.Call site d f args) }) h refl
    planned (Op.CallTable site d t i s) h = by-fact (Op.CallTable site d t i s) (record { number = site; kind = link code plan (Op.CallTable site d t i s) }) h refl
    planned (Op.Spawn site d f s) h = by-fact (Op.Spawn site d f s) (record { number = site; kind = link code plan (Op.Spawn site d f s) }) h refl
    planned (Op.Model site d n args) h =
        kind-absent certificate.sites site (recursion_from_All (λ y. eqb y site ≡ false) (numbers certificate.sites)
        (All-permutation (λ y. eqb y site ≡ false) (numbers (facts ops)) (numbers certificate.sites) (IsPermutation-map (λ (fact : SiteFact). fact.number) (facts ops) certificate.sites sorted)
        (All-from_recursion (λ y. eqb y site ≡ false) (numbers (facts ops)) (absent ops (Op.Model site d n args) site refl refl distinct h))))
    planned _ h = refl

  ops-distinct : IsWellFormed code → IsDistinct eqb (filter_map site_of (all_ops code.functions))
  ops-distinct formed = subst (IsDistinct eqb) (flatten site_of code.functions) formed.sites

  sorted-ops : (sites : List SiteFact) → IsPermutation (site_facts code plan) sites → IsPermutation (facts (all_ops code.functions)) sites
  sorted-ops sites h = subst (λ xs. IsPermutation xs sites) (flatten (site_fact code plan) code.functions) h

  -- the certificate says of each operation how it links
  pub kind-link : (certificate : Certificate) (f i : ℕ) (op : Op) → IsWellFormed code → HasFacts code plan certificate → f < length code.functions → operation_at code f i ≡ Some op →
      kind_of certificate op ≡ link code plan op
  kind-link certificate f i op formed has lt there =
      planned (all_ops code.functions) certificate (ops-distinct formed) (sorted-ops certificate.sites has.sites) op
      (among-functions code.functions f i (record { params = 0; gives = false; sizes = []; ops = [] }) op lt there)

  -- sorted by number, the facts' numbers rise
  pub rising : (sites : List SiteFact) → IsWellFormed code → IsPermutation (site_facts code plan) sites → IsNonDecreasingBy (λ (fact : SiteFact). fact.number) sites → IsStrictlyIncreasing (numbers sites)
  rising sites formed permutation up =
      let apart : IsDistinct eqb (numbers sites) =
      IsDistinct-IsPermutation eqb eqb-flips (numbers (facts (all_ops code.functions))) (numbers sites)
      (IsPermutation-map (λ (fact : SiteFact). fact.number) (facts (all_ops code.functions)) sites (sorted-ops sites permutation)) (numbers-distinct (all_ops code.functions) (ops-distinct formed)) in
      let up' : IsNonDecreasing (numbers sites) = λ i j d le within.
      let lt : j < length sites = omega (arith, within, length-map sites (λ (x : SiteFact). x.number)) in
      let lt' : i < length sites = omega (arith, lt, le) in
      let none : SiteFact = record { number = 0; kind = LinkKind.Plain } in
      rw (get_or-map (λ (s : SiteFact). s.number) sites i none d lt', get_or-map (λ (s : SiteFact). s.number) sites j none d lt) (up i j none le lt) in
      IsStrictlyIncreasing-from_distinct (numbers sites) up' apart
