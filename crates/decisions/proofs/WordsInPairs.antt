-- All numbers of a pair that is laid out are words.
use Rattle.std.specs.Prelude.{slice_get, slice_index, sum, flat_map}
use Rattle.decisions.proofs.Common.{◌≡◌, ◌⊎◌, inl, inr, ℕ, zero, suc, ◌+◌, ◌*◌, ◌^◌, ◌<◌, ◌≤◌, Bool, true, false, List, [], ◌∷◌, ◌++◌, length, map, Some, refl, sym, ap, subst, arith, AllByRecursion, All, filter_map, cons_option, cases_lt, get_or_past, length-map, All-from_recursion, recursion_from_All, All-permutation, sum_by-cons, Instr, encoding, ProgramTree, program_sites, IsWellScoped, lowered, program_permutes, greatest, has, Plan, callees_of, IsValid, AreWords, HoldsFunctionWords, HoldsKindWords, HoldsSiteWords, Options, places_from, code_words, fact_of, IsCertificateOf, operations_before, function_code, functions_before, IsImageOf, need, linked_if, site_fact, site_facts, IsPlanFor, words-within, frame-holds, facts-count, fact-is, FlatFunction, Op, FlatCode, function_at, site_of, site_numbers, Image, Certificate, FunctionFact, SiteFact, fact_at, end_stub, prologue, template, All-append, all-from-index}
use Rattle.rv_code.specs.Operands.{IsInRange}
use Rattle.rv_code.proofs.Inverse.{encoding-lt}
use Rattle.certificate_text.specs.Text as certificate
use Rattle.stack_image.specs.Spelling as image

-- ---- lists

abbrev Word : ℕ → Type 0
Word n = n < 2 ^ 32

all_read : {X : Type 0} (P : X → Type 0) (xs : List X) → ((k : ℕ) (x : X) → slice_get xs k ≡ Some x → P x) → AllByRecursion P xs
all_read P [] each = tt
all_read P (x ∷ xs) each = (each 0 x refl, all_read P xs (λ k y e. each (suc k) y e))

all_map : {X : Type 0} (P : ℕ → Type 0) (value : X → ℕ) (xs : List X) → AllByRecursion (λ x. P (value x)) xs → AllByRecursion P (map value xs)
all_map P value [] all = tt
all_map P value (x ∷ xs) all = (all.0, all_map P value xs all.1)

all_values : {X : Type 0} (P : ℕ → Type 0) (value : X → ℕ) → ((x : X) → P (value x)) → (xs : List X) → AllByRecursion P (map value xs)
all_values P value each [] = tt
all_values P value each (x ∷ xs) = (each x, all_values P value each xs)

all_rows : {X : Type 0} (P : ℕ → Type 0) (value : X → ℕ) → ((x : X) → P (value x)) → (xss : List (List X)) → AllByRecursion P (flat_map (map value) xss)
all_rows P value each [] = tt
all_rows P value each (xs ∷ xss) = All-append P (map value xs) (flat_map (map value) xss) (all_values P value each xs) (all_rows P value each xss)

abbrev no_fact : FunctionFact
no_fact = record { entry = 0; words = 0; frame = 0; ra = 0; bound = 0; places = [] }

-- ---- the image

module _ (code : FlatCode) (i : Image) (c : Certificate) (valid : IsValid code i c) where
  function_in_range : (f : ℕ) → f < length code.functions → AllByRecursion IsInRange (function_code code c f)
  function_in_range f lt = All-append IsInRange (prologue (fact_at c f) (function_at code f).params) (operations_before code c f (length (function_at code f).ops))
      (all_read IsInRange (prologue (fact_at c f) (function_at code f).params) (λ k instr e. (((valid.holds 5 f k).v5 refl).word lt instr e).1.fits))
      (operations (length (function_at code f).ops))
    where
      operations : (k : ℕ) → AllByRecursion IsInRange (operations_before code c f k)
      operations zero = tt
      operations (suc k) = All-append IsInRange (operations_before code c f k) (template code c f k) (operations k)
          (all_read IsInRange (template code c f k) (λ w instr e. (((valid.holds 6 f k).v6 refl).words lt w instr e).fits))

  functions_in_range : (f : ℕ) → f ≤ length code.functions → AllByRecursion IsInRange (functions_before code c f)
  functions_in_range zero le = all_read IsInRange end_stub (λ k instr e. (((valid.holds 7 0 k).v7 refl).word instr e).fits)
  functions_in_range (suc f) le = All-append IsInRange (functions_before code c f) (function_code code c f) (functions_in_range f (omega (arith, le))) (function_in_range f (omega (arith, le)))

  encodings : (instrs : List Instr) → AllByRecursion IsInRange instrs → AllByRecursion Word (map encoding instrs)
  encodings [] all = tt
  encodings (instr ∷ instrs) all = (encoding-lt instr all.0, encodings instrs all.1)

  entry_small : (f : ℕ) → (fact_at c f).entry < 2 ^ 32
  entry_small f = by (cases_lt f (length code.functions)) where
    by : (f < length code.functions) ⊎ (length code.functions ≤ f) → (fact_at c f).entry < 2 ^ 32
    by (inl lt) =
        let inside = (((valid.holds 2 f 1).v2 refl).inside refl lt).2 in
        let words = (((valid.holds 1 0 2).v1 refl).words refl).1 in
        omega (arith, inside, words)
    by (inr past) =
        let count = (((valid.holds 1 0 3).v1 refl).functions refl).0 in
        let none : fact_at c f ≡ no_fact = get_or_past c.functions f no_fact (omega (arith, count, past)) in
        let zero_entry : (fact_at c f).entry ≡ 0 = ap (λ (fact : FunctionFact). fact.entry) none in
        omega (arith, zero_entry)

  pub image_words : IsImageOf code c i → All Word i.globals → image.HoldsWords i
  image_words is globals = record {
    code = All-from_recursion Word i.code (subst (AllByRecursion Word) (sym is.words) (encodings (functions_before code c (length code.functions)) (functions_in_range (length code.functions) (omega arith))));
    globals = globals;
    tables = All-from_recursion Word i.tables (subst (AllByRecursion Word) (sym is.tables) (all_rows Word (λ (f : ℕ). (fact_at c f).entry) entry_small code.tables));
    entries = All-from_recursion Word i.entries (subst (AllByRecursion Word) (sym is.entries)
        (all_map Word (λ (fact : FunctionFact). fact.entry) c.functions (all-from-index (λ (fact : FunctionFact). Word fact.entry) no_fact c.functions (λ k lt. entry_small k))));
  }

-- ---- the functions of a certificate

places_within : (place most : ℕ) (sizes : List ℕ) → place + 4 * sum sizes ≤ most → AllByRecursion (λ n. n ≤ most) (places_from place sizes)
places_within place most [] le = tt
places_within place most (words ∷ sizes) le =
    let whole = sum_cons words sizes in
    (omega (arith, le, whole), places_within (place + 4 * words) most sizes (omega (arith, le, whole)))
  where
    sum_cons : (words : ℕ) (sizes : List ℕ) → sum (words ∷ sizes) ≡ words + sum sizes
    sum_cons words sizes = sum_by-cons (λ (n : ℕ). n) words sizes

words_of : (most : ℕ) (xs : List ℕ) → most ≤ 65536 → AllByRecursion (λ n. n ≤ most) xs → AreWords xs
words_of most [] few all = tt
words_of most (x ∷ xs) few all = ((let le = all.0 in omega (arith, le, few)), words_of most xs few all.1)

module _ (code : FlatCode) (plan : Plan) (max_path : ℕ) (short : max_path ≤ 65536) (planned : IsPlanFor code plan max_path) (fits : code_words code plan ≤ 200000) where
  fact_words : (f : ℕ) → f < length code.functions → HoldsFunctionWords (fact_of code plan f)
  fact_words f lt =
      let within = words-within code plan f lt in
      let frame = planned.frame f lt in
      let bound = planned.most f lt in
      let sizes = (function_at code f).sizes in
      let holds = frame-holds sizes in (
        omega (arith, within, fits),
        (
          omega (arith, within, fits),
          (
            omega (arith, frame),
            (
              omega (arith, frame),
              (omega (arith, bound, short), words_of 2032 (places_from 0 sizes) (omega arith) (places_within 0 2032 sizes (omega (arith, holds, frame)))),
            ),
          ),
        ),
      )

  -- ---- its sites

  bound_small : (f : ℕ) → slice_index plan.bounds f ≤ 65536
  bound_small f = by (cases_lt f (length code.functions)) where
    by : (f < length code.functions) ⊎ (length code.functions ≤ f) → slice_index plan.bounds f ≤ 65536
    by (inl lt) = let most = planned.most f lt in omega (arith, most, short)
    by (inr past) =
        let each = planned.each in
        let none : slice_index plan.bounds f ≡ 0 = get_or_past plan.bounds f 0 (omega (arith, each, past)) in
        omega (arith, none)

  greatest_small : (fs : List ℕ) → greatest (slice_index plan.bounds) fs ≤ 65536
  greatest_small [] = omega arith
  greatest_small (f ∷ fs) = omega (arith, bound_small f, greatest_small fs)

  linked_words : (checkpointed : Bool) (bytes : ℕ) → bytes ≤ 65536 → HoldsKindWords (linked_if checkpointed bytes)
  linked_words true bytes small = omega (arith, small)
  linked_words false bytes small = tt

  one_site : (op : Op) (facts : List SiteFact) (numbers : List ℕ) → (AllByRecursion Word numbers → AllByRecursion HoldsSiteWords facts) →
      AllByRecursion Word (cons_option (site_of op) numbers) → AllByRecursion HoldsSiteWords (cons_option (site_fact code plan op) facts)
  one_site (Op.Call site d f args) facts numbers rest all =
      ((all.0, linked_words (has site plan.checkpointed) (need code plan (Op.Call site d f args)) (greatest_small (callees_of code (Op.Call site d f args)))), rest all.1)
  one_site (Op.CallTable site d t i s) facts numbers rest all =
      ((all.0, linked_words (has site plan.checkpointed) (need code plan (Op.CallTable site d t i s)) (greatest_small (callees_of code (Op.CallTable site d t i s)))), rest all.1)
  one_site (Op.Spawn site d f s) facts numbers rest all =
      let small = greatest_small (callees_of code (Op.Spawn site d f s)) in
      ((all.0, omega (arith, small)), rest all.1)
  one_site (Op.Model site d n args) facts numbers rest all = rest all.1
  one_site _ facts numbers rest all = rest all

  sites_of_ops : (ops : List Op) → AllByRecursion Word (filter_map site_of ops) → AllByRecursion HoldsSiteWords (filter_map (site_fact code plan) ops)
  sites_of_ops [] all = tt
  sites_of_ops (op ∷ ops) all = one_site op (filter_map (site_fact code plan) ops) (filter_map site_of ops) (λ rest. sites_of_ops ops rest) all

  first_of : (xs ys : List ℕ) → AllByRecursion Word (xs ++ ys) → AllByRecursion Word xs × AllByRecursion Word ys
  first_of [] ys all = (tt, all)
  first_of (x ∷ xs) ys all = let rest = first_of xs ys all.1 in ((all.0, rest.0), rest.1)

  sites_of_all : (fs : List FlatFunction) → AllByRecursion Word (flat_map (λ (f : FlatFunction). filter_map site_of f.ops) fs) →
      AllByRecursion HoldsSiteWords (flat_map (λ (function : FlatFunction). filter_map (site_fact code plan) function.ops) fs)
  sites_of_all [] all = tt
  sites_of_all (f ∷ fs) all =
      let both = first_of (filter_map site_of f.ops) (flat_map (λ (g : FlatFunction). filter_map site_of g.ops) fs) all in
      All-append HoldsSiteWords (filter_map (site_fact code plan) f.ops) (flat_map (λ (function : FlatFunction). filter_map (site_fact code plan) function.ops) fs) (sites_of_ops f.ops both.0) (sites_of_all fs both.1)

  -- ---- the certificate

  pub certificate_words : (options : Options) (c : Certificate) → options.max_path ≡ max_path → options.chunk ≤ 65536 → AllByRecursion Word (site_numbers code) → IsCertificateOf code plan options c → certificate.HoldsWords c
  certificate_words options c path chunk numbers is =
      let facts = is.facts in
      let count = facts-count code plan c facts in
      let chunk_is = is.chunk in
      let path_is = is.max_path in
      record {
        chunk = omega (arith, chunk_is, chunk);
        max_path = omega (arith, path_is, path, short);
        functions = all-from-index HoldsFunctionWords no_fact c.functions (λ k lt. (let there : k < length code.functions = omega (arith, lt, count) in
            subst HoldsFunctionWords (sym (fact-is code plan c k no_fact facts there)) (fact_words k there)));
        sites = recursion_from_All HoldsSiteWords c.sites
            (All-permutation HoldsSiteWords (site_facts code plan) c.sites facts.sites (All-from_recursion HoldsSiteWords (site_facts code plan) (sites_of_all code.functions numbers)));
      }

-- ---- the numbers of sites

below_word : (most : ℕ) (xs : List ℕ) → most ≤ 65535 → AllByRecursion (λ n. n < most) xs → AllByRecursion Word xs
below_word most [] few all = tt
below_word most (x ∷ xs) few all = ((let lt = all.0 in omega (arith, lt, few)), below_word most xs few all.1)

pub site_words : (p : ProgramTree) → IsWellScoped p → AllByRecursion Word (site_numbers (lowered p))
site_words p scoped =
    let numbers = map (λ s. s.number) (program_sites p) in
    let few : length numbers ≤ 65535 = (let sites = scoped.sites in let same = length-map (program_sites p) (λ s. s.number) in omega (arith, sites, same)) in
    recursion_from_All Word (site_numbers (lowered p))
    (All-permutation Word numbers (site_numbers (lowered p)) (program_permutes p) (All-from_recursion Word numbers (below_word (length numbers) numbers few scoped.site_numbers.1)))
