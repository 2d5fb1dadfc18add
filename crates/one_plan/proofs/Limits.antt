-- The pair that is laid out for a program is within the limits of its files.
use Rattle.one_plan.proofs.Common.{◌≡◌, ℕ, false, suc, ◌+◌, ◌*◌, ◌/◌, ◌<◌, ◌≤◌, List, [], ◌∷◌, length, length-append, map, get_or, refl, ap, subst, ◌∙◌, arith, sum, flat_map, replicate, Option, Some, None, AllByRecursion, filter_map, cons_option, IsStrictlyIncreasing, length-map, length-replicate, length_permutation, scalars, below, declared_words, function_temporaries, FunctionTree, ProgramTree, IsFunctionScoped, AreFunctionsScoped, IsWellScoped, context_of, Op, FlatFunction, FlatCode, function_at, site_of, weight_of, site_numbers, lowered, lowered_function, lowered_global, function_sizes, map-map, all-at, Plan, scalars_words, sum_both}
use Rattle.std.proofs.lemmas.List.Sums.{sum_by-cons}
use Rattle.c_tree.specs.TextOrder.{program_sites, stmts_names}
use Rattle.flat_code.specs.declared.programs.FlatGlobal.{FlatGlobal}
use Rattle.c_lower.proofs.Sites.{program_permutes}
use Rattle.c_lower.proofs.Words.{stmts_have, few_names}
use Rattle.stack_image.specs.declared.images.Image.{Image}
use Rattle.stack_image.specs.Spelling as image
use Rattle.stack_certificate.specs.declared.certificates.Certificate.{Certificate}
use Rattle.stack_certificate.specs.declared.functions.FunctionFact.{FunctionFact}
use Rattle.stack_certificate.specs.declared.sites.SiteFact.{SiteFact}
use Rattle.stack_certificate.specs.Certificates.{fact_at}
use Rattle.certificate_text.specs.Text as certificate
use Rattle.certificate_text.specs.Text.{HasFewPlaces, IsAbove, Rises}
use Rattle.certificate_rules.specs.Validity.{IsValid}
use Rattle.certificate_rules.proofs.ValidLemmas.{tables_are, globals_are}
use Rattle.codegen_link.specs.declared.options.Options.{Options}
use Rattle.codegen_link.specs.Layout.{IsCertificateOf}
use Rattle.codegen_link.specs.Links.{site_fact, site_facts}
use Rattle.codegen_link.proofs.FactLemmas.{facts-count, fact-is}
use Rattle.one_plan.proofs.LoweredGraph.{scalars-length}

pub functions-count : (p : ProgramTree) → length (lowered p).functions ≡ length p.functions
functions-count p = length-map p.functions lowered_function

-- Images.

count-words : (gs : List FlatGlobal) → length (flat_map (λ g. replicate g.words g.start) gs) ≡ sum (map (λ g. g.words) gs)
count-words [] = refl
count-words (g ∷ gs) =
    omega (arith, length-append (replicate g.words g.start) (flat_map (λ (x : FlatGlobal). replicate x.words x.start) gs), length-replicate g.words g.start, count-words gs, sum_by-cons (λ (x : ℕ). x) g.words (map (λ (x : FlatGlobal). x.words) gs))

count-members : (entry : ℕ → ℕ) (tables : List (List ℕ)) → length (flat_map (λ members. map entry members) tables) ≡ sum (map length tables)
count-members entry [] = refl
count-members entry (t ∷ tables) =
    omega (arith, length-append (map entry t) (flat_map (λ (members : List ℕ). map entry members) tables), length-map t entry, count-members entry tables, sum_by-cons (λ (x : ℕ). x) (length t) (map length tables))

pub image-fits : (p : ProgramTree) (i : Image) (c : Certificate) → IsWellScoped p → IsValid (lowered p) i c → image.IsWithinLimits i
image-fits p i c scoped valid =
    let words = ((valid.holds 1 0 2).v1 refl).words refl in
    let functions = ((valid.holds 1 0 3).v1 refl).functions refl in
    let globals : length i.globals ≡ sum (map (λ g. g.words) p.globals) =
    ap length (globals_are (lowered p) i c valid) ∙ (count-words (map lowered_global p.globals) ∙ ap sum (map-map lowered_global (λ g. g.words) (λ g. g.words) (λ g. refl) p.globals)) in
    let tables : length i.tables ≡ sum (map length p.tables) = ap length (tables_are (lowered p) i c valid) ∙ count-members (λ g. (fact_at c g).entry) p.tables in
    record {
      code = words.1;
      globals = omega (arith, globals, scoped.global_words);
      tables = omega (arith, tables, scoped.table_members);
      entries = omega (arith, functions.1, functions-count p, scoped.functions);
    }

-- Variables of a function that fits its frame.

each-has-words : (p : ProgramTree) (f : FunctionTree) → IsFunctionScoped p f → length (function_sizes f) ≤ sum (function_sizes f)
each-has-words p f h =
    let n = function_temporaries f in
    let names : length (declared_words f) ≤ sum (declared_words f) = few_names (stmts_names f.body) (stmts_have (context_of p f) false (below f.params) f.body h.body) in
    let count : length f.sizes ≡ f.params + length (declared_words f) = ap length h.sizes ∙ (length-append (scalars f.params) (declared_words f) ∙ ap (λ x. x + length (declared_words f)) (scalars-length f.params)) in
    let words : sum f.sizes ≡ f.params + sum (declared_words f) = ap sum h.sizes ∙ (sum_both (scalars f.params) (declared_words f) ∙ ap (λ x. x + sum (declared_words f)) (scalars_words f.params)) in
    omega (arith, names, count, words, length-append f.sizes (scalars n), sum_both f.sizes (scalars n), scalars-length n, scalars_words n)

all-have-words : (p : ProgramTree) (fs : List FunctionTree) → AreFunctionsScoped p fs → AllByRecursion (λ (f : FlatFunction). length f.sizes ≤ sum f.sizes) (map lowered_function fs)
all-have-words p [] h = tt
all-have-words p (f ∷ fs) h = (each-has-words p f h.0, all-have-words p fs h.1)

small-frame : (words : ℕ) → (4 * words + 4 + 15) / 16 * 16 ≤ 2032 → words ≤ 507
small-frame words h = omega arith

pub all-from-index : {X : Type 0} (P : X → Type 0) (d : X) (xs : List X) → ((k : ℕ) → k < length xs → P (get_or xs k d)) → AllByRecursion P xs
all-from-index P d [] h = tt
all-from-index P d (x ∷ xs) h = (h 0 (omega arith), all-from-index P d xs (λ k lt. h (suc k) (omega arith)))

-- Sites.

one-fewer : (code : FlatCode) (plan : Plan) (op : Op) (facts : List SiteFact) (numbers : List ℕ) → length facts ≤ length numbers → length (cons_option (site_fact code plan op) facts) ≤ length (cons_option (site_of op) numbers)
one-fewer code plan (Op.Call site d f args) facts numbers h = omega arith
one-fewer code plan (Op.CallTable site d t i x) facts numbers h = omega arith
one-fewer code plan (Op.Spawn site d f x) facts numbers h = omega arith
one-fewer code plan (Op.Model site d n args) facts numbers h = omega arith
one-fewer code plan _ facts numbers h = h

fewer-ops : (code : FlatCode) (plan : Plan) (ops : List Op) → length (filter_map (site_fact code plan) ops) ≤ length (filter_map site_of ops)
fewer-ops code plan [] = omega arith
fewer-ops code plan (op ∷ ops) = one-fewer code plan op (filter_map (site_fact code plan) ops) (filter_map site_of ops) (fewer-ops code plan ops)

fewer-facts : (code : FlatCode) (plan : Plan) (fs : List FlatFunction) → length (flat_map (λ function. filter_map (site_fact code plan) function.ops) fs) ≤ length (flat_map (λ f. filter_map site_of f.ops) fs)
fewer-facts code plan [] = omega arith
fewer-facts code plan (f ∷ fs) =
    omega (
      arith,
      length-append (filter_map (site_fact code plan) f.ops) (flat_map (λ (g : FlatFunction). filter_map (site_fact code plan) g.ops) fs),
      length-append (filter_map site_of f.ops) (flat_map (λ (g : FlatFunction). filter_map site_of g.ops) fs),
      fewer-ops code plan f.ops,
      fewer-facts code plan fs,
    )

rises-behind : (last : Option ℕ) (facts : List SiteFact) → IsStrictlyIncreasing (map (λ fact. fact.number) facts) → ((fact : SiteFact) (rest : List SiteFact) → facts ≡ fact ∷ rest → IsAbove last fact.number) → Rises last facts
rises-behind last [] up above = tt
rises-behind last (fact ∷ []) up above = (above fact [] refl, tt)
rises-behind last (fact ∷ next ∷ facts) up above = (
  above fact (next ∷ facts) refl,
  rises-behind (Some fact.number) (next ∷ facts) (λ k lt. let one : suc k + 1 ≡ suc (k + 1) = omega arith in let moved = rw one at (up (suc k) (omega arith)) in moved)
      (λ other rest e. let same : next ≡ other = cc in subst (λ (x : SiteFact). fact.number < x.number) same (up 0 (omega arith))),
)

pub certificate-fits : (p : ProgramTree) (plan : Plan) (options : Options) (i : Image) (c : Certificate) → IsWellScoped p → IsValid (lowered p) i c → IsCertificateOf (lowered p) plan options c → certificate.IsWithinLimits c
certificate-fits p plan options i c scoped valid is =
    let code = lowered p in
    let facts = is.facts in
    let none : FunctionFact = record { entry = 0; words = 0; frame = 0; ra = 0; bound = 0; places = [] } in
    let empty : FlatFunction = record { params = 0; gives = false; sizes = []; ops = [] } in
    let count = facts-count code plan c facts in
    let words = all-have-words p p.functions scoped.bodies in
    let places = all-from-index HasFewPlaces none c.functions
    (λ k lt.
    let there : k < length code.functions = omega (arith, count) in
    let frame = ((valid.holds 3 k 0).v3 refl).frame refl there in
    let same : (fact_at c k).frame ≡ weight_of (function_at code k).sizes = ap (λ (f : FunctionFact). f.frame) (fact-is code plan c k none facts there) in
    let small = small-frame (sum (function_at code k).sizes) (let w = frame.2 in omega arith) in
    let few = all-at (λ (f : FlatFunction). length f.sizes ≤ sum f.sizes) code.functions k empty words there in
    let each = ((valid.holds 1 k 4).v1 refl).places refl there in
    omega arith) in
    let sites : length c.sites ≤ 65535 =
    omega (arith, length_permutation (site_facts code plan) c.sites facts.sites, fewer-facts code plan code.functions, length_permutation (map (λ s. s.number) (program_sites p)) (site_numbers code) (program_permutes p), length-map (program_sites p) (λ s. s.number), scoped.sites) in
    record {
      functions = omega (arith, count, functions-count p, scoped.functions);
      places = places;
      sites = sites;
      rising = rises-behind None c.sites facts.rising (λ fact rest e. tt);
    }
