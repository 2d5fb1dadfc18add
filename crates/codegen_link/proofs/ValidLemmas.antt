-- What is laid out meets V1 to V12.
use Rattle.codegen_link.proofs.Common.{◌≡◌, ℕ, ◌+◌, ◌*◌, ◌-◌, ◌%◌, ◌<◌, ◌≤◌, List, [], length, take, Option, Some, None, refl, sym, ap, subst, ◌∙◌, arith, option_map, slice_get, slice_index, sum, sum_by, length-map, take-take, sum_by-take-le, slice_get-get_or, slice_get-map, slice_get_within, Instr, Op, FlatCode, function_at, operation_at, weight_of, IsWellFormed, Plan, Image, Certificate, FunctionFact, Setting, fact_at, begin, kind_of, prologue, row_at, setting_at, template, words_before, length-prologue, IsNeed, IsPlaced, V1, V2, V3, V4, V5, V6, V7, V8, V9, V10, V11, V12, NamesSites, callee_bound, is_spawned, HasFacts, IsCertificateOf, IsImageOf, code_words, fact_of, function_words, words_to, link, need, AreInRange, IsPlanFor}
use Rattle.certificate_rules.specs.Validity.{IsValid}
use Rattle.codegen_link.specs.declared.options.Options.{Options}
use Rattle.codegen_link.proofs.AddressLemmas.{all-words, frame-holds, names-at, words-inside, words-next, words-over, words-within}
use Rattle.codegen_link.proofs.CodeLemmas.{length-code, prologue-stands, stub-stands, template-stands}
use Rattle.codegen_link.proofs.FactLemmas.{fact-is, facts-count, length-places}
use Rattle.codegen_link.proofs.NamedLemmas.{bound-is, function-there, named-is, need-is, site-there, spawned-is}
use Rattle.codegen_link.proofs.PlaceLemmas.{aligned, apart, apart-after, inside}
use Rattle.codegen_link.proofs.SiteLemmas.{kind-link}

module _ (code : FlatCode) (plan : Plan) (options : Options) (certificate : Certificate) (image : Image)
    (formed : IsWellFormed code) (ranges : AreInRange options) (planned : IsPlanFor code plan options.max_path) (fits : code_words code plan ≤ 200000)
    (is : IsCertificateOf code plan options certificate) (image-is : IsImageOf code certificate image) where
  abbrev has : HasFacts code plan certificate
  has = is.facts

  fact-at : (f : ℕ) → f < length code.functions → fact_at certificate f ≡ fact_of code plan f
  fact-at f lt = fact-is code plan certificate f _ has lt

  -- ---- V1

  sites-named : NamesSites code certificate
  sites-named = record {
    rising = has.rising;
    each = λ f i site op e at. (
      named-is code plan site certificate has ∙ site-there code plan site f i op e at,
      ap is_spawned (kind-link code plan certificate f i op formed has (function-there code f i op e) e) ∙ spawned-is code plan op,
    );
    no_other = λ site named. sym (named-is code plan site certificate has) ∙ named;
  }

  v1 : (f i : ℕ) → V1 code image certificate f i
  v1 f i =
      let count : length image.code ≡ code_words code plan = length-code code plan certificate formed has options.max_path planned fits image image-is in
      let facts : length certificate.functions ≡ length code.functions = facts-count code plan certificate has in
      let entries : length image.entries ≡ length certificate.functions = ap length image-is.entries ∙ length-map certificate.functions (λ (fact : FunctionFact). fact.entry) in
      record {
        chunk = λ e. (ap (λ n. n % 16) is.chunk ∙ ranges.aligned, omega (arith, is.chunk, ranges.least), omega (arith, is.chunk, ranges.most));
        words = λ e. (omega (arith, count, all-words code plan), omega (arith, count, fits));
        functions = λ e. (facts, entries ∙ facts);
        places = λ e lt. ap (λ (fact : FunctionFact). length fact.places) (fact-at f lt) ∙ length-places 0 (function_at code f).sizes;
        sites = λ e. sites-named;
      }

  -- ---- V2

  -- the words before a function are among those before a later one
  words-later : (g f : ℕ) → g ≤ f → words_to code plan g ≤ words_to code plan f
  words-later g f le =
      let part = sum_by-take-le (function_words code plan) (take f code.functions) g in
      let same : sum_by (function_words code plan) (take g (take f code.functions)) ≡ sum_by (function_words code plan) (take g code.functions) = ap (λ fs. sum_by (function_words code plan) fs) (take-take g f code.functions le) in
      omega (arith, part, same)

  v2 : (f i : ℕ) → V2 code image certificate f i
  v2 f i =
      let count : length image.code ≡ code_words code plan = length-code code plan certificate formed has options.max_path planned fits image image-is in
      record {
        inside = λ e lt.
            let entry : (fact_at certificate f).entry ≡ 0x1000 + 4 * words_to code plan f = ap (λ (fact : FunctionFact). fact.entry) (fact-at f lt) in
            let words : (fact_at certificate f).words ≡ function_words code plan (function_at code f) = ap (λ (fact : FunctionFact). fact.words) (fact-at f lt) in
            (omega (arith, entry), omega (arith, entry), omega (arith, entry, words, count, words-within code plan f lt));
        entry = λ e lt.
            let inside : f < length certificate.functions = omega (arith, facts-count code plan certificate has, lt) in
            ap (λ words. slice_get words f) image-is.entries ∙ (slice_get-map (λ (fact : FunctionFact). fact.entry) certificate.functions f ∙
            ap (option_map (λ (fact : FunctionFact). fact.entry)) (slice_get-get_or certificate.functions f (record { entry = 0; words = 0; frame = 0; ra = 0; bound = 0; places = [] }) inside));
        apart = λ e lt g less.
            let lower : g < length code.functions = omega (arith, lt, less) in
            let entry : (fact_at certificate f).entry ≡ 0x1000 + 4 * words_to code plan f = ap (λ (fact : FunctionFact). fact.entry) (fact-at f lt) in
            let other : (fact_at certificate g).entry ≡ 0x1000 + 4 * words_to code plan g = ap (λ (fact : FunctionFact). fact.entry) (fact-at g lower) in
            let words : (fact_at certificate g).words ≡ function_words code plan (function_at code g) = ap (λ (fact : FunctionFact). fact.words) (fact-at g lower) in
            apart-after _ _ _ _ (omega (arith, entry, other, words, words-next code plan g lower, words-later (g + 1) f (omega (arith, less))));
      }

  -- ---- V3

  v3 : (f i : ℕ) → V3 code certificate f i
  v3 f i = record {
    frame = λ e lt.
        let frame : (fact_at certificate f).frame ≡ weight_of (function_at code f).sizes = ap (λ (fact : FunctionFact). fact.frame) (fact-at f lt) in
        (omega (arith, frame), omega (arith, frame), omega (arith, frame, planned.frame f lt));
  }

  -- ---- V4

  placed : (f i : ℕ) → i ≤ length (function_at code f).sizes → IsPlaced (fact_of code plan f) (function_at code f).sizes i
  placed f i le =
      let sizes = (function_at code f).sizes in
      let ra = weight_of sizes - 4 in
      let room : 0 + 4 * sum sizes ≤ ra = omega (arith, frame-holds sizes) in
      let four : ra % 4 ≡ 0 = omega arith in
      record {
        aligned = aligned 0 sizes ra i refl four le;
        inside = inside 0 sizes ra (weight_of sizes) i room (omega (arith, frame-holds sizes)) le;
        apart = λ y less. apart 0 sizes ra i y room le less;
      }

  v4 : (f i : ℕ) → V4 code certificate f i
  v4 f i = record { placed = λ lt le. subst (λ (fact : FunctionFact). IsPlaced fact (function_at code f).sizes i) (sym (fact-at f lt)) (placed f i le) }

  -- ---- V5 to V8

  v5 : (f i : ℕ) → V5 code image certificate f i
  v5 f i = record {
    word = λ lt instr e.
        let short : i < length (prologue (fact_at certificate f) (function_at code f).params) = slice_get_within (prologue (fact_at certificate f) (function_at code f).params) i instr e in
        let words : (fact_at certificate f).words ≡ function_words code plan (function_at code f) = ap (λ (fact : FunctionFact). fact.words) (fact-at f lt) in (
          omega (arith, short, length-prologue (fact_at certificate f) (function_at code f).params, words),
          prologue-stands code plan certificate formed has options.max_path planned fits image image-is f i instr lt e,
        );
  }

  -- where there is a word of a template, there is the operation
  row-there : (s : Option Op → Setting) (fact : FunctionFact) (sizes : List ℕ) (o : Option Op) (w : ℕ) (instr : Instr) → slice_get (row_at fact sizes (s o) o) w ≡ Some instr → (op : Op) × (o ≡ Some op)
  row-there s fact sizes None w instr e = cc
  row-there s fact sizes (Some op) w instr e = (op, refl)

  template-there : (f i w : ℕ) (instr : Instr) → slice_get (template code certificate f i) w ≡ Some instr → i < length (function_at code f).ops
  template-there f i w instr e =
      let found = row-there (setting_at code certificate f (begin code certificate f i)) (fact_at certificate f) (function_at code f).sizes (operation_at code f i) w instr e in
      slice_get_within (function_at code f).ops i found.0 found.1

  v6 : (f i : ℕ) → V6 code image certificate f i
  v6 f i = record {
    inside = λ lt at.
        let words : (fact_at certificate f).words ≡ function_words code plan (function_at code f) = ap (λ (fact : FunctionFact). fact.words) (fact-at f lt) in
        omega (arith, words, words-inside code plan certificate formed has f (i + 1) lt);
    words = λ lt w instr e. template-stands code plan certificate formed has options.max_path planned fits image image-is f i w instr lt (template-there f i w instr e) e;
    over = λ lt at.
        ap (words_before code certificate f) at ∙ (words-over code plan certificate formed has f lt ∙ sym (ap (λ (fact : FunctionFact). fact.words) (fact-at f lt)));
  }

  v7 : (f i : ℕ) → V7 image f i
  v7 f i = record { word = λ instr e. stub-stands code plan certificate formed has options.max_path planned fits image image-is i instr e }

  v8 : (f i : ℕ) → V8 code image certificate f i
  v8 f i = record { word = ap (λ words. slice_get words i) image-is.tables }

  -- ---- V9 to V12

  bound-at : (f k : ℕ) (op : Op) → operation_at code f k ≡ Some op → callee_bound code certificate op ≡ need code plan op
  bound-at f k op e = bound-is code plan certificate op formed has (names-at code f k op formed (function-there code f k op e) e)

  link-at : (f k : ℕ) (op : Op) → operation_at code f k ≡ Some op → kind_of certificate op ≡ link code plan op
  link-at f k op e = kind-link code plan certificate f k op formed has (function-there code f k op e) e

  v9 : (f i : ℕ) → V9 code certificate f i
  v9 f i = record {
    need = λ k op e at.
        subst (λ bytes. IsNeed (kind_of certificate op) bytes) (sym (bound-at f k op e))
        (subst (λ kind. IsNeed kind (need code plan op)) (sym (link-at f k op e)) (need-is code plan op));
  }

  v10 : (f i : ℕ) → V10 code certificate f i
  v10 f i = record {
    bound = λ k op e at plain.
        let lt : f < length code.functions = function-there code f k op e in
        let frame : (fact_at certificate f).frame ≡ weight_of (function_at code f).sizes = ap (λ (fact : FunctionFact). fact.frame) (fact-at f lt) in
        let bound : (fact_at certificate f).bound ≡ slice_index plan.bounds f = ap (λ (fact : FunctionFact). fact.bound) (fact-at f lt) in
        omega (arith, frame, bound, bound-at f k op e, planned.plain f k op lt e (sym (link-at f k op e) ∙ plain));
  }

  v11 : (f i : ℕ) → V11 code certificate f i
  v11 f i = record {
    frame = λ e lt.
        let frame : (fact_at certificate f).frame ≡ weight_of (function_at code f).sizes = ap (λ (fact : FunctionFact). fact.frame) (fact-at f lt) in
        let bound : (fact_at certificate f).bound ≡ slice_index plan.bounds f = ap (λ (fact : FunctionFact). fact.bound) (fact-at f lt) in
        omega (arith, frame, bound, planned.bound f lt);
    bound = λ e lt.
        let bound : (fact_at certificate f).bound ≡ slice_index plan.bounds f = ap (λ (fact : FunctionFact). fact.bound) (fact-at f lt) in
        omega (arith, bound, is.max_path, planned.most f lt);
    path = λ e. omega (arith, is.chunk, is.max_path, ranges.room);
  }

  v12 : (f i : ℕ) → V12 code image f i
  v12 f i = record { word = ap (λ words. slice_get words i) image-is.globals }

  pub valid : IsValid code image certificate
  valid = record {
    holds = λ rule f i. record {
      v1 = λ e. v1 f i;
      v2 = λ e. v2 f i;
      v3 = λ e. v3 f i;
      v4 = λ e. v4 f i;
      v5 = λ e. v5 f i;
      v6 = λ e. v6 f i;
      v7 = λ e. v7 f i;
      v8 = λ e. v8 f i;
      v9 = λ e. v9 f i;
      v10 = λ e. v10 f i;
      v11 = λ e. v11 f i;
      v12 = λ e. v12 f i;
    };
  }
