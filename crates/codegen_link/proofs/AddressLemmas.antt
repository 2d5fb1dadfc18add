-- Where functions and operations begin in code that is laid out, and that all of it is near.
use Rattle.codegen_link.proofs.Common.{◌≡◌, ℕ, zero, suc, ◌+◌, ◌*◌, ◌<◌, ◌≤◌, false, List, [], ◌∷◌, length, map, take, Option, Some, None, refl, sym, ap, subst, ◌∙◌, arith, min, slice_get, slice_index, slice_index_or, sum, sum_by, range_with_len, take_all, length-map, length-take, length-replicate, get_or-map-range_with_len, sum_by-cons, sum_by_more, sum_by-take-le, slice_get_within, slice_get-get_or, get_or_from_slice_get, Op, FlatFunction, FlatCode, function_at, operation_at, weight_of, context_of, signature_of, IsOperation, IsWellFormed, Plan, Certificate, FunctionFact, Setting, LinkKind, fact_at, HavePlaces, begin, goes_to, kind_of, named_address, named_count, named_entry, prologue, row, row_at, setting, setting_at, size, size_at, template, words_before, function_formed, operation_formed, operation_places, length-row, JumpsInside, NamesThere, target_in, HasFacts, code_words, fact_of, function_words, places_from, words_to, link, IsPlanFor}
use Rattle.flat_code.specs.declared.programs.FlatGlobal.{FlatGlobal}
use Rattle.codegen_link.proofs.FactLemmas.{fact-is, length-places}
use Rattle.codegen_link.proofs.InstructionLemmas.{Fit}
use Rattle.codegen_link.proofs.RowLemmas.{IsPlacedIn, IsNearby, prologue-fits, row-fits}
use Rattle.codegen_link.proofs.SiteLemmas.{kind-link}

-- ---- sizes

sum-same : {X : Type 0} (f g : X → ℕ) (xs : List X) (i : ℕ) → ((k : ℕ) (x : X) → slice_get xs k ≡ Some x → f x ≡ g x) → sum_by f (take i xs) ≡ sum_by g (take i xs)
sum-same f g xs zero each = refl
sum-same f g [] (suc i) each = refl
sum-same f g (x ∷ xs) (suc i) each =
    let rest : sum_by f (take i xs) ≡ sum_by g (take i xs) = sum-same f g xs i (λ k y e. each (suc k) y e) in
    let first : f x ≡ g x = each 0 x refl in
    omega (arith, sum_by-cons f x (take i xs), sum_by-cons g x (take i xs))

two-each : (code : FlatCode) (plan : Plan) (fs : List FlatFunction) → 2 * length fs ≤ sum_by (function_words code plan) fs
two-each code plan [] = omega arith
two-each code plan (f ∷ fs) =
    let rest : 2 * length fs ≤ sum_by (function_words code plan) fs = two-each code plan fs in
    let first : 2 ≤ function_words code plan f = omega arith in
    omega (arith, sum_by-cons (function_words code plan) f fs)

pub all-words : (code : FlatCode) (plan : Plan) → words_to code plan (length code.functions) ≡ 2 + sum_by (function_words code plan) code.functions
all-words code plan = ap (λ fs. 2 + sum_by (function_words code plan) fs) (take_all (length code.functions) code.functions (omega arith))

-- code that fits has few functions
pub few-functions : (code : FlatCode) (plan : Plan) → code_words code plan ≤ 200000 → length code.functions ≤ 100000
few-functions code plan fits = omega (arith, two-each code plan code.functions, all-words code plan)

pub words-next : (code : FlatCode) (plan : Plan) (f : ℕ) → f < length code.functions → words_to code plan (f + 1) ≡ words_to code plan f + function_words code plan (function_at code f)
words-next code plan f lt = omega (arith, sum_by_more (function_words code plan) code.functions f (record { params = 0; gives = false; sizes = []; ops = [] }) lt)

-- a function's words are among all
pub words-within : (code : FlatCode) (plan : Plan) (f : ℕ) → f < length code.functions → words_to code plan f + function_words code plan (function_at code f) ≤ code_words code plan
words-within code plan f lt =
    omega (arith, words-next code plan f lt, all-words code plan, sum_by-take-le (function_words code plan) code.functions (f + 1))

module _ (code : FlatCode) (plan : Plan) (certificate : Certificate) (formed : IsWellFormed code) (has : HasFacts code plan certificate) where
  -- the words before an operation, counted by the plan
  words-planned : (f i : ℕ) → f < length code.functions →
      words_before code certificate f i ≡ 2 + (function_at code f).params + sum_by (λ op. size (function_at code f).sizes (link code plan op) op) (take i (function_at code f).ops)
  words-planned f i lt =
      ap (λ n. 2 + (function_at code f).params + n)
      (sum-same (λ op. size (function_at code f).sizes (kind_of certificate op) op) (λ op. size (function_at code f).sizes (link code plan op) op) (function_at code f).ops i
      (λ k op e. ap (λ kind. size (function_at code f).sizes kind op) (kind-link code plan certificate f k op formed has lt e)))

  pub words-over : (f : ℕ) → f < length code.functions → words_before code certificate f (length (function_at code f).ops) ≡ function_words code plan (function_at code f)
  words-over f lt =
      words-planned f (length (function_at code f).ops) lt ∙
      ap (λ ops. 2 + (function_at code f).params + sum_by (λ op. size (function_at code f).sizes (link code plan op) op) ops) (take_all (length (function_at code f).ops) (function_at code f).ops (omega arith))

  pub words-inside : (f i : ℕ) → f < length code.functions → words_before code certificate f i ≤ function_words code plan (function_at code f)
  words-inside f i lt =
      let part = sum_by-take-le (λ op. size (function_at code f).sizes (link code plan op) op) (function_at code f).ops i in
      omega (arith, words-planned f i lt, part)

  -- where an operation begins, and a quarter of it
  begin-quarter : (f i : ℕ) → f < length code.functions → begin code certificate f i ≡ 4 * (1024 + words_to code plan f + words_before code certificate f i)
  begin-quarter f i lt =
      let entry : (fact_at certificate f).entry ≡ 0x1000 + 4 * words_to code plan f = ap (λ fact. fact.entry) (fact-is code plan certificate f _ has lt) in
      omega (arith, entry)

  module _ (fits : code_words code plan ≤ 200000) where
    pub begin-near : (f i : ℕ) → f < length code.functions → 1024 + words_to code plan f + words_before code certificate f i ≤ 220000
    begin-near f i lt = omega (arith, words-inside f i lt, words-within code plan f lt, fits)

    pub begin-small : (f i : ℕ) → f < length code.functions → begin code certificate f i ≤ 880000
    begin-small f i lt = omega (arith, begin-quarter f i lt, begin-near f i lt)

    abbrev IsQuarter : ℕ → Type 0
    IsQuarter address = (a : ℕ) × (address ≡ 4 * a) × (a ≤ 220000)

    begin-is-quarter : (f i : ℕ) → f < length code.functions → IsQuarter (begin code certificate f i)
    begin-is-quarter f i lt = (1024 + words_to code plan f + words_before code certificate f i, begin-quarter f i lt, begin-near f i lt)

    entry-is-quarter : (f : ℕ) → f < length code.functions → IsQuarter (fact_at certificate f).entry
    entry-is-quarter f lt =
        let entry : (fact_at certificate f).entry ≡ 0x1000 + 4 * words_to code plan f = ap (λ fact. fact.entry) (fact-is code plan certificate f _ has lt) in
        (1024 + words_to code plan f, omega (arith, entry), omega (arith, words-within code plan f lt, fits))

    no-quarter : IsQuarter 0
    no-quarter = (0, omega arith, omega arith)

    to-quarter : (f : ℕ) (op : Op) → f < length code.functions → IsQuarter (goes_to code certificate f op)
    to-quarter f (Op.Jump to) lt = begin-is-quarter f to lt
    to-quarter f (Op.JumpZero x to) lt = begin-is-quarter f to lt
    to-quarter f _ lt = no-quarter

    named-quarter : (op : Op) → NamesThere code op → IsQuarter (named_entry certificate op)
    named-quarter (Op.Call site d f args) names = entry-is-quarter f names
    named-quarter (Op.Spawn site d f x) names = entry-is-quarter f names
    named-quarter _ names = no-quarter

    nearby : (f i : ℕ) (op : Op) → f < length code.functions → NamesThere code op → IsNearby (setting code certificate f (begin code certificate f i) op)
    nearby f i op lt names =
        let here = begin-is-quarter f i lt in
        let to = to-quarter f op lt in
        let entry = named-quarter op names in
        record {
          here = here.0;
          to = to.0;
          entry = entry.0;
          here_is = here.1;
          to_is = to.1;
          entry_is = entry.1;
          here_most = here.2;
          to_most = to.2;
          entry_most = entry.2;
        }

-- ---- places

-- a variable ends within the words of all
place-end : (place : ℕ) (sizes : List ℕ) (x : ℕ) → slice_index (places_from place sizes) x + 4 * slice_index sizes x ≤ place + 4 * sum sizes
place-end place [] x = omega arith
place-end place (n ∷ sizes) zero = omega (arith, sum_by-cons (λ (y : ℕ). y) n sizes)
place-end place (n ∷ sizes) (suc x) = omega (arith, place-end (place + 4 * n) sizes x, sum_by-cons (λ (y : ℕ). y) n sizes)

-- a frame holds its variables and the return address
pub frame-holds : (sizes : List ℕ) → 4 * sum sizes + 4 ≤ weight_of sizes
frame-holds sizes = omega arith

-- what a well-formed operation names is there
names-there : (code : FlatCode) (function : FlatFunction) (op : Op) → IsOperation (context_of code function) op → NamesThere code op
names-there code function (Op.LoadGlobal d g) h = omega (arith, h.1.0, length-map code.globals (λ (x : FlatGlobal). x.words))
names-there code function (Op.StoreGlobal g x) h = omega (arith, h.0.0, length-map code.globals (λ (x : FlatGlobal). x.words))
names-there code function (Op.LoadArray d a i) h = omega (arith, h.1, length-map code.globals (λ (x : FlatGlobal). x.words))
names-there code function (Op.StoreArray a i x) h = omega (arith, h.0, length-map code.globals (λ (x : FlatGlobal). x.words))
names-there code function (Op.Call site d f args) h = omega (arith, h.0, length-map code.functions signature_of)
names-there code function (Op.CallTable site d t i x) h = h.0
names-there code function (Op.Spawn site d f x) h = omega (arith, h.0, length-map code.functions signature_of)
names-there code function _ h = tt

pub names-at : (code : FlatCode) (f i : ℕ) (op : Op) → IsWellFormed code → f < length code.functions → operation_at code f i ≡ Some op → NamesThere code op
names-at code f i op formed lt e =
    let inside : i < length (function_at code f).ops = slice_get_within (function_at code f).ops i op e in
    let same : slice_index_or (function_at code f).ops i op ≡ op = get_or_from_slice_get (function_at code f).ops i op op e in
    subst (NamesThere code) same (names-there code (function_at code f) (slice_index_or (function_at code f).ops i op) (operation_formed code f i op formed lt inside))

module _ (code : FlatCode) (plan : Plan) (certificate : Certificate) (formed : IsWellFormed code) (has : HasFacts code plan certificate) (max_path : ℕ) (planned : IsPlanFor code plan max_path) where
  placed-by-plan : (f : ℕ) → f < length code.functions → IsPlacedIn (fact_of code plan f) (function_at code f).sizes
  placed-by-plan f lt = record {
    frame = planned.frame f lt;
    ra = omega (arith, planned.frame f lt);
    places = λ x. omega (arith, place-end 0 (function_at code f).sizes x, frame-holds (function_at code f).sizes, planned.frame f lt);
  }

  pub placed : (f : ℕ) → f < length code.functions → IsPlacedIn (fact_at certificate f) (function_at code f).sizes
  placed f lt = subst (λ fact. IsPlacedIn fact (function_at code f).sizes) (sym (fact-is code plan certificate f _ has lt)) (placed-by-plan f lt)

  -- the numbers of an operation's instructions fit their fields
  pub template-fits : (f i : ℕ) (op : Op) → code_words code plan ≤ 200000 → f < length code.functions → operation_at code f i ≡ Some op → NamesThere code op → Fit (template code certificate f i)
  template-fits f i op fits lt e names =
      let sizes = (function_at code f).sizes in
      let inside : i < length (function_at code f).ops = slice_get_within (function_at code f).ops i op e in
      let same : slice_index_or (function_at code f).ops i op ≡ op = get_or_from_slice_get (function_at code f).ops i op op e in
      let have : HavePlaces (length sizes) op = subst (HavePlaces (length sizes)) same (operation_places code f i (length sizes) op formed lt inside refl) in
      let row : Fit (row (fact_at certificate f) sizes (setting code certificate f (begin code certificate f i) op) op) =
      row-fits (fact_at certificate f) sizes (setting code certificate f (begin code certificate f i) op) (placed f lt) (nearby code plan certificate formed has fits f i op lt names) (length sizes) op have in
      subst (λ o. Fit (row_at (fact_at certificate f) sizes (setting_at code certificate f (begin code certificate f i) o) o)) (sym e) row

  -- a prologue's parameters have places, and its numbers fit their fields
  pub params-placed : (f : ℕ) → f < length code.functions → (function_at code f).params ≤ length (fact_at certificate f).places
  params-placed f lt =
      let function = function_formed code f formed lt in
      let count : min (function_at code f).params (length (function_at code f).sizes) ≡ (function_at code f).params =
      sym (length-take (function_at code f).params (function_at code f).sizes) ∙ (ap length function.parameters ∙ length-replicate (function_at code f).params 1) in
      let places : length (fact_at certificate f).places ≡ length (function_at code f).sizes =
      ap (λ fact. length fact.places) (fact-is code plan certificate f _ has lt) ∙ length-places 0 (function_at code f).sizes in
      omega (arith, count, places)

  pub prologue-fit : (f : ℕ) → f < length code.functions → Fit (prologue (fact_at certificate f) (function_at code f).params)
  prologue-fit f lt = prologue-fits (fact_at certificate f) (function_at code f).sizes (function_at code f).params (placed f lt) (function_formed code f formed lt).params

  -- the same of an operation that is there
  pub template-fits-at : (f i : ℕ) → code_words code plan ≤ 200000 → f < length code.functions → i < length (function_at code f).ops → Fit (template code certificate f i)
  template-fits-at f i fits lt inside =
      let e : operation_at code f i ≡ Some (slice_index_or (function_at code f).ops i (Op.Jump 0)) = slice_get-get_or (function_at code f).ops i (Op.Jump 0) inside in
      template-fits f i (slice_index_or (function_at code f).ops i (Op.Jump 0)) fits lt e
      (names-there code (function_at code f) (slice_index_or (function_at code f).ops i (Op.Jump 0)) (operation_formed code f i (Op.Jump 0) formed lt inside))

  pub here-small : (f i : ℕ) (o : Option Op) → code_words code plan ≤ 200000 → f < length code.functions → (setting_at code certificate f (begin code certificate f i) o).here ≤ 880000
  here-small f i None fits lt = begin-small code plan certificate formed has fits f i lt
  here-small f i (Some op) fits lt = begin-small code plan certificate formed has fits f i lt

  pub to-small : (f i : ℕ) (o : Option Op) → code_words code plan ≤ 200000 → f < length code.functions → (setting_at code certificate f (begin code certificate f i) o).to ≤ 880000
  to-small f i None fits lt = omega arith
  to-small f i (Some op) fits lt = let q = to-quarter code plan certificate formed has fits f op lt in omega (arith, q.1, q.2)

-- ---- what a template takes

length-at : (fact : FunctionFact) (sizes : List ℕ) (s : Option Op → Setting) (o : Option Op) → length (row_at fact sizes (s o) o) ≡ size_at sizes (s o).kind o
length-at fact sizes s None = refl
length-at fact sizes s (Some op) = length-row fact sizes (s (Some op)) op

pub length-template : (code : FlatCode) (certificate : Certificate) (f i : ℕ) →
    length (template code certificate f i) ≡ size_at (function_at code f).sizes (setting_at code certificate f (begin code certificate f i) (operation_at code f i)).kind (operation_at code f i)
length-template code certificate f i =
    length-at (fact_at certificate f) (function_at code f).sizes (setting_at code certificate f (begin code certificate f i)) (operation_at code f i)

begin-in : (code : FlatCode) (certificate : Certificate) (f n to : ℕ) (begins : List ℕ) → begins ≡ map (begin code certificate f) (range_with_len 0 n) → to < n → slice_index begins to ≡ begin code certificate f to
begin-in code certificate f n to begins e lt = ap (λ xs. slice_index xs to) e ∙ get_or-map-range_with_len (begin code certificate f) 0 n to to 0 lt (omega arith)

pub goes-is : (code : FlatCode) (certificate : Certificate) (f n : ℕ) (begins : List ℕ) (op : Op) → begins ≡ map (begin code certificate f) (range_with_len 0 n) → JumpsInside n op →
    target_in begins op ≡ goes_to code certificate f op
goes-is code certificate f n begins (Op.Jump to) e inside = begin-in code certificate f n to begins e inside
goes-is code certificate f n begins (Op.JumpZero x to) e inside = begin-in code certificate f n to begins e inside
goes-is code certificate f n begins _ e inside = refl

pub setting-is : (code : FlatCode) (certificate : Certificate) (f i : ℕ) (op : Op) (here to entry address count : ℕ) (kind : LinkKind) → Some op ≡ operation_at code f i →
    here ≡ begin code certificate f i → to ≡ goes_to code certificate f op → entry ≡ named_entry certificate op → address ≡ named_address code op → count ≡ named_count code op →
    kind ≡ kind_of certificate op →
    record { here = here; to = to; entry = entry; address = address; count = count; kind = kind } ≡ setting_at code certificate f (begin code certificate f i) (operation_at code f i)
setting-is code certificate f i op here to entry address count kind e a b c d g h =
    rw (a, b, c, d, g, h) (ap (setting_at code certificate f (begin code certificate f i)) e)

pub ahead : (here entry before more n t : ℕ) → here ≡ entry + 4 * before → n ≡ t → before + t ≡ more → here + 4 * n ≡ entry + 4 * more
ahead here entry before more n t a b c = omega arith
