-- Where the words of functions and operations stand in code that is laid out.
use Rattle.codegen_link.proofs.Common.{◌≡◌, ℕ, zero, suc, ◌+◌, ◌*◌, ◌-◌, ◌/◌, ◌<◌, ◌≤◌, inl, inr, List, [], ◌∷◌, ◌++◌, length, Option, Some, refl, sym, ap, subst, ◌∙◌, add-one, length-append, arith, slice_get, slice_index_or, option_map, cases_lt, length-map, slice_get-get_or, slice_get-map, encoding, Instr, Op, FlatCode, function_at, operation_at, IsWellFormed, Plan, Image, Certificate, fact_at, begin, end_stub, kind_of, prologue, setting_at, size_at, template, words_before, words_step, length-prologue, Stands, HasFacts, IsImageOf, code_words, function_code, function_words, functions_before, operations_before, words_to, IsPlanFor}
use Rattle.codegen_link.proofs.AddressLemmas.{length-template, prologue-fit, template-fits-at, words-next, words-over}
use Rattle.codegen_link.proofs.FactLemmas.{fact-is}
use Rattle.codegen_link.proofs.InstructionLemmas.{Fit, fit-append}
use Rattle.codegen_link.proofs.RowLemmas.{stub-fits}
use Rattle.codegen_link.proofs.StepLemmas.{fits-at}

get-left : {X : Type 0} (xs ys : List X) (i : ℕ) (x : X) → slice_get xs i ≡ Some x → slice_get (xs ++ ys) i ≡ Some x
get-left [] ys i x e = cc
get-left (y ∷ xs) ys zero x e = e
get-left (y ∷ xs) ys (suc i) x e = get-left xs ys i x e

get-right : {X : Type 0} (xs ys : List X) (i j : ℕ) (x : X) → j ≡ length xs + i → slice_get ys i ≡ Some x → slice_get (xs ++ ys) j ≡ Some x
get-right [] ys i j x same e = let at : j ≡ i = omega arith in rw at e
get-right (y ∷ xs) ys i zero x same e = absurd (omega arith)
get-right (y ∷ xs) ys i (suc j) x same e = get-right xs ys i j x (omega arith) e

module _ (code : FlatCode) (certificate : Certificate) where
  -- a word of an operation among those of the first m operations
  operations-at : (f m i w j : ℕ) (instr : Instr) → i < m → j ≡ length (operations_before code certificate f i) + w → slice_get (template code certificate f i) w ≡ Some instr →
      slice_get (operations_before code certificate f m) j ≡ Some instr
  operations-at f zero i w j instr lt at e = absurd (omega arith)
  operations-at f (suc m) i w j instr lt at e = elim (cases_lt i m) [
    | inl less ↦ get-left (operations_before code certificate f m) (template code certificate f m) j instr (operations-at f m i w j instr less at e)
    | inr more ↦
        let same : i ≡ m = omega (arith, lt, more) in
        let here : j ≡ length (operations_before code certificate f m) + w = subst (λ n. j ≡ length (operations_before code certificate f n) + w) same at in
        get-right (operations_before code certificate f m) (template code certificate f m) w j instr here
        (subst (λ n. slice_get (template code certificate f n) w ≡ Some instr) same e)
  ]

  -- a word of a function among those of the first m functions
  functions-at : (m f p j : ℕ) (instr : Instr) → f < m → j ≡ length (functions_before code certificate f) + p → slice_get (function_code code certificate f) p ≡ Some instr →
      slice_get (functions_before code certificate m) j ≡ Some instr
  functions-at zero f p j instr lt at e = absurd (omega arith)
  functions-at (suc m) f p j instr lt at e = elim (cases_lt f m) [
    | inl less ↦ get-left (functions_before code certificate m) (function_code code certificate m) j instr (functions-at m f p j instr less at e)
    | inr more ↦
        let same : f ≡ m = omega (arith, lt, more) in
        let here : j ≡ length (functions_before code certificate m) + p = subst (λ n. j ≡ length (functions_before code certificate n) + p) same at in
        get-right (functions_before code certificate m) (function_code code certificate m) p j instr here
        (subst (λ n. slice_get (function_code code certificate n) p ≡ Some instr) same e)
  ]

  -- a word of the end stub
  stub-at : (m i : ℕ) (instr : Instr) → slice_get end_stub i ≡ Some instr → slice_get (functions_before code certificate m) i ≡ Some instr
  stub-at zero i instr e = e
  stub-at (suc m) i instr e = get-left (functions_before code certificate m) (function_code code certificate m) i instr (stub-at m i instr e)

  -- how many words stand before an operation
  more-words : (params n t before next : ℕ) → 2 + params + n ≡ before → before + t ≡ next → 2 + params + (n + t) ≡ next
  more-words params n t before next a b = omega arith

  length-operations : (f i : ℕ) → i ≤ length (function_at code f).ops → 2 + (function_at code f).params + length (operations_before code certificate f i) ≡ words_before code certificate f i
  length-operations f zero le = omega arith
  length-operations f (suc i) le =
      let op : Op = slice_index_or (function_at code f).ops i (Op.Jump 0) in
      let there : operation_at code f i ≡ Some op = slice_get-get_or (function_at code f).ops i (Op.Jump 0) (omega (arith, le)) in
      let words : length (template code certificate f i) ≡ size_at (function_at code f).sizes (kind_of certificate op) (operation_at code f i) =
      length-template code certificate f i ∙ ap (λ (o : Option Op). size_at (function_at code f).sizes (setting_at code certificate f (begin code certificate f i) o).kind (operation_at code f i)) there in
      let next : words_before code certificate f i + size_at (function_at code f).sizes (kind_of certificate op) (operation_at code f i) ≡ words_before code certificate f (suc i) =
      words_step code certificate f i op (sym there) ∙ ap (words_before code certificate f) (add-one i) in
      let whole : length (operations_before code certificate f i ++ template code certificate f i) ≡ length (operations_before code certificate f i) + size_at (function_at code f).sizes (kind_of certificate op) (operation_at code f i) =
      length-append (operations_before code certificate f i) (template code certificate f i) ∙ ap (λ n. length (operations_before code certificate f i) + n) words in
      ap (λ n. 2 + (function_at code f).params + n) whole ∙
      more-words (function_at code f).params (length (operations_before code certificate f i)) (size_at (function_at code f).sizes (kind_of certificate op) (operation_at code f i))
      (words_before code certificate f i) (words_before code certificate f (suc i)) (length-operations f i (omega (arith, le))) next

module _ (code : FlatCode) (plan : Plan) (certificate : Certificate) (formed : IsWellFormed code) (has : HasFacts code plan certificate) where
  length-function : (f : ℕ) → f < length code.functions → length (function_code code certificate f) ≡ function_words code plan (function_at code f)
  length-function f lt =
      let n = length (function_at code f).ops in
      length-append (prologue (fact_at certificate f) (function_at code f).params) (operations_before code certificate f n) ∙
      (ap (λ k. k + length (operations_before code certificate f n)) (length-prologue (fact_at certificate f) (function_at code f).params) ∙
      (length-operations code certificate f n (omega arith) ∙ words-over code plan certificate formed has f lt))

  pub length-functions : (f : ℕ) → f ≤ length code.functions → length (functions_before code certificate f) ≡ words_to code plan f
  length-functions zero le = refl
  length-functions (suc f) le =
      let lt : f < length code.functions = omega (arith, le) in
      length-append (functions_before code certificate f) (function_code code certificate f) ∙
      (ap (λ n. length (functions_before code certificate f) + n) (length-function f lt) ∙
      (ap (λ n. n + function_words code plan (function_at code f)) (length-functions f (omega (arith, le))) ∙
      (sym (words-next code plan f lt) ∙ ap (words_to code plan) (add-one f))))

  -- ---- in an image of it

  module _ (max_path : ℕ) (planned : IsPlanFor code plan max_path) (fits : code_words code plan ≤ 200000) (image : Image) (is : IsImageOf code certificate image) where
    pub length-code : length image.code ≡ code_words code plan
    length-code = ap length is.words ∙ (length-map (functions_before code certificate (length code.functions)) encoding ∙ length-functions (length code.functions) (omega arith))

    fit-operations : (f i : ℕ) → f < length code.functions → i ≤ length (function_at code f).ops → Fit (operations_before code certificate f i)
    fit-operations f zero lt le = tt
    fit-operations f (suc i) lt le =
        fit-append (operations_before code certificate f i) (template code certificate f i) (fit-operations f i lt (omega (arith, le)))
        (template-fits-at code plan certificate formed has max_path planned f i fits lt (omega (arith, le)))

    fit-functions : (f : ℕ) → f ≤ length code.functions → Fit (functions_before code certificate f)
    fit-functions zero le = stub-fits
    fit-functions (suc f) le =
        let lt : f < length code.functions = omega (arith, le) in
        let n = length (function_at code f).ops in
        fit-append (functions_before code certificate f) (function_code code certificate f) (fit-functions f (omega (arith, le)))
        (fit-append (prologue (fact_at certificate f) (function_at code f).params) (operations_before code certificate f n)
        (prologue-fit code plan certificate formed has max_path planned f lt) (fit-operations f n lt (omega arith)))

    -- an instruction of all stands at its address
    stands : (p address : ℕ) (instr : Instr) → slice_get (functions_before code certificate (length code.functions)) p ≡ Some instr → address ≡ 0x1000 + 4 * p → Stands image address instr
    stands p address instr e at =
        let place : (address - 0x1000) / 4 ≡ p = omega (arith, at) in
        record {
          fits = fits-at (functions_before code certificate (length code.functions)) p instr (fit-functions (length code.functions) (omega arith)) e;
          word =
              ap (λ n. slice_get image.code n) place ∙ (ap (λ words. slice_get words p) is.words ∙
              (slice_get-map encoding (functions_before code certificate (length code.functions)) p ∙ ap (option_map encoding) e));
        }

    pub stub-stands : (i : ℕ) (instr : Instr) → slice_get end_stub i ≡ Some instr → Stands image (0x1000 + 4 * i) instr
    stub-stands i instr e = stands i (0x1000 + 4 * i) instr (stub-at code certificate (length code.functions) i instr e) refl

    entry-is : (f : ℕ) → f < length code.functions → (fact_at certificate f).entry ≡ 0x1000 + 4 * words_to code plan f
    entry-is f lt = ap (λ fact. fact.entry) (fact-is code plan certificate f _ has lt)

    pub prologue-stands : (f i : ℕ) (instr : Instr) → f < length code.functions → slice_get (prologue (fact_at certificate f) (function_at code f).params) i ≡ Some instr →
        Stands image ((fact_at certificate f).entry + 4 * i) instr
    prologue-stands f i instr lt e =
        let n = length (function_at code f).ops in
        let before = length-functions f (omega (arith, lt)) in
        stands (words_to code plan f + i) ((fact_at certificate f).entry + 4 * i) instr
        (functions-at code certificate (length code.functions) f i (words_to code plan f + i) instr lt (omega (arith, before))
        (get-left (prologue (fact_at certificate f) (function_at code f).params) (operations_before code certificate f n) i instr e))
        (omega (arith, entry-is f lt))

    pub template-stands : (f i w : ℕ) (instr : Instr) → f < length code.functions → i < length (function_at code f).ops → slice_get (template code certificate f i) w ≡ Some instr →
        Stands image (begin code certificate f i + 4 * w) instr
    template-stands f i w instr lt inside e =
        let n = length (function_at code f).ops in
        let start = prologue (fact_at certificate f) (function_at code f).params in
        let before = length-functions f (omega (arith, lt)) in
        let words = length-operations code certificate f i (omega (arith, inside)) in
        let first = length-prologue (fact_at certificate f) (function_at code f).params in
        let here = length (operations_before code certificate f i) + w in
        stands (words_to code plan f + (2 + (function_at code f).params + here)) (begin code certificate f i + 4 * w) instr
        (functions-at code certificate (length code.functions) f (2 + (function_at code f).params + here) (words_to code plan f + (2 + (function_at code f).params + here)) instr lt (omega (arith, before))
        (get-right start (operations_before code certificate f n) here (2 + (function_at code f).params + here) instr (omega (arith, first))
        (operations-at code certificate f n i w here instr inside refl e)))
        (omega (arith, entry-is f lt, words))
