-- The words of templates in the code.
use Rattle.rule_failures.proofs.Common.{◌≡◌, ℕ, ◌+◌, ◌*◌, ◌<◌, ◌≤◌, Bool, true, false, List, length, take, arith, refl, sym, ap, ◌∙◌, subst, Option, Some, None, inl, inr, ◌↔◌, IsTrue, replicate, slice_get, cases_lt, length-replicate, length-take, slice_get_within, slice_get_past, Instr, Op, FlatCode, function_at, operation_at, Image, Certificate, FunctionFact, fact_at, prologue, template, begin, words_before, row_at, setting, setting_at, size, size_at, kind_of, Stands, V5, V6}
use Rattle.stack_certificate.specs.declared.settings.Setting.{Setting}
use Rattle.stack_certificate.specs.InstructionWords.{IsWordOf}
use Rattle.stack_certificate.proofs.SizeLemmas.{length-prologue, length-row}
use Rattle.accepted_pairs.proofs.SomeAt.{some_at}

-- what a comparison with a word of a list of instructions says
pub stands_there : (image : Image) (address : ℕ) (list : List Instr) (w : ℕ) (word : Option ℕ) (r : Bool) → IsWordOf (slice_get list w) word →
    ((instr : Instr) → IsWordOf (Some instr) word → (IsTrue r ↔ Stands image address instr)) → IsTrue r → (instr : Instr) → slice_get list w ≡ Some instr → Stands image address instr
stands_there image address list w word r is says told instr e = (says instr (subst (λ o. IsWordOf o word) e is)).0 told

pub stands_not : (image : Image) (address : ℕ) (list : List Instr) (w : ℕ) (word : Option ℕ) → IsWordOf (slice_get list w) word →
    ((instr : Instr) → IsWordOf (Some instr) word → (IsTrue false ↔ Stands image address instr)) → (instr : Instr) → slice_get list w ≡ Some instr → Stands image address instr → IsTrue false
stands_not image address list w word is says instr e stands = (says instr (subst (λ o. IsWordOf o word) e is)).1 stands

-- ---- the prologue

pub prologue_fails : (code : FlatCode) (image : Image) (certificate : Certificate) (f w params : ℕ) (fact : FunctionFact) → fact ≡ fact_at certificate f → params ≡ (function_at code f).params →
    f < length code.functions → w < 2 + params → ((instr : Instr) → slice_get (prologue fact params) w ≡ Some instr → (w < fact.words) × Stands image (fact.entry + 4 * w) instr → ⊥) →
    V5 code image certificate f w → ⊥
prologue_fails code image certificate f w params fact same count inside lt fails h =
    let s = some_at (prologue fact params) w (let e = length-prologue fact params in omega arith) in
    let P : FunctionFact → Type 0 = λ x. (w < x.words) × Stands image (x.entry + 4 * w) s.0 in
    let there : slice_get (prologue (fact_at certificate f) (function_at code f).params) w ≡ Some s.0 =
    ap (λ x. slice_get (prologue x (function_at code f).params) w) (sym same) ∙ (ap (λ (n : ℕ). slice_get (prologue fact n) w) (sym count) ∙ s.1) in
    fails s.0 s.1 (subst P (sym same) (h.word inside s.0 there))

pub prologue_holds : (code : FlatCode) (image : Image) (certificate : Certificate) (f w params : ℕ) (fact : FunctionFact) → fact ≡ fact_at certificate f → params ≡ (function_at code f).params →
    ((instr : Instr) → slice_get (prologue fact params) w ≡ Some instr → (w < fact.words) × Stands image (fact.entry + 4 * w) instr) →
    V5 code image certificate f w
prologue_holds code image certificate f w params fact same count holds = record {
  word = λ inside instr there.
      let here : slice_get (prologue fact params) w ≡ Some instr =
      ap (λ x. slice_get (prologue x params) w) same ∙ (ap (λ (n : ℕ). slice_get (prologue (fact_at certificate f) n) w) count ∙ there) in
      subst (λ x. (w < x.words) × Stands image (x.entry + 4 * w) instr) same (holds instr here);
}

-- nothing of the prologue stands behind its last word
pub prologue_past : (code : FlatCode) (image : Image) (certificate : Certificate) (f w : ℕ) → 2 + (function_at code f).params ≤ w → V5 code image certificate f w
prologue_past code image certificate f w past = record {
  word = λ inside instr there.
      let lt = slice_get_within (prologue (fact_at certificate f) (function_at code f).params) w instr there in
      let e = length-prologue (fact_at certificate f) (function_at code f).params in
      absurd (omega arith);
}

-- a function has as many variables as parameters, at least
pub few_params : (sizes : List ℕ) (params : ℕ) → take params sizes ≡ replicate params 1 → params ≤ length sizes
few_params sizes params e =
    let count : length (take params sizes) ≡ params = ap length e ∙ length-replicate params 1 in
    omega (arith, length-take params sizes)

-- ---- operations

-- a template of no operation has no instruction
nothing_there : (code : FlatCode) (certificate : Certificate) (f i w : ℕ) (instr : Instr) → operation_at code f i ≡ None → slice_get (template code certificate f i) w ≡ Some instr → ⊥
nothing_there code certificate f i w instr none e =
    let empty : Some instr ≡ None =
    sym e ∙ ap (λ o. slice_get (row_at (fact_at certificate f) (function_at code f).sizes (setting_at code certificate f (begin code certificate f i) o) o) w) none in
    cc

pub operation_not : (code : FlatCode) (image : Image) (certificate : Certificate) (f i : ℕ) → f < length code.functions →
    (((w : ℕ) (instr : Instr) → slice_get (template code certificate f i) w ≡ Some instr → Stands image (begin code certificate f i + 4 * w) instr) → IsTrue false) → V6 code image certificate f i → IsTrue false
operation_not code image certificate f i inside fails h = fails (λ w instr e. h.words inside w instr e)

pub operation_holds : (code : FlatCode) (image : Image) (certificate : Certificate) (f i words : ℕ) → words ≡ (fact_at certificate f).words → i < length (function_at code f).ops →
    words_before code certificate f (i + 1) ≤ words →
    ((w : ℕ) (instr : Instr) → slice_get (template code certificate f i) w ≡ Some instr → Stands image (begin code certificate f i + 4 * w) instr) → V6 code image certificate f i
operation_holds code image certificate f i words is lt room stand = record {
  inside = λ _ _. omega arith;
  words = λ _ w instr e. stand w instr e;
  over = λ _ past. absurd (omega arith);
}

-- behind the last operation
pub over_holds : (code : FlatCode) (image : Image) (certificate : Certificate) (f i words : ℕ) → words ≡ (fact_at certificate f).words → length (function_at code f).ops ≤ i →
    words_before code certificate f (length (function_at code f).ops) ≡ words → V6 code image certificate f i
over_holds code image certificate f i words is past whole = record {
  inside = λ _ lt. absurd (omega arith);
  words = λ _ w instr e. absurd (
      let none : operation_at code f i ≡ None = slice_get_past (function_at code f).ops i past in
      let nothing = nothing_there code certificate f i w instr none e in
      nothing);
  over = λ _ at. subst (λ (n : ℕ). words_before code certificate f n ≡ (fact_at certificate f).words) (sym at) (whole ∙ is);
}

-- ---- the words of one operation

here_is : (code : FlatCode) (certificate : Certificate) (f i b : ℕ) (set : Setting) (o : Option Op) (op : Op) → set ≡ setting_at code certificate f b o → o ≡ Some op → set.here ≡ b
here_is code certificate f i b set o op e there = ap (λ s. s.here) (e ∙ ap (λ p. setting_at code certificate f b p) there)

template_is : (code : FlatCode) (certificate : Certificate) (f i : ℕ) (set : Setting) → set ≡ setting_at code certificate f (begin code certificate f i) (operation_at code f i) →
    row_at (fact_at certificate f) (function_at code f).sizes set (operation_at code f i) ≡ template code certificate f i
template_is code certificate f i set e = ap (λ s. row_at (fact_at certificate f) (function_at code f).sizes s (operation_at code f i)) e

pub template_size : (code : FlatCode) (certificate : Certificate) (f i n : ℕ) (set : Setting) (op : Op) → set ≡ setting_at code certificate f (begin code certificate f i) (operation_at code f i) →
    operation_at code f i ≡ Some op → n ≡ size_at (function_at code f).sizes set.kind (operation_at code f i) → length (template code certificate f i) ≡ n
template_size code certificate f i n set op e there count =
    let kind : set.kind ≡ kind_of certificate op = ap (λ s. s.kind) (e ∙ ap (λ p. setting_at code certificate f (begin code certificate f i) p) there) in
    let rows : length (template code certificate f i) ≡ size (function_at code f).sizes (kind_of certificate op) op =
    ap (λ o. length (row_at (fact_at certificate f) (function_at code f).sizes (setting_at code certificate f (begin code certificate f i) o) o)) there ∙
    length-row (fact_at certificate f) (function_at code f).sizes (setting code certificate f (begin code certificate f i) op) op in
    rows ∙ sym (count ∙ (ap (λ o. size_at (function_at code f).sizes set.kind o) there ∙ ap (λ k. size (function_at code f).sizes k op) kind))

pub word_stands : (code : FlatCode) (image : Image) (certificate : Certificate) (f i w : ℕ) (set : Setting) (op : Op) (word : Option ℕ) → set ≡ setting_at code certificate f (begin code certificate f i) (operation_at code f i) →
    operation_at code f i ≡ Some op → IsWordOf (slice_get (row_at (fact_at certificate f) (function_at code f).sizes set (operation_at code f i)) w) word →
    ((instr : Instr) → IsWordOf (Some instr) word → (IsTrue true ↔ Stands image (set.here + 4 * w) instr)) →
    (instr : Instr) → slice_get (template code certificate f i) w ≡ Some instr → Stands image (begin code certificate f i + 4 * w) instr
word_stands code image certificate f i w set op word e there is says instr at =
    let rows : IsWordOf (slice_get (template code certificate f i) w) word = subst (λ l. IsWordOf (slice_get l w) word) (template_is code certificate f i set e) is in
    subst (λ (a : ℕ). Stands image (a + 4 * w) instr) (here_is code certificate f i _ set _ op e there) (stands_there image _ (template code certificate f i) w word true rows says refl instr at)

pub word_not : (code : FlatCode) (image : Image) (certificate : Certificate) (f i w : ℕ) (set : Setting) (op : Op) (word : Option ℕ) → set ≡ setting_at code certificate f (begin code certificate f i) (operation_at code f i) →
    operation_at code f i ≡ Some op → IsWordOf (slice_get (row_at (fact_at certificate f) (function_at code f).sizes set (operation_at code f i)) w) word →
    ((instr : Instr) → IsWordOf (Some instr) word → (IsTrue false ↔ Stands image (set.here + 4 * w) instr)) → w < length (template code certificate f i) →
    ((v : ℕ) (instr : Instr) → slice_get (template code certificate f i) v ≡ Some instr → Stands image (begin code certificate f i + 4 * v) instr) → IsTrue false
word_not code image certificate f i w set op word e there is says lt all =
    let rows : IsWordOf (slice_get (template code certificate f i) w) word = subst (λ l. IsWordOf (slice_get l w) word) (template_is code certificate f i set e) is in
    let s = some_at (template code certificate f i) w lt in
    let stands : Stands image (set.here + 4 * w) s.0 = subst (λ (a : ℕ). Stands image (a + 4 * w) s.0) (sym (here_is code certificate f i _ set _ op e there)) (all w s.0 s.1) in
    stands_not image _ (template code certificate f i) w word rows says s.0 s.1 stands

-- one more word
pub words_more : (code : FlatCode) (image : Image) (certificate : Certificate) (f i w : ℕ) →
    ((instr : Instr) → slice_get (template code certificate f i) w ≡ Some instr → Stands image (begin code certificate f i + 4 * w) instr) →
    ((v : ℕ) (instr : Instr) → v < w → slice_get (template code certificate f i) v ≡ Some instr → Stands image (begin code certificate f i + 4 * v) instr) →
    (v : ℕ) (instr : Instr) → v < w + 1 → slice_get (template code certificate f i) v ≡ Some instr → Stands image (begin code certificate f i + 4 * v) instr
words_more code image certificate f i w here before v instr less e = elim (cases_lt v w) [
  | inl below ↦ before v instr below e
  | inr above ↦
      (let is : w ≡ v = omega arith in
      let at : slice_get (template code certificate f i) w ≡ Some instr = ap (λ (n : ℕ). slice_get (template code certificate f i) n) is ∙ e in
      subst (λ (n : ℕ). Stands image (begin code certificate f i + 4 * n) instr) is (here instr at))
]

pub operation_there : (code : FlatCode) (f i : ℕ) → i < length (function_at code f).ops → (op : Op) × (operation_at code f i ≡ Some op)
operation_there code f i lt = some_at (function_at code f).ops i lt
