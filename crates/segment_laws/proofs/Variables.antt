-- The variables of the running frame after one word of one of them is written.
use Rattle.segment_laws.proofs.Common.{◌≡◌, ℕ, ◌+◌, ◌*◌, ◌<◌, ◌≤◌, List, length, get_or, set, Some, None, sym, ap, subst, ◌∙◌, arith, ⊎_elim, get_or-set_same, get_or-set_other, cases_eq, cases_lt, length-set, get_or_past, word_of-with_word_same, function_at, FlatFrame, variable, set_to, fact_at, Frame, Local, Checked, variable_word, HoldsVariables, IsShaped}
use Rattle.chunk_pool.specs.Pool.{Pool, word_of as pool_word, with_word as with_pool_word, IsPool, end_of}
use Rattle.segment_laws.proofs.Facts.{FrameFacts}
use Rattle.segment_laws.proofs.FrameWords.{InFrame}
use Rattle.segment_laws.proofs.Stacks.{word_of-other}
use Rattle.segment_laws.proofs.Words.{word_number}

-- word j of variable x of the frame's function
abbrev pub offset_of : Checked → Frame → ℕ → ℕ → ℕ
offset_of c frame x j = get_or (fact_at c.certificate frame.function).places x 0 + 4 * j

-- the pool after that word is written
abbrev pub written_pool : Checked → Pool → Frame → ℕ → ℕ → ℕ → Pool
written_pool c pool frame x j value = with_pool_word pool frame.chunk (word_number pool frame.chunk (frame.low + offset_of c frame x j)) value

-- the frame has that word
abbrev pub HasWord : Checked → Frame → ℕ → ℕ → Type 0
HasWord c frame x j = (x < length (function_at c.flat frame.function).sizes) × (j < get_or (function_at c.flat frame.function).sizes x 0)

number_of : (c : Checked) (pool : Pool) (frame : Frame) (y k : ℕ) → variable_word c pool frame y k ≡ pool_word pool frame.chunk (word_number pool frame.chunk (frame.low + offset_of c frame y k))
number_of c pool frame y k =
    let same : frame.low + get_or (fact_at c.certificate frame.function).places y 0 + 4 * k ≡ frame.low + offset_of c frame y k = omega arith in
    ap (λ (a : ℕ). pool_word pool frame.chunk (word_number pool frame.chunk a)) same

pub variable_word-same : (c : Checked) (l : Local) (frame : Frame) (x j value : ℕ) → IsPool l.areas.pool → InFrame l frame (offset_of c frame x j) → variable_word c (written_pool c l.areas.pool frame x j value) frame x j ≡ value
variable_word-same c l frame x j value sound is =
    let pool = l.areas.pool in
    let high : frame.low + offset_of c frame x j + 4 ≤ end_of pool frame.chunk = is.payload.high in
    let low = is.low_in in
    number_of c (written_pool c pool frame x j value) frame x j
    ∙ word_of-with_word_same pool frame.chunk (word_number pool frame.chunk (frame.low + offset_of c frame x j)) value sound is.payload.chunk_below (omega (arith, high, low))

-- two words of variables stand at two offsets
offsets_apart : (c : Checked) (frame : Frame) (x j y k : ℕ) → FrameFacts c frame.function → HasWord c frame x j → HasWord c frame y k → (y ≡ x → k ≡ j → ⊥) → offset_of c frame x j ≡ offset_of c frame y k → ⊥
offsets_apart c frame x j y k fact has other apart equal = ⊎_elim
    (λ (same : y ≡ x).
    let places : get_or (fact_at c.certificate frame.function).places y 0 ≡ get_or (fact_at c.certificate frame.function).places x 0 = ap (λ (z : ℕ). get_or (fact_at c.certificate frame.function).places z 0) same in
    apart same (omega (arith, equal, places)))
    (λ (differ : y ≡ x → ⊥). fact.places_apart x y j k has.0 other.0 (λ same. differ (sym same)) has.1 other.1 equal)
    (cases_eq y x)

pub variable_word-other : (c : Checked) (l : Local) (frame : Frame) (x j value y k : ℕ) → FrameFacts c frame.function → InFrame l frame (offset_of c frame x j) → HasWord c frame x j → HasWord c frame y k → (y ≡ x → k ≡ j → ⊥) →
    variable_word c (written_pool c l.areas.pool frame x j value) frame y k ≡ variable_word c l.areas.pool frame y k
variable_word-other c l frame x j value y k fact is has other apart =
    let pool = l.areas.pool in
    let low_aligned = is.low_aligned in
    let place_aligned = is.place_aligned in
    let low = is.low_in in
    let first = fact.place_aligned x has.0 in
    let second = fact.place_aligned y other.0 in
    number_of c (written_pool c pool frame x j value) frame y k
    ∙ word_of-other pool frame.chunk (word_number pool frame.chunk (frame.low + offset_of c frame x j)) value frame.chunk (word_number pool frame.chunk (frame.low + offset_of c frame y k))
    (λ _ equal. offsets_apart c frame x j y k fact has other apart (let e : offset_of c frame x j ≡ offset_of c frame y k = omega (arith, equal, low_aligned, place_aligned, low, first, second) in e))
    ∙ sym (number_of c pool frame y k)

-- ---- the flat frame

-- a variable that is set is there
pub set_there : (flat : FlatFrame) (y : ℕ) (words : List ℕ) → variable flat y ≡ Some words → y < length flat.variables
set_there flat y words is = ⊎_elim
    (λ (within : y < length flat.variables). within)
    (λ (past : length flat.variables ≤ y). absurd (let none : get_or flat.variables y None ≡ None = get_or_past flat.variables y None past in cc))
    (cases_lt y (length flat.variables))

pub variable-set_same : (flat : FlatFrame) (x : ℕ) (row : List ℕ) → x < length flat.variables → variable (set_to flat x row) x ≡ Some row
variable-set_same flat x row there = get_or-set_same flat.variables x (Some row) None there

pub variable-set_other : (flat : FlatFrame) (x y : ℕ) (row : List ℕ) → (y ≡ x → ⊥) → variable (set_to flat x row) y ≡ variable flat y
variable-set_other flat x y row apart = get_or-set_other flat.variables x y (Some row) None apart

pub IsShaped-set : (c : Checked) (flat : FlatFrame) (x : ℕ) (row : List ℕ) → IsShaped c flat → x < length (function_at c.flat flat.function).sizes → length row ≡ get_or (function_at c.flat flat.function).sizes x 0 → IsShaped c (set_to flat x row)
IsShaped-set c flat x row shape there same = record {
  count = length-set flat.variables x (Some row) ∙ shape.count;
  words = λ y words is. ⊎_elim
      (λ (equal : y ≡ x).
      let here : Some row ≡ Some words = sym (variable-set_same flat x row (omega (arith, shape.count, there))) ∙ ap (variable (set_to flat x row)) (sym equal) ∙ is in
      let rows : row ≡ words = cc in
      ap length (sym rows) ∙ same ∙ ap (λ (z : ℕ). get_or (function_at c.flat flat.function).sizes z 0) (sym equal))
      (λ (apart : y ≡ x → ⊥). shape.words y words (sym (variable-set_other flat x y row apart) ∙ is))
      (cases_eq y x);
}

-- the variables after word j of x was written, where x is set to a row with that word, the others as they stand in the frame
pub HoldsVariables-set : (c : Checked) (l : Local) (frame : Frame) (flat : FlatFrame) (x j value : ℕ) (row : List ℕ) → FrameFacts c frame.function → IsPool l.areas.pool → InFrame l frame (offset_of c frame x j) → HasWord c frame x j →
    frame.function ≡ flat.function → IsShaped c flat → HoldsVariables c l.areas.pool frame flat → length row ≡ get_or (function_at c.flat frame.function).sizes x 0 → get_or row j 0 ≡ value →
    ((k : ℕ) → k < length row → (k ≡ j → ⊥) → get_or row k 0 ≡ variable_word c l.areas.pool frame x k) →
    HoldsVariables c (written_pool c l.areas.pool frame x j value) frame (set_to flat x row)
HoldsVariables-set c l frame flat x j value row fact sound is has function shape holds same at_j others y words set k inside =
    let sizes : length (function_at c.flat flat.function).sizes ≡ length (function_at c.flat frame.function).sizes = ap (λ (g : ℕ). length (function_at c.flat g).sizes) (sym function) in
    ⊎_elim
    (λ (equal : y ≡ x).
    let here : Some row ≡ Some words = sym (variable-set_same flat x row (omega (arith, shape.count, sizes, has.0))) ∙ ap (variable (set_to flat x row)) (sym equal) ∙ set in
    let rows : row ≡ words = cc in
    let small : k < length row = subst (λ (r : List ℕ). k < length r) (sym rows) inside in
    let at_x : variable_word c (written_pool c l.areas.pool frame x j value) frame x k ≡ get_or row k 0 = ⊎_elim
    (λ (k_is : k ≡ j).
    ap (variable_word c (written_pool c l.areas.pool frame x j value) frame x) k_is
    ∙ variable_word-same c l frame x j value sound is ∙ sym at_j ∙ ap (λ (n : ℕ). get_or row n 0) (sym k_is))
    (λ (k_not : k ≡ j → ⊥).
    variable_word-other c l frame x j value x k fact is has (has.0, omega (arith, small, same)) (λ _. k_not) ∙ sym (others k small k_not))
    (cases_eq k j) in
    ap (λ (z : ℕ). variable_word c (written_pool c l.areas.pool frame x j value) frame z k) equal ∙ at_x ∙ ap (λ (r : List ℕ). get_or r k 0) rows)
    (λ (apart : y ≡ x → ⊥).
    let old : variable flat y ≡ Some words = sym (variable-set_other flat x y row apart) ∙ set in
    let there : y < length (function_at c.flat frame.function).sizes = (let within = set_there flat y words old in omega (arith, within, shape.count, sizes)) in
    let count : length words ≡ get_or (function_at c.flat frame.function).sizes y 0 = shape.words y words old ∙ ap (λ (g : ℕ). get_or (function_at c.flat g).sizes y 0) (sym function) in
    variable_word-other c l frame x j value y k fact is has (there, omega (arith, inside, count)) (λ equal _. apart equal) ∙ holds y words old k inside)
    (cases_eq y x)
