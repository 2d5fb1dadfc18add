-- In code with a valid certificate each pc has one place at most.
use Rattle.segment_laws.proofs.Common.{◌≡◌, ℕ, zero, suc, ◌+◌, ◌*◌, ◌<◌, ◌≤◌, List, [], ◌∷◌, length, take, Option, Some, None, slice_get, refl, sym, ap, ◌∙◌, arith, ⊎_elim, sum_by, cases_eq, cases_lt, sum_by-cons, FlatCode, function_at, operation_at, Op, Image, fact_at, words_before, size, size_at, kind_of, Certificate, words_step, IsValid, Checked, Place, InStub, InPrologue, InOperation, IsAt, size_in}

-- ---- words before an operation

-- a longer front has no smaller sum
pub sum-front : (f : Op → ℕ) (ops : List Op) (i j : ℕ) → i ≤ j → sum_by f (take i ops) ≤ sum_by f (take j ops)
sum-front f _ (suc i) zero below = absurd (omega arith)
sum-front f (op ∷ ops) (suc i) (suc j) below = omega (arith, sum-front f ops i j (omega arith), sum_by-cons f op (take i ops), sum_by-cons f op (take j ops))
sum-front f _ _ _ below = omega arith

pub before-front : (code : FlatCode) (certificate : Certificate) (f i j : ℕ) → i ≤ j → words_before code certificate f i ≤ words_before code certificate f j
before-front code certificate f i j below = omega (arith, sum-front (λ op. size (function_at code f).sizes (kind_of certificate op) op) (function_at code f).ops i j below)

-- word w of the operation, if it is there, stands before the next operation's words
record HasOperation (code : FlatCode) (certificate : Certificate) (f i w : ℕ) : Type 0 where
  op : Op
  there : operation_at code f i ≡ Some op
  past : words_before code certificate f i + w < words_before code certificate f (i + 1)

has_operation : (c : Checked) (f i w : ℕ) (found : Option Op) → operation_at c.flat f i ≡ found → w < size_in c f found → HasOperation c.flat c.certificate f i w
has_operation c f i w None there small = absurd (omega arith)
has_operation c f i w (Some op) there small =
    let step : words_before c.flat c.certificate f i + size (function_at c.flat f).sizes (kind_of c.certificate op) op ≡ words_before c.flat c.certificate f (i + 1) =
    ap (λ (o : Option Op). words_before c.flat c.certificate f i + size_at (function_at c.flat f).sizes (kind_of c.certificate op) o) (sym there) ∙ words_step c.flat c.certificate f i op (sym there) in
    record { op = op; there = there; past = omega (arith, step, small) }

pub within : (ops : List Op) (i : ℕ) (op : Op) → slice_get ops i ≡ Some op → i < length ops
within [] i op e = absurd (cc)
within (x ∷ ops) zero op e = omega arith
within (x ∷ ops) (suc i) op e = (let rest = within ops i op e in omega (arith, rest))

-- ---- the words of a function

-- pc is word n of function f
pub record IsWordOf (code : FlatCode) (certificate : Certificate) (pc f n : ℕ) : Type 0 where
  pub function : f < length code.functions
  pub is : pc ≡ (fact_at certificate f).entry + 4 * n
  pub small : n < (fact_at certificate f).words

-- the words of all operations are those of the function
pub whole_function : (code : FlatCode) (image : Image) (certificate : Certificate) (f : ℕ) → IsValid code image certificate → f < length code.functions → words_before code certificate f (length (function_at code f).ops) ≡ (fact_at certificate f).words
whole_function code image certificate f valid there = ((valid.holds 6 f (length (function_at code f).ops)).v6 refl).over there refl

pub in_prologue : (code : FlatCode) (image : Image) (certificate : Certificate) (pc f w : ℕ) → IsValid code image certificate → IsAt (record { flat = code; certificate = certificate }) pc (InPrologue f w) → IsWordOf code certificate pc f w
in_prologue code image certificate pc f w valid at =
    let whole = whole_function code image certificate f valid at.0 in
    let front = before-front code certificate f 0 (length (function_at code f).ops) (omega arith) in
    record { function = at.0; is = at.2; small = omega (arith, whole, front, at.1) }

pub in_operation : (code : FlatCode) (image : Image) (certificate : Certificate) (pc f i w : ℕ) → IsValid code image certificate → IsAt (record { flat = code; certificate = certificate }) pc (InOperation f i w) → IsWordOf code certificate pc f (words_before code certificate f i + w)
in_operation code image certificate pc f i w valid at =
    let c : Checked = record { flat = code; certificate = certificate } in
    let has = has_operation c f i w (operation_at code f i) refl at.1 in
    let below = within (function_at code f).ops i has.op has.there in
    let whole = whole_function code image certificate f valid at.0 in
    let front = before-front code certificate f (i + 1) (length (function_at code f).ops) (omega arith) in
    record { function = at.0; is = omega (arith, at.2); small = omega (arith, has.past, front, whole) }

-- words of two functions are apart
pub same_function : (code : FlatCode) (image : Image) (certificate : Certificate) (pc f g m n : ℕ) → IsValid code image certificate → IsWordOf code certificate pc f m → IsWordOf code certificate pc g n → f ≡ g
same_function code image certificate pc f g m n valid first second = ⊎_elim (λ (same : f ≡ g). same)
    (λ (apart : f ≡ g → ⊥). absurd (⊎_elim
    (λ (lower : g < f). (((valid.holds 2 f 3).v2 refl).apart refl first.function g lower).no_byte pc (omega (arith, first.is), omega (arith, first.is, first.small)) (omega (arith, second.is), omega (arith, second.is, second.small)))
    (λ (upper : f ≤ g). (((valid.holds 2 g 3).v2 refl).apart refl second.function f (omega (arith, upper, apart))).no_byte pc (omega (arith, second.is), omega (arith, second.is, second.small)) (omega (arith, first.is), omega (arith, first.is, first.small)))
    (cases_lt g f)))
    (cases_eq f g)

-- the stub lies before every function
before_functions : (code : FlatCode) (image : Image) (certificate : Certificate) (pc w f n : ℕ) → IsValid code image certificate → (w < 2) → (pc ≡ 4096 + 4 * w) → IsWordOf code certificate pc f n → ⊥
before_functions code image certificate pc w f n valid small is word =
    let low = ((valid.holds 2 f 1).v2 refl).inside refl word.function in
    absurd (omega (arith, low.1, is, word.is, small))

-- two words of one function
same_number : (code : FlatCode) (certificate : Certificate) (pc f g m n : ℕ) → f ≡ g → IsWordOf code certificate pc f m → IsWordOf code certificate pc g n → m ≡ n
same_number code certificate pc f g m n same first second =
    let entries : (fact_at certificate f).entry ≡ (fact_at certificate g).entry = ap (λ (h : ℕ). (fact_at certificate h).entry) same in
    omega (arith, entries, first.is, second.is)

pub one_place : (flat : FlatCode) (image : Image) (certificate : Certificate) (pc : ℕ) (place other : Place) → IsValid flat image certificate →
    IsAt (record { flat = flat; certificate = certificate }) pc place → IsAt (record { flat = flat; certificate = certificate }) pc other → place ≡ other
one_place flat image certificate pc (InStub w) (InStub v) valid at too = (let same : w ≡ v = omega (arith, at.1, too.1) in ap InStub same)
one_place flat image certificate pc (InStub w) (InPrologue g v) valid at too = absurd (before_functions flat image certificate pc w g v valid at.0 at.1 (in_prologue flat image certificate pc g v valid too))
one_place flat image certificate pc (InStub w) (InOperation g j v) valid at too = absurd (before_functions flat image certificate pc w g _ valid at.0 at.1 (in_operation flat image certificate pc g j v valid too))
one_place flat image certificate pc (InPrologue f w) (InStub v) valid at too = absurd (before_functions flat image certificate pc v f w valid too.0 too.1 (in_prologue flat image certificate pc f w valid at))
one_place flat image certificate pc (InOperation f i w) (InStub v) valid at too = absurd (before_functions flat image certificate pc v f _ valid too.0 too.1 (in_operation flat image certificate pc f i w valid at))
one_place flat image certificate pc (InPrologue f w) (InPrologue g v) valid at too =
    let first = in_prologue flat image certificate pc f w valid at in
    let second = in_prologue flat image certificate pc g v valid too in
    let same = same_function flat image certificate pc f g w v valid first second in
    let number = same_number flat certificate pc f g w v same first second in
    (λ i. InPrologue (same i) (number i))
one_place flat image certificate pc (InPrologue f w) (InOperation g j v) valid at too =
    let first = in_prologue flat image certificate pc f w valid at in
    let second = in_operation flat image certificate pc g j v valid too in
    let same = same_function flat image certificate pc f g w _ valid first second in
    let number = same_number flat certificate pc f g w _ same first second in
    let front : words_before flat certificate g 0 ≤ words_before flat certificate g j = before-front flat certificate g 0 j (omega arith) in
    let params : (function_at flat f).params ≡ (function_at flat g).params = ap (λ (h : ℕ). (function_at flat h).params) same in
    absurd (omega (arith, at.1, number, front, params))
one_place flat image certificate pc (InOperation f i w) (InPrologue g v) valid at too =
    let first = in_operation flat image certificate pc f i w valid at in
    let second = in_prologue flat image certificate pc g v valid too in
    let same = same_function flat image certificate pc f g _ v valid first second in
    let number = same_number flat certificate pc f g _ v same first second in
    let front : words_before flat certificate f 0 ≤ words_before flat certificate f i = before-front flat certificate f 0 i (omega arith) in
    let params : (function_at flat f).params ≡ (function_at flat g).params = ap (λ (h : ℕ). (function_at flat h).params) same in
    absurd (omega (arith, too.1, number, front, params))
one_place flat image certificate pc (InOperation f i w) (InOperation g j v) valid at too =
    let c : Checked = record { flat = flat; certificate = certificate } in
    let first = in_operation flat image certificate pc f i w valid at in
    let second = in_operation flat image certificate pc g j v valid too in
    let same = same_function flat image certificate pc f g _ _ valid first second in
    let number = same_number flat certificate pc f g _ _ same first second in
    let here : words_before flat certificate g i ≡ words_before flat certificate f i = ap (λ (h : ℕ). words_before flat certificate h i) (sym same) in
    let here_next : words_before flat certificate g (i + 1) ≡ words_before flat certificate f (i + 1) = ap (λ (h : ℕ). words_before flat certificate h (i + 1)) (sym same) in
    let mine = has_operation c f i w (operation_at flat f i) refl at.1 in
    let yours = has_operation c g j v (operation_at flat g j) refl too.1 in
    let operation : i ≡ j = ⊎_elim (λ (equal : i ≡ j). equal)
    (λ (apart : i ≡ j → ⊥). absurd (⊎_elim
    (λ (lower : i < j). (let front = before-front flat certificate g (i + 1) j (omega arith) in omega (arith, front, mine.past, here_next, number)))
    (λ (upper : j ≤ i). (let front = before-front flat certificate g (j + 1) i (omega (arith, upper, apart)) in omega (arith, front, yours.past, here, number)))
    (cases_lt i j)))
    (cases_eq i j) in
    let begins : words_before flat certificate f i ≡ words_before flat certificate g j = sym here ∙ ap (words_before flat certificate g) operation in
    let word : w ≡ v = omega (arith, begins, number) in
    (λ k. InOperation (same k) (operation k) (word k))
