-- The function in which a thread stands just past an ECALL is that of the ECALL's operation.
use Rattle.machine_meaning.proofs.Common.{◌≡◌, ℕ, ◌+◌, ◌*◌, ◌<◌, ◌≤◌, List, length, Option, Some, None, refl, sym, ap, ◌∙◌, arith, length-map, lowered_function, lowered, ProgramTree, IsWellScoped, IsValid, Op, FlatCode, operation_at, site_of, ecall_word, fact_at, words_before, begin, size, kind_of, Certificate, Image, before_next, before-front, same_function}
use Rattle.flat_code.specs.Codes as codes
use Rattle.machine_world.specs.Places.{Place, InStub, InPrologue, InOperation, IsAt, function_of}
use Rattle.machine_meaning.proofs.Ends.{function_ends, before_last}
use Rattle.machine_meaning.proofs.Sites.{has_operation}
use Rattle.segment_laws.proofs.OnePlace.{IsWordOf, in_operation, in_prologue, whole_function}

-- no word, and some
abbrev no_word : Option ℕ
no_word = None

abbrev some_word : ℕ → Option ℕ
some_word n = Some n

-- an operation with an ECALL has a site, and its ECALL is one of its words
pub ecall_site : (op : Op) (word : ℕ) → ecall_word op ≡ Some word → (s : ℕ) × (site_of op ≡ Some s)
ecall_site (Op.Model site d n args) word e = (site, refl)
ecall_site (Op.Spawn site d g x) word e = (site, refl)
ecall_site (Op.Call site d g args) word e = (site, refl)
ecall_site (Op.CallTable site d g x y) word e = (site, refl)
ecall_site _ word e = absurd (let n : no_word ≡ Some word = e in cc)

pub ecall_inside : (sizes : List ℕ) (certificate : Certificate) (op : Op) (word : ℕ) → ecall_word op ≡ Some word → word + 1 ≤ size sizes (kind_of certificate op) op
ecall_inside sizes certificate (Op.Model site d n args) word e = let same : length args + 1 ≡ word = (let known : some_word (length args + 1) ≡ Some word = e in cc) in omega (arith, same)
ecall_inside sizes certificate (Op.Spawn site d g x) word e = let same : 6 ≡ word = (let known : some_word 6 ≡ Some word = e in cc) in omega (arith, same)
ecall_inside sizes certificate _ word e = absurd (let n : no_word ≡ Some word = e in cc)

return_some : (sizes : List ℕ) (certificate : Certificate) (value : Option ℕ) → 0 < size sizes (kind_of certificate (Op.Return value)) (Op.Return value)
return_some sizes certificate None = omega arith
return_some sizes certificate (Some s) = omega arith

flat_there : (program : ProgramTree) (f : ℕ) → f < length program.functions → f < length (lowered program).functions
flat_there program f there = omega (arith, there, length-map program.functions lowered_function)

-- the word just past an ECALL is one of its function
pub past_word : (program : ProgramTree) (image : Image) (certificate : Certificate) (pc f i word : ℕ) (op : Op) → IsWellScoped program → IsValid (lowered program) image certificate → operation_at (lowered program) f i ≡ Some op → ecall_word op ≡ Some word
    → pc ≡ begin (lowered program) certificate f i + 4 * (word + 1) → IsWordOf (lowered program) certificate pc f (words_before (lowered program) certificate f i + (word + 1))
past_word program image certificate pc f i word op scoped valid e ecall at =
    let code = lowered program in
    let there = has_operation program scoped f i op e in
    let ends = function_ends program scoped f there in
    let site = ecall_site op word ecall in
    let before = before_last (codes.function_at code f).ops i site.0 op ends e site.1 in
    let step = before_next code certificate f i op e in
    let inside = ecall_inside (codes.function_at code f).sizes certificate op word ecall in
    let front = before-front code certificate f (i + 1) ends.last (omega (arith, before)) in
    let last = before_next code certificate f ends.last (Op.Return ends.value) ends.there in
    let some = return_some (codes.function_at code f).sizes certificate ends.value in
    let all : words_before code certificate f (ends.last + 1) ≡ (fact_at certificate f).words = ap (words_before code certificate f) (sym ends.count) ∙ whole_function code image certificate f valid (flat_there program f there) in
    record { function = flat_there program f there; is = omega (arith, at); small = omega (arith, step, inside, front, last, some, all) }

-- the stub lies before every function
pub stub_word : (code : FlatCode) (image : Image) (certificate : Certificate) (pc w f n : ℕ) → IsValid code image certificate → IsAt (record { flat = code; certificate = certificate }) pc (InStub w) → IsWordOf code certificate pc f n → ⊥
stub_word code image certificate pc w f n valid at word =
    let low = ((valid.holds 2 f 1).v2 refl).inside refl word.function in
    omega (arith, low.1, at.0, at.1, word.is)

-- a place in some function, for there are none in the stub
pub record InFunction (place : Place) : Type 0 where
  pub not_stub : (word : ℕ) → place ≡ InStub word → ⊥

pub past_function : (program : ProgramTree) (image : Image) (certificate : Certificate) (pc f i word : ℕ) (op : Op) (place : Place) → IsWellScoped program → IsValid (lowered program) image certificate → operation_at (lowered program) f i ≡ Some op → ecall_word op ≡ Some word
    → pc ≡ begin (lowered program) certificate f i + 4 * (word + 1) → IsAt (record { flat = lowered program; certificate = certificate }) pc place → InFunction place → function_of place ≡ f
past_function program image certificate pc f i word op (InStub w) scoped valid e ecall at is some = absurd (some.not_stub w refl)
past_function program image certificate pc f i word op (InPrologue g w) scoped valid e ecall at is some =
    same_function (lowered program) image certificate pc g f w _ valid (in_prologue (lowered program) image certificate pc g w valid is) (past_word program image certificate pc f i word op scoped valid e ecall at)
past_function program image certificate pc f i word op (InOperation g j w) scoped valid e ecall at is some =
    same_function (lowered program) image certificate pc g f _ _ valid (in_operation (lowered program) image certificate pc g j w valid is) (past_word program image certificate pc f i word op scoped valid e ecall at)
