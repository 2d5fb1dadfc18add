-- A valid pair's code is well formed: as its functions have as many words at most as the image, they have as many operations.
use Rattle.machine_meaning.proofs.Common.{◌≡◌, ℕ, suc, ◌+◌, ◌^◌, ◌<◌, ◌≤◌, List, [], ◌∷◌, length, map, take, Some, refl, ap, ◌∙◌, arith, slice_get, slice_index_or, sum_by, AllByRecursion, sum_by-cons, lowered_function, lowered, ProgramTree, IsWellScoped, IsValid, FlatFunction, Op, ecall_word, fact_at, size, kind_of, Certificate, Image, same_function}
use Rattle.c_lower.proofs.FormedPrograms.{program_formed}
use Rattle.flat_code.specs.Codes.{FlatCode, function_at, operation_at}
use Rattle.flat_code.specs.WellFormed.{IsWellFormed}
use Rattle.machine_meaning.proofs.Ends.{function_ends, before_last}
use Rattle.machine_meaning.proofs.Past.{ecall_site}
use Rattle.machine_meaning.proofs.Sites.{has_operation}
use Rattle.machine_meaning.proofs.Zeroes.{program_zeroes}
use Rattle.segment_laws.proofs.OnePlace.{in_prologue, whole_function}
use Rattle.segment_laws.proofs.Past.{size_some}

-- ---- there are no more operations than words

words_many : (weight : Op → ℕ) (ops : List Op) → ((i : ℕ) (op : Op) → slice_get ops i ≡ Some op → 0 < weight op) → length ops ≤ sum_by weight (take (length ops) ops)
words_many weight [] some = omega arith
words_many weight (op ∷ ops) some =
    (let first = some 0 op refl in let rest = words_many weight ops (λ i o e. some (suc i) o e) in omega (arith, first, rest, sum_by-cons weight op (take (length ops) ops)))

few_operations : (program : ProgramTree) (image : Image) (certificate : Certificate) (f : ℕ) → IsWellScoped program → IsValid (lowered program) image certificate → f < length (lowered program).functions → length (function_at (lowered program) f).ops ≤ 2 ^ 32
few_operations program image certificate f scoped valid there =
    let code = lowered program in
    let sizes = (function_at code f).sizes in
    let many = words_many (λ op. size sizes (kind_of certificate op) op) (function_at code f).ops
    (λ i op e. size_some sizes (kind_of certificate op) op (λ a is. program_zeroes program scoped f i a there (e ∙ ap Some is))) in
    let all = whole_function code image certificate f valid there in
    let inside = ((valid.holds 2 f 1).v2 refl).inside refl there in
    let few = ((valid.holds 1 0 2).v1 refl).words refl in
    (let short : length (function_at code f).ops ≤ 200000 = omega (arith, many, all, inside.2, few.1) in omega (arith, short))

-- what holds of each element holds of all
pub all_from : (P : FlatFunction → Type 0) (d : FlatFunction) (fs : List FlatFunction) → ((f : ℕ) → f < length fs → P (slice_index_or fs f d)) → AllByRecursion P fs
all_from P d [] each = tt
all_from P d (g ∷ fs) each = (each 0 (omega arith), all_from P d fs (λ f lt. each (suc f) (omega arith)))

pub formed : (program : ProgramTree) (image : Image) (certificate : Certificate) → IsWellScoped program → IsValid (lowered program) image certificate → IsWellFormed (lowered program)
formed program image certificate scoped valid =
    program_formed program scoped (all_from (λ g. length g.ops ≤ 2 ^ 32) (record { params = 0; gives = Rattle.std.specs.Prelude.false; sizes = []; ops = [] }) (map lowered_function program.functions) (λ f lt. few_operations program image certificate f scoped valid lt))

-- ---- an operation follows each that asks

pub follows : (program : ProgramTree) → IsWellScoped program → (f i word : ℕ) (op : Op) → f < length (lowered program).functions → operation_at (lowered program) f i ≡ Some op → ecall_word op ≡ Some word → i + 1 < length (function_at (lowered program) f).ops
follows program scoped f i word op there e ecall =
    let ends = function_ends program scoped f (has_operation program scoped f i op e) in
    let site = ecall_site op word ecall in
    let before = before_last (function_at (lowered program) f).ops i site.0 op ends e site.1 in
    omega (arith, before, ends.count)

-- ---- entries

pub entries : (code : FlatCode) (image : Image) (certificate : Certificate) (f g : ℕ) → IsValid code image certificate → f < length code.functions → g < length code.functions → (fact_at certificate f).entry ≡ (fact_at certificate g).entry → f ≡ g
entries code image certificate f g valid there too same =
    same_function code image certificate (fact_at certificate f).entry f g 0 0 valid
    (in_prologue code image certificate (fact_at certificate f).entry f 0 valid (there, omega arith, omega arith))
    (in_prologue code image certificate (fact_at certificate f).entry g 0 valid (too, omega arith, omega (arith, same)))
