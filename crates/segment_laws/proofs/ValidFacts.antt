-- The rules of a certificate give what the laws of one thread take of the code.
use Rattle.segment_laws.proofs.Common.{◌≡◌, ℕ, ◌+◌, ◌*◌, ◌%◌, ◌<◌, ◌≤◌, List, [], ◌∷◌, length, map, Option, Some, slice_get, refl, sym, ap, ◌∙◌, arith, sum, sum_by, flat_map, length-map, length-flat_map, sum-map, sum_by-cons, Instr, Op, FlatCode, function_at, operation_at, IsOperation, IsFunction, IsWellFormed, context_of, Image, Certificate, fact_at, words_step, IsValid, ZeroesSome, IsOperationAt, CodeFacts, slice_get_within}
use Rattle.stack_certificate.specs.Templates.{row, row_at, setting, setting_at, template, words_before, begin, size, size_at, kind_of}
use Rattle.segment_laws.proofs.FramePlaces.{FrameFacts-valid}
use Rattle.segment_laws.proofs.StandingCode.{fetched_there, all_at, all_index}

-- the words before the next operation are those before this one and its own
pub before_next : (code : FlatCode) (certificate : Certificate) (f i : ℕ) (op : Op) → operation_at code f i ≡ Some op → words_before code certificate f i + size (function_at code f).sizes (kind_of certificate op) op ≡ words_before code certificate f (i + 1)
before_next code certificate f i op there =
    ap (λ (o : Option Op). words_before code certificate f i + size_at (function_at code f).sizes (kind_of certificate op) o) (sym there) ∙ words_step code certificate f i op (sym there)

-- where a function's words stand
record HasRoom (code : FlatCode) (certificate : Certificate) (f : ℕ) : Type 0 where
  aligned : (fact_at certificate f).entry % 4 ≡ 0
  low : 4104 ≤ (fact_at certificate f).entry
  high : (fact_at certificate f).entry + 4 * (fact_at certificate f).words ≤ 804096

has_room : (code : FlatCode) (image : Image) (certificate : Certificate) (f : ℕ) → IsValid code image certificate → f < length code.functions → HasRoom code certificate f
has_room code image certificate f valid there =
    let inside = ((valid.holds 2 f 1).v2 refl).inside refl there in
    let count = ((valid.holds 1 f 2).v1 refl).words refl in
    record { aligned = inside.0; low = inside.1; high = omega (arith, inside.2, count.1) }

IsOperationAt-valid : (code : FlatCode) (image : Image) (certificate : Certificate) → IsWellFormed code → IsValid code image certificate → (f i : ℕ) (op : Op) → f < length code.functions → operation_at code f i ≡ Some op →
    IsOperationAt (record { flat = code; certificate = certificate }) image.code f i op
IsOperationAt-valid code image certificate formed valid f i op there is =
    let room = has_room code image certificate f valid there in
    let next = before_next code certificate f i op is in
    let inside : words_before code certificate f (i + 1) ≤ (fact_at certificate f).words = ((valid.holds 6 f i).v6 refl).inside there (slice_get_within (function_at code f).ops i op is) in
    let high = room.high in
    let entry_aligned = room.aligned in
    let low = room.low in
    let function : IsFunction code (function_at code f) = all_index (IsFunction code) code.functions f _ formed.functions there in
    let row_is : template code certificate f i ≡ row (fact_at certificate f) (function_at code f).sizes (setting code certificate f (begin code certificate f i) op) op =
    ap (λ (o : Option Op). row_at (fact_at certificate f) (function_at code f).sizes (setting_at code certificate f (begin code certificate f i) o) o) is in
    record {
      function = there;
      there = is;
      formed = all_at (IsOperation (context_of code (function_at code f))) (function_at code f).ops i op function.ops is;
      fetch = λ w instr e.
          fetched_there image (begin code certificate f i + 4 * w) instr
          (((valid.holds 6 f i).v6 refl).words there w instr (ap (λ (instrs : List Instr). slice_get instrs w) row_is ∙ e))
          (omega (arith, entry_aligned)) (omega (arith, low));
      next = omega (arith, next);
      aligned = omega (arith, entry_aligned);
      low = omega (arith, low);
      room = omega (arith, next, inside, high);
    }

same_sums : (certificate : Certificate) (tables : List (List ℕ)) → sum_by (λ (members : List ℕ). length (map (λ g. (fact_at certificate g).entry) members)) tables ≡ sum_by length tables
same_sums certificate [] = refl
same_sums certificate (members ∷ tables) =
    sum_by-cons (λ (ms : List ℕ). length (map (λ g. (fact_at certificate g).entry) ms)) members tables
    ∙ (λ i. length-map members (λ g. (fact_at certificate g).entry) i + same_sums certificate tables i)
    ∙ sym (sum_by-cons length members tables)

-- the words of the tables are as many as their members
entries-count : (certificate : Certificate) (tables : List (List ℕ)) → length (flat_map (λ members. map (λ g. (fact_at certificate g).entry) members) tables) ≡ sum (map length tables)
entries-count certificate tables =
    length-flat_map (λ (members : List ℕ). map (λ g. (fact_at certificate g).entry) members) tables
    ∙ same_sums certificate tables
    ∙ sym (sum-map length tables)

pub CodeFacts-valid : (code : FlatCode) (image : Image) (certificate : Certificate) → IsWellFormed code → ZeroesSome code → IsValid code image certificate → CodeFacts (record { flat = code; certificate = certificate }) image.code
CodeFacts-valid code image certificate formed zeroes valid = record {
  operation = IsOperationAt-valid code image certificate formed valid;
  frame = λ f there. FrameFacts-valid code image certificate f valid there;
  prologue_fetch = λ f w instr there e.
      let room = has_room code image certificate f valid there in
      let aligned = room.aligned in
      let low = room.low in
      fetched_there image ((fact_at certificate f).entry + 4 * w) instr (((valid.holds 5 f w).v5 refl).word there instr e).1 (omega (arith, aligned)) (omega (arith, low));
  stub_fetch = λ w instr e. fetched_there image (4096 + 4 * w) instr (((valid.holds 7 0 w).v7 refl).word instr e) (omega arith) (omega arith);
  zeroed = zeroes;
  globals_small = formed.global_words;
  tables_small = (let count = entries-count certificate code.tables in let few = formed.table_members in omega (arith, count, few));
}
