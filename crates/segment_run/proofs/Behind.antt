-- A thread just behind the ECALL of a call: where it stands, and that no other ECALL stands there.
use Rattle.segment_run.proofs.Common.{◌≡◌, ℕ, ◌+◌, ◌*◌, ◌%◌, ◌<◌, ◌≤◌, List, get_or, pos, Option, Some, None, Ok, slice_get, refl, sym, ap, subst, ◌∙◌, arith, Pool, Instr, instruction_at, function_at, operation_at, result_place, Op, fact_at, begin, size, result_size, kind_of, row, setting, Frame, Core, Checked, Place, InOperation, IsAt, Whole, row_at, size_in, lowered, ProgramTree, IsWellScoped, IsValid, formed, follows, program_zeroes, IsResting, AtStart, AtCall, PastCall, IsAtCall, IsPastCall, ecall_word, CodeFacts-valid, Certificate, Image, CodeFacts, row_first, size_some, function_of_op, FollowsAsks, ask_shape, some_at}
use Rattle.segment_laws.proofs.Passing.{call_is_ecall, no_other}
use Rattle.segment_run.specs.Passing as passing
use Rattle.segment_laws.proofs.FirstWords.{HasOther, has_other, first_other, ask_words}

-- behind an ECALL pc stands among the words of an operation, where the frame is whole, and not at an ECALL
pub record IsBehindCall (c : Checked) (code : List ℕ) (core : Core) (f : ℕ) : Type 0 where
  pub operation : ℕ
  pub word : ℕ
  pub at : IsAt c core.pc (InOperation f operation word)
  pub whole : row_at c.certificate word (operation_at c.flat f operation) ≡ Whole
  pub no_ecall : instruction_at code core.pc ≡ Ok Instr.Ecall → ⊥

no_sw : (r s : ℕ) (k : ℕ) → (let i : Instr = Instr.Sw r s (pos k) in i) ≡ Instr.Ecall → ⊥
no_sw r s k e = cc

module _ (c : Checked) (code : List ℕ) (facts : CodeFacts c code) (asks_followed : FollowsAsks c.flat) where
  behind_by : (core : Core) (f i word : ℕ) (op : Op) (d : Option ℕ) → operation_at c.flat f i ≡ Some op → ecall_word op ≡ Some word → core.pc ≡ begin c.flat c.certificate f i + 4 * (word + 1) → result_place op ≡ d → IsBehindCall c code core f
  behind_by core f i word op (Some d) operation ecall pc to =
      let there = function_of_op c.flat f i op operation in
      let here = facts.operation f i op there operation in
      let shape = ask_shape op word ecall in
      let size_is : size (function_at c.flat f).sizes (kind_of c.certificate op) op ≡ word + 1 + 1 = shape.size_is (function_at c.flat f).sizes (kind_of c.certificate op) ∙ ap (λ (o : Option ℕ). word + 1 + result_size o) to in
      let words = ask_words (fact_at c.certificate f) (function_at c.flat f).sizes (setting c.flat c.certificate f (begin c.flat c.certificate f i) op) op word ecall in
      let stored : Instr = Instr.Sw 2 10 (pos (get_or (fact_at c.certificate f).places d 0)) in
      record {
        operation = i;
        word = word + 1;
        at = (there, subst (λ (o : Option Op). word + 1 < size_in c f o) (sym operation) (omega (arith, size_is)), pc);
        whole = ap (row_at c.certificate (word + 1)) operation ∙ shape.whole (kind_of c.certificate op) (word + 1);
        no_ecall = no_other (instruction_at code core.pc) stored (ap (instruction_at code) pc ∙ here.fetch (word + 1) stored (words.stored d to)) (no_sw 2 10 (get_or (fact_at c.certificate f).places d 0));
      }
  behind_by core f i word op None operation ecall pc to =
      let there = function_of_op c.flat f i op operation in
      let here = facts.operation f i op there operation in
      let shape = ask_shape op word ecall in
      let size_is : size (function_at c.flat f).sizes (kind_of c.certificate op) op ≡ word + 1 + 0 = shape.size_is (function_at c.flat f).sizes (kind_of c.certificate op) ∙ ap (λ (o : Option ℕ). word + 1 + result_size o) to in
      let follow = some_at (function_at c.flat f).ops (i + 1) (asks_followed f i word op there operation ecall) in
      let after : Op = follow.0 in
      let later = facts.operation f (i + 1) after there follow.1 in
      let zeroes = (λ (a : ℕ) (is : after ≡ Op.Zero a). facts.zeroed f (i + 1) a there (follow.1 ∙ ap Some is)) in
      let some = size_some (function_at c.flat f).sizes (kind_of c.certificate after) after zeroes in
      let begins = begin c.flat c.certificate f (i + 1) in
      let first : HasOther (slice_get (row (fact_at c.certificate f) (function_at c.flat f).sizes (setting c.flat c.certificate f begins after) after) 0) =
      has_other (slice_get (row (fact_at c.certificate f) (function_at c.flat f).sizes (setting c.flat c.certificate f begins after) after) 0)
      (first_other (fact_at c.certificate f) (function_at c.flat f).sizes (setting c.flat c.certificate f begins after) after zeroes) in
      let step = here.next in
      let at_next : core.pc ≡ begins + 4 * 0 = pc ∙ (let e : begin c.flat c.certificate f i + 4 * (word + 1) ≡ begins + 4 * 0 = omega (arith, step, size_is) in e) in
      record {
        operation = i + 1;
        word = 0;
        at = (there, subst (λ (o : Option Op). 0 < size_in c f o) (sym follow.1) some, at_next);
        whole = ap (row_at c.certificate 0) follow.1 ∙ row_first (kind_of c.certificate after) after;
        no_ecall = no_other (instruction_at code core.pc) first.instr (ap (instruction_at code) at_next ∙ later.fetch 0 first.instr first.is) first.other;
      }

  pub behind : (pool : Pool) (core : Core) (f i word : ℕ) (op : Op) (place : Place) (frames : List Frame) → IsPastCall c pool core f i op word place frames → IsBehindCall c code core f
  behind pool core f i word op place frames past = behind_by core f i word op (result_place op) past.operation past.ecall past.pc refl

-- ---- at or behind the ECALL of checked code

module _ (program : ProgramTree) (image : Image) (certificate : Certificate) (scoped : IsWellScoped program) (valid : IsValid (lowered program) image certificate) where
  abbrev checked : Checked
  checked = record { flat = lowered program; certificate = certificate }

  pub code_facts : CodeFacts checked image.code
  code_facts = CodeFacts-valid (lowered program) image certificate (formed program image certificate scoped valid) (program_zeroes program scoped) valid

  pub behind_call : (pool : Pool) (core : Core) (f i word : ℕ) (op : Op) (place : Place) (frames : List Frame) → IsPastCall checked pool core f i op word place frames → IsBehindCall checked image.code core f
  behind_call pool core f i word op place frames past = behind checked image.code code_facts (follows program scoped) pool core f i word op place frames past

  pub at_ecall : (pool : Pool) (core : Core) (f i word : ℕ) (op : Op) (frames : List Frame) → IsAtCall checked pool core f i op word frames → instruction_at image.code core.pc ≡ Ok Instr.Ecall
  at_ecall pool core f i word op frames at = call_is_ecall checked image.code pool core f i word op frames code_facts at

  -- a place of a word
  pub aligned_low : (pool : Pool) (core : Core) (rests : IsResting checked pool core) → passing.IsAround checked pool core rests → (core.pc % 4 ≡ 0) × (4100 ≤ core.pc)
  aligned_low pool core (AtStart f frames has) around = absurd around
  aligned_low pool core (AtCall f i op word frames at) around =
      let here = code_facts.operation f i op (function_of_op checked.flat f i op at.operation) at.operation in
      let aligned = here.aligned in
      let low = here.low in
      let pc = at.frames_are.at.2 in
      (omega (arith, aligned, pc), omega (arith, low, pc))
  aligned_low pool core (PastCall f i op word place frames past) around =
      let here = code_facts.operation f i op (function_of_op checked.flat f i op past.operation) past.operation in
      let aligned = here.aligned in
      let low = here.low in
      let pc = past.pc in
      (omega (arith, aligned, pc), omega (arith, low, pc))
