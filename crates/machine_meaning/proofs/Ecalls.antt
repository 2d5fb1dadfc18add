-- A thread at the ECALL of an operation stands at an ECALL.
use Rattle.machine_meaning.proofs.Common.{◌≡◌, ℕ, suc, ◌+◌, List, [], ◌∷◌, ◌++◌, length, Option, Some, None, Ok, refl, sym, ap, ◌∙◌, arith, slice_get, Op, Instr, instruction_at, fact_at, a0, Frame, Local, Checked, ecall_word, IsAtCall, IsResting, AtCall, CodeFacts, MayRun}
use Rattle.flat_code.specs.Codes.{function_at}
use Rattle.stack_certificate.specs.Parts.{arguments, system_call}
use Rattle.stack_certificate.specs.Templates.{row, setting, begin}
use Rattle.stack_certificate.specs.declared.settings.Setting.{Setting}
use Rattle.stack_certificate.specs.declared.functions.FunctionFact.{FunctionFact}

behind_arguments : (fact : FunctionFact) (register : ℕ) (args : List ℕ) (n : ℕ) (rest : List Instr) → slice_get (arguments fact register args ++ system_call n ++ rest) (length args + 1) ≡ Some Instr.Ecall
behind_arguments fact register [] n rest = refl
behind_arguments fact register (x ∷ args) n rest = (let next : length (x ∷ args) + 1 ≡ suc (length args + 1) = omega arith in ap (slice_get (arguments fact register (x ∷ args) ++ system_call n ++ rest)) next) ∙ behind_arguments fact (register + 1) args n rest

-- no word
abbrev no_word : Option ℕ
no_word = None

abbrev some_word : ℕ → Option ℕ
some_word n = Some n

ecall_at : (fact : FunctionFact) (sizes : List ℕ) (s : Setting) (op : Op) (word : ℕ) → ecall_word op ≡ Some word → slice_get (row fact sizes s op) word ≡ Some Instr.Ecall
ecall_at fact sizes s (Op.Model site d n args) word e = (let same : length args + 1 ≡ word = (let known : some_word (length args + 1) ≡ Some word = e in cc) in ap (slice_get (row fact sizes s (Op.Model site d n args))) (sym same)) ∙ behind_arguments fact a0 args n _
ecall_at fact sizes s (Op.Spawn site d g x) word e = (let same : 6 ≡ word = (let known : some_word 6 ≡ Some word = e in cc) in ap (slice_get (row fact sizes s (Op.Spawn site d g x))) (sym same)) ∙ refl
ecall_at fact sizes s _ word e = absurd (let n : no_word ≡ Some word = e in cc)

stands_at : (c : Checked) (code : List ℕ) (l : Local) (f i : ℕ) (op : Op) (word : ℕ) (frames : List Frame) → CodeFacts c code → IsAtCall c l.areas.pool l.core f i op word frames → instruction_at code l.core.pc ≡ Ok Instr.Ecall
stands_at c code l f i op word frames facts at =
    let there = at.frames_are.at.0 in
    let here = facts.operation f i op there at.operation in
    let fetched = here.fetch word Instr.Ecall (ecall_at (fact_at c.certificate f) (function_at c.flat f).sizes (setting c.flat c.certificate f (begin c.flat c.certificate f i) op) op word at.ecall) in
    ap (instruction_at code) at.frames_are.at.2 ∙ fetched

-- a thread that rests at no ECALL may run
pub may_run : (c : Checked) (code : List ℕ) (l : Local) → CodeFacts c code → (rests : IsResting c l.areas.pool l.core) → (instruction_at code l.core.pc ≡ Ok Instr.Ecall → ⊥) → MayRun c l.areas.pool l.core rests
may_run c code l facts (AtCall f i op word frames in_place) none = absurd (none (stands_at c code l f i op word frames facts in_place))
may_run c code l facts _ none = tt
