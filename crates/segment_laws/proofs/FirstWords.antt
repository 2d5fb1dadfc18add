-- No operation begins with an ECALL, and one that asks has it at its word.
use Rattle.segment_laws.proofs.Common.{◌≡◌, ℕ, zero, suc, ◌+◌, ◌*◌, ◌<◌, List, [], ◌∷◌, ◌++◌, length, get_or, pos, Option, Some, None, slice_get, refl, ap, subst, ◌∙◌, arith, length-append, Instr, result_place, Op, FunctionFact, Setting, LinkKind, row, ecall_word, length-arguments}
use Rattle.stack_certificate.specs.Parts.{zeroes, arguments, transfer, result, system_call}
use Rattle.segment_laws.proofs.Calling.{get_front, get_behind}

-- an instruction that is there and no ECALL
abbrev pub IsOther : Option Instr → Type 0
IsOther None = ⊥
IsOther (Some Instr.Ecall) = ⊥
IsOther (Some instr) = Unit {0}

pub record HasOther (found : Option Instr) : Type 0 where
  pub instr : Instr
  pub is : found ≡ Some instr
  pub other : instr ≡ Instr.Ecall → ⊥

pub has_other : (found : Option Instr) → IsOther found → HasOther found
has_other None is = absurd is
has_other (Some instr) is = record { instr = instr; is = refl; other = λ e. subst (λ (i : Instr). IsOther (Some i)) e is }

zeroes_first : (place n : ℕ) → 0 < n → IsOther (slice_get (zeroes place n) 0)
zeroes_first place zero some = absurd (omega arith)
zeroes_first place (suc n) some = tt

transfer_first : (kind : LinkKind) (entry here : ℕ) (rest : List Instr) → IsOther (slice_get (transfer kind (Some entry) here ++ rest) 0)
transfer_first LinkKind.Plain entry here rest = tt
transfer_first (LinkKind.Linked need) entry here rest = tt
transfer_first (LinkKind.Spawned need) entry here rest = tt

call_first : (fact : FunctionFact) (args : List ℕ) (kind : LinkKind) (entry here : ℕ) (rest : List Instr) → IsOther (slice_get ((arguments fact 10 args ++ transfer kind (Some entry) here) ++ rest) 0)
call_first fact [] kind entry here rest = transfer_first kind entry here rest
call_first fact (x ∷ args) kind entry here rest = tt

model_first : (fact : FunctionFact) (args : List ℕ) (n : ℕ) (rest : List Instr) → IsOther (slice_get ((arguments fact 10 args ++ system_call n) ++ rest) 0)
model_first fact [] n rest = tt
model_first fact (x ∷ args) n rest = tt

pub first_other : (fact : FunctionFact) (sizes : List ℕ) (s : Setting) (op : Op) → ((a : ℕ) → op ≡ Op.Zero a → 0 < get_or sizes a 0) → IsOther (slice_get (row fact sizes s op) 0)
first_other fact sizes s (Op.Zero a) zeroes = zeroes_first (get_or fact.places a 0) (get_or sizes a 0) (zeroes a refl)
first_other fact sizes s (Op.Call site d f args) zeroes = call_first fact args s.kind s.entry (s.here + 4 * length args) (result fact d)
first_other fact sizes s (Op.Model site d n args) zeroes = model_first fact args n (result fact d)
first_other fact sizes s (Op.Return None) zeroes = tt
first_other fact sizes s (Op.Return (Some x)) zeroes = tt
first_other fact sizes s (Op.Const d v) zeroes = tt
first_other fact sizes s (Op.Copy d q) zeroes = tt
first_other fact sizes s (Op.Neg d q) zeroes = tt
first_other fact sizes s (Op.Not d q) zeroes = tt
first_other fact sizes s (Op.Flip d q) zeroes = tt
first_other fact sizes s (Op.Bin b d x y) zeroes = tt
first_other fact sizes s (Op.LoadGlobal d h) zeroes = tt
first_other fact sizes s (Op.StoreGlobal h q) zeroes = tt
first_other fact sizes s (Op.LoadLocal d a k) zeroes = tt
first_other fact sizes s (Op.LoadArray d a k) zeroes = tt
first_other fact sizes s (Op.StoreLocal a k q) zeroes = tt
first_other fact sizes s (Op.StoreArray a k q) zeroes = tt
first_other fact sizes s (Op.Jump to) zeroes = tt
first_other fact sizes s (Op.JumpZero q to) zeroes = tt
first_other fact sizes s (Op.CallTable site d t k q) zeroes = tt
first_other fact sizes s (Op.Spawn site d h q) zeroes = tt

-- ---- the ECALL, and what stands behind it

abbrev no_word : Option ℕ
no_word = None

abbrev some_word : ℕ → Option ℕ
some_word n = Some n

-- the words of an operation that asks, from its ECALL on
pub record AskWords (fact : FunctionFact) (sizes : List ℕ) (s : Setting) (op : Op) (word : ℕ) : Type 0 where
  pub ecall : slice_get (row fact sizes s op) word ≡ Some Instr.Ecall
  pub stored : (d : ℕ) → result_place op ≡ Some d → slice_get (row fact sizes s op) (word + 1) ≡ Some (Instr.Sw 2 10 (pos (get_or fact.places d 0)))

stored_last : (fact : FunctionFact) (front : List Instr) (to : Option ℕ) (n d : ℕ) → n ≡ length front → to ≡ Some d → slice_get (front ++ result fact to) n ≡ Some (Instr.Sw 2 10 (pos (get_or fact.places d 0)))
stored_last fact front None n d long is = absurd cc
stored_last fact front (Some d') n d long is =
    let same : d' ≡ d = cc in
    get_behind front (result fact (Some d')) n 0 (omega (arith, long)) ∙ ap (λ (x : ℕ). Some (Instr.Sw 2 10 (pos (get_or fact.places x 0)))) same

model_length : (fact : FunctionFact) (args : List ℕ) (n : ℕ) → length (arguments fact 10 args ++ system_call n) ≡ length args + 2
model_length fact args n = length-append (arguments fact 10 args) (system_call n) ∙ ap (λ (k : ℕ). k + 2) (length-arguments fact 10 args)

pub ask_words : (fact : FunctionFact) (sizes : List ℕ) (s : Setting) (op : Op) (word : ℕ) → ecall_word op ≡ Some word → AskWords fact sizes s op word
ask_words fact sizes s (Op.Model site d n args) word e =
    let word_is : length args + 1 ≡ word = (let same : some_word (length args + 1) ≡ Some word = e in cc) in
    let long = length-arguments fact 10 args in
    let whole = model_length fact args n in
    record {
      ecall = get_front (arguments fact 10 args ++ system_call n) (result fact d) word Instr.Ecall (get_behind (arguments fact 10 args) (system_call n) word 1 (omega (arith, word_is, long)));
      stored = λ x is. stored_last fact (arguments fact 10 args ++ system_call n) d (word + 1) x (omega (arith, word_is, whole)) is;
    }
ask_words fact sizes s (Op.Spawn site d g x) word e =
    let word_is : 6 ≡ word = (let same : some_word 6 ≡ Some word = e in cc) in
    subst (AskWords fact sizes s (Op.Spawn site d g x)) word_is (spawn_words fact sizes s site g x d)
  where
    spawn_words : (fact : FunctionFact) (sizes : List ℕ) (s : Setting) (site g x : ℕ) (d : Option ℕ) → AskWords fact sizes s (Op.Spawn site d g x) 6
    spawn_words fact sizes s site g x None = record { ecall = refl; stored = λ y is. absurd cc }
    spawn_words fact sizes s site g x (Some d) = record { ecall = refl; stored = λ y is. let same : d ≡ y = cc in ap (λ (z : ℕ). Some (Instr.Sw 2 10 (pos (get_or fact.places z 0)))) same }
ask_words fact sizes s (Op.Const d v) word e = absurd (let same : no_word ≡ Some word = e in cc)
ask_words fact sizes s (Op.Copy d q) word e = absurd (let same : no_word ≡ Some word = e in cc)
ask_words fact sizes s (Op.Neg d q) word e = absurd (let same : no_word ≡ Some word = e in cc)
ask_words fact sizes s (Op.Not d q) word e = absurd (let same : no_word ≡ Some word = e in cc)
ask_words fact sizes s (Op.Flip d q) word e = absurd (let same : no_word ≡ Some word = e in cc)
ask_words fact sizes s (Op.Bin b d x y) word e = absurd (let same : no_word ≡ Some word = e in cc)
ask_words fact sizes s (Op.LoadGlobal d h) word e = absurd (let same : no_word ≡ Some word = e in cc)
ask_words fact sizes s (Op.StoreGlobal h q) word e = absurd (let same : no_word ≡ Some word = e in cc)
ask_words fact sizes s (Op.LoadLocal d a k) word e = absurd (let same : no_word ≡ Some word = e in cc)
ask_words fact sizes s (Op.LoadArray d a k) word e = absurd (let same : no_word ≡ Some word = e in cc)
ask_words fact sizes s (Op.StoreLocal a k q) word e = absurd (let same : no_word ≡ Some word = e in cc)
ask_words fact sizes s (Op.StoreArray a k q) word e = absurd (let same : no_word ≡ Some word = e in cc)
ask_words fact sizes s (Op.Jump to) word e = absurd (let same : no_word ≡ Some word = e in cc)
ask_words fact sizes s (Op.JumpZero q to) word e = absurd (let same : no_word ≡ Some word = e in cc)
ask_words fact sizes s (Op.CallTable site d t k q) word e = absurd (let same : no_word ≡ Some word = e in cc)
ask_words fact sizes s (Op.Zero a) word e = absurd (let same : no_word ≡ Some word = e in cc)
ask_words fact sizes s (Op.Call site d f args) word e = absurd (let same : no_word ≡ Some word = e in cc)
ask_words fact sizes s (Op.Return r) word e = absurd (let same : no_word ≡ Some word = e in cc)
