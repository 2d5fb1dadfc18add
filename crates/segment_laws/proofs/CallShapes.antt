-- The words of an operation that calls a function or through a table: those before the transfer, the transfer, and the
-- result.
use Rattle.segment_laws.proofs.Common.{◌≡◌, ℕ, ◌+◌, ◌*◌, Bool, true, false, cond, List, [], ◌∷◌, ◌++◌, length, pos, Option, Some, None, Ok, refl, sym, ap, subst, ◌∙◌, arith, nat_eq, slice_get, ◌||◌, ne_eqb, Instr, instruction_at, Op, function_at, result_place, IsResultPlace, context_of, Setting, LinkKind, fact_at, li, load, store, guard, arguments, transfer, result, begin, size, kind_of, row, setting, transfer_size, result_size, Calls, words_through_call, joined, Checked, Whole, Linking, before_transfer, through_call, transfer_row, row_in, length-transfer, length-arguments}
use Rattle.segment_laws.proofs.Calling.{get_front, get_behind}
use Rattle.segment_laws.proofs.Coming.{IsResultWord}
use Rattle.segment_laws.proofs.Facts.{IsOperationAt}
use Rattle.segment_laws.proofs.Simulation.{IsOneWord}

-- the word of the result is one of the caller's frame
row_result : (kind : LinkKind) (n : ℕ) → transfer_row kind (n + transfer_size kind) (Some n) ≡ Whole
row_result (LinkKind.Linked need) n =
    let a : nat_eq (n + 11) (n + 8) ≡ false = ne_eqb (n + 11) (n + 8) (λ e. omega arith) in
    let b : nat_eq (n + 11) (n + 9) ≡ false = ne_eqb (n + 11) (n + 9) (λ e. omega arith) in
    let d : nat_eq (n + 11) (n + 10) ≡ false = ne_eqb (n + 11) (n + 10) (λ e. omega arith) in
    ap (λ (x : Bool). cond (x || nat_eq (n + 11) (n + 9) || nat_eq (n + 11) (n + 10)) Linking Whole) a
    ∙ ap (λ (x : Bool). cond (x || nat_eq (n + 11) (n + 10)) Linking Whole) b ∙ ap (λ (x : Bool). cond x Linking Whole) d
row_result _ n = refl

-- an operation that calls: so many words, the transfer of a call of this entry or through a register, and the result
pub record CallShape (c : Checked) (f i : ℕ) (op : Op) : Type 0 where
  pub before : ℕ
  pub front : List Instr
  pub callee : Option ℕ
  pub to : Option ℕ
  pub before_is : before_transfer op ≡ Some before
  pub words : row (fact_at c.certificate f) (function_at c.flat f).sizes (setting c.flat c.certificate f (begin c.flat c.certificate f i) op) op
      ≡ (front ++ transfer (kind_of c.certificate op) callee (begin c.flat c.certificate f i + 4 * before)) ++ result (fact_at c.certificate f) to
  pub front_length : length front ≡ before
  pub size_is : size (function_at c.flat f).sizes (kind_of c.certificate op) op ≡ before + transfer_size (kind_of c.certificate op) + result_size to
  pub place : result_place op ≡ to
  pub row_is : (w : ℕ) → row_in (kind_of c.certificate op) w op ≡ transfer_row (kind_of c.certificate op) w (Some before)
  pub scalar : (d : ℕ) → to ≡ Some d → IsOneWord c f d

pub result_scalar : (c : Checked) (f : ℕ) (gives : Bool) (to : Option ℕ) (d : ℕ) → IsResultPlace (context_of c.flat (function_at c.flat f)) gives to → to ≡ Some d → IsOneWord c f d
result_scalar c f gives None d h e = absurd cc
result_scalar c f gives (Some d') d h e = let same : d' ≡ d = cc in subst (IsOneWord c f) same (record { there = h.1.0; one = h.1.1 })

-- the words before the transfer of a call through a table
abbrev pub table_front : Checked → ℕ → Op → (i x : ℕ) → Setting → List Instr
table_front c f op i x s =
    guard (fact_at c.certificate f) i s.count 2 ++ (
    Instr.Slli 5 5 (pos 2) ∷ li 6 s.address ++ (Instr.Add 5 5 6 ∷ Instr.Lw 7 5 (pos 0) ∷ load (fact_at c.certificate f) 10 x ∷ []))

abbrev pub call_shape : (c : Checked) (code : List ℕ) (f i g : ℕ) (op : Op) → IsOperationAt c code f i op → Calls c.flat op g → CallShape c f i op
call_shape c code f i g (Op.Call site d h args) there calls = record {
  before = length args;
  front = arguments (fact_at c.certificate f) 10 args;
  callee = Some (fact_at c.certificate h).entry;
  to = d;
  before_is = refl;
  words = refl;
  front_length = length-arguments (fact_at c.certificate f) 10 args;
  size_is = refl;
  place = refl;
  row_is = λ w. refl;
  scalar = λ e is. result_scalar c f _ d e there.formed.3 is;
}
call_shape c code f i g (Op.CallTable site d t k x) there calls =
    let s = setting c.flat c.certificate f (begin c.flat c.certificate f i) (Op.CallTable site d t k x) in
    let e : begin c.flat c.certificate f i + 52 ≡ begin c.flat c.certificate f i + 4 * 13 = omega arith in
    record {
      before = 13;
      front = table_front c f (Op.CallTable site d t k x) k x s;
      callee = None;
      to = d;
      before_is = refl;
      words = ap (λ (p : ℕ). (table_front c f (Op.CallTable site d t k x) k x s ++ transfer (kind_of c.certificate (Op.CallTable site d t k x)) None p) ++ result (fact_at c.certificate f) d) e;
      front_length = refl;
      size_is = refl;
      place = refl;
      row_is = λ w. refl;
      scalar = λ e is. result_scalar c f true d e there.formed.3 is;
    }
call_shape c code f i g _ there calls = absurd calls

-- a word of the transfer
pub transfer_slice : (c : Checked) (f i k : ℕ) (op : Op) (instr : Instr) → (s : CallShape c f i op) → slice_get (transfer (kind_of c.certificate op) s.callee (begin c.flat c.certificate f i + 4 * s.before)) k ≡ Some instr →
    slice_get (row (fact_at c.certificate f) (function_at c.flat f).sizes (setting c.flat c.certificate f (begin c.flat c.certificate f i) op) op) (s.before + k) ≡ Some instr
transfer_slice c f i k op instr s e =
    let moves = transfer (kind_of c.certificate op) s.callee (begin c.flat c.certificate f i + 4 * s.before) in
    ap (λ (ws : List Instr). slice_get ws (s.before + k)) s.words
    ∙ get_front (s.front ++ moves) (result (fact_at c.certificate f) s.to) (s.before + k) instr (get_behind s.front moves (s.before + k) k (omega (arith, s.front_length)) ∙ e)

pub transfer_word : (c : Checked) (code : List ℕ) (f i k : ℕ) (op : Op) (instr : Instr) → IsOperationAt c code f i op → (s : CallShape c f i op) → slice_get (transfer (kind_of c.certificate op) s.callee (begin c.flat c.certificate f i + 4 * s.before)) k ≡ Some instr →
    instruction_at code (begin c.flat c.certificate f i + 4 * (s.before + k)) ≡ Ok instr
transfer_word c code f i k op instr there s e = there.fetch (s.before + k) instr (transfer_slice c f i k op instr s e)

-- the word of the result
pub result_word : (c : Checked) (code : List ℕ) (f i : ℕ) (op : Op) → IsOperationAt c code f i op → (s : CallShape c f i op) → IsResultWord c code f i (s.before + transfer_size (kind_of c.certificate op)) op s.to
result_word c code f i op there s =
    let kind = kind_of c.certificate op in
    let moves = transfer kind s.callee (begin c.flat c.certificate f i + 4 * s.before) in
    let n = s.before + transfer_size kind in
    let size_is = s.size_is in
    let long : length (s.front ++ moves) ≡ n = Rattle.std.proofs.lemmas.List.length-append s.front moves ∙ ap (λ (k : ℕ). k + length moves) s.front_length ∙ ap (λ (k : ℕ). s.before + k) (length-transfer kind s.callee (begin c.flat c.certificate f i + 4 * s.before)) in
    record {
      none = λ e. let none : result_size s.to ≡ 0 = ap result_size e in omega (arith, size_is, none);
      word = λ d e. let one : result_size s.to ≡ 1 = ap result_size e in record { small = omega (arith, size_is, one); row_is = s.row_is n ∙ row_result kind s.before };
      last = λ d e. let one : result_size s.to ≡ 1 = ap result_size e in omega (arith, size_is, one);
      fetch = λ d e. there.fetch n (store (fact_at c.certificate f) 10 d)
          (ap (λ (ws : List Instr). slice_get ws n) s.words ∙ get_behind (s.front ++ moves) (result (fact_at c.certificate f) s.to) n 0 (omega (arith, long))
          ∙ ap (λ (to : Option ℕ). slice_get (result (fact_at c.certificate f) to) 0) e);
      one = s.scalar;
    }

-- the call instruction in the caller's chunk stands behind so many words
pub through_false : (c : Checked) (f i : ℕ) (op : Op) (s : CallShape c f i op) (words : ℕ) → words_through_call c false op ≡ Some words → (k : ℕ) × (through_call (kind_of c.certificate op) false ≡ Some k) × (words ≡ s.before + k)
through_false c f i op s words e = by (through_call (kind_of c.certificate op) false) (sym (ap (λ (b : Option ℕ). joined b (through_call (kind_of c.certificate op) false)) s.before_is) ∙ e)
  where
    by : (o : Option ℕ) → joined (Some s.before) o ≡ Some words → (k : ℕ) × (o ≡ Some k) × (words ≡ s.before + k)
    by None h = absurd cc
    by (Some k) h = (k, refl, (let same : s.before + k ≡ words = cc in sym same))
