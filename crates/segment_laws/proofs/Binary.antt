-- Operators of two values: both are loaded, one or two instructions make the result, and it is stored.
use Rattle.segment_laws.proofs.Common.{◌≡◌, ℕ, ◌^◌, ◌<◌, List, pos, Bool, not, Some, None, refl, sym, ap, subst, ◌∙◌, arith, slice_get, bit_and, bit_or, bit_xor, nat_eq, nat_lt, int_lt, int_le, word_of, signed, Instr, accessed, effect, read, sets, read-below, Op, BinOp, function_at, FlatThread, result_of, scalar, fact_at, size, store, kind_of, Local, machine_of, Checked}
use Rattle.cap_word.specs.Word as word
use Rattle.rv_machine.specs.Rows as rows
use Rattle.segment_laws.proofs.Facts.{CodeFacts, IsOperationAt}
use Rattle.segment_laws.proofs.Finish.{store_scalar, Reaches-after}
use Rattle.segment_laws.proofs.Immediate.{words_of, fetch_at, is_t0}
use Rattle.segment_laws.proofs.Inside.{IsWholeWord}
use Rattle.segment_laws.proofs.Numbers.{below_one, above_none, difference_none, flag-turned, int_le-not}
use Rattle.segment_laws.proofs.Simulation.{Sets, Simulates, Reaches, set_value}
use Rattle.segment_laws.proofs.Straight.{one_word, flat_set, BothLoaded, load_both}
use Rattle.segment_laws.proofs.Ways.{Leads-then}

-- what an instruction makes of two words in t0 and t1
abbrev Makes : Instr → ℕ → ℕ → ℕ → Type 0
Makes instr a b result = (m : rows.Machine) → read m.x 5 ≡ a → read m.x 6 ≡ b → effect instr m ≡ sets m 5 result

abbrev HasNoAccess : Instr → Type 0
HasNoAccess instr = (m : rows.Machine) → accessed instr m ≡ None

-- a is the value of scalar x, and b that of scalar y
module _ (c : Checked) (code : List ℕ) (l : Local) (t : FlatThread) (d x y a b : ℕ) (facts : CodeFacts c code) (simulates : Simulates c l t)
    (sa : scalar t x ≡ Some a) (sb : scalar t y ≡ Some b) where
  -- both are loaded, and an instruction sets t0
  bin_first : (op : BinOp) (instr : Instr) (result : ℕ) → IsOperationAt c code t.frame.function t.frame.next (Op.Bin op d x y) →
      3 < size (function_at c.flat t.frame.function).sizes (kind_of c.certificate (Op.Bin op d x y)) (Op.Bin op d x y) →
      slice_get (words_of c t.frame.function t.frame.next (Op.Bin op d x y)) 2 ≡ Some instr → Makes instr a b result → HasNoAccess instr →
      (both : BothLoaded c code l t simulates.frame simulates.below a b) × Sets c code both.next t 2 simulates.frame simulates.below 5 result
  bin_first op instr result there more e2 makes none =
      let f = t.frame.function in
      let whole = Op.Bin op d x y in
      let word = (λ (w : ℕ) (small : w < 3). (let is : IsWholeWord c f w whole = record { small = omega (arith, more); row_is = refl } in is)) in
      let both = load_both c code l t op d x y a b facts there simulates sa sb (word 0 (omega arith)) (word 1 (omega arith)) in
      let fetch = fetch_at c code both.next f t.frame.next 2 whole simulates.frame simulates.below instr there both.during.inside e2 in
      let set = set_value c code both.next t 2 whole simulates.frame simulates.below instr 5 result there (word 2 (omega arith)) both.during fetch
      (makes (machine_of both.next) both.left both.right) (none (machine_of both.next)) is_t0 in
      (both, set)

  bin_one : (op : BinOp) (instr : Instr) (result : ℕ) → IsOperationAt c code t.frame.function t.frame.next (Op.Bin op d x y) →
      4 ≡ size (function_at c.flat t.frame.function).sizes (kind_of c.certificate (Op.Bin op d x y)) (Op.Bin op d x y) →
      slice_get (words_of c t.frame.function t.frame.next (Op.Bin op d x y)) 2 ≡ Some instr →
      slice_get (words_of c t.frame.function t.frame.next (Op.Bin op d x y)) 3 ≡ Some (store (fact_at c.certificate t.frame.function) 5 d) →
      Makes instr a b result → HasNoAccess instr → Reaches c code l (flat_set t d result)
  bin_one op instr result there size_is e2 e3 makes none =
      let (both, made) = bin_first op instr result there (omega (arith, size_is)) e2 makes none in
      let w3 : IsWholeWord c t.frame.function 3 (Op.Bin op d x y) = record { small = omega (arith, size_is); row_is = refl } in
      let fetch = fetch_at c code made.next t.frame.function t.frame.next 3 (Op.Bin op d x y) simulates.frame simulates.below _ there made.during.inside e3 in
      let stored = store_scalar c code made.next t 3 (Op.Bin op d x y) simulates.frame simulates.below 5 d result facts there w3 made.during fetch
      (one_word c t.frame.function d there.formed.0) made.value_is size_is in
      Reaches-after c code 3 l made.next (flat_set t d result) (Leads-then c code 2 1 l both.next made.next both.leads made.leads) stored

  -- two instructions, the second on what the first left in t0
  bin_two : (op : BinOp) (instr second : Instr) (middle result : ℕ) → IsOperationAt c code t.frame.function t.frame.next (Op.Bin op d x y) →
      5 ≡ size (function_at c.flat t.frame.function).sizes (kind_of c.certificate (Op.Bin op d x y)) (Op.Bin op d x y) →
      slice_get (words_of c t.frame.function t.frame.next (Op.Bin op d x y)) 2 ≡ Some instr →
      slice_get (words_of c t.frame.function t.frame.next (Op.Bin op d x y)) 3 ≡ Some second →
      slice_get (words_of c t.frame.function t.frame.next (Op.Bin op d x y)) 4 ≡ Some (store (fact_at c.certificate t.frame.function) 5 d) →
      Makes instr a b middle → HasNoAccess instr → (a < 2 ^ 32 → b < 2 ^ 32 → Makes second middle b result) → HasNoAccess second →
      Reaches c code l (flat_set t d result)
  bin_two op instr second middle result there size_is e2 e3 e4 makes none makes' none' =
      let f = t.frame.function in
      let i = t.frame.next in
      let frame = simulates.frame in
      let below = simulates.below in
      let whole = Op.Bin op d x y in
      let word = (λ (w : ℕ) (small : w < 5). (let is : IsWholeWord c f w whole = record { small = omega (arith, size_is); row_is = refl } in is)) in
      let (both, made) = bin_first op instr middle there (omega (arith, size_is)) e2 makes none in
      let a_below : a < 2 ^ 32 = subst (λ (n : ℕ). n < 2 ^ 32) both.left (read-below both.next.core.x 5 both.during.inside.form.core.registers) in
      let b_below : b < 2 ^ 32 = subst (λ (n : ℕ). n < 2 ^ 32) both.right (read-below both.next.core.x 6 both.during.inside.form.core.registers) in
      let does = makes' a_below b_below (machine_of made.next) made.value_is (made.others 6 (λ e. absurd (omega arith)) ∙ both.right) in
      let turned = set_value c code made.next t 3 whole frame below second 5 result there (word 3 (omega arith)) made.during
      (fetch_at c code made.next f i 3 whole frame below second there made.during.inside e3) does (none' (machine_of made.next)) is_t0 in
      let stored = store_scalar c code turned.next t 4 whole frame below 5 d result facts there (word 4 (omega arith)) turned.during
      (fetch_at c code turned.next f i 4 whole frame below _ there turned.during.inside e4) (one_word c f d there.formed.0) turned.value_is size_is in
      Reaches-after c code 4 l turned.next (flat_set t d result)
      (Leads-then c code 3 1 l made.next turned.next (Leads-then c code 2 1 l both.next made.next both.leads made.leads) turned.leads) stored

  pub bin_reaches : (op : BinOp) → IsOperationAt c code t.frame.function t.frame.next (Op.Bin op d x y) → Reaches c code l (flat_set t d (result_of op a b))
  unfolding effect accessed word_of word.slt word.sltu
  bin_reaches BinOp.Add there = bin_one _ (Instr.Add 5 5 6) (word.add a b) there refl refl refl (λ m p q i. sets m 5 (word.add (p i) (q i))) (λ m. refl)
  bin_reaches BinOp.Subtract there = bin_one _ (Instr.Sub 5 5 6) (word.sub a b) there refl refl refl (λ m p q i. sets m 5 (word.sub (p i) (q i))) (λ m. refl)
  bin_reaches BinOp.Multiply there = bin_one _ (Instr.Mul 5 5 6) (word.mul a b) there refl refl refl (λ m p q i. sets m 5 (word.mul (p i) (q i))) (λ m. refl)
  bin_reaches BinOp.Divide there = bin_one _ (Instr.Div 5 5 6) (word.div a b) there refl refl refl (λ m p q i. sets m 5 (word.div (p i) (q i))) (λ m. refl)
  bin_reaches BinOp.Remainder there = bin_one _ (Instr.Rem 5 5 6) (word.rem a b) there refl refl refl (λ m p q i. sets m 5 (word.rem (p i) (q i))) (λ m. refl)
  bin_reaches BinOp.BitAnd there = bin_one _ (Instr.And 5 5 6) (bit_and a b) there refl refl refl (λ m p q i. sets m 5 (bit_and (p i) (q i))) (λ m. refl)
  bin_reaches BinOp.BitOr there = bin_one _ (Instr.Or 5 5 6) (bit_or a b) there refl refl refl (λ m p q i. sets m 5 (bit_or (p i) (q i))) (λ m. refl)
  bin_reaches BinOp.BitXor there = bin_one _ (Instr.Xor 5 5 6) (bit_xor a b) there refl refl refl (λ m p q i. sets m 5 (bit_xor (p i) (q i))) (λ m. refl)
  bin_reaches BinOp.ShiftLeft there = bin_one _ (Instr.Sll 5 5 6) (word.sll a b) there refl refl refl (λ m p q i. sets m 5 (word.sll (p i) (q i))) (λ m. refl)
  bin_reaches BinOp.ShiftRight there = bin_one _ (Instr.Sra 5 5 6) (word.sra a b) there refl refl refl (λ m p q i. sets m 5 (word.sra (p i) (q i))) (λ m. refl)
  bin_reaches BinOp.Less there = bin_one _ (Instr.Slt 5 5 6) (word.slt a b) there refl refl refl (λ m p q i. sets m 5 (word.slt (p i) (q i))) (λ m. refl)
  bin_reaches BinOp.Greater there = bin_one _ (Instr.Slt 5 6 5) (word.slt b a) there refl refl refl (λ m p q i. sets m 5 (word.slt (q i) (p i))) (λ m. refl)
  bin_reaches BinOp.LessOrEqual there =
      bin_two _ (Instr.Slt 5 6 5) (Instr.Xori 5 5 (pos 1)) (word.slt b a) (word.flag (int_le (signed a) (signed b))) there refl refl refl refl
      (λ m p q i. sets m 5 (word.slt (q i) (p i))) (λ m. refl)
      (λ _ _ m p q. ap (λ (n : ℕ). sets m 5 (bit_xor n 1)) p ∙ ap (sets m 5) (flag-turned (int_lt (signed b) (signed a))
      ∙ ap word.flag (sym (int_le-not (signed a) (signed b))))) (λ m. refl)
  bin_reaches BinOp.GreaterOrEqual there =
      bin_two _ (Instr.Slt 5 5 6) (Instr.Xori 5 5 (pos 1)) (word.slt a b) (word.flag (int_le (signed b) (signed a))) there refl refl refl refl
      (λ m p q i. sets m 5 (word.slt (p i) (q i))) (λ m. refl)
      (λ _ _ m p q. ap (λ (n : ℕ). sets m 5 (bit_xor n 1)) p ∙ ap (sets m 5) (flag-turned (int_lt (signed a) (signed b))
      ∙ ap word.flag (sym (int_le-not (signed b) (signed a))))) (λ m. refl)
  bin_reaches BinOp.Equal there =
      bin_two _ (Instr.Sub 5 5 6) (Instr.Sltiu 5 5 (pos 1)) (word.sub a b) (word.flag (nat_eq a b)) there refl refl refl refl
      (λ m p q i. sets m 5 (word.sub (p i) (q i))) (λ m. refl)
      (λ a_below b_below m p q. ap (λ (n : ℕ). sets m 5 (word.flag (nat_lt n 1))) p
      ∙ ap (λ (t : Bool). sets m 5 (word.flag t)) (below_one (word.sub a b) ∙ difference_none a b a_below b_below)) (λ m. refl)
  bin_reaches BinOp.NotEqual there =
      bin_two _ (Instr.Sub 5 5 6) (Instr.Sltu 5 0 5) (word.sub a b) (word.flag (not (nat_eq a b))) there refl refl refl refl
      (λ m p q i. sets m 5 (word.sub (p i) (q i))) (λ m. refl)
      (λ a_below b_below m p q. ap (λ (n : ℕ). sets m 5 (word.flag (nat_lt 0 n))) p
      ∙ ap (λ (t : Bool). sets m 5 (word.flag t)) (above_none (word.sub a b) ∙ ap not (difference_none a b a_below b_below))) (λ m. refl)
