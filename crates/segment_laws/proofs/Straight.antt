-- Operations without a jump, a call or an array: their words lead to the thread that stands for the flat thread after its
-- step.
use Rattle.segment_laws.proofs.Common.{◌≡◌, ℕ, ◌-◌, ◌^◌, List, get_or, pos, negsuc, Bool, Some, None, refl, ap, ◌∙◌, arith, slice_get, bit_xor, nat_eq, nat_lt, word_of, Instr, accessed, effect, read, sets, Op, BinOp, function_at, FlatThread, with_scalar, scalar, IsScalar, context_of, fact_at, size, kind_of, Frame, Local, machine_of, Checked}
use Rattle.cap_word.specs.Word as word
use Rattle.rv_machine.specs.Rows as rows
use Rattle.segment_laws.proofs.Facts.{CodeFacts, IsOperationAt}
use Rattle.segment_laws.proofs.Finish.{store_scalar, Reaches-after}
use Rattle.segment_laws.proofs.Immediate.{words_of, fetch_at, is_t0, is_t1, load_immediate}
use Rattle.segment_laws.proofs.Inside.{IsWholeWord}
use Rattle.segment_laws.proofs.Numbers.{below_one}
use Rattle.segment_laws.proofs.Simulation.{During, Simulates, Reaches, set_value, IsOneWord, load_scalar}
use Rattle.segment_laws.proofs.Ways.{Leads, Leads-then}

-- a scalar of a function has one word
pub one_word : (c : Checked) (f x : ℕ) → IsScalar (context_of c.flat (function_at c.flat f)) x → IsOneWord c f x
one_word c f x is = record { there = is.0; one = is.1 }

-- the flat thread after it set the scalar d
abbrev pub flat_set : FlatThread → ℕ → ℕ → FlatThread
flat_set t d value = record t { frame = with_scalar t.frame d value }

-- a whole word at which the row computes
pub const_reaches : (c : Checked) (code : List ℕ) (l : Local) (t : FlatThread) (d value : ℕ) → CodeFacts c code → IsOperationAt c code t.frame.function t.frame.next (Op.Const d value) → Simulates c l t → Reaches c code l (flat_set t d value)
const_reaches c code l t d value facts there simulates =
    let op = Op.Const d value in
    let f = t.frame.function in
    let frame = simulates.frame in
    let below = simulates.below in
    let w0 : IsWholeWord c f 0 op = record { small = omega arith; row_is = refl } in
    let w1 : IsWholeWord c f 1 op = record { small = omega arith; row_is = refl } in
    let w2 : IsWholeWord c f 2 op = record { small = omega arith; row_is = refl } in
    let set = load_immediate c code l t 0 op frame below 5 value there w0 w1 simulates.during refl refl is_t0 there.formed.1 in
    let stored = store_scalar c code set.next t 2 op frame below 5 d value facts there w2 set.during (fetch_at c code set.next f t.frame.next 2 op frame below _ there set.during.inside refl) (one_word c f d there.formed.0) set.value_is refl in
    Reaches-after c code 2 l set.next (flat_set t d value) set.leads stored

pub copy_reaches : (c : Checked) (code : List ℕ) (l : Local) (t : FlatThread) (d x v : ℕ) → CodeFacts c code → IsOperationAt c code t.frame.function t.frame.next (Op.Copy d x) → Simulates c l t → scalar t x ≡ Some v → Reaches c code l (flat_set t d v)
copy_reaches c code l t d x v facts there simulates value =
    let op = Op.Copy d x in
    let f = t.frame.function in
    let frame = simulates.frame in
    let below = simulates.below in
    let w0 : IsWholeWord c f 0 op = record { small = omega arith; row_is = refl } in
    let w1 : IsWholeWord c f 1 op = record { small = omega arith; row_is = refl } in
    let set = load_scalar c code l t 0 op frame below 5 x v facts there w0 simulates.during (fetch_at c code l f t.frame.next 0 op frame below _ there simulates.during.inside refl) (one_word c f x there.formed.1) value is_t0 in
    let stored = store_scalar c code set.next t 1 op frame below 5 d v facts there w1 set.during (fetch_at c code set.next f t.frame.next 1 op frame below _ there set.during.inside refl) (one_word c f d there.formed.0) set.value_is refl in
    Reaches-after c code 1 l set.next (flat_set t d v) set.leads stored

-- an operation that loads a scalar, does one instruction on t0 and stores it
pub unary_reaches : (c : Checked) (code : List ℕ) (l : Local) (t : FlatThread) (op : Op) (instr : Instr) (d x v result : ℕ) → CodeFacts c code → IsOperationAt c code t.frame.function t.frame.next op → Simulates c l t →
    IsOneWord c t.frame.function d → IsOneWord c t.frame.function x → scalar t x ≡ Some v →
    IsWholeWord c t.frame.function 0 op → IsWholeWord c t.frame.function 1 op → IsWholeWord c t.frame.function 2 op → 3 ≡ size (function_at c.flat t.frame.function).sizes (kind_of c.certificate op) op →
    slice_get (words_of c t.frame.function t.frame.next op) 0 ≡ Some (Instr.Lw 5 2 (pos (get_or (fact_at c.certificate t.frame.function).places x 0))) →
    slice_get (words_of c t.frame.function t.frame.next op) 1 ≡ Some instr →
    slice_get (words_of c t.frame.function t.frame.next op) 2 ≡ Some (Instr.Sw 2 5 (pos (get_or (fact_at c.certificate t.frame.function).places d 0))) →
    ((m : rows.Machine) → read m.x 5 ≡ v → effect instr m ≡ sets m 5 result) → ((m : rows.Machine) → accessed instr m ≡ None) →
    Reaches c code l (flat_set t d result)
unary_reaches c code l t op instr d x v result facts there simulates one_d one_x value w0 w1 w2 last e0 e1 e2 does none =
    let f = t.frame.function in
    let i = t.frame.next in
    let frame = simulates.frame in
    let below = simulates.below in
    let first = load_scalar c code l t 0 op frame below 5 x v facts there w0 simulates.during (fetch_at c code l f i 0 op frame below _ there simulates.during.inside e0) one_x value is_t0 in
    let second = set_value c code first.next t 1 op frame below instr 5 result there w1 first.during (fetch_at c code first.next f i 1 op frame below instr there first.during.inside e1) (does (machine_of first.next) first.value_is) (none (machine_of first.next)) is_t0 in
    let stored = store_scalar c code second.next t 2 op frame below 5 d result facts there w2 second.during (fetch_at c code second.next f i 2 op frame below _ there second.during.inside e2) one_d second.value_is last in
    Reaches-after c code 2 l second.next (flat_set t d result) (Leads-then c code 1 1 l first.next second.next first.leads second.leads) stored

pub neg_reaches : (c : Checked) (code : List ℕ) (l : Local) (t : FlatThread) (d x v : ℕ) → CodeFacts c code → IsOperationAt c code t.frame.function t.frame.next (Op.Neg d x) → Simulates c l t → scalar t x ≡ Some v → Reaches c code l (flat_set t d (word.sub 0 v))
unfolding effect accessed
neg_reaches c code l t d x v facts there simulates value =
    unary_reaches c code l t (Op.Neg d x) (Instr.Sub 5 0 5) d x v (word.sub 0 v) facts there simulates (one_word c t.frame.function d there.formed.0) (one_word c t.frame.function x there.formed.1) value
    (record { small = omega arith; row_is = refl }) (record { small = omega arith; row_is = refl }) (record { small = omega arith; row_is = refl }) refl refl refl refl
    (λ m e. ap (λ (n : ℕ). sets m 5 (word.sub 0 n)) e) (λ m. refl)

pub not_reaches : (c : Checked) (code : List ℕ) (l : Local) (t : FlatThread) (d x v : ℕ) → CodeFacts c code → IsOperationAt c code t.frame.function t.frame.next (Op.Not d x) → Simulates c l t → scalar t x ≡ Some v → Reaches c code l (flat_set t d (bit_xor v (2 ^ 32 - 1)))
unfolding effect accessed word_of
not_reaches c code l t d x v facts there simulates value =
    unary_reaches c code l t (Op.Not d x) (Instr.Xori 5 5 (negsuc 0)) d x v (bit_xor v (2 ^ 32 - 1)) facts there simulates (one_word c t.frame.function d there.formed.0) (one_word c t.frame.function x there.formed.1) value
    (record { small = omega arith; row_is = refl }) (record { small = omega arith; row_is = refl }) (record { small = omega arith; row_is = refl }) refl refl refl refl
    (λ m e. ap (λ (n : ℕ). sets m 5 (bit_xor n (2 ^ 32 - 1))) e) (λ m. refl)

pub flip_reaches : (c : Checked) (code : List ℕ) (l : Local) (t : FlatThread) (d x v : ℕ) → CodeFacts c code → IsOperationAt c code t.frame.function t.frame.next (Op.Flip d x) → Simulates c l t → scalar t x ≡ Some v → Reaches c code l (flat_set t d (word.flag (nat_eq v 0)))
unfolding effect accessed word_of word.sltu
flip_reaches c code l t d x v facts there simulates value =
    unary_reaches c code l t (Op.Flip d x) (Instr.Sltiu 5 5 (pos 1)) d x v (word.flag (nat_eq v 0)) facts there simulates (one_word c t.frame.function d there.formed.0) (one_word c t.frame.function x there.formed.1) value
    (record { small = omega arith; row_is = refl }) (record { small = omega arith; row_is = refl }) (record { small = omega arith; row_is = refl }) refl refl refl refl
    (λ m e. ap (λ (n : ℕ). sets m 5 (word.flag (nat_lt n 1))) e ∙ ap (λ (b : Bool). sets m 5 (word.flag b)) (below_one v)) (λ m. refl)

-- ---- operators of two values

-- both values in t0 and t1
pub record BothLoaded (c : Checked) (code : List ℕ) (l : Local) (t : FlatThread) (frame : Frame) (below : List Frame) (a b : ℕ) : Type 0 where
  pub next : Local
  pub leads : Leads c code 2 l next
  pub during : During c next t 2 frame below
  pub left : read next.core.x 5 ≡ a
  pub right : read next.core.x 6 ≡ b

pub load_both : (c : Checked) (code : List ℕ) (l : Local) (t : FlatThread) (op : BinOp) (d x y a b : ℕ) → CodeFacts c code → IsOperationAt c code t.frame.function t.frame.next (Op.Bin op d x y) → (simulates : Simulates c l t) → scalar t x ≡ Some a → scalar t y ≡ Some b →
    IsWholeWord c t.frame.function 0 (Op.Bin op d x y) → IsWholeWord c t.frame.function 1 (Op.Bin op d x y) →
    BothLoaded c code l t simulates.frame simulates.below a b
load_both c code l t op d x y a b facts there simulates sa sb w0 w1 =
    let f = t.frame.function in
    let i = t.frame.next in
    let frame = simulates.frame in
    let below = simulates.below in
    let first = load_scalar c code l t 0 (Op.Bin op d x y) frame below 5 x a facts there w0 simulates.during (fetch_at c code l f i 0 (Op.Bin op d x y) frame below _ there simulates.during.inside refl) (one_word c f x there.formed.1) sa is_t0 in
    let second = load_scalar c code first.next t 1 (Op.Bin op d x y) frame below 6 y b facts there w1 first.during (fetch_at c code first.next f i 1 (Op.Bin op d x y) frame below _ there first.during.inside refl) (one_word c f y there.formed.2) sb is_t1 in
    record {
      next = second.next;
      leads = Leads-then c code 1 1 l first.next second.next first.leads second.leads;
      during = second.during;
      left = second.others 5 (λ e. absurd (omega arith)) ∙ first.value_is;
      right = second.value_is;
    }
