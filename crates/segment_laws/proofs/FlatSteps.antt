-- What a step of a flat thread is told by: from where it leads, which values it read; and so each silent step and each trap
-- of an operation that is no call is the machine's.
use Rattle.segment_laws.proofs.Common.{◌≡◌, ℕ, zero, suc, ◌-◌, ◌^◌, ◌<◌, ◌≤◌, List, length, get_or, set, Bool, Option, Some, None, refl, sym, ap, subst, ◌∙◌, ⊎_elim, bit_xor, nat_eq, cases_lt, lt-ltb, le-ltb, width, word_at, with_word, Goes, Stops, TrapKind, Op, FlatThread, Lost, standing, variable, passed, set_to, result_of, FlatMove, on, scalar, puts, where_in, within, trapped, jumps, does, flat_step, Local, Checked}
use Rattle.cap_word.specs.Word as word
use Rattle.segment_laws.proofs.Binary.{bin_reaches}
use Rattle.segment_laws.proofs.Facts.{CodeFacts, IsOperationAt}
use Rattle.segment_laws.proofs.FrameWords.{stack_frame}
use Rattle.segment_laws.proofs.GlobalOps.{load_global_reaches, store_global_reaches, load_array_reaches, store_array_reaches}
use Rattle.segment_laws.proofs.Jumping.{jump_reaches, jump_zero_reaches, jump_zero_passes}
use Rattle.segment_laws.proofs.LocalArrays.{load_local_reaches, store_local_reaches}
use Rattle.segment_laws.proofs.Simulation.{Simulates, Reaches}
use Rattle.segment_laws.proofs.Straight.{const_reaches, copy_reaches, neg_reaches, not_reaches, flip_reaches}
use Rattle.segment_laws.proofs.Zeroing.{zero_reaches}
pub use Rattle.segment_laws.specs.Straight.{IsStraight}

-- ---- reading a move back

-- a value was there, unless the thread is lost
pub record WasThere {A : Type 0} (o : Option A) (k : A → FlatMove) (m : FlatMove) : Type 0 where
  pub value : A
  pub is : o ≡ Some value
  pub move : k value ≡ m

pub was_there : {A : Type 0} (o : Option A) (k : A → FlatMove) (m : FlatMove) → on o k ≡ m → (Stops Lost ≡ m → ⊥) → WasThere o k m
was_there None k m e not_lost = absurd (not_lost e)
was_there (Some a) k m e not_lost = record { value = a; is = refl; move = e }

not_lost_goes : (t : FlatThread) → (let m : FlatMove = Stops Lost in m) ≡ Goes t → ⊥
not_lost_goes t e = cc

-- a move that goes on is that thread
pub goes_same : (t t' : FlatThread) → (let m : FlatMove = Goes t in m) ≡ Goes t' → t ≡ t'
goes_same t t' e = cc

-- the index was in range
pub was_within : (t t' : FlatThread) (i size : ℕ) (move : FlatMove) → within t i size move ≡ Goes t' → (i < size) × (move ≡ Goes t')
was_within t t' i size move e = ⊎_elim
    (λ (inside : i < size). (inside, sym (ap (λ (b : Bool). where_in b t TrapKind.Index move) (lt-ltb i size inside)) ∙ e))
    (λ (past : size ≤ i). absurd (let trap : trapped t TrapKind.Index ≡ Goes t' = sym (ap (λ (b : Bool). where_in b t TrapKind.Index move) (le-ltb i size past)) ∙ e in cc))
    (cases_lt i size)

-- ---- silent steps

-- the function of a thread that stands for a flat thread is there
pub function_there : (c : Checked) (l : Local) (t : FlatThread) → Simulates c l t → t.frame.function < length c.flat.functions
function_there c l t simulates =
    subst (λ (g : ℕ). g < length c.flat.functions) simulates.during.inside.body.function
    (stack_frame c l.areas.pool l.core.chain simulates.frame simulates.below simulates.during.inside.stack).function

goes_from : (c : Checked) (code : List ℕ) (l : Local) (t t' : FlatThread) (op : Op) → CodeFacts c code → IsOperationAt c code t.frame.function t.frame.next op → Simulates c l t → IsStraight op → does c.flat t op ≡ Goes t' → Reaches c code l t'
goes_from c code l t t' (Op.Const d value) facts there simulates straight e = subst (Reaches c code l) (goes_same _ t' e) (const_reaches c code l t d value facts there simulates)
goes_from c code l t t' (Op.Copy d x) facts there simulates straight e =
    let was = was_there (scalar t x) (puts t d) (Goes t') e (not_lost_goes t') in
    subst (Reaches c code l) (goes_same _ t' was.move) (copy_reaches c code l t d x was.value facts there simulates was.is)
goes_from c code l t t' (Op.Neg d x) facts there simulates straight e =
    let was = was_there (scalar t x) (λ a. puts t d (word.sub 0 a)) (Goes t') e (not_lost_goes t') in
    subst (Reaches c code l) (goes_same _ t' was.move) (neg_reaches c code l t d x was.value facts there simulates was.is)
goes_from c code l t t' (Op.Not d x) facts there simulates straight e =
    let was = was_there (scalar t x) (λ a. puts t d (bit_xor a (2 ^ 32 - 1))) (Goes t') e (not_lost_goes t') in
    subst (Reaches c code l) (goes_same _ t' was.move) (not_reaches c code l t d x was.value facts there simulates was.is)
goes_from c code l t t' (Op.Flip d x) facts there simulates straight e =
    let was = was_there (scalar t x) (λ a. puts t d (word.flag (nat_eq a 0))) (Goes t') e (not_lost_goes t') in
    subst (Reaches c code l) (goes_same _ t' was.move) (flip_reaches c code l t d x was.value facts there simulates was.is)
goes_from c code l t t' (Op.Bin op d x y) facts there simulates straight e =
    let first = was_there (scalar t x) (λ a. on (scalar t y) (λ b. puts t d (result_of op a b))) (Goes t') e (not_lost_goes t') in
    let second = was_there (scalar t y) (λ b. puts t d (result_of op first.value b)) (Goes t') first.move (not_lost_goes t') in
    subst (Reaches c code l) (goes_same _ t' second.move)
    (bin_reaches c code l t d x y first.value second.value facts simulates first.is second.is op there)
goes_from c code l t t' (Op.Zero x) facts there simulates straight e = subst (Reaches c code l) (goes_same _ t' e) (zero_reaches c code l t x facts there simulates)
goes_from c code l t t' (Op.LoadGlobal d g) facts there simulates straight e = subst (Reaches c code l) (goes_same _ t' e) (load_global_reaches c code l t d g facts there simulates)
goes_from c code l t t' (Op.StoreGlobal g x) facts there simulates straight e =
    let was = was_there (scalar t x) (λ v. Goes (record t { frame = passed t.frame; globals = with_word t.globals g 0 v })) (Goes t') e (not_lost_goes t') in
    subst (Reaches c code l) (goes_same _ t' was.move) (store_global_reaches c code l t g x was.value facts there simulates was.is)
goes_from c code l t t' (Op.LoadLocal d a x) facts there simulates straight e =
    let index = was_there (scalar t x) (λ k. on (variable t.frame a) (λ row. within t k (length row) (puts t d (get_or row k 0)))) (Goes t') e (not_lost_goes t') in
    let row = was_there (variable t.frame a) (λ row. within t index.value (length row) (puts t d (get_or row index.value 0))) (Goes t') index.move (not_lost_goes t') in
    let inside = was_within t t' index.value (length row.value) (puts t d (get_or row.value index.value 0)) row.move in
    subst (Reaches c code l) (goes_same _ t' inside.1) (load_local_reaches c code l t d a x index.value row.value facts there simulates index.is row.is inside.0)
goes_from c code l t t' (Op.LoadArray d g x) facts there simulates straight e =
    let index = was_there (scalar t x) (λ k. within t k (width t.globals g) (puts t d (word_at t.globals g k))) (Goes t') e (not_lost_goes t') in
    let inside = was_within t t' index.value (width t.globals g) (puts t d (word_at t.globals g index.value)) index.move in
    subst (Reaches c code l) (goes_same _ t' inside.1) (load_array_reaches c code l t d g x index.value facts there simulates index.is inside.0)
goes_from c code l t t' (Op.StoreLocal a x y) facts there simulates straight e =
    let index = was_there (scalar t x) (λ k. on (scalar t y) (λ v. on (variable t.frame a) (λ row. within t k (length row) (Goes (record t { frame = passed (set_to t.frame a (set row k v)) }))))) (Goes t') e (not_lost_goes t') in
    let value = was_there (scalar t y) (λ v. on (variable t.frame a) (λ row. within t index.value (length row) (Goes (record t { frame = passed (set_to t.frame a (set row index.value v)) })))) (Goes t') index.move (not_lost_goes t') in
    let row = was_there (variable t.frame a) (λ row. within t index.value (length row) (Goes (record t { frame = passed (set_to t.frame a (set row index.value value.value)) }))) (Goes t') value.move (not_lost_goes t') in
    let inside = was_within t t' index.value (length row.value) (Goes (record t { frame = passed (set_to t.frame a (set row.value index.value value.value)) })) row.move in
    subst (Reaches c code l) (goes_same _ t' inside.1) (store_local_reaches c code l t a x y index.value value.value row.value facts there simulates index.is value.is row.is inside.0)
goes_from c code l t t' (Op.StoreArray g x y) facts there simulates straight e =
    let index = was_there (scalar t x) (λ k. on (scalar t y) (λ v. within t k (width t.globals g) (Goes (record t { frame = passed t.frame; globals = with_word t.globals g k v })))) (Goes t') e (not_lost_goes t') in
    let value = was_there (scalar t y) (λ v. within t index.value (width t.globals g) (Goes (record t { frame = passed t.frame; globals = with_word t.globals g index.value v }))) (Goes t') index.move (not_lost_goes t') in
    let inside = was_within t t' index.value (width t.globals g) (Goes (record t { frame = passed t.frame; globals = with_word t.globals g index.value value.value })) value.move in
    subst (Reaches c code l) (goes_same _ t' inside.1) (store_array_reaches c code l t g x y index.value value.value facts there simulates index.is value.is inside.0)
goes_from c code l t t' (Op.Jump to) facts there simulates straight e = subst (Reaches c code l) (goes_same _ t' e) (jump_reaches c code l t to facts there simulates)
goes_from c code l t t' (Op.JumpZero x to) facts there simulates straight e =
    let was = was_there (scalar t x) (jumps t to) (Goes t') e (not_lost_goes t') in
    jumped was.value was.is was.move
  where
    jumped : (v : ℕ) → scalar t x ≡ Some v → jumps t to v ≡ Goes t' → Reaches c code l t'
    jumped zero value e = subst (Reaches c code l) (goes_same _ t' e) (jump_zero_reaches c code l t x to facts there simulates value)
    jumped (suc v) value e = subst (Reaches c code l) (goes_same _ t' e) (jump_zero_passes c code l t x to v facts there simulates value)
goes_from c code l t t' _ facts there simulates straight e = absurd straight

-- each silent step of an operation that is no call
pub step_reaches : (c : Checked) (code : List ℕ) (l : Local) (t t' : FlatThread) (op : Op) → CodeFacts c code → Simulates c l t → standing c.flat t.frame ≡ Some op → IsStraight op → flat_step c.flat t ≡ Goes t' → Reaches c code l t'
step_reaches c code l t t' op facts simulates is straight e =
    let step : does c.flat t op ≡ Goes t' = sym (ap (λ (o : Option Op). on o (does c.flat t)) is) ∙ e in
    goes_from c code l t t' op facts (facts.operation t.frame.function t.frame.next op (function_there c l t simulates) is) simulates straight step
