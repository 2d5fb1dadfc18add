-- A function is left: the return address is loaded, its frame is given up, and the jump leads to where it was called.
use Rattle.segment_laws.proofs.Common.{◌≡◌, ℕ, ◌+◌, ◌-◌, ◌*◌, ◌%◌, ◌^◌, ◌<◌, ◌≤◌, Bool, true, false, List, [], ◌∷◌, length, pos, Option, Some, None, Ok, refl, sym, ap, subst, ◌∙◌, arith, lit<, nat_eq, word_of, Goes, Pool, end_of, payload_place_of, place_of-bounded, Instr, accessed, effect, read, instruction_at, read-below, Op, function_at, operation_at, fact_at, begin, size, kind_of, Frame, IsFrame, ReturnsInto, IsStack, low_below, HeadersName, Local, machine_of, local_move, local_step, Checked, InOperation, Empty, row_in, row_at, size_in, HasForm, read-write_same}
use Rattle.cap_word.specs.Word as word
use Rattle.rv_machine.specs.Rows.{sets, jumps}
use Rattle.segment_laws.proofs.Calling.{jumped, move-jumps}
use Rattle.segment_laws.proofs.Facts.{CodeFacts, IsOperationAt}
use Rattle.segment_laws.proofs.FrameWords.{stack_frame, load_word}
use Rattle.segment_laws.proofs.Inside.{Inside, IsWholeWord, IsGoodState-inside, pc_next}
use Rattle.segment_laws.proofs.Registers.{read-write_other, add-small, word_of-small, step-is, with_register, move-sets}
use Rattle.segment_laws.proofs.Stacks.{IsFront}
use Rattle.segment_laws.proofs.Standing.{Standing, stepped}
use Rattle.segment_laws.proofs.Ways.{Leads, Leads-one, Leads-then, HasForm-next}

-- the frame after its bytes were given back to sp
abbrev pub shrunk : Frame → Frame
shrunk frame = record frame { low = frame.low + frame.bytes; bytes = 0 }

returns_into : (c : Checked) (frame b : Frame) (op : Option Op) → ReturnsInto c frame b op → ReturnsInto c (shrunk frame) b op
returns_into c frame b None into = into
returns_into c frame b (Some op) into = into

frame_shrunk : (c : Checked) (pool : Pool) (frame : Frame) → IsFrame c pool frame → IsFrame c pool (shrunk frame)
frame_shrunk c pool frame is =
    let lowest = is.lowest in
    let highest = is.highest in
    let bound = is.bound in
    let sum : frame.low + frame.bytes + 0 ≡ frame.low + frame.bytes = omega arith in
    record {
      function = is.function;
      chunk = is.chunk;
      lowest = omega (arith, lowest);
      highest = omega (arith, highest);
      bound = omega (arith, bound);
      first = is.first ∙ ap (λ (k : ℕ). nat_eq k (end_of pool frame.chunk)) (sym sum);
    }

low_shrunk : (pool : Pool) (first : Bool) (frame : Frame) → low_below pool first frame ≡ low_below pool first (shrunk frame)
low_shrunk pool true frame = refl
low_shrunk pool false frame = omega arith

pub stack_shrunk : (c : Checked) (pool : Pool) (chain : List ℕ) (frame : Frame) (below : List Frame) → IsStack c pool chain frame below → IsStack c pool chain (shrunk frame) below
stack_shrunk c pool chain frame [] stack = (frame_shrunk c pool frame stack.0, stack.1, stack.2, stack.3)
stack_shrunk c pool chain frame (b ∷ bs) stack = (
  frame_shrunk c pool frame stack.0,
  record {
    chunk = stack.1.chunk;
    low = stack.1.low ∙ low_shrunk pool frame.is_first frame;
    bytes = stack.1.bytes;
    returns = stack.1.returns;
    called = returns_into c frame b (operation_at c.flat b.function b.operation) stack.1.called;
  },
  stack.2,
)

-- the three words of an epilogue, from word w of an operation on
pub record IsEpilogue (c : Checked) (code : List ℕ) (f i w : ℕ) (op : Op) : Type 0 where
  pub first : IsWholeWord c f w op
  pub second : IsWholeWord c f (w + 1) op
  pub small : w + 1 + 1 < size (function_at c.flat f).sizes (kind_of c.certificate op) op
  pub empty : row_in (kind_of c.certificate op) (w + 1 + 1) op ≡ Empty
  pub loads : instruction_at code (begin c.flat c.certificate f i + 4 * w) ≡ Ok (Instr.Lw 1 2 (pos (fact_at c.certificate f).ra))
  pub gives : instruction_at code (begin c.flat c.certificate f i + 4 * (w + 1)) ≡ Ok (Instr.Addi 2 2 (pos (fact_at c.certificate f).frame))
  pub jumps_ : instruction_at code (begin c.flat c.certificate f i + 4 * (w + 1 + 1)) ≡ Ok (Instr.Jalr 0 1 (pos 0))

-- the thread after it
pub record Left (c : Checked) (code : List ℕ) (l : Local) (frame : Frame) (below : List Frame) : Type 0 where
  pub next : Local
  pub leads : Leads c code 3 l next
  pub form : HasForm c next
  pub pc : next.core.pc ≡ frame.returns
  pub sp_is : read next.core.x 2 ≡ frame.low + frame.bytes
  pub tp_is : read next.core.x 4 ≡ payload_place_of next.areas.pool frame.chunk
  pub front : IsFront next.core.chain frame.chunk
  pub stack : IsStack c next.areas.pool next.core.chain frame below
  pub headers : HeadersName next.areas.pool next.core.chain
  pub areas : next.areas ≡ l.areas
  pub others : (r : ℕ) → (r ≡ 1 → ⊥) → (r ≡ 2 → ⊥) → read next.core.x r ≡ read l.core.x r

pub even_target : (a : ℕ) → a % 4 ≡ 0 → a - a % 2 ≡ a
even_target a e = omega arith

pub add_zero : (a : ℕ) → a < 2 ^ 32 → word.add a (word_of (pos 0)) ≡ a
add_zero a below = ap (word.add a) (word_of-small 0 (lit< tt)) ∙ add-small a 0 (omega arith) ∙ (let e : a + 0 ≡ a = omega arith in e)

pub leaves : (c : Checked) (code : List ℕ) (l : Local) (f i w : ℕ) (op : Op) (frame : Frame) (below : List Frame) → CodeFacts c code → IsOperationAt c code f i op → Inside c l f i w frame below → IsEpilogue c code f i w op → frame.returns % 4 ≡ 0 → Left c code l frame below
unfolding effect accessed
leaves c code l f i w op frame below facts there is words aligned =
    let fact = facts.frame f there.function in
    let offset = (fact_at c.certificate f).ra in
    let first = load_word c code l f i w op frame below 1 offset facts there words.first is (ap (instruction_at code) is.pc ∙ words.loads) fact.ra_aligned fact.ra_inside
    (record { some = lit< tt; there = lit< tt; not_sp = λ e. omega arith; not_tp = λ e. omega arith }) in
    let l1 = first.next in
    let is1 = first.inside in
    let loaded : read l1.core.x 1 ≡ frame.returns = first.value_is ∙ sym is.body.returns in
    let n = (fact_at c.certificate f).frame in
    let frame_is = stack_frame c l1.areas.pool l1.core.chain frame below is1.stack in
    let bytes : frame.bytes ≡ n = is.body.bytes in
    let most = fact.most in
    let highest : frame.low + frame.bytes ≤ end_of l1.areas.pool frame.chunk = frame_is.highest in
    let bounded : end_of l1.areas.pool frame.chunk ≤ 0x8400_0000 = place_of-bounded l1.areas.pool frame.chunk is1.form.areas.pool frame_is.chunk in
    let up : word.add (read l1.core.x 2) (word_of (pos n)) ≡ frame.low + frame.bytes =
    ap (word.add (read l1.core.x 2)) (word_of-small n (omega (arith, most))) ∙ ap (λ (a : ℕ). word.add a n) is1.sp_is
    ∙ add-small frame.low n (omega (arith, highest, bounded, bytes)) ∙ (let e : frame.low + n ≡ frame.low + frame.bytes = omega (arith, bytes) in e) in
    let l2 : Local = with_register l1 2 (frame.low + frame.bytes) in
    let fetch1 : instruction_at code l1.core.pc ≡ Ok (Instr.Addi 2 2 (pos n)) = ap (instruction_at code) is1.pc ∙ words.gives in
    let step1 : local_step code l1 ≡ Goes l2 = step-is code l1 (Instr.Addi 2 2 (pos n)) fetch1 ∙ ap (λ (v : ℕ). local_move l1 (sets (machine_of l1) 2 v)) up ∙ move-sets l1 2 (frame.low + frame.bytes) in
    let second : Leads c code 1 l1 l2 = Leads-one c code l1 l2 (IsGoodState-inside c code l1 f i (w + 1) op frame below (Instr.Addi 2 2 (pos n)) there words.second is1 fetch1 tt) step1 in
    let form2 : HasForm c l2 = HasForm-next c code l1 l2 is1.form step1 in
    let pc2 : l2.core.pc ≡ begin c.flat c.certificate f i + 4 * (w + 1 + 1) = pc_next c code l1 f i (w + 1) op there words.second.small is1.pc in
    let wide : 2 < length l1.core.x = omega (arith, is1.form.core.count) in
    let back : read l2.core.x 1 ≡ frame.returns = read-write_other l1.core.x 2 (frame.low + frame.bytes) 1 (λ e. omega arith) ∙ loaded in
    let standing : Standing c l2 (InOperation f i (w + 1 + 1)) Empty (shrunk frame) below = record {
      form = form2;
      at = (there.function, subst (λ (o : Option Op). w + 1 + 1 < size_in c f o) (sym there.there) words.small, pc2);
      row_is = ap (row_at c.certificate (w + 1 + 1)) there.there ∙ words.empty;
      sp_is = read-write_same l1.core.x 2 (frame.low + frame.bytes) (lit< tt) wide;
      tp_is = read-write_other l1.core.x 2 (frame.low + frame.bytes) 4 (λ e. omega arith) ∙ is1.tp_is;
      front = record { rest = is1.front.rest; is = is1.front.is };
      function = is1.body.function;
      operation = is1.body.operation;
      holds = (refl, sym back);
      stack = stack_shrunk c l1.areas.pool l1.core.chain frame below is1.stack;
      headers = is1.headers;
    } in
    let fetch2 : instruction_at code l2.core.pc ≡ Ok (Instr.Jalr 0 1 (pos 0)) = ap (instruction_at code) pc2 ∙ words.jumps_ in
    let returns_below : frame.returns < 2 ^ 32 = subst (λ (k : ℕ). k < 2 ^ 32) back (read-below l2.core.x 1 form2.core.registers) in
    let l3 : Local = jumped l2 0 frame.returns in
    let target : word.add (read l2.core.x 1) (word_of (pos 0)) ≡ frame.returns = ap (λ (a : ℕ). word.add a (word_of (pos 0))) back ∙ add_zero frame.returns returns_below in
    let step2 : local_step code l2 ≡ Goes l3 =
    step-is code l2 (Instr.Jalr 0 1 (pos 0)) fetch2
    ∙ ap (λ (a : ℕ). local_move l2 (jumps (machine_of l2) 0 (a - a % 2))) target
    ∙ ap (λ (a : ℕ). local_move l2 (jumps (machine_of l2) 0 a)) (even_target frame.returns aligned) ∙ move-jumps l2 0 frame.returns aligned in
    let third = stepped c code l2 l3 (InOperation f i (w + 1 + 1)) Empty (shrunk frame) below (Instr.Jalr 0 1 (pos 0)) standing fetch2 tt step2 in
    record {
      next = l3;
      leads = Leads-then c code 1 2 l l1 l3 first.leads (Leads-then c code 1 1 l1 l2 l3 second third.leads);
      form = third.form;
      pc = refl;
      sp_is = standing.sp_is;
      tp_is = standing.tp_is;
      front = record { rest = is1.front.rest; is = is1.front.is };
      stack = is1.stack;
      headers = is1.headers;
      areas = first.areas;
      others = λ r not_ra not_sp. read-write_other l1.core.x 2 (frame.low + frame.bytes) r not_sp ∙ first.others r not_ra;
    }
