-- A return from the first frame of a chunk: UNLINK gives the chunk back, and the caller goes on in the chunk below.
use Rattle.segment_laws.proofs.Common.{◌≡◌, ℕ, suc, ◌+◌, ◌*◌, ◌<◌, Bool, true, cond, List, ◌∷◌, length, get_or, pos, Option, Some, None, Ok, slice_get, refl, sym, ap, subst, ◌∙◌, arith, lit<, nat_eq, ◌||◌, eq-eqb, ne_eqb, eqb-true, length-set, Goes, Stops, Pool, after_give, end_of, payload_place_of, chunk_at-some, Instr, accessed, effect, read, write, sets, instruction_at, Op, function_at, operation_at, FlatFrame, FlatThread, with_result, place_in, answered, LinkKind, fact_at, transfer, begin, size, kind_of, transfer_size, Areas, AreGlobals, copies, Frame, frame_bytes, return_word, IsStack, chain_below, low_below, FramesAt, HeadersName, TpIsFront, IsGoodAccess, words_through_call, joined, Local, machine_of, local_move, local_step, unlinked, unlinked_on, unlinked_front, begins_at, chunk_with_payload, saved_tp, saved_sp, system_call, after_call, Checked, InOperation, Row, Linking, Whole, row_at, size_in, through_call, transfer_row, AreFlatFrames, HasForm, copies-cons, words_of-payload, KeepsOthers-after_give, read-write_same}
use Rattle.cap_word.specs.Word as word
use Rattle.segment_laws.proofs.Agreeing.{Agrees, stack_agrees, headers_agree, word_in_same, in_front, front_at, stack_in, flats_agree, variables_agree}
use Rattle.segment_laws.proofs.CallShapes.{CallShape, call_shape, transfer_word, result_word}
use Rattle.segment_laws.proofs.Coming.{result_comes, Reaches-goes_on}
use Rattle.segment_laws.proofs.Facts.{CodeFacts, IsOperationAt}
use Rattle.segment_laws.proofs.PlainCalls.{CallFacts}
use Rattle.segment_laws.proofs.Registers.{read-write_other, add-small, word_of-small, step-is, access-is, with_register, move-sets}
use Rattle.segment_laws.proofs.Returning.{caller_of, at_flat, HasReturned, gives_result}
use Rattle.segment_laws.proofs.Simulation.{During, Reaches}
use Rattle.segment_laws.proofs.Stacks.{IsFront}
use Rattle.segment_laws.proofs.Standing.{once_standing}
use Rattle.segment_laws.proofs.Ways.{IsGoodState, Leads, Leads-one, Leads-then, HasForm-next}

-- ---- the thread between the second call instruction and UNLINK

-- the caller's frame b lies in the chunk below the one that was linked
record OnLink (c : Checked) (l : Local) (f i w : ℕ) (chunk : ℕ) (rest : List ℕ) (b : Frame) (bs : List Frame) : Type 0 where
  form : HasForm c l
  function : b.function ≡ f
  operation : b.operation ≡ i
  pc : l.core.pc ≡ begin c.flat c.certificate f i + 4 * w
  chain : l.core.chain ≡ chunk ∷ b.chunk ∷ rest
  there : chunk < l.areas.pool.count
  sp_is : read l.core.x 2 ≡ end_of l.areas.pool chunk
  tp_is : read l.core.x 4 ≡ payload_place_of l.areas.pool chunk
  low : b.low ≡ saved_sp l.areas.pool chunk
  bytes : b.bytes ≡ frame_bytes c f
  returns : b.returns ≡ return_word c l.areas.pool f b.chunk b.low
  stack : IsStack c l.areas.pool (b.chunk ∷ rest) b bs
  headers : HeadersName l.areas.pool (chunk ∷ b.chunk ∷ rest)

-- a word of the transfer at which the frame lies so
record IsLinkWord (c : Checked) (f i w : ℕ) (op : Op) : Type 0 where
  known : f < length c.flat.functions
  there : operation_at c.flat f i ≡ Some op
  small : w < size (function_at c.flat f).sizes (kind_of c.certificate op) op
  row_is : Rattle.machine_world.specs.Places.row_in (kind_of c.certificate op) w op ≡ Linking

good_link : (c : Checked) (code : List ℕ) (l : Local) (f i w : ℕ) (op : Op) (chunk : ℕ) (rest : List ℕ) (b : Frame) (bs : List Frame) (instr : Instr) → OnLink c l f i w chunk rest b bs → IsLinkWord c f i w op → instruction_at code l.core.pc ≡ Ok instr → accessed instr (machine_of l) ≡ None → IsGoodState c code l
good_link c code l f i w op chunk rest b bs instr is word_ fetch quiet = record {
  place = InOperation f i w;
  frames = b ∷ bs;
  in_place = record {
    at = (word_.known, subst (λ (o : Option Op). w < size_in c f o) (sym word_.there) word_.small, is.pc);
    frames_are = subst (λ (r : Row). FramesAt c l.areas.pool l.core (InOperation f i w) r l.core.chain (b ∷ bs)) (sym (ap (row_at c.certificate w) word_.there ∙ word_.row_is))
        (subst (λ (ch : List ℕ). FramesAt c l.areas.pool l.core (InOperation f i w) Linking ch (b ∷ bs)) (sym is.chain) (
          is.there,
          is.sp_is,
          record { function = is.function; operation = is.operation; chunk_is = refl; low_is = is.low; bytes_are = is.bytes; returns_are = is.returns ∙ ap (return_word c l.areas.pool f b.chunk) is.low },
          is.stack,
        ));
    front = subst (TpIsFront l.areas.pool l.core) (sym is.chain) is.tp_is;
    headers = subst (HeadersName l.areas.pool) (sym is.chain) is.headers;
  };
  access = subst (IsGoodAccess c (b ∷ bs)) (sym (access-is code l instr fetch ∙ quiet)) tt;
}

row_nine : (need n : ℕ) → transfer_row (LinkKind.Linked need) (n + 9) (Some n) ≡ Linking
row_nine need n =
    ap (λ (x : Bool). cond (x || nat_eq (n + 9) (n + 9) || nat_eq (n + 9) (n + 10)) Linking Whole) (ne_eqb (n + 9) (n + 8) (λ e. omega arith))
    ∙ ap (λ (x : Bool). cond (x || nat_eq (n + 9) (n + 10)) Linking Whole) (eq-eqb (n + 9) (n + 9) refl)

row_ten : (need n : ℕ) → transfer_row (LinkKind.Linked need) (n + 10) (Some n) ≡ Linking
row_ten need n =
    ap (λ (x : Bool). cond (x || nat_eq (n + 10) (n + 9) || nat_eq (n + 10) (n + 10)) Linking Whole) (ne_eqb (n + 10) (n + 8) (λ e. omega arith))
    ∙ ap (λ (x : Bool). cond (x || nat_eq (n + 10) (n + 10)) Linking Whole) (ne_eqb (n + 10) (n + 9) (λ e. omega arith))
    ∙ ap (λ (x : Bool). cond x Linking Whole) (eq-eqb (n + 10) (n + 10) refl)

-- ---- UNLINK

-- what UNLINK leads to
abbrev after_unlink : Local → ℕ → List ℕ → Local
after_unlink l chunk rest = record {
  areas = record l.areas { pool = after_give l.areas.pool chunk };
  core = after_call l.core rest (saved_tp l.areas.pool chunk) (saved_sp l.areas.pool chunk);
}

found_chunk : (c : Checked) (l : Local) (chunk : ℕ) → HasForm c l → chunk < l.areas.pool.count → chunk_with_payload l.areas.pool (payload_place_of l.areas.pool chunk) ≡ Some chunk
found_chunk c l chunk form there =
    let p = l.areas.pool in
    let fits = words_of-payload p chunk form.areas.pool there in
    ap (begins_at p (payload_place_of p chunk)) (chunk_at-some p chunk (payload_place_of p chunk) (there, omega arith, omega (arith, fits)))
    ∙ ap (λ (b : Bool). cond b (Some chunk) None) (eq-eqb (payload_place_of p chunk) (payload_place_of p chunk) refl)

unlinks_to : (c : Checked) (l : Local) (chunk : ℕ) (rest : List ℕ) → HasForm c l → chunk < l.areas.pool.count → read l.core.x 4 ≡ payload_place_of l.areas.pool chunk → l.core.chain ≡ chunk ∷ rest → unlinked l ≡ Goes (after_unlink l chunk rest)
unlinks_to c l chunk rest form there tp_is chain =
    ap (λ (a : ℕ). unlinked_on l (chunk_with_payload l.areas.pool a)) tp_is ∙ ap (unlinked_on l) (found_chunk c l chunk form there) ∙ ap (unlinked_front l chunk) chain
    ∙ ap (λ (b : Bool). cond b (Goes (after_unlink l chunk rest)) (Stops Rattle.machine_world.specs.Local.Wrong)) (eq-eqb chunk chunk refl)

-- the chunk that is given back stands nowhere else in the chain
unlinked_agrees : (c : Checked) (l : Local) (chunk : ℕ) (rest : List ℕ) → HasForm c l → l.core.chain ≡ chunk ∷ rest → Agrees l.areas.pool (after_give l.areas.pool chunk) rest
unlinked_agrees c l chunk rest form chain =
    let p = l.areas.pool in
    let once = once_standing c l form chunk in
    let front : copies chunk l.core.chain ≡ 1 + copies chunk rest = ap (copies chunk) chain ∙ copies-cons chunk chunk rest ∙ ap (λ (b : Bool). cond b 1 0 + copies chunk rest) (eq-eqb chunk chunk refl) in
    let none : copies chunk rest ≡ 0 = omega (arith, once, front) in
    record {
      shape = refl;
      same = λ other there j. ap (λ (row : List ℕ). get_or row j 0) (KeepsOthers-after_give p chunk other (λ same. let nothing : copies other rest ≡ 0 = ap (λ (m : ℕ). copies m rest) same ∙ none in omega (arith, nothing, there)));
    }

through_true : (c : Checked) (f i : ℕ) (op : Op) (s : CallShape c f i op) (words : ℕ) → words_through_call c true op ≡ Some words → (need : ℕ) × (kind_of c.certificate op ≡ LinkKind.Linked need) × (words ≡ s.before + 9)
through_true c f i op s words e = by (kind_of c.certificate op) refl
  where
    by : (kind : LinkKind) → kind_of c.certificate op ≡ kind → (need : ℕ) × (kind_of c.certificate op ≡ LinkKind.Linked need) × (words ≡ s.before + 9)
    by LinkKind.Plain k = absurd (let none : None ≡ Some words = sym (ap (λ (b : Option ℕ). joined b (through_call (kind_of c.certificate op) true)) s.before_is ∙ ap (λ (kind : LinkKind). joined (Some s.before) (through_call kind true)) k) ∙ e in cc)
    by (LinkKind.Linked need) k =
        (need, k, (let is : Some (s.before + 9) ≡ Some words = sym (ap (λ (b : Option ℕ). joined b (through_call (kind_of c.certificate op) true)) s.before_is ∙ ap (λ (kind : LinkKind). joined (Some s.before) (through_call kind true)) k) ∙ e in let same : s.before + 9 ≡ words = cc in sym same))
    by (LinkKind.Spawned need) k = absurd (let none : None ≡ Some words = sym (ap (λ (b : Option ℕ). joined b (through_call (kind_of c.certificate op) true)) s.before_is ∙ ap (λ (kind : LinkKind). joined (Some s.before) (through_call kind true)) k) ∙ e in cc)

-- the frames of the first of a chunk and of the one below it
above_true : (c : Checked) (p : Pool) (chain : List ℕ) (frame b : Frame) (bs : List Frame) (front : IsFront chain frame.chunk) → frame.is_first ≡ true → IsStack c p chain frame (b ∷ bs) →
    (slice_get front.rest 0 ≡ Some b.chunk) × (b.low ≡ saved_sp p frame.chunk) × IsStack c p front.rest b bs
above_true c p chain frame b bs front e stack =
    let below : chain_below frame.is_first chain ≡ front.rest = ap (λ (first : Bool). chain_below first chain) e ∙ ap (chain_below true) front.is in (
      ap (λ (ch : List ℕ). slice_get ch 0) (sym below) ∙ stack.1.chunk,
      stack.1.low ∙ ap (λ (first : Bool). low_below p first frame) e,
      subst (λ (ch : List ℕ). IsStack c p ch b bs) below stack.2,
    )

-- behind UNLINK
pub record Unlinked (c : Checked) (code : List ℕ) (l : Local) (t : FlatThread) (w : ℕ) (frame : Frame) (below : List Frame) : Type 0 where
  pub next : Local
  pub leads : Leads c code 2 l next
  pub during : During c next t w frame below
  pub others : (r : ℕ) → (r ≡ 2 → ⊥) → (r ≡ 4 → ⊥) → (r ≡ 17 → ⊥) → read next.core.x r ≡ read l.core.x r

quiet_addi : (l : Local) → accessed (Instr.Addi 17 0 (pos 2)) (machine_of l) ≡ None
unfolding accessed
quiet_addi l = refl

quiet_ecall : (l : Local) → accessed Instr.Ecall (machine_of l) ≡ None
unfolding accessed
quiet_ecall l = refl

step_addi : (code : List ℕ) (l : Local) → instruction_at code l.core.pc ≡ Ok (Instr.Addi 17 0 (pos 2)) → local_step code l ≡ Goes (with_register l 17 2)
unfolding effect
step_addi code l fetch =
    step-is code l (Instr.Addi 17 0 (pos 2)) fetch ∙ ap (λ (v : ℕ). local_move l (sets (machine_of l) 17 v)) (ap (word.add 0) (word_of-small 2 (lit< tt)) ∙ add-small 0 2 (lit< tt)) ∙ move-sets l 17 2

step_ecall : (code : List ℕ) (l : Local) (n : ℕ) → instruction_at code l.core.pc ≡ Ok Instr.Ecall → read l.core.x 17 ≡ n → local_step code l ≡ system_call l n
unfolding effect
step_ecall code l n fetch number = step-is code l Instr.Ecall fetch ∙ ap (system_call l) number

unlinks : (c : Checked) (code : List ℕ) (l : Local) (op : Op) (need : ℕ) (chunk : ℕ) (rest : List ℕ) (b : Frame) (bs : List Frame) (tb : FlatFrame) (tbs : List FlatFrame) (globals : List (List ℕ)) → CodeFacts c code → (there : IsOperationAt c code tb.function tb.next op) → (s : CallShape c tb.function tb.next op) →
    kind_of c.certificate op ≡ LinkKind.Linked need → OnLink c l tb.function tb.next (s.before + 9) chunk rest b bs → AreFlatFrames c l.areas.pool (b ∷ bs) (tb ∷ tbs) → AreGlobals c.flat globals l.areas.globals →
    Unlinked c code l (record { frame = tb; below = tbs; globals = globals }) (s.before + 11) b bs
unlinks c code l op need chunk rest b bs tb tbs globals facts there s is_linked is flats globals_are =
    let f = tb.function in
    let i = tb.next in
    let n = s.before in
    let here = begin c.flat c.certificate f i in
    let size_is = s.size_is in
    let eleven : transfer_size (kind_of c.certificate op) ≡ 11 = ap transfer_size is_linked in
    let room = there.room in
    let pc = is.pc in
    let moves = λ (k : LinkKind). transfer k s.callee (here + 4 * n) in
    let word1 : IsLinkWord c f i (n + 9) op = record { known = there.function; there = there.there; small = omega (arith, size_is, eleven); row_is = s.row_is (n + 9) ∙ ap (λ (k : LinkKind). transfer_row k (n + 9) (Some n)) is_linked ∙ row_nine need n } in
    let word2 : IsLinkWord c f i (n + 10) op = record { known = there.function; there = there.there; small = omega (arith, size_is, eleven); row_is = s.row_is (n + 10) ∙ ap (λ (k : LinkKind). transfer_row k (n + 10) (Some n)) is_linked ∙ row_ten need n } in
    let fetch1 : instruction_at code l.core.pc ≡ Ok (Instr.Addi 17 0 (pos 2)) =
    ap (instruction_at code) pc ∙ transfer_word c code f i 9 op (Instr.Addi 17 0 (pos 2)) there s (ap (λ (k : LinkKind). slice_get (transfer k s.callee (here + 4 * n)) 9) is_linked) in
    let l2 : Local = with_register l 17 2 in
    let step1 = step_addi code l fetch1 in
    let pc2 : l2.core.pc ≡ here + 4 * (n + 10) = add-small l.core.pc 4 (omega (arith, pc, room, size_is, eleven)) ∙ (let e : l.core.pc + 4 ≡ here + 4 * (n + 10) = omega (arith, pc) in e) in
    let is2 : OnLink c l2 f i (n + 10) chunk rest b bs = record {
      form = HasForm-next c code l l2 is.form step1;
      function = is.function;
      operation = is.operation;
      pc = pc2;
      chain = is.chain;
      there = is.there;
      sp_is = read-write_other l.core.x 17 2 2 (λ e. omega arith) ∙ is.sp_is;
      tp_is = read-write_other l.core.x 17 2 4 (λ e. omega arith) ∙ is.tp_is;
      low = is.low;
      bytes = is.bytes;
      returns = is.returns;
      stack = is.stack;
      headers = is.headers;
    } in
    let fetch2 : instruction_at code l2.core.pc ≡ Ok Instr.Ecall =
    ap (instruction_at code) pc2 ∙ transfer_word c code f i 10 op Instr.Ecall there s (ap (λ (k : LinkKind). slice_get (transfer k s.callee (here + 4 * n)) 10) is_linked) in
    let number : read l2.core.x 17 ≡ 2 = read-write_same l.core.x 17 2 (lit< tt) (omega (arith, is.form.core.count)) in
    let later : List ℕ = b.chunk ∷ rest in
    let l3 : Local = after_unlink l2 chunk later in
    let step2 : local_step code l2 ≡ Goes l3 = step_ecall code l2 2 fetch2 number ∙ unlinks_to c l2 chunk later is2.form is.there is2.tp_is is.chain in
    let p = l.areas.pool in
    let q : Pool = after_give p chunk in
    let agrees : Agrees p q later = unlinked_agrees c l2 chunk later is2.form is.chain in
    let front : IsFront later b.chunk = record { rest = rest; is = refl } in
    let long : length (write l2.core.x 4 (saved_tp p chunk)) ≡ 32 = length-set l2.core.x 4 (saved_tp p chunk) ∙ is2.form.core.count in
    let x2 = write l2.core.x 4 (saved_tp p chunk) in
    let sp3 : read l3.core.x 2 ≡ saved_sp p chunk = read-write_same x2 2 (saved_sp p chunk) (lit< tt) (omega (arith, long)) in
    let tp3 : read l3.core.x 4 ≡ saved_tp p chunk = read-write_other x2 2 (saved_sp p chunk) 4 (λ e. omega arith) ∙ read-write_same l2.core.x 4 (saved_tp p chunk) (lit< tt) (omega (arith, is2.form.core.count)) in
    let chunk_in = in_front later b.chunk front in
    record {
      next = l3;
      leads = Leads-then c code 1 1 l l2 l3
          (Leads-one c code l l2 (good_link c code l f i (n + 9) op chunk rest b bs (Instr.Addi 17 0 (pos 2)) is word1 fetch1 (quiet_addi l)) step1)
          (Leads-one c code l2 l3 (good_link c code l2 f i (n + 10) op chunk rest b bs Instr.Ecall is2 word2 fetch2 (quiet_ecall l2)) step2);
      during = record {
        inside = record {
          form = HasForm-next c code l2 l3 is2.form step2;
          pc = add-small l2.core.pc 4 (omega (arith, pc2, room, size_is, eleven)) ∙ (let e : l2.core.pc + 4 ≡ here + 4 * (n + 11) = omega (arith, pc2) in e);
          sp_is = sp3 ∙ sym is.low;
          tp_is = tp3 ∙ is.headers.0;
          front = front;
          body = record {
            function = is.function;
            operation = is.operation;
            bytes = is.bytes;
            returns = is.returns ∙ sym (word_in_same p q later b.chunk (b.low + (fact_at c.certificate f).ra) agrees chunk_in);
          };
          stack = stack_agrees c p q later b bs agrees front is.stack;
          headers = headers_agree p q later agrees is.headers.1;
        };
        shape = flats.0.shape;
        variables = variables_agree c p q later b tb agrees chunk_in flats.0.variables;
        flats = (flats_agree c p q later (b ∷ bs) (tb ∷ tbs) agrees (stack_in c p later b bs is.stack front) flats).1;
        globals = globals_are;
      };
      others = λ r not_sp not_tp not_a7. read-write_other x2 2 (saved_sp p chunk) r not_sp ∙ read-write_other l2.core.x 4 (saved_tp p chunk) r not_tp ∙ read-write_other l.core.x 17 2 r not_a7;
    }

pub rest_is : (rest : List ℕ) (chunk : ℕ) → slice_get rest 0 ≡ Some chunk → (later : List ℕ) × (rest ≡ chunk ∷ later)
rest_is rest chunk e = let front = front_at rest chunk e in (front.rest, front.is)

-- the caller goes on with the result, in the chunk below
pub returns_far : (c : Checked) (code : List ℕ) (l : Local) (frame b : Frame) (bs : List Frame) (tb : FlatFrame) (tbs : List FlatFrame) (globals : List (List ℕ)) (value : Option ℕ) (result : ℕ) → CodeFacts c code → CallFacts c →
    HasReturned c code l frame (b ∷ bs) value → frame.is_first ≡ true → AreFlatFrames c l.areas.pool (b ∷ bs) (tb ∷ tbs) → AreGlobals c.flat globals l.areas.globals → ((function_at c.flat frame.function).gives ≡ true → value ≡ Some result) →
    Reaches c code l (record { frame = answered c.flat tb result; below = tbs; globals = globals })
returns_far c code l frame b bs tb tbs globals value result facts calls has is_first flats globals_are gives =
    let left = has.left in
    let next = left.next in
    let p = next.areas.pool in
    let chain = next.core.chain in
    let t : FlatThread = record { frame = tb; below = tbs; globals = globals } in
    let flats' : AreFlatFrames c p (b ∷ bs) (tb ∷ tbs) = subst (λ (a : Areas). AreFlatFrames c a.pool (b ∷ bs) (tb ∷ tbs)) (sym has.areas) flats in
    let globals' : AreGlobals c.flat globals next.areas.globals = subst (λ (a : Areas). AreGlobals c.flat globals a.globals) (sym has.areas) globals_are in
    let caller = caller_of c code p chain frame b bs facts left.stack in
    let op = caller.op in
    let there : IsOperationAt c code tb.function tb.next op = at_flat c code b.function tb.function b.operation tb.next op flats.0.function flats.0.operation caller.there in
    let s = call_shape c code tb.function tb.next frame.function op there caller.calls in
    let through = through_true c tb.function tb.next op s caller.words (ap (λ (first : Bool). words_through_call c first op) (sym is_first) ∙ caller.through) in
    let parts = above_true c p chain frame b bs left.front is_first left.stack in
    let later = rest_is left.front.rest b.chunk parts.0 in
    let frame_is = left.stack.0 in
    let whole : frame.low + frame.bytes ≡ end_of p frame.chunk = eqb-true (frame.low + frame.bytes) (end_of p frame.chunk) (sym frame_is.first ∙ is_first) in
    let chain_is : chain ≡ frame.chunk ∷ b.chunk ∷ later.0 = left.front.is ∙ ap (λ (ch : List ℕ). frame.chunk ∷ ch) later.1 in
    let begins : begin c.flat c.certificate b.function b.operation ≡ begin c.flat c.certificate tb.function tb.next =
    ap (λ (k : ℕ). begin c.flat c.certificate k b.operation) flats.0.function ∙ ap (λ (k : ℕ). begin c.flat c.certificate tb.function k) flats.0.operation in
    let on : OnLink c next tb.function tb.next (s.before + 9) frame.chunk later.0 b bs = record {
      form = left.form;
      function = flats.0.function;
      operation = flats.0.operation;
      pc = left.pc ∙ caller.returns ∙ ap (λ (k : ℕ). k + 4 * caller.words) begins ∙ ap (λ (w : ℕ). begin c.flat c.certificate tb.function tb.next + 4 * w) through.2;
      chain = chain_is;
      there = frame_is.chunk;
      sp_is = left.sp_is ∙ whole;
      tp_is = left.tp_is;
      low = parts.1;
      bytes = left.stack.1.bytes ∙ ap (frame_bytes c) flats.0.function;
      returns = left.stack.1.returns ∙ ap (λ (k : ℕ). return_word c p k b.chunk b.low) flats.0.function;
      stack = subst (λ (ch : List ℕ). IsStack c p ch b bs) later.1 parts.2;
      headers = subst (HeadersName p) chain_is left.headers;
    } in
    let un = unlinks c code next op through.0 frame.chunk later.0 b bs tb tbs globals facts there s through.1 on flats' globals' in
    let kind = kind_of c.certificate op in
    let eleven : s.before + 11 ≡ s.before + transfer_size kind = ap (λ (k : LinkKind). s.before + transfer_size k) (sym through.1) in
    let during : During c un.next t (s.before + transfer_size kind) b bs = subst (λ (w : ℕ). During c un.next t w b bs) eleven un.during in
    let goes = result_comes c code un.next t (s.before + transfer_size kind) op s.to result b bs facts there during (result_word c code tb.function tb.next op there s)
    (λ d e. un.others 10 (λ k. omega arith) (λ k. omega arith) (λ k. omega arith) ∙ has.held result (gives (gives_result c code tb.function tb.next frame.function d op calls there caller.calls (s.place ∙ e)))) in
    let is : with_result tb s.to result ≡ answered c.flat tb result = sym (ap (λ (o : Option Op). with_result tb (place_in o) result) there.there ∙ ap (λ (to : Option ℕ). with_result tb to result) s.place) in
    let steps : has.count + (3 + 2) ≡ suc (has.count + 4) = omega arith in
    subst (λ (g : FlatFrame). Reaches c code l (record { frame = g; below = tbs; globals = globals })) is
    (Reaches-goes_on c code (has.count + 4) l un.next (record { frame = with_result tb s.to result; below = tbs; globals = globals })
    (subst (λ (n : ℕ). Leads c code n l un.next) steps (Leads-then c code has.count (3 + 2) l has.mid un.next has.first (Leads-then c code 3 2 has.mid next un.next left.leads un.leads)))
    goes)
