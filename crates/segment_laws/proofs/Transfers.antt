-- The transfer of a call, from its first word on, where the call stays in the caller's chunk: at a plain site, and at a
-- linked one where there is room.
use Rattle.segment_laws.proofs.Common.{◌≡◌, ℕ, ◌+◌, ◌-◌, ◌*◌, ◌%◌, ◌^◌, ◌<◌, ◌≤◌, false, List, ◌∷◌, length, pos, ◌-ℤ◌, Option, Some, None, Ok, refl, ap, ◌∙◌, arith, slice_get, word_of, Goes, payload_place_of, Instr, accessed, effect, read, instruction_at, Op, function_at, FlatThread, pushed, LinkKind, fact_at, transfer, call_instruction, begin, kind_of, transfer_size, Frame, Calls, words_through_call, joined, Local, machine_of, local_move, local_step, Checked, through_call}
use Rattle.cap_word.specs.Word as word
use Rattle.rv_machine.specs.Rows.{jumps}
use Rattle.segment_laws.proofs.Calling.{row_before, jumped, move-jumps, step-jal, no_access-jal, call_enters}
use Rattle.segment_laws.proofs.CallShapes.{CallShape, transfer_word}
use Rattle.segment_laws.proofs.Entering.{ArgumentsIn}
use Rattle.segment_laws.proofs.Facts.{CodeFacts, IsOperationAt}
use Rattle.segment_laws.proofs.FrameWords.{stack_frame}
use Rattle.segment_laws.proofs.Leaving.{even_target, add_zero}
use Rattle.segment_laws.proofs.PlainCalls.{CallFacts}
use Rattle.segment_laws.proofs.Registers.{step-is}
use Rattle.segment_laws.proofs.Simulation.{During, Reaches}

-- ---- call instructions

-- what a call instruction takes: the entry itself, or the register t2 with it
abbrev pub IsReady : Option ℕ → List ℕ → ℕ → Type 0
IsReady (Some target) x entry = target ≡ entry
IsReady None x entry = read x 7 ≡ entry

no_access-jalr : (l : Local) → accessed (Instr.Jalr 1 7 (pos 0)) (machine_of l) ≡ None
unfolding accessed
no_access-jalr l = refl

step-jalr : (code : List ℕ) (l : Local) (target : ℕ) → instruction_at code l.core.pc ≡ Ok (Instr.Jalr 1 7 (pos 0)) → read l.core.x 7 ≡ target → target < 2 ^ 32 → target % 4 ≡ 0 → local_step code l ≡ Goes (jumped l 1 target)
unfolding effect
step-jalr code l target fetch held below aligned =
    step-is code l (Instr.Jalr 1 7 (pos 0)) fetch
    ∙ ap (λ (a : ℕ). local_move l (jumps (machine_of l) 1 (a - a % 2))) (ap (λ (a : ℕ). word.add a (word_of (pos 0))) held ∙ add_zero target below)
    ∙ ap (λ (a : ℕ). local_move l (jumps (machine_of l) 1 a)) (even_target target aligned) ∙ move-jumps l 1 target aligned

-- a call instruction at pc leads to the entry
pub record CallStep (code : List ℕ) (l : Local) (entry : ℕ) : Type 0 where
  pub instr : Instr
  pub fetch : instruction_at code l.core.pc ≡ Ok instr
  pub quiet : accessed instr (machine_of l) ≡ None
  pub step : local_step code l ≡ Goes (jumped l 1 entry)

pub call_step : (code : List ℕ) (l : Local) (callee : Option ℕ) (entry : ℕ) → instruction_at code l.core.pc ≡ Ok (call_instruction callee l.core.pc) → IsReady callee l.core.x entry → entry < 2 ^ 32 → l.core.pc < 2 ^ 32 → entry % 4 ≡ 0 → CallStep code l entry
call_step code l (Some target) entry fetch ready low below aligned =
    let fetch' : instruction_at code l.core.pc ≡ Ok (Instr.Jal 1 (pos entry -ℤ pos l.core.pc)) = fetch ∙ ap (λ (a : ℕ). Ok (Instr.Jal 1 (pos a -ℤ pos l.core.pc))) ready in
    record { instr = Instr.Jal 1 (pos entry -ℤ pos l.core.pc); fetch = fetch'; quiet = no_access-jal l 1 (pos entry -ℤ pos l.core.pc); step = step-jal code l 1 entry fetch' low below aligned }
call_step code l None entry fetch ready low below aligned =
    record { instr = Instr.Jalr 1 7 (pos 0); fetch = fetch; quiet = no_access-jalr l; step = step-jalr code l entry fetch ready low aligned }

-- ---- before the transfer

-- arguments are in their registers, and what the call instruction takes is ready
pub record ReadyToCall (c : Checked) (code : List ℕ) (l : Local) (t : FlatThread) (op : Op) (g : ℕ) (values : List ℕ) (frame : Frame) (below : List Frame) (s : CallShape c t.frame.function t.frame.next op) (w : ℕ) : Type 0 where
  pub during : During c l t (s.before + w) frame below
  pub calls : Calls c.flat op g
  pub known : g < length c.flat.functions
  pub count : length values ≡ (function_at c.flat g).params
  pub arguments_in : ArgumentsIn values l.core.x
  pub ready : IsReady s.callee l.core.x (fact_at c.certificate g).entry

-- the call instruction at word w of the transfer, in the caller's chunk
pub calls_at : (c : Checked) (code : List ℕ) (l : Local) (t : FlatThread) (op : Op) (g : ℕ) (values : List ℕ) (frame : Frame) (below : List Frame) (w : ℕ) → CodeFacts c code → CallFacts c → (there : IsOperationAt c code t.frame.function t.frame.next op) → (s : CallShape c t.frame.function t.frame.next op) →
    ReadyToCall c code l t op g values frame below s w → w < transfer_size (kind_of c.certificate op) → w < 8 → through_call (kind_of c.certificate op) false ≡ Some (w + 1) →
    slice_get (transfer (kind_of c.certificate op) s.callee (begin c.flat c.certificate t.frame.function t.frame.next + 4 * s.before)) w ≡ Some (call_instruction s.callee (begin c.flat c.certificate t.frame.function t.frame.next + 4 * s.before + 4 * w)) →
    payload_place_of l.areas.pool frame.chunk + (fact_at c.certificate g).bound ≤ frame.low →
    Reaches c code l (record { frame = pushed c.flat g values; below = t.frame ∷ t.below; globals = t.globals })
calls_at c code l t op g values frame below w facts calls there s is small few through instr room_is =
    let f = t.frame.function in
    let i = t.frame.next in
    let entry = calls.entries g is.known in
    let pc = is.during.inside.pc in
    let room = there.room in
    let size_is = s.size_is in
    let entry_room = entry.room in
    let same : begin c.flat c.certificate f i + 4 * s.before + 4 * w ≡ l.core.pc = omega (arith, pc) in
    let fetch : instruction_at code l.core.pc ≡ Ok (call_instruction s.callee l.core.pc) =
    ap (instruction_at code) pc ∙ transfer_word c code f i w op (call_instruction s.callee (begin c.flat c.certificate f i + 4 * s.before + 4 * w)) there s instr ∙ ap (λ (p : ℕ). Ok (call_instruction s.callee p)) same in
    let st = call_step code l s.callee (fact_at c.certificate g).entry fetch is.ready (omega (arith, entry_room)) (omega (arith, pc, room, size_is, small)) (calls.aligned g is.known) in
    let words : words_through_call c false op ≡ Some (s.before + w + 1) =
    ap (λ (b : Option ℕ). joined b (through_call (kind_of c.certificate op) false)) s.before_is ∙ ap (joined (Some s.before)) through ∙ (let e : s.before + (w + 1) ≡ s.before + w + 1 = omega arith in ap (λ (n : ℕ). Some n) e) in
    call_enters c code l t (s.before + w) g op frame below values facts entry there is.during
    (record {
      instr = st.instr;
      fetch = st.fetch;
      quiet = st.quiet;
      step = st.step;
      word = record { small = omega (arith, size_is, small); row_is = s.row_is (s.before + w) ∙ row_before (kind_of c.certificate op) s.before (s.before + w) (omega arith) };
      there = is.known;
      calls = is.calls;
      through = words;
      room = room_is;
      count = is.count;
      arguments_in = is.arguments_in;
    })

-- at a plain site
pub transfer_plain : (c : Checked) (code : List ℕ) (l : Local) (t : FlatThread) (op : Op) (g : ℕ) (values : List ℕ) (frame : Frame) (below : List Frame) → CodeFacts c code → CallFacts c → (there : IsOperationAt c code t.frame.function t.frame.next op) → (s : CallShape c t.frame.function t.frame.next op) →
    ReadyToCall c code l t op g values frame below s 0 → kind_of c.certificate op ≡ LinkKind.Plain → Reaches c code l (record { frame = pushed c.flat g values; below = t.frame ∷ t.below; globals = t.globals })
transfer_plain c code l t op g values frame below facts calls there s is plain =
    let f = t.frame.function in
    let i = t.frame.next in
    let here = begin c.flat c.certificate f i + 4 * s.before in
    let none : here ≡ here + 4 * 0 = omega arith in
    let frame_is = stack_frame c l.areas.pool l.core.chain frame below is.during.inside.stack in
    let frame_bound = frame_is.bound in
    let bytes = is.during.inside.body.bytes in
    let same_bound : (fact_at c.certificate frame.function).bound ≡ (fact_at c.certificate f).bound = ap (λ (k : ℕ). (fact_at c.certificate k).bound) is.during.inside.body.function in
    let rule = calls.plain f i g op there.function there.there is.calls plain in
    let one : transfer_size (kind_of c.certificate op) ≡ 1 = ap transfer_size plain in
    calls_at c code l t op g values frame below 0 facts calls there s is (omega (arith, one)) (omega arith) (ap (λ (k : LinkKind). through_call k false) plain)
    (ap (λ (k : LinkKind). slice_get (transfer k s.callee here) 0) plain ∙ ap (λ (p : ℕ). Some (call_instruction s.callee p)) none)
    (omega (arith, frame_bound, bytes, same_bound, rule))
