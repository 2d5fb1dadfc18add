-- The call on a chunk that was linked.
use Rattle.segment_laws.proofs.Common.{◌≡◌, ℕ, ◌+◌, ◌*◌, ◌<◌, ◌≤◌, true, List, ◌∷◌, length, Option, Some, Ok, slice_get, refl, sym, ap, subst, ◌∙◌, arith, lit<, eq-eqb, leb-true, length-set, Goes, Pool, Taken, taken_for, end_of, payload_place_of, payload_bytes_of, shape_of, taken_for-fits, taken_for-sound, taken_for-shape, read, write, instruction_at, Op, function_at, operation_at, FlatThread, pushed, LinkKind, fact_at, transfer, call_instruction, begin, kind_of, transfer_size, Frame, frame_bytes, return_word, ReturnsInto, IsStack, FramesAt, HeadersName, HasFrames, IsGoodAccess, words_through_call, joined, Local, local_step, linked_on, with_header, saved_tp, saved_sp, Checked, InOperation, InPrologue, Row, Empty, Linking, row_at, size_in, through_call, transfer_row, HasForm, words_of-payload, words_of-same, payload_place_of-same, saved_tp-with_header, read-write_same}
use Rattle.cap_word.specs.Word as word
use Rattle.segment_laws.proofs.Agreeing.{stack_agrees, headers_agree, word_in_same, in_front, stack_in, flats_agree}
use Rattle.segment_laws.proofs.Calling.{jumped}
use Rattle.segment_laws.proofs.CallShapes.{CallShape, transfer_word}
use Rattle.segment_laws.proofs.Entering.{EntryFacts, Entered, enters}
use Rattle.segment_laws.proofs.Facts.{CodeFacts, IsOperationAt}
use Rattle.segment_laws.proofs.Finish.{Reaches-after}
use Rattle.segment_laws.proofs.Linked.{ready_kept}
use Rattle.segment_laws.proofs.Linking.{header_sp, linked_agrees, after_link, linking_row, AtLink}
use Rattle.segment_laws.proofs.PlainCalls.{CallFacts}
use Rattle.segment_laws.proofs.Registers.{read-write_other, add-small, access-is}
use Rattle.segment_laws.proofs.Simulation.{Reaches}
use Rattle.segment_laws.proofs.Standing.{Standing}
use Rattle.segment_laws.proofs.Transfers.{ReadyToCall, call_step}
use Rattle.segment_laws.proofs.Ways.{IsGoodState, Leads-one, Leads-then, HasForm-next}

-- the frame of a function that is called on a chunk that was linked
abbrev pub far_frame : Local → Taken → ℕ → Frame
far_frame l taken g = record { function = g; operation = 0; chunk = taken.chunk; low = end_of taken.pool taken.chunk; bytes = 0; returns = word.add l.core.pc 4; is_first = true }

-- arguments stand below a7
small_registers : (k : ℕ) (values : List ℕ) (g : ℕ) (c : Checked) → EntryFacts c g → length values ≡ (function_at c.flat g).params → k < length values → 10 + k ≡ 17 → ⊥
small_registers k values g c entry count lt e = omega (arith, entry.most, count, lt, e)

pub calls_far : (c : Checked) (code : List ℕ) (l : Local) (t : FlatThread) (op : Op) (g need : ℕ) (values : List ℕ) (frame : Frame) (below : List Frame) (taken : Taken) → CodeFacts c code → CallFacts c → (there : IsOperationAt c code t.frame.function t.frame.next op) → (s : CallShape c t.frame.function t.frame.next op) →
    ReadyToCall c code l t op g values frame below s 0 → kind_of c.certificate op ≡ LinkKind.Linked need → (at : AtLink c code l t op need frame below s) → taken_for at.at.areas.pool need ≡ Some taken →
    Reaches c code l (record { frame = pushed c.flat g values; below = t.frame ∷ t.below; globals = t.globals })
calls_far c code l t op g need values frame below taken facts calls there s ready is_linked at found =
    let f = t.frame.function in
    let i = t.frame.next in
    let n = s.before in
    let l1 = at.at in
    let is = at.during.inside in
    let p = l1.areas.pool in
    let q : Pool = with_header taken.pool taken.chunk (read l1.core.x 4) (read l1.core.x 2) in
    let l2 : Local = after_link l1 taken in
    let step1 : local_step code l1 ≡ Goes l2 = at.step ∙ ap (λ (m : ℕ). linked_on l1 (taken_for p m)) at.need_is ∙ ap (linked_on l1) found in
    let form2 : HasForm c l2 = HasForm-next c code l1 l2 is.form step1 in
    let agrees = linked_agrees c l1 need (read l1.core.x 4) (read l1.core.x 2) taken is.form found in
    let sound = taken_for-sound p need taken is.form.areas.pool found in
    let fit : need ≤ payload_bytes_of p taken.chunk = leb-true need (payload_bytes_of p taken.chunk) (taken_for-fits p need taken is.form.areas.pool found).1 in
    let shape : shape_of taken.pool ≡ shape_of p = taken_for-shape p need taken found in
    let same_words = words_of-same p taken.pool taken.chunk shape in
    let header = words_of-payload taken.pool taken.chunk sound.0 sound.1.0 in
    let chain = l1.core.chain in
    let chunk_in = in_front chain frame.chunk is.front in
    let end = end_of taken.pool taken.chunk in
    let long : length (write l1.core.x 4 (payload_place_of taken.pool taken.chunk)) ≡ 32 = length-set l1.core.x 4 (payload_place_of taken.pool taken.chunk) ∙ is.form.core.count in
    let sp2 : read l2.core.x 2 ≡ end = read-write_same (write l1.core.x 4 (payload_place_of taken.pool taken.chunk)) 2 end (lit< tt) (omega (arith, long)) in
    let tp2 : read l2.core.x 4 ≡ payload_place_of taken.pool taken.chunk =
    read-write_other (write l1.core.x 4 (payload_place_of taken.pool taken.chunk)) 2 end 4 (λ e. omega arith)
    ∙ read-write_same l1.core.x 4 (payload_place_of taken.pool taken.chunk) (lit< tt) (omega (arith, is.form.core.count)) in
    let others2 : (r : ℕ) → (r ≡ 2 → ⊥) → (r ≡ 4 → ⊥) → read l2.core.x r ≡ read l1.core.x r =
    λ r not_sp not_tp. read-write_other (write l1.core.x 4 (payload_place_of taken.pool taken.chunk)) 2 end r not_sp ∙ read-write_other l1.core.x 4 (payload_place_of taken.pool taken.chunk) r not_tp in
    let pc = is.pc in
    let room = there.room in
    let size_is = s.size_is in
    let eleven : transfer_size (kind_of c.certificate op) ≡ 11 = ap transfer_size is_linked in
    let here = begin c.flat c.certificate f i in
    let pc2 : l2.core.pc ≡ here + 4 * (n + 8) = add-small l1.core.pc 4 (omega (arith, pc, room, size_is, eleven)) ∙ (let e : l1.core.pc + 4 ≡ here + 4 * (n + 8) = omega (arith, pc) in e) in
    let sp_saved : saved_sp q taken.chunk ≡ frame.low = header_sp taken.pool taken.chunk (read l1.core.x 4) (read l1.core.x 2) sound.0 sound.1.0 ∙ is.sp_is in
    let tp_saved : saved_tp q taken.chunk ≡ payload_place_of q frame.chunk =
    saved_tp-with_header taken.pool taken.chunk (read l1.core.x 4) (read l1.core.x 2) sound.0 sound.1.0 ∙ is.tp_is ∙ sym (payload_place_of-same p taken.pool frame.chunk shape) in
    let headers2 : HeadersName q (taken.chunk ∷ frame.chunk ∷ is.front.rest) = (tp_saved, subst (HeadersName q) is.front.is (headers_agree p q chain agrees is.headers)) in
    let stack2 : IsStack c q chain frame below = stack_agrees c p q chain frame below agrees is.front is.stack in
    let same_return : return_word c q f frame.chunk frame.low ≡ return_word c p f frame.chunk frame.low = word_in_same p q chain frame.chunk (frame.low + (fact_at c.certificate f).ra) agrees chunk_in in
    let frames2 : FramesAt c q l2.core (InOperation f i (n + 8)) Linking (taken.chunk ∷ frame.chunk ∷ is.front.rest) (frame ∷ below) = (
      sound.1.0,
      sp2,
      record {
        function = is.body.function;
        operation = is.body.operation;
        chunk_is = refl;
        low_is = sym sp_saved;
        bytes_are = is.body.bytes;
        returns_are = is.body.returns ∙ sym same_return ∙ ap (return_word c q f frame.chunk) (sym sp_saved);
      },
      subst (λ (ch : List ℕ). IsStack c q ch frame below) is.front.is stack2,
    ) in
    let chain2 : taken.chunk ∷ chain ≡ taken.chunk ∷ frame.chunk ∷ is.front.rest = ap (λ (ch : List ℕ). taken.chunk ∷ ch) is.front.is in
    let row2 : row_at c.certificate (n + 8) (operation_at c.flat f i) ≡ Linking =
    ap (row_at c.certificate (n + 8)) there.there ∙ s.row_is (n + 8) ∙ ap (λ (k : LinkKind). transfer_row k (n + 8) (Some n)) is_linked ∙ linking_row need n in
    let in_place : HasFrames c q l2.core (InOperation f i (n + 8)) (frame ∷ below) = record {
      at = (there.function, subst (λ (o : Option Op). n + 8 < size_in c f o) (sym there.there) (omega (arith, size_is, eleven)), pc2);
      frames_are = subst (λ (r : Row). FramesAt c q l2.core (InOperation f i (n + 8)) r (taken.chunk ∷ chain) (frame ∷ below)) (sym row2)
          (subst (λ (ch : List ℕ). FramesAt c q l2.core (InOperation f i (n + 8)) Linking ch (frame ∷ below)) (sym chain2) frames2);
      front = tp2;
      headers = subst (HeadersName q) (sym chain2) headers2;
    } in
    let entry = calls.entries g ready.known in
    let entry_room = entry.room in
    let target = (fact_at c.certificate g).entry in
    let eight : here + 4 * n + 32 ≡ l2.core.pc = omega (arith, pc2) in
    let fetch2 : instruction_at code l2.core.pc ≡ Ok (call_instruction s.callee l2.core.pc) =
    ap (instruction_at code) pc2
    ∙ transfer_word c code f i 8 op (call_instruction s.callee (here + 4 * n + 32)) there s (ap (λ (k : LinkKind). slice_get (transfer k s.callee (here + 4 * n)) 8) is_linked)
    ∙ ap (λ (a : ℕ). Ok (call_instruction s.callee a)) eight in
    let kept : (r : ℕ) → (r ≡ 2 → ⊥) → (r ≡ 4 → ⊥) → (r ≡ 5 → ⊥) → (r ≡ 6 → ⊥) → (r ≡ 17 → ⊥) → read l2.core.x r ≡ read l.core.x r =
    λ r e2 e4 e5 e6 e17. others2 r e2 e4 ∙ at.others r e5 e6 e17 in
    let st = call_step code l2 s.callee target fetch2 (ready_kept s.callee l.core.x l2.core.x target (kept 7 (λ e. omega arith) (λ e. omega arith) (λ e. omega arith) (λ e. omega arith) (λ e. omega arith)) ready.ready)
    (omega (arith, entry_room)) (omega (arith, pc2, room, size_is, eleven)) (calls.aligned g ready.known) in
    let good2 : IsGoodState c code l2 = record {
      place = InOperation f i (n + 8);
      frames = frame ∷ below;
      in_place = in_place;
      access = subst (IsGoodAccess c (frame ∷ below)) (sym (access-is code l2 st.instr st.fetch ∙ st.quiet)) tt;
    } in
    let l3 : Local = jumped l2 1 target in
    let frame' = far_frame l2 taken g in
    let back = word.add l2.core.pc 4 in
    let back_is : back ≡ here + 4 * (n + 9) = add-small l2.core.pc 4 (omega (arith, pc2, room, size_is, eleven)) ∙ (let e : l2.core.pc + 4 ≡ here + 4 * (n + 9) = omega (arith, pc2) in e) in
    let begins : begin c.flat c.certificate frame.function frame.operation ≡ here =
    ap (λ (k : ℕ). begin c.flat c.certificate k frame.operation) is.body.function ∙ ap (λ (k : ℕ). begin c.flat c.certificate f k) is.body.operation in
    let operation : operation_at c.flat frame.function frame.operation ≡ Some op =
    ap (λ (k : ℕ). operation_at c.flat k frame.operation) is.body.function ∙ ap (λ (k : ℕ). operation_at c.flat f k) is.body.operation ∙ there.there in
    let through : words_through_call c true op ≡ Some (n + 9) = ap (λ (b : Option ℕ). joined b (through_call (kind_of c.certificate op) true)) s.before_is ∙ ap (λ (k : LinkKind). joined (Some n) (through_call k true)) is_linked in
    let into : ReturnsInto c frame' frame (operation_at c.flat frame.function frame.operation) =
    subst (ReturnsInto c frame' frame) (sym operation) (ready.calls, (n + 9, through, back_is ∙ ap (λ (k : ℕ). k + 4 * (n + 9)) (sym begins))) in
    let count2 = form2.core.count in
    let rule = calls.linked f i g need op there.function there.there ready.calls is_linked in
    let standing : Standing c l3 (InPrologue g 0) Empty frame' (frame ∷ below) = record {
      form = HasForm-next c code l2 l3 form2 st.step;
      at = (ready.known, omega arith, (let e : target ≡ target + 4 * 0 = omega arith in e));
      row_is = refl;
      sp_is = read-write_other l2.core.x 1 back 2 (λ e. omega arith) ∙ sp2;
      tp_is = read-write_other l2.core.x 1 back 4 (λ e. omega arith) ∙ tp2;
      front = record { rest = chain; is = refl };
      function = refl;
      operation = refl;
      holds = (refl, sym (read-write_same l2.core.x 1 back (lit< tt) (omega (arith, count2))));
      stack = (
        record {
          function = ready.known;
          chunk = sound.1.0;
          lowest = omega (arith, header);
          highest = omega arith;
          bound = omega (arith, fit, rule, same_words, header);
          first = sym (eq-eqb (end + 0) end (omega arith));
        },
        record {
          chunk = ap (λ (ch : List ℕ). slice_get ch 0) is.front.is;
          low = sym sp_saved;
          bytes = is.body.bytes ∙ ap (frame_bytes c) (sym is.body.function);
          returns = is.body.returns ∙ sym same_return ∙ ap (λ (k : ℕ). return_word c q k frame.chunk frame.low) (sym is.body.function);
          called = into;
        },
        stack2,
      );
      headers = subst (HeadersName q) (sym chain2) headers2;
    } in
    let entered : Entered c l3 frame' (frame ∷ below) values (t.frame ∷ t.below) t.globals = record {
      standing = standing;
      count = ready.count;
      arguments_in = λ k lt. read-write_other l2.core.x 1 back (10 + k) (λ e. omega arith)
          ∙ kept (10 + k) (λ e. omega arith) (λ e. omega arith) (λ e. omega arith) (λ e. omega arith) (λ e. small_registers k values g c entry ready.count lt e) ∙ ready.arguments_in k lt;
      flats_are = flats_agree c p q chain (frame ∷ below) (t.frame ∷ t.below) agrees (stack_in c p chain frame below is.stack is.front)
          (record { function = is.body.function; operation = is.body.operation; shape = at.during.shape; variables = at.during.variables }, at.during.flats);
      globals_are = at.during.globals;
    } in
    Reaches-after c code 7 l l3 (record { frame = pushed c.flat g values; below = t.frame ∷ t.below; globals = t.globals })
    (Leads-then c code 5 2 l l1 l3 at.leads (Leads-then c code 1 1 l1 l2 l3 (Leads-one c code l1 l2 at.good step1) (Leads-one c code l2 l3 good2 st.step)))
    (enters c code l3 frame' (frame ∷ below) values (t.frame ∷ t.below) t.globals facts entry entered)
