-- The transfer of a call at a linked site: the test of the room that is left, and the call in the caller's chunk where
-- there is enough.
use Rattle.segment_laws.proofs.Common.{◌≡◌, ℕ, ◌+◌, ◌-◌, ◌*◌, ◌^◌, ◌<◌, ◌≤◌, false, List, ◌∷◌, pos, Option, Some, None, refl, sym, ap, subst, ◌∙◌, arith, slice_get, nat_lt, le-ltb, place_of, payload_place_of, end_of, place_of-bounded, Instr, accessed, effect, read, sets, branches, Op, FlatThread, pushed, LinkKind, fact_at, upper_part, lower_part, transfer, call_instruction, begin, kind_of, transfer_size, Frame, Local, machine_of, local_move, Checked, through_call}
use Rattle.cap_word.specs.Word as word
use Rattle.rv_machine.specs.Rows as rows
use Rattle.segment_laws.proofs.Calling.{row_before}
use Rattle.segment_laws.proofs.CallShapes.{CallShape, transfer_slice}
use Rattle.segment_laws.proofs.Facts.{CodeFacts, IsOperationAt}
use Rattle.segment_laws.proofs.Finish.{Reaches-after}
use Rattle.segment_laws.proofs.FrameWords.{stack_frame}
use Rattle.segment_laws.proofs.Immediate.{load_immediate, is_t0, is_t1, fetch_at}
use Rattle.segment_laws.proofs.Inside.{IsWholeWord, pc_next}
use Rattle.segment_laws.proofs.Jumping.{moves_within, move-passed}
use Rattle.segment_laws.proofs.Numbers.{word_of-difference}
use Rattle.segment_laws.proofs.PlainCalls.{CallFacts}
use Rattle.segment_laws.proofs.Simulation.{During, Reaches, set_value}
use Rattle.segment_laws.proofs.Transfers.{IsReady, ReadyToCall, calls_at}
use Rattle.segment_laws.proofs.Ways.{Leads, Leads-then}

sub_small : (a b : ℕ) → b ≤ a → a < 2 ^ 32 → word.sub a b ≡ a - b
unfolding word.sub
sub_small a b le below = let is = word_of-difference a b (omega arith) in omega (arith, is)

does_sub : (m : rows.Machine) (v : ℕ) → word.sub (read m.x 2) (read m.x 6) ≡ v → effect (Instr.Sub 5 2 6) m ≡ sets m 5 v
unfolding effect
does_sub m v e = ap (sets m 5) e

none_sub : (m : rows.Machine) → accessed (Instr.Sub 5 2 6) m ≡ None
unfolding accessed
none_sub m = refl

pub does_bltu : (l : Local) → local_move l (effect (Instr.Bltu 5 4 (pos 12)) (machine_of l)) ≡ local_move l (branches (machine_of l) (pos 12) (nat_lt (read l.core.x 5) (read l.core.x 4)))
unfolding effect
does_bltu l = refl

pub none_bltu : (m : rows.Machine) → accessed (Instr.Bltu 5 4 (pos 12)) m ≡ None
unfolding accessed
none_bltu m = refl

-- registers that the test doesn't touch
pub ready_kept : (callee : Option ℕ) (x y : List ℕ) (entry : ℕ) → read y 7 ≡ read x 7 → IsReady callee x entry → IsReady callee y entry
ready_kept (Some target) x y entry e h = h
ready_kept None x y entry e h = e ∙ h

-- before the branch: what is left of the chunk below sp, less the need, is in t0, and the need in t1
pub record Tested (c : Checked) (code : List ℕ) (l : Local) (t : FlatThread) (op : Op) (need : ℕ) (frame : Frame) (below : List Frame) (s : CallShape c t.frame.function t.frame.next op) : Type 0 where
  pub next : Local
  pub leads : Leads c code 3 l next
  pub during : During c next t (s.before + 3) frame below
  pub left : read next.core.x 5 ≡ frame.low - need
  pub need_is : read next.core.x 6 ≡ need
  pub others : (r : ℕ) → (r ≡ 5 → ⊥) → (r ≡ 6 → ⊥) → read next.core.x r ≡ read l.core.x r
  pub areas : next.areas ≡ l.areas

pub whole_word : (c : Checked) (code : List ℕ) (f i k need : ℕ) (op : Op) (s : CallShape c f i op) → kind_of c.certificate op ≡ LinkKind.Linked need → k < 8 → IsWholeWord c f (s.before + k) op
whole_word c code f i k need op s linked lt =
    let eleven : transfer_size (kind_of c.certificate op) ≡ 11 = ap transfer_size linked in
    let size_is = s.size_is in
    record { small = omega (arith, size_is, eleven, lt); row_is = s.row_is (s.before + k) ∙ row_before (kind_of c.certificate op) s.before (s.before + k) (omega arith) }

pub linked_slice : (c : Checked) (f i k need : ℕ) (op : Op) (instr : Instr) (s : CallShape c f i op) → kind_of c.certificate op ≡ LinkKind.Linked need →
    slice_get (transfer (LinkKind.Linked need) s.callee (begin c.flat c.certificate f i + 4 * s.before)) k ≡ Some instr → slice_get (Rattle.segment_laws.proofs.Immediate.words_of c f i op) (s.before + k) ≡ Some instr
linked_slice c f i k need op instr s linked e =
    transfer_slice c f i k op instr s (ap (λ (kind : LinkKind). slice_get (transfer kind s.callee (begin c.flat c.certificate f i + 4 * s.before)) k) linked ∙ e)

pub tests_room : (c : Checked) (code : List ℕ) (l : Local) (t : FlatThread) (op : Op) (need : ℕ) (frame : Frame) (below : List Frame) → CodeFacts c code → (there : IsOperationAt c code t.frame.function t.frame.next op) → (s : CallShape c t.frame.function t.frame.next op) →
    kind_of c.certificate op ≡ LinkKind.Linked need → need ≤ 65536 → During c l t s.before frame below → Tested c code l t op need frame below s
tests_room c code l t op need frame below facts there s linked small during =
    let f = t.frame.function in
    let i = t.frame.next in
    let n = s.before in
    let here : n + 0 ≡ n = omega arith in
    let e0 : slice_get (Rattle.segment_laws.proofs.Immediate.words_of c f i op) n ≡ Some (Instr.Lui 6 (pos (upper_part need))) =
    ap (λ (k : ℕ). slice_get (Rattle.segment_laws.proofs.Immediate.words_of c f i op) k) (sym here) ∙ linked_slice c f i 0 need op (Instr.Lui 6 (pos (upper_part need))) s linked refl in
    let e1 = linked_slice c f i 1 need op (Instr.Addi 6 6 (lower_part need)) s linked refl in
    let e2 = linked_slice c f i 2 need op (Instr.Sub 5 2 6) s linked refl in
    let first = load_immediate c code l t n op frame below 6 need there (subst (λ (k : ℕ). IsWholeWord c f k op) here (whole_word c code f i 0 need op s linked (omega arith))) (whole_word c code f i 1 need op s linked (omega arith)) during e0 e1 is_t1 (omega arith) in
    let l1 = first.next in
    let is1 = first.during.inside in
    let frame_is = stack_frame c l1.areas.pool l1.core.chain frame below is1.stack in
    let lowest : place_of l1.areas.pool frame.chunk + 16 ≤ frame.low = frame_is.lowest in
    let start : 0x8000_0000 ≤ place_of l1.areas.pool frame.chunk = omega arith in
    let highest : frame.low + frame.bytes ≤ end_of l1.areas.pool frame.chunk = frame_is.highest in
    let bounded : end_of l1.areas.pool frame.chunk ≤ 0x8400_0000 = place_of-bounded l1.areas.pool frame.chunk is1.form.areas.pool frame_is.chunk in
    let difference : word.sub (read l1.core.x 2) (read l1.core.x 6) ≡ frame.low - need =
    ap (λ (a : ℕ). word.sub a (read l1.core.x 6)) is1.sp_is ∙ ap (word.sub frame.low) first.value_is ∙ sub_small frame.low need (omega (arith, lowest, start, small)) (omega (arith, highest, bounded)) in
    let second = set_value c code l1 t (n + 2) op frame below (Instr.Sub 5 2 6) 5 (frame.low - need) there (whole_word c code f i 2 need op s linked (omega arith)) first.during
    (fetch_at c code l1 f i (n + 2) op frame below (Instr.Sub 5 2 6) there is1 e2) (does_sub (machine_of l1) (frame.low - need) difference) (none_sub (machine_of l1)) is_t0 in
    let three : n + 2 + 1 ≡ n + 3 = omega arith in
    record {
      next = second.next;
      leads = Leads-then c code 2 1 l l1 second.next first.leads second.leads;
      during = subst (λ (k : ℕ). During c second.next t k frame below) three second.during;
      left = second.value_is;
      need_is = second.others 6 (λ e. omega arith) ∙ first.value_is;
      others = λ r not_t0 not_t1. second.others r not_t0 ∙ first.others r not_t1;
      areas = second.areas ∙ first.areas;
    }

-- there is room: the call stays in the caller's chunk
pub transfer_near : (c : Checked) (code : List ℕ) (l : Local) (t : FlatThread) (op : Op) (g need : ℕ) (values : List ℕ) (frame : Frame) (below : List Frame) → CodeFacts c code → CallFacts c → (there : IsOperationAt c code t.frame.function t.frame.next op) → (s : CallShape c t.frame.function t.frame.next op) →
    ReadyToCall c code l t op g values frame below s 0 → kind_of c.certificate op ≡ LinkKind.Linked need → (tested : Tested c code l t op need frame below s) → payload_place_of tested.next.areas.pool frame.chunk ≤ frame.low - need →
    Reaches c code l (record { frame = pushed c.flat g values; below = t.frame ∷ t.below; globals = t.globals })
transfer_near c code l t op g need values frame below facts calls there s is linked tested room =
    let f = t.frame.function in
    let i = t.frame.next in
    let l1 = tested.next in
    let here = begin c.flat c.certificate f i + 4 * s.before in
    let test : nat_lt (read l1.core.x 5) (read l1.core.x 4) ≡ false = (λ k. nat_lt (tested.left k) (tested.during.inside.tp_is k)) ∙ le-ltb (frame.low - need) (payload_place_of l1.areas.pool frame.chunk) room in
    let whole = whole_word c code f i 3 need op s linked (omega arith) in
    let four : begin c.flat c.certificate f i + 4 * (s.before + 3 + 1) ≡ begin c.flat c.certificate f i + 4 * (s.before + 4) = omega arith in
    let moved = moves_within c code l1 t (s.before + 3) (s.before + 4) op frame below (Instr.Bltu 5 4 (pos 12)) (word.add l1.core.pc 4) there whole tested.during (linked_slice c f i 3 need op (Instr.Bltu 5 4 (pos 12)) s linked refl)
    (does_bltu l1 ∙ move-passed l1 (pos 12) (nat_lt (read l1.core.x 5) (read l1.core.x 4)) test) (none_bltu (machine_of l1)) (pc_next c code l1 f i (s.before + 3) op there whole.small tested.during.inside.pc ∙ four) in
    let l2 = moved.next in
    let frame_is = stack_frame c l2.areas.pool l2.core.chain frame below moved.during.inside.stack in
    let lowest : place_of l2.areas.pool frame.chunk + 16 ≤ frame.low = frame_is.lowest in
    let rule = calls.linked f i g need op there.function there.there is.calls linked in
    let eleven : transfer_size (kind_of c.certificate op) ≡ 11 = ap transfer_size linked in
    let sixteen : here + 16 ≡ here + 4 * 4 = omega arith in
    let needed = calls.need_small f i g need op there.function there.there is.calls linked in
    let start : 0x8000_0000 ≤ place_of l2.areas.pool frame.chunk = omega arith in
    let tp_same : payload_place_of l2.areas.pool frame.chunk ≡ payload_place_of l1.areas.pool frame.chunk = sym moved.during.inside.tp_is ∙ moved.registers 4 ∙ tested.during.inside.tp_is in
    let ready : ReadyToCall c code l2 t op g values frame below s 4 = record {
      during = moved.during;
      calls = is.calls;
      known = is.known;
      count = is.count;
      arguments_in = λ k lt. moved.registers (10 + k) ∙ tested.others (10 + k) (λ e. omega arith) (λ e. omega arith) ∙ is.arguments_in k lt;
      ready = ready_kept s.callee l.core.x l2.core.x (fact_at c.certificate g).entry (moved.registers 7 ∙ tested.others 7 (λ e. omega arith) (λ e. omega arith)) is.ready;
    } in
    Reaches-after c code (3 + 1) l l2 (record { frame = pushed c.flat g values; below = t.frame ∷ t.below; globals = t.globals }) (Leads-then c code 3 1 l l1 l2 tested.leads moved.leads)
    (calls_at c code l2 t op g values frame below 4 facts calls there s ready (omega (arith, eleven)) (omega arith) (ap (λ (k : LinkKind). through_call k false) linked)
    (ap (λ (k : LinkKind). slice_get (transfer k s.callee here) 4) linked ∙ ap (λ (p : ℕ). Some (call_instruction s.callee p)) sixteen)
    (omega (arith, room, tp_same, rule, needed, lowest, start)))
