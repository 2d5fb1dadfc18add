-- A return to a caller whose frame lies in the same chunk.
use Rattle.segment_laws.proofs.Common.{◌≡◌, ℕ, suc, ◌+◌, ◌*◌, ◌%◌, ◌<◌, Bool, true, false, List, [], ◌∷◌, length, map, pos, Option, Some, None, refl, sym, ap, subst, ◌∙◌, arith, lit<, slice_get, IsTrue, length-map, get_or-map, Pool, Instr, read, instruction_at, FlatFunction, Op, FlatCode, function_at, operation_at, result_place, FlatFrame, FlatThread, with_result, scalar, place_in, answered, signature_of, IsResultPlace, context_of, Signature, signature_at, LinkKind, fact_at, load, transfer, begin, kind_of, transfer_size, Areas, AreGlobals, Frame, Calls, ReturnsInto, IsStack, words_through_call, Local, machine_of, Checked, through_call, AreFlatFrames}
use Rattle.segment_laws.proofs.Calling.{row_before, no_access-jal}
use Rattle.segment_laws.proofs.CallShapes.{CallShape, call_shape, transfer_slice, result_word, through_false}
use Rattle.segment_laws.proofs.Coming.{comes_back, result_comes, Reaches-goes_on}
use Rattle.segment_laws.proofs.Facts.{CodeFacts, IsOperationAt}
use Rattle.segment_laws.proofs.FrameWords.{stack_frame}
use Rattle.segment_laws.proofs.Jumping.{moves_within, relative-on, move-jal}
use Rattle.segment_laws.proofs.Leaving.{IsEpilogue, Left, leaves}
use Rattle.segment_laws.proofs.PlainCalls.{CallFacts}
use Rattle.segment_laws.proofs.Simulation.{During, Reaches, load_scalar}
use Rattle.segment_laws.proofs.Ways.{Leads, Leads-none, Leads-then}

-- ---- the operation at which the caller waits

-- it calls the function that returns, by an instruction at some word
pub record IsCaller (c : Checked) (code : List ℕ) (frame b : Frame) : Type 0 where
  pub op : Op
  pub there : IsOperationAt c code b.function b.operation op
  pub calls : Calls c.flat op frame.function
  pub words : ℕ
  pub through : words_through_call c frame.is_first op ≡ Some words
  pub returns : frame.returns ≡ begin c.flat c.certificate b.function b.operation + 4 * words

caller_by : (c : Checked) (code : List ℕ) (frame b : Frame) (o : Option Op) → CodeFacts c code → b.function < length c.flat.functions → operation_at c.flat b.function b.operation ≡ o → ReturnsInto c frame b o → IsCaller c code frame b
caller_by c code frame b None facts lt e into = absurd into
caller_by c code frame b (Some op) facts lt e into =
    record { op = op; there = facts.operation b.function b.operation op lt e; calls = into.0; words = into.1.0; through = into.1.1; returns = into.1.2 }

pub caller_of : (c : Checked) (code : List ℕ) (pool : Pool) (chain : List ℕ) (frame b : Frame) (bs : List Frame) → CodeFacts c code → IsStack c pool chain frame (b ∷ bs) → IsCaller c code frame b
caller_of c code pool chain frame b bs facts stack =
    caller_by c code frame b (operation_at c.flat b.function b.operation) facts (stack_frame c pool (Rattle.machine_world.specs.InPlace.chain_below frame.is_first chain) b bs stack.2).function refl stack.1.called

-- a return address is a multiple of 4
pub returns_aligned : (c : Checked) (code : List ℕ) (pool : Pool) (chain : List ℕ) (frame : Frame) (below : List Frame) → CodeFacts c code → IsStack c pool chain frame below → frame.returns % 4 ≡ 0
returns_aligned c code pool chain frame [] facts stack = ap (λ (n : ℕ). n % 4) stack.3
returns_aligned c code pool chain frame (b ∷ bs) facts stack =
    let caller = caller_of c code pool chain frame b bs facts stack in
    let aligned = caller.there.aligned in
    ap (λ (n : ℕ). n % 4) caller.returns ∙ (let e : (begin c.flat c.certificate b.function b.operation + 4 * caller.words) % 4 ≡ 0 = omega (arith, aligned) in e)

-- the flat frame of the caller
pub at_flat : (c : Checked) (code : List ℕ) (f f' i i' : ℕ) (op : Op) → f ≡ f' → i ≡ i' → IsOperationAt c code f i op → IsOperationAt c code f' i' op
at_flat c code f f' i i' op e k there = subst (λ (j : ℕ). IsOperationAt c code f' j op) k (subst (λ (g : ℕ). IsOperationAt c code g i op) e there)

-- ---- the epilogue of a return

pub epilogue_none : (c : Checked) (code : List ℕ) (f i : ℕ) → IsOperationAt c code f i (Op.Return None) → IsEpilogue c code f i 0 (Op.Return None)
epilogue_none c code f i there = record {
  first = record { small = lit< tt; row_is = refl };
  second = record { small = lit< tt; row_is = refl };
  small = lit< tt;
  empty = refl;
  loads = there.fetch 0 (Instr.Lw 1 2 (pos (fact_at c.certificate f).ra)) refl;
  gives = there.fetch 1 (Instr.Addi 2 2 (pos (fact_at c.certificate f).frame)) refl;
  jumps_ = there.fetch 2 (Instr.Jalr 0 1 (pos 0)) refl;
}

pub epilogue_some : (c : Checked) (code : List ℕ) (f i x : ℕ) → IsOperationAt c code f i (Op.Return (Some x)) → IsEpilogue c code f i 1 (Op.Return (Some x))
epilogue_some c code f i x there = record {
  first = record { small = lit< tt; row_is = refl };
  second = record { small = lit< tt; row_is = refl };
  small = lit< tt;
  empty = refl;
  loads = there.fetch 1 (Instr.Lw 1 2 (pos (fact_at c.certificate f).ra)) refl;
  gives = there.fetch 2 (Instr.Addi 2 2 (pos (fact_at c.certificate f).frame)) refl;
  jumps_ = there.fetch 3 (Instr.Jalr 0 1 (pos 0)) refl;
}

-- ---- the function has been left, with its result in a0, where it gives one

pub record HasReturned (c : Checked) (code : List ℕ) (l : Local) (frame : Frame) (below : List Frame) (value : Option ℕ) : Type 0 where
  pub count : ℕ
  pub mid : Local
  pub first : Leads c code count l mid
  pub left : Left c code mid frame below
  pub held : (v : ℕ) → value ≡ Some v → read left.next.core.x 10 ≡ v
  pub areas : left.next.areas ≡ l.areas

pub returned_none : (c : Checked) (code : List ℕ) (l : Local) (t : FlatThread) (frame : Frame) (below : List Frame) → CodeFacts c code → IsOperationAt c code t.frame.function t.frame.next (Op.Return None) → During c l t 0 frame below → HasReturned c code l frame below None
returned_none c code l t frame below facts there during =
    let left = leaves c code l t.frame.function t.frame.next 0 (Op.Return None) frame below facts there during.inside (epilogue_none c code t.frame.function t.frame.next there)
    (returns_aligned c code l.areas.pool l.core.chain frame below facts during.inside.stack) in
    record { count = 0; mid = l; first = Leads-none c code l; left = left; held = λ v e. absurd cc; areas = left.areas }

pub returned_some : (c : Checked) (code : List ℕ) (l : Local) (t : FlatThread) (x v : ℕ) (frame : Frame) (below : List Frame) → CodeFacts c code → IsOperationAt c code t.frame.function t.frame.next (Op.Return (Some x)) → During c l t 0 frame below → scalar t x ≡ Some v →
    HasReturned c code l frame below (Some v)
returned_some c code l t x v frame below facts there during value =
    let f = t.frame.function in
    let i = t.frame.next in
    let one = there.formed.1 in
    let set = load_scalar c code l t 0 (Op.Return (Some x)) frame below 10 x v facts there (record { small = lit< tt; row_is = refl }) during
    (ap (instruction_at code) during.inside.pc ∙ there.fetch 0 (load (fact_at c.certificate f) 10 x) refl) (record { there = one.0; one = one.1 }) value
    (record { some = lit< tt; there = lit< tt; not_sp = λ e. omega arith; not_tp = λ e. omega arith }) in
    let is = set.during.inside in
    let left = leaves c code set.next f i 1 (Op.Return (Some x)) frame below facts there is (epilogue_some c code f i x there) (returns_aligned c code set.next.areas.pool set.next.core.chain frame below facts is.stack) in
    record {
      count = 1;
      mid = set.next;
      first = set.leads;
      left = left;
      held = λ w e. left.others 10 (λ e. omega arith) (λ e. omega arith) ∙ set.value_is ∙ (let same : v ≡ w = cc in same);
      areas = left.areas ∙ set.areas;
    }

-- ---- to the caller

gives_of : (code : FlatCode) (g : ℕ) → g < length (map signature_of code.functions) → (signature_at (map signature_of code.functions) g).gives ≡ (function_at code g).gives
gives_of code g lt =
    let there : g < length code.functions = omega (arith, length-map code.functions signature_of) in
    let default : FlatFunction = record { params = 0; gives = false; sizes = []; ops = [] } in
    ap (λ (s : Signature). s.gives) (get_or-map signature_of code.functions g default (record { params = 0; gives = false }) there)

wanted : (c : Checked) (f : ℕ) (gives : Bool) (to : Option ℕ) (d : ℕ) → IsResultPlace (context_of c.flat (function_at c.flat f)) gives to → to ≡ Some d → gives ≡ true
wanted c f gives None d h e = absurd cc
wanted c f true (Some d') d h e = refl
wanted c f false (Some d') d h e = absurd (let no' : IsTrue false = h.0 in cc)

-- a result is wanted only of a function that gives one
pub gives_result : (c : Checked) (code : List ℕ) (f i g d : ℕ) (op : Op) → CallFacts c → IsOperationAt c code f i op → Calls c.flat op g → result_place op ≡ Some d → (function_at c.flat g).gives ≡ true
gives_result c code f i g d (Op.Call site to h args) calls there called e =
    ap (λ (k : ℕ). (function_at c.flat k).gives) (sym called) ∙ sym (gives_of c.flat h there.formed.0) ∙ wanted c f _ to d there.formed.3 e
gives_result c code f i g d (Op.CallTable site to t k x) calls there called e = calls.members_give t g called
gives_result c code f i g d _ calls there called e = absurd called

-- behind the call, at the word of its result
pub record AtResult (c : Checked) (code : List ℕ) (l : Local) (t : FlatThread) (w : ℕ) (frame : Frame) (below : List Frame) : Type 0 where
  pub count : ℕ
  pub next : Local
  pub leads : Leads c code count l next
  pub during : During c next t w frame below
  pub registers : (r : ℕ) → read next.core.x r ≡ read l.core.x r

-- jal x0, +24 of a linked transfer leads over its other path
over_link : (c : Checked) (code : List ℕ) (l : Local) (t : FlatThread) (op : Op) (need : ℕ) (frame : Frame) (below : List Frame) → IsOperationAt c code t.frame.function t.frame.next op → (s : CallShape c t.frame.function t.frame.next op) → kind_of c.certificate op ≡ LinkKind.Linked need →
    During c l t (s.before + 5) frame below → AtResult c code l t (s.before + 11) frame below
over_link c code l t op need frame below there s linked during =
    let f = t.frame.function in
    let i = t.frame.next in
    let pc = during.inside.pc in
    let aligned = there.aligned in
    let room = there.room in
    let size_is = s.size_is in
    let eleven : transfer_size (kind_of c.certificate op) ≡ 11 = ap transfer_size linked in
    let move = moves_within c code l t (s.before + 5) (s.before + 11) op frame below (Instr.Jal 0 (pos 24)) (l.core.pc + 24) there
    (record { small = omega (arith, size_is, eleven); row_is = s.row_is (s.before + 5) ∙ row_before (kind_of c.certificate op) s.before (s.before + 5) (omega arith) })
    during
    (transfer_slice c f i 5 op (Instr.Jal 0 (pos 24)) s (ap (λ (k : LinkKind). slice_get (transfer k s.callee (begin c.flat c.certificate f i + 4 * s.before)) 5) linked))
    (move-jal l (pos 24) (l.core.pc + 24) (relative-on (machine_of l) 24 (omega (arith, pc, room, size_is, eleven))) (omega (arith, pc, aligned)))
    (no_access-jal l 0 (pos 24))
    (omega (arith, pc)) in
    record { count = 1; next = move.next; leads = move.leads; during = move.during; registers = move.registers }

-- from the word behind the call instruction to that of the result
to_result : (c : Checked) (code : List ℕ) (l : Local) (t : FlatThread) (op : Op) (k : ℕ) (kind : LinkKind) (frame : Frame) (below : List Frame) → IsOperationAt c code t.frame.function t.frame.next op → (s : CallShape c t.frame.function t.frame.next op) → kind_of c.certificate op ≡ kind →
    through_call kind false ≡ Some k → During c l t (s.before + k) frame below → AtResult c code l t (s.before + transfer_size kind) frame below
to_result c code l t op k LinkKind.Plain frame below there s e through during =
    let one : 1 ≡ k = cc in
    record { count = 0; next = l; leads = Leads-none c code l; during = subst (λ (n : ℕ). During c l t (s.before + n) frame below) (sym one) during; registers = λ r. refl }
to_result c code l t op k (LinkKind.Linked need) frame below there s e through during =
    let five : 5 ≡ k = cc in
    over_link c code l t op need frame below there s e (subst (λ (n : ℕ). During c l t (s.before + n) frame below) (sym five) during)
to_result c code l t op k (LinkKind.Spawned need) frame below there s e through during = absurd cc

-- the caller goes on with the result
pub returns_here : (c : Checked) (code : List ℕ) (l : Local) (frame b : Frame) (bs : List Frame) (tb : FlatFrame) (tbs : List FlatFrame) (globals : List (List ℕ)) (value : Option ℕ) (result : ℕ) → CodeFacts c code → CallFacts c →
    HasReturned c code l frame (b ∷ bs) value → frame.is_first ≡ false → AreFlatFrames c l.areas.pool (b ∷ bs) (tb ∷ tbs) → AreGlobals c.flat globals l.areas.globals → ((function_at c.flat frame.function).gives ≡ true → value ≡ Some result) →
    Reaches c code l (record { frame = answered c.flat tb result; below = tbs; globals = globals })
returns_here c code l frame b bs tb tbs globals value result facts calls has in_chunk flats globals_are gives =
    let left = has.left in
    let next = left.next in
    let t : FlatThread = record { frame = tb; below = tbs; globals = globals } in
    let flats' : AreFlatFrames c next.areas.pool (b ∷ bs) (tb ∷ tbs) = subst (λ (a : Areas). AreFlatFrames c a.pool (b ∷ bs) (tb ∷ tbs)) (sym has.areas) flats in
    let globals' : AreGlobals c.flat globals next.areas.globals = subst (λ (a : Areas). AreGlobals c.flat globals a.globals) (sym has.areas) globals_are in
    let caller = caller_of c code next.areas.pool next.core.chain frame b bs facts left.stack in
    let op = caller.op in
    let kind = kind_of c.certificate op in
    let there : IsOperationAt c code tb.function tb.next op = at_flat c code b.function tb.function b.operation tb.next op flats.0.function flats.0.operation caller.there in
    let s = call_shape c code tb.function tb.next frame.function op there caller.calls in
    let through = through_false c tb.function tb.next op s caller.words (ap (λ (first : Bool). words_through_call c first op) (sym in_chunk) ∙ caller.through) in
    let back = comes_back c code has.mid frame b bs caller.words tb tbs globals left (record { in_chunk = in_chunk; returns = caller.returns }) flats' globals' in
    let at = to_result c code next t op through.0 kind b bs there s refl through.1 (subst (λ (n : ℕ). During c next t n b bs) through.2 back) in
    let goes = result_comes c code at.next t (s.before + transfer_size kind) op s.to result b bs facts there at.during (result_word c code tb.function tb.next op there s)
    (λ d e. at.registers 10 ∙ has.held result (gives (gives_result c code tb.function tb.next frame.function d op calls there caller.calls (s.place ∙ e)))) in
    let is : with_result tb s.to result ≡ answered c.flat tb result = sym (ap (λ (o : Option Op). with_result tb (place_in o) result) there.there ∙ ap (λ (to : Option ℕ). with_result tb to result) s.place) in
    let steps : has.count + (3 + at.count) ≡ suc (has.count + (2 + at.count)) = omega arith in
    subst (λ (g : FlatFrame). Reaches c code l (record { frame = g; below = tbs; globals = globals })) is
    (Reaches-goes_on c code (has.count + (2 + at.count)) l at.next (record { frame = with_result tb s.to result; below = tbs; globals = globals })
    (subst (λ (n : ℕ). Leads c code n l at.next) steps (Leads-then c code has.count (3 + at.count) l has.mid at.next has.first (Leads-then c code 3 at.count has.mid next at.next left.leads at.leads)))
    goes)
