-- A return to a caller in the same chunk: it goes on in its operation, and its result is stored.
use Rattle.segment_laws.proofs.Common.{◌≡◌, ℕ, suc, ◌+◌, ◌*◌, Bool, true, false, List, ◌∷◌, get_or, pos, Option, Some, None, Ok, refl, sym, ap, subst, ◌∙◌, arith, slice_get, Pool, payload_place_of, Instr, read, instruction_at, Op, function_at, FlatFrame, FlatThread, with_result, fact_at, begin, size, kind_of, AreGlobals, Frame, frame_bytes, return_word, IsStack, low_below, Local, Checked, AreFlatFrames}
use Rattle.segment_laws.proofs.Facts.{CodeFacts, IsOperationAt}
use Rattle.segment_laws.proofs.Finish.{Reaches-after, store_scalar, Simulates-at}
use Rattle.segment_laws.proofs.Inside.{IsWholeWord}
use Rattle.segment_laws.proofs.Leaving.{Left}
use Rattle.segment_laws.proofs.Simulation.{During, Simulates, Reaches, IsOneWord}
use Rattle.segment_laws.proofs.Stacks.{IsFront}
use Rattle.segment_laws.proofs.Ways.{Leads}

-- where a frame that isn't the first of its chunk returns to: a word of the operation at which the frame below waits
pub record IsBackIn (c : Checked) (frame b : Frame) (words : ℕ) : Type 0 where
  pub in_chunk : frame.is_first ≡ false
  pub returns : frame.returns ≡ begin c.flat c.certificate b.function b.operation + 4 * words

chunk_of_front : (chain : List ℕ) (chunk other : ℕ) → IsFront chain chunk → slice_get chain 0 ≡ Some other → other ≡ chunk
chunk_of_front chain chunk other front e =
    let is : Some chunk ≡ Some other = sym (ap (λ (ch : List ℕ). slice_get ch 0) front.is) ∙ e in cc

-- the caller's frame runs again
above_false : (c : Checked) (pool : Pool) (chain : List ℕ) (frame b : Frame) (bs : List Frame) (first : Bool) → frame.is_first ≡ first → first ≡ false → IsStack c pool chain frame (b ∷ bs) →
    (slice_get chain 0 ≡ Some b.chunk) × (b.low ≡ frame.low + frame.bytes) × IsStack c pool chain b bs
above_false c pool chain frame b bs true e none stack = absurd cc
above_false c pool chain frame b bs false e none stack = (
  subst (λ (f : Bool). slice_get (Rattle.machine_world.specs.InPlace.chain_below f chain) 0 ≡ Some b.chunk) e stack.1.chunk,
  stack.1.low ∙ ap (λ (f : Bool). low_below pool f frame) e,
  subst (λ (f : Bool). IsStack c pool (Rattle.machine_world.specs.InPlace.chain_below f chain) b bs) e stack.2,
)

pub comes_back : (c : Checked) (code : List ℕ) (l : Local) (frame b : Frame) (bs : List Frame) (words : ℕ) (tb : FlatFrame) (tbs : List FlatFrame) (globals : List (List ℕ)) → (left : Left c code l frame (b ∷ bs)) → IsBackIn c frame b words →
    AreFlatFrames c left.next.areas.pool (b ∷ bs) (tb ∷ tbs) → AreGlobals c.flat globals left.next.areas.globals → During c left.next (record { frame = tb; below = tbs; globals = globals }) words b bs
comes_back c code l frame b bs words tb tbs globals left back flats globals_are =
    let parts = above_false c left.next.areas.pool left.next.core.chain frame b bs frame.is_first refl back.in_chunk left.stack in
    let same : b.chunk ≡ frame.chunk = chunk_of_front left.next.core.chain frame.chunk b.chunk left.front parts.0 in
    let here : begin c.flat c.certificate b.function b.operation ≡ begin c.flat c.certificate tb.function tb.next =
    ap (λ (k : ℕ). begin c.flat c.certificate k b.operation) flats.0.function ∙ ap (λ (k : ℕ). begin c.flat c.certificate tb.function k) flats.0.operation in
    let above = left.stack.1 in
    record {
      inside = record {
        form = left.form;
        pc = left.pc ∙ back.returns ∙ ap (λ (p : ℕ). p + 4 * words) here;
        sp_is = left.sp_is ∙ sym parts.1;
        tp_is = left.tp_is ∙ ap (payload_place_of left.next.areas.pool) (sym same);
        front = record { rest = left.front.rest; is = left.front.is ∙ ap (λ (k : ℕ). k ∷ left.front.rest) (sym same) };
        body = record {
          function = flats.0.function;
          operation = flats.0.operation;
          bytes = above.bytes ∙ ap (frame_bytes c) flats.0.function;
          returns = above.returns ∙ ap (λ (k : ℕ). return_word c left.next.areas.pool k b.chunk b.low) flats.0.function;
        };
        stack = parts.2;
        headers = left.headers;
      };
      shape = flats.0.shape;
      variables = flats.0.variables;
      flats = flats.1;
      globals = globals_are;
    }

-- ---- the result

-- the words of an operation behind its call: the result is stored, where one is wanted
pub record IsResultWord (c : Checked) (code : List ℕ) (f i w : ℕ) (op : Op) (to : Option ℕ) : Type 0 where
  pub none : to ≡ None → w ≡ size (function_at c.flat f).sizes (kind_of c.certificate op) op
  pub word : (d : ℕ) → to ≡ Some d → IsWholeWord c f w op
  pub last : (d : ℕ) → to ≡ Some d → w + 1 ≡ size (function_at c.flat f).sizes (kind_of c.certificate op) op
  pub fetch : (d : ℕ) → to ≡ Some d → instruction_at code (begin c.flat c.certificate f i + 4 * w) ≡ Ok (Instr.Sw 2 10 (pos (get_or (fact_at c.certificate f).places d 0)))
  pub one : (d : ℕ) → to ≡ Some d → IsOneWord c f d

-- the thread stands for the flat thread that goes on with the result, after one step or none
pub data GoesOn (c : Checked) (code : List ℕ) (l : Local) (t : FlatThread) : Type 0 where
  Now : Simulates c l t → GoesOn c code l t
  Soon : Reaches c code l t → GoesOn c code l t

pub result_comes : (c : Checked) (code : List ℕ) (l : Local) (t : FlatThread) (w : ℕ) (op : Op) (to : Option ℕ) (value : ℕ) (frame : Frame) (below : List Frame) → CodeFacts c code → IsOperationAt c code t.frame.function t.frame.next op → During c l t w frame below →
    IsResultWord c code t.frame.function t.frame.next w op to → ((d : ℕ) → to ≡ Some d → read l.core.x 10 ≡ value) → GoesOn c code l (record t { frame = with_result t.frame to value })
result_comes c code l t w op None value frame below facts there during words is =
    let pc = during.inside.pc in
    let next = there.next in
    let all = words.none refl in
    Now (Simulates-at c l t w (t.frame.next + 1) frame below during (omega (arith, pc, next, all)))
result_comes c code l t w op (Some d) value frame below facts there during words is =
    Soon (store_scalar c code l t w op frame below 10 d value facts there (words.word d refl) during (ap (instruction_at code) during.inside.pc ∙ words.fetch d refl) (words.one d refl) (is d refl) (words.last d refl))

-- good steps and then that
pub Reaches-goes_on : (c : Checked) (code : List ℕ) (n : ℕ) (l middle : Local) (t : FlatThread) → Leads c code (suc n) l middle → GoesOn c code middle t → Reaches c code l t
Reaches-goes_on c code n l middle t leads (Now stands) = record { steps = n; after = middle; leads = leads; simulates = stands }
Reaches-goes_on c code n l middle t leads (Soon reaches) = Reaches-after c code (suc n) l middle t leads reaches
