-- A call at a plain site: its arguments are loaded, and the call instruction leads to the function's first word.
use Rattle.segment_laws.proofs.Common.{◌≡◌, ℕ, zero, suc, ◌+◌, ◌-◌, ◌*◌, ◌%◌, ◌^◌, ◌<◌, ◌≤◌, Bool, false, cond, List, [], ◌∷◌, ◌++◌, length, get_or, ℤ, pos, ◌-ℤ◌, Some, None, Ok, refl, sym, ap, subst, ◌∙◌, arith, lit<, nat_eq, slice_get, unsigned_abs, ◌||◌, ne_eqb, eq-eqb, ints, int_rem_euclid_is, word_of, Goes, Misaligned, end_of, payload_place_of, Instr, accessed, Nothing, effect, read, write, instruction_at, Op, function_at, operation_at, FlatThread, pushed, scalar, scalars, FunctionFact, LinkKind, fact_at, load, arguments, begin, Frame, frame_bytes, return_word, Calls, ReturnsInto, words_through_call, IsGoodAccess, Local, machine_of, local_move, local_step, Checked, InPrologue, Empty, Whole, Linking, transfer_row, read-write_same}
use Rattle.cap_word.specs.Word as word
use Rattle.rv_machine.specs.Rows as rows
use Rattle.rv_machine.specs.Rows.{jumps}
use Rattle.segment_laws.proofs.Entering.{ArgumentsIn, EntryFacts, Entered, enters}
use Rattle.segment_laws.proofs.Facts.{CodeFacts, IsOperationAt}
use Rattle.segment_laws.proofs.FrameWords.{stack_frame}
use Rattle.segment_laws.proofs.Inside.{IsWholeWord, IsGoodState-inside}
use Rattle.segment_laws.proofs.Finish.{Reaches-after}
use Rattle.segment_laws.proofs.Registers.{read-write_other, add-small, step-is}
use Rattle.segment_laws.proofs.Simulation.{During, Reaches, IsOneWord, load_scalar}
use Rattle.segment_laws.proofs.Standing.{Standing}
use Rattle.segment_laws.proofs.Ways.{Leads, Leads-none, Leads-one, Leads-then, HasForm-next}
use Rattle.segment_laws.proofs.Arguments.{both_values}

-- ---- parts of lists

pub get_front : {A : Type 0} (a b : List A) (j : ℕ) (x : A) → slice_get a j ≡ Some x → slice_get (a ++ b) j ≡ Some x
get_front [] b j x e = absurd cc
get_front (y ∷ a) b zero x e = e
get_front (y ∷ a) b (suc j) x e = get_front a b j x e

pub get_behind : {A : Type 0} (a b : List A) (n j : ℕ) → n ≡ length a + j → slice_get (a ++ b) n ≡ slice_get b j
get_behind [] b n j e = let same : n ≡ j = omega arith in ap (λ (k : ℕ). slice_get b k) same
get_behind (y ∷ a) b zero j e = absurd (omega arith)
get_behind (y ∷ a) b (suc n) j e = get_behind a b n j (omega arith)

pub arguments_at : (fact : FunctionFact) (r : ℕ) (xs : List ℕ) (j : ℕ) → j < length xs → slice_get (arguments fact r xs) j ≡ Some (load fact (r + j) (get_or xs j 0))
arguments_at fact r [] j lt = absurd (omega arith)
arguments_at fact r (x ∷ xs) zero lt = let e : r ≡ r + 0 = omega arith in ap (λ (k : ℕ). Some (load fact k x)) e
arguments_at fact r (x ∷ xs) (suc j) lt = let e : r + 1 + j ≡ r + suc j = omega arith in arguments_at fact (r + 1) xs j (omega arith) ∙ ap (λ (k : ℕ). Some (load fact k (get_or xs j 0))) e

-- ---- the values of arguments

pub value_at : (t : FlatThread) (xs values : List ℕ) (j : ℕ) → scalars t xs ≡ Some values → j < length xs → scalar t (get_or xs j 0) ≡ Some (get_or values j 0)
value_at t [] values j e lt = absurd (omega arith)
value_at t (x ∷ xs) values zero e lt = let b = both_values (scalar t x) (scalars t xs) values e in b.2 ∙ ap (λ (vs : List ℕ). Some (get_or vs 0 0)) (sym b.4)
value_at t (x ∷ xs) values (suc j) e lt = let b = both_values (scalar t x) (scalars t xs) values e in value_at t xs b.1 j b.3 (omega arith) ∙ ap (λ (vs : List ℕ). Some (get_or vs (suc j) 0)) (sym b.4)

-- ---- rows

-- the words before the second call instruction of a linked transfer are words of the caller's frame
pub row_before : (kind : LinkKind) (n w : ℕ) → w < n + 8 → transfer_row kind w (Some n) ≡ Whole
row_before (LinkKind.Linked need) n w lt =
    let a : nat_eq w (n + 8) ≡ false = ne_eqb w (n + 8) (λ e. omega arith) in
    let b : nat_eq w (n + 9) ≡ false = ne_eqb w (n + 9) (λ e. omega arith) in
    let d : nat_eq w (n + 10) ≡ false = ne_eqb w (n + 10) (λ e. omega arith) in
    ap (λ (x : Bool). cond (x || nat_eq w (n + 9) || nat_eq w (n + 10)) Linking Whole) a
    ∙ ap (λ (x : Bool). cond (x || nat_eq w (n + 10)) Linking Whole) b ∙ ap (λ (x : Bool). cond x Linking Whole) d
row_before _ n w lt = refl

-- ---- arguments

-- what the loads of arguments need of an operation: its first words are those loads, and the frame is whole there
pub record LoadsArguments (c : Checked) (code : List ℕ) (f i : ℕ) (op : Op) (xs : List ℕ) : Type 0 where
  pub fetch : (j : ℕ) → j < length xs → instruction_at code (begin c.flat c.certificate f i + 4 * j) ≡ Ok (load (fact_at c.certificate f) (10 + j) (get_or xs j 0))
  pub word : (j : ℕ) → j < length xs → IsWholeWord c f j op
  pub one : (j : ℕ) → j < length xs → IsOneWord c f (get_or xs j 0)
  pub few : length xs ≤ 6

-- the first k arguments are loaded
pub record Loaded (c : Checked) (code : List ℕ) (l : Local) (t : FlatThread) (k : ℕ) (values : List ℕ) (frame : Frame) (below : List Frame) : Type 0 where
  pub after : Local
  pub leads : Leads c code k l after
  pub during : During c after t k frame below
  pub held : (j : ℕ) → j < k → read after.core.x (10 + j) ≡ get_or values j 0

pub arguments_loaded : (c : Checked) (code : List ℕ) (l : Local) (t : FlatThread) (op : Op) (xs values : List ℕ) (k : ℕ) (frame : Frame) (below : List Frame) → CodeFacts c code → IsOperationAt c code t.frame.function t.frame.next op →
    LoadsArguments c code t.frame.function t.frame.next op xs → During c l t 0 frame below → scalars t xs ≡ Some values → k ≤ length xs → Loaded c code l t k values frame below
arguments_loaded c code l t op xs values zero frame below facts there loads during all le = record { after = l; leads = Leads-none c code l; during = during; held = λ j lt. absurd (omega arith) }
arguments_loaded c code l t op xs values (suc k) frame below facts there loads during all le =
    let r = arguments_loaded c code l t op xs values k frame below facts there loads during all (omega arith) in
    let few = loads.few in
    let set = load_scalar c code r.after t k op frame below (10 + k) (get_or xs k 0) (get_or values k 0) facts there (loads.word k (omega arith)) r.during
    (ap (instruction_at code) r.during.inside.pc ∙ loads.fetch k (omega arith)) (loads.one k (omega arith)) (value_at t xs values k all (omega arith))
    (record { some = omega arith; there = omega arith; not_sp = λ e. omega arith; not_tp = λ e. omega arith }) in
    let e : k + 1 ≡ suc k = omega arith in
    record {
      after = set.next;
      leads = subst (λ (n : ℕ). Leads c code n l set.next) e (Leads-then c code k 1 l r.after set.next r.leads set.leads);
      during = subst (λ (n : ℕ). During c set.next t n frame below) e set.during;
      held = λ j lt. Rattle.std.proofs.Common.⊎_elim
          (λ (same : j ≡ k). ap (λ (n : ℕ). read set.next.core.x (10 + n)) same ∙ set.value_is ∙ ap (λ (n : ℕ). get_or values n 0) (sym same))
          (λ (ne : j ≡ k → ⊥). set.others (10 + j) (λ e. ne (omega arith)) ∙ r.held j (omega arith))
          (Rattle.std.proofs.lemmas.Bool.cases_eq j k);
    }

-- ---- a call instruction

jump_to : (a p : ℕ) → a < 2 ^ 32 → p < 2 ^ 32 → word.add p (word_of (pos a -ℤ pos p)) ≡ a
unfolding word_of word.add
jump_to a p low below =
    let is : unsigned_abs (Rattle.std.specs.Int.int_rem_euclid (pos a -ℤ pos p) (pos (2 ^ 32))) ≡ (a + (2 ^ 32 - p)) % 2 ^ 32 =
    ap unsigned_abs (int_rem_euclid_is (pos a -ℤ pos p) (pos (2 ^ 32)) (2 ^ 32) 1 (a + (2 ^ 32 - p)) (lit< tt) refl (omega (arith, ints))) in
    ap (λ (k : ℕ). (p + k) % 2 ^ 32) is ∙ (let sum : (p + (a + (2 ^ 32 - p)) % 2 ^ 32) % 2 ^ 32 ≡ a = omega arith in sum)

-- the thread after a jump, which leaves the next place in a register
abbrev pub jumped : Local → ℕ → ℕ → Local
jumped l rd target = record { areas = l.areas; core = record { pc = target; x = write l.core.x rd (word.add l.core.pc 4); chain = l.core.chain } }

pub move-jumps : (l : Local) (rd target : ℕ) → target % 4 ≡ 0 → local_move l (jumps (machine_of l) rd target) ≡ Goes (jumped l rd target)
unfolding jumps
move-jumps l rd target aligned =
    ap (λ (b : Bool). local_move l (cond b (rows.Goes target (write l.core.x rd (word.add l.core.pc 4)) Nothing) (rows.Fails Misaligned))) (eq-eqb (target % 4) 0 aligned)

-- jal rd, from here to an address
pub step-jal : (code : List ℕ) (l : Local) (rd target : ℕ) → instruction_at code l.core.pc ≡ Ok (Instr.Jal rd (pos target -ℤ pos l.core.pc)) → target < 2 ^ 32 → l.core.pc < 2 ^ 32 → target % 4 ≡ 0 → local_step code l ≡ Goes (jumped l rd target)
unfolding effect
step-jal code l rd target fetch low below aligned =
    step-is code l (Instr.Jal rd (pos target -ℤ pos l.core.pc)) fetch ∙ ap (λ (a : ℕ). local_move l (jumps (machine_of l) rd a)) (jump_to target l.core.pc low below) ∙ move-jumps l rd target aligned

pub no_access-jal : (l : Local) (rd : ℕ) (imm : ℤ) → accessed (Instr.Jal rd imm) (machine_of l) ≡ None
unfolding accessed
no_access-jal l rd imm = refl

-- ---- a call instruction leads to a function's start

-- the frame of a function that was called, before it has made room: it lies at sp
abbrev pub called_frame : Local → Frame → ℕ → Frame
called_frame l frame g = record { function = g; operation = 0; chunk = frame.chunk; low = frame.low; bytes = 0; returns = word.add l.core.pc 4; is_first = false }

-- what is needed where an operation calls function g by the call instruction at its word w, in the caller's chunk
pub record CallsHere (c : Checked) (code : List ℕ) (l : Local) (t : FlatThread) (w g : ℕ) (op : Op) (frame : Frame) (values : List ℕ) : Type 0 where
  pub instr : Instr
  pub fetch : instruction_at code l.core.pc ≡ Ok instr
  pub quiet : accessed instr (machine_of l) ≡ None
  pub step : local_step code l ≡ Goes (jumped l 1 (fact_at c.certificate g).entry)
  pub word : IsWholeWord c t.frame.function w op
  pub there : g < length c.flat.functions
  pub calls : Calls c.flat op g
  pub through : words_through_call c false op ≡ Some (w + 1)
  pub room : payload_place_of l.areas.pool frame.chunk + (fact_at c.certificate g).bound ≤ frame.low
  pub count : length values ≡ (function_at c.flat g).params
  pub arguments_in : ArgumentsIn values l.core.x

pub call_enters : (c : Checked) (code : List ℕ) (l : Local) (t : FlatThread) (w g : ℕ) (op : Op) (frame : Frame) (below : List Frame) (values : List ℕ) → CodeFacts c code → EntryFacts c g → IsOperationAt c code t.frame.function t.frame.next op → During c l t w frame below →
    CallsHere c code l t w g op frame values → Reaches c code l (record { frame = pushed c.flat g values; below = t.frame ∷ t.below; globals = t.globals })
call_enters c code l t w g op frame below values facts entry there during h =
    let f = t.frame.function in
    let i = t.frame.next in
    let is = during.inside in
    let target = (fact_at c.certificate g).entry in
    let next : Local = jumped l 1 target in
    let back = word.add l.core.pc 4 in
    let frame' = called_frame l frame g in
    let frame_is = stack_frame c l.areas.pool l.core.chain frame below is.stack in
    let fact = facts.frame f there.function in
    let least : 16 ≤ frame.bytes = omega (arith, fact.least, is.body.bytes) in
    let highest = frame_is.highest in
    let pc = is.pc in
    let room = there.room in
    let small = h.word.small in
    let back_is : back ≡ begin c.flat c.certificate f i + 4 * (w + 1) = add-small l.core.pc 4 (omega (arith, pc, room, small)) ∙ (let e : l.core.pc + 4 ≡ begin c.flat c.certificate f i + 4 * (w + 1) = omega (arith, pc) in e) in
    let wide : 1 < length l.core.x = omega (arith, is.form.core.count) in
    let begins : begin c.flat c.certificate frame.function frame.operation ≡ begin c.flat c.certificate f i =
    ap (λ (k : ℕ). begin c.flat c.certificate k frame.operation) is.body.function ∙ ap (λ (k : ℕ). begin c.flat c.certificate f k) is.body.operation in
    let operation : operation_at c.flat frame.function frame.operation ≡ Some op =
    ap (λ (k : ℕ). operation_at c.flat k frame.operation) is.body.function ∙ ap (λ (k : ℕ). operation_at c.flat f k) is.body.operation ∙ there.there in
    let same_bytes : frame.bytes ≡ frame_bytes c frame.function = is.body.bytes ∙ ap (frame_bytes c) (sym is.body.function) in
    let same_returns : frame.returns ≡ return_word c l.areas.pool frame.function frame.chunk frame.low =
    is.body.returns ∙ ap (λ (k : ℕ). return_word c l.areas.pool k frame.chunk frame.low) (sym is.body.function) in
    let into : ReturnsInto c frame' frame (operation_at c.flat frame.function frame.operation) =
    subst (ReturnsInto c frame' frame) (sym operation) (h.calls, (w + 1, h.through, back_is ∙ ap (λ (k : ℕ). k + 4 * (w + 1)) (sym begins))) in
    let standing : Standing c next (InPrologue g 0) Empty frame' (frame ∷ below) = record {
      form = HasForm-next c code l next is.form h.step;
      at = (h.there, omega arith, (let e : target ≡ target + 4 * 0 = omega arith in e));
      row_is = refl;
      sp_is = read-write_other l.core.x 1 back 2 (λ e. omega arith) ∙ is.sp_is;
      tp_is = read-write_other l.core.x 1 back 4 (λ e. omega arith) ∙ is.tp_is;
      front = record { rest = is.front.rest; is = is.front.is };
      function = refl;
      operation = refl;
      holds = (refl, sym (read-write_same l.core.x 1 back (lit< tt) wide));
      stack = (
        record {
          function = h.there;
          chunk = frame_is.chunk;
          lowest = frame_is.lowest;
          highest = omega (arith, highest);
          bound = omega (arith, h.room);
          first = sym (ne_eqb (frame.low + 0) (end_of l.areas.pool frame.chunk) (λ e. omega (arith, highest, least, e)));
        },
        record {
          chunk = ap (λ (ch : List ℕ). slice_get ch 0) is.front.is;
          low = (let e : frame.low ≡ frame.low + 0 = omega arith in e);
          bytes = same_bytes;
          returns = same_returns;
          called = into;
        },
        is.stack,
      );
      headers = is.headers;
    } in
    let entered : Entered c next frame' (frame ∷ below) values (t.frame ∷ t.below) t.globals = record {
      standing = standing;
      count = h.count;
      arguments_in = λ k lt. read-write_other l.core.x 1 back (10 + k) (λ e. omega arith) ∙ h.arguments_in k lt;
      flats_are = (record { function = is.body.function; operation = is.body.operation; shape = during.shape; variables = during.variables }, during.flats);
      globals_are = during.globals;
    } in
    Reaches-after c code 1 l next (record { frame = pushed c.flat g values; below = t.frame ∷ t.below; globals = t.globals })
    (Leads-one c code l next (IsGoodState-inside c code l f i w op frame below h.instr there h.word is h.fetch (subst (IsGoodAccess c (frame ∷ below)) (sym h.quiet) tt)) h.step)
    (enters c code next frame' (frame ∷ below) values (t.frame ∷ t.below) t.globals facts entry entered)
