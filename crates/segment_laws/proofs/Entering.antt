-- A function is entered: its prologue makes room for its frame, saves the return address and the arguments.
use Rattle.segment_laws.proofs.Common.{◌≡◌, ℕ, zero, suc, ◌+◌, ◌-◌, ◌*◌, ◌/◌, ◌%◌, ◌^◌, ◌<◌, ◌≤◌, Bool, true, false, List, [], ◌∷◌, ◌++◌, length, map, replicate, get_or, pos, ◌-ℤ◌, Option, Some, None, Ok, refl, sym, ap, subst, ◌∙◌, arith, lit<, ⊎_elim, nat_eq, slice_get, unsigned_abs, cases_eq, length-append, length-map, length-replicate, ints, int_rem_euclid_is, word_of, add, Goes, Pool, place_of, end_of, payload_place_of, words_of, place_of-bounded, word_of-with_word_same, Instr, accessed, effect, read, sets, instruction_at, Op, function_at, operation_at, FlatFrame, pushed, FunctionFact, fact_at, store, saves, prologue, begin, Areas, AreGlobals, Frame, frame_bytes, return_word, IsFrame, ReturnsInto, IsStack, low_below, HeadersName, sp, tp, Local, machine_of, local_move, local_step, Checked, InPrologue, Empty, Fresh, Whole, variable_word, AreFlatFrames, HasForm, read-write_same}
use Rattle.cap_word.specs.Word as word
pub use Rattle.segment_laws.specs.Calls.{EntryFacts}
use Rattle.segment_laws.proofs.Facts.{CodeFacts}
use Rattle.segment_laws.proofs.FrameWords.{InFrame, stack_frame}
use Rattle.segment_laws.proofs.Registers.{read-write_other, add-small, step-is, with_register, move-sets}
use Rattle.segment_laws.proofs.Stacks.{IsFront, word_of-other, AreFlatFrames-with_word}
use Rattle.segment_laws.proofs.Simulation.{Simulates, Reaches}
use Rattle.segment_laws.proofs.Standing.{Standing, Stepped, stepped, InFrame-standing, pool_with, stored_at, store_standing}
use Rattle.segment_laws.proofs.Variables.{offset_of, variable_word-same, variable_word-other}
use Rattle.segment_laws.proofs.Ways.{Leads, Leads-none, Leads-then}
use Rattle.segment_laws.proofs.Words.{word_number}

-- ---- sp goes down

add_down : (a n : ℕ) → n ≤ a → a < 2 ^ 32 → word.add a (word_of (pos 0 -ℤ pos n)) ≡ a - n
unfolding word_of word.add
add_down a n le below =
    let is : unsigned_abs (Rattle.std.specs.Int.int_rem_euclid (pos 0 -ℤ pos n) (pos (2 ^ 32))) ≡ (0 + (2 ^ 32 - n)) % 2 ^ 32 =
    ap unsigned_abs (int_rem_euclid_is (pos 0 -ℤ pos n) (pos (2 ^ 32)) (2 ^ 32) 1 (0 + (2 ^ 32 - n)) (lit< tt) refl (omega (arith, ints))) in
    ap (λ (k : ℕ). (a + k) % 2 ^ 32) is ∙ (let sum : (a + (0 + (2 ^ 32 - n)) % 2 ^ 32) % 2 ^ 32 ≡ a - n = omega arith in sum)

-- the frame after its bytes were taken from sp
abbrev pub grown : Frame → ℕ → Frame
grown frame n = record frame { low = frame.low - n; bytes = n }

returns_into : (c : Checked) (frame b : Frame) (n : ℕ) (op : Option Op) → ReturnsInto c frame b op → ReturnsInto c (grown frame n) b op
returns_into c frame b n None into = into
returns_into c frame b n (Some op) into = into

frame_grown : (c : Checked) (pool : Pool) (frame : Frame) (n : ℕ) → frame.bytes ≡ 0 → n ≤ (fact_at c.certificate frame.function).bound → IsFrame c pool frame → IsFrame c pool (grown frame n)
frame_grown c pool frame n none le is =
    let bound = is.bound in
    let highest = is.highest in
    let sum : frame.low - n + n ≡ frame.low + frame.bytes = omega (arith, bound, none) in
    record {
      function = is.function;
      chunk = is.chunk;
      lowest = omega (arith, bound, none);
      highest = omega (arith, highest, sum);
      bound = omega (arith, bound, sum);
      first = is.first ∙ ap (λ (k : ℕ). nat_eq k (end_of pool frame.chunk)) (sym sum);
    }

low_grown : (pool : Pool) (first : Bool) (frame : Frame) (n : ℕ) → frame.bytes ≡ 0 → n ≤ frame.low → low_below pool first frame ≡ low_below pool first (grown frame n)
low_grown pool true frame n none le = refl
low_grown pool false frame n none le = omega arith

stack_grown : (c : Checked) (pool : Pool) (chain : List ℕ) (frame : Frame) (below : List Frame) (n : ℕ) → frame.bytes ≡ 0 → n ≤ (fact_at c.certificate frame.function).bound → IsStack c pool chain frame below → IsStack c pool chain (grown frame n) below
stack_grown c pool chain frame [] n none le stack = (frame_grown c pool frame n none le stack.0, stack.1, stack.2, stack.3)
stack_grown c pool chain frame (b ∷ bs) n none le stack =
    let bound = stack.0.bound in (
      frame_grown c pool frame n none le stack.0,
      record {
        chunk = stack.1.chunk;
        low = stack.1.low ∙ low_grown pool frame.is_first frame n none (omega (arith, bound, none));
        bytes = stack.1.bytes;
        returns = stack.1.returns;
        called = returns_into c frame b n (operation_at c.flat b.function b.operation) stack.1.called;
      },
      stack.2,
    )

-- the arguments are in the argument registers
abbrev pub ArgumentsIn : List ℕ → List ℕ → Type 0
ArgumentsIn arguments x = (k : ℕ) → k < length arguments → read x (10 + k) ≡ get_or arguments k 0

-- addi sp, sp, -frame
pub record Made (c : Checked) (code : List ℕ) (l : Local) (frame : Frame) (below : List Frame) (arguments : List ℕ) : Type 0 where
  pub next : Local
  pub step : Stepped c code l next
  pub standing : Standing c next (InPrologue frame.function 1) Fresh (grown frame (frame_bytes c frame.function)) below
  pub arguments_in : ArgumentsIn arguments next.core.x
  pub areas : next.areas ≡ l.areas

frame_made : (c : Checked) (code : List ℕ) (l : Local) (frame : Frame) (below : List Frame) (arguments : List ℕ) → CodeFacts c code → EntryFacts c frame.function → Standing c l (InPrologue frame.function 0) Empty frame below → ArgumentsIn arguments l.core.x →
    Made c code l frame below arguments
unfolding effect accessed
frame_made c code l frame below arguments facts entry is held =
    let f = frame.function in
    let n = frame_bytes c f in
    let there : f < length c.flat.functions = is.at.0 in
    let frame_is = stack_frame c l.areas.pool l.core.chain frame below is.stack in
    let none : frame.bytes ≡ 0 = is.holds.0 in
    let frame_bound = frame_is.bound in
    let entry_bound = entry.bound in
    let fits : n ≤ frame.low = omega (arith, frame_bound, entry_bound, none) in
    let bounded : end_of l.areas.pool frame.chunk ≤ 0x8400_0000 = place_of-bounded l.areas.pool frame.chunk is.form.areas.pool frame_is.chunk in
    let highest : frame.low + frame.bytes ≤ end_of l.areas.pool frame.chunk = frame_is.highest in
    let pc = is.at.2 in
    let room = entry.room in
    let value : word.add (read l.core.x 2) (word_of (pos 0 -ℤ pos n)) ≡ frame.low - n =
    ap (λ (a : ℕ). word.add a (word_of (pos 0 -ℤ pos n))) is.sp_is ∙ add_down frame.low n fits (omega (arith, highest, bounded)) in
    let next : Local = with_register l 2 (frame.low - n) in
    let fetch : instruction_at code l.core.pc ≡ Ok (Instr.Addi 2 2 (pos 0 -ℤ pos n)) = ap (instruction_at code) pc ∙ facts.prologue_fetch f 0 (Instr.Addi 2 2 (pos 0 -ℤ pos n)) there refl in
    let step : local_step code l ≡ Goes next =
    step-is code l (Instr.Addi 2 2 (pos 0 -ℤ pos n)) fetch ∙ ap (λ (v : ℕ). local_move l (sets (machine_of l) 2 v)) value ∙ move-sets l 2 (frame.low - n) in
    let one = stepped c code l next (InPrologue f 0) Empty frame below (Instr.Addi 2 2 (pos 0 -ℤ pos n)) is fetch tt step in
    let wide : 2 < length l.core.x = omega (arith, is.form.core.count) in
    let small : l.core.pc + 4 < 2 ^ 32 = omega (arith, pc, room) in
    record {
      next = next;
      step = one;
      standing = record {
        form = one.form;
        at = (there, omega arith, add-small l.core.pc 4 small ∙ (let e : l.core.pc + 4 ≡ (fact_at c.certificate f).entry + 4 * 1 = omega (arith, pc) in e));
        row_is = refl;
        sp_is = read-write_same l.core.x 2 (frame.low - n) (lit< tt) wide;
        tp_is = read-write_other l.core.x 2 (frame.low - n) 4 (λ e. omega arith) ∙ is.tp_is;
        front = record { rest = is.front.rest; is = is.front.is };
        function = refl;
        operation = is.operation;
        holds = (refl, is.holds.1 ∙ sym (read-write_other l.core.x 2 (frame.low - n) 1 (λ e. omega arith)));
        stack = stack_grown c l.areas.pool l.core.chain frame below n none entry_bound is.stack;
        headers = is.headers;
      };
      arguments_in = λ k lt. read-write_other l.core.x 2 (frame.low - n) (10 + k) (λ e. omega arith) ∙ held k lt;
      areas = refl;
    }

-- ---- words of the frame are saved

saves_at : (fact : FunctionFact) (n r k j : ℕ) → j < n → slice_get (saves fact r k n) j ≡ Some (store fact (r + j) (k + j))
saves_at fact zero r k j lt = absurd (omega arith)
saves_at fact (suc n) r k zero lt = let e : r ≡ r + 0 = omega arith in let e' : k ≡ k + 0 = omega arith in ap (λ (a : ℕ). Some (store fact a k)) e ∙ ap (λ (b : ℕ). Some (store fact (r + 0) b)) e'
saves_at fact (suc n) r k (suc j) lt =
    let e : r + 1 + j ≡ r + suc j = omega arith in
    let e' : k + 1 + j ≡ k + suc j = omega arith in
    saves_at fact n (r + 1) (k + 1) j (omega arith) ∙ ap (λ (a : ℕ). Some (store fact a (k + 1 + j))) e ∙ ap (λ (b : ℕ). Some (store fact (r + suc j) b)) e'

-- the thread before parameter k is saved, with the flat frames that stand below it
pub record Saving (c : Checked) (l : Local) (k : ℕ) (arguments : List ℕ) (frame : Frame) (below : List Frame) (flats : List FlatFrame) (globals : List (List ℕ)) : Type 0 where
  pub form : HasForm c l
  pub there : frame.function < length c.flat.functions
  pub pc : l.core.pc ≡ (fact_at c.certificate frame.function).entry + 4 * (2 + k)
  pub sp_is : read l.core.x sp ≡ frame.low
  pub tp_is : read l.core.x tp ≡ payload_place_of l.areas.pool frame.chunk
  pub front : IsFront l.core.chain frame.chunk
  pub operation : frame.operation ≡ 0
  pub bytes : frame.bytes ≡ frame_bytes c frame.function
  pub returns : frame.returns ≡ return_word c l.areas.pool frame.function frame.chunk frame.low
  pub stack : IsStack c l.areas.pool l.core.chain frame below
  pub headers : HeadersName l.areas.pool l.core.chain
  pub arguments_in : ArgumentsIn arguments l.core.x
  pub saved : (x : ℕ) → x < k → variable_word c l.areas.pool frame x 0 ≡ get_or arguments x 0
  pub flats_are : AreFlatFrames c l.areas.pool below flats
  pub globals_are : AreGlobals c.flat globals l.areas.globals

number_small : (l : Local) (frame : Frame) (offset : ℕ) → InFrame l frame offset → word_number l.areas.pool frame.chunk (frame.low + offset) < words_of l.areas.pool frame.chunk
number_small l frame offset is =
    let high : frame.low + offset + 4 ≤ end_of l.areas.pool frame.chunk = is.payload.high in
    let low = is.low_in in
    omega (arith, high, low)

-- sw ra, ra(sp)
ra_saved : (c : Checked) (code : List ℕ) (l : Local) (frame : Frame) (below : List Frame) (arguments : List ℕ) (flats : List FlatFrame) (globals : List (List ℕ)) → CodeFacts c code → EntryFacts c frame.function → Standing c l (InPrologue frame.function 1) Fresh frame below →
    ArgumentsIn arguments l.core.x → AreFlatFrames c l.areas.pool below flats → AreGlobals c.flat globals l.areas.globals →
    Leads c code 1 l (stored_at l frame (fact_at c.certificate frame.function).ra frame.returns) × Saving c (stored_at l frame (fact_at c.certificate frame.function).ra frame.returns) 0 arguments frame below flats globals
ra_saved c code l frame below arguments flats globals facts entry is held flats_are globals_are =
    let f = frame.function in
    let there : f < length c.flat.functions = is.at.0 in
    let fact = facts.frame f there in
    let offset = (fact_at c.certificate f).ra in
    let in_frame = InFrame-standing c code l (InPrologue f 1) Fresh frame below offset facts is is.holds.0 there fact.ra_aligned fact.ra_inside in
    let fetch : instruction_at code l.core.pc ≡ Ok (Instr.Sw 2 1 (pos offset)) = ap (instruction_at code) is.at.2 ∙ facts.prologue_fetch f 1 (Instr.Sw 2 1 (pos offset)) there refl in
    let st = store_standing c code l (InPrologue f 1) Fresh frame below 1 offset frame.returns facts is in_frame fetch (sym is.holds.1) in
    let pc = is.at.2 in
    let room = entry.room in
    let small : l.core.pc + 4 < 2 ^ 32 = omega (arith, pc, room) in (
      st.step.leads,
      record {
        form = st.step.form;
        there = there;
        pc = add-small l.core.pc 4 small ∙ (let e : l.core.pc + 4 ≡ (fact_at c.certificate f).entry + 4 * (2 + 0) = omega (arith, pc) in e);
        sp_is = is.sp_is;
        tp_is = is.tp_is;
        front = is.front;
        operation = is.operation;
        bytes = is.holds.0;
        returns = sym (word_of-with_word_same l.areas.pool frame.chunk (word_number l.areas.pool frame.chunk (frame.low + offset)) frame.returns is.form.areas.pool in_frame.payload.chunk_below (number_small l frame offset in_frame));
        stack = st.stack;
        headers = st.headers;
        arguments_in = held;
        saved = λ x lt. absurd (omega arith);
        flats_are = AreFlatFrames-with_word c l.areas.pool below flats frame.chunk (word_number l.areas.pool frame.chunk (frame.low + offset)) frame.returns (frame.low + frame.bytes) in_frame.ends st.away flats_are;
        globals_are = globals_are;
      },
    )

standing_of : (c : Checked) (l : Local) (k : ℕ) (arguments : List ℕ) (frame : Frame) (below : List Frame) (flats : List FlatFrame) (globals : List (List ℕ)) → k < (function_at c.flat frame.function).params → Saving c l k arguments frame below flats globals →
    Standing c l (InPrologue frame.function (suc (suc k))) Whole frame below
standing_of c l k arguments frame below flats globals lt is =
    let pc = is.pc in
    record {
      form = is.form;
      at = (is.there, omega arith, (let e : l.core.pc ≡ (fact_at c.certificate frame.function).entry + 4 * suc (suc k) = omega (arith, pc) in e));
      row_is = refl;
      sp_is = is.sp_is;
      tp_is = is.tp_is;
      front = is.front;
      function = refl;
      operation = is.operation;
      holds = (is.bytes, is.returns);
      stack = is.stack;
      headers = is.headers;
    }

-- sw a, [k]
save_one : (c : Checked) (code : List ℕ) (l : Local) (k : ℕ) (arguments : List ℕ) (frame : Frame) (below : List Frame) (flats : List FlatFrame) (globals : List (List ℕ)) → CodeFacts c code → EntryFacts c frame.function → length arguments ≡ (function_at c.flat frame.function).params →
    k < (function_at c.flat frame.function).params → Saving c l k arguments frame below flats globals →
    Leads c code 1 l (stored_at l frame (offset_of c frame k 0) (get_or arguments k 0)) × Saving c (stored_at l frame (offset_of c frame k 0) (get_or arguments k 0)) (suc k) arguments frame below flats globals
save_one c code l k arguments frame below flats globals facts entry many lt is =
    let f = frame.function in
    let there = is.there in
    let fact = facts.frame f there in
    let param = entry.parameter k lt in
    let offset = offset_of c frame k 0 in
    let value = get_or arguments k 0 in
    let standing = standing_of c l k arguments frame below flats globals lt is in
    let aligned = fact.place_aligned k param.0 in
    let inside = fact.place_inside k param.0 in
    let one = param.1 in
    let in_frame = InFrame-standing c code l (InPrologue f (suc (suc k))) Whole frame below offset facts standing is.bytes there (omega (arith, aligned)) (omega (arith, inside, one)) in
    let from_zero : 0 + k ≡ k = omega arith in
    let no_more : get_or (fact_at c.certificate f).places k 0 ≡ offset = omega arith in
    let instr : slice_get (prologue (fact_at c.certificate f) (function_at c.flat f).params) (suc (suc k)) ≡ Some (Instr.Sw 2 (10 + k) (pos offset)) =
    saves_at (fact_at c.certificate f) (function_at c.flat f).params 10 0 k lt
    ∙ ap (λ (x : ℕ). Some (store (fact_at c.certificate f) (10 + k) x)) from_zero ∙ ap (λ (n : ℕ). Some (Instr.Sw 2 (10 + k) (pos n))) no_more in
    let fetch : instruction_at code l.core.pc ≡ Ok (Instr.Sw 2 (10 + k) (pos offset)) = ap (instruction_at code) standing.at.2 ∙ facts.prologue_fetch f (suc (suc k)) (Instr.Sw 2 (10 + k) (pos offset)) there instr in
    let st = store_standing c code l (InPrologue f (suc (suc k))) Whole frame below (10 + k) offset value facts standing in_frame fetch (is.arguments_in k (omega arith)) in
    let pc = is.pc in
    let room = entry.room in
    let small : l.core.pc + 4 < 2 ^ 32 = omega (arith, pc, room, lt) in
    let w = word_number l.areas.pool frame.chunk (frame.low + offset) in
    let ra_aligned = fact.ra_aligned in
    let low_aligned = in_frame.low_aligned in
    let place_aligned = in_frame.place_aligned in
    let low_in = in_frame.low_in in (
      st.step.leads,
      record {
        form = st.step.form;
        there = there;
        pc = add-small l.core.pc 4 small ∙ (let e : l.core.pc + 4 ≡ (fact_at c.certificate f).entry + 4 * (2 + suc k) = omega (arith, pc) in e);
        sp_is = is.sp_is;
        tp_is = is.tp_is;
        front = is.front;
        operation = is.operation;
        bytes = is.bytes;
        returns = is.returns ∙ sym (word_of-other l.areas.pool frame.chunk w value frame.chunk ((frame.low + (fact_at c.certificate f).ra - place_of l.areas.pool frame.chunk) / 4)
            (λ same equal. fact.ra_apart k 0 param.0 (omega arith) (let e : get_or (fact_at c.certificate f).places k 0 + 4 * 0 ≡ (fact_at c.certificate f).ra = omega (arith, equal, ra_aligned, aligned, low_aligned, place_aligned, low_in) in e)));
        stack = st.stack;
        headers = st.headers;
        arguments_in = is.arguments_in;
        saved = λ x small'. ⊎_elim
            (λ (e : x ≡ k). ap (λ (y : ℕ). variable_word c (pool_with l frame offset value) frame y 0) e ∙ variable_word-same c l frame k 0 value is.form.areas.pool in_frame ∙ ap (λ (y : ℕ). get_or arguments y 0) (sym e))
            (λ (ne : x ≡ k → ⊥).
            let before : x < k = omega arith in
            let other = entry.parameter x (omega arith) in
            variable_word-other c l frame k 0 value x 0 fact in_frame (param.0, omega (arith, param.1)) (other.0, omega (arith, other.1)) (λ e _. ne e) ∙ is.saved x before)
            (cases_eq x k);
        flats_are = AreFlatFrames-with_word c l.areas.pool below flats frame.chunk w value (frame.low + frame.bytes) in_frame.ends st.away is.flats_are;
        globals_are = is.globals_are;
      },
    )

-- all parameters that are left
save_all : (c : Checked) (code : List ℕ) (n : ℕ) (l : Local) (k : ℕ) (arguments : List ℕ) (frame : Frame) (below : List Frame) (flats : List FlatFrame) (globals : List (List ℕ)) → CodeFacts c code → EntryFacts c frame.function → length arguments ≡ (function_at c.flat frame.function).params →
    n + k ≡ (function_at c.flat frame.function).params → Saving c l k arguments frame below flats globals →
    (after : Local) × Leads c code n l after × Saving c after (function_at c.flat frame.function).params arguments frame below flats globals
save_all c code zero l k arguments frame below flats globals facts entry many sum is =
    let e : k ≡ (function_at c.flat frame.function).params = omega arith in
    (l, Leads-none c code l, subst (λ (m : ℕ). Saving c l m arguments frame below flats globals) e is)
save_all c code (suc n) l k arguments frame below flats globals facts entry many sum is =
    let one = save_one c code l k arguments frame below flats globals facts entry many (omega arith) is in
    let rest = save_all c code n (stored_at l frame (offset_of c frame k 0) (get_or arguments k 0)) (suc k) arguments frame below flats globals facts entry many (omega arith) one.1 in
    let e : 1 + n ≡ suc n = omega arith in
    (rest.0, subst (λ (m : ℕ). Leads c code m l rest.0) e (Leads-then c code 1 n l (stored_at l frame (offset_of c frame k 0) (get_or arguments k 0)) rest.0 one.0 rest.1), rest.2)

-- ---- the flat frame that is pushed

pushed_variable : (arguments : List ℕ) (n x : ℕ) (row : List ℕ) → get_or (map (λ v. Some (v ∷ [])) arguments ++ replicate n None) x None ≡ Some row → (x < length arguments) × (row ≡ get_or arguments x 0 ∷ [])
pushed_variable [] n x row e = absurd (let none = no_variable n x in let both : None ≡ Some row = sym none ∙ e in cc)
  where
    no_variable : (n x : ℕ) → get_or (replicate {A = Option (List ℕ)} n None) x None ≡ None
    no_variable zero x = refl
    no_variable (suc n) zero = refl
    no_variable (suc n) (suc x) = no_variable n x
pushed_variable (v ∷ arguments) n zero row e = (omega arith, (let same : v ∷ [] ≡ row = cc in sym same))
pushed_variable (v ∷ arguments) n (suc x) row e = let h = pushed_variable arguments n x row e in (omega (arith, h.0), h.1)

parameters_fit : (c : Checked) (f n : ℕ) → ((x : ℕ) → x < n → x < length (function_at c.flat f).sizes) → n ≤ length (function_at c.flat f).sizes
parameters_fit c f zero h = omega arith
parameters_fit c f (suc n) h = h n (omega arith)

words_first : (c : Checked) (f : ℕ) → begin c.flat c.certificate f 0 + 4 * 0 ≡ (fact_at c.certificate f).entry + 4 * (2 + (function_at c.flat f).params)
words_first c f = omega arith

-- the thread stands for the pushed frame
pub simulates_pushed : (c : Checked) (l : Local) (arguments : List ℕ) (frame : Frame) (below : List Frame) (flats : List FlatFrame) (globals : List (List ℕ)) → EntryFacts c frame.function → length arguments ≡ (function_at c.flat frame.function).params →
    Saving c l (function_at c.flat frame.function).params arguments frame below flats globals →
    Simulates c l (record { frame = pushed c.flat frame.function arguments; below = flats; globals = globals })
simulates_pushed c l arguments frame below flats globals entry many is =
    let f = frame.function in
    let n = length (function_at c.flat f).sizes - length arguments in
    let fits : length arguments ≤ length (function_at c.flat f).sizes = omega (arith, parameters_fit c f (function_at c.flat f).params (λ x lt. (entry.parameter x lt).0), many) in
    record {
      frame = frame;
      below = below;
      during = record {
        inside = record {
          form = is.form;
          pc = is.pc ∙ sym (words_first c f);
          sp_is = is.sp_is;
          tp_is = is.tp_is;
          front = is.front;
          body = record { function = refl; operation = is.operation; bytes = is.bytes; returns = is.returns };
          stack = is.stack;
          headers = is.headers;
        };
        shape = record {
          count = length-append (map (λ v. Some (v ∷ [])) arguments) (replicate n None) ∙ omega (arith, length-map arguments (λ v. Some (v ∷ [])), length-replicate {A = Option (List ℕ)} n None, fits);
          words = λ x row e. let h = pushed_variable arguments n x row e in ap length h.1 ∙ sym (entry.parameter x (omega (arith, h.0, many))).1;
        };
        variables = λ x words e k lt.
            let h = pushed_variable arguments n x words e in
            let one : length words ≡ 1 = ap length h.1 in
            let none : k ≡ 0 = omega (arith, one, lt) in
            ap (λ (j : ℕ). variable_word c l.areas.pool frame x j) none ∙ is.saved x (omega (arith, h.0, many)) ∙ ap (λ (ws : List ℕ). get_or ws 0 0) (sym h.1) ∙ ap (λ (j : ℕ). get_or words j 0) (sym none);
        flats = is.flats_are;
        globals = is.globals_are;
      };
    }

-- a thread at a function's first word, with its arguments in their registers, comes to stand for the flat thread that entered it
pub record Entered (c : Checked) (l : Local) (frame : Frame) (below : List Frame) (arguments : List ℕ) (flats : List FlatFrame) (globals : List (List ℕ)) : Type 0 where
  pub standing : Standing c l (InPrologue frame.function 0) Empty frame below
  pub count : length arguments ≡ (function_at c.flat frame.function).params
  pub arguments_in : ArgumentsIn arguments l.core.x
  pub flats_are : AreFlatFrames c l.areas.pool below flats
  pub globals_are : AreGlobals c.flat globals l.areas.globals

pub enters : (c : Checked) (code : List ℕ) (l : Local) (frame : Frame) (below : List Frame) (arguments : List ℕ) (flats : List FlatFrame) (globals : List (List ℕ)) → CodeFacts c code → EntryFacts c frame.function → Entered c l frame below arguments flats globals →
    Reaches c code l (record { frame = pushed c.flat frame.function arguments; below = flats; globals = globals })
enters c code l frame below arguments flats globals facts entry is =
    let f = frame.function in
    let made = frame_made c code l frame below arguments facts entry is.standing is.arguments_in in
    let wide = grown frame (frame_bytes c f) in
    let saved = ra_saved c code made.next wide below arguments flats globals facts entry made.standing made.arguments_in
    (subst (λ (a : Areas). AreFlatFrames c a.pool below flats) (sym made.areas) is.flats_are) (subst (λ (a : Areas). AreGlobals c.flat globals a.globals) (sym made.areas) is.globals_are) in
    let params = (function_at c.flat f).params in
    let one = stored_at made.next wide (fact_at c.certificate f).ra frame.returns in
    let all = save_all c code params one 0 arguments wide below flats globals facts entry is.count (omega arith) saved.1 in
    let e : 1 + (1 + params) ≡ suc (suc params) = omega arith in
    record {
      steps = suc params;
      after = all.0;
      leads = subst (λ (m : ℕ). Leads c code m l all.0) e
          (Leads-then c code 1 (1 + params) l made.next all.0 made.step.leads (Leads-then c code 1 params made.next one all.0 saved.0 all.1));
      simulates = simulates_pushed c all.0 arguments wide below flats globals entry is.count all.2;
    }
