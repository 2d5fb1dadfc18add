-- Instructions that change pc alone: within an operation, and to another one.
use Rattle.segment_laws.proofs.Common.{◌≡◌, ℕ, zero, suc, ◌+◌, ◌-◌, ◌*◌, ◌%◌, ◌^◌, ◌<◌, List, [], ◌∷◌, length, ℤ, pos, ◌-ℤ◌, Bool, true, false, not, Some, None, refl, sym, ap, subst, ◌∙◌, arith, cond, slice_get, nat_eq, ◌==◌, eq-eqb, ne_eqb, word_of, Goes, Instr, Misaligned, accessed, Nothing, effect, read, Op, function_at, FlatThread, scalar, begin, Frame, IsGoodAccess, Local, machine_of, local_move, local_step, Checked}
use Rattle.cap_word.specs.Word as word
use Rattle.rv_machine.specs.Rows as rows
use Rattle.rv_machine.specs.Rows.{passes, branches, jumps, relative}
use Rattle.segment_laws.proofs.Facts.{CodeFacts, IsOperationAt}
use Rattle.segment_laws.proofs.Finish.{frame_at, flat_at, Reaches-after}
use Rattle.segment_laws.proofs.Immediate.{words_of, fetch_at, is_t0}
use Rattle.segment_laws.proofs.Inside.{IsWholeWord, IsGoodState-inside, pc_next}
use Rattle.segment_laws.proofs.Numbers.{word_of-difference}
use Rattle.segment_laws.proofs.Registers.{step-is, add-small, word_of-small}
use Rattle.segment_laws.proofs.Simulation.{During, Simulates, Reaches, load_scalar}
use Rattle.segment_laws.proofs.Stacks.{IsStack-operation}
use Rattle.segment_laws.proofs.Straight.{one_word}
use Rattle.segment_laws.proofs.Ways.{Leads, Leads-one, Leads-then, HasForm-next}

-- the thread at another place, with nothing else changed
abbrev pub goes_to : Local → ℕ → Local
goes_to l target = record { areas = l.areas; core = record { pc = target; x = l.core.x; chain = l.core.chain } }

-- one good step that goes there
pub Leads-goes : (c : Checked) (code : List ℕ) (l : Local) (t : FlatThread) (w : ℕ) (op : Op) (frame : Frame) (below : List Frame) (instr : Instr) (target : ℕ) → IsOperationAt c code t.frame.function t.frame.next op → IsWholeWord c t.frame.function w op → During c l t w frame below →
    slice_get (words_of c t.frame.function t.frame.next op) w ≡ Some instr → local_move l (effect instr (machine_of l)) ≡ Goes (goes_to l target) → accessed instr (machine_of l) ≡ None →
    (local_step code l ≡ Goes (goes_to l target)) × Leads c code 1 l (goes_to l target)
Leads-goes c code l t w op frame below instr target there whole during e does none =
    let fetch = fetch_at c code l t.frame.function t.frame.next w op frame below instr there during.inside e in
    let step : local_step code l ≡ Goes (goes_to l target) = step-is code l instr fetch ∙ does in (
      step,
      Leads-one c code l (goes_to l target)
          (IsGoodState-inside c code l t.frame.function t.frame.next w op frame below instr there whole during.inside fetch (subst (IsGoodAccess c (frame ∷ below)) (sym none) tt)) step,
    )

-- a step within the operation
pub record Moved (c : Checked) (code : List ℕ) (l : Local) (t : FlatThread) (w' : ℕ) (frame : Frame) (below : List Frame) : Type 0 where
  pub next : Local
  pub leads : Leads c code 1 l next
  pub during : During c next t w' frame below
  pub registers : (r : ℕ) → read next.core.x r ≡ read l.core.x r

pub moves_within : (c : Checked) (code : List ℕ) (l : Local) (t : FlatThread) (w w' : ℕ) (op : Op) (frame : Frame) (below : List Frame) (instr : Instr) (target : ℕ) → IsOperationAt c code t.frame.function t.frame.next op → IsWholeWord c t.frame.function w op → During c l t w frame below →
    slice_get (words_of c t.frame.function t.frame.next op) w ≡ Some instr → local_move l (effect instr (machine_of l)) ≡ Goes (goes_to l target) → accessed instr (machine_of l) ≡ None →
    target ≡ begin c.flat c.certificate t.frame.function t.frame.next + 4 * w' → Moved c code l t w' frame below
moves_within c code l t w w' op frame below instr target there whole during e does none there' =
    let both = Leads-goes c code l t w op frame below instr target there whole during e does none in
    record {
      next = goes_to l target;
      leads = both.1;
      during = record {
        inside = record {
          form = HasForm-next c code l (goes_to l target) during.inside.form both.0;
          pc = there';
          sp_is = during.inside.sp_is;
          tp_is = during.inside.tp_is;
          front = during.inside.front;
          body = during.inside.body;
          stack = during.inside.stack;
          headers = during.inside.headers;
        };
        shape = during.shape;
        variables = during.variables;
        flats = during.flats;
        globals = during.globals;
      };
      registers = λ r. refl;
    }

-- a step to the first word of an operation of the same function
pub jumps_to : (c : Checked) (code : List ℕ) (l : Local) (t : FlatThread) (w to : ℕ) (op : Op) (frame : Frame) (below : List Frame) (instr : Instr) (target : ℕ) → IsOperationAt c code t.frame.function t.frame.next op → IsWholeWord c t.frame.function w op → During c l t w frame below →
    slice_get (words_of c t.frame.function t.frame.next op) w ≡ Some instr → local_move l (effect instr (machine_of l)) ≡ Goes (goes_to l target) → accessed instr (machine_of l) ≡ None →
    target ≡ begin c.flat c.certificate t.frame.function to → Reaches c code l (flat_at t to)
jumps_to c code l t w to op frame below instr target there whole during e does none there' =
    let both = Leads-goes c code l t w op frame below instr target there whole during e does none in
    record {
      steps = 0;
      after = goes_to l target;
      leads = both.1;
      simulates = record {
        frame = frame_at frame to;
        below = below;
        during = record {
          inside = record {
            form = HasForm-next c code l (goes_to l target) during.inside.form both.0;
            pc = (let first : target ≡ begin c.flat c.certificate t.frame.function to + 4 * 0 = omega (arith, there') in first);
            sp_is = during.inside.sp_is;
            tp_is = during.inside.tp_is;
            front = during.inside.front;
            body = record { function = during.inside.body.function; operation = refl; bytes = during.inside.body.bytes; returns = during.inside.body.returns };
            stack = IsStack-operation c l.areas.pool l.core.chain frame below to during.inside.stack;
            headers = during.inside.headers;
          };
          shape = record { count = during.shape.count; words = during.shape.words };
          variables = during.variables;
          flats = during.flats;
          globals = during.globals;
        };
      };
    }

-- ---- what jumps and branches do

-- where a jump from one address to another goes
pub relative-is : (m : rows.Machine) (to from : ℕ) → m.pc ≡ from → to < 2 ^ 32 → from < 2 ^ 32 → relative m (pos to -ℤ pos from) ≡ to
unfolding word.add
relative-is m to from here to_below from_below =
    let is : word_of (pos to -ℤ pos from) ≡ (to + (2 ^ 32 - from)) % 2 ^ 32 = word_of-difference to from (omega arith) in
    omega (arith, is, here)

-- where one goes so many bytes on
pub relative-on : (m : rows.Machine) (n : ℕ) → m.pc + n < 2 ^ 32 → relative m (pos n) ≡ m.pc + n
relative-on m n below = ap (word.add m.pc) (word_of-small n (omega arith)) ∙ add-small m.pc n below

-- jal x0, imm
pub move-jal : (l : Local) (imm : ℤ) (target : ℕ) → relative (machine_of l) imm ≡ target → target % 4 ≡ 0 → local_move l (effect (Instr.Jal 0 imm) (machine_of l)) ≡ Goes (goes_to l target)
unfolding effect jumps
move-jal l imm target is aligned =
    ap (λ (a : ℕ). local_move l (jumps (machine_of l) 0 a)) is
    ∙ ap (λ (b : Bool). local_move l (cond b (rows.Goes target l.core.x Nothing) (rows.Fails Misaligned))) (eq-eqb (target % 4) 0 aligned)

-- a branch that is taken, and one that isn't
pub move-taken : (l : Local) (imm : ℤ) (test : Bool) (target : ℕ) → test ≡ true → relative (machine_of l) imm ≡ target → target % 4 ≡ 0 → local_move l (branches (machine_of l) imm test) ≡ Goes (goes_to l target)
unfolding branches
move-taken l imm test target holds is aligned =
    ap (λ (b : Bool). local_move l (branches (machine_of l) imm b)) holds
    ∙ ap (λ (a : ℕ). local_move l (cond (a % 4 == 0) (rows.Goes a l.core.x Nothing) (rows.Fails Misaligned))) is
    ∙ ap (λ (b : Bool). local_move l (cond b (rows.Goes target l.core.x Nothing) (rows.Fails Misaligned))) (eq-eqb (target % 4) 0 aligned)

pub move-passed : (l : Local) (imm : ℤ) (test : Bool) → test ≡ false → local_move l (branches (machine_of l) imm test) ≡ Goes (goes_to l (word.add l.core.pc 4))
unfolding branches passes
move-passed l imm test fails = ap (λ (b : Bool). local_move l (branches (machine_of l) imm b)) fails

none_jal : (m : rows.Machine) (rd : ℕ) (imm : ℤ) → accessed (Instr.Jal rd imm) m ≡ None
unfolding accessed
none_jal m rd imm = refl

-- ---- the operations

-- an operation to which a jump goes
pub record IsTarget (c : Checked) (f to : ℕ) : Type 0 where
  pub aligned : begin c.flat c.certificate f to % 4 ≡ 0
  pub below : begin c.flat c.certificate f to < 2 ^ 32

pub there_at : (ops : List Op) (i : ℕ) → i < length ops → (op : Op) × (slice_get ops i ≡ Some op)
there_at [] i below = absurd (omega arith)
there_at (op ∷ ops) zero below = (op, refl)
there_at (op ∷ ops) (suc i) below = there_at ops i (omega arith)

pub IsTarget-operation : (c : Checked) (code : List ℕ) (f to : ℕ) → CodeFacts c code → f < length c.flat.functions → to < length (function_at c.flat f).ops → IsTarget c f to
IsTarget-operation c code f to facts there below =
    let op = there_at (function_at c.flat f).ops to below in
    let is = facts.operation f to op.0 there op.1 in
    let room = is.room in
    record { aligned = is.aligned; below = omega (arith, room) }

pub jump_reaches : (c : Checked) (code : List ℕ) (l : Local) (t : FlatThread) (to : ℕ) → CodeFacts c code → IsOperationAt c code t.frame.function t.frame.next (Op.Jump to) → Simulates c l t → Reaches c code l (flat_at t to)
jump_reaches c code l t to facts there simulates =
    let f = t.frame.function in
    let i = t.frame.next in
    let target = IsTarget-operation c code f to facts there.function there.formed in
    let here = begin c.flat c.certificate f i in
    let room = there.room in
    let pc : l.core.pc ≡ here = (let is = simulates.during.inside.pc in let e : l.core.pc ≡ here = omega (arith, is) in e) in
    jumps_to c code l t 0 to (Op.Jump to) simulates.frame simulates.below (Instr.Jal 0 (pos (begin c.flat c.certificate f to) -ℤ pos here)) (begin c.flat c.certificate f to) there
    (record { small = omega arith; row_is = refl }) simulates.during refl
    (move-jal l _ (begin c.flat c.certificate f to) (relative-is (machine_of l) (begin c.flat c.certificate f to) here pc target.below (omega (arith, room))) target.aligned)
    (none_jal (machine_of l) 0 _) refl

-- ---- a jump where a scalar is 0

does_bne : (l : Local) (n : ℕ) → local_move l (effect (Instr.Bne 5 0 (pos n)) (machine_of l)) ≡ local_move l (branches (machine_of l) (pos n) (not (nat_eq (read l.core.x 5) 0)))
unfolding effect
does_bne l n = refl

none_bne : (m : rows.Machine) (n : ℕ) → accessed (Instr.Bne 5 0 (pos n)) m ≡ None
unfolding accessed
none_bne m n = refl

pub jump_zero_reaches : (c : Checked) (code : List ℕ) (l : Local) (t : FlatThread) (x to : ℕ) → CodeFacts c code → IsOperationAt c code t.frame.function t.frame.next (Op.JumpZero x to) → Simulates c l t → scalar t x ≡ Some 0 → Reaches c code l (flat_at t to)
jump_zero_reaches c code l t x to facts there simulates value =
    let op = Op.JumpZero x to in
    let f = t.frame.function in
    let i = t.frame.next in
    let frame = simulates.frame in
    let below = simulates.below in
    let target = IsTarget-operation c code f to facts there.function there.formed.1 in
    let here = begin c.flat c.certificate f i in
    let room = there.room in
    let w0 : IsWholeWord c f 0 op = record { small = omega arith; row_is = refl } in
    let w1 : IsWholeWord c f 1 op = record { small = omega arith; row_is = refl } in
    let w2 : IsWholeWord c f 2 op = record { small = omega arith; row_is = refl } in
    let first = load_scalar c code l t 0 op frame below 5 x 0 facts there w0 simulates.during (fetch_at c code l f i 0 op frame below _ there simulates.during.inside refl) (one_word c f x there.formed.0) value is_t0 in
    let test : not (nat_eq (read first.next.core.x 5) 0) ≡ false = ap (λ (n : ℕ). not (nat_eq n 0)) first.value_is in
    let second = moves_within c code first.next t 1 2 op frame below (Instr.Bne 5 0 (pos 8)) (word.add first.next.core.pc 4) there w1 first.during refl
    (does_bne first.next 8 ∙ move-passed first.next (pos 8) (not (nat_eq (read first.next.core.x 5) 0)) test) (none_bne (machine_of first.next) 8)
    (pc_next c code first.next f i 1 op there w1.small first.during.inside.pc) in
    let pc : second.next.core.pc ≡ here + 8 = (let is = second.during.inside.pc in let e : second.next.core.pc ≡ here + 8 = omega (arith, is) in e) in
    Reaches-after c code 2 l second.next (flat_at t to) (Leads-then c code 1 1 l first.next second.next first.leads second.leads)
    (jumps_to c code second.next t 2 to op frame below (Instr.Jal 0 (pos (begin c.flat c.certificate f to) -ℤ pos (here + 8))) (begin c.flat c.certificate f to) there w2 second.during refl
    (move-jal second.next _ (begin c.flat c.certificate f to) (relative-is (machine_of second.next) (begin c.flat c.certificate f to) (here + 8) pc target.below (omega (arith, room))) target.aligned)
    (none_jal (machine_of second.next) 0 _) refl)

pub jump_zero_passes : (c : Checked) (code : List ℕ) (l : Local) (t : FlatThread) (x to v : ℕ) → CodeFacts c code → IsOperationAt c code t.frame.function t.frame.next (Op.JumpZero x to) → Simulates c l t → scalar t x ≡ Some (suc v) → Reaches c code l (flat_at t (t.frame.next + 1))
jump_zero_passes c code l t x to v facts there simulates value =
    let op = Op.JumpZero x to in
    let f = t.frame.function in
    let i = t.frame.next in
    let frame = simulates.frame in
    let below = simulates.below in
    let room = there.room in
    let next = there.next in
    let aligned = there.aligned in
    let w0 : IsWholeWord c f 0 op = record { small = omega arith; row_is = refl } in
    let w1 : IsWholeWord c f 1 op = record { small = omega arith; row_is = refl } in
    let first = load_scalar c code l t 0 op frame below 5 x (suc v) facts there w0 simulates.during (fetch_at c code l f i 0 op frame below _ there simulates.during.inside refl) (one_word c f x there.formed.0) value is_t0 in
    let test : not (nat_eq (read first.next.core.x 5) 0) ≡ true = ap (λ (n : ℕ). not (nat_eq n 0)) first.value_is ∙ ap not (ne_eqb (suc v) 0 (λ e. omega arith)) in
    let pc = first.during.inside.pc in
    Reaches-after c code 1 l first.next (flat_at t (i + 1)) first.leads
    (jumps_to c code first.next t 1 (i + 1) op frame below (Instr.Bne 5 0 (pos 8)) (first.next.core.pc + 8) there w1 first.during refl
    (does_bne first.next 8 ∙ move-taken first.next (pos 8) (not (nat_eq (read first.next.core.x 5) 0)) (first.next.core.pc + 8) test (relative-on (machine_of first.next) 8 (omega (arith, pc, room))) (omega (arith, pc, aligned)))
    (none_bne (machine_of first.next) 8) (omega (arith, pc, next)))
