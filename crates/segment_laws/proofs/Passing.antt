-- A thread at an ECALL, and just behind it.
use Rattle.segment_laws.proofs.Common.{◌≡◌, ℕ, ◌+◌, ◌*◌, ◌^◌, ◌<◌, List, [], ◌∷◌, get_or, pos, Option, Some, None, Result, Ok, slice_get, refl, sym, ap, subst, ◌∙◌, arith, IfSome, Question, Pool, Instr, FaultKind, read, instruction_at, function_at, operation_at, result_place, FlatFrame, FlatWaiting, Op, fact_at, begin, size, result_size, kind_of, row, setting, AreGlobals, Frame, return_word, FramesAt, TpIsFront, sp, tp, Checked, Place, InOperation, IsAt, Row, Whole, row_at, size_in, IsResting, AtCall, PastCall, IsAtCall, IsPastCall, AreFlatFrames, AreFlatPast, IsCore-passed, IsPassed, RestsBehind, FollowsAsks, MayRun, WaitsAlike}
use Rattle.machine_world.specs.Local as local
use Rattle.machine_world.specs.Local.{Core, Local, with_result, passed}
use Rattle.segment_laws.proofs.FirstWords.{HasOther, has_other, first_other, ask_words}
use Rattle.segment_laws.proofs.Facts.{CodeFacts}
use Rattle.segment_laws.proofs.Finish.{frame_at}
use Rattle.segment_laws.proofs.Registers.{add-small, read-write_other}
use Rattle.segment_laws.proofs.Stacks.{IsStack-operation}
use Rattle.segment_laws.proofs.Ways.{HasForm}
use Rattle.segment_laws.proofs.Past.{row_first, size_some, function_of_op}
use Rattle.segment_laws.proofs.FromRest.{ask_shape, some_at}

-- ---- at the ECALL

pub call_is_ecall : (c : Checked) (code : List ℕ) (pool : Pool) (core : Core) (f i word : ℕ) (op : Op) (frames : List Frame) → CodeFacts c code → IsAtCall c pool core f i op word frames → instruction_at code core.pc ≡ Ok Instr.Ecall
call_is_ecall c code pool core f i word op frames facts at =
    let there = function_of_op c.flat f i op at.operation in
    let here = facts.operation f i op there at.operation in
    let words = ask_words (fact_at c.certificate f) (function_at c.flat f).sizes (setting c.flat c.certificate f (begin c.flat c.certificate f i) op) op word at.ecall in
    ap (instruction_at code) at.frames_are.at.2 ∙ here.fetch word Instr.Ecall words.ecall

pub may_run : (c : Checked) (code : List ℕ) (pool : Pool) (core : Core) → CodeFacts c code → (rests : IsResting c pool core) → (instruction_at code core.pc ≡ Ok Instr.Ecall → ⊥) → MayRun c pool core rests
may_run c code pool core facts (AtCall f i op word frames at) none = absurd (none (call_is_ecall c code pool core f i word op frames facts at))
may_run c code pool core facts _ none = tt

-- ---- behind it

pub kept : (x : List ℕ) (result : Option ℕ) (r : ℕ) → (r ≡ 10 → ⊥) → read (with_result x result) r ≡ read x r
kept x None r apart = refl
kept x (Some value) r apart = read-write_other x 10 value r apart

-- the frames, of which the running one stands at another operation of its function
moved_frames : (c : Checked) (pool : Pool) (core new : Core) (f i j w v : ℕ) (chain : List ℕ) (frame : Frame) (below : List Frame) → read new.x sp ≡ read core.x sp → FramesAt c pool core (InOperation f i w) Whole chain (frame ∷ below) →
    FramesAt c pool new (InOperation f j v) Whole chain (frame_at frame j ∷ below)
moved_frames c pool core new f i j w v [] frame below same at = absurd at
moved_frames c pool core new f i j w v (chunk ∷ chain) frame below same at = (
  record {
    function = at.0.function;
    operation = refl;
    chunk_is = at.0.chunk_is;
    low_is = at.0.low_is ∙ sym same;
    bytes_are = at.0.bytes_are;
    returns_are = at.0.returns_are ∙ ap (return_word c pool f chunk) (sym same);
  },
  IsStack-operation c pool (chunk ∷ chain) frame below j at.1,
)

front_kept : (pool : Pool) (core new : Core) (chain : List ℕ) → read new.x tp ≡ read core.x tp → TpIsFront pool core chain → TpIsFront pool new chain
front_kept pool core new [] same front = absurd front
front_kept pool core new (chunk ∷ chain) same front = same ∙ front

-- a thread with a whole frame at a place of the function, behind the ECALL
pub record IsBehind (c : Checked) (code : List ℕ) (pool : Pool) (core : Core) (f i word : ℕ) (op : Op) (frame : Frame) (below : List Frame) : Type 0 where
  pub operation : ℕ
  pub place : Place
  pub past : IsPastCall c pool core f i op word place (frame_at frame operation ∷ below)
  pub instr : Instr
  pub fetch : instruction_at code core.pc ≡ Ok instr
  pub other : instr ≡ Instr.Ecall → ⊥

behind_at : (c : Checked) (code : List ℕ) (pool : Pool) (core : Core) (f i word j v : ℕ) (op : Op) (frame : Frame) (below : List Frame) (result : Option ℕ) (instr : Instr) → IsAtCall c pool core f i op word (frame ∷ below) → row_at c.certificate word (operation_at c.flat f i) ≡ Whole →
    (passed core result).pc ≡ begin c.flat c.certificate f i + 4 * (word + 1) → IsAt c (passed core result).pc (InOperation f j v) → row_at c.certificate v (operation_at c.flat f j) ≡ Whole → instruction_at code (passed core result).pc ≡ Ok instr → (instr ≡ Instr.Ecall → ⊥) →
    IsBehind c code pool (passed core result) f i word op frame below
behind_at c code pool core f i word j v op frame below result instr at row pc there row' fetch other =
    let same : read (passed core result).x sp ≡ read core.x sp = kept core.x result 2 (λ e. omega arith) in
    let frames : FramesAt c pool core (InOperation f i word) Whole core.chain (frame ∷ below) = subst (λ (r : Row). FramesAt c pool core (InOperation f i word) r core.chain (frame ∷ below)) row at.frames_are.frames_are in
    record {
      operation = j;
      place = InOperation f j v;
      past = record {
        operation = at.operation;
        ecall = at.ecall;
        pc = pc;
        frames_are = record {
          at = there;
          frames_are = subst (λ (r : Row). FramesAt c pool (passed core result) (InOperation f j v) r core.chain (frame_at frame j ∷ below)) (sym row')
              (moved_frames c pool core (passed core result) f i j word v core.chain frame below same frames);
          front = front_kept pool core (passed core result) core.chain (kept core.x result 4 (λ e. omega arith)) at.frames_are.front;
          headers = at.frames_are.headers;
        };
      };
      instr = instr;
      fetch = fetch;
      other = other;
    }

no_sw : (instr : Instr) (r s : ℕ) (k : ℕ) → (let i : Instr = Instr.Sw r s (pos k) in i) ≡ Instr.Ecall → ⊥
no_sw instr r s k e = cc

pub behind_by : (c : Checked) (code : List ℕ) (pool : Pool) (core : Core) (f i word : ℕ) (op : Op) (frame : Frame) (below : List Frame) (result d : Option ℕ) → CodeFacts c code → FollowsAsks c.flat → IsAtCall c pool core f i op word (frame ∷ below) → result_place op ≡ d →
    IsBehind c code pool (passed core result) f i word op frame below
behind_by c code pool core f i word op frame below result (Some d) facts follows at to =
    let there = function_of_op c.flat f i op at.operation in
    let here = facts.operation f i op there at.operation in
    let shape = ask_shape op word at.ecall in
    let size_is : size (function_at c.flat f).sizes (kind_of c.certificate op) op ≡ word + 1 + 1 = shape.size_is (function_at c.flat f).sizes (kind_of c.certificate op) ∙ ap (λ (o : Option ℕ). word + 1 + result_size o) to in
    let words = ask_words (fact_at c.certificate f) (function_at c.flat f).sizes (setting c.flat c.certificate f (begin c.flat c.certificate f i) op) op word at.ecall in
    let room = here.room in
    let pc = at.frames_are.at.2 in
    let next : (passed core result).pc ≡ begin c.flat c.certificate f i + 4 * (word + 1) = add-small core.pc 4 (omega (arith, pc, room, size_is)) ∙ (let e : core.pc + 4 ≡ begin c.flat c.certificate f i + 4 * (word + 1) = omega (arith, pc) in e) in
    let stored : Instr = Instr.Sw 2 10 (pos (get_or (fact_at c.certificate f).places d 0)) in
    behind_at c code pool core f i word i (word + 1) op frame below result stored at (ap (row_at c.certificate word) at.operation ∙ shape.whole (kind_of c.certificate op) word) next
    (there, subst (λ (o : Option Op). word + 1 < size_in c f o) (sym at.operation) (omega (arith, size_is)), next)
    (ap (row_at c.certificate (word + 1)) at.operation ∙ shape.whole (kind_of c.certificate op) (word + 1))
    (ap (instruction_at code) next ∙ here.fetch (word + 1) stored (words.stored d to)) (no_sw stored 2 10 (get_or (fact_at c.certificate f).places d 0))
behind_by c code pool core f i word op frame below result None facts follows at to =
    let there = function_of_op c.flat f i op at.operation in
    let here = facts.operation f i op there at.operation in
    let shape = ask_shape op word at.ecall in
    let size_is : size (function_at c.flat f).sizes (kind_of c.certificate op) op ≡ word + 1 + 0 = shape.size_is (function_at c.flat f).sizes (kind_of c.certificate op) ∙ ap (λ (o : Option ℕ). word + 1 + result_size o) to in
    let follow = some_at (function_at c.flat f).ops (i + 1) (follows f i word op there at.operation at.ecall) in
    let after : Op = follow.0 in
    let later = facts.operation f (i + 1) after there follow.1 in
    let zeroes = (λ (a : ℕ) (is : after ≡ Op.Zero a). facts.zeroed f (i + 1) a there (follow.1 ∙ ap Some is)) in
    let some = size_some (function_at c.flat f).sizes (kind_of c.certificate after) after zeroes in
    let begins = begin c.flat c.certificate f (i + 1) in
    let first : HasOther (slice_get (row (fact_at c.certificate f) (function_at c.flat f).sizes (setting c.flat c.certificate f begins after) after) 0) =
    has_other (slice_get (row (fact_at c.certificate f) (function_at c.flat f).sizes (setting c.flat c.certificate f begins after) after) 0)
    (first_other (fact_at c.certificate f) (function_at c.flat f).sizes (setting c.flat c.certificate f begins after) after zeroes) in
    let room = here.room in
    let step = here.next in
    let pc = at.frames_are.at.2 in
    let next : (passed core result).pc ≡ begin c.flat c.certificate f i + 4 * (word + 1) = add-small core.pc 4 (omega (arith, pc, room, size_is)) ∙ (let e : core.pc + 4 ≡ begin c.flat c.certificate f i + 4 * (word + 1) = omega (arith, pc) in e) in
    let at_next : (passed core result).pc ≡ begins + 4 * 0 = next ∙ (let e : begin c.flat c.certificate f i + 4 * (word + 1) ≡ begins + 4 * 0 = omega (arith, step, size_is) in e) in
    behind_at c code pool core f i word (i + 1) 0 op frame below result first.instr at (ap (row_at c.certificate word) at.operation ∙ shape.whole (kind_of c.certificate op) word) next
    (there, subst (λ (o : Option Op). 0 < size_in c f o) (sym follow.1) some, at_next)
    (ap (row_at c.certificate 0) follow.1 ∙ row_first (kind_of c.certificate after) after)
    (ap (instruction_at code) at_next ∙ later.fetch 0 first.instr first.is) first.other

pub no_other : (r : Result Instr FaultKind) (instr : Instr) → r ≡ Ok instr → (instr ≡ Instr.Ecall → ⊥) → r ≡ Ok Instr.Ecall → ⊥
no_other r instr is other e = other (let both : Ok instr ≡ Ok Instr.Ecall = sym is ∙ e in cc)

pub passes : (c : Checked) (code : List ℕ) (pool : Pool) (core : Core) (f i word : ℕ) (op : Op) (frames : List Frame) (result : Option ℕ) → CodeFacts c code → FollowsAsks c.flat → IsAtCall c pool core f i op word frames → IsPassed c code pool (passed core result) f i op word
passes c code pool core f i word op [] result facts follows at = absurd at.registers
passes c code pool core f i word op (frame ∷ below) result facts follows at =
    let is = behind_by c code pool core f i word op frame below result (result_place op) facts follows at refl in
    record { place = is.place; frames = frame_at frame is.operation ∷ below; past = is.past; no_ecall = no_other (instruction_at code (passed core result).pc) is.instr is.fetch is.other }

-- ---- and the flat thread

past_flats : (c : Checked) (pool : Pool) (i j : ℕ) (frame : Frame) (below : List Frame) (flat : FlatFrame) (flats : List FlatFrame) → flat.next ≡ i → AreFlatFrames c pool (frame ∷ below) (flat ∷ flats) → AreFlatPast c pool i (frame_at frame j ∷ below) (flat ∷ flats)
past_flats c pool i j frame below flat flats next are = (record { function = are.0.function; operation = next; shape = are.0.shape; variables = are.0.variables }, are.1)

behind_frames : (c : Checked) (code : List ℕ) (at : Local) (question : local.Question) (asked : Question) (waiting : FlatWaiting) (result : Option ℕ) (frames : List Frame) (op : Op) (word : ℕ) → CodeFacts c code → FollowsAsks c.flat → HasForm c at → IfSome result (λ value. value < 2 ^ 32) →
    IsAtCall c at.areas.pool at.core waiting.frame.function waiting.frame.next op word frames → AreFlatFrames c at.areas.pool frames (waiting.frame ∷ waiting.below) → AreGlobals c.flat asked.globals at.areas.globals →
    RestsBehind c (record { areas = at.areas; core = passed at.core result }) waiting asked.globals
behind_frames c code at question asked waiting result [] op word facts follows form small rests stands globals = absurd rests.registers
behind_frames c code at question asked waiting result (frame ∷ below) op word facts follows form small rests stands globals =
    let f = waiting.frame.function in
    let i = waiting.frame.next in
    let is = behind_by c code at.areas.pool at.core f i word op frame below result (result_place op) facts follows rests refl in
    record {
      form = record { areas = form.areas; core = IsCore-passed at.core result form.core small; owns = record { once = form.owns.once } };
      stands = record {
        rests = PastCall f i op word is.place (frame_at frame is.operation ∷ below) is.past;
        stands = past_flats c at.areas.pool i is.operation frame below waiting.frame waiting.below refl stands;
        globals_are = globals;
      };
      past = tt;
      may = tt;
      runs = refl;
    }

pub stands_behind : (c : Checked) (code : List ℕ) (at : Local) (question : local.Question) (asked : Question) (waiting : FlatWaiting) (result : Option ℕ) → CodeFacts c code → FollowsAsks c.flat → WaitsAlike c at question asked waiting → IfSome result (λ value. value < 2 ^ 32) →
    RestsBehind c (record { areas = at.areas; core = passed at.core result }) waiting asked.globals
stands_behind c code at question asked waiting result facts follows waits small =
    behind_frames c code at question asked waiting result waits.frames waits.op waits.word facts follows waits.form small waits.rests waits.stands waits.globals_are
