-- Each question of a flat thread is the machine's.
use Rattle.segment_laws.proofs.Common.{◌≡◌, ℕ, suc, ◌+◌, ◌^◌, ◌<◌, List, ◌++◌, length, true, Option, Some, refl, sym, ap, subst, ◌∙◌, arith, append_assoc, slice_get, Instr, read, Frame, Call, Question, call_of, spawn_of, Asks, Stops, Op, FlatThread, FlatWaiting, Lost, standing, with_result, FlatMove, on, scalar, scalars, asks, does, flat_step, fact_at, need_of, kind_of, Local, Checked}
use Rattle.flat_code.specs.Modelled.{modelled_gives}
use Rattle.stack_certificate.specs.Parts.{arguments, system_call, result}
use Rattle.segment_laws.proofs.Arguments.{arguments-past}
use Rattle.segment_laws.proofs.FrameWords.{stack_frame}
use Rattle.segment_laws.proofs.Immediate.{words_of}
use Rattle.segment_laws.proofs.Asking.{Arrives, model_asks, spawn_asks, result_arrives}
use Rattle.segment_laws.proofs.Facts.{CodeFacts}
use Rattle.segment_laws.proofs.FlatSteps.{was_there, function_there}
use Rattle.segment_laws.proofs.Simulation.{During, Simulates}
pub use Rattle.segment_laws.specs.Asking.{AsksAlike, StartsAlike}

lost_asks : (q : Question) (w : FlatWaiting) → (let m : FlatMove = Stops Lost in m) ≡ Asks q w → ⊥
lost_asks q w e = cc

asked_call : (t : FlatThread) (call : Call) (q : Question) (w : FlatWaiting) → asks t call ≡ Asks q w → (q ≡ record { call = call; globals = t.globals }) × (w ≡ record { frame = t.frame; below = t.below })
asked_call t call q w e = ((cc), (cc))

pub step_asks : (c : Checked) (code : List ℕ) (l : Local) (t : FlatThread) (site n : ℕ) (d : Option ℕ) (args : List ℕ) (q : Question) (w : FlatWaiting) → CodeFacts c code → (simulates : Simulates c l t) → standing c.flat t.frame ≡ Some (Op.Model site d n args) → flat_step c.flat t ≡ Asks q w →
    AsksAlike c code l t site n d args q w simulates
step_asks c code l t site n d args q w facts simulates is e =
    let op = Op.Model site d n args in
    let there = facts.operation t.frame.function t.frame.next op (function_there c l t simulates) is in
    let step : does c.flat t op ≡ Asks q w = sym (ap (λ (o : Option Op). on o (does c.flat t)) is) ∙ e in
    let values = was_there (scalars t args) (λ arguments. on (call_of n arguments) (asks t)) (Asks q w) step (lost_asks q w) in
    let call = was_there (call_of n values.value) (asks t) (Asks q w) values.move (lost_asks q w) in
    let same = asked_call t call.value q w call.move in
    record {
      call = call.value;
      question = same.0;
      waiting = same.1;
      at = model_asks c code l t site n d args values.value call.value facts there simulates values.is call.is;
    }

pub step_starts : (c : Checked) (code : List ℕ) (l : Local) (t : FlatThread) (site : ℕ) (d : Option ℕ) (g x : ℕ) (q : Question) (w : FlatWaiting) → CodeFacts c code → (simulates : Simulates c l t) → standing c.flat t.frame ≡ Some (Op.Spawn site d g x) → flat_step c.flat t ≡ Asks q w →
    (fact_at c.certificate g).entry < 2 ^ 32 → need_of (kind_of c.certificate (Op.Spawn site d g x)) < 2 ^ 32 → StartsAlike c code l t site d g x q w simulates
step_starts c code l t site d g x q w facts simulates is e entry need =
    let op = Op.Spawn site d g x in
    let there = facts.operation t.frame.function t.frame.next op (function_there c l t simulates) is in
    let step : does c.flat t op ≡ Asks q w = sym (ap (λ (o : Option Op). on o (does c.flat t)) is) ∙ e in
    let value = was_there (scalar t x) (λ argument. asks t (spawn_of g argument)) (Asks q w) step (lost_asks q w) in
    let same = asked_call t (spawn_of g value.value) q w value.move in
    record {
      argument = value.value;
      question = same.0;
      waiting = same.1;
      at = spawn_asks c code l t site d g x value.value facts there simulates value.is entry need;
    }

-- the function of a thread within an operation is there
during_there : (c : Checked) (l : Local) (t : FlatThread) (w : ℕ) (frame : Frame) (below : List Frame) → During c l t w frame below → t.frame.function < length c.flat.functions
during_there c l t w frame below during =
    subst (λ (g : ℕ). g < length c.flat.functions) during.inside.body.function (stack_frame c l.areas.pool l.core.chain frame below during.inside.stack).function

-- just behind the ECALL of a modelled call
pub answered : (c : Checked) (code : List ℕ) (l : Local) (t : FlatThread) (site n v : ℕ) (d : Option ℕ) (args : List ℕ) (frame : Frame) (below : List Frame) → CodeFacts c code → standing c.flat t.frame ≡ Some (Op.Model site d n args) → During c l t (length args + 2) frame below → read l.core.x 10 ≡ v →
    Arrives c code l (record t { frame = with_result t.frame d v })
answered c code l t site n v d args frame below facts is during value =
    let op = Op.Model site d n args in
    let f = t.frame.function in
    let there = facts.operation f t.frame.next op (during_there c l t (length args + 2) frame below during) is in
    let fact = fact_at c.certificate f in
    let rest : List Instr = system_call n ++ result fact d in
    let words : words_of c f t.frame.next op ≡ arguments fact 10 args ++ rest = append_assoc (arguments fact 10 args) (system_call n) (result fact d) in
    result_arrives c code l t (length args + 2) v op d frame below facts there during refl
    (λ j.
    (let e : length args + 2 + j ≡ length args + suc (suc j) = omega arith in ap (slice_get (words_of c f t.frame.next op)) e)
    ∙ ap (λ (ws : List Instr). slice_get ws (length args + suc (suc j))) words ∙ arguments-past fact 10 args rest (suc (suc j)))
    (λ small. record { small = small; row_is = refl }) (modelled_gives n) there.formed.2 value

-- just behind the ECALL of a spawn
pub started : (c : Checked) (code : List ℕ) (l : Local) (t : FlatThread) (site g x v : ℕ) (d : Option ℕ) (frame : Frame) (below : List Frame) → CodeFacts c code → standing c.flat t.frame ≡ Some (Op.Spawn site d g x) → During c l t 7 frame below → read l.core.x 10 ≡ v →
    Arrives c code l (record t { frame = with_result t.frame d v })
started c code l t site g x v d frame below facts is during value =
    let op = Op.Spawn site d g x in
    let f = t.frame.function in
    let there = facts.operation f t.frame.next op (during_there c l t 7 frame below during) is in
    result_arrives c code l t 7 v op d frame below facts there during refl
    (λ j. (let e : 7 + j ≡ suc (suc (suc (suc (suc (suc (suc j)))))) = omega arith in ap (slice_get (words_of c f t.frame.next op)) e))
    (λ small. record { small = small; row_is = refl }) true there.formed.3 value
