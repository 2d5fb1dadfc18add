-- What the next step of a flat thread comes to, the machine comes to.
use Rattle.segment_laws.proofs.Common.{◌≡◌, ℕ, ◌+◌, ◌<◌, List, ◌∷◌, length, Option, Some, None, refl, sym, ap, subst, ◌∙◌, arith, length-map, Question, Finish, Goes, Asks, Stops, TrapKind, Op, FlatThread, FlatWaiting, Finished, Lost, standing, FlatMove, on, does, flat_step, IsWellFormed, signature_of, AreGlobals, Frame, Local, Ended, Trapped, NoRoom, local_step, Checked, AreFlatFrames, IsAtCall, CallFacts, EndsAlike, AtAsk, AsksTheSame, WaitsAlike, StopsAlike, FindsNoChunk, IsCutOff, first_of}
use Rattle.machine_world.specs.Local as local
use Rattle.segment_laws.proofs.ReturnSteps.{return_alike, end_alike}
use Rattle.segment_laws.proofs.AskSteps.{step_asks, step_starts}
use Rattle.segment_laws.proofs.Facts.{CodeFacts, IsOperationAt}
use Rattle.segment_laws.proofs.FlatSteps.{IsStraight, function_there, step_reaches}
use Rattle.segment_laws.proofs.Simulation.{Simulates, Reaches}
use Rattle.segment_laws.proofs.Ways.{IsGoodState, Leads}
use Rattle.segment_laws.proofs.Firsts.{step-first}
use Rattle.segment_laws.proofs.FlatMoves.{NoQuestion, IsQuestion, asks_nothing, OnlyQuestion, model_asks, spawn_asks, NoFinish, call_goes}
use Rattle.segment_laws.proofs.Needs.{NeedsFit}
use Rattle.segment_laws.proofs.Rooms.{CallsOrCut, Came, Cut, call_or_cut, table_or_cut}
use Rattle.segment_laws.proofs.Traps.{TrapsWith, straight_trap, table_trap}

-- ---- where the machine comes to

-- to a LINK for whose need nothing is taken
pub record AtCut (c : Checked) (code : List ℕ) (l : Local) : Type 0 where
  pub count : ℕ
  pub at : Local
  pub leads : Leads c code count l at
  pub good : IsGoodState c code at
  pub step : local_step code at ≡ Stops NoRoom
  pub none : FindsNoChunk c at

-- to the ECALL at which the flat thread waits
pub record AtQuestion (c : Checked) (code : List ℕ) (l : Local) (asked : Question) (waiting : FlatWaiting) : Type 0 where
  pub count : ℕ
  pub at : Local
  pub question : local.Question
  pub leads : Leads c code count l at
  pub good : IsGoodState c code at
  pub step : local_step code at ≡ Asks question at
  pub waits : WaitsAlike c at question asked waiting

-- to its end or a trap
pub record AtStop (c : Checked) (code : List ℕ) (l : Local) (finish : Finish) : Type 0 where
  pub count : ℕ
  pub at : Local
  pub end : local.End
  pub leads : Leads c code count l at
  pub good : IsGoodState c code at
  pub step : local_step code at ≡ Stops end
  pub stops : StopsAlike c at end finish

pub data Outcome (c : Checked) (code : List ℕ) (l : Local) (t : FlatThread) : Type 0 where
  Silent : (after : FlatThread) (step : flat_step c.flat t ≡ Goes after) (reaches : Reaches c code l after) → Outcome c code l t
  Short : (cut : AtCut c code l) (off : IsCutOff c (first_of t) cut.at) → Outcome c code l t
  Asking : (asked : Question) (waiting : FlatWaiting) (step : flat_step c.flat t ≡ Asks asked waiting) (at : AtQuestion c code l asked waiting) → Outcome c code l t
  Stopping : (finish : Finish) (step : flat_step c.flat t ≡ Stops (Finished finish)) (at : AtStop c code l finish) → Outcome c code l t
  Losing : (step : flat_step c.flat t ≡ Stops Lost) → Outcome c code l t

-- ---- what the laws of single operations give

from_call : (c : Checked) (code : List ℕ) (l : Local) (t after : FlatThread) → flat_step c.flat t ≡ Goes after → CallsOrCut c code l after → Outcome c code l t
from_call c code l t after step (Came reaches) = Silent after step reaches
from_call c code l t after step (Cut n comes none cut) =
    Short (record { count = n; at = comes.at; leads = comes.leads; good = comes.good; step = comes.move_is; none = none })
    (subst (λ (f : ℕ). IsCutOff c f comes.at) (step-first c.flat t after step) cut)

waits_at : (c : Checked) (code : List ℕ) (l : Local) (t : FlatThread) (op : Op) (word : ℕ) (question : local.Question) (frame : Frame) (below : List Frame) (asked : Question) (waiting : FlatWaiting) → (at : AtAsk c code l t op word question frame below) →
    waiting ≡ record { frame = t.frame; below = t.below } → t.globals ≡ asked.globals → AsksTheSame c op question asked.call → AtQuestion c code l asked waiting
waits_at c code l t op word question frame below asked waiting at is globals same = record {
  count = at.steps;
  at = at.at;
  question = question;
  leads = at.leads;
  good = at.good;
  step = at.asks;
  waits = record {
    op = op;
    word = word;
    frames = frame ∷ below;
    form = at.during.inside.form;
    rests = subst (λ (w : FlatWaiting). IsAtCall c at.at.areas.pool at.at.core w.frame.function w.frame.next op word (frame ∷ below)) (sym is) at.rests;
    stands = subst (λ (w : FlatWaiting). AreFlatFrames c at.at.areas.pool (frame ∷ below) (w.frame ∷ w.below)) (sym is)
        (record { function = at.during.inside.body.function; operation = at.during.inside.body.operation; shape = at.during.shape; variables = at.during.variables }, at.during.flats);
    globals_are = subst (λ (rows : List (List ℕ)). AreGlobals c.flat rows at.at.areas.globals) globals at.during.globals;
    same = same;
  };
}

from_end : (c : Checked) (code : List ℕ) (l : Local) (t : FlatThread) (finish : Finish) → EndsAlike c code l t finish → AtStop c code l finish
from_end c code l t finish ends = record {
  count = ends.count;
  at = ends.comes.at;
  end = Ended ends.areas;
  leads = ends.comes.leads;
  good = ends.comes.good;
  step = ends.comes.move_is;
  stops = (ap (λ (f : Finish). f.trap) ends.finish_is, subst (λ (f : Finish). AreGlobals c.flat f.globals ends.areas.globals) (sym ends.finish_is) ends.globals);
}

from_trap : (c : Checked) (code : List ℕ) (l : Local) (t : FlatThread) (kind : TrapKind) (finish : Finish) → TrapsWith c code l t kind finish →
    AtStop c code l finish
from_trap c code l t kind finish traps = record {
  count = 6;
  at = traps.at.comes.at;
  end = Trapped kind;
  leads = traps.at.comes.leads;
  good = traps.at.comes.good;
  step = traps.at.comes.move_is;
  stops = (
    ap (λ (f : Finish). f.trap) traps.finish_is,
    subst (λ (f : Finish). AreGlobals c.flat f.globals traps.at.comes.at.areas.globals) (sym traps.finish_is) traps.at.globals,
  );
}

-- ---- by the operation

module _ (c : Checked) (code : List ℕ) (facts : CodeFacts c code) (calls : CallFacts c) (needs : NeedsFit c) (formed : IsWellFormed c.flat) where
  does_is : (t : FlatThread) (op : Op) (move : FlatMove) → standing c.flat t.frame ≡ Some op → flat_step c.flat t ≡ move → does c.flat t op ≡ move
  does_is t op move stands step = sym (ap (λ (o : Option Op). on o (does c.flat t)) stands) ∙ step

  there_is : (l : Local) (t : FlatThread) (op : Op) → Simulates c l t → standing c.flat t.frame ≡ Some op → IsOperationAt c code t.frame.function t.frame.next op
  there_is l t op simulates stands = facts.operation t.frame.function t.frame.next op (function_there c l t simulates) stands

  no_question : {A : Type 0} (t : FlatThread) (op : Op) (asked : Question) (waiting : FlatWaiting) → (IsQuestion op → ⊥) → does c.flat t op ≡ Asks asked waiting → A
  no_question t op asked waiting not e = absurd (subst NoQuestion e (asks_nothing c.flat t op not))

  -- an operation that stays in its frame
  straight : (l : Local) (t : FlatThread) (op : Op) (move : FlatMove) → Simulates c l t → standing c.flat t.frame ≡ Some op → IsStraight op →
      (IsQuestion op → ⊥) → flat_step c.flat t ≡ move → Outcome c code l t
  straight l t op (Goes after) simulates stands is not step = Silent after step (step_reaches c code l t after op facts simulates stands is step)
  straight l t op (Asks asked waiting) simulates stands is not step = no_question t op asked waiting not (does_is t op (Asks asked waiting) stands step)
  straight l t op (Stops (Finished finish)) simulates stands is not step =
      let does = does_is t op (Stops (Finished finish)) stands step in
      let traps = straight_trap c code l t op finish facts (there_is l t op simulates stands) simulates is does in
      Stopping finish step (from_trap c code l t TrapKind.Index finish traps)
  straight l t op (Stops Lost) simulates stands is not step = Losing step

  call : (l : Local) (t : FlatThread) (site g : ℕ) (d : Option ℕ) (args : List ℕ) (move : FlatMove) → Simulates c l t → standing c.flat t.frame ≡ Some (Op.Call site d g args) → flat_step c.flat t ≡ move → Outcome c code l t
  call l t site g d args (Goes after) simulates stands step = from_call c code l t after step (call_or_cut c code facts calls l t after site g d args simulates stands step)
  call l t site g d args (Asks asked waiting) simulates stands step = no_question t (Op.Call site d g args) asked waiting (λ q. q) (does_is t (Op.Call site d g args) (Asks asked waiting) stands step)
  call l t site g d args (Stops (Finished finish)) simulates stands step = absurd (subst NoFinish (does_is t (Op.Call site d g args) (Stops (Finished finish)) stands step) (call_goes c.flat t site g d args))
  call l t site g d args (Stops Lost) simulates stands step = Losing step

  table : (l : Local) (t : FlatThread) (site number i x : ℕ) (d : Option ℕ) (move : FlatMove) → Simulates c l t → standing c.flat t.frame ≡ Some (Op.CallTable site d number i x) → flat_step c.flat t ≡ move → Outcome c code l t
  table l t site number i x d (Goes after) simulates stands step = from_call c code l t after step (table_or_cut c code facts calls l t after site number i x d formed simulates stands step)
  table l t site number i x d (Asks asked waiting) simulates stands step = no_question t (Op.CallTable site d number i x) asked waiting (λ q. q) (does_is t (Op.CallTable site d number i x) (Asks asked waiting) stands step)
  table l t site number i x d (Stops (Finished finish)) simulates stands step =
      Stopping finish step (from_trap c code l t TrapKind.Table finish
      (table_trap c code l t site number i x d finish facts (there_is l t (Op.CallTable site d number i x) simulates stands) simulates
      (does_is t (Op.CallTable site d number i x) (Stops (Finished finish)) stands step)))
  table l t site number i x d (Stops Lost) simulates stands step = Losing step

  back : (l : Local) (t : FlatThread) (s : Option ℕ) (move : FlatMove) → Simulates c l t → standing c.flat t.frame ≡ Some (Op.Return s) → flat_step c.flat t ≡ move → Outcome c code l t
  back l t s (Goes after) simulates stands step = Silent after step (return_alike c code facts calls l t after s simulates stands step)
  back l t s (Asks asked waiting) simulates stands step = no_question t (Op.Return s) asked waiting (λ q. q) (does_is t (Op.Return s) (Asks asked waiting) stands step)
  back l t s (Stops (Finished finish)) simulates stands step = Stopping finish step (from_end c code l t finish (end_alike c code facts calls l t finish s simulates stands step))
  back l t s (Stops Lost) simulates stands step = Losing step

  model : (l : Local) (t : FlatThread) (site n : ℕ) (d : Option ℕ) (args : List ℕ) (move : FlatMove) → Simulates c l t → standing c.flat t.frame ≡ Some (Op.Model site d n args) → flat_step c.flat t ≡ move → Outcome c code l t
  model l t site n d args (Goes after) simulates stands step = absurd (subst OnlyQuestion (does_is t (Op.Model site d n args) (Goes after) stands step) (model_asks c.flat t site n d args))
  model l t site n d args (Asks asked waiting) simulates stands step =
      let alike = step_asks c code l t site n d args asked waiting facts simulates stands step in
      Asking asked waiting step
      (waits_at c code l t (Op.Model site d n args) (length args + 1) (local.Calls alike.call) simulates.frame simulates.below asked waiting alike.at alike.waiting (sym (ap (λ (q : Question). q.globals) alike.question))
      (ap (λ (q : Question). local.Calls q.call) (sym alike.question)))
  model l t site n d args (Stops (Finished finish)) simulates stands step = absurd (subst OnlyQuestion (does_is t (Op.Model site d n args) (Stops (Finished finish)) stands step) (model_asks c.flat t site n d args))
  model l t site n d args (Stops Lost) simulates stands step = Losing step

  spawn : (l : Local) (t : FlatThread) (site g x : ℕ) (d : Option ℕ) (move : FlatMove) → Simulates c l t → standing c.flat t.frame ≡ Some (Op.Spawn site d g x) → flat_step c.flat t ≡ move → Outcome c code l t
  spawn l t site g x d (Goes after) simulates stands step = absurd (subst OnlyQuestion (does_is t (Op.Spawn site d g x) (Goes after) stands step) (spawn_asks c.flat t site g x d))
  spawn l t site g x d (Asks asked waiting) simulates stands step =
      let there = there_is l t (Op.Spawn site d g x) simulates stands in
      let known : g < length c.flat.functions = omega (arith, there.formed.0, length-map c.flat.functions signature_of) in
      let room = (calls.entries g known).room in
      let need = needs.spawned t.frame.function t.frame.next site g x d there.function there.there in
      let chunk = needs.chunk in
      let alike = step_starts c code l t site d g x asked waiting facts simulates stands step (omega (arith, room)) (omega (arith, need, chunk)) in
      Asking asked waiting step
      (waits_at c code l t (Op.Spawn site d g x) 6 _ simulates.frame simulates.below asked waiting alike.at alike.waiting (sym (ap (λ (q : Question). q.globals) alike.question))
      (alike.argument, ap (λ (q : Question). q.call) alike.question, refl))
  spawn l t site g x d (Stops (Finished finish)) simulates stands step = absurd (subst OnlyQuestion (does_is t (Op.Spawn site d g x) (Stops (Finished finish)) stands step) (spawn_asks c.flat t site g x d))
  spawn l t site g x d (Stops Lost) simulates stands step = Losing step

  by_op : (l : Local) (t : FlatThread) (op : Op) → Simulates c l t → standing c.flat t.frame ≡ Some op → Outcome c code l t
  by_op l t (Op.Call site d g args) simulates stands = call l t site g d args (flat_step c.flat t) simulates stands refl
  by_op l t (Op.CallTable site d number i x) simulates stands = table l t site number i x d (flat_step c.flat t) simulates stands refl
  by_op l t (Op.Model site d n args) simulates stands = model l t site n d args (flat_step c.flat t) simulates stands refl
  by_op l t (Op.Spawn site d g x) simulates stands = spawn l t site g x d (flat_step c.flat t) simulates stands refl
  by_op l t (Op.Return s) simulates stands = back l t s (flat_step c.flat t) simulates stands refl
  by_op l t op simulates stands = straight l t op (flat_step c.flat t) simulates stands tt (λ q. q) refl

  by_standing : (l : Local) (t : FlatThread) (found : Option Op) → Simulates c l t → standing c.flat t.frame ≡ found → Outcome c code l t
  by_standing l t None simulates e = Losing (ap (λ (o : Option Op). on o (does c.flat t)) e)
  by_standing l t (Some op) simulates e = by_op l t op simulates e

  pub outcome : (l : Local) (t : FlatThread) → Simulates c l t → Outcome c code l t
  outcome l t simulates = by_standing l t (standing c.flat t.frame) simulates refl
