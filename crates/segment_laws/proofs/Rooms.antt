-- A call of flat code, of a function or through a table: the machine comes to stand for the thread in the function that was
-- called, or to a LINK for whose need nothing is taken.
use Rattle.segment_laws.proofs.Common.{◌≡◌, ℕ, ◌+◌, ◌-◌, ◌<◌, ◌≤◌, List, [], ◌∷◌, length, get_or, Option, Some, None, refl, sym, ap, subst, ◌∙◌, arith, ⊎_elim, cases_lt, length-map, Goes, Stops, Taken, taken_for, payload_place_of, Op, members_of, FlatThread, pushed, standing, on, scalar, scalars, enters, enters_by, does, flat_step, IsWellFormed, signature_of, LinkKind, kind_of, Frame, Local, NoRoom, linked_on, Checked, row_at, CallFacts, CallsAlike, Enters, FindsNoRoom, FindsNoChunk, IsCutOff, first_of}
use Rattle.segment_laws.proofs.Calling.{arguments_loaded}
use Rattle.segment_laws.proofs.CallShapes.{CallShape, call_shape}
use Rattle.segment_laws.proofs.FarCalls.{calls_far}
use Rattle.segment_laws.proofs.Linked.{Tested, tests_room, transfer_near, whole_word}
use Rattle.segment_laws.proofs.Linking.{AtLink, to_link}
use Rattle.segment_laws.proofs.PlainCalls.{call_loads, parameters_of}
use Rattle.segment_laws.proofs.Transfers.{ReadyToCall, transfer_plain}
use Rattle.segment_laws.proofs.Facts.{CodeFacts, IsOperationAt}
use Rattle.segment_laws.proofs.Finish.{Reaches-after}
use Rattle.segment_laws.proofs.FlatSteps.{function_there, was_there}
use Rattle.segment_laws.proofs.Simulation.{During, Simulates, Reaches}
use Rattle.segment_laws.proofs.Ways.{Leads, Leads-then, ComesTo}
use Rattle.segment_laws.proofs.Members.{IsMemberAt-formed}
use Rattle.segment_laws.proofs.TableSteps.{entered, readies, first_argument, was_member, not_lost_goes}
use Rattle.segment_laws.proofs.Firsts.{frames-first}
use Rattle.segment_laws.proofs.Inside.{HasFrames-inside}
use Rattle.segment_laws.proofs.Arguments.{scalars-length}

pub data CallsOrCut (c : Checked) (code : List ℕ) (l : Local) (after : FlatThread) : Type 0 where
  Came : (reaches : Reaches c code l after) → CallsOrCut c code l after
  Cut : (n : ℕ) (comes : ComesTo c code n l (Stops NoRoom)) (none : FindsNoChunk c comes.at) (cut : IsCutOff c (first_of after) comes.at) → CallsOrCut c code l after

cut_after : (c : Checked) (code : List ℕ) (m : ℕ) (l middle : Local) (after : FlatThread) → Leads c code m l middle → CallsOrCut c code middle after → CallsOrCut c code l after
cut_after c code m l middle after first (Came reaches) = Came (Reaches-after c code m l middle after first reaches)
cut_after c code m l middle after first (Cut n comes none cut) =
    Cut (m + n) (record { at = comes.at; leads = Leads-then c code m n l middle comes.at first comes.leads; good = comes.good; move_is = comes.move_is }) none cut

alike : {c : Checked} {code : List ℕ} {l : Local} {after : FlatThread} → CallsOrCut c code l after → CallsAlike c code l after
alike (Came reaches) = Enters reaches
alike (Cut n comes none cut) = FindsNoRoom n comes

module _ (c : Checked) (code : List ℕ) (facts : CodeFacts c code) (calls : CallFacts c) where
  abbrev called : FlatThread → ℕ → List ℕ → FlatThread
  called t g values = record { frame = pushed c.flat g values; below = t.frame ∷ t.below; globals = t.globals }

  far_by : (l : Local) (t : FlatThread) (op : Op) (g need : ℕ) (values : List ℕ) (frame : Frame) (below : List Frame) (there : IsOperationAt c code t.frame.function t.frame.next op) (s : CallShape c t.frame.function t.frame.next op) → ReadyToCall c code l t op g values frame below s 0 →
      kind_of c.certificate op ≡ LinkKind.Linked need → (at : AtLink c code l t op need frame below s) (found : Option Taken) → taken_for at.at.areas.pool need ≡ found → CallsOrCut c code l (called t g values)
  far_by l t op g need values frame below there s ready linked at None e =
      let whole = whole_word c code t.frame.function t.frame.next 7 need op s linked (omega arith) in
      let in_place = HasFrames-inside c code at.at t.frame.function t.frame.next (s.before + 7) op frame below there whole at.during.inside in
      Cut 5
      (record { at = at.at; leads = at.leads; good = at.good; move_is = at.step ∙ ap (λ (n : ℕ). linked_on at.at (taken_for at.at.areas.pool n)) at.need_is ∙ ap (linked_on at.at) e })
      (record {
        function = t.frame.function;
        operation = t.frame.next;
        word = s.before + 7;
        op = op;
        need = need;
        frames = frame ∷ below;
        there = there.there;
        linked = linked;
        in_place = in_place;
        need_is = at.need_is;
        nothing = e;
      })
      (record {
        function = t.frame.function;
        operation = t.frame.next;
        word = s.before + 7;
        before = s.before;
        op = op;
        need = need;
        frame = frame;
        below = below;
        inside = there.function;
        there = there.there;
        calls = s.before_is;
        linked = linked;
        in_place = in_place;
        row = ap (row_at c.certificate (s.before + 7)) there.there ∙ whole.row_is;
        started_is = frames-first c at.at.areas.pool below t.below frame.function t.frame.function at.during.inside.body.function at.during.flats;
        nothing = e;
      })
  far_by l t op g need values frame below there s ready linked at (Some taken) e = Came (calls_far c code l t op g need values frame below taken facts calls there s ready linked at e)

  linked_by : (l : Local) (t : FlatThread) (op : Op) (g need : ℕ) (values : List ℕ) (frame : Frame) (below : List Frame) (there : IsOperationAt c code t.frame.function t.frame.next op) (s : CallShape c t.frame.function t.frame.next op) → ReadyToCall c code l t op g values frame below s 0 →
      kind_of c.certificate op ≡ LinkKind.Linked need → (tested : Tested c code l t op need frame below s) → CallsOrCut c code l (called t g values)
  linked_by l t op g need values frame below there s ready linked tested = ⊎_elim
      (λ (short : frame.low - need < payload_place_of tested.next.areas.pool frame.chunk).
      let at = to_link c code l t op need frame below there s linked tested short in
      far_by l t op g need values frame below there s ready linked at (taken_for at.at.areas.pool need) refl)
      (λ (room : payload_place_of tested.next.areas.pool frame.chunk ≤ frame.low - need). Came (transfer_near c code l t op g need values frame below facts calls there s ready linked tested room))
      (cases_lt (frame.low - need) (payload_place_of tested.next.areas.pool frame.chunk))

  by_kind : (l : Local) (t : FlatThread) (op : Op) (g : ℕ) (values : List ℕ) (frame : Frame) (below : List Frame) (there : IsOperationAt c code t.frame.function t.frame.next op) (s : CallShape c t.frame.function t.frame.next op) → ReadyToCall c code l t op g values frame below s 0 →
      (kind : LinkKind) → kind_of c.certificate op ≡ kind → CallsOrCut c code l (called t g values)
  by_kind l t op g values frame below there s ready LinkKind.Plain e = Came (transfer_plain c code l t op g values frame below facts calls there s ready e)
  by_kind l t op g values frame below there s ready (LinkKind.Linked need) e =
      let none : s.before + 0 ≡ s.before = omega arith in
      linked_by l t op g need values frame below there s ready e
      (tests_room c code l t op need frame below facts there s e (calls.need_small t.frame.function t.frame.next g need op there.function there.there ready.calls e) (subst (λ (w : ℕ). During c l t w frame below) none ready.during))
  by_kind l t op g values frame below there s ready (LinkKind.Spawned need) e = absurd (calls.not_spawned t.frame.function t.frame.next g need op there.function there.there ready.calls e)

  -- ---- calls of functions

  call_during : (l : Local) (t : FlatThread) (site g : ℕ) (d : Option ℕ) (args values : List ℕ) (frame : Frame) (below : List Frame) → IsOperationAt c code t.frame.function t.frame.next (Op.Call site d g args) → During c l t 0 frame below → scalars t args ≡ Some values →
      CallsOrCut c code l (called t g values)
  call_during l t site g d args values frame below there during all =
      let op : Op = Op.Call site d g args in
      let n = length args in
      let known : g < length c.flat.functions = omega (arith, there.formed.0, length-map c.flat.functions signature_of) in
      let entry = calls.entries g known in
      let s : CallShape c t.frame.function t.frame.next op = call_shape c code t.frame.function t.frame.next g op there refl in
      let loaded = arguments_loaded c code l t op args values n frame below facts there (call_loads c code t.frame.function t.frame.next site g d args entry there) during all (omega arith) in
      let count = scalars-length t args values all in
      let none : n ≡ n + 0 = omega arith in
      cut_after c code n l loaded.after (called t g values) loaded.leads
      (by_kind loaded.after t op g values frame below there s
      (record {
        during = subst (λ (w : ℕ). During c loaded.after t w frame below) none loaded.during;
        calls = refl;
        known = known;
        count = count ∙ there.formed.1 ∙ parameters_of c.flat g there.formed.0;
        arguments_in = λ k lt. loaded.held k (omega (arith, count));
        ready = refl;
      })
      (kind_of c.certificate op) refl)

  pub call_or_cut : (l : Local) (t after : FlatThread) (site g : ℕ) (d : Option ℕ) (args : List ℕ) → Simulates c l t → standing c.flat t.frame ≡ Some (Op.Call site d g args) → flat_step c.flat t ≡ Goes after → CallsOrCut c code l after
  call_or_cut l t after site g d args simulates stands step =
      let op : Op = Op.Call site d g args in
      let there = facts.operation t.frame.function t.frame.next op (function_there c l t simulates) stands in
      let move : does c.flat t op ≡ Goes after = sym (ap (λ (o : Option Op). on o (does c.flat t)) stands) ∙ step in
      let values = was_there (scalars t args) (enters c.flat t g) (Goes after) move (not_lost_goes after) in
      let same : called t g values.value ≡ after = (let e = values.move in cc) in
      subst (CallsOrCut c code l) same (call_during l t site g d args values.value simulates.frame simulates.below there simulates.during values.is)

  pub call_alike : (l : Local) (t after : FlatThread) (site g : ℕ) (d : Option ℕ) (args : List ℕ) → Simulates c l t → standing c.flat t.frame ≡ Some (Op.Call site d g args) → flat_step c.flat t ≡ Goes after → CallsAlike c code l after
  call_alike l t after site g d args simulates stands step = alike (call_or_cut l t after site g d args simulates stands step)

  -- ---- calls through a table

  table_during : (l : Local) (t : FlatThread) (site table i x k v : ℕ) (d : Option ℕ) → IsWellFormed c.flat → IsOperationAt c code t.frame.function t.frame.next (Op.CallTable site d table i x) → Simulates c l t →
      scalar t i ≡ Some k → scalar t x ≡ Some v → k < length (members_of c.flat table) → CallsOrCut c code l (entered c t (get_or (members_of c.flat table) k 0) v)
  table_during l t site table i x k v d formed there simulates index value inside =
      let op : Op = Op.CallTable site d table i x in
      let g = get_or (members_of c.flat table) k 0 in
      let frame = simulates.frame in
      let below = simulates.below in
      let member = IsMemberAt-formed c table k formed there.formed.0 inside in
      let room = (calls.entries g member.known).room in
      let ready = readies c code l t site table i x k v d frame below facts there simulates.during index value inside (omega (arith, room)) in
      let s : CallShape c t.frame.function t.frame.next op = call_shape c code t.frame.function t.frame.next g op there member.contained in
      cut_after c code 10 l ready.next (entered c t g v) ready.leads
      (by_kind ready.next t op g (v ∷ []) frame below there s
      (record {
        during = ready.during;
        calls = member.contained;
        known = member.known;
        count = sym member.one;
        arguments_in = first_argument ready.next.core.x v ready.argument;
        ready = ready.entry_is;
      })
      (kind_of c.certificate op) refl)

  pub table_or_cut : (l : Local) (t after : FlatThread) (site table i x : ℕ) (d : Option ℕ) → IsWellFormed c.flat → Simulates c l t → standing c.flat t.frame ≡ Some (Op.CallTable site d table i x) → flat_step c.flat t ≡ Goes after → CallsOrCut c code l after
  table_or_cut l t after site table i x d formed simulates stands step =
      let op : Op = Op.CallTable site d table i x in
      let there = facts.operation t.frame.function t.frame.next op (function_there c l t simulates) stands in
      let move : does c.flat t op ≡ Goes after = sym (ap (λ (o : Option Op). on o (does c.flat t)) stands) ∙ step in
      let index = was_there (scalar t i) (λ k. on (scalar t x) (enters_by (members_of c.flat table) c.flat t k)) (Goes after) move (not_lost_goes after) in
      let value = was_there (scalar t x) (enters_by (members_of c.flat table) c.flat t index.value) (Goes after) index.move (not_lost_goes after) in
      let member = was_member c t after table index.value value.value value.move in
      subst (CallsOrCut c code l) member.1 (table_during l t site table i x index.value value.value d formed there simulates index.is value.is member.0)

  pub table_alike : (l : Local) (t after : FlatThread) (site table i x : ℕ) (d : Option ℕ) → IsWellFormed c.flat → Simulates c l t → standing c.flat t.frame ≡ Some (Op.CallTable site d table i x) → flat_step c.flat t ≡ Goes after → CallsAlike c code l after
  table_alike l t after site table i x d formed simulates stands step = alike (table_or_cut l t after site table i x d formed simulates stands step)
