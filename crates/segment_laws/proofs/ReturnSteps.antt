-- Returns of flat code, and the machine that stands for it.
use Rattle.segment_laws.proofs.Common.{◌≡◌, ℕ, ◌<◌, Bool, true, false, List, [], ◌∷◌, length, Option, Some, None, refl, sym, ap, subst, ◌∙◌, Finish, Goes, Stops, Op, function_at, FlatFrame, FlatThread, Finished, standing, on, scalar, returns, answered, does, flat_step, Frame, Local, Checked, AreFlatFrames, CallFacts, EndsAlike}
use Rattle.segment_laws.proofs.EndStub.{ends_thread}
use Rattle.segment_laws.proofs.Facts.{CodeFacts, IsOperationAt}
use Rattle.segment_laws.proofs.FrameWords.{stack_frame}
use Rattle.segment_laws.proofs.Returning.{HasReturned, returned_none, returned_some, returns_here}
use Rattle.segment_laws.proofs.Simulation.{During, Simulates, Reaches}
use Rattle.segment_laws.proofs.Unlinking.{returns_far}

module _ (c : Checked) (code : List ℕ) (facts : CodeFacts c code) (calls : CallFacts c) where
  operation_here : (l : Local) (t : FlatThread) (op : Op) → Simulates c l t → standing c.flat t.frame ≡ Some op → IsOperationAt c code t.frame.function t.frame.next op
  operation_here l t op simulates e =
      let is = simulates.during.inside in
      let known : t.frame.function < length c.flat.functions = subst (λ (f : ℕ). f < length c.flat.functions) is.body.function (stack_frame c l.areas.pool l.core.chain simulates.frame simulates.below is.stack).function in
      facts.operation t.frame.function t.frame.next op known e

  back_by : (l : Local) (t after : FlatThread) (frame : Frame) (below : List Frame) (flats : List FlatFrame) (value : Option ℕ) (word : ℕ) → HasReturned c code l frame below value → AreFlatFrames c l.areas.pool below flats → During c l t 0 frame below →
      ((function_at c.flat frame.function).gives ≡ true → value ≡ Some word) → returns c.flat t flats word ≡ Goes after → Reaches c code l after
  back_by l t after frame [] [] value word has are during gives e = absurd cc
  back_by l t after frame (b ∷ bs) (g ∷ gs) value word has are during gives e =
      let next : FlatThread = record { frame = answered c.flat g word; below = gs; globals = t.globals } in
      let same : next ≡ after = cc in
      subst (Reaches c code l) same (by frame.is_first refl)
    where
      by : (first : Bool) → frame.is_first ≡ first → Reaches c code l (record { frame = answered c.flat g word; below = gs; globals = t.globals })
      by true k = returns_far c code l frame b bs g gs t.globals value word facts calls has k are during.globals gives
      by false k = returns_here c code l frame b bs g gs t.globals value word facts calls has k are during.globals gives
  back_by l t after frame _ _ value word has are during gives e = absurd are

  ends_by : (l : Local) (t : FlatThread) (finish : Finish) (frame : Frame) (below : List Frame) (flats : List FlatFrame) (value : Option ℕ) (word : ℕ) → HasReturned c code l frame below value → AreFlatFrames c l.areas.pool below flats → During c l t 0 frame below →
      returns c.flat t flats word ≡ Stops (Finished finish) → EndsAlike c code l t finish
  ends_by l t finish frame [] [] value word has are during e =
      let ends = ends_thread c code l frame value facts has in
      let same : record { trap = None; globals = t.globals } ≡ finish = cc in
      record { count = ends.0; areas = _; comes = ends.1; finish_is = sym same; globals = during.globals }
  ends_by l t finish frame (b ∷ bs) (g ∷ gs) value word has are during e = absurd cc
  ends_by l t finish frame _ _ value word has are during e = absurd are

  no_result : (l : Local) (t : FlatThread) (frame : Frame) (below : List Frame) (word : ℕ) → IsOperationAt c code t.frame.function t.frame.next (Op.Return None) → During c l t 0 frame below → (function_at c.flat frame.function).gives ≡ true → None ≡ Some word
  no_result l t frame below word there during gives =
      let both : true ≡ false = sym gives ∙ ap (λ (f : ℕ). (function_at c.flat f).gives) during.inside.body.function ∙ there.formed in absurd cc

  pub return_alike : (l : Local) (t after : FlatThread) (s : Option ℕ) → Simulates c l t → standing c.flat t.frame ≡ Some (Op.Return s) → flat_step c.flat t ≡ Goes after → Reaches c code l after
  return_alike l t after None simulates stands step =
      let there = operation_here l t (Op.Return None) simulates stands in
      let during = simulates.during in
      back_by l t after simulates.frame simulates.below t.below None 0 (returned_none c code l t simulates.frame simulates.below facts there during) during.flats during
      (no_result l t simulates.frame simulates.below 0 there during) (sym (ap (λ (o : Option Op). on o (does c.flat t)) stands) ∙ step)
  return_alike l t after (Some x) simulates stands step = by (scalar t x) refl (sym (ap (λ (o : Option Op). on o (does c.flat t)) stands) ∙ step)
    where
      by : (v : Option ℕ) → scalar t x ≡ v → on v (returns c.flat t t.below) ≡ Goes after → Reaches c code l after
      by None k e = absurd cc
      by (Some v) k e =
          back_by l t after simulates.frame simulates.below t.below (Some v) v
          (returned_some c code l t x v simulates.frame simulates.below facts (operation_here l t (Op.Return (Some x)) simulates stands) simulates.during k) simulates.during.flats simulates.during (λ g. refl) e

  pub end_alike : (l : Local) (t : FlatThread) (finish : Finish) (s : Option ℕ) → Simulates c l t → standing c.flat t.frame ≡ Some (Op.Return s) → flat_step c.flat t ≡ Stops (Finished finish) → EndsAlike c code l t finish
  end_alike l t finish None simulates stands step =
      let there = operation_here l t (Op.Return None) simulates stands in
      let during = simulates.during in
      ends_by l t finish simulates.frame simulates.below t.below None 0 (returned_none c code l t simulates.frame simulates.below facts there during) during.flats during (sym (ap (λ (o : Option Op). on o (does c.flat t)) stands) ∙ step)
  end_alike l t finish (Some x) simulates stands step = by (scalar t x) refl (sym (ap (λ (o : Option Op). on o (does c.flat t)) stands) ∙ step)
    where
      by : (v : Option ℕ) → scalar t x ≡ v → on v (returns c.flat t t.below) ≡ Stops (Finished finish) → EndsAlike c code l t finish
      by None k e = absurd cc
      by (Some v) k e =
          ends_by l t finish simulates.frame simulates.below t.below (Some v) v
          (returned_some c code l t x v simulates.frame simulates.below facts (operation_here l t (Op.Return (Some x)) simulates stands) simulates.during k) simulates.during.flats simulates.during e
