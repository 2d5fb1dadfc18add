use Rattle.segment_run.proofs.Common.{◌≡◌, ℕ, ◌-◌, List, Some, refl, sym, ap, subst, ◌∙◌, arith, inl, inr, length-set, accepted_tree, Frame, chain_below, key_of, sites_of, operation_at, site_in, checked_of, core_of, IsInCall, IsAroundCall, IsWalked}
use Rattle.segment_run.proofs.Walks.{Next, around_of, around_call, last_returns, not_last, first_key, next_walked, key_last, key_full, source_key, low_return}
use Rattle.segment_run.proofs.walking.walk.Goals as goal
use Rattle.segment_run.proofs.walking.walk.Goals.{After-ecall_of-ecall, Else-returns-eq-END_STUB, After-new, After-new-2}

-- the call around which the thread rests
resting : (c : After-ecall_of-ecall) (f i : ℕ) (frames : List Frame) →
    IsAroundCall (checked_of c.args.accepted.now) c.args.pool.now (core_of c.args.pool.now c.args.context.now) f i frames →
    (site : ℕ) × IsInCall (checked_of c.args.accepted.now) c.ecall_of-ecall.result f site ×
    (site_in (operation_at (checked_of c.args.accepted.now).flat f i) ≡ Some site)
resting c f i frames around =
    let a = c.args.accepted.now in
    around_call (accepted_tree a) a.image a.certificate a.program.well_scoped c.are_sound.ensures.valid c.args.pool.now c.args.context.now _ f i frames around
    (λ word op at. c.ecall_of-ecall.ensures.at f i word op frames at) (λ word op place past. c.ecall_of-ecall.ensures.behind f i word op place frames past)

pub call_at-blocking-requires-clause-there : goal.call_at-blocking-requires-clause-there
call_at-blocking-requires-clause-there c =
    let (f, i, frames, around) = around_of _ _ _ c.requires in
    let call = resting (goal.at.call_at-blocking-requires-clause-there c).After-ecall_of-ecall f i frames around in
    (f, call.0, call.1)

pub loop-count-init : goal.loop-count-init
loop-count-init c = (
  refl,
  λ f i frames around.
      let a = c.args.accepted.now in
      let call = resting (goal.at.loop-count-init c).After-ecall_of-ecall f i frames around in
      let blocking = c.call_at-blocking in
      first_key (accepted_tree a) a.image a.certificate a.program.well_scoped c.are_sound.ensures.valid c.args.pool.now c.args.context.now f i frames around
      call.0 blocking.result.function blocking.result.site call.2 (blocking.ensures.function f call.0 call.1) (blocking.ensures.site f call.0 call.1),
)

-- the frame below the one that was read
next_of : (c : Else-returns-eq-END_STUB) (key : List ℕ)
    (w : IsWalked (checked_of c.args.accepted.now) c.args.pool.now key c.loop-count.frame c.loop-count.sites c.loop-count.count) →
    (let a = c.args.accepted.now in Next (accepted_tree a) a.image a.certificate a.program.well_scoped c.are_sound.ensures.valid)
    c.args.pool.now c.loop-count.frame w.chain w.at w.below
next_of c key w =
    let a = c.args.accepted.now in
    not_last (accepted_tree a) a.image a.certificate a.program.well_scoped c.are_sound.ensures.valid _ _ w.chain w.at w.below w.is_read
    (λ stub. c.if-returns-eq-END_STUB.false (c.return_of-returns.ensures w.chain w.at w.below w.is_read ∙ stub))

pub return_of-returns-requires-clause-there : goal.return_of-returns-requires-clause-there
return_of-returns-requires-clause-there c =
    let (f, i, frames, around) = around_of _ _ _ c.requires in
    let w = c.loop-count.invariant.1 f i frames around in
    (w.chain, w.at, w.below, w.is_read)

pub overflow_sub-returns : goal.overflow_sub-returns
overflow_sub-returns c =
    let a = c.args.accepted.now in
    let (f, i, frames, around) = around_of _ _ _ c.requires in
    let w = c.loop-count.invariant.1 f i frames around in
    let next = next_of (goal.at.overflow_sub-returns c).Else-returns-eq-END_STUB _ w in
    let returns = c.return_of-returns.ensures w.chain w.at w.below w.is_read in
    omega (arith, returns, low_return (accepted_tree a) a.image a.certificate a.program.well_scoped c.are_sound.ensures.valid w.at.returns next.next next.comes)

pub call_at-call-requires-clause-there : goal.call_at-call-requires-clause-there
call_at-call-requires-clause-there c =
    let (f, i, frames, around) = around_of _ _ _ c.requires in
    let w = c.loop-count.invariant.1 f i frames around in
    let next = next_of (goal.at.call_at-call-requires-clause-there c).Else-returns-eq-END_STUB _ w in
    let returns = c.return_of-returns.ensures w.chain w.at w.below w.is_read in
    let call = subst (λ (n : ℕ). IsInCall (checked_of c.args.accepted.now) (n - 4) next.next.function next.comes.site) (sym returns) next.comes.call in
    (next.next.function, next.comes.site, call)

pub frame_below-frame-requires-clause-there : goal.frame_below-frame-requires-clause-there
frame_below-frame-requires-clause-there c =
    let (f, i, frames, around) = around_of _ _ _ c.requires in
    let w = c.loop-count.invariant.1 f i frames around in
    let next = next_of (goal.at.frame_below-frame-requires-clause-there c).Else-returns-eq-END_STUB _ w in
    (w.chain, w.at, next.next, next.rest, next.is_read)

pub loop-count-preserved : goal.loop-count-preserved
loop-count-preserved c = (
  length-set c.loop-count.sites c.loop-count.count c.call_at-call.result.site ∙ c.loop-count.invariant.0,
  λ f i frames around.
      let checked = checked_of c.args.accepted.now in
      let w = c.loop-count.invariant.1 f i frames around in
      let next = next_of (goal.at.loop-count-preserved c).Else-returns-eq-END_STUB _ w in
      let returns = c.return_of-returns.ensures w.chain w.at w.below w.is_read in
      let call = subst (λ (n : ℕ). IsInCall checked (n - 4) next.next.function next.comes.site) (sym returns) next.comes.call in
      let function = c.call_at-call.ensures.function next.next.function next.comes.site call in
      let site = c.call_at-call.ensures.site next.next.function next.comes.site call in
      next_walked checked _ (key_of checked f i frames) c.loop-count.sites c.loop-count.count c.call_at-call.result.site c.frame_below-frame.result
      (chain_below w.at.is_first w.chain) next.next w.below next.rest c.loop-count.invariant.0 c.loop-count-test.true w.key_is next.below_is
      (next.comes.named ∙ ap Some (sym site))
      (c.frame_below-frame.ensures w.chain w.at next.next next.rest next.is_read (sym function)),
)

-- ---- the key: where the last frame was read

last : (c : After-new) (f i : ℕ) (frames : List Frame) →
    IsAroundCall (checked_of c.args.accepted.now) c.args.pool.now (core_of c.args.pool.now c.args.context.now) f i frames →
    c.new.result ≡ key_of (checked_of c.args.accepted.now) f i frames
last c f i frames around =
    let a = c.args.accepted.now in
    let w = c.loop-count.invariant.1 f i frames around in
    let returns = c.return_of-returns.ensures w.chain w.at w.below w.is_read in
    let none = last_returns (accepted_tree a) a.image a.certificate a.program.well_scoped c.are_sound.ensures.valid _ _ w.chain w.at w.below w.is_read
    (sym returns ∙ c.if-returns-eq-END_STUB.true) in
    c.new.ensures ∙ key_last (checked_of a) (key_of (checked_of a) f i frames) c.loop-count.sites c.loop-count.count w.below w.key_is none

pub returns-then-returns-eq-END_STUB-clause-at : goal.returns-then-returns-eq-END_STUB-clause-at
returns-then-returns-eq-END_STUB-clause-at c = λ f i word op frames at. last c f i frames (inl (op, word, at))

pub returns-then-returns-eq-END_STUB-clause-behind : goal.returns-then-returns-eq-END_STUB-clause-behind
returns-then-returns-eq-END_STUB-clause-behind c = λ f i word op place frames past. last c f i frames (inr (op, word, place, past))

pub returns-then-returns-eq-END_STUB-clause-source : goal.returns-then-returns-eq-END_STUB-clause-source
returns-then-returns-eq-END_STUB-clause-source c = λ rests waiting stands.
    let pool = c.args.pool.now in
    source_key (checked_of c.args.accepted.now) (accepted_tree c.args.accepted.now) pool (core_of pool c.args.context.now) _ (last c) rests waiting stands

-- ---- and where eight sites were

full : (c : After-new-2) (f i : ℕ) (frames : List Frame) →
    IsAroundCall (checked_of c.args.accepted.now) c.args.pool.now (core_of c.args.pool.now c.args.context.now) f i frames →
    c.new-2.result ≡ key_of (checked_of c.args.accepted.now) f i frames
full c f i frames around =
    let checked = checked_of c.args.accepted.now in
    let w = c.loop-count.invariant.1 f i frames around in
    c.new-2.ensures ∙ key_full (key_of checked f i frames) c.loop-count.sites (sites_of checked w.below) c.loop-count.count c.loop-count.invariant.0
    (omega (arith, c.loop-count-test.false)) (omega (arith, c.loop-count.auto.count-end)) w.key_is

pub returns-clause-at : goal.returns-clause-at
returns-clause-at c = λ f i word op frames at. full c f i frames (inl (op, word, at))

pub returns-clause-behind : goal.returns-clause-behind
returns-clause-behind c = λ f i word op place frames past. full c f i frames (inr (op, word, place, past))

pub returns-clause-source : goal.returns-clause-source
returns-clause-source c = λ rests waiting stands.
    let pool = c.args.pool.now in
    source_key (checked_of c.args.accepted.now) (accepted_tree c.args.accepted.now) pool (core_of pool c.args.context.now) _ (full c) rests waiting stands
