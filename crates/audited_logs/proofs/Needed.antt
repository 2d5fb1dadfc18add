-- A line that is allowed is within the steps that may be taken, or needs more of them, whatever way its need is met.
use Rattle.audited_logs.proofs.Common.{◌≡◌, ℕ, suc, ◌+◌, ◌-◌, ◌<◌, ◌≤◌, ◌⊎◌, inl, inr, Some, sym, ap, ◌∙◌, arith, ⊎_elim, List, cases_lt, Goes, and_then, moves, Stop, ProgramTree, SegmentMove, Rested, segment_machine, Entry, StopLine, StopsBy, Given, PutsNext, RestsNext, IsCrowdedNext, ComesAt, live_in, IsAllowed, IsBeyond, Needs, silent_puts, silent_rests, one_put, one_rest, not_put_and_rest}
use Rattle.c_mean.specs.World as source
use Rattle.lawful_reading.specs.State.{Segment, State}
use Rattle.audited_logs.proofs.Steps.{keeps_step, keeps_moves, lives_more, threads_grow}
use Rattle.audited_logs.proofs.Cuts.{later_moves}

module _ (program : ProgramTree) (caps : List ℕ) (start : source.Segment) where
  -- what comes comes once

  as_put : (p n word : ℕ) (after : source.Segment) → PutsNext program caps start p word after → ComesAt program caps start n → n ≡ p
  as_put p n word after is (inl q) = sym (one_put program caps start after q.1 p n word q.0 is q.2).steps_are
  as_put p n word after is (inr q) = absurd (not_put_and_rest program caps start after p n word q.0 is q.1)

  as_rest : (p n : ℕ) (rested : Rested) → RestsNext program caps start p rested → ComesAt program caps start n → n ≡ p
  as_rest p n rested is (inl q) = absurd (not_put_and_rest program caps start q.1 n p q.0 rested q.2 is)
  as_rest p n rested is (inr q) = sym (one_rest program caps start p n rested q.0 is q.1).steps_are

  -- a start where as many live as may comes before it, and once
  after_crowd : (p n : ℕ) → IsCrowdedNext program caps start p → ComesAt program caps start n → p < n
  after_crowd p n is (inl q) = silent_puts program caps start is.here q.1 n q.0 p q.2 is.silent
  after_crowd p n is (inr q) = silent_rests program caps start is.here q.0 n p q.1 is.silent

  none_earlier : (p n : ℕ) → IsCrowdedNext program caps start p → IsCrowdedNext program caps start n → p < n → ⊥
  none_earlier p n is q before =
      let count : p + suc (n - suc p) ≡ n = omega (arith, before) in
      let on = later_moves program caps p n (suc (n - suc p)) start is.here (let m : SegmentMove = Goes q.here in m) is.silent.moved q.silent.moved count in
      let from_there : moves (segment_machine program caps) (n - suc p) is.after ≡ Goes q.here = sym (ap (λ (m : SegmentMove). and_then m (moves (segment_machine program caps) (n - suc p))) is.starts) ∙ on in
      let step = keeps_step program caps is.here (let m : SegmentMove = Goes is.after in m) is.starts in
      let rest = keeps_moves program caps (n - suc p) is.after q.here from_there in
      let first = lives_more is.here is.after step in
      let then = lives_more is.after q.here rest in
      let grown = threads_grow is.after q.here rest in
      let one = is.one_more in
      let most : live_in is.here.world ≡ 65535 = is.live in
      let also : live_in q.here.world ≡ 65535 = q.live in
      omega (arith, first, then, grown, one, most, also)

  as_crowd : (p n : ℕ) → IsCrowdedNext program caps start p → IsCrowdedNext program caps start n → n ≡ p
  as_crowd p n is q = ⊎_elim (λ (h : p < n). absurd (none_earlier p n is q h))
      (λ (h : n ≤ p). ⊎_elim (λ (k : n < p). absurd (none_earlier n p q is k)) (λ (k : p ≤ n). let same : n ≡ p = omega (arith, h, k) in same) (cases_lt n p))
      (cases_lt p n)

-- ---- the line

-- it leads to a state within the steps, or needs more
abbrev pub IsDecided : Given → State → Entry → State → Type 0
IsDecided g before entry after = (after.steps ≤ g.most_steps) ⊎ IsBeyond g before entry

by_none : (g : Given) (before : State) (entry : Entry) (after : State) → after.steps ≡ before.steps → before.steps ≤ g.most_steps → IsDecided g before entry after
by_none g before entry after same within = inl (omega (arith, same, within))

-- its need is met after no fewer steps than those that it has taken
by_some : (g : Given) (before : State) (entry : Entry) (after : State) (segment : Segment) (steps : ℕ) → before.segment ≡ Some segment → after.steps ≡ before.steps + steps →
    ((n : ℕ) → Needs g segment entry n → steps ≤ n) → IsDecided g before entry after
by_some g before entry after segment steps under same least = ⊎_elim
    (λ (h : g.most_steps < before.steps + steps).
    let beyond : IsDecided g before entry after = inr (record { segment = segment; under_way = under; beyond = λ n needs. (let few = least n needs in omega (arith, h, few)) }) in beyond)
    (λ (h : before.steps + steps ≤ g.most_steps). inl (omega (arith, h, same)))
    (cases_lt g.most_steps (before.steps + steps))

same_least : (n p : ℕ) → n ≡ p → p ≤ n
same_least n p e = omega (arith, e)

stop_decided : (g : Given) (before after : State) (line : StopLine) (steps : ℕ) → StopsBy g before line steps → after.steps ≡ before.steps + steps → before.steps ≤ g.most_steps → IsDecided g before (Entry.Stop line) after
stop_decided g before after StopLine.Done steps is same within = by_none g before (Entry.Stop StopLine.Done) after (let none = is.1 in omega (arith, same, none)) within
stop_decided g before after StopLine.Idle steps is same within = by_none g before (Entry.Stop StopLine.Idle) after (let none = is.1 in omega (arith, same, none)) within
stop_decided g before after (StopLine.Trace line) steps is same within = by_none g before (Entry.Stop (StopLine.Trace line)) after (let none = is.1 in omega (arith, same, none)) within
stop_decided g before after (StopLine.Cut thread (Stop.Trap kind) cost free) steps is same within =
    by_some g before (Entry.Stop (StopLine.Cut thread (Stop.Trap kind) cost free)) after is.segment steps is.under_way same
    (λ n comes. same_least n steps (as_rest g.program g.policy.caps is.segment.here steps n is.cause.0 is.cause.1 comes))
stop_decided g before after (StopLine.Cut thread Stop.NoChunk cost free) steps is same within =
    by_none g before (Entry.Stop (StopLine.Cut thread Stop.NoChunk cost free)) after (let none = is.cause in omega (arith, same, none)) within
stop_decided g before after (StopLine.Cut thread Stop.Fuel cost free) steps is same within =
    by_none g before (Entry.Stop (StopLine.Cut thread Stop.Fuel cost free)) after (let none = is.cause.1 in omega (arith, same, none)) within
stop_decided g before after (StopLine.Cut thread Stop.Threads cost free) steps is same within =
    by_some g before (Entry.Stop (StopLine.Cut thread Stop.Threads cost free)) after is.segment steps is.under_way same
    (λ n needs. ⊎_elim
    (λ (crowd : IsCrowdedNext g.program g.policy.caps is.segment.here n). same_least n steps (as_crowd g.program g.policy.caps is.segment.here steps n is.cause crowd))
    (λ (comes : ComesAt g.program g.policy.caps is.segment.here n). let later = after_crowd g.program g.policy.caps is.segment.here steps n is.cause comes in let least : steps ≤ n = omega (arith, later) in least)
    needs)

pub decided : (g : Given) (before : State) (entry : Entry) (after : State) → IsAllowed g before entry after → before.steps ≤ g.most_steps → IsDecided g before entry after
decided g before (Entry.Event clock item) after is within = by_none g before (Entry.Event clock item) after (ap (λ (s : State). s.steps) is.after_is) within
decided g before (Entry.Dropped clock item) after is within = by_none g before (Entry.Dropped clock item) after (ap (λ (s : State). s.steps) is.after_is) within
decided g before (Entry.Run clock thread node) after is within = by_none g before (Entry.Run clock thread node) after (ap (λ (s : State). s.steps) is.after_is) within
decided g before (Entry.Out thread value) after is within =
    by_some g before (Entry.Out thread value) after is.segment is.steps is.under_way (ap (λ (s : State). s.steps) is.after_is)
    (λ n comes. same_least n is.steps (as_put g.program g.policy.caps is.segment.here is.steps n is.word is.here is.puts comes))
decided g before (Entry.Block thread node key cost free) after is within =
    by_some g before (Entry.Block thread node key cost free) after is.segment is.steps is.closed.under_way (ap (λ (s : State). s.steps) is.after_is)
    (λ n comes. same_least n is.steps (as_rest g.program g.policy.caps is.segment.here is.steps n _ is.closed.rests comes))
decided g before (Entry.End thread cost free) after is within =
    by_some g before (Entry.End thread cost free) after is.segment is.steps is.closed.under_way (ap (λ (s : State). s.steps) is.after_is)
    (λ n comes. same_least n is.steps (as_rest g.program g.policy.caps is.segment.here is.steps n _ is.closed.rests comes))
decided g before (Entry.Edge from to count cost changes) after is within = by_none g before (Entry.Edge from to count cost changes) after (ap (λ (s : State). s.steps) is.after_is) within
decided g before (Entry.Stop line) after is within = stop_decided g before after line is.steps is.stops (ap (λ (s : State). s.steps) is.after_is) within
