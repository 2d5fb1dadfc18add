use Rattle.scheduler.proofs.Common.{◌≡◌, ◌<◌, ◌+◌, ℕ, Bool, length, None, Some, position, set, length-set, slice_index, refl, ◌∙◌, rules, ThreadId, AreExact, IsLawfulChoice, choice_of, entries_in, is_eligible, is_of, places_in, queue_in, score, last_of, queue_of}
use Rattle.scheduler.specs.declared.choosing.Candidate.{Candidate}
use Rattle.scheduler.proofs.ChoiceLemmas.{lawful-queued, Contains-find}
use Rattle.scheduler.proofs.FindLemmas.{all_exact}
use Rattle.scheduler.proofs.QueueLemmas.{emptied, found_place, place_below}
use Rattle.scheduler.proofs.StateLemmas.{state_of, lawful_by_queues, node-placed, noted_from, queue_at, taken_of}
use Rattle.scheduler.proofs.scheduler.Scheduler.take_choice.Given.{Over}
use Rattle.scheduler.proofs.scheduler.Scheduler.take_choice.Goals.{After-best_met-best}
use Rattle.scheduler.proofs.scheduler.Scheduler.take_choice.Goals as goal

abbrev eligible : (g : Over) → After-best_met-best g → ThreadId → Bool
eligible g c =
    let w = c.args.world.now in is_eligible (g.W.Ready.is_ready w) (g.W.Ready.at_accept w) (g.W.Ready.any_elsewhere w) c.args.monitor.now.is_open

-- the needs tell who is eligible
known : (g : Over) (c : After-best_met-best g) (node : ℕ) → AreExact c.bounds_at_gate-bounds.result (eligible g c) (entries_in c.self.inside.queues.queues node)
known g c =
    all_exact c.self.inside.queues.queues (length c.self.inside.lasts.items) c.self.invariant.placed (g.W.Bounded.vouches c.args.world.now)
    c.bounds_at_gate-bounds.result (eligible g c) (λ thread need vouched. rw (← c.gate.ensures) (c.bounds_at_gate-bounds.ensures thread need vouched))
    (rw (← c.self.view_is) at c.requires.known)

-- the choice is lawful
lawful : (g : Over) (c : After-best_met-best g) → IsLawfulChoice (queue_of c.args.self.now) (eligible g c) (score c.args.monitor.now c.args.graph.now.edges)
    (last_of c.args.self.now) (choice_of c.best_met-best.result)
lawful g c =
    let queues = c.self.inside.queues.queues in
    let lasts = c.self.inside.lasts.items in
    rw (← c.self.view_is)
    (lawful_by_queues (queue_in queues) (queue_of (state_of queues lasts c.self.inside.noted)) (eligible g c) (score c.args.monitor.now c.args.graph.now.edges)
    (slice_index lasts) (choice_of c.best_met-best.result) (queue_at queues (length lasts) c.self.invariant.placed)
    (rw c.as_slice-lasts.ensures.value at (c.best_met-best.ensures.lawful (eligible g c) (known g c))))

-- its thread is at its place in its node's queue, and the node has a place
found : (g : Over) (c : After-best_met-best g) (candidate : Candidate) → c.best_met-best.result ≡ Some candidate →
    (position (is_of candidate.thread) (places_in c.self.inside.queues.queues candidate.rank.node) ≡ Some candidate.place)
    × (candidate.rank.node < length c.self.inside.lasts.items)
found g c candidate is =
    let queues = c.self.inside.queues.queues in
    let node = candidate.rank.node in
    let first = (rw is at (c.best_met-best.ensures.lawful (eligible g c) (known g c))).first in
    let place = rw is at (c.best_met-best.ensures.place (eligible g c) (known g c)) in (
      found_place (eligible g c) (places_in queues node) candidate.place candidate.thread place first,
      node-placed queues (length c.self.inside.lasts.items) node candidate.thread c.self.invariant.placed
          (Contains-find (eligible g c) (queue_in queues node) candidate.thread first),
    )

pub leave_at-requires-clause-place : goal.leave_at-requires-clause-place
leave_at-requires-clause-place g c =
    let candidate = c.in-Some.candidate in
    place_below (is_of candidate.thread) (places_in c.self.inside.queues.queues candidate.rank.node) None candidate.place
    (found g (goal.at.leave_at-requires-clause-place g c).After-best_met-best candidate c.in-Some.is).0

pub index_mut-requires : goal.index_mut-requires
index_mut-requires g c =
    let at : c.in-Some.candidate.rank.node < length c.self.inside.lasts.items =
    (found g (goal.at.index_mut-requires g c).After-best_met-best c.in-Some.candidate c.in-Some.is).1 in
    search rules

pub returns-clause-lawful : goal.returns-clause-lawful
returns-clause-lawful g c = rw c.in-Some.is at (lawful g (goal.at.returns-clause-lawful g c).After-best_met-best)

pub returns-clause-queued : goal.returns-clause-queued
returns-clause-queued g c =
    let at = (goal.at.returns-clause-queued g c).After-best_met-best in
    lawful-queued (queue_of c.args.self.now) (eligible g at) (score c.args.monitor.now c.args.graph.now.edges) (last_of c.args.self.now)
    (Some (record { thread = c.in-Some.candidate.thread; node = c.in-Some.candidate.rank.node })) (returns-clause-lawful g c)

pub returns-clause-taken : goal.returns-clause-taken
returns-clause-taken g c =
    let candidate = c.in-Some.candidate in
    let lasts = c.self.inside.lasts.items in
    let noted = c.self.inside.noted in
    let here = (found g (goal.at.returns-clause-taken g c).After-best_met-best candidate c.in-Some.is).0 in
    rw (← c.self.view_is)
    (taken_of (record { thread = candidate.thread; node = candidate.rank.node }) c.self.inside.queues.queues c.leave_at.new.self.queues lasts
    (set lasts candidate.rank.node (noted + 1)) noted (noted + 1) c.self.invariant.placed (length-set lasts candidate.rank.node (noted + 1))
    (c.leave_at.ensures.queue ∙ emptied candidate.thread (places_in c.self.inside.queues.queues candidate.rank.node) candidate.place here)
    c.leave_at.ensures.others c.leave_at.ensures.nodes)

pub returns-in_default-clause-lawful : goal.returns-in_default-clause-lawful
returns-in_default-clause-lawful g c = rw c.in_default.is at (lawful g (goal.at.returns-in_default-clause-lawful g c).After-best_met-best)

pub returns-clause-noted : goal.returns-clause-noted
returns-clause-noted g c =
    let candidate = c.in-Some.candidate in
    let lasts = c.self.inside.lasts.items in
    let noted = c.self.inside.noted in
    let at = (found g (goal.at.returns-clause-noted g c).After-best_met-best candidate c.in-Some.is).1 in
    rw (← c.self.view_is)
    (noted_from (record { thread = candidate.thread; node = candidate.rank.node }) (state_of c.self.inside.queues.queues lasts noted)
    (state_of c.leave_at.new.self.queues (set lasts candidate.rank.node (noted + 1)) (noted + 1))
    (rw (← c.self.view_is) at (returns-clause-taken g c)) at refl refl)
