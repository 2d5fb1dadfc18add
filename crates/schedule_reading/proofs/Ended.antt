-- The lines at the end of a log: what they leave standing, and how a ruling on a part of them is one on the line.
use Rattle.schedule_reading.proofs.Common.{◌≡◌, ◌↔◌, ℕ, suc, ◌+◌, ◌-◌, Bool, ◌<◌, ◌≤◌, true, false, List, [], ◌∷◌, length, drop, map, get_or, drop-cons, add-one, Option, Some, None, Result, Ok, Err, refl, sym, ap, ◌∙◌, subst, arith, ⊎_elim, Vec, is_some, edges_of, EdgeLine, Stop, edge_entry, StopsBy, edges_left, Given, IsBeyond, Needs, StopNeeds, Entry, StopLine, Between, Shown, Happening, Point, End, Under, Failure, Ruling, CrowdsFirst, HasHappened, KeepsBut, MayRun, AreLeft, AreOver, Fits, MayStopHere, RulesCause, RulesCut, RulesEdge, RulesStop, TellsStop, entry_of, stop_line, Core, Kept, ruled, CountsReads, IsPoint, Rules, StandsBetween, Shows, IsCounted, IsEnd, IsLooked, IsOf, IsTold, Stands, StandsAt, StandsBy, StandsUnless, StandsWithin, same_segment}
use Rattle.std.specs.declared.alloc.Global.{Global}
use Rattle.c_mean.specs.World as source
use Rattle.lawful_reading.specs.State as reading
use Rattle.lawful_reading.specs.State.{Segment, State, seen_of}
use Rattle.schedule_reading.specs.declared.reading.End.TheVariants as end
use Rattle.schedule_reading.specs.declared.rulings.Ruling.TheVariants as ruling
use Rattle.schedule_reading.proofs.Cutting.{cause_fuel, cause_needs}
use Rattle.schedule_reading.proofs.Keeping.{beside_other}
use Rattle.schedule_reading.proofs.Proceeding.{may_run}
use Rattle.schedule_reading.proofs.Unstopped.{between_by, stands_as, stands_by}
use Rattle.schedule_reading.proofs.Stopping.{edge_allowed, edge_none, edge_refused, left_over, over_left, stop_allowed, stop_refused, stop_within}

-- ---- the end of a state doesn't count

module _ (g : Given) (state : State) (e : reading.End) where
  abbrev ended : State
  ended = record state { end = e }

  counted_end : (k : Core) → IsCounted g state k → IsCounted g ended k
  counted_end k c = record { cost = c.cost; most_cost = c.most_cost; free = c.free; held = c.held; left = c.left; starts = c.starts }

  at_end : (clock : ℕ) (k : Core) → StandsAt g state clock k → StandsAt g ended clock k
  at_end clock k s = record {
    of = s.of;
    counted = counted_end k s.counted;
    between = s.between;
    clock_is = s.clock_is;
    later = s.later;
    threads = s.threads;
    resting = s.resting;
    globals = s.globals;
    full = s.full;
    scheduled = s.scheduled;
    past = s.past;
    gate = s.gate;
    timely = s.timely;
  }

  within_end : (k : Core) (under : Under) → StandsWithin g state k under → StandsWithin g ended k under
  within_end k under s = record {
    of = s.of;
    counted = counted_end k s.counted;
    segment = s.segment;
    under_way = s.under_way;
    clock_is = s.clock_is;
    runs = record {
      beside = let b = s.runs.beside in beside_other b ended _ k.threads.exchange b.are.exchange_is b.are.uses;
      thread = s.runs.thread;
      running = s.runs.running;
    };
    node_is = s.node_is;
    before_is = s.before_is;
    within_caps = s.within_caps;
    past = s.past;
    gate = s.gate;
    timely = s.timely;
  }

  pub by_end : (k : Core) (under : Option Under) → StandsBy g state k under → StandsBy g ended k under
  by_end k None s = at_end state.clock k s
  by_end k (Some under) s = within_end k under s

-- ---- what stands between segments and within one

module _ (g : Given) (state : State) (k : Core) where
  pub of_by : (under : Option Under) → StandsBy g state k under → IsOf g k
  of_by None s = s.of
  of_by (Some under) s = s.of

  pub edges_by : (under : Option Under) → StandsBy g state k under → k.graph.edges ≡ edges_of state.past.records
  edges_by None s = s.past.edges
  edges_by (Some under) s = s.past.edges

  pub steps_by : (under : Option Under) → StandsBy g state k under → state.steps ≤ g.most_steps
  steps_by None s = let c = s.counted.left in omega (arith, c)
  steps_by (Some under) s = let c = s.counted.left in omega (arith, c)

-- ---- the line of an edge

module _ (g : Given) (state : State) (old : Kept) (told : Option (List ℕ)) (line : Shown) (within : state.steps ≤ g.most_steps) where
  edge_enough : IsBeyond g state (entry_of line) → ⊥
  edge_enough b = let far = b.beyond 0 refl in omega (arith, far, within)

  pub edge_not : (mid : Kept) (told' : Option (List ℕ)) → TellsStop g state old told mid told' false → Rules g state old (entry_of line) told mid told' (Ok ruling.Refused)
  edge_not mid told' never t = record { refused = λ after a. (never t).0 a.may_stop; enough = edge_enough }

  not_stopped : (rest : List Entry) (e : End) → IsEnd g (record state { end = reading.Edges rest }) e → e ≡ end.Stopped → ⊥
  not_stopped rest e is same = absurd (let no : reading.Edges rest ≡ reading.Stopped = subst (IsEnd g (record state { end = reading.Edges rest })) same is in cc)

  module _ (mid : Kept) (told' : Option (List ℕ)) (may : MayStopHere g state old told mid told') (new : Kept) (rest_is : new ≡ record mid { end = new.end }) where
    edge_allows : RulesEdge g state mid line new (Ok ruling.Allowed) → Rules g state old (entry_of line) told new told' (Ok ruling.Allowed)
    edge_allows r = record {
      after = record state { end = reading.Edges r.0 };
      allowed = λ t. record { may_stop = may.may t; rest = r.0; first = r.1; after_is = refl };
      within = within;
      stands = stands_as g (record state { end = reading.Edges r.0 }) new r.2 (not_stopped r.0 new.end r.2)
          (subst (λ (k : Kept). StandsBy g (record state { end = reading.Edges r.0 }) k.core k.under) (sym rest_is) (by_end g state (reading.Edges r.0) mid.core mid.under may.stands))
          (subst (λ (k : Kept). IsLooked k.reader k.next) (sym rest_is) may.looked);
      trace = λ t. subst (λ (k : Kept). IsTold state k told') (sym rest_is) (may.trace t);
    }

    pub edge_ruled : (result : Result Ruling Failure) → RulesEdge g state mid line new result → Rules g state old (entry_of line) told new told' result
    edge_ruled (Ok ruling.Allowed) r = edge_allows r
    edge_ruled (Ok ruling.Refused) r = λ t. record { refused = λ after a. r a.rest a.first; enough = edge_enough }
    edge_ruled (Ok ruling.OutOfSteps) r = absurd r
    edge_ruled (Err failure) r = tt

-- ---- the stop

module _ (g : Given) (state : State) where
  stops_need : (line : StopLine) (steps : ℕ) (segment : Segment) → state.segment ≡ Some segment → StopsBy g state line steps → Needs g segment (Entry.Stop line) steps
  stops_need (StopLine.Cut thread stop cost free) steps segment under_way s =
      subst (λ (x : Segment). StopNeeds g x stop steps) (same_segment state s.segment segment s.under_way under_way) (cause_needs g state s.segment stop cost steps s.cause)
  stops_need _ steps segment under_way s = s.1

  pub going_on : (e : End) → IsEnd g state e → (e ≡ end.Stopped → ⊥) → state.end ≡ reading.Stopped → ⊥
  going_on end.NotYet is going same = absurd (let no : reading.NotYet ≡ reading.Stopped = sym is ∙ same in cc)
  going_on (end.Edges edges read) is going same = absurd (let no : reading.Edges _ ≡ reading.Stopped = sym is.0 ∙ same in cc)
  going_on end.Stopped is going same = going refl

  module _ (old : Kept) (told : Option (List ℕ)) (line : StopLine) (new : Kept) (told' : Option (List ℕ)) where
    -- the edges are over
    pub stop_ends : RulesStop g state old told line (Ok ruling.Allowed) → (state.end ≡ reading.Stopped → ⊥) → edges_left g state state.end ≡ [] → (IsTold state old told → IsTold state new told') → new.end ≡ end.Stopped →
        Rules g state old (Entry.Stop line) told new told' (Ok ruling.Allowed)
    stop_ends r going over trace ends = record {
      after = record state { segment = None; steps = state.steps + r.0; end = reading.Stopped };
      allowed = λ t. record { first = going; edges_over = over; steps = r.0; stops = r.1 t; after_is = refl };
      within = r.2;
      stands = record {
        end_is = subst (IsEnd g (record state { segment = None; steps = state.steps + r.0; end = reading.Stopped })) (sym ends) refl;
        stands = subst (StandsUnless g (record state { segment = None; steps = state.steps + r.0; end = reading.Stopped }) new) (sym ends) refl;
      };
      trace = trace;
    }

    -- some edge is left
    pub stop_early : RulesStop g state old told line (Ok ruling.Allowed) → (edges_left g state state.end ≡ [] → ⊥) → Rules g state old (Entry.Stop line) told new told' (Ok ruling.Refused)
    stop_early r some t = record {
      refused = λ after a. some a.edges_over;
      enough = λ b.
          let far = b.beyond r.0 (stops_need line r.0 b.segment b.under_way (r.1 t)) in
          let near = r.2 in omega (arith, far, near);
    }

    pub stop_not : RulesStop g state old told line (Ok ruling.Refused) → Rules g state old (Entry.Stop line) told new told' (Ok ruling.Refused)
    stop_not r t = record { refused = λ after a. (r t).0 a.steps a.stops; enough = (r t).1 }

-- ---- the next edge

module _ (g : Given) (state : State) (line : Shown) (items : List EdgeLine) (read : ℕ) (left : edges_left g state state.end ≡ map (edge_entry g.policy.caps) (drop read items)) (caps : List ℕ) (caps_are : caps ≡ g.policy.caps) where
  module _ (edge : EdgeLine) (below : read < length items) (same : edge ≡ get_or items read edge) where
    next_is : drop read items ≡ edge ∷ drop (read + 1) items
    next_is = drop-cons items read edge below ∙ ap (λ (x : EdgeLine). x ∷ drop (suc read) items) (sym same) ∙ ap (λ (n : ℕ). edge ∷ drop n items) (sym (add-one read))

    pub edge_taken : Shows edge caps line → (rest : List Entry) × (edges_left g state state.end ≡ entry_of line ∷ rest) × ((reading.Edges rest ≡ reading.Edges (map (edge_entry g.policy.caps) (drop (read + 1) items))) × (read + 1 ≤ length items))
    edge_taken shows = (map (edge_entry g.policy.caps) (drop (read + 1) items), edge_allowed g state items items read left caps caps_are edge (drop (read + 1) items) line next_is shows, (refl, omega (arith, below)))

    pub edge_other : (Shows edge caps line → ⊥) → (rest : List Entry) → edges_left g state state.end ≡ entry_of line ∷ rest → ⊥
    edge_other never = edge_refused g state items items read left caps caps_are edge (drop (read + 1) items) line next_is never

  pub edge_missing : length items ≤ read → (rest : List Entry) → edges_left g state state.end ≡ entry_of line ∷ rest → ⊥
  edge_missing over = edge_none g state items items read left caps caps_are line over

-- no edges are kept
pub edge_over : (g : Given) (state : State) (line : Shown) (e : End) → AreLeft g state e → ((edges : Vec EdgeLine Global) (read : ℕ) → e ≡ end.Edges edges read → ⊥) → (rest : List Entry) → edges_left g state state.end ≡ entry_of line ∷ rest → ⊥
edge_over g state line end.NotYet left never rest first = left
edge_over g state line (end.Edges edges read) left never rest first = never edges read refl
edge_over g state line end.Stopped left never rest first = absurd (let both : [] ≡ entry_of line ∷ rest = sym left ∙ first in cc)

-- ---- a stop that cuts the segment

-- what has come where starts that are one too many are asked for, by one step more than are left
pub record CrowdCame (g : Given) (state : State) (old : Kept) (old_under : Under) (stands : StandsWithin g state old.core old_under) (left : ℕ) (k : Core) (under : Under) (result : Result Happening Failure) : Type 0 where
  pub happened : HasHappened g state stands.segment.here (old.core.left + 1) left k under result
  pub first : CrowdsFirst g stands.segment.here true (old.core.left + 1 - left) result
  pub few : left ≤ old.core.left + 1

pub crowd_came : (g : Given) (state : State) (old : Kept) (old_under : Under) (most left : ℕ) (k : Core) (under : Under) (result : Result Happening Failure) → most ≡ old.core.left →
    ((g' : Given) (s : State) (here : source.Segment) → MayRun g' s here old.core old_under (most + 1) → HasHappened g' s here (most + 1) left k under result) →
    ((g' : Given) (s : State) (here : source.Segment) → MayRun g' s here old.core old_under (most + 1) → CrowdsFirst g' here true (most + 1 - left) result) →
    KeepsBut old.core old_under (most + 1) k under left → (stands : StandsWithin g state old.core old_under) → CrowdCame g state old old_under stands left k under result
crowd_came g state old old_under most left k under result same happens crowds keeps stands = record {
  happened = subst (λ (n : ℕ). HasHappened g state stands.segment.here (n + 1) left k under result) same (happens g state stands.segment.here may);
  first = subst (λ (n : ℕ). CrowdsFirst g stands.segment.here true (n + 1 - left) result) same (crowds g state stands.segment.here may);
  few = let few = keeps.fewer in omega (arith, few, same);
} where
  may : MayRun g state stands.segment.here old.core old_under (most + 1)
  may = may_run g state old.core old_under stands (most + 1) (omega (arith, same))

pub fuel_spent : (g : Given) (state : State) (k : Core) (under : Under) (stands : StandsWithin g state k under) (cost : ℕ) (b : Bool) → (b ≡ true) ↔ (k.cost + cost ≡ k.policy.fuel) → RulesCause g state Stop.Fuel cost (Ok (ruled b))
fuel_spent g state k under stands cost b is = cause_fuel g state cost stands.segment stands.under_way (let c = stands.counted.left in omega (arith, c)) b
    (λ yes. let spent = is.0 yes in let here = stands.counted.cost in let fuel = stands.of.fuel in omega (arith, spent, here, fuel))
    (λ no spent.
    let here = stands.counted.cost in let fuel = stands.of.fuel in
    let yes : b ≡ true = is.1 (omega (arith, spent, here, fuel)) in
    absurd (let both : true ≡ false = sym yes ∙ no in cc))

-- ---- a stop at a choice point

pub under_none : (o : Option Under) → is_some o ≡ false → o ≡ None
under_none None e = refl
under_none (Some u) e = absurd (let no : true ≡ false = e in cc)

pub stop_ruled : (g : Given) (state : State) (old : Kept) (told : Option (List ℕ)) (new : Kept) (told' : Option (List ℕ)) (p : Point) (stop : Between) (b : Bool) → (b ≡ true) ↔ Fits p stop → Stands g state old → (old.end ≡ end.Stopped → ⊥) → old.under ≡ None →
    ((g' : Given) (s : State) → StandsBetween g' s old → IsPoint g' s old told new told' p) → RulesStop g state old told (stop_line stop) (Ok (ruled b))
stop_ruled g state old told new told' p stop b is stands going none at = by b refl where
  between : StandsBetween g state old
  between = between_by g state old stands going none

  point_is : IsPoint g state old told new told' p
  point_is = at g state between

  within : state.steps ≤ g.most_steps
  within = let c = between.0.counted.left in omega (arith, c)

  by : (c : Bool) → b ≡ c → RulesStop g state old told (stop_line stop) (Ok (ruled c))
  by true e = stop_allowed g state old told within new told' between.0.between p stop (is.0 e) point_is
  by false e = stop_refused g state old told within new told' between.0.between p stop (λ fits. let both : true ≡ false = sym (is.1 fits) ∙ e in absurd (cc)) point_is

pub under_stop : (g : Given) (state : State) (old : Kept) (told : Option (List ℕ)) (stop : Between) → Stands g state old → (old.end ≡ end.Stopped → ⊥) → is_some old.under ≡ true → RulesStop g state old told (stop_line stop) (Ok ruling.Refused)
under_stop g state old told stop stands going some = stop_within g state old told stop (way old.under some by.0) (steps_by g state old.core old.under by.0) where
  by : StandsBy g state old.core old.under × IsLooked old.reader old.next
  by = stands_by g state old stands going

  way : (o : Option Under) → is_some o ≡ true → StandsBy g state old.core o → (seen_of state).under_way ≡ true
  way None e s = absurd (let no : false ≡ true = e in cc)
  way (Some u) e s = ap is_some s.under_way

-- ---- a stop by its line

pub cut_stop : (g : Given) (state : State) (old : Kept) (told : Option (List ℕ)) (line : StopLine) (result : Result Ruling Failure) → RulesCut g state line result → RulesStop g state old told line result
cut_stop g state old told line (Ok ruling.Allowed) r = (r.0, λ t. r.1, r.2)
cut_stop g state old told line (Ok ruling.Refused) r = λ t. r
cut_stop g state old told line (Ok ruling.OutOfSteps) r = r
cut_stop g state old told line (Err failure) r = tt

-- no read has failed
module _ (g : Given) (state : State) where
  pub cut_counts : (line : StopLine) (result : Result Ruling Failure) (faults : ℕ) → RulesCut g state line result → CountsReads result faults faults
  cut_counts line (Err Failure.Read) faults r = absurd (let no : Failure.Read ≡ Failure.Memory = r in cc)
  cut_counts line _ faults r = refl

  pub edge_counts : (old : Kept) (line : Shown) (new : Kept) (result : Result Ruling Failure) (before after : ℕ) → RulesEdge g state old line new result → after ≡ before → CountsReads result before after
  edge_counts old line new (Err Failure.Read) before after r same = absurd (let no : Failure.Read ≡ Failure.Memory = r in cc)
  edge_counts old line new _ before after r same = same

-- the edges that are over, or not
module _ (g : Given) (state : State) (k : Kept) (stands : Stands g state k) (going : k.end ≡ end.Stopped → ⊥) where
  edges_here : k.core.graph.edges ≡ edges_of state.past.records
  edges_here = edges_by g state k.core k.under (stands_by g state k stands going).0

  pub none_left : AreOver k.core k.end → edges_left g state state.end ≡ []
  none_left over = over_left g state k.core k.end stands.end_is edges_here over

  pub some_left : (AreOver k.core k.end → ⊥) → edges_left g state state.end ≡ [] → ⊥
  some_left some none = ⊎_elim going (λ no. no) (left_over g state k.core k.end stands.end_is edges_here some none)
