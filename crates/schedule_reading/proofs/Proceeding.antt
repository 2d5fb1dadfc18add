-- The thread under way goes on: what is kept then, and how many steps it took.
use Rattle.schedule_reading.proofs.Common.{◌≡◌, ℕ, ◌+◌, ◌-◌, ◌<◌, ◌≤◌, inl, inr, List, length, Some, Result, Ok, refl, sym, ap, ◌∙◌, subst, arith, ℤ, drop, map, signed, Block, TrapKind, count_of, edge_entry, all_caps, Given, chunks_of, ComesAt, IsSilent, PutsNext, IsBeyond, Needs, IsOut, one_put, silent_puts, silent_rests, Entry, NoneAbove, Choice, Happening, End, Under, Failure, HasProceeded, HasHappened, KeepsBut, MayRun, Rests, Core, HasPast, IsEnd, IsOf, IsRunning, IsTimely, StandsWithin, same_segment}
use Rattle.c_mean.specs.World as source
use Rattle.lawful_reading.specs.State as reading
use Rattle.lawful_reading.specs.State.{Segment, State}
use Rattle.schedule_reading.specs.declared.events.Happening.TheVariants as happening
use Rattle.schedule_reading.specs.declared.reading.End.TheVariants as end
use Rattle.schedule_reading.proofs.Keeping.{beside_other, of_with}

-- ---- the end of the log

pub not_yet : (g : Given) (state : State) (e : End) → IsEnd g state e → state.end ≡ reading.NotYet → e ≡ end.NotYet
not_yet g state end.NotYet is same = refl
not_yet g state (end.Edges edges read) is same = absurd (let no : reading.Edges (map (edge_entry g.policy.caps) (drop read edges.items)) ≡ reading.NotYet = sym is.0 ∙ same in cc)
not_yet g state end.Stopped is same = absurd (let no : reading.Stopped ≡ reading.NotYet = sym is ∙ same in cc)

pub yet_not : (g : Given) (state : State) (e : End) → IsEnd g state e → e ≡ end.NotYet → state.end ≡ reading.NotYet
yet_not g state e is same = subst (IsEnd g state) same is

-- an end is that of another state with the same one
pub end_as : (g : Given) (state other : State) (e : End) → other.end ≡ state.end → IsEnd g state e → IsEnd g other e
end_as g state other (end.Edges edges read) same is = (same ∙ is.0, is.1)
end_as g state other _ same is = same ∙ is

-- ---- what a run keeps

pub of_keeps : (g : Given) (old new : Core) (old_under under : Under) (a b : ℕ) → KeepsBut old old_under a new under b → IsOf g old → IsOf g new
of_keeps g old new old_under under a b keeps of =
    of_with g old new (ap (λ (k : Core). k.policy) keeps.rest) (ap (λ (k : Core). k.interpreter) keeps.rest) keeps.caps keeps.backlog
    (record { curves = ap (λ (k : Core). k.monitor.curves) keeps.rest; caps = ap (λ (k : Core). k.monitor.caps) keeps.rest; high = ap (λ (k : Core). k.monitor.high) keeps.rest; low = ap (λ (k : Core). k.monitor.low) keeps.rest }) of

pub of_left : (g : Given) (k : Core) (n : ℕ) → IsOf g (record k { left = n }) → IsOf g k
of_left g k n of = of_with g (record k { left = n }) k refl refl refl refl (record { curves = refl; caps = refl; high = refl; low = refl }) of

pub past_keeps : (state : State) (old new : Core) (old_under under : Under) (a b choices most : ℕ) → KeepsBut old old_under a new under b → HasPast state.past old choices most → HasPast state.past new choices most
past_keeps state old new old_under under a b choices most keeps h = record {
  lasts = λ node. keeps.lasts node ∙ h.lasts node;
  taken = keeps.noted ∙ h.taken;
  noted = let same = keeps.noted in let few = h.noted in omega (arith, same, few);
  graph_keys = ap (λ (k : Core). k.graph.keys) keeps.rest ∙ h.graph_keys;
  edges = ap (λ (k : Core). k.graph.edges) keeps.rest ∙ h.edges;
  records = let same = ap (λ (k : Core). count_of k.graph.edges) keeps.rest in let few = h.records in omega (arith, same, few);
  keys = let same = ap (λ (k : Core). length k.graph.keys) keeps.rest in let few = h.keys in omega (arith, same, few);
}

-- the steps that are left don't count
left_keeps : (old new : Core) (old_under under : Under) (b : ℕ) → KeepsBut old old_under old.left new under b → KeepsBut old old_under old.left (record new { left = old.left }) under b
left_keeps old new old_under under b keeps = record {
  choice = keeps.choice;
  before = keeps.before;
  rest = ap (λ (k : Core). record k { left = old.left }) keeps.rest;
  clock = keeps.clock;
  caps = keeps.caps;
  backlog = keeps.backlog;
  lasts = keeps.lasts;
  noted = keeps.noted;
  timely = keeps.timely;
  starts = keeps.starts;
  fewer = keeps.fewer;
}

runs_left : (g : Given) (state : State) (here : source.Segment) (k : Core) (under : Under) (n : ℕ) → IsRunning g state here k under → IsRunning g state here (record k { left = n }) under
runs_left g state here k under n r = record { beside = r.beside; thread = r.thread; running = r.running }

rests_left : (g : Given) (state : State) (here : source.Segment) (steps : ℕ) (rest : source.Rest) (k : Core) (under : Under) (n : ℕ) → Rests g state here steps rest k under → Rests g state here steps rest (record k { left = n }) under
rests_left g state here steps rest k under n r = record { last = r.last; beside = r.beside; next = r.next }

happened_left : (g : Given) (state : State) (here : source.Segment) (a b : ℕ) (k : Core) (under : Under) (n : ℕ) (result : Result Happening Failure) → HasHappened g state here a b k under result → HasHappened g state here a b (record k { left = n }) under result
happened_left g state here a b k under n (Ok (happening.Puts word)) h = record { after = h.after; next = h.next; runs = runs_left g state h.after k under n h.runs }
happened_left g state here a b k under n (Ok (happening.Blocks block)) h = record { rests = rests_left g state here (a - b) _ k under n h.rests; thread = h.thread; untrapped = h.untrapped }
happened_left g state here a b k under n (Ok happening.Ends) h = record { rests = rests_left g state here (a - b) source.Ended k under n h.rests; full = h.full }
happened_left g state here a b k under n (Ok happening.OutOfSteps) h = (h.0, record { after = h.1.after; silent = h.1.silent; runs = runs_left g state h.1.after k under n h.1.runs })
happened_left g state here a b k under n _ h = h

-- ---- the thread of a segment may run

pub may_run : (g : Given) (state : State) (k : Core) (under : Under) (stands : StandsWithin g state k under) (left : ℕ) → left ≤ k.left + 1 → MayRun g state stands.segment.here k under left
may_run g state k under stands left few = record {
  of = stands.of;
  runs = stands.runs;
  room = let starts = stands.counted.starts in let most = stands.of.most_steps in omega (arith, starts, most, few);
}

pub has_proceeded : (g : Given) (state : State) (old : Core) (old_under : Under) (k : Core) (under : Under) (n : ℕ) (result : Result Happening Failure) (stands : StandsWithin g state old old_under) →
    HasHappened g state stands.segment.here old.left n k under result → KeepsBut old old_under old.left k under n → HasProceeded g state old old_under (record k { left = n }) under result
has_proceeded g state old old_under k under n result stands happened keeps = record {
  segment = stands.segment;
  under_way = stands.under_way;
  happened = happened_left g state stands.segment.here old.left n k under n result happened;
  keeps = left_keeps old k old_under under n keeps;
}

-- ---- steps

-- the next output, block, end or trap comes within the steps
pub record Came (g : Given) (state : State) : Type 0 where
  pub segment : Segment
  pub under_way : state.segment ≡ Some segment
  pub steps : ℕ
  pub comes : ComesAt g.program g.policy.caps segment.here steps
  pub within : state.steps + steps ≤ g.most_steps

pub came_beyond : (g : Given) (state : State) (entry : Entry) → Came g state → ((segment : Segment) (steps : ℕ) → ComesAt g.program g.policy.caps segment.here steps → Needs g segment entry steps) → IsBeyond g state entry → ⊥
came_beyond g state entry came needs b =
    let comes = subst (λ (s : Segment). ComesAt g.program g.policy.caps s.here came.steps) (same_segment state came.segment b.segment came.under_way b.under_way) came.comes in
    let far = b.beyond came.steps (needs b.segment came.steps comes) in
    let near = came.within in omega (arith, far, near)

pub silent_comes : (g : Given) (start there : source.Segment) (steps n : ℕ) → ComesAt g.program g.policy.caps start steps → IsSilent g.program g.policy.caps start n there → n < steps
silent_comes g start there steps n (inl puts) s = silent_puts g.program g.policy.caps start there puts.1 steps puts.0 n puts.2 s
silent_comes g start there steps n (inr rests) s = silent_rests g.program g.policy.caps start there rests.0 steps n rests.1 s

module _ (g : Given) (state : State) (old : Core) (old_under : Under) (k : Core) (under : Under) (stands : StandsWithin g state old old_under) where
  abbrev pub Proceeded : Result Happening Failure → Type 0
  Proceeded result = HasProceeded g state old old_under k under result

  module _ (result : Result Happening Failure) (p : Proceeded result) where
    pub its_segment : p.segment ≡ stands.segment
    its_segment = same_segment state p.segment stands.segment p.under_way stands.under_way

    pub fewer : k.left ≤ old.left
    fewer = p.keeps.fewer

    pub in_steps : state.steps + (old.left - k.left) ≤ g.most_steps
    in_steps = let count = stands.counted.left in let few = fewer in omega (arith, count, few)

  abbrev pub came_puts : (word : ℕ) → Proceeded (Ok (happening.Puts word)) → Came g state
  came_puts word p = record {
    segment = p.segment;
    under_way = p.under_way;
    steps = old.left - k.left;
    comes = inl (word, p.happened.after, p.happened.next);
    within = in_steps (Ok (happening.Puts word)) p;
  }

  abbrev pub came_blocks : (block : Block) → Proceeded (Ok (happening.Blocks block)) → Came g state
  came_blocks block p = record { segment = p.segment; under_way = p.under_way; steps = old.left - k.left; comes = inr (_, p.happened.rests.next); within = in_steps (Ok (happening.Blocks block)) p }

  abbrev pub came_ends : Proceeded (Ok happening.Ends) → Came g state
  came_ends p = record { segment = p.segment; under_way = p.under_way; steps = old.left - k.left; comes = inr (_, p.happened.rests.next); within = in_steps (Ok happening.Ends) p }

  abbrev pub came_traps : (kind : TrapKind) → Proceeded (Ok (happening.Traps kind)) → Came g state
  came_traps kind p = record { segment = p.segment; under_way = p.under_way; steps = old.left - k.left; comes = inr (_, p.happened.next); within = in_steps (Ok (happening.Traps kind)) p }

  -- nothing comes within the steps
  pub late : Proceeded (Ok happening.OutOfSteps) → (entry : Entry) → ((segment : Segment) (steps : ℕ) → Needs g segment entry steps → ComesAt g.program g.policy.caps segment.here steps) → IsBeyond g state entry
  late p entry needs = record {
    segment = p.segment;
    under_way = p.under_way;
    beyond = λ steps need.
        let far = silent_comes g p.segment.here p.happened.1.after steps old.left (needs p.segment steps need) p.happened.1.silent in
        let count = stands.counted.left in
        omega (arith, far, count);
  }

  -- ---- an output

  module _ (word : ℕ) (p : Proceeded (Ok (happening.Puts word))) where
    abbrev pub here : source.Segment
    here = p.happened.after

    abbrev pub steps : ℕ
    steps = old.left - k.left

    abbrev pub put_state : State
    put_state = record state { segment = Some (record p.segment { here = here }); steps = state.steps + steps }

    pub number_is : under.choice.thread.number ≡ p.segment.here.number
    number_is =
        ap (λ (c : Choice). c.thread.number) p.keeps.choice ∙ stands.runs.beside.number_is
        ∙ ap (λ (s : Segment). s.here.number) (sym (its_segment (Ok (happening.Puts word)) p))

    pub out_is : (thread : ℕ) (value : ℤ) → state.end ≡ reading.NotYet → thread ≡ under.choice.thread.number → value ≡ signed word → IsOut g state thread value put_state
    out_is thread value not_over thread_is value_is = record {
      not_over = not_over;
      segment = p.segment;
      under_way = p.under_way;
      steps = steps;
      word = word;
      here = here;
      puts = p.happened.next;
      thread_is = thread_is ∙ number_is;
      value_is = value_is;
      after_is = refl;
    }

    -- another line isn't that of the output
    pub out_not : (thread : ℕ) (value : ℤ) (after : State) → (state.end ≡ reading.NotYet → thread ≡ under.choice.thread.number → value ≡ signed word → ⊥) → IsOut g state thread value after → ⊥
    out_not thread value after never q =
        let same : q.segment ≡ p.segment = same_segment state q.segment p.segment q.under_way p.under_way in
        let puts : PutsNext g.program g.policy.caps p.segment.here q.steps q.word q.here = subst (λ (s : Segment). PutsNext g.program g.policy.caps s.here q.steps q.word q.here) same q.puts in
        let both = one_put g.program g.policy.caps p.segment.here q.here here q.steps steps q.word word puts p.happened.next in
        never q.not_over (q.thread_is ∙ ap (λ (s : Segment). s.here.number) same ∙ sym number_is) (q.value_is ∙ ap signed both.words)

    pub put_stands : StandsWithin g put_state k under
    put_stands = record {
      of = of_left g k old.left (of_keeps g old (record k { left = old.left }) old_under under old.left k.left p.keeps stands.of);
      counted = record {
        cost = ap (λ (c : Core). c.cost) p.keeps.rest ∙ stands.counted.cost;
        most_cost = let same = ap (λ (c : Core). c.cost) p.keeps.rest in let most = stands.counted.most_cost in omega (arith, same, most);
        free = let same = ap (λ (c : Core). c.free) p.keeps.rest in let most = stands.counted.free in omega (arith, same, most);
        held = ap (λ (c : Core). chunks_of g - c.free) p.keeps.rest ∙ stands.counted.held;
        left = let count = stands.counted.left in let few = p.keeps.fewer in omega (arith, count, few);
        starts = let first = stands.counted.starts in let more = p.keeps.starts in omega (arith, first, more);
      };
      segment = record p.segment { here = here };
      under_way = refl;
      clock_is = p.keeps.clock ∙ stands.clock_is;
      runs = record {
        beside = let b = p.happened.runs.beside in beside_other b put_state _ k.threads.exchange b.are.exchange_is b.are.uses;
        thread = p.happened.runs.thread;
        running = p.happened.runs.running;
      };
      node_is = ap (λ (c : Choice). c.node) p.keeps.choice ∙ stands.node_is ∙ ap (λ (s : Segment). s.node) (sym (its_segment (Ok (happening.Puts word)) p));
      before_is = p.keeps.before ∙ stands.before_is ∙ ap (λ (s : Segment). s.uses) (sym (its_segment (Ok (happening.Puts word)) p));
      within_caps = subst (λ (uses : List ℕ). NoneAbove uses (all_caps g.policy)) (sym p.keeps.before) stands.within_caps;
      past = past_put (ap (λ (c : Core). c.cost) p.keeps.rest) (past_keeps state old (record k { left = old.left }) old_under under old.left k.left (old.cost + 1) old.cost p.keeps stands.past);
      gate = ap (λ (c : Core). c.monitor.is_open) p.keeps.rest ∙ stands.gate;
      timely = subst (λ (n : ℕ). IsTimely k.threads.waits.clock k.threads.waits.places n) (sym (ap (λ (c : Core). c.cost) p.keeps.rest)) (p.keeps.timely old.cost stands.timely);
    } where
      past_put : k.cost ≡ old.cost → HasPast state.past (record k { left = old.left }) (old.cost + 1) old.cost → HasPast state.past k (k.cost + 1) k.cost
      past_put same h = record {
        lasts = h.lasts;
        taken = h.taken;
        noted = let few = h.noted in omega (arith, same, few);
        graph_keys = h.graph_keys;
        edges = h.edges;
        records = let few = h.records in omega (arith, same, few);
        keys = let few = h.keys in omega (arith, same, few);
      }
