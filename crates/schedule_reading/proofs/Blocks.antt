-- Lines of a segment that ends: `block` and `end`.
use Rattle.schedule_reading.proofs.Common.{◌≡◌, ℕ, ◌+◌, ◌-◌, ◌≤◌, List, [], ◌∷◌, ◌++◌, length, Option, Some, None, Ok, refl, sym, ap, ◌∙◌, subst, arith, length-set, slice_get, slice_set, count_of, GraphState, EdgeLine, Block, TrapKind, Waiter, Given, RestsNext, IsBlock, IsClosed, not_put_and_rest, one_rest, Entry, Choice, globals_of, waiting_of, Happening, Under, AllowsWithin, HasProceeded, HasRested, IsClosing, RulesWithin, Core, Kept, Refuses, AreLive, HasPast, IsEnd, IsOf, IsScheduled, IsTimely, StandsAt, StandsBy, StandsWithin, waiting_with, same_segment}
use Rattle.blocking_graph.specs.Nodes.{keys_with, node_number}
use Rattle.c_mean.specs.Frames.{Waiting, key_of}
use Rattle.c_mean.specs.World as source
use Rattle.lawful_reading.specs.State.{Segment, State}
use Rattle.schedule_reading.specs.declared.events.Happening.TheVariants as happening
use Rattle.schedule_reading.specs.declared.reading.End.TheVariants as end
use Rattle.schedule_reading.specs.declared.rulings.Ruling.TheVariants as ruling
use Rattle.schedule_reading.proofs.Leaves as leaves
use Rattle.schedule_reading.proofs.Proceeding.{came_beyond, came_blocks, came_ends, came_puts, came_traps, in_steps, its_segment, late, not_yet, of_keeps, past_keeps, yet_not}
use Rattle.schedule_reading.proofs.Resting as resting
use Rattle.schedule_reading.proofs.Standing.{set_here}

module _ (g : Given) (state : State) (old : Kept) (old_under : Under) (k : Core) (under : Under) (stands : StandsWithin g state old.core old_under) (end_is : IsEnd g state old.end) where
  abbrev Proceeded : Happening → Type 0
  Proceeded happened = HasProceeded g state old.core old_under k under (Ok happened)

  -- ---- what is kept of the past and the clock

  module _ (happened : Happening) (p : Proceeded happened) where
    pub seg : p.segment ≡ stands.segment
    seg = its_segment g state old.core old_under k under stands (Ok happened) p

    pub past_now : HasPast state.past (record k { left = old.core.left }) (old.core.cost + 1) old.core.cost
    past_now = past_keeps state old.core (record k { left = old.core.left }) old_under under old.core.left k.left (old.core.cost + 1) old.core.cost p.keeps stands.past

    pub number_now : under.choice.thread.number ≡ p.segment.here.number
    number_now = ap (λ (c : Choice). c.thread.number) p.keeps.choice ∙ stands.runs.beside.number_is ∙ ap (λ (s : Segment). s.here.number) (sym seg)

    pub timely_now : IsTimely k.threads.waits.clock k.threads.waits.places k.cost
    timely_now = subst (λ (n : ℕ). IsTimely k.threads.waits.clock k.threads.waits.places n) (sym (ap (λ (c : Core). c.cost) p.keeps.rest)) (p.keeps.timely old.core.cost stands.timely)

    of_k : IsOf g (record k { left = old.core.left })
    of_k = of_keeps g old.core (record k { left = old.core.left }) old_under under old.core.left k.left p.keeps stands.of

    -- a line that closes the segment rests as its thread does
    closed_rests : (thread cost free steps : ℕ) (segment : Segment) (world : source.World) → IsClosed g state thread cost free steps segment world → RestsNext g.program g.policy.caps p.segment.here steps (record { trap = None; world = world })
    closed_rests thread cost free steps segment world c =
        subst (λ (s : Segment). RestsNext g.program g.policy.caps s.here steps (record { trap = None; world = world })) (same_segment state segment p.segment c.under_way p.under_way) c.rests

    pub closed_world : (thread cost free steps : ℕ) (segment : Segment) (world : source.World) (other : ℕ) (rested : source.Rested) → IsClosed g state thread cost free steps segment world → RestsNext g.program g.policy.caps p.segment.here other rested →
        ◌≡◌ {A = source.Rested} (record { trap = None; world = world }) rested
    closed_world thread cost free steps segment world other rested c r =
        (one_rest g.program g.policy.caps p.segment.here steps other (record { trap = None; world = world }) rested (closed_rests thread cost free steps segment world c) r).rests_are

    pub closed_number : (thread cost free steps : ℕ) (segment : Segment) (world : source.World) → IsClosed g state thread cost free steps segment world → thread ≡ under.choice.thread.number
    closed_number thread cost free steps segment world c = c.thread_is ∙ ap (λ (s : Segment). s.here.number) (same_segment state segment p.segment c.under_way p.under_way) ∙ sym number_now

    pub closed_closing : (thread cost free steps : ℕ) (segment : Segment) (world : source.World) → IsClosed g state thread cost free steps segment world → IsClosing k cost free
    closed_closing thread cost free steps segment world c = record {
      some = c.some;
      within = record {
        fuel =
            let most = c.possible.fuel in let fuel = of_k.fuel in
            let here : k.cost ≡ state.cost = ap (λ (x : Core). x.cost) p.keeps.rest ∙ stands.counted.cost in
            omega (arith, most, fuel, here);
        chunks = let most = c.possible.chunks in let chunks = of_k.chunks in omega (arith, most, chunks);
      };
    }

  pub closed_no_put : (word thread cost free steps : ℕ) (segment : Segment) (world : source.World) (p : Proceeded (happening.Puts word)) → IsClosed g state thread cost free steps segment world → ⊥
  closed_no_put word thread cost free steps segment world p c =
      not_put_and_rest g.program g.policy.caps p.segment.here p.happened.after (old.core.left - k.left) steps word (record { trap = None; world = world }) p.happened.next
      (closed_rests (happening.Puts word) p thread cost free steps segment world c)

  pub closed_no_trap : (kind : TrapKind) (thread cost free steps : ℕ) (segment : Segment) (world : source.World) (p : Proceeded (happening.Traps kind)) → IsClosed g state thread cost free steps segment world → ⊥
  closed_no_trap kind thread cost free steps segment world p c =
      let same : None ≡ Some kind = ap (λ (r : source.Rested). r.trap) (closed_world (happening.Traps kind) p thread cost free steps segment world (old.core.left - k.left) (record { trap = Some kind; world = p.happened.world }) c p.happened.next) in
      absurd (cc)

  -- ---- `block`

  module _ (thread node : ℕ) (key : List ℕ) (cost free : ℕ) where
    abbrev block_entry : Entry
    block_entry = Entry.Block thread node key cost free

    pub block_late : Proceeded happening.OutOfSteps → RulesWithin g state old block_entry (record old { core = k }) (Ok ruling.OutOfSteps)
    block_late p = late g state old.core old_under k under stands p block_entry (λ segment steps comes. comes)

    pub block_puts : (word : ℕ) → Proceeded (happening.Puts word) → Refuses g state block_entry
    block_puts word p = record {
      refused = λ after q. closed_no_put word thread cost free q.steps q.segment q.world p q.closed;
      enough = came_beyond g state block_entry (came_puts g state old.core old_under k under stands word p) (λ segment steps comes. comes);
    }

    pub block_traps : (kind : TrapKind) → Proceeded (happening.Traps kind) → Refuses g state block_entry
    block_traps kind p = record {
      refused = λ after q. closed_no_trap kind thread cost free q.steps q.segment q.world p q.closed;
      enough = came_beyond g state block_entry (came_traps g state old.core old_under k under stands kind p) (λ segment steps comes. comes);
    }

    -- its thread ends
    pub block_ends : Proceeded happening.Ends → Refuses g state block_entry
    block_ends p = record {
      refused = λ after q. never after q;
      enough = came_beyond g state block_entry (came_ends g state old.core old_under k under stands p) (λ segment steps comes. comes);
    } where
      last : source.World
      last = p.happened.rests.last

      never : (after : State) → IsBlock g state thread node key cost free after → ⊥
      never after q =
          let world = closed_world happening.Ends p thread cost free q.steps q.segment q.world (old.core.left - k.left) _ q.closed p.happened.rests.next in
          let number : thread ≡ p.segment.here.number = closed_number happening.Ends p thread cost free q.steps q.segment q.world q.closed ∙ number_now happening.Ends p in
          let there = leaves.there_is g state last.threads last.exchange p.segment.here.number k.threads k.scheduler under.choice.thread p.happened.rests.beside 0 in
          let now : slice_get (slice_set last.threads p.segment.here.number source.Ended) p.segment.here.number ≡ Some source.Ended = set_here last.threads p.segment.here.number source.Ended _ there in
          let was : slice_get (slice_set last.threads p.segment.here.number source.Ended) p.segment.here.number ≡ Some (source.Blocked q.block q.waiting) =
          ap (λ (n : ℕ). slice_get (slice_set last.threads p.segment.here.number source.Ended) n) (sym number) ∙ ap (λ (r : source.Rested). slice_get r.world.threads thread) (sym world) ∙ q.blocked in
          let both : ◌≡◌ {A = Option source.Rest} (Some source.Ended) (Some (source.Blocked q.block q.waiting)) = sym now ∙ was in
          absurd (cc)

    module _ (block : Block) (p : Proceeded (happening.Blocks block)) where
      abbrev here : source.Segment
      here = p.segment.here

      abbrev last_world : source.World
      last_world = p.happened.rests.last

      abbrev waits_as : Waiting
      waits_as = waiting_of g.program under.thread

      -- the line is that of the block
      pub record IsBlockLine : Type 0 where
        pub over : old.end ≡ end.NotYet
        pub thread_is : thread ≡ under.choice.thread.number
        pub closing : IsClosing k cost free
        pub key_is : key ≡ key_of waits_as
        pub node_is : node ≡ node_number k.graph.keys key

      there_was : slice_get last_world.threads here.number ≡ Some (leaves.away g state last_world.threads last_world.exchange here.number k.threads k.scheduler under.choice.thread p.happened.rests.beside 0).there
      there_was = leaves.there_is g state last_world.threads last_world.exchange here.number k.threads k.scheduler under.choice.thread p.happened.rests.beside 0

      blocked_there : slice_get (slice_set last_world.threads here.number (source.Blocked block waits_as)) here.number ≡ Some (source.Blocked block waits_as)
      blocked_there = set_here last_world.threads here.number (source.Blocked block waits_as) _ there_was

      keys_now : k.graph.keys ≡ state.past.keys
      keys_now = (past_now (happening.Blocks block) p).graph_keys

      same_waiting : (b : Block) (w : Waiting) → ◌≡◌ {A = Option source.Rest} (Some (source.Blocked block waits_as)) (Some (source.Blocked b w)) → w ≡ waits_as
      same_waiting b w e = cc

      block_line : (after : State) → IsBlock g state thread node key cost free after → IsBlockLine
      block_line after q =
          let world = closed_world (happening.Blocks block) p thread cost free q.steps q.segment q.world (old.core.left - k.left) _ q.closed p.happened.rests.next in
          let own : thread ≡ under.choice.thread.number = closed_number (happening.Blocks block) p thread cost free q.steps q.segment q.world q.closed in
          let number : thread ≡ here.number = own ∙ number_now (happening.Blocks block) p in
          let was : slice_get (slice_set last_world.threads here.number (source.Blocked block waits_as)) here.number ≡ Some (source.Blocked q.block q.waiting) =
          ap (λ (n : ℕ). slice_get (slice_set last_world.threads here.number (source.Blocked block waits_as)) n) (sym number) ∙ ap (λ (r : source.Rested). slice_get r.world.threads thread) (sym world) ∙ q.blocked in
          record {
            over = not_yet g state old.end end_is q.closed.not_over;
            thread_is = own;
            closing = closed_closing (happening.Blocks block) p thread cost free q.steps q.segment q.world q.closed;
            key_is = q.key_is ∙ ap key_of (same_waiting q.block q.waiting (sym blocked_there ∙ was));
            node_is = q.node_is ∙ ap (λ (keys : List (List ℕ)). node_number keys key) (sym keys_now);
          }

      pub block_refused : (IsBlockLine → ⊥) → Refuses g state block_entry
      block_refused never = record {
        refused = λ after q. never (block_line after q);
        enough = came_beyond g state block_entry (came_blocks g state old.core old_under k under stands block p) (λ segment steps comes. comes);
      }

      module _ (is : IsBlockLine) (graph : GraphState) (graph_keys : graph.keys ≡ keys_with k.graph.keys key) (graph_edges : graph.edges ≡ k.graph.edges) (few : length graph.keys ≤ length k.graph.keys + 1)
          (new : Kept) (r : HasRested (record old { core = record k { graph = graph } }) under node block cost free new) (none : old.under ≡ None) where
        abbrev joining : List Waiter
        joining = record { thread = thread; node = node; since = state.clock + cost } ∷ []

        abbrev keys : List (List ℕ)
        keys = keys_with state.past.keys key

        abbrev after : State
        after = resting.after g state old.core old_under k under stands p.segment (seg (happening.Blocks block) p) p.keeps last_world p.happened.rests.beside (source.Blocked block waits_as) p.happened.thread.globals node cost free is.closing joining keys

        abbrev clock : ℕ
        clock = k.threads.waits.clock + cost

        clock_is : clock ≡ state.clock + cost
        clock_is = ap (λ (n : ℕ). n + cost) (p.keeps.clock ∙ stands.clock_is)

        number : here.number ≡ thread
        number = sym (is.thread_is ∙ number_now (happening.Blocks block) p)

        who : waiting_with state last_world.threads ++ record { thread = here.number; node = node; since = state.clock + cost } ∷ [] ≡ after.waiting
        who =
            ap (λ (n : ℕ). waiting_with state last_world.threads ++ record { thread = n; node = node; since = state.clock + cost } ∷ []) number
            ∙ leaves.who_more g state last_world.threads last_world.exchange here.number k.threads k.scheduler under.choice.thread p.happened.rests.beside clock
            (slice_set last_world.threads here.number (source.Blocked block waits_as)) joining (length-set last_world.threads here.number (source.Blocked block waits_as))

        live : AreLive g.program new.core.threads (slice_set last_world.threads here.number (source.Blocked block waits_as)) last_world.exchange after.waiting
        live = subst (λ (ws : List Waiter). AreLive g.program new.core.threads (slice_set last_world.threads here.number (source.Blocked block waits_as)) last_world.exchange ws) who
            (leaves.blocked_live g state last_world.threads last_world.exchange here.number k.threads k.scheduler under.choice.thread p.happened.rests.beside clock
            block under.thread k.words p.happened.thread new.core.threads r.blocked node (state.clock + cost) clock_is)

        scheduled : IsScheduled new.core.threads.slots new.core.threads.waits.places new.core.scheduler after.waiting
        scheduled = subst (λ (ws : List Waiter). IsScheduled new.core.threads.slots new.core.threads.waits.places new.core.scheduler ws) who
            (leaves.blocked_scheduled g state last_world.threads last_world.exchange here.number k.threads k.scheduler under.choice.thread p.happened.rests.beside clock
            block under.thread k.words p.happened.thread new.core.threads r.blocked new.core.scheduler node (state.clock + cost) r.need r.joined r.told r.vouched)

        stands_now : StandsAt g after after.clock (resting.new g state old.core old_under k under stands p.segment (seg (happening.Blocks block) p) p.keeps last_world p.happened.rests.beside (source.Blocked block waits_as) p.happened.thread.globals node cost free is.closing joining keys
            new.core.threads new.core.scheduler graph)
        stands_now = resting.stands_after g state old.core old_under k under stands p.segment (seg (happening.Blocks block) p) p.keeps last_world p.happened.rests.beside (source.Blocked block waits_as) p.happened.thread.globals node cost free is.closing joining keys
            new.core.threads new.core.scheduler graph live
            (leaves.blocked_resting g state last_world.threads last_world.exchange here.number k.threads k.scheduler under.choice.thread p.happened.rests.beside clock block under.thread k.words p.happened.thread new.core.threads r.blocked)
            scheduled r.blocked.clock r.blocked.exchange r.blocked.next r.joined.lasts r.joined.noted
            (leaves.blocked_sleepers g state last_world.threads last_world.exchange here.number k.threads k.scheduler under.choice.thread p.happened.rests.beside clock block under.thread k.words p.happened.thread new.core.threads r.blocked
            k.cost cost (timely_now (happening.Blocks block) p) refl is.closing.some)
            (graph_keys ∙ ap (λ (ks : List (List ℕ)). keys_with ks key) keys_now) graph_edges few (r.counted ∙ ap (λ (es : List EdgeLine). count_of es + 1) graph_edges)

        is_block : IsBlock g state thread node key cost free after
        is_block = record {
          segment = p.segment;
          steps = old.core.left - k.left;
          world = record last_world { threads = slice_set last_world.threads here.number (source.Blocked block waits_as); globals = globals_of g.program k.words };
          closed = record {
            not_over = yet_not g state old.end end_is is.over;
            under_way = p.under_way;
            rests = p.happened.rests.next;
            thread_is = sym number;
            some = is.closing.some;
            possible = record {
              fuel = resting.possible_cost g state old.core old_under k under stands p.segment (seg (happening.Blocks block) p) p.keeps last_world p.happened.rests.beside (source.Blocked block waits_as) p.happened.thread.globals node cost free is.closing joining keys;
              chunks = resting.possible_free g state old.core old_under k under stands p.segment (seg (happening.Blocks block) p) p.keeps last_world p.happened.rests.beside (source.Blocked block waits_as) p.happened.thread.globals node cost free is.closing joining keys;
            };
          };
          block = block;
          waiting = waits_as;
          blocked = ap (λ (n : ℕ). slice_get (slice_set last_world.threads here.number (source.Blocked block waits_as)) n) (sym number) ∙ blocked_there;
          key_is = is.key_is;
          node_is = is.node_is ∙ ap (λ (ks : List (List ℕ)). node_number ks key) keys_now;
          after_is = refl;
        }

        pub block_allowed : AllowsWithin g state old block_entry new
        block_allowed = record {
          after = after;
          allowed = is_block;
          within = in_steps g state old.core old_under k under stands (Ok (happening.Blocks block)) p;
          stands = subst (λ (n : Kept). StandsBy g after n.core n.under) (sym r.after) (subst (StandsBy g after _) (sym none) stands_now);
          end_is = subst (IsEnd g after) (sym (ap (λ (n : Kept). n.end) r.after ∙ is.over)) refl;
          going = ap (λ (n : Kept). n.end) r.after;
          trace = refl;
          reader = ap (λ (n : Kept). n.reader) r.after;
          next = ap (λ (n : Kept). n.next) r.after;
        }
