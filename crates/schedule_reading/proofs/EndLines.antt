-- Lines `end`.
use Rattle.schedule_reading.proofs.Common.{◌≡◌, ℕ, ◌+◌, ◌-◌, List, [], Option, Some, None, Ok, refl, sym, ap, ◌∙◌, subst, arith, append-nil, length-set, slice_get, slice_set, count_of, Block, TrapKind, Waiter, end_node, Given, State, Entry, globals_of, waiting_of, Happening, Under, HasEnded, AllowsWithin, HasProceeded, IsClosing, RulesWithin, closed, Core, Kept, Refuses, AreLive, IsEnd, IsScheduled, StandsAt, StandsBy, StandsWithin, waiting_with, ThreadsState}
use Rattle.c_mean.specs.World as source
use Rattle.lawful_reading.specs.Segments.{IsEnd as IsEndLine}
use Rattle.schedule_reading.specs.declared.events.Happening.TheVariants as happening
use Rattle.schedule_reading.specs.declared.reading.End.TheVariants as end
use Rattle.schedule_reading.specs.declared.rulings.Ruling.TheVariants as ruling
use Rattle.schedule_reading.proofs.Blocks as blocks
use Rattle.schedule_reading.proofs.Leaves as leaves
use Rattle.schedule_reading.proofs.Proceeding.{came_beyond, came_blocks, came_ends, came_puts, came_traps, in_steps, late, not_yet, yet_not}
use Rattle.schedule_reading.proofs.Resting as resting
use Rattle.schedule_reading.proofs.Standing.{set_here}

module _ (g : Given) (state : State) (old : Kept) (old_under : Under) (k : Core) (under : Under) (stands : StandsWithin g state old.core old_under) (end_is : IsEnd g state old.end) (thread cost free : ℕ) where
  abbrev Proceeded : Happening → Type 0
  Proceeded happened = HasProceeded g state old.core old_under k under (Ok happened)

  abbrev entry : Entry
  entry = Entry.End thread cost free

  pub end_late : Proceeded happening.OutOfSteps → RulesWithin g state old entry (record old { core = k }) (Ok ruling.OutOfSteps)
  end_late p = late g state old.core old_under k under stands p entry (λ segment steps comes. comes)

  pub end_puts : (word : ℕ) → Proceeded (happening.Puts word) → Refuses g state entry
  end_puts word p = record {
    refused = λ after q. blocks.closed_no_put g state old old_under k under stands end_is word thread cost free q.steps q.segment q.world p q.closed;
    enough = came_beyond g state entry (came_puts g state old.core old_under k under stands word p) (λ segment steps comes. comes);
  }

  pub end_traps : (kind : TrapKind) → Proceeded (happening.Traps kind) → Refuses g state entry
  end_traps kind p = record {
    refused = λ after q. blocks.closed_no_trap g state old old_under k under stands end_is kind thread cost free q.steps q.segment q.world p q.closed;
    enough = came_beyond g state entry (came_traps g state old.core old_under k under stands kind p) (λ segment steps comes. comes);
  }

  pub end_blocks : (block : Block) → Proceeded (happening.Blocks block) → Refuses g state entry
  end_blocks block p = record {
    refused = λ after q. never after q;
    enough = came_beyond g state entry (came_blocks g state old.core old_under k under stands block p) (λ segment steps comes. comes);
  } where
    last : source.World
    last = p.happened.rests.last

    rest_of : source.Rest
    rest_of = source.Blocked block (waiting_of g.program under.thread)

    never : (after : State) → IsEndLine g state thread cost free after → ⊥
    never after q =
        let world = blocks.closed_world g state old old_under k under stands end_is (happening.Blocks block) p thread cost free q.steps q.segment q.world (old.core.left - k.left) _ q.closed p.happened.rests.next in
        let number : thread ≡ p.segment.here.number = blocks.closed_number g state old old_under k under stands end_is (happening.Blocks block) p thread cost free q.steps q.segment q.world q.closed ∙ blocks.number_now g state old old_under k under stands end_is (happening.Blocks block) p in
        let there = leaves.there_is g state last.threads last.exchange p.segment.here.number k.threads k.scheduler under.choice.thread p.happened.rests.beside 0 in
        let now : slice_get (slice_set last.threads p.segment.here.number rest_of) p.segment.here.number ≡ Some rest_of = set_here last.threads p.segment.here.number rest_of _ there in
        let was : slice_get (slice_set last.threads p.segment.here.number rest_of) p.segment.here.number ≡ Some source.Ended =
        ap (λ (n : ℕ). slice_get (slice_set last.threads p.segment.here.number rest_of) n) (sym number) ∙ ap (λ (r : source.Rested). slice_get r.world.threads thread) (sym world) ∙ q.ended in
        let both : ◌≡◌ {A = Option source.Rest} (Some rest_of) (Some source.Ended) = sym now ∙ was in
        absurd (cc)

  module _ (p : Proceeded happening.Ends) where
    abbrev here : source.Segment
    here = p.segment.here

    abbrev last_world : source.World
    last_world = p.happened.rests.last

    -- the line is that of the end
    pub record IsEndingLine : Type 0 where
      pub over : old.end ≡ end.NotYet
      pub thread_is : thread ≡ under.choice.thread.number
      pub closing : IsClosing k cost free

    abbrev ended : List source.Rest
    ended = slice_set last_world.threads here.number source.Ended

    ended_there : slice_get ended here.number ≡ Some source.Ended
    ended_there = set_here last_world.threads here.number source.Ended _ (leaves.there_is g state last_world.threads last_world.exchange here.number k.threads k.scheduler under.choice.thread p.happened.rests.beside 0)

    end_line : (after : State) → IsEndLine g state thread cost free after → IsEndingLine
    end_line after q = record {
      over = not_yet g state old.end end_is q.closed.not_over;
      thread_is = blocks.closed_number g state old old_under k under stands end_is happening.Ends p thread cost free q.steps q.segment q.world q.closed;
      closing = blocks.closed_closing g state old old_under k under stands end_is happening.Ends p thread cost free q.steps q.segment q.world q.closed;
    }

    pub end_refused : (IsEndingLine → ⊥) → Refuses g state entry
    end_refused never = record {
      refused = λ after q. never (end_line after q);
      enough = came_beyond g state entry (came_ends g state old.core old_under k under stands p) (λ segment steps comes. comes);
    }

    module _ (is : IsEndingLine) (counted : count_of (closed k under end_node cost free).graph.edges ≡ count_of k.graph.edges + 1) (threads : ThreadsState) (ends : HasEnded (closed k under end_node cost free).threads under.choice.thread threads) (none : old.under ≡ None) where
      abbrev seg : p.segment ≡ stands.segment
      seg = blocks.seg g state old old_under k under stands end_is happening.Ends p

      abbrev after : State
      after = resting.after g state old.core old_under k under stands p.segment seg p.keeps last_world p.happened.rests.beside source.Ended p.happened.full end_node cost free is.closing [] state.past.keys

      abbrev clock : ℕ
      clock = k.threads.waits.clock + cost

      who : waiting_with state last_world.threads ≡ after.waiting
      who = sym (append-nil (waiting_with state last_world.threads))
          ∙ leaves.who_more g state last_world.threads last_world.exchange here.number k.threads k.scheduler under.choice.thread p.happened.rests.beside clock ended [] (length-set last_world.threads here.number source.Ended)

      live : AreLive g.program threads ended last_world.exchange after.waiting
      live = subst (λ (ws : List Waiter). AreLive g.program threads ended last_world.exchange ws) who
          (leaves.ended_live g state last_world.threads last_world.exchange here.number k.threads k.scheduler under.choice.thread p.happened.rests.beside clock threads ends)

      scheduled : IsScheduled threads.slots threads.waits.places k.scheduler after.waiting
      scheduled = subst (λ (ws : List Waiter). IsScheduled threads.slots threads.waits.places k.scheduler ws) who
          (leaves.ended_scheduled g state last_world.threads last_world.exchange here.number k.threads k.scheduler under.choice.thread p.happened.rests.beside clock threads ends)

      abbrev new : Kept
      new = record old { core = record (closed k under end_node cost free) { threads = threads } }

      stands_now : StandsAt g after after.clock new.core
      stands_now = resting.stands_after g state old.core old_under k under stands p.segment seg p.keeps last_world p.happened.rests.beside source.Ended p.happened.full end_node cost free is.closing [] state.past.keys
          threads k.scheduler k.graph live
          (leaves.ended_resting g state last_world.threads last_world.exchange here.number k.threads k.scheduler under.choice.thread p.happened.rests.beside clock threads ends)
          scheduled (ap (λ (t : ThreadsState). t.waits.clock) ends.rest) (ap (λ (t : ThreadsState). t.exchange) ends.rest) (ap (λ (t : ThreadsState). t.next) ends.rest) (λ n. refl) refl
          (leaves.ended_sleepers g state last_world.threads last_world.exchange here.number k.threads k.scheduler under.choice.thread p.happened.rests.beside clock threads ends
          k.cost cost (blocks.timely_now g state old old_under k under stands end_is happening.Ends p))
          (blocks.past_now g state old old_under k under stands end_is happening.Ends p).graph_keys refl (omega arith) counted

      is_end : IsEndLine g state thread cost free after
      is_end = record {
        segment = p.segment;
        steps = old.core.left - k.left;
        world = record last_world { threads = ended; globals = globals_of g.program k.words };
        closed = record {
          not_over = yet_not g state old.end end_is is.over;
          under_way = p.under_way;
          rests = p.happened.rests.next;
          thread_is = is.thread_is ∙ blocks.number_now g state old old_under k under stands end_is happening.Ends p;
          some = is.closing.some;
          possible = record {
            fuel = resting.possible_cost g state old.core old_under k under stands p.segment seg p.keeps last_world p.happened.rests.beside source.Ended p.happened.full end_node cost free is.closing [] state.past.keys;
            chunks = resting.possible_free g state old.core old_under k under stands p.segment seg p.keeps last_world p.happened.rests.beside source.Ended p.happened.full end_node cost free is.closing [] state.past.keys;
          };
        };
        ended = ap (λ (n : ℕ). slice_get ended n) (is.thread_is ∙ blocks.number_now g state old old_under k under stands end_is happening.Ends p) ∙ ended_there;
        after_is = refl;
      }

      pub end_allowed : AllowsWithin g state old entry new
      end_allowed = record {
        after = after;
        allowed = is_end;
        within = in_steps g state old.core old_under k under stands (Ok happening.Ends) p;
        stands = subst (StandsBy g after new.core) (sym none) stands_now;
        end_is = subst (IsEnd g after) (sym is.over) refl;
        going = refl;
        trace = refl;
        reader = refl;
        next = refl;
      }
