-- The lines of a segment, compared with what is kept.
use Rattle.std.specs.Prelude.{◌≡◌, ℕ, ℤ, ◌+◌, ◌-◌, ◌^◌, ◌<◌, ◌≤◌, List, length, Some, Result, Ok, Err, slice_index}
use Rattle.blocking_graph.specs.Edges.{count_of, edges_with}
use Rattle.cap_word.specs.declared.calls.Block.{Block}
use Rattle.cap_word.specs.Word.{signed}
use Rattle.choice_rules.specs.Seen.{changes, uses_in}
use Rattle.lawful_reading.specs.Given.{Given}
use Rattle.lawful_reading.specs.Reading.{IsAllowed, IsBeyond}
use Rattle.lawful_reading.specs.State.{Segment, State}
use Rattle.ready_tree.specs.declared.needs.Need.{Need}
use Rattle.resource_monitor.specs.Monitor.{NoneAbove, SmallCaps}
use Rattle.schedule_log.specs.declared.entries.Entry.{Entry}
use Rattle.scheduler.specs.State.{IsJoined, IsTold}
use Rattle.thread_waits.specs.Waiting.{latest}
use Rattle.schedule_reading.specs.declared.events.Happening.{Happening}
use Rattle.schedule_reading.specs.declared.reading.End.{End}
use Rattle.schedule_reading.specs.declared.reading.End.TheVariants.{NotYet}
use Rattle.schedule_reading.specs.declared.reading.Under.{Under}
use Rattle.schedule_reading.specs.declared.rulings.Failure.{Failure}
use Rattle.schedule_reading.specs.declared.rulings.Ruling.{Ruling}
use Rattle.schedule_reading.specs.declared.rulings.Ruling.TheVariants as ruling
use Rattle.schedule_reading.specs.Changes.{HasBlocked}
use Rattle.schedule_reading.specs.Coming.{HasHappened, KeepsBut}
use Rattle.schedule_reading.specs.Kept.{Core, Kept}
use Rattle.schedule_reading.specs.Rulings.{Refuses}
use Rattle.schedule_reading.specs.Stands.{IsEnd, StandsBy, StandsWithin}
use Rattle.schedule_reading.specs.Told.{Vouches}
use Rattle.schedule_reading.specs.Uses.{cap_in}

-- ---- premises

abbrev pub WithinSomehow : Core → Under → Type 0
WithinSomehow k under = (g : Given) × (state : State) × StandsWithin g state k under

-- what the thread has done next, by the remaining steps
pub record HasProceeded (g : Given) (state : State) (old : Core) (old_under : Under) (k : Core) (under : Under) (result : Result Happening Failure) : Type 0 where
  pub segment : Segment
  pub under_way : state.segment ≡ Some segment
  pub happened : HasHappened g state segment.here old.left k.left k under result
  pub keeps : KeepsBut old old_under old.left (record k { left = old.left }) under k.left

-- ---- outputs

-- a line of this thread and value is allowed before the end, and is that of the word that the thread of that number put
pub record IsPut (end : End) (number word thread : ℕ) (value : ℤ) : Type 0 where
  pub over : end ≡ NotYet
  pub thread_is : thread ≡ number
  pub value_is : value ≡ signed word

-- ---- costs and free chunks

-- the total cost is at most the fuel, and at most all chunks are free
pub record IsWithin (k : Core) (cost free : ℕ) : Type 0 where
  pub fuel : k.cost + cost ≤ k.policy.fuel
  pub chunks : free ≤ k.policy.chunks

-- and at least one instruction has retired
pub record IsClosing (k : Core) (cost free : ℕ) : Type 0 where
  pub some : 1 ≤ cost
  pub within : IsWithin k cost free

-- ---- the end of a segment

-- a line of this thread, cost and number of free chunks may end the segment of the thread of that number
pub record EndsSegment (k : Kept) (number thread cost free : ℕ) : Type 0 where
  pub over : k.end ≡ NotYet
  pub thread_is : thread ≡ number
  pub closing : IsClosing k.core cost free

pub record MayClose (k : Core) (under : Under) (cost free : ℕ) : Type 0 where
  pub within : IsWithin k cost free
  pub fuel : k.policy.fuel ≤ 1000000000
  pub clock : k.threads.waits.clock + cost ≤ latest
  pub caps : (r : ℕ) → r < 8 → cap_in k r ≡ slice_index k.monitor.caps r
  pub small : SmallCaps k.monitor.caps
  pub before : NoneAbove under.before k.monitor.caps
  pub room : count_of k.graph.edges < 2 ^ 40
  pub uses : length k.threads.exchange.exchange.uses ≡ 8

-- the uses after a segment after which so many chunks are free
abbrev pub uses_after : Core → ℕ → List ℕ
uses_after k free = uses_in (k.policy.chunks - free) k.threads.exchange.exchange

-- the cost, the free chunks, the clock, the uses and the record of a segment are taken up
abbrev pub closed : Core → Under → (node cost free : ℕ) → Core
closed k under node cost free = record k {
  cost = k.cost + cost;
  free = free;
  threads = record k.threads { waits = record k.threads.waits { clock = k.threads.waits.clock + cost } };
  graph = record k.graph {
    edges = edges_with k.graph.edges (record { from = under.choice.node; to = node; cost = cost; change = changes under.before (uses_after k free) });
  };
}

pub record HasClosed (old : Kept) (under : Under) (node cost free : ℕ) (new : Kept) : Type 0 where
  pub after : new ≡ record old { core = closed old.core under node cost free }
  pub counted : count_of new.core.graph.edges ≡ count_of old.core.graph.edges + 1

abbrev pub Closes : Kept → Under → (node cost free : ℕ) → Kept → Result (Unit {0}) Failure → Type 0
Closes old under node cost free new (Ok _) = HasClosed old under node cost free new
Closes old under node cost free new (Err failure) = failure ≡ Failure.Memory

-- ---- a thread rests

-- it has blocked at a call and joined a node, with its wait, after its segment was taken up
pub record HasRested (old : Kept) (under : Under) (node : ℕ) (block : Block) (cost free : ℕ) (new : Kept) : Type 0 where
  pub counted : count_of (closed old.core under node cost free).graph.edges ≡ count_of old.core.graph.edges + 1
  pub blocked : HasBlocked (closed old.core under node cost free).threads under.choice.thread block under.thread new.core.threads
  pub need : Need
  pub joined : IsJoined old.core.scheduler new.core.scheduler node under.choice.thread
  pub told : IsTold old.core.scheduler new.core.scheduler node (record { thread = under.choice.thread; need = need })
  pub vouched : Vouches new.core.threads under.choice.thread need
  pub after : new ≡ record old { core = record (closed old.core under node cost free) { threads = new.core.threads; scheduler = new.core.scheduler } }

abbrev pub RestsAt : Kept → Under → ℕ → Block → (cost free : ℕ) → Kept → Result (Unit {0}) Failure → Type 0
RestsAt old under node block cost free new (Ok _) = HasRested old under node block cost free new
RestsAt old under node block cost free new (Err failure) = failure ≡ Failure.Memory

-- ---- a line

-- the line is allowed, and the kept part of the trace is unchanged
pub record AllowsWithin (g : Given) (state : State) (old : Kept) (entry : Entry) (new : Kept) : Type 0 where
  pub after : State
  pub allowed : IsAllowed g state entry after
  pub within : after.steps ≤ g.most_steps
  pub stands : StandsBy g after new.core new.under
  pub end_is : IsEnd g after new.end
  pub going : new.end ≡ old.end
  pub trace : after.trace ≡ state.trace
  pub reader : new.reader ≡ old.reader
  pub next : new.next ≡ old.next

abbrev pub RulesWithin : Given → State → Kept → Entry → Kept → Result Ruling Failure → Type 0
RulesWithin g state old entry new (Ok ruling.Allowed) = AllowsWithin g state old entry new
RulesWithin g state old entry new (Ok ruling.Refused) = Refuses g state entry
RulesWithin g state old entry new (Ok ruling.OutOfSteps) = IsBeyond g state entry
RulesWithin g state old entry new (Err failure) = failure ≡ Failure.Memory
