-- The lines of a segment.
use Rattle.std.specs.Prelude.{◌≡◌, ℕ, ◌+◌, ◌-◌, ◌≤◌, ℤ, List, [], ◌∷◌, ◌++◌, length, Some, None, slice_get}
use Rattle.blocking_graph.specs.Nodes.{keys_with, node_number}
use Rattle.cap_word.specs.Word.{signed}
use Rattle.cap_word.specs.declared.calls.Block.{Block}
use Rattle.c_mean.specs.Frames.{Waiting, key_of}
use Rattle.c_mean.specs.World as source
use Rattle.choice_rules.specs.Seen.{Waiter, uses_in, changes, newcomers, end_node, with_segment}
use Rattle.lawful_reading.specs.Given.{Given, chunks_of}
use Rattle.lawful_reading.specs.Happenings.{PutsNext, RestsNext}
use Rattle.lawful_reading.specs.State.{Segment, State, NotYet, IsPossible}

-- ---- `out`

-- the next output of the running thread
pub record IsOut (g : Given) (before : State) (thread : ℕ) (value : ℤ) (after : State) : Type 0 where
  pub not_over : before.end ≡ NotYet
  pub segment : Segment
  pub under_way : before.segment ≡ Some segment
  pub steps : ℕ
  pub word : ℕ
  pub here : source.Segment
  pub puts : PutsNext g.program g.policy.caps segment.here steps word here
  pub thread_is : thread ≡ segment.here.number
  pub value_is : value ≡ signed word
  pub after_is : after ≡ record before { segment = Some (record segment { here = here }); steps = before.steps + steps }

-- ---- `block` and `end`

-- the state after a segment that has ended at a node at this cost, with this number of free chunks and of steps; the
-- threads that join a node then, and the keys so far
abbrev pub rested : Given → State → Segment → ℕ → ℕ → ℕ → ℕ → source.World → List Waiter → List (List ℕ) → State
rested g before segment node cost free steps world joining keys =
    let uses : List ℕ = uses_in (chunks_of g - free) world.exchange in
    record {
      clock = before.clock + cost;
      cost = before.cost + cost;
      held = chunks_of g - free;
      source = world;
      trace = before.trace;
      waiting = before.waiting ++ newcomers before.source (length world.threads) ++ joining;
      segment = None;
      past = with_segment before.past keys (record { from = segment.node; to = node; cost = cost; change = changes segment.uses uses }) uses;
      steps = before.steps + steps;
      end = NotYet;
    }

-- the running thread rests without a further output and without a trap, and the line has its number, at least one
-- instruction, and possible values
pub record IsClosed (g : Given) (before : State) (thread cost free steps : ℕ) (segment : Segment) (world : source.World) : Type 0 where
  pub not_over : before.end ≡ NotYet
  pub under_way : before.segment ≡ Some segment
  pub rests : RestsNext g.program g.policy.caps segment.here steps (record { trap = None; world = world })
  pub thread_is : thread ≡ segment.here.number
  pub some : 1 ≤ cost
  pub possible : IsPossible g before cost free

-- `block`: the running thread blocks at a call of this key
pub record IsBlock (g : Given) (before : State) (thread node : ℕ) (key : List ℕ) (cost free : ℕ) (after : State) : Type 0 where
  pub segment : Segment
  pub steps : ℕ
  pub world : source.World
  pub closed : IsClosed g before thread cost free steps segment world
  pub block : Block
  pub waiting : Waiting
  pub blocked : slice_get world.threads thread ≡ Some (source.Blocked block waiting)
  pub key_is : key ≡ key_of waiting
  pub node_is : node ≡ node_number before.past.keys key
  pub after_is : after ≡ rested g before segment node cost free steps world
      (record { thread = thread; node = node; since = before.clock + cost } ∷ []) (keys_with before.past.keys key)

-- `end`: the running thread ends
pub record IsEnd (g : Given) (before : State) (thread cost free : ℕ) (after : State) : Type 0 where
  pub segment : Segment
  pub steps : ℕ
  pub world : source.World
  pub closed : IsClosed g before thread cost free steps segment world
  pub ended : slice_get world.threads thread ≡ Some source.Ended
  pub after_is : after ≡ rested g before segment end_node cost free steps world [] before.past.keys
