-- The entries of a segment, from the way to them.
use Rattle.lawful_log.proofs.Common.{◌≡◌, ℕ, ◌-◌, List, None, refl, subst, IsSome, slice_get, node_number, Stop, key_of, Waiter, checked_of, HasRun, IsBlock, IsEnd, Setup, setting_of, Segment, State, IsCutBy, IsStopped, StandsForWorld, World, Blocks, Ends, Puts, Stops, step, IsWithin, free_count}
use Rattle.c_mean.specs.World as source
use Rattle.lawful_log.specs.Entries.{PutsHere, BlocksHere, EndsHere}
use Rattle.lawful_log.proofs.Between.{between_after}
use Rattle.lawful_log.proofs.Within.{put_state, put_segment, out_allowed, within_puts, cost_is, over_block, over_end, rests_blocked, blocked_state, block_allowed, threads_blocked, formed_after_block, ended_state, end_allowed, threads_ended, formed_after_end, stop_allowed, stop_cost}

module _ (g : Setup) (state : State) (segment : Segment) (begun : ℕ) (here : World) (waiting : List Waiter) where
  pub puts_here : (word : ℕ) (after : World) → IsWithin g state segment begun here waiting → step (setting_of g) here ≡ Puts word after → PutsHere g state segment begun word after waiting
  puts_here word after is e = record {
    new = put_state g state segment begun here waiting is word after;
    new_segment = put_segment g state segment begun here waiting is word;
    allowed = out_allowed g state segment begun here waiting is word after e;
    within = within_puts g state segment begun here waiting is word after e;
  }

  pub blocks_here : (after : World) (world : source.World) → IsWithin g state segment begun here waiting → step (setting_of g) here ≡ Blocks after → HasRun g state segment None world →
      StandsForWorld (checked_of g) g.program after world → BlocksHere g state segment begun after world
  blocks_here after world is e run stands =
      let rests = rests_blocked g state segment begun here waiting is after world e stands in
      let key = key_of rests.waiting_at in
      let new = blocked_state g state segment begun here waiting is after world key in
      record {
        thread = rests.thread;
        live = rests.live;
        block = rests.block;
        waiting = rests.waiting_at;
        blocked = rests.blocked;
        new = new;
        allowed = subst (λ (cost : ℕ). IsBlock g state segment.thread (node_number state.past.keys key) key cost (free_count after.areas.pool) new)
            (cost_is g state segment begun here waiting is after (over_block g state segment begun here waiting is after e))
            (block_allowed g state segment begun here waiting is after world key (free_count after.areas.pool) e run rests refl refl);
        between = between_after g new refl (formed_after_block g state segment begun here waiting is after e) stands (threads_blocked g state segment begun here waiting is after world key e stands);
      }

  pub ends_here : (after : World) (world : source.World) → IsWithin g state segment begun here waiting → step (setting_of g) here ≡ Ends after → HasRun g state segment None world →
      StandsForWorld (checked_of g) g.program after world → IsSome (slice_get world.threads segment.thread) → EndsHere g state segment begun after world
  ends_here after world is e run stands there =
      let new = ended_state g state segment begun here waiting is after world in
      record {
        new = new;
        allowed = subst (λ (cost : ℕ). IsEnd g state segment.thread cost (free_count after.areas.pool) new)
            (cost_is g state segment begun here waiting is after (over_end g state segment begun here waiting is after e))
            (end_allowed g state segment begun here waiting is after world (free_count after.areas.pool) e run stands there refl);
        between = between_after g new refl (formed_after_end g state segment begun here waiting is after e) stands (threads_ended g state segment begun here waiting is after world e stands);
      }

  pub stops_here : (stop : Stop) → IsWithin g state segment begun here waiting → step (setting_of g) here ≡ Stops stop → IsCutBy g state segment stop →
      IsStopped g state segment.thread stop (here.cost - begun) (free_count here.areas.pool) here
  stops_here stop is e puts =
      subst (λ (cost : ℕ). IsStopped g state segment.thread stop cost (free_count here.areas.pool) here) (stop_cost g state segment begun here waiting is)
      (stop_allowed g state segment begun here waiting is stop (free_count here.areas.pool) e puts refl)
