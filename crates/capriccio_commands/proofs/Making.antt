-- What is known of a world that was just made, and of the world of a run at its end.
use Rattle.capriccio_commands.proofs.Common.{◌≡◌, ℕ, ◌+◌, ◌≤◌, Option, Some, None, refl, sym, ap, subst, ◌∙◌, lowered, accepted_tree, Acceptance, Rule, checked_of, IsSound, World, with_thread, Held, IsAccepted, pool_bytes, rule_of, IsMade, setup_in, world_policy_of, IsNewMonitor, IsRunPolicy, IsReachable, IsWorldOf}
use Rattle.certificate_rules.specs.Validity.{IsValid}
use Rattle.chunk_pool.specs.Pool.{Taken, taken_for}
use Rattle.command_words.specs.declared.options.Policy.{Policy as RunOptions}
use Rattle.machine_world.specs.Areas.{Areas}
use Rattle.machine_world.specs.Runs.{empty_world, started_on, start_world}
use Rattle.machine_world.specs.WellFormed.{AreWords}
use Rattle.resource_monitor.specs.Monitor.{MonitorState}
use Rattle.run_course.specs.Starts.{IsAtStartBy, KeepsRun}
use Rattle.stack_certificate.specs.Certificates.{fact_at}
use Rattle.thread_core.specs.Making.{IsPolicy, IsStart, start_areas}
use Rattle.chunk_pool.proofs.NeedLaws.{taken_for-count}

started : (areas : Areas) (entry : ℕ) (found : Option Taken) (w : World) → ((taken : Taken) → found ≡ Some taken → taken.pool.count ≡ areas.pool.count) → started_on (empty_world areas) entry found ≡ Some w →
    (w.areas.globals ≡ areas.globals) × (w.areas.pool.count ≡ areas.pool.count)
started areas entry None w count e = absurd (let x : None ≡ Some w = e in cc)
started areas entry (Some taken) w count e =
    let first : World = with_thread (empty_world areas) taken entry 0 in
    let same : first ≡ w = (let x : Some first ≡ Some w = e in cc) in
    (sym (ap (λ (v : World). v.areas.globals) same), sym (ap (λ (v : World). v.areas.pool.count) same) ∙ count taken refl)

-- the world in which a run starts has the globals of its areas, and as many chunks
start-keeps : (areas : Areas) (entry need : ℕ) (w : World) → start_world areas entry need ≡ Some w → (w.areas.globals ≡ areas.globals) × (w.areas.pool.count ≡ areas.pool.count)
unfolding start_world
start-keeps areas entry need w e = started areas entry (taken_for areas.pool need) w (λ taken is. taken_for-count areas.pool need taken is) e

-- the options are those of a world of an accepted pair
pub policy-ranges : (options : RunOptions) (accepted : Acceptance) → IsRunPolicy options → pool_bytes options accepted.certificate ≤ 67108864 → IsPolicy accepted (world_policy_of options) options.fuel
policy-ranges options accepted h fits = record {
  some_chunks = h.some_chunks;
  chunks = h.chunks;
  extra = h.extra;
  extra_least = h.extra_least;
  extra_most = h.extra_most;
  extra_whole = h.extra_whole;
  some_backlog = h.some_backlog;
  backlog = h.backlog;
  caps = h.caps;
  most = h.fuel;
  pool = fits;
}

pub made-world : (options : RunOptions) (accepted : Acceptance) (held : Held) → IsRunPolicy options → pool_bytes options accepted.certificate ≤ 67108864 →
    IsValid (lowered (accepted_tree accepted)) accepted.image accepted.certificate → IsStart accepted (world_policy_of options) options.fuel held → IsMade options held
made-world options accepted held h fits valid start =
    let P : Acceptance → Type 0 = λ x. IsPolicy x (world_policy_of options) options.fuel in
    let Q : Acceptance → Type 0 = λ x. IsStart x (world_policy_of options) options.fuel held in
    let R : Acceptance → Type 0 = λ x. IsValid (lowered (accepted_tree x)) x.image x.certificate in
    let is = sym start.accepted_is in
    record { ranges = subst P is (policy-ranges options accepted h fits); made = subst Q is start; valid = subst R is valid }

module _ (options : RunOptions) (held : Held) (made : IsMade options held) where
  kept : (held.machine.areas.globals ≡ held.accepted.image.globals) × (held.machine.areas.pool.count ≡ options.chunks + options.extra)
  kept = start-keeps (start_areas held.accepted (world_policy_of options)) (fact_at held.accepted.certificate (accepted_tree held.accepted).main).entry (fact_at held.accepted.certificate (accepted_tree held.accepted).main).bound held.machine made.made.machine

  -- the checker accepted its pair
  pub made-accepted : IsAccepted (setup_in held options)
  made-accepted = record {
    scoped = held.accepted.program.well_scoped;
    globals = subst AreWords kept.0 made.made.formed.areas.global_words;
    valid = made.valid;
  }

  -- a run of it starts, by the rule of its options
  pub at-start : (choosing : Rule) (monitor : MonitorState) → rule_of options.rule ≡ choosing → IsNewMonitor options monitor → IsAtStartBy choosing (setup_in held options) held monitor
  at-start choosing monitor rule is = record {
    program = refl;
    image = refl;
    certificate = refl;
    rule = rule;
    ranges = made.ranges;
    made = made.made;
    monitor_is = record { curves = is.curves; caps = is.caps; high = is.high; low = is.low };
    gate = is.gate;
  }

  -- the world at the end of a run is that of the pair and the options, where the machine reaches it and it is sound
  pub world-of : (after : Held) → KeepsRun held after → IsReachable (setup_in held options) after.machine → IsSound (checked_of (setup_in held options)) after.machine →
      IsWorldOf (record { setup = setup_in held options; end = after.machine }) after
  world-of after keeps reached sound = record {
    program = ap accepted_tree keeps.accepted;
    image = ap (λ a. a.image) keeps.accepted;
    certificate = ap (λ a. a.certificate) keeps.accepted;
    setting = keeps.setting ∙ made.made.setting;
    chunks = keeps.chunks ∙ kept.1;
    machine = refl;
    reached = reached;
    sound = sound;
  }
