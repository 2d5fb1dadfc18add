use Rattle.std.proofs.Common.{◌≡◌, ℕ, ◌+◌, ◌∷◌, refl, sym, subst, arith}
use Rattle.std.specs.Prelude.{replicate, drop}
use Rattle.accepted_pairs.specs.Accepting.{accepted_tree}
use Rattle.choice_rules.specs.Policy.{by_graph}
use Rattle.lawful_log.specs.Setup.{Setup}
use Rattle.resource_monitor.specs.declared.curves.Curve.TheVariants.{Linear}
use Rattle.run_course.specs.Starts.{IsAtStart}
use Rattle.command_rows.specs.Given.{caps_of}
use Rattle.command_rows.proofs.runs.run_measured.Goals as goal

pub monitor_of-requires-clause-few : goal.monitor_of-requires-clause-few
monitor_of-requires-clause-few g c = c.requires.made.ranges.chunks

pub monitor_of-requires-clause-units : goal.monitor_of-requires-clause-units
monitor_of-requires-clause-units g c = c.requires.made.ranges.caps 1 (omega arith) (omega arith)

pub run-end-requires : goal.run-end-requires
run-end-requires g c =
    let setup : Setup = record {
      program = accepted_tree c.args.world.accepted;
      image = c.args.world.accepted.image;
      certificate = c.args.world.accepted.certificate;
      policy = record {
        chunks = c.args.setup.chunks;
        extra = 0;
        extra_bytes = 64;
        fuel = c.args.setup.fuel;
        backlog = c.args.setup.backlog;
        caps = caps_of c.args.setup.cap;
        curves = replicate 8 Linear;
        high = 900;
        low = 700;
        rule = by_graph;
      };
    } in
    -- no chunk of the second size is there
    let whole : c.args.setup.chunks + 0 ≡ c.args.setup.chunks = omega arith in
    let is : IsAtStart setup c.args.world c.in-Ok.monitor = record {
      program = refl;
      image = refl;
      certificate = refl;
      rule = refl;
      ranges = c.requires.made.ranges;
      made = c.requires.made.made;
      monitor_is = record { curves = c.in-Ok.ensures.0; caps = subst (λ (n : ℕ). c.in-Ok.monitor.caps ≡ (n ∷ drop 1 (caps_of c.args.setup.cap))) (sym whole) c.in-Ok.ensures.1; high = c.in-Ok.ensures.2; low = c.in-Ok.ensures.3 };
      gate = c.in-Ok.ensures.4;
    } in
    (setup, is)
