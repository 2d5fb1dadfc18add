-- What holds between and within segments of the world of a valid pair: it is well formed, and its threads rest, or the running
-- one runs as some source thread.
use Rattle.log_laws.proofs.Common.{◌≡◌, ℕ, ◌/◌, ◌≤◌, List, [], Some, refl, subst, arith, lowered, IsWellScoped, IsValid, Setup, setting_of, start_machine, start_areas, checked_of, formed, Action, Deliver, Advance, Pick, after_action, World, Move, Goes, Puts, Spawns, Blocks, Ends, step, AreWellFormed, IsWellFormed, IsWellFormedIf, KeepsWellFormed, DeliversWords, most_fuel, KeepsWellFormed-step, IsWellFormedIf-action, IsWellFormedIf-start, CallFacts-valid, fact_at, IsReached, StepReaches, IsSettled, StandsSettled, delivered_law, advanced_law, starts_law, settled_sound, under_way_sound, all_free-new}
use Rattle.c_mean.specs.World as source
use Rattle.log_laws.proofs.Stretching.{AreKept}
use Rattle.machine_meaning.proofs.WorldLaws as laws

module _ (g : Setup) (scoped : IsWellScoped g.program) (valid : IsValid (lowered g.program) g.image g.certificate) where
  -- between segments
  pub record Rests (w : World) : Type 0 where
    pub form : IsWellFormed (checked_of g) (setting_of g) w
    pub settled : IsSettled (checked_of g) w

  -- within one
  pub record Runs (w : World) : Type 0 where
    pub form : IsWellFormed (checked_of g) (setting_of g) w
    pub start : source.World
    pub number : ℕ
    pub puts : List ℕ
    pub reached : IsReached (checked_of g) g.program (setting_of g) start number puts w

  -- a world at rest stands for some source world
  record Somewhere (w : World) : Type 0 where
    other : source.World
    stands : StandsSettled (checked_of g) g.program w other

  somewhere : (w : World) → Rests w → Somewhere w
  somewhere w is =
      let some = laws.somewhere g.program g.image g.certificate (setting_of g) w scoped valid is.form is.settled in
      record { other = some.0; stands = record { stands = some.1; settled = is.settled } }

  pub formed_after : (w after : World) (action : Action) → DeliversWords action → IsWellFormed (checked_of g) (setting_of g) w → after_action (setting_of g) w action ≡ Some after → IsWellFormed (checked_of g) (setting_of g) after
  formed_after w after action words form e = subst (IsWellFormedIf (checked_of g) (setting_of g)) e (IsWellFormedIf-action (checked_of g) (setting_of g) w action words form)

  pub formed_step : (w : World) (move : Move) → IsWellFormed (checked_of g) (setting_of g) w → step (setting_of g) w ≡ move → KeepsWellFormed (checked_of g) (setting_of g) move
  formed_step w move form e = subst (KeepsWellFormed (checked_of g) (setting_of g)) e (KeepsWellFormed-step (checked_of g) (setting_of g) w form)

  pub reaches : {start : source.World} {number : ℕ} {puts : List ℕ} (w : World) (move : Move) → IsWellFormed (checked_of g) (setting_of g) w →
      IsReached (checked_of g) g.program (setting_of g) start number puts w → step (setting_of g) w ≡ move → StepReaches (checked_of g) g.program (setting_of g) start number puts move
  reaches {start} {number} {puts} w move form reached e =
      subst (StepReaches (checked_of g) g.program (setting_of g) start number puts) e (laws.steps g.program g.image g.certificate (setting_of g) w start number puts scoped valid refl form reached)

  pub kept : AreKept (checked_of g) (setting_of g) Rests Runs
  kept = record {
    begins = λ w after number is e.
        let some = somewhere w is in
        record {
          form = formed_after w after (Pick number) tt is.form e;
          start = some.other;
          number = number;
          puts = [];
          reached = laws.picks g.program g.image g.certificate (setting_of g) w after some.other number scoped valid refl is.form some.stands e;
        };
    goes = λ w after is e. record { form = formed_step w (Goes after) is.form e; start = is.start; number = is.number; puts = is.puts; reached = reaches w (Goes after) is.form is.reached e };
    puts = λ w after value is e. record { form = formed_step w (Puts value after) is.form e; start = is.start; number = is.number; puts = _; reached = reaches w (Puts value after) is.form is.reached e };
    spawns = λ w after number is e. record { form = formed_step w (Spawns number after) is.form e; start = is.start; number = is.number; puts = is.puts; reached = reaches w (Spawns number after) is.form is.reached e };
    blocks = λ w after is e. record { form = formed_step w (Blocks after) is.form e; settled = (reaches w (Blocks after) is.form is.reached e).2.settled };
    ends = λ w after is e. record { form = formed_step w (Ends after) is.form e; settled = (reaches w (Ends after) is.form is.reached e).2.settled };
    sound = λ w is. under_way_sound (checked_of g) g.program (setting_of g) w is.reached.segment is.form is.reached.under_way;
    rests = λ w is. settled_sound (checked_of g) (setting_of g) w is.form is.settled;
    advances = λ w after to is e.
        let some = somewhere w is in
        record { form = formed_after w after (Advance to) tt is.form e; settled = (advanced_law (checked_of g) g.program (setting_of g) w after some.other to some.stands e).settled };
    delivers = λ w after delivery words is e.
        let some = somewhere w is in
        record { form = formed_after w after (Deliver delivery) words is.form e; settled = (delivered_law (checked_of g) g.program (setting_of g) w after some.other delivery some.stands e).settled };
  }

  pub starts : (start : World) → AreWellFormed (checked_of g) (start_areas g) → g.policy.fuel ≤ most_fuel → start_machine g ≡ Some start → Rests start
  starts start areas fuel e =
      let code = formed g.program g.image g.certificate scoped valid in
      let room = ((CallFacts-valid (lowered g.program) g.image g.certificate code valid).entries g.program.main code.main_defined).room in
      record {
        form = subst (IsWellFormedIf (checked_of g) (setting_of g)) e
            (IsWellFormedIf-start (checked_of g) (setting_of g) (start_areas g) (fact_at g.certificate g.program.main).entry (fact_at g.certificate g.program.main).bound areas (all_free-new g.policy.chunks (g.certificate.chunk / 4) g.policy.extra (g.policy.extra_bytes / 4)) fuel (omega (arith, room)));
        settled = (starts_law g.program g.image g.certificate start (start_areas g) scoped valid refl areas e).settled;
      }
