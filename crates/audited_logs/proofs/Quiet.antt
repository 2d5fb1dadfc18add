-- Steps of a segment of which the log has no entry, and the step of an entry.
use Rattle.audited_logs.proofs.Common.{◌≡◌, ℕ, zero, suc, ◌+◌, List, [], ◌∷◌, ◌++◌, Some, refl, ◌∙◌, subst, arith, lowered, IsWellScoped, IsValid, checked_of, Setup, setting_of, KeepsWellFormed, KeepsWellFormed-step, StepReaches, IsFinishedIn}
use Rattle.c_mean.specs.World as source
use Rattle.lawful_log.specs.Segments.{quiet_world, after_quiet}
use Rattle.machine_world.proofs.Counts.{Counts, Retires, StartsOne, IsOver, counts_step}
use Rattle.machine_world.specs.Runs.{and_then}
use Rattle.machine_world.specs.Threads.{World, Setting, Move, Goes, Puts, Spawns, Blocks, Ends, step}
use Rattle.machine_meaning.proofs.WorldLaws as laws
use Rattle.audited_logs.proofs.Acts.{KeepsFew, few_step, same_some, none-not}
use Rattle.audited_logs.proofs.Beside.{Holds, Runs}
use Rattle.audited_logs.proofs.Pools.{KeepsCount, count_step}

module _ (g : Setup) (scoped : IsWellScoped g.program) (valid : IsValid (lowered g.program) g.image g.certificate) where
  abbrev s : Setting
  s = setting_of g

  module _ (start : source.World) (number : ℕ) (puts : List ℕ) (clock cost : ℕ) where
    abbrev On : ℕ → World → Type 0
    On spent w = Runs g start number puts clock cost spent w

    reaches : (spent : ℕ) (w : World) (move : Move) → On spent w → step s w ≡ move → StepReaches (checked_of g) g.program s start number puts move
    reaches spent w move on e = subst (StepReaches (checked_of g) g.program s start number puts) e
        (laws.steps g.program g.image g.certificate s w start number puts scoped valid refl on.holds.formed on.reached)

    forms : (spent : ℕ) (w : World) (move : Move) → On spent w → step s w ≡ move → KeepsWellFormed (checked_of g) s move
    forms spent w move on e = subst (KeepsWellFormed (checked_of g) s) e (KeepsWellFormed-step (checked_of g) s w on.holds.formed)

    counts : (spent : ℕ) (w : World) (move : Move) → On spent w → step s w ≡ move → KeepsCount w move
    counts spent w move on e = subst (KeepsCount w) e (count_step s w)

    few : (spent : ℕ) (w : World) (move : Move) → On spent w → step s w ≡ move → KeepsFew move
    few spent w move on e = subst KeepsFew e (few_step s w on.holds.few)

    times : (w : World) (move : Move) → step s w ≡ move → Counts w move
    times w move e = subst (Counts w) e (counts_step s w)

    one_on : (a b c d : ℕ) → a ≡ b + 1 → b ≡ c + d → a ≡ c + (d + 1)
    one_on a b c d e f = omega (arith, e, f)

    -- a step of which the log has no entry
    goes_on : (spent : ℕ) (w next : World) → On spent w → step s w ≡ Goes next → On (spent + 1) next
    goes_on spent w next on e =
        let time : Retires w next = times w (Goes next) e in
        record {
          holds = record { formed = forms spent w (Goes next) on e; count = counts spent w (Goes next) on e ∙ on.holds.count; few = few spent w (Goes next) on e };
          reached = reaches spent w (Goes next) on e;
          clock_is = one_on next.clock w.clock clock spent time.clock on.clock_is;
          cost_is = one_on next.cost w.cost cost spent time.cost on.cost_is;
        }

    spawns_on : (spent started : ℕ) (w next : World) → On spent w → step s w ≡ Spawns started next → On (spent + 1) next
    spawns_on spent started w next on e =
        let time : StartsOne w next started = times w (Spawns started next) e in
        record {
          holds = record { formed = forms spent w (Spawns started next) on e; count = counts spent w (Spawns started next) on e ∙ on.holds.count; few = few spent w (Spawns started next) on e };
          reached = reaches spent w (Spawns started next) on e;
          clock_is = one_on next.clock w.clock clock spent time.clock on.clock_is;
          cost_is = one_on next.cost w.cost cost spent time.cost on.cost_is;
        }

    quiet_by : (n spent : ℕ) (w here : World) (move : Move) → On spent w → step s w ≡ move → ((next : World) → On (spent + 1) next → after_quiet s n next ≡ Some here → On (spent + 1 + n) here) →
        and_then (quiet_world move) (after_quiet s n) ≡ Some here → On (spent + 1 + n) here
    quiet_by n spent w here (Goes next) on e rest quiet = rest next (goes_on spent w next on e) quiet
    quiet_by n spent w here (Spawns started next) on e rest quiet = rest next (spawns_on spent started w next on e) quiet
    quiet_by n spent w here _ on e rest quiet = absurd (none-not here quiet)

    pub quiet_on : (n spent : ℕ) (w here : World) → On spent w → after_quiet s n w ≡ Some here → On (spent + n) here
    quiet_on zero spent w here on e =
        let none : spent ≡ spent + 0 = omega arith in
        subst (λ (k : ℕ). On k here) none (subst (λ (v : World). On spent v) (same_some w here e) on)
    quiet_on (suc n) spent w here on e =
        let count : spent + 1 + n ≡ spent + suc n = omega arith in
        subst (λ (k : ℕ). On k here) count (quiet_by n spent w here (step s w) on refl (λ next there q. quiet_on n (spent + 1) next here there q) e)

    -- the step of an output
    pub puts_on : (spent word : ℕ) (w next : World) → On spent w → step s w ≡ Puts word next → Runs g start number (puts ++ word ∷ []) clock cost (spent + 1) next
    puts_on spent word w next on e =
        let time : Retires w next = times w (Puts word next) e in
        record {
          holds = record { formed = forms spent w (Puts word next) on e; count = counts spent w (Puts word next) on e ∙ on.holds.count; few = few spent w (Puts word next) on e };
          reached = reaches spent w (Puts word next) on e;
          clock_is = one_on next.clock w.clock clock spent time.clock on.clock_is;
          cost_is = one_on next.cost w.cost cost spent time.cost on.cost_is;
        }

    -- the step with which a segment ends
    pub record Over (spent : ℕ) (next : World) : Type 0 where
      pub holds : Holds g next
      pub finished : IsFinishedIn (checked_of g) g.program s start number puts next
      pub clock_is : next.clock ≡ clock + (spent + 1)
      pub cost_is : next.cost ≡ cost + (spent + 1)

    pub blocks_on : (spent : ℕ) (w next : World) → On spent w → step s w ≡ Blocks next → Over spent next
    blocks_on spent w next on e =
        let time : IsOver w next = times w (Blocks next) e in
        record {
          holds = record { formed = forms spent w (Blocks next) on e; count = counts spent w (Blocks next) on e ∙ on.holds.count; few = few spent w (Blocks next) on e };
          finished = reaches spent w (Blocks next) on e;
          clock_is = one_on next.clock w.clock clock spent time.clock on.clock_is;
          cost_is = one_on next.cost w.cost cost spent time.cost on.cost_is;
        }

    pub ends_on : (spent : ℕ) (w next : World) → On spent w → step s w ≡ Ends next → Over spent next
    ends_on spent w next on e =
        let time : IsOver w next = times w (Ends next) e in
        record {
          holds = record { formed = forms spent w (Ends next) on e; count = counts spent w (Ends next) on e ∙ on.holds.count; few = few spent w (Ends next) on e };
          finished = reaches spent w (Ends next) on e;
          clock_is = one_on next.clock w.clock clock spent time.clock on.clock_is;
          cost_is = one_on next.cost w.cost cost spent time.cost on.cost_is;
        }
