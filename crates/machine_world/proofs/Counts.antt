-- What a step of the world does to the clock, the cost, the number of the next thread and the running thread.
use Rattle.machine_world.proofs.Common.{◌≡◌, ℕ, ◌+◌, None, refl, World, Setting, Move, Goes, Puts, Spawns, Blocks, Ends, step}
use Rattle.machine_world.proofs.StepCases.{row_for, on_step, on_printed}

-- an instruction has retired, and the segment goes on
pub record Retires (w after : World) : Type 0 where
  pub clock : after.clock ≡ w.clock + 1
  pub cost : after.cost ≡ w.cost + 1
  pub next : after.next ≡ w.next
  pub running : after.running ≡ w.running

-- a thread has started
pub record StartsOne (w after : World) (number : ℕ) : Type 0 where
  pub clock : after.clock ≡ w.clock + 1
  pub cost : after.cost ≡ w.cost + 1
  pub number_is : number ≡ w.next
  pub next : after.next ≡ w.next + 1
  pub running : after.running ≡ w.running

-- the segment is over
pub record IsOver (w after : World) : Type 0 where
  pub clock : after.clock ≡ w.clock + 1
  pub cost : after.cost ≡ w.cost + 1
  pub next : after.next ≡ w.next
  pub running : after.running ≡ None

abbrev pub Counts : World → Move → Type 0
Counts w (Goes after) = Retires w after
Counts w (Puts value after) = Retires w after
Counts w (Spawns number after) = StartsOne w after number
Counts w (Blocks after) = IsOver w after
Counts w (Ends after) = IsOver w after
Counts w _ = Unit {0}

pub counts_step : (s : Setting) (w : World) → Counts w (step s w)
counts_step s w =
    on_step s w (Counts w) (λ stop. tt) tt
    (λ number thread runs there left. record {
      goes = λ after e. record { clock = refl; cost = refl; next = refl; running = refl };
      answers = λ ask still e. on_printed (Counts w) (row_for s w thread ask).prints _ (record { clock = refl; cost = refl; next = refl; running = refl }) (λ word some. record { clock = refl; cost = refl; next = refl; running = refl });
      blocks = λ block. record { clock = refl; cost = refl; next = refl; running = refl };
      spawns = λ entry argument need still taken e few some. record { clock = refl; cost = refl; number_is = refl; next = refl; running = refl };
      ends = λ areas e. record { clock = refl; cost = refl; next = refl; running = refl };
    })
