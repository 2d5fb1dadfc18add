-- A segment does what the source's run of its thread does.
use Rattle.run_course.proofs.Common.{◌≡◌, ℕ, [], Some, refl, sym, subst, checked_of, Setup, setting_of, State, Pick, advanced, after_action, StandsForWorld, World, IsWellFormed, Held, IsReached, Kept, IsOf, StandsBetween, StepsAsSource, Rest}
use Rattle.machine_meaning.proofs.WorldLaws.{picks, steps}

pub source_steps : (g : Setup) (state : State) (held : Held) → IsOf g held → (number : ℕ) → StepsAsSource g state number
source_steps g state held of number = λ puts w formed reached. steps g.program g.image g.certificate (setting_of g) w state.source number puts of.scoped of.valid refl formed reached

formed_advanced : (g : Setup) (w : World) (clock : ℕ) → IsWellFormed (checked_of g) (setting_of g) w → IsWellFormed (checked_of g) (setting_of g) (advanced w clock)
formed_advanced g w clock f = record {
  areas = f.areas;
  cores = f.cores;
  counted = record { numbered = f.counted.numbered; partition = f.counted.partition };
  exchange = f.exchange;
  fuel = f.fuel;
  cost = f.cost;
  next = f.next;
}

module _ (g : Setup) (state : State) (k : Kept) (held : Held) (left : Rest) (stands : StandsBetween g state k held left) where
  pub formed_now : IsWellFormed (checked_of g) (setting_of g) held.machine
  formed_now = subst (IsWellFormed (checked_of g) (setting_of g)) (sym stands.between.machine_is) (formed_advanced g state.machine held.machine.clock stands.between.formed)

  pub stands_now : StandsForWorld (checked_of g) g.program held.machine state.source
  stands_now = subst (λ (w : World). StandsForWorld (checked_of g) g.program w state.source) (sym stands.between.machine_is)
      (record { between = stands.between.stands.between; threads = stands.between.stands.threads; globals_are = stands.between.stands.globals_are; exchange = stands.between.stands.exchange; next = stands.between.stands.next })

  pub source_picks : (number : ℕ) (after : World) → after_action (setting_of g) held.machine (Pick number) ≡ Some after → IsReached (checked_of g) g.program (setting_of g) state.source number [] after
  source_picks number after e = picks g.program g.image g.certificate (setting_of g) held.machine after state.source number stands.of.scoped stands.of.valid refl formed_now (record { stands = stands_now; settled = stands.settled }) e
