-- The laws, over that of flat code.
use Rattle.machine_meaning.proofs.Common.{◌≡◌, ℕ, List, Option, Some, None, Ok, refl, lowered, Running, ProgramTree, IsWellScoped, IsValid, Pool, result_place, a0, Core, Local, Checked, IsResting, PastCall, SourceThread, StandsForThread, going_on, Instr, read, instruction_at, CodeFacts-valid, HasForm, HoldsWanted, HoldsResult, RunsAsSource, MayRun, Certificate, Image}
use Rattle.machine_meaning.proofs.Formed.{formed, follows}
use Rattle.machine_meaning.proofs.Zeroes.{program_zeroes}
use Rattle.machine_meaning.proofs.Combined.{FlatLaw, rests_source}
use Rattle.machine_meaning.proofs.Ecalls as ecalls
use Rattle.segment_laws.proofs.Law.{segment_runs}
use Rattle.machine_meaning.proofs.BetweenLaws as between
use Rattle.machine_meaning.proofs.StandsForSome.{globals_somewhere}

module _ (program : ProgramTree) (image : Image) (certificate : Certificate) where
  abbrev checked : Checked
  checked = record { flat = lowered program; certificate = certificate }

  flat_law : (l : Local) (scoped : IsWellScoped program) (valid : IsValid (lowered program) image certificate) → HasForm checked l → FlatLaw program image certificate scoped valid l
  flat_law l scoped valid form t stands may never =
      segment_runs (lowered program) image certificate l t (formed program image certificate scoped valid) (program_zeroes program scoped) (follows program scoped) valid form stands may never

  pub source : (l : Local) (thread : SourceThread) (globals : List (List ℕ)) (result : ℕ) → IsWellScoped program → IsValid (lowered program) image certificate → HasForm checked l → (stands : StandsForThread checked program l thread globals)
      → MayRun checked l.areas.pool l.core stands.rests → HoldsResult checked l.areas.pool l.core stands.rests result → RunsAsSource checked image.code program l (going_on thread result globals)
  source l thread globals result scoped valid form stands may holds = rests_source program image certificate scoped valid l thread globals result stands may holds (flat_law l scoped valid form)

  -- ---- without a source thread

  wanted_a0 : (d : Option ℕ) (core : Core) → HoldsWanted d core (read core.x a0)
  wanted_a0 None core = tt
  wanted_a0 (Some d) core = refl

  holds_a0 : (pool : Pool) (core : Core) (rests : IsResting checked pool core) → HoldsResult checked pool core rests (read core.x a0)
  holds_a0 pool core (PastCall f i op word place frames in_place) = wanted_a0 (result_place op) core
  holds_a0 pool core _ = tt

  pub runs : (l : Local) → IsWellScoped program → IsValid (lowered program) image certificate → HasForm checked l → (rests : IsResting checked l.areas.pool l.core) → MayRun checked l.areas.pool l.core rests → (running : Running) × RunsAsSource checked image.code program l running
  runs l scoped valid form rests may =
      let some = between.somewhere program checked image l.areas.pool l.core rests scoped refl valid in
      let globals = globals_somewhere (lowered program) l.areas.globals form.areas.globals in
      let stands : StandsForThread checked program l some.0 globals.0 = record { rests = rests; stands = some.1; globals_are = globals.1 } in
      (going_on some.0 (read l.core.x a0) globals.0, source l some.0 globals.0 (read l.core.x a0) scoped valid form stands may (holds_a0 l.areas.pool l.core rests))

  pub may_run : (l : Local) → IsWellScoped program → IsValid (lowered program) image certificate → (rests : IsResting checked l.areas.pool l.core) → (instruction_at image.code l.core.pc ≡ Ok Instr.Ecall → ⊥) → MayRun checked l.areas.pool l.core rests
  may_run l scoped valid rests none =
      ecalls.may_run checked image.code l (CodeFacts-valid (lowered program) image certificate (formed program image certificate scoped valid) (program_zeroes program scoped) valid) rests none
