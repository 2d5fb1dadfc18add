-- A thread whose chunks keep their words: it stays in place, and rests as before.
use Rattle.std.specs.Prelude.{◌≡◌, ℕ, List}
use Rattle.std.specs.List.{AllByRecursion}
use Rattle.c_tree.specs.Trees.{ProgramTree}
use Rattle.chunk_pool.specs.Pool.{Pool, chunk_of, shape_of}
use Rattle.flat_code.specs.Frames.{FlatFrame}
use Rattle.rv_machine.specs.Registers.{read}
use Rattle.stack_certificate.specs.Registers.{ra, sp, tp}
use Rattle.machine_world.specs.Local.{Core}
use Rattle.machine_world.specs.Places.{Checked}
use Rattle.machine_world.specs.Rests.{IsResting, StandsForFlat}
use Rattle.machine_world.specs.StandsFor.{SourceThread, StandsFor}
use Rattle.machine_world.specs.StandsForWorld.{IsPast}

-- a pool has the shape of another, and each of these chunks has the same words
pub record KeepsChunks (pool after : Pool) (chunks : List ℕ) : Type 0 where
  pub shape : shape_of after ≡ shape_of pool
  pub words : AllByRecursion (λ chunk. chunk_of after chunk ≡ chunk_of pool chunk) chunks

-- a thread is at the same pc, on the same chunks, with the same return address, stack and chunk pointers
pub record KeepsStack (core after : Core) : Type 0 where
  pub pc : after.pc ≡ core.pc
  pub chain : after.chain ≡ core.chain
  pub returns : read after.x ra ≡ read core.x ra
  pub stack : read after.x sp ≡ read core.x sp
  pub front : read after.x tp ≡ read core.x tp

-- a thread that rested rests as before: it stands for every thread of source and of flat code for which it stood
pub record RestsOn (c : Checked) (pool : Pool) (core : Core) (old : IsResting c pool core) (pool_now : Pool) (core_now : Core) : Type 0 where
  pub rests : IsResting c pool_now core_now
  pub past : IsPast c pool core old → IsPast c pool_now core_now rests
  pub stands : (program : ProgramTree) (thread : SourceThread) → StandsFor c program pool core old thread → StandsFor c program pool_now core_now rests thread
  pub flat : (flats : List FlatFrame) → StandsForFlat c pool core old flats → StandsForFlat c pool_now core_now rests flats
