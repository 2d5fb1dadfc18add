-- The promise on the pool of chunks.
use Rattle.std.specs.Prelude.{ℕ, ◌≡◌, ◌≢◌, ◌+◌, ◌⊎◌, List, Option, IfSome, codes}
use Rattle.command_words.specs.Said.{Said, value_of}
use Rattle.command_words.specs.Values.{IsNumberOf}
use Rattle.command_words.specs.declared.option_table.CommandOption.TheVariants as option
use Rattle.machine_world.specs.Chains.{IsPartition}
use Rattle.promises.specs.Returned.{IsReturned}
use Rattle.promises.specs.Words.{AreOf}
use Rattle.thread_core.specs.Worlds.{Held}

-- the pool has as many chunks as `--chunks` and `--extra` say, or as their defaults; that of `demo` has 2,048
pub record HasAsked (words : List (List ℕ)) (count : ℕ) : Type 0 where
  pub command : List ℕ
  pub items : List Said
  pub asked : AreOf words command items
  pub chunks : ℕ
  pub extra : ℕ
  pub chosen : ((command ≢ codes "demo") × IsNumberOf (value_of items) option.Chunks chunks × IsNumberOf (value_of items) option.Extra extra)
      ⊎ ((command ≡ codes "demo") × (chunks + extra ≡ 2048))
  pub count_is : count ≡ chunks + extra

-- In the world that a run returns, the chains of the live threads and the free lists together hold each chunk of the
-- pool exactly once, and nothing else. So ended threads hold none. The promise on memory says it of every world that the
-- machine reaches.
pub record KeepsPool (words : List (List ℕ)) (last : Option Held) (status : ℕ) : Type 0 where
  pub returned : IsReturned words last status
  pub size : IfSome last (λ world. HasAsked words world.machine.areas.pool.count)
  pub partition : IfSome last (λ world. IsPartition world.machine)
