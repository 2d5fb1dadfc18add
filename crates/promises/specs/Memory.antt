-- The promise on memory: each load and store of a run lies in the running frame, or in one declared global or table,
-- and each frame in its chunk.
use Rattle.std.specs.Prelude.{◌≡◌, ◌≢◌, ℕ, List, [], ◌∷◌, map, Option, IfSome, Some, None}
use Rattle.std.specs.List.{AllByRecursion}
use Rattle.accepted_pairs.specs.Accepting.{accepted_tree}
use Rattle.c_lower.specs.ProgramCode.{lowered}
use Rattle.machine_world.specs.Places.{Checked}
use Rattle.machine_world.specs.Runs.{Action, after_actions}
use Rattle.machine_world.specs.Stretches.{IsSound, IsFramedNext}
use Rattle.machine_world.specs.Threads.{World, Setting, Wrong, step}
use Rattle.machine_world.specs.WellFormed.{DeliversWords}
use Rattle.promises.specs.Returned.{IsReturned}
use Rattle.stack_certificate.specs.Certificates.{fact_at}
use Rattle.thread_core.specs.Worlds.{Held}

-- Each frame of every live thread lies in the payload of its chunk, and the chunks are partitioned. If a thread is
-- running, its next instruction isn't wrong, and if that loads or stores, then in the running frame, or in one declared
-- global or table.
pub record IsSafe (c : Checked) (s : Setting) (w : World) : Type 0 where
  pub sound : IsSound c w
  pub framed : (number : ℕ) → w.running ≡ Some number → IsFramedNext c s w (Some number)
  pub right : (number : ℕ) → w.running ≡ Some number → step s w ≢ Wrong

-- The returned world, with its own program, image and certificate. Its run starts with no instruction retired, with one
-- thread, at the entry of `main`, and with the globals and tables of the image.
-- Whatever words are delivered to it, to whichever clock it advances, and whichever threads are picked, the machine is
-- safe in each world that it reaches; and the returned world is one of these.
pub record KeepsToFrames (world : Held) : Type 0 where
  pub checked : Checked
  pub flat : checked.flat ≡ lowered (accepted_tree world.accepted)
  pub certificate : checked.certificate ≡ world.accepted.certificate
  pub code : world.setting.code ≡ world.accepted.image.code
  pub start : World
  pub cost : start.cost ≡ 0
  pub next : start.next ≡ 1
  pub between : start.running ≡ None
  pub entry : map (λ thread. thread.core.pc) start.threads ≡ (fact_at checked.certificate checked.flat.main).entry ∷ []
  pub globals : start.areas.globals ≡ world.accepted.image.globals
  pub tables : start.areas.tables ≡ world.accepted.image.tables
  pub always : (actions : List Action) (w : World) → AllByRecursion DeliversWords actions →
      after_actions world.setting actions start ≡ Some w → IsSafe checked world.setting w
  pub actions : List Action
  pub words : AllByRecursion DeliversWords actions
  pub leads : after_actions world.setting actions start ≡ Some world.machine

-- so it is for each world that is returned
pub record KeepsMemory (words : List (List ℕ)) (last : Option Held) (status : ℕ) : Type 0 where
  pub returned : IsReturned words last status
  pub frames : IfSome last KeepsToFrames
