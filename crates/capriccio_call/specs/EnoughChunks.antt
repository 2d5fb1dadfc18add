-- When a run can't stop because no free chunk fits: it has an accepted budget, which bounds the chunks of a thread, at
-- most n threads are live, and the pool has room for the budgets of n threads.
use Rattle.std.specs.Prelude.{ℕ, ◌≡◌, ◌≢◌, ◌*◌, ◌≤◌, ◌⊎◌, List, Option, IfSome, Some}
use Rattle.accepted_pairs.specs.Accepting.{accepted_tree}
use Rattle.log_laws.specs.Lives.{live}
use Rattle.log_laws.specs.Rooms.{roomy}
use Rattle.c_lower.specs.ProgramCode.{lowered}
use Rattle.cap_io.specs.Files.{Files}
use Rattle.chunk_budget.specs.declared.budgets.Budget.{Budget}
use Rattle.chunk_budget.specs.Budgets.{IsBudget}
use Rattle.command_words.specs.WordList.{IsWordList, Serve, Run}
use Rattle.command_words.specs.declared.options.Placement.{Placement}
use Rattle.command_words.specs.declared.options.Policy.{Policy as RunOptions}
use Rattle.lawful_log.specs.Lawful.{IsLawfulLog}
use Rattle.lawful_log.specs.Setup.{Setup, setting_of, start_areas}
use Rattle.machine_world.specs.Threads.{World}
use Rattle.schedule_log.specs.declared.entries.Entry.{Entry}
use Rattle.schedule_log.specs.declared.entries.StopLine.{StopLine}
use Rattle.stack_build.specs.Builds.{IsLaidOut}
use Rattle.thread_core.specs.Worlds.{Held}
use Rattle.command_options.specs.Options.{sizes_of}
use Rattle.command_outcomes.specs.declared.documents.Document.TheVariants as document
use Rattle.command_outcomes.specs.Done.{Outside}
use Rattle.command_files.specs.Loads.{IsSourceText, IsImageText, IsCertificateText}
use Rattle.command_files.specs.Loaded.{IsLoaded}
use Rattle.pair_commands.specs.Runs.{policy_of}

-- ---- the run that the words ask for

-- `run` of three files, which exist and are read as this program and its pair, under the policy of the words
pub record RunsFiles (words : List (List ℕ)) (files : Files) (g : Setup) : Type 0 where
  pub source_name : List ℕ
  pub image_name : List ℕ
  pub certificate_name : List ℕ
  pub options : RunOptions
  pub asked : IsWordList words (Run source_name image_name certificate_name options)
  pub source : List ℕ
  pub source_there : IsLoaded document.Source (Some files) source_name source
  pub source_is : IsSourceText source g.program
  pub image : List ℕ
  pub image_there : IsLoaded document.Image (Some files) image_name image
  pub image_is : IsImageText image g.image
  pub certificate : List ℕ
  pub certificate_there : IsLoaded document.Certificate (Some files) certificate_name certificate
  pub certificate_is : IsCertificateText certificate g.certificate
  pub policy_is : g.policy ≡ policy_of options

-- `serve` of a source, which exists and is read as this program; the pair is the one that is laid out for it under the
-- sizes of the words
pub record ServesSource (words : List (List ℕ)) (files : Files) (g : Setup) : Type 0 where
  pub source_name : List ℕ
  pub placement : Placement
  pub options : RunOptions
  pub asked : IsWordList words (Serve source_name placement options)
  pub source : List ℕ
  pub source_there : IsLoaded document.Source (Some files) source_name source
  pub source_is : IsSourceText source g.program
  pub laid_out : IsLaidOut (lowered g.program) (sizes_of placement) g.image g.certificate
  pub policy_is : g.policy ≡ policy_of options

-- the shelf exposes its files, and the words ask for a run of this program and pair under this policy
pub record AsksForRun (words : List (List ℕ)) (before : Outside) (g : Setup) : Type 0 where
  pub files : Files
  pub files_told : before.files ≡ Some files
  pub run : RunsFiles words files g ⊎ ServesSource words files g

-- ---- what is enough

-- the pool has room for this many chunks: the policy has as many of the certificate's size, or as many of all chunks,
-- of both sizes, have a payload of at least the longest path. The second form follows from the first for every pair
-- that a checker accepts.
abbrev pub HasRoom : Setup → (chunks : ℕ) → Type 0
HasRoom g chunks = (chunks ≤ g.policy.chunks) ⊎ (chunks ≤ roomy (start_areas g).pool g.certificate.max_path)

-- at the stop of the run on the trace, at most this many threads are live, counting one that is about to start. This
-- holds of every run that never has or asks for more. If the trace doesn't expose its bytes, it has to hold for every
-- trace that it could have.
abbrev pub LivesWithin : Option (List ℕ) → Setup → (threads : ℕ) → Type 0
LivesWithin left g threads =
    (trace : List ℕ) → IfSome left (λ its. its ≡ trace) → (entries : List Entry) (stop : StopLine) (end : World) → IsLawfulLog g trace entries stop end →
    live (setting_of g) end ≤ threads

-- ---- the whole

-- the status of a run that stops because no free chunk fits
abbrev pub no_chunk : ℕ
no_chunk = 12

-- whatever the rule of choice is, no call whose run has enough chunks ends with that status. `asked` depends on the
-- words, the files and the trace, which expose their contents. `ran` depends on the world that is returned, whatever
-- they expose: on the pair that was run, the pool, and the threads that are live in that world.
pub record HasEnoughChunks (words : List (List ℕ)) (before : Outside) (last : Option Held) (status : ℕ) : Type 0 where
  pub asked : (g : Setup) (budget : Budget) (threads : ℕ) → AsksForRun words before g → IsBudget (lowered g.program) g.certificate budget →
      HasRoom g (threads * budget.per_thread) → LivesWithin before.left g threads → status ≢ no_chunk
  pub ran : (world : Held) (budget : Budget) (threads : ℕ) → last ≡ Some world →
      IsBudget (lowered (accepted_tree world.accepted)) world.accepted.certificate budget →
      threads * budget.per_thread ≤ roomy world.machine.areas.pool world.accepted.certificate.max_path → live world.setting world.machine ≤ threads → status ≢ no_chunk
