-- What the commands `serve` and `run` do: the run of a checked pair on the trace.
use Rattle.std.specs.Prelude.{ℕ, ◌≡◌, ◌+◌, ◌*◌, ◌<◌, ◌≤◌, ◌⊎◌, true, List, [], replicate, Option, IfSome, Some}
use Rattle.c_tree.specs.Trees.{ProgramTree}
use Rattle.c_tree.specs.WellScoped.{IsWellScoped}
use Rattle.c_lower.specs.ProgramCode.{lowered}
use Rattle.cap_io.specs.Files.{Files}
use Rattle.cap_word.specs.declared.stops.Stop.TheVariants as cut
use Rattle.certificate_rules.specs.Validity.{IsValid, IsFirstFailure}
use Rattle.codegen_link.specs.declared.options.Options.{Options}
use Rattle.command_words.specs.Values.{pairs_of}
use Rattle.command_words.specs.declared.options.Policy.{Policy as RunOptions}
use Rattle.command_words.specs.declared.options.Rule.{Rule as RuleOption}
use Rattle.command_words.specs.declared.options.Rule.TheVariants as option
use Rattle.choice_rules.specs.Policy.{Rule, by_graph, by_stride, Policy}
use Rattle.lawful_log.specs.Good.{IsGoodLog}
use Rattle.lawful_log.specs.Lawful.{IsLawfulLog}
use Rattle.lawful_log.specs.Setup.{Setup}
use Rattle.machine_world.specs.Threads.{World}
use Rattle.machine_world.specs.WellFormed.{AreWords}
use Rattle.resource_monitor.specs.declared.curves.Curve.TheVariants.{Knee}
use Rattle.schedule_log.specs.EntryText.{log_text}
use Rattle.schedule_log.specs.declared.entries.Entry.{Entry}
use Rattle.schedule_log.specs.declared.entries.StopLine.{StopLine}
use Rattle.stack_build.specs.Builds.{IsLaidOut}
use Rattle.stack_image.specs.declared.images.Image.{Image}
use Rattle.stack_certificate.specs.declared.certificates.Certificate.{Certificate}
use Rattle.command_outcomes.specs.declared.documents.Document.TheVariants as document
use Rattle.command_outcomes.specs.declared.stops.Cause.TheVariants as cause
use Rattle.command_outcomes.specs.CauseLines.{refusal}
use Rattle.pair_commands.specs.Graphs.{HasFittingFrames}
use Rattle.pair_commands.specs.BuildsFiles.{HasFittingCode, IsUnbuilt}
use Rattle.command_files.specs.Loads.{AfterLoad, AfterThree, AfterSource, AfterImage, AfterCertificate}
use Rattle.command_outcomes.specs.Outcome.{Outcome}

-- ---- a run

-- the status of a stop
abbrev pub stop_status : StopLine → ℕ
stop_status StopLine.Done = 0
stop_status StopLine.Idle = 10
stop_status (StopLine.Trace line) = 4
stop_status (StopLine.Cut thread (cut.Trap kind) cost free) = 11
stop_status (StopLine.Cut thread cut.NoChunk cost free) = 12
stop_status (StopLine.Cut thread cut.Fuel cost free) = 13
stop_status (StopLine.Cut thread cut.Threads cost free) = 14

-- the rule of choice of a run, by the options of its words
abbrev pub rule_of : RuleOption → Rule
rule_of option.Graph = by_graph
rule_of (option.Stride tickets) = by_stride (pairs_of tickets)

-- the policy of a run, by the options of its words: the pressure curves of all resources have one knee, 0 by default
abbrev pub policy_of : RunOptions → Policy
policy_of options = record {
  chunks = options.chunks;
  extra = options.extra;
  extra_bytes = options.extra_bytes;
  fuel = options.fuel;
  backlog = options.backlog;
  caps = options.caps;
  curves = replicate 8 (Knee options.knee);
  high = options.high;
  low = options.low;
  rule = rule_of options.rule;
}

-- the setup of a run of this pair, by the options of its words
abbrev pub setup_of : ProgramTree → Image → Certificate → RunOptions → Setup
setup_of program image certificate options = record { program = program; image = image; certificate = certificate; policy = policy_of options }

-- these entries are the lawful log of the run on the bytes of the trace, up to this stop, in this machine world, and that log
-- is good
pub record IsRun (setup : Setup) (trace : List ℕ) (entries : List Entry) (stop : StopLine) (end : World) : Type 0 where
  pub lawful : IsLawfulLog setup trace entries stop end
  pub good : IsGoodLog setup entries

-- the outcome of a run: the text of its log, the status of its stop, and the world at the stop
abbrev pub run_outcome : Setup → List Entry → StopLine → World → Outcome
run_outcome setup entries stop end = record {
  status = stop_status stop;
  out = log_text entries;
  line = [];
  stores = [];
  last = Some (record { setup = setup; end = end });
  reads_trace = true;
}

-- the checker accepts: the program is well scoped, the globals start with words, and every rule holds of the pair
pub record IsAccepted (setup : Setup) : Type 0 where
  pub scoped : IsWellScoped setup.program
  pub globals : AreWords setup.image.globals
  pub valid : IsValid (lowered setup.program) setup.image setup.certificate

-- the same on some bytes: the trace's own if it exposes them, and otherwise some bytes that it could have had
pub record IsRunOfSome (setup : Setup) (trace : Option (List ℕ)) (entries : List Entry) (stop : StopLine) (end : World) : Type 0 where
  pub bytes : List ℕ
  pub told : IfSome trace (λ its. its ≡ bytes)
  pub run : IsRun setup bytes entries stop end

-- a run of an accepted pair on the trace, if the trace is exposed, and otherwise on some bytes
abbrev pub RunsOn : Option (List ℕ) → Setup → Outcome → Type 0
RunsOn trace setup outcome =
    IsAccepted setup × (entries : List Entry) × (stop : StopLine) × (end : World)
    × IfSome trace (λ bytes. IsRun setup bytes entries stop end) × (outcome ≡ run_outcome setup entries stop end)
    × IsRunOfSome setup trace entries stop end

-- ---- serve

-- if no frame is too large and the code isn't, the pair that is laid out for the program runs
abbrev pub ServesProgram : Option (List ℕ) → Options → RunOptions → ProgramTree → Outcome → Type 0
ServesProgram trace sizes policy program outcome =
    IsUnbuilt sizes program outcome
    ⊎ (HasFittingFrames program sizes.max_path × HasFittingCode program sizes
    × (i : Image) × (c : Certificate) × IsLaidOut (lowered program) sizes i c × RunsOn trace (setup_of program i c policy) outcome)

-- what is due for the words of `serve`
abbrev pub Serves : Option Files → Option (List ℕ) → (name : List ℕ) → Options → RunOptions → Outcome → Type 0
Serves files trace name sizes policy = AfterLoad document.Source files name (λ source. AfterSource source (ServesProgram trace sizes policy))

-- ---- run

-- the size of the chunks of both sizes together, in bytes
abbrev pub pool_bytes : RunOptions → Certificate → ℕ
pool_bytes policy c = policy.chunks * c.chunk + policy.extra * policy.extra_bytes

-- the pair is checked, then the size of its pool, and then it runs
abbrev pub RunsPair : Option (List ℕ) → RunOptions → ProgramTree → Image → Certificate → Outcome → Type 0
RunsPair trace policy program i c outcome =
    ((rule function index : ℕ) × IsFirstFailure (lowered program) i c rule function index × (outcome ≡ refusal (cause.Rejected rule function index)))
    ⊎ (IsValid (lowered program) i c
    × (((67108864 < pool_bytes policy c) × (outcome ≡ refusal (cause.Pool (pool_bytes policy c))))
    ⊎ ((pool_bytes policy c ≤ 67108864) × RunsOn trace (setup_of program i c policy) outcome)))

abbrev pub RunsBytes : Option (List ℕ) → RunOptions → (source image certificate : List ℕ) → Outcome → Type 0
RunsBytes trace policy source image certificate =
    AfterSource source (λ program. AfterImage image (λ i. AfterCertificate certificate (λ c. RunsPair trace policy program i c)))

-- what is due for the words of `run`; all three files are loaded before any of them is read
abbrev pub Runs : Option Files → Option (List ℕ) → (source_name image_name certificate_name : List ℕ) → RunOptions → Outcome → Type 0
Runs files trace source_name image_name certificate_name policy = AfterThree files source_name image_name certificate_name (RunsBytes trace policy)
