-- A newly made world, and the options that it depends on.
use Rattle.c_lower.specs.ProgramCode.{lowered}
use Rattle.certificate_rules.specs.Validity.{IsValid}
use Rattle.accepted_pairs.specs.Accepting.{accepted_tree}
use Rattle.command_words.specs.declared.options.Policy.{Policy as RunOptions}
use Rattle.lawful_log.specs.Setup.{Setup}
use Rattle.thread_core.specs.Making.{IsPolicy, IsStart}
use Rattle.thread_core.specs.Worlds.{Held}
use Rattle.thread_core.specs.declared.policy.WorldPolicy.{WorldPolicy}
use Rattle.pair_commands.specs.Runs.{setup_of}

-- the part of the options that a world uses
abbrev pub world_policy_of : RunOptions → WorldPolicy
world_policy_of options = record { chunks = options.chunks; extra = options.extra; extra_bytes = options.extra_bytes; backlog = options.backlog; caps = options.caps }

-- a newly made world under these options
pub record IsMade (options : RunOptions) (held : Held) : Type 0 where
  pub ranges : IsPolicy held.accepted (world_policy_of options) options.fuel
  pub made : IsStart held.accepted (world_policy_of options) options.fuel held
  pub valid : IsValid (lowered (accepted_tree held.accepted)) held.accepted.image held.accepted.certificate

abbrev pub setup_in : Held → RunOptions → Setup
setup_in held options = setup_of (accepted_tree held.accepted) held.accepted.image held.accepted.certificate options
