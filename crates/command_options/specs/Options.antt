-- The ranges of a command's options, and what is made from them.
use Rattle.std.specs.Prelude.{ℕ, ⊤, ◌≡◌, ◌+◌, ◌%◌, ◌<◌, ◌≤◌, IsTrue, ◌∷◌, drop, length, replicate, slice_index}
use Rattle.codegen_link.specs.declared.options.Options.{Options}
use Rattle.command_words.specs.Values.{pairs_of}
use Rattle.command_words.specs.declared.options.Audit.{Audit as AuditOptions}
use Rattle.command_words.specs.declared.options.Placement.{Placement}
use Rattle.command_words.specs.declared.options.Policy.{Policy as RunOptions}
use Rattle.command_words.specs.declared.options.Rule.{Rule as RuleOption}
use Rattle.command_words.specs.declared.options.Rule.TheVariants as option
use Rattle.resource_monitor.specs.Monitor.{MonitorState}
use Rattle.resource_monitor.specs.declared.curves.Curve.TheVariants.{Knee}
use Rattle.stride_rule.specs.Tickets.{AreTickets}

-- the sizes of the words' placement, for the code generator
abbrev pub sizes_of : Placement → Options
sizes_of placement = record { chunk = placement.chunk; max_path = placement.max_path }

-- the tickets of a stride rule are in their ranges
abbrev pub IsRuleInRange : RuleOption → Type 0
IsRuleInRange option.Graph = ⊤
IsRuleInRange (option.Stride tickets) = (tickets.count ≤ 64) × AreTickets (pairs_of tickets)

-- the options of a run are in their ranges
pub record IsRunPolicy (options : RunOptions) : Type 0 where
  pub some_chunks : 1 ≤ options.chunks
  pub chunks : options.chunks ≤ 65536
  pub extra : options.extra ≤ 65536
  pub extra_least : 32 ≤ options.extra_bytes
  pub extra_most : options.extra_bytes ≤ 65536
  pub extra_whole : options.extra_bytes % 16 ≡ 0
  pub fuel : options.fuel ≤ 1000000000
  pub some_backlog : 1 ≤ options.backlog
  pub backlog : options.backlog ≤ 4096
  pub caps : (r : ℕ) → 0 < r → r < 8 → slice_index options.caps r ≤ 1000000
  pub high : options.high ≤ 1000
  pub low : options.low < options.high
  pub rule : IsRuleInRange options.rule
  pub knee : options.knee ≤ 999

-- a monitor with these options, whose gate is open
pub record IsNewMonitor (options : RunOptions) (monitor : MonitorState) : Type 0 where
  pub curves : monitor.curves ≡ replicate 8 (Knee options.knee)
  pub caps : monitor.caps ≡ (options.chunks + options.extra) ∷ drop 1 options.caps
  pub high : monitor.high ≡ options.high
  pub low : monitor.low ≡ options.low
  pub gate : IsTrue monitor.is_open

-- the options of an audit are in their ranges
pub record AreAuditOptions (options : AuditOptions) : Type 0 where
  pub run : IsRunPolicy options.policy
  pub cap_count : length options.policy.caps ≡ 8
  pub steps : options.steps ≤ 1000000000
