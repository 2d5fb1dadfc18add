-- The input of a log's lawful reading, from that of a run, and the verdicts on a log.
use Rattle.std.specs.Prelude.{ℕ, ◌+◌, ◌^◌, ◌<◌, ◌≤◌, ◌⊎◌, List, slice_index}
use Rattle.choice_rules.specs.Policy.{Policy}
use Rattle.lawful_log.specs.Lawful.{IsLawfulLog}
use Rattle.lawful_log.specs.Setup.{Setup}
use Rattle.lawful_reading.specs.Given.{Given}
use Rattle.lawful_reading.specs.Reading.{IsLawful, IsTooLong}
use Rattle.machine_world.specs.Threads.{World}
use Rattle.schedule_log.specs.EntryText.{log_text}
use Rattle.schedule_log.specs.declared.entries.Entry.{Entry}
use Rattle.schedule_log.specs.declared.entries.StopLine.{StopLine}

-- the part of a policy that a reading uses: the number of all chunks, and nothing of their sizes
abbrev pub read_policy : Policy → Policy
read_policy policy = record policy { chunks = policy.chunks + policy.extra; extra = 0; extra_bytes = 0 }

-- the program and the policy of a run, without its image and certificate, and the limit on steps of the source
abbrev pub given_of : Setup → ℕ → Given
given_of g most_steps = record { program = g.program; policy = read_policy g.policy; most_steps = most_steps }

-- every line is allowed and the last is a stop; or all lines are allowed up to one that needs, together with those
-- before it, more steps than the limit
abbrev pub IsLawfulOrTooLong : Given → List ℕ → List ℕ → Type 0
IsLawfulOrTooLong g trace log = IsLawful g trace log ⊎ ((line : ℕ) × IsTooLong g trace log line)

-- it is lawful for every limit from some number on
abbrev pub IsLawfulWithEnough : Setup → List ℕ → List ℕ → Type 0
IsLawfulWithEnough g trace log = (steps : ℕ) × ((most_steps : ℕ) → steps ≤ most_steps → IsLawful (given_of g most_steps) trace log)

-- each cap that is read is in range; that of number 0 isn't read
abbrev pub AreCapsSmall : List ℕ → Type 0
AreCapsSmall caps = (resource : ℕ) → 0 < resource → resource < 8 → slice_index caps resource ≤ 2 ^ 31

-- a list of entries is the lawful log, and its text has such a verdict
pub record HasReadLog (g : Setup) (most_steps : ℕ) (trace : List ℕ) : Type 0 where
  pub entries : List Entry
  pub stop : StopLine
  pub end : World
  pub lawful : IsLawfulLog g trace entries stop end
  pub read : IsLawfulOrTooLong (given_of g most_steps) trace (log_text entries)
