-- The entries whose numbers fit the types of their fields, as in every entry of the code.
use Rattle.std.specs.Prelude.{◌≡◌, ℕ, ℤ, List, length, ◌^◌, ◌<◌, ◌≤◌, FitsSigned}
use Rattle.std.specs.Int.{w32, w128}
use Rattle.std.specs.List.{AllByRecursion}
use Rattle.schedule_log.specs.declared.entries.Item.{Item}
use Rattle.schedule_log.specs.declared.entries.Item.TheVariants.{Arrive, Data}
use Rattle.schedule_log.specs.declared.entries.StopLine.{StopLine}
use Rattle.schedule_log.specs.declared.entries.StopLine.TheVariants.{Done, Idle, Trace, Cut}
use Rattle.schedule_log.specs.declared.entries.Entry.{Entry}
use Rattle.schedule_log.specs.declared.entries.Entry.TheVariants.{Event, Dropped, Run, Out, Block, End, Edge, Stop}
use Rattle.schedule_log.specs.EntryText.{entry_text}

-- one to eight sites of 32 bits
abbrev pub FitsKey : List ℕ → Type 0
FitsKey sites = (1 ≤ length sites) × (length sites ≤ 8) × AllByRecursion (λ site. site < 2 ^ 32) sites

-- one to eight averages of 128 bits
abbrev pub FitsAverages : List ℤ → Type 0
FitsAverages values = (1 ≤ length values) × (length values ≤ 8) × AllByRecursion (FitsSigned w128) values

abbrev pub FitsItem : Item → Type 0
FitsItem (Arrive value) = FitsSigned w32 value
FitsItem (Data channel value) = (channel < 2 ^ 32) × FitsSigned w32 value

abbrev pub FitsStop : StopLine → Type 0
FitsStop Done = Unit {0}
FitsStop Idle = Unit {0}
FitsStop (Trace line) = line < 2 ^ 64
FitsStop (Cut thread _ cost free) = (thread < 2 ^ 32) × (cost < 2 ^ 64) × (free < 2 ^ 32)

abbrev pub FitsEntry : Entry → Type 0
FitsEntry (Event clock item) = (clock < 2 ^ 64) × FitsItem item
FitsEntry (Dropped clock item) = (clock < 2 ^ 64) × FitsItem item
FitsEntry (Run clock thread node) = (clock < 2 ^ 64) × (thread < 2 ^ 32) × (node < 2 ^ 32)
FitsEntry (Out thread value) = (thread < 2 ^ 32) × FitsSigned w32 value
FitsEntry (Block thread node key cost free) = (thread < 2 ^ 32) × (node < 2 ^ 32) × FitsKey key × (cost < 2 ^ 64) × (free < 2 ^ 32)
FitsEntry (End thread cost free) = (thread < 2 ^ 32) × (cost < 2 ^ 64) × (free < 2 ^ 32)
FitsEntry (Edge from to count cost changes) = (from < 2 ^ 32) × (to < 2 ^ 32) × (count < 2 ^ 64) × FitsSigned w128 cost × FitsAverages changes
FitsEntry (Stop line) = FitsStop line

-- the bytes are the text of such an entry, without its line feed
abbrev pub IsLogLine : List ℕ → Type 0
IsLogLine line = (entry : Entry) × FitsEntry entry × (entry_text entry ≡ line)
