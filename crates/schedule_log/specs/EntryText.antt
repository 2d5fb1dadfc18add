-- The text of a log.
use Rattle.std.specs.Prelude.{ℕ, List, [], ◌∷◌, ◌++◌, map, codes}
use Rattle.std.specs.List.{flat_map}
use Rattle.cap_text.specs.Decimals.{canonical_decimal, canonical_integer}
use Rattle.cap_word.specs.declared.traps.TrapKind.{TrapKind}
use Rattle.cap_word.specs.declared.traps.TrapKind.TheVariants.{Index, Table, Resource, Channel}
use Rattle.cap_word.specs.declared.stops.Stop.{Stop as Cause}
use Rattle.cap_word.specs.declared.stops.Stop.TheVariants.{Trap, NoChunk, Fuel, Threads}
use Rattle.schedule_log.specs.declared.entries.Item.{Item}
use Rattle.schedule_log.specs.declared.entries.Item.TheVariants.{Arrive, Data}
use Rattle.schedule_log.specs.declared.entries.StopLine.{StopLine}
use Rattle.schedule_log.specs.declared.entries.StopLine.TheVariants.{Done, Idle, Trace, Cut}
use Rattle.schedule_log.specs.declared.entries.Entry.{Entry}
use Rattle.schedule_log.specs.declared.entries.Entry.TheVariants.{Event, Dropped, Run, Out, Block, End, Edge, Stop}

-- site numbers, each preceded by `<`
abbrev pub more_sites : List ℕ → List ℕ
more_sites sites = flat_map (λ next. 60 ∷ canonical_decimal next) sites

-- a key's field: its site numbers separated by `<`, the innermost first
abbrev pub key_field : List ℕ → List ℕ
key_field [] = []
key_field (site ∷ sites) = canonical_decimal site ++ flat_map (λ next. 60 ∷ canonical_decimal next) sites

abbrev pub trap_field : TrapKind → List ℕ
trap_field Index = codes "index"
trap_field Table = codes "table"
trap_field Resource = codes "resource"
trap_field Channel = codes "channel"

abbrev pub item_fields : Item → List (List ℕ)
item_fields (Arrive value) = codes "arrive" ∷ canonical_integer value ∷ []
item_fields (Data channel value) = codes "data" ∷ canonical_decimal channel ∷ canonical_integer value ∷ []

-- why a segment was cut off, its thread, and the kind of a trap
abbrev pub cause_fields : ℕ → Cause → List (List ℕ)
cause_fields thread (Trap kind) = codes "trap" ∷ canonical_decimal thread ∷ trap_field kind ∷ []
cause_fields thread NoChunk = codes "nochunk" ∷ canonical_decimal thread ∷ []
cause_fields thread Fuel = codes "fuel" ∷ canonical_decimal thread ∷ []
cause_fields thread Threads = codes "threads" ∷ canonical_decimal thread ∷ []

abbrev pub stop_fields : StopLine → List (List ℕ)
stop_fields Done = codes "done" ∷ []
stop_fields Idle = codes "idle" ∷ []
stop_fields (Trace line) = codes "trace" ∷ canonical_decimal line ∷ []
stop_fields (Cut thread stop cost free) = cause_fields thread stop ++ (canonical_decimal cost ∷ canonical_decimal free ∷ [])

-- the first word of a line
abbrev pub entry_word : Entry → List ℕ
entry_word (Event _ _) = codes "event"
entry_word (Dropped _ _) = codes "drop"
entry_word (Run _ _ _) = codes "run"
entry_word (Out _ _) = codes "out"
entry_word (Block _ _ _ _ _) = codes "block"
entry_word (End _ _ _) = codes "end"
entry_word (Edge _ _ _ _ _) = codes "edge"
entry_word (Stop _) = codes "stop"

-- the fields after it
abbrev pub entry_fields : Entry → List (List ℕ)
entry_fields (Event clock item) = canonical_decimal clock ∷ item_fields item
entry_fields (Dropped clock item) = canonical_decimal clock ∷ item_fields item
entry_fields (Run clock thread node) = canonical_decimal clock ∷ canonical_decimal thread ∷ canonical_decimal node ∷ []
entry_fields (Out thread value) = canonical_decimal thread ∷ canonical_integer value ∷ []
entry_fields (Block thread node key cost free) = canonical_decimal thread ∷ canonical_decimal node ∷ key_field key ∷ canonical_decimal cost ∷ canonical_decimal free ∷ []
entry_fields (End thread cost free) = canonical_decimal thread ∷ canonical_decimal cost ∷ canonical_decimal free ∷ []
entry_fields (Edge from to count cost changes) = canonical_decimal from ∷ canonical_decimal to ∷ canonical_decimal count ∷ canonical_integer cost ∷ map canonical_integer changes
entry_fields (Stop line) = stop_fields line

-- fields, each preceded by a space
abbrev pub after_blanks : List (List ℕ) → List ℕ
after_blanks fields = flat_map (λ field. 32 ∷ field) fields

-- an entry's line, without its line feed
unfoldable pub entry_text : Entry → List ℕ
entry_text entry = entry_word entry ++ after_blanks (entry_fields entry)

-- a log: the line of each entry, each followed by a line feed
unfoldable pub log_text : List Entry → List ℕ
log_text entries = flat_map (λ entry. entry_text entry ++ 10 ∷ []) entries
