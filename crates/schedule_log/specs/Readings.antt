-- The results of the readers of a line's fields.
use Rattle.std.specs.Prelude.{◌≡◌, ℕ, List, [], ◌∷◌, ◌++◌, ◌^◌, ◌<◌}
use Rattle.cap_text.specs.Decimals.{canonical_decimal}
use Rattle.cap_word.specs.declared.stops.Stop.{Stop}
use Rattle.schedule_log.specs.declared.entries.Item.{Item}
use Rattle.schedule_log.specs.declared.entries.StopLine.{StopLine}
use Rattle.schedule_log.specs.declared.entries.Entry.{Entry}
use Rattle.schedule_log.specs.EntryText.{item_fields, cause_fields, stop_fields, entry_word, entry_fields}
use Rattle.schedule_log.specs.EntryRanges.{FitsItem, FitsStop, FitsEntry}

-- the fields are those of an item, or of no item
abbrev pub SpellsItem : List (List ℕ) → Item → Type 0
SpellsItem fields item = FitsItem item × (fields ≡ item_fields item)

abbrev pub SpellsNoItem : List (List ℕ) → Type 0
SpellsNoItem fields = (item : Item) → FitsItem item → fields ≡ item_fields item → ⊥

-- the same for why a run stopped
abbrev pub SpellsStop : List (List ℕ) → StopLine → Type 0
SpellsStop fields stop = FitsStop stop × (fields ≡ stop_fields stop)

abbrev pub SpellsNoStop : List (List ℕ) → Type 0
SpellsNoStop fields = (stop : StopLine) → FitsStop stop → fields ≡ stop_fields stop → ⊥

-- the fields are those of no cut of a segment
abbrev pub SpellsNoCut : List (List ℕ) → Type 0
SpellsNoCut fields = (thread cost free : ℕ) (stop : Stop) → thread < 2 ^ 32 → cost < 2 ^ 64 → free < 2 ^ 32
    → fields ≡ cause_fields thread stop ++ (canonical_decimal cost ∷ canonical_decimal free ∷ []) → ⊥

-- the same for an entry whose line begins with that word
abbrev pub SpellsEntry : List ℕ → List (List ℕ) → Entry → Type 0
SpellsEntry word fields entry = FitsEntry entry × (word ≡ entry_word entry) × (fields ≡ entry_fields entry)

abbrev pub SpellsNoEntry : List ℕ → List (List ℕ) → Type 0
SpellsNoEntry word fields = (entry : Entry) → FitsEntry entry → word ≡ entry_word entry → fields ≡ entry_fields entry → ⊥
