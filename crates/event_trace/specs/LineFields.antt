-- The results of the readers of a line's fields.
use Rattle.std.specs.Prelude.{◌≡◌, ℕ, List, ◌∷◌}
use Rattle.cap_text.specs.Decimals.{canonical_decimal}
use Rattle.event_trace.specs.declared.events.Event.{Event}
use Rattle.event_trace.specs.Lines.{FitsEvent, kind_word, kind_fields}

-- the word and the fields after it are those of the event
abbrev pub FieldsSpell : List ℕ → List (List ℕ) → Event → Type 0
FieldsSpell word fields event = FitsEvent event × (word ≡ kind_word event.kind) × (fields ≡ canonical_decimal event.time ∷ kind_fields event.kind)

-- they are those of no event
abbrev pub FieldsSpellNone : List ℕ → List (List ℕ) → Type 0
FieldsSpellNone word fields = (event : Event) → FieldsSpell word fields event → ⊥
