-- The lines of a trace: which bytes spell which event.
use Rattle.std.specs.Prelude.{◌≡◌, ℕ, ◌==◌, if◌then◌else◌, ◌^◌, ◌<◌, ◌≤◌, List, [], ◌∷◌, ◌++◌, length, codes}
use Rattle.std.specs.Int.{w32, cast_signed}
use Rattle.cap_text.specs.Decimals.{canonical_decimal, canonical_integer}
use Rattle.cap_text.specs.Pieces.{after_each}
use Rattle.event_trace.specs.declared.events.Event.{Event}
use Rattle.event_trace.specs.declared.events.EventKind.{EventKind}
use Rattle.event_trace.specs.declared.events.EventKind.TheVariants.{Arrive, Message}

-- the first word of a line
abbrev pub kind_word : EventKind → List ℕ
kind_word (Arrive value) = codes "arrive"
kind_word (Message channel value) = codes "data"

-- a value is written as a signed number of 32 bits
abbrev pub value_field : ℕ → List ℕ
value_field value = canonical_integer (cast_signed w32 value)

-- the fields after the time
abbrev pub kind_fields : EventKind → List (List ℕ)
kind_fields (Arrive value) = value_field value ∷ []
kind_fields (Message channel value) = canonical_decimal channel ∷ value_field value ∷ []

-- the line of an event, without its LF, is `arrive T V` or `data T CH V`, with single spaces
abbrev pub event_text : Event → List ℕ
event_text event = kind_word event.kind ++ after_each 32 (canonical_decimal event.time ∷ kind_fields event.kind)

-- a channel is from 0 to 63, and a value a word
abbrev pub FitsKind : EventKind → Type 0
FitsKind (Arrive value) = value < 2 ^ 32
FitsKind (Message channel value) = (channel ≤ 63) × (value < 2 ^ 32)

-- an event of a trace; its time is from 0 to 10^15
pub record FitsEvent (event : Event) : Type 0 where
  pub time : event.time ≤ 10 ^ 15
  pub kind : FitsKind event.kind

-- a line, without its LF, that spells an event: at most 64 bytes
pub record IsTraceLine (line : List ℕ) (event : Event) : Type 0 where
  pub text : line ≡ event_text event
  pub fits : FitsEvent event
  pub short : length line ≤ 64

-- the line spells this event and no other
pub record SpellsOnly (line : List ℕ) (event : Event) : Type 0 where
  pub spells : IsTraceLine line event
  pub only : (other : Event) → IsTraceLine line other → other ≡ event

-- a line that spells no event
abbrev pub HasNoEvent : List ℕ → Type 0
HasNoEvent line = (event : Event) → IsTraceLine line event → ⊥

-- the bytes of the next line, up to its LF or the end
abbrev pub line_of : List ℕ → List ℕ
line_of [] = []
line_of (byte ∷ bytes) = if byte == 10 then [] else byte ∷ line_of bytes

-- the bytes after the next line and its LF
abbrev pub rest_of : List ℕ → List ℕ
rest_of [] = []
rest_of (byte ∷ bytes) = if byte == 10 then bytes else rest_of bytes

-- the bytes contain an LF, so they begin with a whole line
abbrev pub HasWholeLine : List ℕ → Type 0
HasWholeLine bytes = length (line_of bytes) < length bytes
