-- A line's text and its fields.
use Rattle.std.proofs.Common.{◌≡◌, ℕ, ℤ, ◌^◌, ◌<◌, ◌≤◌, FitsSigned, List, [], ◌∷◌, length, refl, ap, sym, ◌∙◌, arith, get_or, rules, codes, Option, Some, None}
use Rattle.std.specs.Prelude.{MatchOption, IfSome, IfNone}
use Rattle.std.specs.List.{AllByRecursion}
use Rattle.std.specs.Int.{w32, cast_signed, cast_unsigned}
use Rattle.std.proofs.Math.Facts.{of_z-to_z, sfits_to_z}
use Rattle.cap_text.specs.Decimals.{canonical_decimal, canonical_integer}
use Rattle.cap_text.specs.Pieces.{pieces}
use Rattle.cap_text.proofs.DecimalLaws.{decimal_unique, integer_unique}
use Rattle.cap_text.proofs.PieceLaws.{pieces_joined, text_of_pieces, Visible, visible_lacks, all_lack, visible_decimal, visible_integer, from_shown}
use Rattle.event_trace.specs.declared.events.Event.{Event}
use Rattle.event_trace.specs.declared.events.EventKind.{EventKind}
use Rattle.event_trace.specs.declared.events.EventKind.TheVariants.{Arrive, Message}
use Rattle.event_trace.specs.LineFields.{FieldsSpell, FieldsSpellNone}
use Rattle.event_trace.specs.Lines.{kind_word, kind_fields, value_field, event_text, FitsKind, IsTraceLine, SpellsOnly, HasNoEvent}

word_visible : (kind : EventKind) → Visible (kind_word kind)
word_visible (Arrive value) = from_shown (codes "arrive") refl
word_visible (Message channel value) = from_shown (codes "data") refl

pub fields_visible : (kind : EventKind) → AllByRecursion Visible (kind_fields kind)
fields_visible (Arrive value) = (visible_integer (cast_signed w32 value), tt)
fields_visible (Message channel value) = (visible_decimal channel, (visible_integer (cast_signed w32 value), tt))

-- the pieces of an event's line
pub text_pieces : (event : Event) → pieces 32 (event_text event) ≡ kind_word event.kind ∷ canonical_decimal event.time ∷ kind_fields event.kind
text_pieces event =
    pieces_joined 32 (kind_word event.kind) (canonical_decimal event.time ∷ kind_fields event.kind) (visible_lacks 32 _ (omega arith) (word_visible event.kind))
    (all_lack 32 (canonical_decimal event.time ∷ kind_fields event.kind) (omega arith) (visible_decimal event.time, fields_visible event.kind))

value_unique : (v w : ℕ) → FitsKind (Arrive v) → FitsKind (Arrive w) → value_field v ≡ value_field w → v ≡ w
value_unique v w f h e =
    let same : cast_signed w32 v ≡ cast_signed w32 w = integer_unique _ _ e
    in sym (of_z-to_z {w = w32} {n = v} (search (rules, f))) ∙ ap (cast_unsigned w32) same ∙ of_z-to_z {w = w32} {n = w} (search (rules, h))

kind_unique : (k l : EventKind) → FitsKind k → FitsKind l → kind_word k ≡ kind_word l → kind_fields k ≡ kind_fields l → k ≡ l
kind_unique (Arrive v) (Arrive w) f h word fields = ap Arrive (value_unique v w f h (cc))
kind_unique (Arrive v) (Message d w) f h word fields =
    absurd (let first : 97 ≡ 100 = ap (λ (bytes : List ℕ). get_or bytes 0 0) word in omega arith)
kind_unique (Message c v) (Arrive w) f h word fields =
    absurd (let first : 100 ≡ 97 = ap (λ (bytes : List ℕ). get_or bytes 0 0) word in omega arith)
kind_unique (Message c v) (Message d w) f h word fields =
    let channel : c ≡ d = decimal_unique c d (cc)
    in let value : v ≡ w = value_unique v w f.1 h.1 (cc)
    in (λ i. Message (channel i) (value i))

same_event : (t u : ℕ) (k l : EventKind) → t ≡ u → k ≡ l → ◌≡◌ {A = Event} (record { time = t; kind = k }) (record { time = u; kind = l })
same_event t u k l times kinds =
    ap (λ (x : ℕ). let e : Event = record { time = x; kind = k } in e) times ∙ ap (λ (x : EventKind). let e : Event = record { time = u; kind = x } in e) kinds

-- a line spells one event at most
pub event_unique : (line : List ℕ) (event other : Event) → IsTraceLine line event → IsTraceLine line other → other ≡ event
event_unique line event other f h =
    let same = sym (text_pieces other) ∙ ap (pieces 32) (sym h.text ∙ f.text) ∙ text_pieces event
    in let word : kind_word other.kind ≡ kind_word event.kind = cc
    in let time : canonical_decimal other.time ≡ canonical_decimal event.time = cc
    in let fields : kind_fields other.kind ≡ kind_fields event.kind = cc
    in same_event other.time event.time other.kind event.kind (decimal_unique other.time event.time time)
    (kind_unique other.kind event.kind h.fits.kind f.fits.kind word fields)

-- from the fields of a line to the whole line

spelled : (line word : List ℕ) (fields : List (List ℕ)) (event : Event) → pieces 32 line ≡ word ∷ fields → length line ≤ 64 → FieldsSpell word fields event → IsTraceLine line event
spelled line word fields event cut short h = record {
  text = text_of_pieces 32 line (kind_word event.kind) (canonical_decimal event.time ∷ kind_fields event.kind) (cut ∙ (λ i. h.1 i ∷ h.2 i));
  fits = h.0;
  short = short;
}

unspelled : (line word : List ℕ) (fields : List (List ℕ)) (event : Event) → pieces 32 line ≡ word ∷ fields → IsTraceLine line event → FieldsSpell word fields event
unspelled line word fields event cut h =
    let same : word ∷ fields ≡ kind_word event.kind ∷ canonical_decimal event.time ∷ kind_fields event.kind = sym cut ∙ ap (pieces 32) h.text ∙ text_pieces event
    in (h.fits, cc, cc)

pub line_answer : (line word : List ℕ) (fields : List (List ℕ)) (r : Option Event) → pieces 32 line ≡ word ∷ fields → length line ≤ 64
    → IfSome r (FieldsSpell word fields) → IfNone r (FieldsSpellNone word fields) → MatchOption r (HasNoEvent line) (SpellsOnly line)
line_answer line word fields None cut short found none = λ event h. none event (unspelled line word fields event cut h)
line_answer line word fields (Some event) cut short found none =
    let this = spelled line word fields event cut short found
    in record { spells = this; only = λ other h. event_unique line event other this h }

-- fields behind a time, or a time and a channel, that go on with no value

abbrev pub NoValue : List (List ℕ) → Type 0
NoValue fields = (z : ℤ) (more : List (List ℕ)) → FitsSigned w32 z → fields ≡ canonical_integer z ∷ more → ⊥

value_fits : (value : ℕ) → value < 2 ^ 32 → FitsSigned w32 (cast_signed w32 value)
value_fits value word = sfits_to_z {w = w32} {n = value} (search (rules, word))

no_arrival : (rest : List (List ℕ)) (kind : EventKind) → NoValue rest → FitsKind kind → codes "arrive" ≡ kind_word kind → rest ≡ kind_fields kind → ⊥
no_arrival rest (Arrive value) none fits word is = none (cast_signed w32 value) [] (value_fits value fits) is
no_arrival rest (Message channel value) none fits word is =
    absurd (let first : 97 ≡ 100 = ap (λ (bytes : List ℕ). get_or bytes 0 0) word in omega arith)

no_message : (fields rest : List (List ℕ)) (channel : ℕ) (kind : EventKind) → fields ≡ canonical_decimal channel ∷ rest → NoValue rest → FitsKind kind
    → codes "data" ≡ kind_word kind → fields ≡ kind_fields kind → ⊥
no_message fields rest channel (Arrive value) cut none fits word is =
    absurd (let first : 100 ≡ 97 = ap (λ (bytes : List ℕ). get_or bytes 0 0) word in omega arith)
no_message fields rest channel (Message other value) cut none fits word is =
    none (cast_signed w32 value) [] (value_fits value fits.1) (let end : rest ≡ value_field value ∷ [] = cc in end)

pub arrive_without_value : (fields rest : List (List ℕ)) (time : ℕ) → fields ≡ canonical_decimal time ∷ rest → NoValue rest → FieldsSpellNone (codes "arrive") fields
arrive_without_value fields rest time cut none = λ event (fits, word, is).
    no_arrival rest event.kind none fits.kind word (let end : rest ≡ kind_fields event.kind = cc in end)

pub message_without_value : (fields mid rest : List (List ℕ)) (time channel : ℕ) → fields ≡ canonical_decimal time ∷ mid → mid ≡ canonical_decimal channel ∷ rest
    → NoValue rest → FieldsSpellNone (codes "data") fields
message_without_value fields mid rest time channel cut next none = λ event (fits, word, is).
    no_message mid rest channel event.kind next none fits.kind word (let end : mid ≡ kind_fields event.kind = cc in end)
