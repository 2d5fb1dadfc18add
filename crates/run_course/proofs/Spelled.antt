-- The line of an event, as bytes that a trace could have had.
use Rattle.run_course.proofs.Common.{◌≡◌, ℕ, ℤ, pos, negsuc, suc, ◌+◌, ◌^◌, ◌<◌, ◌≤◌, FitsSigned, List, [], ◌∷◌, ◌++◌, length, length-append, refl, ap, sym, subst, arith, rules, codes, get_or, Some, w32, cast_signed, Event, EventKind, FitsEvent, FitsKind, HasNoEvent, SpellsOnly, event_text, kind_fields, kind_word, line_of, rest_of, value_field, GivesEvent, RefusesLine, fields_visible}
use Rattle.std.proofs.Math.Facts.{sfits_to_z}
use Rattle.cap_text.specs.Decimals.{canonical_decimal, canonical_integer}
use Rattle.cap_text.specs.Pieces.{Lacks, after_each}
use Rattle.cap_text.proofs.DecimalLaws.{decimal_length}
use Rattle.cap_text.proofs.PieceLaws.{all_lack, from_shown, lacks-append, lacks_after_each, visible_decimal, visible_lacks}
use Rattle.event_trace.specs.declared.events.EventKind.TheVariants.{Arrive, Message}
use Rattle.event_trace.proofs.LineTexts.{line_answer, text_pieces}

-- ---- a line and what is behind it

line_at : (line after : List ℕ) → Lacks 10 line → line_of (line ++ 10 ∷ after) ≡ line
line_at [] after lacks = refl
line_at (x ∷ line) after lacks = rw lacks.0 (ap (λ (l : List ℕ). x ∷ l) (line_at line after lacks.1))

rest_at : (line after : List ℕ) → Lacks 10 line → rest_of (line ++ 10 ∷ after) ≡ after
rest_at [] after lacks = refl
rest_at (x ∷ line) after lacks = rw lacks.0 (rest_at line after lacks.1)

-- ---- no line of an event has an LF

lacks_word : (kind : EventKind) → Lacks 10 (kind_word kind)
lacks_word (Arrive value) = visible_lacks 10 (codes "arrive") (omega arith) (from_shown (codes "arrive") refl)
lacks_word (Message channel value) = visible_lacks 10 (codes "data") (omega arith) (from_shown (codes "data") refl)

lacks_text : (event : Event) → Lacks 10 (event_text event)
lacks_text event = lacks-append 10 (kind_word event.kind) (after_each 32 (canonical_decimal event.time ∷ kind_fields event.kind)) (lacks_word event.kind)
    (lacks_after_each 32 10 (canonical_decimal event.time ∷ kind_fields event.kind) refl
    (all_lack 10 (canonical_decimal event.time ∷ kind_fields event.kind) (omega arith) (visible_decimal event.time, fields_visible event.kind)))

-- ---- it is short

short_integer : (z : ℤ) → FitsSigned w32 z → length (canonical_integer z) ≤ 11
unfolding canonical_integer
short_integer (pos n) h = let few = decimal_length n 10 (omega arith) (omega (arith, h.sfits)) in omega (arith, few)
short_integer (negsuc n) h = let few = decimal_length (suc n) 10 (omega arith) (omega (arith, h.sfits)) in omega (arith, few)

short_value : (value : ℕ) → value < 2 ^ 32 → length (value_field value) ≤ 11
short_value value word = short_integer (cast_signed w32 value) (sfits_to_z {w = w32} {n = value} (search (rules, word)))

size_after : (field : List ℕ) (fields : List (List ℕ)) → length (after_each 32 (field ∷ fields)) ≡ suc (length field + length (after_each 32 fields))
size_after field fields = ap suc (length-append field (after_each 32 fields))

size_none : length (after_each 32 []) ≡ 0
size_none = refl

short_fields : (kind : EventKind) → FitsKind kind → length (after_each 32 (kind_fields kind)) ≤ 15
short_fields (Arrive value) fits = let v = short_value value fits in omega (arith, v, size_after (value_field value) [], size_none)
short_fields (Message channel value) fits =
    let c = decimal_length channel 2 (omega arith) (let h = fits.0 in omega (arith, h)) in
    let v = short_value value fits.1 in
    omega (arith, c, v, size_after (canonical_decimal channel) (value_field value ∷ []), size_after (value_field value) [], size_none)

short_word : (kind : EventKind) → length (kind_word kind) ≤ 6
short_word (Arrive value) = omega arith
short_word (Message channel value) = omega arith

short_text : (event : Event) → FitsEvent event → length (event_text event) ≤ 64
short_text event fits =
    let time = decimal_length event.time 16 (omega arith) (let h = fits.time in omega (arith, h)) in
    let fields = short_fields event.kind fits.kind in
    let word = short_word event.kind in
    omega (
      arith,
      time,
      fields,
      word,
      size_after (canonical_decimal event.time) (kind_fields event.kind),
      length-append (kind_word event.kind) (after_each 32 (canonical_decimal event.time ∷ kind_fields event.kind)),
    )

-- ---- so it spells its event

spells : (event : Event) → FitsEvent event → SpellsOnly (event_text event) event
spells event fits =
    line_answer (event_text event) (kind_word event.kind) (canonical_decimal event.time ∷ kind_fields event.kind) (Some event) (text_pieces event) (short_text event fits) (fits, refl, refl) tt

-- the line of an event, and what is left behind it
abbrev pub line_and : Event → List ℕ → List ℕ
line_and event rest = event_text event ++ 10 ∷ rest

pub gives_line : (event : Event) (rest : List ℕ) (lines last : ℕ) → FitsEvent event → lines < 1000000 → last ≤ event.time → GivesEvent (line_and event rest) lines last event
gives_line event rest lines last fits counted rises = record {
  some = omega (arith, length-append (event_text event) (10 ∷ rest));
  counted = counted;
  line = subst (λ (l : List ℕ). SpellsOnly l event) (sym (line_at (event_text event) rest (lacks_text event))) (spells event fits);
  rises = rises;
}

pub behind_line : (event : Event) (rest : List ℕ) → rest_of (line_and event rest) ≡ rest
behind_line event rest = rest_at (event_text event) rest (lacks_text event)

-- ---- a line that spells no event

abbrev pub bad_line : List ℕ
bad_line = 120 ∷ []

none_by : (time : ℕ) (kind : EventKind) → bad_line ≡ event_text (record { time = time; kind = kind }) → ⊥
none_by time (Arrive value) e = let first : 120 ≡ 97 = ap (λ (bytes : List ℕ). get_or bytes 0 0) e in omega (arith, first)
none_by time (Message channel value) e = let first : 120 ≡ 100 = ap (λ (bytes : List ℕ). get_or bytes 0 0) e in omega (arith, first)

no_event : HasNoEvent bad_line
no_event event spelled = none_by event.time event.kind spelled.text

pub refuses_bad_line : (lines number : ℕ) → number ≡ lines + 1 → RefusesLine bad_line lines number
refuses_bad_line lines number is = record { some = omega arith; number_is = is; spells_none = λ counted. no_event }
