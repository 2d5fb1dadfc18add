-- The next line of a trace: there is none, it is refused, or it is that of one event.
use Rattle.std.proofs.Common.{◌⊎◌}
use Rattle.event_trace.specs.Lines.{event_text, FitsKind, IsTraceLine, SpellsOnly, line_of}
use Rattle.event_trace.specs.declared.events.EventKind.{EventKind}
use Rattle.event_trace.specs.declared.events.EventKind.TheVariants.{Arrive, Message}
use Rattle.event_trace.proofs.LineTexts.{event_unique}
use Rattle.choice_rules.specs.Trace.{Trace, IsNext, IsRefused}
use Rattle.choice_rules.proofs.Common.{◌≡◌, ℕ, suc, ◌+◌, ◌<◌, ◌≤◌, ◌^◌, inl, inr, List, [], ◌∷◌, length, Some, refl, ap, arith, Event}
use Rattle.choice_rules.proofs.Deciding.{Decided, decided_by, both_decided, either_decided, le_decided, text_same, Found, Searched, Number, numbers}

-- ---- a line

abbrev Kinds : (EventKind → Type 0) → Type 0
Kinds P = Number (2 ^ 32) (λ value. P (Arrive value)) ⊎ Number 64 (λ channel. Number (2 ^ 32) (λ value. P (Message channel value)))

kinds : Searched EventKind FitsKind
kinds P each =
    decided_by to from
    (either_decided (numbers (2 ^ 32) (λ value. P (Arrive value)) (λ value. each (Arrive value)))
    (numbers 64 (λ channel. Number (2 ^ 32) (λ value. P (Message channel value))) (λ channel. numbers (2 ^ 32) (λ value. P (Message channel value)) (λ value. each (Message channel value)))))
  where
    to : Kinds P → Found EventKind FitsKind P
    to (inl (value, (v, p))) = (Arrive value, (v, p))
    to (inr (channel, (c, (value, (v, p))))) = (Message channel value, ((omega (arith, c), v), p))

    from : Found EventKind FitsKind P → Kinds P
    from (Arrive value, (fits, p)) = inl (value, (fits, p))
    from (Message channel value, (fits, p)) = inr (channel, ((let c = fits.0 in omega (arith, c)), (value, (fits.1, p))))

module _ (line : List ℕ) where
  abbrev Spelt : Type 0
  Spelt = (event : Event) × IsTraceLine line event

  abbrev Fields : Type 0
  Fields = Number (10 ^ 15 + 1) (λ time. Found EventKind FitsKind (λ kind. line ≡ event_text (record { time = time; kind = kind })))

  to_event : (length line ≤ 64) × Fields → Spelt
  to_event (short, (time, (t, (kind, (k, text))))) = (record { time = time; kind = kind }, record { text = text; fits = record { time = omega (arith, t); kind = k }; short = short })

  from_event : Spelt → (length line ≤ 64) × Fields
  from_event (event, is) = (is.short, (event.time, ((let t = is.fits.time in omega (arith, t)), (event.kind, (is.fits.kind, is.text)))))

  spelt_decided : Decided Spelt
  spelt_decided = decided_by to_event from_event (both_decided (le_decided (length line) 64)
      (numbers (10 ^ 15 + 1) (λ time. Found EventKind FitsKind (λ kind. line ≡ event_text (record { time = time; kind = kind })))
      (λ time. kinds (λ kind. line ≡ event_text (record { time = time; kind = kind })) (λ kind. text_same line (event_text (record { time = time; kind = kind }))))))

-- ---- the next line

-- it is refused, the trace is over, or it is that of an event
pub data Next (trace : Trace) : Type 0 where
  Over : trace.bytes ≡ [] → Next trace
  Line : (event : Event) → IsNext trace (Some event) → Next trace
  Refused : (number : ℕ) → IsRefused trace number → Next trace

module _ (trace : Trace) (some : 0 < length trace.bytes) where
  line_next : trace.lines < 1000000 → Decided (Spelt (line_of trace.bytes)) → Next trace
  line_next counted (inr none) = Refused (trace.lines + 1) (inl (record { some = some; number_is = refl; spells_none = λ h event is. none (event, is) }))
  line_next counted (inl found) = by (le_decided trace.last found.0.time) where
    only : SpellsOnly (line_of trace.bytes) found.0
    only = record { spells = found.1; only = λ other is. event_unique (line_of trace.bytes) found.0 other found.1 is }

    by : Decided (trace.last ≤ found.0.time) → Next trace
    by (inl rises) = Line found.0 (record { some = some; counted = counted; line = only; rises = rises })
    by (inr falls) = Refused (trace.lines + 1) (inr (
      found.0.time,
      trace.last,
      record { some = some; counted = counted; number_is = refl; earlier_is = refl; falls = omega (arith, falls); kind = found.0.kind; line = only },
    ))

  some_next : Decided (1000000 ≤ trace.lines) → Next trace
  some_next (inl many) = Refused (trace.lines + 1) (inl (record { some = some; number_is = refl; spells_none = λ h. absurd (omega (arith, h, many)) }))
  some_next (inr few) = line_next (omega (arith, few)) (spelt_decided (line_of trace.bytes))

pub next_of : (trace : Trace) → Next trace
next_of trace = by trace.bytes refl where
  by : (bytes : List ℕ) → trace.bytes ≡ bytes → Next trace
  by [] e = Over e
  by (byte ∷ bytes) e = some_next trace (let long : length trace.bytes ≡ suc (length bytes) = ap length e in omega (arith, long)) (le_decided 1000000 trace.lines)
