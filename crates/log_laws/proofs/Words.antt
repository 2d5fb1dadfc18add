-- What an event of a trace delivers: words, which the log names by signed numbers.
use Rattle.std.specs.Int.{w32, cast_unsigned}
use Rattle.std.proofs.Math.Facts.{of_z-to_z}
use Rattle.log_laws.proofs.Common.{◌≡◌, ℕ, ◌^◌, ◌<◌, sym, ap, ◌∙◌, rules, signed, EventKind, FitsKind, delivery_of, item_of, delivered, Deliver, DeliversWords}
use Rattle.cap_word.proofs.WordLemmas.{to_z-signed}
use Rattle.c_mean.specs.ModelledCalls.{Arrival, Message}
use Rattle.event_trace.specs.declared.events.EventKind.TheVariants as events

pub back : (value : ℕ) → value < 2 ^ 32 → cast_unsigned w32 (signed value) ≡ value
back value fits = ap (cast_unsigned w32) (sym (to_z-signed value fits)) ∙ of_z-to_z {w = w32} {n = value} (search (rules, fits))

pub delivered_is : (kind : EventKind) → FitsKind kind → delivered (item_of kind) ≡ delivery_of kind
delivered_is (events.Arrive value) fits = ap Arrival (back value fits)
delivered_is (events.Message channel value) fits = ap (Message channel) (back value fits.1)

pub delivers_words : (kind : EventKind) → FitsKind kind → DeliversWords (Deliver (delivery_of kind))
delivers_words (events.Arrive value) fits = fits
delivers_words (events.Message channel value) fits = fits.1
