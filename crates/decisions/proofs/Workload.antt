-- Each line of a workload's trace is that of an event, and the times of the events rise.
use Rattle.decisions.proofs.Common.{◌≡◌, ℕ, zero, suc, pos, ◌+◌, ◌*◌, ◌^◌, ◌<◌, ◌≤◌, List, [], ◌∷◌, ◌++◌, append_assoc, length, length-append, w32, refl, sym, ap, subst, ◌∙◌, arith, codes, AllByRecursion, lt-ltb, canonical_decimal, canonical_integer, after_each, Event, channel_of, arrival_line, message_line, lines_below, trace_text, IsGood, is_over, by_line, IsGoodTrace}
use Rattle.std.specs.Int.{cast_signed}
use Rattle.cap_word.specs.Word.{signed}
use Rattle.cap_word.proofs.WordLemmas.{to_z-signed}
use Rattle.event_trace.specs.declared.events.EventKind.TheVariants.{Arrive, Message}
use Rattle.event_trace.specs.Lines.{FitsEvent, event_text, value_field}
use Rattle.run_course.proofs.Spelled.{line_and, gives_line, behind_line}

-- ---- events one after another

abbrev lines_of : List Event → List ℕ
lines_of [] = []
lines_of (event ∷ events) = line_and event (lines_of events)

lines_append : (xs ys : List Event) → lines_of (xs ++ ys) ≡ lines_of xs ++ lines_of ys
lines_append [] ys = refl
lines_append (x ∷ xs) ys = ap (λ (rest : List ℕ). line_and x rest) (lines_append xs ys) ∙ sym (append_assoc (event_text x) (10 ∷ lines_of xs) (lines_of ys))

-- no time is below the one before, from a first on to a last
abbrev Rise : ℕ → List Event → ℕ → Type 0
Rise from [] to = from ≤ to
Rise from (event ∷ events) to = (from ≤ event.time) × Rise event.time events to

rise_later : (from between to : ℕ) (events : List Event) → from ≤ between → Rise between events to → Rise from events to
rise_later from between to [] le rise = omega (arith, le, rise)
rise_later from between to (event ∷ events) le rise = ((let first = rise.0 in omega (arith, le, first)), rise.1)

rise_on : (from between to : ℕ) (xs ys : List Event) → Rise from xs between → Rise between ys to → Rise from (xs ++ ys) to
rise_on from between to [] ys first second = rise_later from between to ys first second
rise_on from between to (x ∷ xs) ys first second = (first.0, rise_on x.time between to xs ys first.1 second)

all_append : (P : Event → Type 0) (xs ys : List Event) → AllByRecursion P xs → AllByRecursion P ys → AllByRecursion P (xs ++ ys)
all_append P [] ys first second = second
all_append P (x ∷ xs) ys first second = (first.0, all_append P xs ys first.1 second)

-- such lines are good
good_lines : (events : List Event) (before last to : ℕ) → AllByRecursion FitsEvent events → Rise last events to → before + length events ≤ 1000000 → IsGood (record { bytes = lines_of events; lines = before; last = last })
good_lines [] before last to fits rise few = is_over refl
good_lines (event ∷ events) before last to fits rise few =
    by_line {event = event} (gives_line event (lines_of events) before last fits.0 (omega (arith, few)) rise.0)
    (subst (λ (bytes : List ℕ). IsGood (record { bytes = bytes; lines = before + 1; last = event.time })) (sym (behind_line event (lines_of events)))
    (good_lines events (before + 1) event.time to fits.1 rise.1 (omega (arith, few))))

-- ---- the events of the numbers below n

abbrev events_below : (ℕ → Event) → ℕ → List Event
events_below event zero = []
events_below event (suc j) = events_below event j ++ event j ∷ []

count_below : (event : ℕ → Event) (n : ℕ) → length (events_below event n) ≡ n
count_below event zero = refl
count_below event (suc j) = omega (arith, length-append (events_below event j) (event j ∷ []), count_below event j)

all_below : (P : Event → Type 0) (event : ℕ → Event) (n : ℕ) → ((j : ℕ) → j < n → P (event j)) → AllByRecursion P (events_below event n)
all_below P event zero each = tt
all_below P event (suc j) each = all_append P (events_below event j) (event j ∷ []) (all_below P event j (λ k lt. each k (omega (arith, lt)))) (each j (omega arith), tt)

lines_are : (line : ℕ → List ℕ) (event : ℕ → Event) (n : ℕ) → ((j : ℕ) → j < n → line j ≡ lines_of (event j ∷ [])) → lines_below line n ≡ lines_of (events_below event n)
unfolding lines_below
lines_are line event zero each = refl
lines_are line event (suc j) each =
    let rest = lines_are line event j (λ k lt. each k (omega (arith, lt))) in
    let here = each j (omega arith) in
    (λ i. rest i ++ here i) ∙ sym (lines_append (events_below event j) (event j ∷ []))

-- ---- arrivals and messages

abbrev arrival : ℕ → Event
arrival j = record { time = 10 * j; kind = Arrive (channel_of j) }

abbrev message : ℕ → Event
message j = record { time = 1000000 + 10 * j; kind = Message (channel_of j) j }

-- a small value is written as it is
small_value : (value : ℕ) → value < 2 ^ 31 → value_field value ≡ canonical_decimal value
unfolding canonical_integer signed
small_value value small =
    let reads : cast_signed w32 value ≡ signed value = to_z-signed value (omega arith) in
    let plain : signed value ≡ pos value = rw (lt-ltb value (2 ^ 31) small) refl in
    ap canonical_integer (reads ∙ plain)

two_fields : (a b : List ℕ) → a ++ (32 ∷ (b ++ 10 ∷ [])) ≡ (a ++ (32 ∷ (b ++ []))) ++ 10 ∷ []
two_fields a b = simp append_assoc

three_fields : (a b c : List ℕ) → a ++ (32 ∷ (b ++ (32 ∷ (c ++ 10 ∷ [])))) ≡ (a ++ (32 ∷ (b ++ (32 ∷ (c ++ []))))) ++ 10 ∷ []
three_fields a b c = simp append_assoc

arrival_is : (j : ℕ) → j < 1000 → arrival_line j ≡ lines_of (arrival j ∷ [])
unfolding arrival_line
arrival_is j few =
    let time = canonical_decimal (10 * j) in
    let value = small_value (channel_of j) (omega arith) in
    ap (λ (fields : List ℕ). codes "arrive " ++ fields) (two_fields time (canonical_decimal (channel_of j)))
    ∙ ap (λ (field : List ℕ). (codes "arrive" ++ after_each 32 (time ∷ field ∷ [])) ++ 10 ∷ []) (sym value)

message_is : (j : ℕ) → j < 1000 → message_line j ≡ lines_of (message j ∷ [])
unfolding message_line
message_is j few =
    let time = canonical_decimal (1000000 + 10 * j) in
    let channel = canonical_decimal (channel_of j) in
    let value = small_value j (omega (arith, few)) in
    ap (λ (fields : List ℕ). codes "data " ++ fields) (three_fields time channel (canonical_decimal j))
    ∙ ap (λ (field : List ℕ). (codes "data" ++ after_each 32 (time ∷ channel ∷ field ∷ [])) ++ 10 ∷ []) (sym value)

arrival_fits : (j : ℕ) → j < 1000 → FitsEvent (arrival j)
arrival_fits j few = record { time = omega (arith, few); kind = omega arith }

message_fits : (j : ℕ) → j < 1000 → FitsEvent (message j)
message_fits j few = record { time = omega (arith, few); kind = (omega arith, omega (arith, few)) }

arrivals_rise : (n : ℕ) → Rise 0 (events_below arrival n) (10 * n)
arrivals_rise zero = omega arith
arrivals_rise (suc j) = rise_on 0 (10 * j) (10 * suc j) (events_below arrival j) (arrival j ∷ []) (arrivals_rise j) (omega arith, omega arith)

messages_rise : (n : ℕ) → Rise 1000000 (events_below message n) (1000000 + 10 * n)
messages_rise zero = omega arith
messages_rise (suc j) = rise_on 1000000 (1000000 + 10 * j) (1000000 + 10 * suc j) (events_below message j) (message j ∷ []) (messages_rise j) (omega arith, omega arith)

-- ---- the trace

pub workload_is_good : (number : ℕ) → number ≤ 1000 → IsGoodTrace (trace_text number)
unfolding trace_text
workload_is_good n few =
    let arrivals = events_below arrival n in
    let messages = events_below message n in
    let first = lines_are arrival_line arrival n (λ j lt. arrival_is j (omega (arith, lt, few))) in
    let second = lines_are message_line message n (λ j lt. message_is j (omega (arith, lt, few))) in
    let whole : lines_below arrival_line n ++ lines_below message_line n ≡ lines_of (arrivals ++ messages) = (λ i. first i ++ second i) ∙ sym (lines_append arrivals messages) in
    let fits = all_append FitsEvent arrivals messages (all_below FitsEvent arrival n (λ j lt. arrival_fits j (omega (arith, lt, few)))) (all_below FitsEvent message n (λ j lt. message_fits j (omega (arith, lt, few)))) in
    let rise = rise_on 0 (10 * n) (1000000 + 10 * n) arrivals messages (arrivals_rise n) (rise_later (10 * n) 1000000 (1000000 + 10 * n) messages (omega (arith, few)) (messages_rise n)) in
    let count : 0 + length (arrivals ++ messages) ≤ 1000000 = omega (arith, few, length-append arrivals messages, count_below arrival n, count_below message n) in
    subst (λ (bytes : List ℕ). IsGood (record { bytes = bytes; lines = 0; last = 0 })) (sym whole) (good_lines (arrivals ++ messages) 0 0 (1000000 + 10 * n) fits rise count)
