-- What is counted over the lines of a log is what is counted over its entries.
use Rattle.cap_text.specs.Pieces.{pieces}
use Rattle.capriccio_commands.proofs.Common.{◌≡◌, ℕ, ◌+◌, ◌*◌, ◌<◌, List, [], ◌∷◌, ◌++◌, length, get_or, map, refl, ap, sym, ◌∙◌, arith, lines_of, decimal_unique, integer_unique, StopLine, Done, Idle, Trace, Cut, Entry, entry_word, entry_fields, entry_text, stop_fields, log_text, log_lines, Setup, World, Tally, counted, with_cost, no_tally, tally_from, tally_of, last_from}
use Rattle.cap_word.specs.declared.stops.Stop.{Stop as Cause}
use Rattle.cap_word.specs.declared.stops.Stop.TheVariants.{Trap, NoChunk, Fuel, Threads}
use Rattle.schedule_log.specs.declared.entries.Entry.TheVariants.{Out, Block, End, Stop, Event, Dropped, Run, Edge}
use Rattle.schedule_log.proofs.EntryPieces.{entry_pieces}
use Rattle.lawful_log.specs.Lawful.{IsLawfulLog}

-- the first letters of a word, which tell the words of one place apart
abbrev sign : List ℕ → ℕ
sign word = get_or word 0 0 + get_or word 1 0 * 256 + get_or word 2 0 * 65536 + get_or word 3 0 * 16777216

abbrev head : List (List ℕ) → List ℕ
head [] = []
head (word ∷ _) = word

-- a cut has more fields than the other stops
cut-fields : (s : Cause) (t c f n : ℕ) → length (stop_fields (Cut t s c f)) ≡ n → n < 4 → ⊥
cut-fields (Trap k) t c f n e few = omega arith
cut-fields _ t c f n e few = omega arith

cut-cost : (s t : Cause) (x y c d f g : ℕ) → stop_fields (Cut x s c f) ≡ stop_fields (Cut y t d g) → c ≡ d
cut-cost (Trap k) (Trap l) x y c d f g e = decimal_unique c d (cc)
cut-cost NoChunk NoChunk x y c d f g e = decimal_unique c d (cc)
cut-cost Fuel Fuel x y c d f g e = decimal_unique c d (cc)
cut-cost Threads Threads x y c d f g e = decimal_unique c d (cc)
cut-cost s t x y c d f g e = absurd (omega (arith, ap (λ fields. sign (head fields)) e))

not-cut : {P : Type 0} (s : Cause) (t c f n : ℕ) (fields : List (List ℕ)) → length fields ≡ n → n < 4 → fields ≡ stop_fields (Cut t s c f) → P
not-cut s t c f n fields is few e = absurd (cut-fields s t c f n (sym (ap length e) ∙ is) few)

stop-counted : (x y : StopLine) (t : Tally) → stop_fields x ≡ stop_fields y → counted (Stop x) t ≡ counted (Stop y) t
stop-counted (Cut x s c f) (Cut y u d g) t e = ap (λ n. with_cost n t) (cut-cost s u x y c d f g e)
stop-counted Done (Cut y u d g) t e = not-cut u y d g 1 (stop_fields Done) refl (omega arith) e
stop-counted Idle (Cut y u d g) t e = not-cut u y d g 1 (stop_fields Idle) refl (omega arith) e
stop-counted (Trace m) (Cut y u d g) t e = not-cut u y d g 2 (stop_fields (Trace m)) refl (omega arith) e
stop-counted (Cut y u d g) Done t e = not-cut u y d g 1 (stop_fields Done) refl (omega arith) (sym e)
stop-counted (Cut y u d g) Idle t e = not-cut u y d g 1 (stop_fields Idle) refl (omega arith) (sym e)
stop-counted (Cut y u d g) (Trace m) t e = not-cut u y d g 2 (stop_fields (Trace m)) refl (omega arith) (sym e)
stop-counted _ _ t e = refl

entry-counted : (x y : Entry) (t : Tally) → entry_word x ≡ entry_word y → entry_fields x ≡ entry_fields y → counted x t ≡ counted y t
entry-counted (Event c i) (Event d j) t w e = refl
entry-counted (Dropped c i) (Dropped d j) t w e = refl
entry-counted (Run c u n) (Run d v m) t w e = refl
entry-counted (Out u v) (Out x z) t w e = let value = integer_unique v z (cc) in ap (λ k. counted (Out u k) t) value
entry-counted (Block u n s c f) (Block x m r d g) t w e = let cost = decimal_unique c d (cc) in ap (λ k. with_cost k t) cost
entry-counted (End u c f) (End x d g) t w e = let cost = decimal_unique c d (cc) in ap (λ k. with_cost k t) cost
entry-counted (Edge a b n c v) (Edge d f m g z) t w e = refl
entry-counted (Stop s) (Stop u) t w e = stop-counted s u t e
entry-counted x y t w e = absurd (omega (arith, ap sign w))

-- entries of one text count alike
same-counted : (x y : Entry) (t : Tally) → entry_text x ≡ entry_text y → counted x t ≡ counted y t
same-counted x y t e =
    let same : entry_word x ∷ entry_fields x ≡ entry_word y ∷ entry_fields y = sym (entry_pieces x) ∙ ap (pieces 32) e ∙ entry_pieces y in
    entry-counted x y t (cc) (cc)

-- ---- the lines of a log

-- the lines that are left are those of entries that bring the tally to that of the whole log
abbrev pub IsTallying : List ℕ → List (List ℕ) → Tally → Type 0
IsTallying log left tally = (entries : List Entry) → log ≡ log_text entries → (rest : List Entry) × (left ≡ map entry_text rest) × (tally_from tally rest ≡ tally_of entries)

pub tally-starts : (log : List ℕ) → IsTallying log (lines_of log) no_tally
tally-starts log = λ entries is. (entries, ap lines_of is ∙ log_lines entries, refl)

one-more : (line : List ℕ) (left left' : List (List ℕ)) (tally more : Tally) (e : Entry) (entries rest : List Entry) → left ≡ line ∷ left' → entry_text e ≡ line → more ≡ counted e tally → left ≡ map entry_text rest → tally_from tally rest ≡ tally_of entries →
    (rest' : List Entry) × (left' ≡ map entry_text rest') × (tally_from more rest' ≡ tally_of entries)
one-more line left left' tally more e entries [] goes text is lines all = absurd (let clash : line ∷ left' ≡ [] = sym goes ∙ lines in cc)
one-more line left left' tally more e entries (x ∷ rest) goes text is lines all =
    let both : line ∷ left' ≡ entry_text x ∷ map entry_text rest = sym goes ∙ lines in
    let first : line ≡ entry_text x = cc in
    let others : left' ≡ map entry_text rest = cc in
    (rest, others, ap (λ t. tally_from t rest) (is ∙ same-counted e x tally (text ∙ first)) ∙ all)

pub tally-goes-on : (log line : List ℕ) (left left' : List (List ℕ)) (tally more : Tally) (e : Entry) → IsTallying log left tally → left ≡ line ∷ left' → entry_text e ≡ line → more ≡ counted e tally → IsTallying log left' more
tally-goes-on log line left left' tally more e h goes text is = λ entries log-is.
    let now = h entries log-is in
    one-more line left left' tally more e entries now.0 goes text is now.1 now.2

none-left : (tally : Tally) (entries rest : List Entry) → [] ≡ map entry_text rest → tally_from tally rest ≡ tally_of entries → tally ≡ tally_of entries
none-left tally entries [] none all = all
none-left tally entries (x ∷ rest) none all = absurd (cc)

pub tally-is : (log : List ℕ) (left : List (List ℕ)) (tally : Tally) → IsTallying log left tally → left ≡ [] → (entries : List Entry) → log ≡ log_text entries → tally ≡ tally_of entries
tally-is log left tally h over entries log-is = let now = h entries log-is in none-left tally entries now.0 (sym over ∙ now.1) now.2

-- ---- the last line

-- the last of some lines, after this one
abbrev pub last_in : List ℕ → List (List ℕ) → List ℕ
last_in last [] = last
last_in last (line ∷ lines) = last_in line lines

pub last-of-texts : (last : List ℕ) (entries : List Entry) → last_in last (map entry_text entries) ≡ last_from last entries
last-of-texts last [] = refl
last-of-texts last (entry ∷ entries) = last-of-texts (entry_text entry) entries

pub last-of-log : (log : List ℕ) (entries : List Entry) → log ≡ log_text entries → last_in [] (lines_of log) ≡ last_from [] entries
last-of-log log entries is = ap (λ text. last_in [] (lines_of text)) is ∙ (ap (last_in []) (log_lines entries) ∙ last-of-texts [] entries)

last-behind : (text : List ℕ) (entries : List Entry) (last : Entry) → last_from text (entries ++ last ∷ []) ≡ entry_text last
last-behind text [] last = refl
last-behind text (entry ∷ entries) last = last-behind (entry_text entry) entries last

last-behind-two : (text : List ℕ) (entries more : List Entry) (last : Entry) → last_from text (entries ++ (more ++ last ∷ [])) ≡ entry_text last
last-behind-two text [] more last = last-behind text more last
last-behind-two text (entry ∷ entries) more last = last-behind-two (entry_text entry) entries more last

-- the last line of a lawful log is that of its stop
pub last-is-stop : (g : Setup) (trace : List ℕ) (entries : List Entry) (stop : StopLine) (end : World) → IsLawfulLog g trace entries stop end → last_from [] entries ≡ entry_text (Stop stop)
last-is-stop g trace entries stop end h = ap (last_from []) h.entries_are ∙ last-behind-two [] h.before_end _ (Stop stop)
