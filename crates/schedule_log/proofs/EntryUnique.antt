-- Two entries never share a text.
use Rattle.std.specs.Option.{ok_or}
use Rattle.schedule_log.specs.declared.reading.LogError.{LogError}
use Rattle.schedule_log.proofs.Common.{◌≡◌, ℕ, ℤ, ◌+◌, ◌*◌, ◌≤◌, List, [], ◌∷◌, length, get_or, map, refl, ap, sym, ◌∙◌, arith, codes, Result, Ok, Option, Some, None, IfSome, IfNone, canonical_decimal, canonical_integer, decimal_unique, integer_unique, TrapKind, Index, Table, Resource, Channel, Trap, NoChunk, Fuel, Threads, Item, Arrive, Data, StopLine, Done, Idle, Trace, Cut, Entry, Event, Dropped, Run, Out, Block, End, Edge, Stop, pieces, key_field, entry_word, entry_fields, entry_text, item_fields, stop_fields, trap_field, FitsEntry, IsLogLine}
use Rattle.cap_word.specs.declared.stops.Stop.{Stop as Cause}
use Rattle.schedule_log.proofs.KeyPieces.{key_pieces}
use Rattle.schedule_log.proofs.EntryPieces.{entry_pieces}

-- the first letters of a word, which tell the words of one place apart
abbrev sign : List ℕ → ℕ
sign word = get_or word 0 0 + get_or word 1 0 * 256 + get_or word 2 0 * 65536 + get_or word 3 0 * 16777216

abbrev head : List (List ℕ) → List ℕ
head [] = []
head (word ∷ _) = word

integers_unique : (xs ys : List ℤ) → map canonical_integer xs ≡ map canonical_integer ys → xs ≡ ys
integers_unique [] [] e = refl
integers_unique (x ∷ xs) (y ∷ ys) e = let first = integer_unique x y (cc) in let rest = integers_unique xs ys (cc) in (λ i. first i ∷ rest i)
integers_unique _ _ e = absurd (cc)

decimals_unique : (xs ys : List ℕ) → map canonical_decimal xs ≡ map canonical_decimal ys → xs ≡ ys
decimals_unique [] [] e = refl
decimals_unique (x ∷ xs) (y ∷ ys) e = let first = decimal_unique x y (cc) in let rest = decimals_unique xs ys (cc) in (λ i. first i ∷ rest i)
decimals_unique _ _ e = absurd (cc)

key_unique : (xs ys : List ℕ) → 1 ≤ length xs → 1 ≤ length ys → key_field xs ≡ key_field ys → xs ≡ ys
key_unique xs ys h g e = decimals_unique xs ys (sym (key_pieces xs h) ∙ ap (pieces 60) e ∙ key_pieces ys g)

item_unique : (x y : Item) → item_fields x ≡ item_fields y → x ≡ y
item_unique (Arrive v) (Arrive w) e = ap Arrive (integer_unique v w (cc))
item_unique (Data c v) (Data d w) e = let channel = decimal_unique c d (cc) in let value = integer_unique v w (cc) in (λ i. Data (channel i) (value i))
item_unique x y e = absurd (omega (arith, ap (λ fields. sign (head fields)) e))

trap_unique : (x y : TrapKind) → trap_field x ≡ trap_field y → x ≡ y
trap_unique Index Index e = refl
trap_unique Table Table e = refl
trap_unique Resource Resource e = refl
trap_unique Channel Channel e = refl
trap_unique x y e = absurd (omega (arith, ap sign e))

cut : (s t : Cause) (x y c d f g : ℕ) → s ≡ t → canonical_decimal x ≡ canonical_decimal y → canonical_decimal c ≡ canonical_decimal d → canonical_decimal f ≡ canonical_decimal g → Cut x s c f ≡ Cut y t d g
cut s t x y c d f g cause thread cost free =
    let a = decimal_unique x y thread in let b = decimal_unique c d cost in let k = decimal_unique f g free in (λ i. Cut (a i) (cause i) (b i) (k i))

done_or_cut : (s : Cause) (t c f : ℕ) → codes "done" ≡ head (stop_fields (Cut t s c f)) → ⊥
done_or_cut (Trap k) t c f e = omega (arith, ap sign e)
done_or_cut _ t c f e = omega (arith, ap sign e)

idle_or_cut : (s : Cause) (t c f : ℕ) → codes "idle" ≡ head (stop_fields (Cut t s c f)) → ⊥
idle_or_cut (Trap k) t c f e = omega (arith, ap sign e)
idle_or_cut _ t c f e = omega (arith, ap sign e)

trace_or_cut : (s : Cause) (t c f : ℕ) → codes "trace" ≡ head (stop_fields (Cut t s c f)) → ⊥
trace_or_cut (Trap k) t c f e = omega (arith, ap sign e)
trace_or_cut _ t c f e = omega (arith, ap sign e)

cut_unique : (s t : Cause) (x y c d f g : ℕ) → stop_fields (Cut x s c f) ≡ stop_fields (Cut y t d g) → Cut x s c f ≡ Cut y t d g
cut_unique (Trap k) (Trap l) x y c d f g e = cut (Trap k) (Trap l) x y c d f g (ap Trap (trap_unique k l (cc))) (cc) (cc) (cc)
cut_unique NoChunk NoChunk x y c d f g e = cut NoChunk NoChunk x y c d f g refl (cc) (cc) (cc)
cut_unique Fuel Fuel x y c d f g e = cut Fuel Fuel x y c d f g refl (cc) (cc) (cc)
cut_unique Threads Threads x y c d f g e = cut Threads Threads x y c d f g refl (cc) (cc) (cc)
cut_unique s t x y c d f g e = absurd (omega (arith, ap (λ fields. sign (head fields)) e))

stop_unique : (x y : StopLine) → stop_fields x ≡ stop_fields y → x ≡ y
stop_unique Done Done e = refl
stop_unique Idle Idle e = refl
stop_unique (Trace m) (Trace n) e = ap Trace (decimal_unique m n (cc))
stop_unique (Cut x s c f) (Cut y t d g) e = cut_unique s t x y c d f g e
stop_unique Done (Cut y t d g) e = absurd (done_or_cut t y d g (ap head e))
stop_unique Idle (Cut y t d g) e = absurd (idle_or_cut t y d g (ap head e))
stop_unique (Trace m) (Cut y t d g) e = absurd (trace_or_cut t y d g (ap head e))
stop_unique (Cut y t d g) Done e = absurd (done_or_cut t y d g (sym (ap head e)))
stop_unique (Cut y t d g) Idle e = absurd (idle_or_cut t y d g (sym (ap head e)))
stop_unique (Cut y t d g) (Trace m) e = absurd (trace_or_cut t y d g (sym (ap head e)))
stop_unique x y e = absurd (omega (arith, ap (λ fields. sign (head fields)) e))

same_entry : (x y : Entry) → FitsEntry x → FitsEntry y → entry_word x ≡ entry_word y → entry_fields x ≡ entry_fields y → x ≡ y
same_entry (Event c i) (Event d j) p q w e = let clock = decimal_unique c d (cc) in let item = item_unique i j (cc) in (λ k. Event (clock k) (item k))
same_entry (Dropped c i) (Dropped d j) p q w e = let clock = decimal_unique c d (cc) in let item = item_unique i j (cc) in (λ k. Dropped (clock k) (item k))
same_entry (Run c t n) (Run d u m) p q w e =
    let clock = decimal_unique c d (cc) in let thread = decimal_unique t u (cc) in let node = decimal_unique n m (cc) in (λ k. Run (clock k) (thread k) (node k))
same_entry (Out t v) (Out u z) p q w e = let thread = decimal_unique t u (cc) in let value = integer_unique v z (cc) in (λ k. Out (thread k) (value k))
same_entry (Block t n s c f) (Block u m r d g) p q w e =
    let thread = decimal_unique t u (cc) in let node = decimal_unique n m (cc) in let key = key_unique s r p.2.0 q.2.0 (cc) in
    let cost = decimal_unique c d (cc) in let free = decimal_unique f g (cc) in (λ k. Block (thread k) (node k) (key k) (cost k) (free k))
same_entry (End t c f) (End u d g) p q w e =
    let thread = decimal_unique t u (cc) in let cost = decimal_unique c d (cc) in let free = decimal_unique f g (cc) in (λ k. End (thread k) (cost k) (free k))
same_entry (Edge a b n c v) (Edge d f m g z) p q w e =
    let from = decimal_unique a d (cc) in let to = decimal_unique b f (cc) in let count = decimal_unique n m (cc) in
    let cost = integer_unique c g (cc) in let changes = integers_unique v z (cc) in (λ k. Edge (from k) (to k) (count k) (cost k) (changes k))
same_entry (Stop s) (Stop t) p q w e = ap Stop (stop_unique s t e)
same_entry x y p q w e = absurd (omega (arith, ap sign w))

-- two entries never share a text
pub text_unique : (x y : Entry) → FitsEntry x → FitsEntry y → entry_text x ≡ entry_text y → x ≡ y
text_unique x y p q e =
    let same : entry_word x ∷ entry_fields x ≡ entry_word y ∷ entry_fields y = sym (entry_pieces x) ∙ ap (pieces 32) e ∙ entry_pieces y in
    same_entry x y p q (cc) (cc)

-- so where an entry of that text is found wherever there is one, it is the one entry of that text
pub reads_back : (line : List ℕ) (o : Option Entry) (r : Result Entry LogError) (e : LogError) → r ≡ ok_or o e → IfSome o (λ found. FitsEntry found × (entry_text found ≡ line)) → IfNone o (¬ IsLogLine line)
    → (entry : Entry) → FitsEntry entry → entry_text entry ≡ line → r ≡ Ok entry
reads_back line (Some found) r e is right none entry fits text = is ∙ ap Ok (text_unique found entry right.0 fits (right.1 ∙ sym text))
reads_back line None r e is right none entry fits text = absurd (none (entry, fits, text))
