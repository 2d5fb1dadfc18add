-- An entry's text, cut at its blanks.
use Rattle.schedule_log.proofs.Common.{◌≡◌, ℕ, ℤ, List, [], ◌∷◌, map, refl, ap, sym, ◌∙◌, arith, codes, Option, Some, None, IfSome, IfNone, AllByRecursion, flat_map, canonical_decimal, canonical_integer, TrapKind, Index, Table, Resource, Channel, Trap, NoChunk, Fuel, Threads, Item, Arrive, Data, StopLine, Done, Idle, Trace, Cut, Entry, Event, Dropped, Run, Out, Block, End, Edge, Stop, pieces, key_field, entry_word, entry_fields, entry_text, item_fields, stop_fields, trap_field, FitsEntry, IsLogLine, Visible, visible_lacks, all_lack, visible-append, visible_decimal, visible_integer, from_shown, pieces_joined, text_of_pieces}
use Rattle.schedule_log.specs.Readings.{SpellsEntry, SpellsNoEntry}

integers : (values : List ℤ) → AllByRecursion Visible (map canonical_integer values)
integers [] = tt
integers (z ∷ values) = (visible_integer z, integers values)

marks : (sites : List ℕ) → Visible (flat_map (λ next. 60 ∷ canonical_decimal next) sites)
marks [] = tt
marks (site ∷ sites) = visible-append (60 ∷ canonical_decimal site) _ (omega arith, visible_decimal site) (marks sites)

key : (sites : List ℕ) → Visible (key_field sites)
key [] = tt
key (site ∷ sites) = visible-append (canonical_decimal site) _ (visible_decimal site) (marks sites)

trap : (kind : TrapKind) → Visible (trap_field kind)
trap Index = from_shown (codes "index") refl
trap Table = from_shown (codes "table") refl
trap Resource = from_shown (codes "resource") refl
trap Channel = from_shown (codes "channel") refl

item_visible : (item : Item) → AllByRecursion (Visible) (item_fields item)
item_visible (Arrive value) = (from_shown (codes "arrive") refl, (visible_integer value, tt))
item_visible (Data channel value) = (from_shown (codes "data") refl, (visible_decimal channel, (visible_integer value, tt)))

stop_visible : (stop : StopLine) → AllByRecursion (Visible) (stop_fields stop)
stop_visible Done = (from_shown (codes "done") refl, tt)
stop_visible Idle = (from_shown (codes "idle") refl, tt)
stop_visible (Trace line) = (from_shown (codes "trace") refl, (visible_decimal line, tt))
stop_visible (Cut thread (Trap kind) cost free) = (from_shown (codes "trap") refl, (visible_decimal thread, (trap kind, (visible_decimal cost, (visible_decimal free, tt)))))
stop_visible (Cut thread NoChunk cost free) = (from_shown (codes "nochunk") refl, (visible_decimal thread, (visible_decimal cost, (visible_decimal free, tt))))
stop_visible (Cut thread Fuel cost free) = (from_shown (codes "fuel") refl, (visible_decimal thread, (visible_decimal cost, (visible_decimal free, tt))))
stop_visible (Cut thread Threads cost free) = (from_shown (codes "threads") refl, (visible_decimal thread, (visible_decimal cost, (visible_decimal free, tt))))

word_visible : (entry : Entry) → Visible (entry_word entry)
word_visible (Event _ _) = from_shown (codes "event") refl
word_visible (Dropped _ _) = from_shown (codes "drop") refl
word_visible (Run _ _ _) = from_shown (codes "run") refl
word_visible (Out _ _) = from_shown (codes "out") refl
word_visible (Block _ _ _ _ _) = from_shown (codes "block") refl
word_visible (End _ _ _) = from_shown (codes "end") refl
word_visible (Edge _ _ _ _ _) = from_shown (codes "edge") refl
word_visible (Stop _) = from_shown (codes "stop") refl

fields_visible : (entry : Entry) → AllByRecursion (Visible) (entry_fields entry)
fields_visible (Event clock item) = (visible_decimal clock, item_visible item)
fields_visible (Dropped clock item) = (visible_decimal clock, item_visible item)
fields_visible (Run clock thread node) = (visible_decimal clock, (visible_decimal thread, (visible_decimal node, tt)))
fields_visible (Out thread value) = (visible_decimal thread, (visible_integer value, tt))
fields_visible (Block thread node sites cost free) = (visible_decimal thread, (visible_decimal node, (key sites, (visible_decimal cost, (visible_decimal free, tt)))))
fields_visible (End thread cost free) = (visible_decimal thread, (visible_decimal cost, (visible_decimal free, tt)))
fields_visible (Edge from to count cost changes) = (visible_decimal from, (visible_decimal to, (visible_decimal count, (visible_integer cost, integers changes))))
fields_visible (Stop stop) = stop_visible stop

pub entry_visible : (entry : Entry) → Visible (entry_word entry) × AllByRecursion Visible (entry_fields entry)
entry_visible entry = (word_visible entry, fields_visible entry)

pub entry_pieces : (entry : Entry) → pieces 32 (entry_text entry) ≡ entry_word entry ∷ entry_fields entry
unfolding entry_text
entry_pieces entry = pieces_joined 32 (entry_word entry) (entry_fields entry) (visible_lacks 32 _ (omega arith) (word_visible entry))
    (all_lack 32 _ (omega arith) (fields_visible entry))

pub entry_found : (line word : List ℕ) (fields : List (List ℕ)) (r : Option Entry) → pieces 32 line ≡ word ∷ fields → IfSome r (SpellsEntry word fields)
    → IfSome r (λ entry. FitsEntry entry × (entry_text entry ≡ line))
unfolding entry_text
entry_found line word fields None e h = tt
entry_found line word fields (Some entry) e h = (h.0, sym (text_of_pieces 32 line (entry_word entry) (entry_fields entry) (e ∙ (λ i. h.1 i ∷ h.2 i))))

pub no_entry : (line word : List ℕ) (fields : List (List ℕ)) (r : Option Entry) → pieces 32 line ≡ word ∷ fields → IfNone r (SpellsNoEntry word fields)
    → IfNone r (¬ IsLogLine line)
no_entry line word fields None e h = λ (entry, fits, text).
    let same : word ∷ fields ≡ entry_word entry ∷ entry_fields entry = sym e ∙ ap (pieces 32) (sym text) ∙ entry_pieces entry in
    h entry fits (cc) (cc)
no_entry line word fields (Some entry) e h = tt
