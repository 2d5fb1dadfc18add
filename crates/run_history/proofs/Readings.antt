-- What is gathered from the lines of a log so far is gathered from its entries so far.
use Rattle.run_history.proofs.Common.{◌≡◌, ◌∙◌, ℕ, List, [], ◌∷◌, ◌++◌, map, ap, sym, refl, subst, append_assoc, append-nil, map-append, lines_of, Entry}
use Rattle.std.specs.List.{AllByRecursion}
use Rattle.schedule_log.specs.EntryRanges.{FitsEntry, IsLogLine}
use Rattle.schedule_log.specs.EntryText.{entry_text, log_text}
use Rattle.schedule_log.proofs.EntryUnique.{text_unique}
use Rattle.schedule_log.proofs.LogLines.{log_lines}

-- the lines before those that are left are the texts of entries, and this holds of them
abbrev pub IsReading : List ℕ → List (List ℕ) → (List Entry → Type 0) → Type 0
IsReading log left holds = (before : List Entry) × AllByRecursion FitsEntry before × (lines_of log ≡ map entry_text before ++ left) × holds before

pub reading-starts : (log : List ℕ) (holds : List Entry → Type 0) → holds [] → IsReading log (lines_of log) holds
reading-starts log holds none = ([], tt, refl, none)

all-more : (entries : List Entry) (entry : Entry) → AllByRecursion FitsEntry entries → FitsEntry entry → AllByRecursion FitsEntry (entries ++ entry ∷ [])
all-more [] entry all fits = (fits, tt)
all-more (first ∷ entries) entry all fits = (all.0, all-more entries entry all.1 fits)

-- one line more is the text of one entry more
pub reading-goes-on : (log line : List ℕ) (left left' : List (List ℕ)) (holds holds' : List Entry → Type 0) (entry : Entry) →
    IsReading log left holds → left ≡ line ∷ left' → FitsEntry entry → entry_text entry ≡ line →
    ((before : List Entry) → holds before → holds' (before ++ entry ∷ [])) → IsReading log left' holds'
reading-goes-on log line left left' holds holds' entry h goes fits text add =
    let first : left ≡ entry_text entry ∷ left' = goes ∙ ap (λ l. l ∷ left') (sym text) in
    let texts : map entry_text (h.0 ++ entry ∷ []) ≡ map entry_text h.0 ++ entry_text entry ∷ [] = map-append entry_text h.0 (entry ∷ []) in
    let lines : lines_of log ≡ map entry_text (h.0 ++ entry ∷ []) ++ left' =
    h.2 ∙ ap (λ l. map entry_text h.0 ++ l) first ∙ sym (append_assoc (map entry_text h.0) (entry_text entry ∷ []) left') ∙ ap (λ l. l ++ left') (sym texts) in
    (h.0 ++ entry ∷ [], all-more h.0 entry h.1 fits, lines, add h.0 h.3)

same-entries : (xs ys : List Entry) → AllByRecursion FitsEntry xs → AllByRecursion FitsEntry ys → map entry_text xs ≡ map entry_text ys → xs ≡ ys
same-entries [] [] p q e = refl
same-entries (x ∷ xs) (y ∷ ys) p q e =
    let first : entry_text x ≡ entry_text y = cc in
    let others : map entry_text xs ≡ map entry_text ys = cc in
    let one = text_unique x y p.0 q.0 first in
    let rest = same-entries xs ys p.1 q.1 others in
    (λ i. one i ∷ rest i)
same-entries _ _ p q e = absurd (cc)

-- the entries that were read
pub reading-log : (log : List ℕ) (left : List (List ℕ)) (holds : List Entry → Type 0) → IsReading log left holds → left ≡ [] →
    (entries : List Entry) × AllByRecursion FitsEntry entries × (lines_of log ≡ map entry_text entries)
reading-log log left holds h over = (h.0, h.1, h.2 ∙ ap (λ l. map entry_text h.0 ++ l) over ∙ append-nil (map entry_text h.0))

-- they are those of the log
pub reading-is : (log : List ℕ) (left : List (List ℕ)) (holds : List Entry → Type 0) → IsReading log left holds → left ≡ [] →
    (entries : List Entry) → AllByRecursion FitsEntry entries → log ≡ log_text entries → holds entries
reading-is log left holds h over entries fits is =
    let lines : lines_of log ≡ map entry_text h.0 = h.2 ∙ ap (λ l. map entry_text h.0 ++ l) over ∙ append-nil (map entry_text h.0) in
    subst holds (same-entries h.0 entries h.1 fits (sym lines ∙ ap lines_of is ∙ log_lines entries)) h.3

no-line : (line : List ℕ) (left : List (List ℕ)) (before entries : List Entry) → AllByRecursion FitsEntry entries → (IsLogLine line → ⊥) → map entry_text before ++ line ∷ left ≡ map entry_text entries → ⊥
no-line line left [] [] fits none e = cc
no-line line left [] (y ∷ entries) fits none e = let first : line ≡ entry_text y = cc in none (y, fits.0, sym first)
no-line line left (x ∷ before) [] fits none e = cc
no-line line left (x ∷ before) (y ∷ entries) fits none e =
    let others : map entry_text before ++ line ∷ left ≡ map entry_text entries = cc in no-line line left before entries fits.1 none others

-- a line that is no entry's stands in no log of entries
pub reading-refuses : (log line : List ℕ) (left left' : List (List ℕ)) (holds : List Entry → Type 0) → IsReading log left holds → left ≡ line ∷ left' → (IsLogLine line → ⊥) →
    (entries : List Entry) → AllByRecursion FitsEntry entries → log ≡ log_text entries → ⊥
reading-refuses log line left left' holds h goes none entries fits is =
    no-line line left' h.0 entries fits none (ap (λ l. map entry_text h.0 ++ l) (sym goes) ∙ sym h.2 ∙ ap lines_of is ∙ log_lines entries)

-- and stands behind the entries that were read
pub reading-stops : (log line : List ℕ) (left left' : List (List ℕ)) (holds : List Entry → Type 0) → IsReading log left holds → left ≡ line ∷ left' → (IsLogLine line → ⊥) →
    (before : List Entry) × (line : List ℕ) × (left : List (List ℕ)) × AllByRecursion FitsEntry before × (lines_of log ≡ map entry_text before ++ line ∷ left) × (IsLogLine line → ⊥)
reading-stops log line left left' holds h goes none = (h.0, line, left', h.1, h.2 ∙ ap (λ l. map entry_text h.0 ++ l) goes, none)
