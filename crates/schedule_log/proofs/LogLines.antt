-- The lines of a log.
use Rattle.schedule_log.proofs.Common.{◌≡◌, List, [], ◌∷◌, ◌++◌, map, refl, ap, ◌∙◌, arith, AllByRecursion, flat_map, Lacks, visible_lacks, all_lack, lacks-append, lacks_after_each, Entry, entry_word, entry_fields, entry_text, log_text}
use Rattle.cap_text.specs.TextLines.{lines_of, ended_lines}
use Rattle.cap_text.proofs.LineLaws.{ended_lines_back}
use Rattle.schedule_log.proofs.EntryPieces.{entry_visible}

pub no_line_feed : (entry : Entry) → Lacks 10 (entry_text entry)
unfolding entry_text
no_line_feed entry =
    let visible = entry_visible entry in
    lacks-append 10 (entry_word entry) _ (visible_lacks 10 _ (omega arith) visible.0) (lacks_after_each 32 10 (entry_fields entry) refl (all_lack 10 _ (omega arith) visible.1))

all_texts : (entries : List Entry) → AllByRecursion (Lacks 10) (map entry_text entries)
all_texts [] = tt
all_texts (entry ∷ entries) = (no_line_feed entry, all_texts entries)

ended : (entries : List Entry) → flat_map (λ entry. entry_text entry ++ 10 ∷ []) entries ≡ ended_lines (map entry_text entries)
ended [] = refl
ended (entry ∷ entries) = ap (λ x. (entry_text entry ++ 10 ∷ []) ++ x) (ended entries)

pub log_lines : (entries : List Entry) → lines_of (log_text entries) ≡ map entry_text entries
unfolding log_text
log_lines entries = ap lines_of (ended entries) ∙ ended_lines_back (map entry_text entries) (all_texts entries)
