-- What a failed run has put of its log, and what wasn't written.
use Rattle.std.specs.Prelude.{ℕ, ◌≡◌, ◌+◌, ◌≤◌, List, [], ◌∷◌, ◌++◌, length}
use Rattle.schedule_log.specs.EntryText.{entry_text, log_text}
use Rattle.schedule_log.specs.declared.entries.Entry.{Entry}

-- the length of the last line, with its line feed
unfoldable pub last_line : List Entry → ℕ
last_line [] = 0
last_line (entry ∷ []) = length (entry_text entry) + 1
last_line (_ ∷ entry ∷ entries) = last_line (entry ∷ entries)

-- given a log of the entries that were done and the others: what was written and what was held back is together the
-- text of the entries done and some more, and what was held back is at most the 4,096 bytes of the buffer and one line
pub record HeldBack (done rest : List Entry) (written : List ℕ) : Type 0 where
  pub more : List Entry
  pub later : List Entry
  pub rest_is : rest ≡ more ++ later
  pub held : List ℕ
  pub text : written ++ held ≡ log_text (done ++ more)
  pub most : length held ≤ 4096 + last_line (done ++ more)
