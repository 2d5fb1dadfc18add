-- The words of names, in one list.
use Rattle.std.specs.Prelude.{◌≡◌, ℕ, ◌<◌, List, length, sum, take, slice_index, Option, Some, None, Ok, Err}
use Rattle.cap_word.specs.declared.traps.TrapKind.{TrapKind}
use Rattle.c_mean.specs.Layout.{rows_of}
use Rattle.c_mean.specs.Values.{Value}
use Rattle.source_items.specs.declared.rows.Rows.{Rows}

-- each name's words start after those of the names before it
pub record AreStarts (widths starts : List ℕ) : Type 0 where
  pub count : length starts ≡ length widths
  pub each : (x : ℕ) → x < length widths → slice_index starts x ≡ sum (take x widths)

-- and the number of words is the sum of their widths
pub record AreRows (widths starts words : List ℕ) : Type 0 where
  pub placed : AreStarts widths starts
  pub full : length words ≡ sum widths

abbrev pub IsRows : Rows → Type 0
IsRows rows = AreRows rows.widths.now rows.starts.now rows.words.now

-- the rows of the names
abbrev pub rows_in : Rows → List (List ℕ)
rows_in rows = rows_of rows.widths.now rows.words.now

-- a word, or, if there is none, the trap of an index out of range
abbrev pub or_index : Option ℕ → Value
or_index None = Err TrapKind.Index
or_index (Some word) = Ok word
