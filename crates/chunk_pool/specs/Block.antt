-- What the owner of a block's words owns, and what it lends.
use Rattle.std.specs.Prelude.{ℕ, ◌+◌, ◌*◌, ◌^◌, List, length}
use base.Fraction.{full_share}
use base.Fml.{Lft, Fml, ffalse, fsep, flt, froom}
use mir.Syntax.{Ty, ty_array, ty_int, w32}
use denote.RawPtr.{Ptr, block_ptr, null_ptr}
use denote.Builtin.{u32}
use denote.Index.{row}
use denote.Slice.{elements_shared}
use denote.Sharing.{said, beside}

-- a number of words side by side
abbrev pub words_type : ℕ → Ty
words_type n = ty_array (ty_int w32) n

-- these words and the room for further ones take fewer than 2 ^ 63 bytes
abbrev pub fit : List ℕ → ℕ → Fml
fit items spare = flt ((length items + spare) * 4) (2 ^ 63)

-- the words from the pointer on, followed by room for a number of further words
abbrev pub words_own : Ptr → List ℕ → ℕ → Fml
words_own (block_ptr b o) items spare = fsep (fit items spare) (fsep (row u32 full_share items b o) (froom (words_type spare) b (length items * 4 + o)))
words_own null_ptr items spare = ffalse

-- what a `&` to them shows: the words
abbrev pub words_lent : Ptr → List ℕ → ℕ → Lft → Fml
words_lent (block_ptr b o) items spare = beside (said (fit items spare)) (elements_shared u32 items b o)
words_lent null_ptr items spare = said ffalse
