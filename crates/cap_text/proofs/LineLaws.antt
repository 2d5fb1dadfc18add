-- The laws of the lines of a text.
use Rattle.cap_text.proofs.Common.{◌≡◌, ℕ, ◌+◌, ◌<◌, Bool, true, false, cond, List, [], ◌∷◌, ◌++◌, length, take, drop, refl, ap, sym, ◌∙◌, arith, All, ◌==◌, Option, Some, None, append_assoc, slice_split, position, position_or_len, before_first, after_first, slice_split_none, slice_split_at, slice_split_first, length-slice_split, fails_before_first, ne_eqb, AllByRecursion, Lacks, lines_of, without_empty_last, ended_lines}
use Rattle.cap_text.proofs.PieceLaws.{all_by}
use Rattle.cap_text.proofs.PieceSteps.{found, lost}

abbrev pub is_line_feed : ℕ → Bool
is_line_feed byte = byte == 10

-- a piece that is followed by others is a line
not_last : (piece : List ℕ) (more : List (List ℕ)) → 0 < length more → without_empty_last (piece ∷ more) ≡ piece ∷ without_empty_last more
not_last piece [] h = absurd (omega arith)
not_last piece (next ∷ more) h = refl

last_piece : (piece : List ℕ) → 0 < length piece → without_empty_last (piece ∷ []) ≡ piece ∷ []
last_piece piece h = ap (λ t. cond t [] (piece ∷ [])) (ne_eqb (length piece) 0 (λ e. omega arith))

some_piece : (bytes : List ℕ) → 0 < length (slice_split is_line_feed bytes)
some_piece bytes = omega (arith, length-slice_split is_line_feed bytes)

pub no_lines : lines_of [] ≡ []
unfolding lines_of
no_lines = refl

-- a line, its line feed, and the lines after it
pub first_line : (line rest : List ℕ) → All (λ byte. is_line_feed byte ≡ false) line → lines_of (line ++ 10 ∷ rest) ≡ line ∷ lines_of rest
unfolding lines_of
first_line line rest none = ap without_empty_last (slice_split_at is_line_feed line 10 rest none refl) ∙ not_last line (slice_split is_line_feed rest) (some_piece rest)

-- a last line without a line feed
pub last_line : (line : List ℕ) → All (λ byte. is_line_feed byte ≡ false) line → 0 < length line → lines_of line ≡ line ∷ []
unfolding lines_of
last_line line none some = ap without_empty_last (slice_split_none is_line_feed line none) ∙ last_piece line some

-- lines, a line feed after each
pub ended_lines_back : (lines : List (List ℕ)) → AllByRecursion (Lacks 10) lines → lines_of (ended_lines lines) ≡ lines
ended_lines_back [] h = no_lines
ended_lines_back (line ∷ lines) h =
    ap lines_of (append_assoc line (10 ∷ []) (ended_lines lines))
    ∙ first_line line (ended_lines lines) (all_by (λ byte. is_line_feed byte ≡ false) line h.0)
    ∙ ap (λ x. line ∷ x) (ended_lines_back lines h.1)

-- the same, by the first line feed

at_first : (bytes : List ℕ) → position_or_len is_line_feed bytes < length bytes → lines_of bytes ≡ before_first is_line_feed bytes ∷ lines_of (after_first is_line_feed bytes)
unfolding lines_of
at_first bytes h = ap without_empty_last (slice_split_first is_line_feed bytes 0 h) ∙ not_last _ (slice_split is_line_feed (after_first is_line_feed bytes)) (some_piece (after_first is_line_feed bytes))

abbrev nothing : Option ℕ
nothing = None

pub line_at : (bytes : List ℕ) (at : ℕ) → Some at ≡ position is_line_feed bytes → (at < length bytes) × (lines_of bytes ≡ take at bytes ∷ lines_of (drop (at + 1) bytes))
line_at bytes at e =
    let place = found (position_or_len is_line_feed bytes) (length bytes) at e in
    rw place.1 (place.0, at_first bytes place.0)

pub line_to_end : (bytes : List ℕ) → None ≡ position is_line_feed bytes → 0 < length bytes → lines_of bytes ≡ bytes ∷ lines_of []
line_to_end bytes e some =
    let none = lost (position_or_len is_line_feed bytes) (length bytes) e in
    last_line bytes (λ k d l. fails_before_first is_line_feed bytes k d (omega arith)) some ∙ ap (λ x. bytes ∷ x) (sym no_lines)

pub none_left : (bytes : List ℕ) → true ≡ (length bytes == 0) → lines_of bytes ≡ []
none_left [] e = no_lines
none_left (c ∷ cs) e = let t : (length (c ∷ cs) == 0) ≡ false = ne_eqb (length (c ∷ cs)) 0 (λ z. omega arith) in absurd (cc)

pub some_left : (bytes : List ℕ) → false ≡ (length bytes == 0) → 0 < length bytes
some_left [] e = absurd (cc)
some_left (c ∷ cs) e = omega arith

pub fewer : (s t : List (List ℕ)) (line : List ℕ) → s ≡ line ∷ t → length t < length s
fewer s t line e = omega (arith, ap length e)
