-- The table of marks: each mark has a place in it, and longer ones come first.
use Rattle.c_lex.proofs.Common.{ℕ, ◌≡◌, ◌<◌, ◌≤◌, refl, get_or, lit<, length, cond, ltb, eqb, true, false, sym, ap, ◌∙◌, arith, eqb-true, List, Option, Some, find, bytes_eq, agree_below_at, nat_tests, Mark, is_white_space, is_word_byte, mark_text}
use Rattle.c_lex.specs.declared.marks.Mark.TheVariants as marks
use Rattle.c_lex.specs.declared.marks.TheConstants.{MARKS}

-- the place of a mark in the table
abbrev pub mark_place : Mark → ℕ
mark_place marks.ShiftLeftAssign = 0
mark_place marks.ShiftRightAssign = 1
mark_place marks.Equal = 2
mark_place marks.NotEqual = 3
mark_place marks.LessEqual = 4
mark_place marks.GreaterEqual = 5
mark_place marks.ShiftLeft = 6
mark_place marks.ShiftRight = 7
mark_place marks.AndAnd = 8
mark_place marks.OrOr = 9
mark_place marks.PlusPlus = 10
mark_place marks.MinusMinus = 11
mark_place marks.PlusAssign = 12
mark_place marks.MinusAssign = 13
mark_place marks.StarAssign = 14
mark_place marks.SlashAssign = 15
mark_place marks.PercentAssign = 16
mark_place marks.AmpersandAssign = 17
mark_place marks.BarAssign = 18
mark_place marks.CaretAssign = 19
mark_place marks.Arrow = 20
mark_place marks.LeftParenthesis = 21
mark_place marks.RightParenthesis = 22
mark_place marks.LeftBracket = 23
mark_place marks.RightBracket = 24
mark_place marks.LeftBrace = 25
mark_place marks.RightBrace = 26
mark_place marks.Comma = 27
mark_place marks.Semicolon = 28
mark_place marks.Question = 29
mark_place marks.Colon = 30
mark_place marks.Assign = 31
mark_place marks.Less = 32
mark_place marks.Greater = 33
mark_place marks.Plus = 34
mark_place marks.Minus = 35
mark_place marks.Star = 36
mark_place marks.Slash = 37
mark_place marks.Percent = 38
mark_place marks.Ampersand = 39
mark_place marks.Bar = 40
mark_place marks.Caret = 41
mark_place marks.Tilde = 42
mark_place marks.Exclamation = 43

pub mark_at_place : (mark : Mark) → get_or MARKS (mark_place mark) marks.ShiftLeftAssign ≡ mark
mark_at_place marks.ShiftLeftAssign = refl
mark_at_place _ = refl

pub mark_place-lt : (mark : Mark) → mark_place mark < 44
mark_place-lt marks.ShiftLeftAssign = lit< tt
mark_place-lt _ = lit< tt

-- how long the mark at a place is
abbrev pub length_at : ℕ → ℕ
length_at place = cond (ltb place 2) 3 (cond (ltb place 21) 2 1)

pub length-mark_text : (mark : Mark) → length (mark_text mark) ≡ length_at (mark_place mark)
length-mark_text marks.ShiftLeftAssign = refl
length-mark_text _ = refl

-- the place of the mark at a place
place_of_place : (place : ℕ) → place < 44 → mark_place (get_or MARKS place marks.ShiftLeftAssign) ≡ place
place_of_place place in_table = eqb-true _ _ (sym (agree_below_at (λ _. true) (λ k. eqb (mark_place (get_or MARKS k marks.ShiftLeftAssign)) k) 44 place refl in_table))

-- an earlier mark is at least as long
pub length_falls : (place : ℕ) (mark : Mark) → place < 44 → place ≤ mark_place mark → length (mark_text mark) ≤ length (mark_text (get_or MARKS place marks.ShiftLeftAssign))
length_falls place mark in_table later =
    let earlier = length-mark_text (get_or MARKS place marks.ShiftLeftAssign) in
    let other = length-mark_text mark in
    let same = place_of_place place in_table in
    grind (arith, nat_tests)

-- a mark has a first byte, which begins no word and is no white space
pub mark_text-some : (mark : Mark) → 0 < length (mark_text mark)
mark_text-some marks.ShiftLeftAssign = lit< tt
mark_text-some _ = lit< tt

pub mark_no_word : (mark : Mark) → is_word_byte (get_or (mark_text mark) 0 0) ≡ false
mark_no_word marks.ShiftLeftAssign = refl
mark_no_word _ = refl

pub mark_no_space : (mark : Mark) → is_white_space (get_or (mark_text mark) 0 0) ≡ false
mark_no_space marks.ShiftLeftAssign = refl
mark_no_space _ = refl

-- which mark is written so
mark_written : List ℕ → Option Mark
mark_written text = find (λ mark. bytes_eq (mark_text mark) text) MARKS

mark_written_text : (mark : Mark) → mark_written (mark_text mark) ≡ Some mark
unfolding mark_written
mark_written_text marks.ShiftLeftAssign = refl
mark_written_text _ = refl

-- no two are written alike
pub mark_text-injective : (a b : Mark) → mark_text a ≡ mark_text b → a ≡ b
mark_text-injective a b same =
    let found : Some a ≡ Some b = sym (mark_written_text a) ∙ ap mark_written same ∙ mark_written_text b in
    cc
