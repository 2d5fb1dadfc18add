-- The spelling of marks.
use Rattle.std.specs.Prelude.{ℕ, ◌≡◌, List, ◌++◌, codes}
use Rattle.c_lex.specs.declared.marks.Mark.{Mark}
use Rattle.c_lex.specs.declared.marks.Mark.TheVariants as marks

-- the text begins with the pattern
abbrev pub BeginsWith : List ℕ → List ℕ → Type 0
BeginsWith text pattern = (after : List ℕ) × (text ≡ pattern ++ after)

-- a mark's spelling
abbrev pub mark_text : Mark → List ℕ
mark_text marks.ShiftLeftAssign = codes "<<="
mark_text marks.ShiftRightAssign = codes ">>="
mark_text marks.Equal = codes "=="
mark_text marks.NotEqual = codes "!="
mark_text marks.LessEqual = codes "<="
mark_text marks.GreaterEqual = codes ">="
mark_text marks.ShiftLeft = codes "<<"
mark_text marks.ShiftRight = codes ">>"
mark_text marks.AndAnd = codes "&&"
mark_text marks.OrOr = codes "||"
mark_text marks.PlusPlus = codes "++"
mark_text marks.MinusMinus = codes "--"
mark_text marks.PlusAssign = codes "+="
mark_text marks.MinusAssign = codes "-="
mark_text marks.StarAssign = codes "*="
mark_text marks.SlashAssign = codes "/="
mark_text marks.PercentAssign = codes "%="
mark_text marks.AmpersandAssign = codes "&="
mark_text marks.BarAssign = codes "|="
mark_text marks.CaretAssign = codes "^="
mark_text marks.Arrow = codes "->"
mark_text marks.LeftParenthesis = codes "("
mark_text marks.RightParenthesis = codes ")"
mark_text marks.LeftBracket = codes "["
mark_text marks.RightBracket = codes "]"
mark_text marks.LeftBrace = codes "{"
mark_text marks.RightBrace = codes "}"
mark_text marks.Comma = codes ","
mark_text marks.Semicolon = codes ";"
mark_text marks.Question = codes "?"
mark_text marks.Colon = codes ":"
mark_text marks.Assign = codes "="
mark_text marks.Less = codes "<"
mark_text marks.Greater = codes ">"
mark_text marks.Plus = codes "+"
mark_text marks.Minus = codes "-"
mark_text marks.Star = codes "*"
mark_text marks.Slash = codes "/"
mark_text marks.Percent = codes "%"
mark_text marks.Ampersand = codes "&"
mark_text marks.Bar = codes "|"
mark_text marks.Caret = codes "^"
mark_text marks.Tilde = codes "~"
mark_text marks.Exclamation = codes "!"
