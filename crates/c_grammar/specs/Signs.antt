-- The classes of tokens in the grammar.
use Rattle.c_lex.specs.declared.keywords.Keyword.{Keyword}
use Rattle.c_lex.specs.declared.keywords.Keyword.TheVariants as keywords
use Rattle.c_lex.specs.declared.marks.Mark.{Mark}
use Rattle.c_lex.specs.declared.marks.Mark.TheVariants as marks
use Rattle.c_lex.specs.declared.tokens.TokenKind.{TokenKind}
use Rattle.c_lex.specs.declared.tokens.TokenKind.TheVariants as kinds
use Rattle.c_grammar.specs.declared.signs.Sign.{Sign}
use Rattle.c_grammar.specs.declared.signs.Sign.TheVariants as signs

-- the levels of binary operators, from `* / %`, the tightest, on
pub data Level : Type 0 where
  Tightest : Level
  Looser : Level → Level

abbrev pub Loosest : Level
Loosest = Looser (Looser (Looser (Looser (Looser (Looser (Looser (Looser (Looser Tightest))))))))

abbrev pub sign_of_keyword : Keyword → Sign
sign_of_keyword keywords.Int = signs.Int
sign_of_keyword keywords.Void = signs.Void
sign_of_keyword keywords.If = signs.If
sign_of_keyword keywords.Else = signs.Else
sign_of_keyword keywords.While = signs.While
sign_of_keyword keywords.For = signs.For
sign_of_keyword keywords.Break = signs.Break
sign_of_keyword keywords.Continue = signs.Continue
sign_of_keyword keywords.Return = signs.Return
sign_of_keyword _ = signs.Unused

abbrev pub sign_of_mark : Mark → Sign
sign_of_mark marks.LeftParenthesis = signs.LeftParenthesis
sign_of_mark marks.RightParenthesis = signs.RightParenthesis
sign_of_mark marks.LeftBracket = signs.LeftBracket
sign_of_mark marks.RightBracket = signs.RightBracket
sign_of_mark marks.LeftBrace = signs.LeftBrace
sign_of_mark marks.RightBrace = signs.RightBrace
sign_of_mark marks.Comma = signs.Comma
sign_of_mark marks.Semicolon = signs.Semicolon
sign_of_mark marks.Question = signs.Question
sign_of_mark marks.Colon = signs.Colon
sign_of_mark marks.Assign = signs.Assign
sign_of_mark marks.Plus = signs.Plus
sign_of_mark marks.Minus = signs.Minus
sign_of_mark marks.Star = signs.Star
sign_of_mark marks.Exclamation = signs.Prefix
sign_of_mark marks.Tilde = signs.Prefix
sign_of_mark marks.Slash = signs.Multiplicative
sign_of_mark marks.Percent = signs.Multiplicative
sign_of_mark marks.ShiftLeft = signs.Shift
sign_of_mark marks.ShiftRight = signs.Shift
sign_of_mark marks.Less = signs.Relational
sign_of_mark marks.LessEqual = signs.Relational
sign_of_mark marks.Greater = signs.Relational
sign_of_mark marks.GreaterEqual = signs.Relational
sign_of_mark marks.Equal = signs.Equality
sign_of_mark marks.NotEqual = signs.Equality
sign_of_mark marks.Ampersand = signs.BitAnd
sign_of_mark marks.Caret = signs.BitXor
sign_of_mark marks.Bar = signs.BitOr
sign_of_mark marks.AndAnd = signs.LogicalAnd
sign_of_mark marks.OrOr = signs.LogicalOr
sign_of_mark _ = signs.Unused

abbrev pub sign_of_token : TokenKind → Sign
sign_of_token kinds.Name = signs.Name
sign_of_token (kinds.Number value) = signs.Number
sign_of_token (kinds.Keyword keyword) = sign_of_keyword keyword
sign_of_token (kinds.Mark mark) = sign_of_mark mark

-- a binary operator of this level
pub data IsOperator : Level → Sign → Type 0 where
  star : IsOperator Tightest signs.Star
  multiplicative : IsOperator Tightest signs.Multiplicative
  plus : IsOperator (Looser Tightest) signs.Plus
  minus : IsOperator (Looser Tightest) signs.Minus
  shift : IsOperator (Looser (Looser Tightest)) signs.Shift
  relational : IsOperator (Looser (Looser (Looser Tightest))) signs.Relational
  equality : IsOperator (Looser (Looser (Looser (Looser Tightest)))) signs.Equality
  bit_and : IsOperator (Looser (Looser (Looser (Looser (Looser Tightest))))) signs.BitAnd
  bit_xor : IsOperator (Looser (Looser (Looser (Looser (Looser (Looser Tightest)))))) signs.BitXor
  bit_or : IsOperator (Looser (Looser (Looser (Looser (Looser (Looser (Looser Tightest))))))) signs.BitOr
  logical_and : IsOperator (Looser (Looser (Looser (Looser (Looser (Looser (Looser (Looser Tightest)))))))) signs.LogicalAnd
  logical_or : IsOperator (Looser (Looser (Looser (Looser (Looser (Looser (Looser (Looser (Looser Tightest))))))))) signs.LogicalOr

-- an operator before its operand
pub data IsPrefix : Sign → Type 0 where
  plus : IsPrefix signs.Plus
  minus : IsPrefix signs.Minus
  prefix_sign : IsPrefix signs.Prefix
