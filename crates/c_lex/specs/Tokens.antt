-- The tokens of a source, and the place where no token begins.
use Rattle.std.specs.Prelude.{ℕ, ◌≡◌, ◌+◌, ◌<◌, ◌^◌, List, [], ◌∷◌, ◌++◌, length, codes, IsTrue}
use Rattle.std.specs.Char.{is_ascii_digit}
use Rattle.c_lex.specs.declared.marks.Mark.{Mark}
use Rattle.c_lex.specs.declared.tokens.Token.{Token}
use Rattle.c_lex.specs.declared.tokens.LexError.{LexError}
use Rattle.c_lex.specs.declared.tokens.LexError.TheVariants.{BadByte, OpenComment, BadNumber, Memory}
use Rattle.c_lex.specs.Bytes.{is_white_space, is_word_byte}
use Rattle.c_lex.specs.Marks.{mark_text, BeginsWith}
use Rattle.c_lex.specs.Numbers.{IsNumber}
use Rattle.c_lex.specs.Gaps.{Lacks, IsGap}
use Rattle.c_lex.specs.Lexemes.{IsTaken, IsOfKind}

-- The text at place `at` is a gap, the token, and the rest after it.
pub record BeginsWithToken (at : ℕ) (text : List ℕ) (token : Token) (after : List ℕ) : Type 0 where
  pub gap : List ℕ
  pub lexeme : List ℕ
  pub split : text ≡ gap ++ (lexeme ++ after)
  pub between : IsGap gap (lexeme ++ after)
  pub taken : IsTaken lexeme after
  pub kind : IsOfKind lexeme token.kind
  pub place : token.at ≡ at + length gap
  pub extent : token.length ≡ length lexeme

-- The text at place `at` is a gap, and a rest at place `stop`.
pub record IsGapBefore (at : ℕ) (text : List ℕ) (stop : ℕ) (rest : List ℕ) : Type 0 where
  pub gap : List ℕ
  pub split : text ≡ gap ++ rest
  pub between : IsGap gap rest
  pub place : stop ≡ at + length gap

-- The text at place `at` is the tokens with a gap before each, a gap, and a rest at place `stop`.
abbrev pub LeadsTo : ℕ → List ℕ → List Token → ℕ → List ℕ → Type 0
LeadsTo at text [] stop rest = IsGapBefore at text stop rest
LeadsTo at text (token ∷ tokens) stop rest =
    (after : List ℕ) × BeginsWithToken at text token after × LeadsTo (token.at + token.length) after tokens stop rest

-- The tokens of a source: after them nothing but a gap is left.
abbrev pub AreTokensOf : List ℕ → List Token → Type 0
AreTokensOf source tokens = (stop : ℕ) × LeadsTo 0 source tokens stop []

-- a byte that begins no gap, no word and no mark
abbrev pub BeginsWithBadByte : List ℕ → Type 0
BeginsWithBadByte [] = ⊥
BeginsWithBadByte (byte ∷ rest) =
    (¬ IsTrue (is_white_space byte)) × (¬ IsTrue (is_word_byte byte)) × ((mark : Mark) → ¬ BeginsWith (byte ∷ rest) (mark_text mark))

-- `/*` without a `*/` after it
abbrev pub IsOpenComment : List ℕ → Type 0
IsOpenComment rest = (body : List ℕ) × (rest ≡ codes "/*" ++ body) × Lacks body (codes "*/")

-- a lexeme that begins with a digit and isn't a number below 2 ^ 32
pub record BeginsWithBadNumber (rest : List ℕ) : Type 0 where
  pub first : ℕ
  pub others : List ℕ
  pub after : List ℕ
  pub split : rest ≡ (first ∷ others) ++ after
  pub digit : IsTrue (is_ascii_digit first)
  pub taken : IsTaken (first ∷ others) after
  pub no_number : (value : ℕ) → value < 2 ^ 32 → ¬ IsNumber (first ∷ others) value

-- why no token begins at place `stop`, where the rest is
abbrev pub BeginsNone : ℕ → List ℕ → LexError → Type 0
BeginsNone stop rest (BadByte at) = (at ≡ stop) × BeginsWithBadByte rest
BeginsNone stop rest (OpenComment at) = (at ≡ stop) × IsOpenComment rest
BeginsNone stop rest (BadNumber at) = (at ≡ stop) × BeginsWithBadNumber rest
BeginsNone stop rest Memory = ⊥

-- The refusal of a source: tokens and gaps lead to a place where no token begins.
pub record IsLexErrorOf (source : List ℕ) (error : LexError) : Type 0 where
  pub tokens : List Token
  pub stop : ℕ
  pub rest : List ℕ
  pub leads : LeadsTo 0 source tokens stop rest
  pub none : BeginsNone stop rest error
