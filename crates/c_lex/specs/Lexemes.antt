-- What is taken as one lexeme where a token begins, and which token it is.
use Rattle.std.specs.Prelude.{ℕ, ◌≡◌, ◌≢◌, ◌<◌, ◌^◌, ◌⊎◌, List, [], ◌∷◌, ◌++◌, codes, IsTrue}
use Rattle.std.specs.List.{AllByRecursion}
use Rattle.c_lex.specs.declared.keywords.Keyword.{Keyword}
use Rattle.c_lex.specs.declared.marks.Mark.{Mark}
use Rattle.c_lex.specs.declared.tokens.TokenKind.{TokenKind}
use Rattle.c_lex.specs.declared.tokens.TokenKind.TheVariants as kinds
use Rattle.c_lex.specs.Bytes.{is_letter, is_word_byte}
use Rattle.c_lex.specs.Keywords.{keyword_text}
use Rattle.c_lex.specs.Marks.{mark_text, BeginsWith}
use Rattle.c_lex.specs.Numbers.{IsNumber}

-- letters, digits and `_`
abbrev pub AllWordBytes : List ℕ → Type 0
AllWordBytes bytes = AllByRecursion (λ byte. IsTrue (is_word_byte byte)) bytes

-- one or more letters, digits and `_`
abbrev pub IsWord : List ℕ → Type 0
IsWord [] = ⊥
IsWord (first ∷ rest) = AllWordBytes (first ∷ rest)

-- a word that doesn't begin with a digit
abbrev pub IsIdentifier : List ℕ → Type 0
IsIdentifier [] = ⊥
IsIdentifier (first ∷ rest) = IsTrue (is_letter first) × AllWordBytes rest

-- a lexeme: a word, even one that begins with a digit, or a mark
abbrev pub IsLexeme : List ℕ → Type 0
IsLexeme text = IsWord text ⊎ ((mark : Mark) × (text ≡ mark_text mark))

-- the text begins with a comment
abbrev pub BeginsComment : List ℕ → Type 0
BeginsComment text = BeginsWith text (codes "//") ⊎ BeginsWith text (codes "/*")

-- If the text continues with `lexeme ++ after`, the lexeme is taken: no longer one begins there, and no comment.
pub record IsTaken (lexeme after : List ℕ) : Type 0 where
  pub whole : IsLexeme lexeme
  pub longest : (more rest : List ℕ) → after ≡ more ++ rest → IsLexeme (lexeme ++ more) → more ≡ []
  pub no_comment : ¬ BeginsComment (lexeme ++ after)

-- the token that a lexeme is
abbrev pub IsOfKind : List ℕ → TokenKind → Type 0
IsOfKind lexeme kinds.Name = IsIdentifier lexeme × ((keyword : Keyword) → lexeme ≢ keyword_text keyword)
IsOfKind lexeme (kinds.Number value) = IsNumber lexeme value × (value < 2 ^ 32)
IsOfKind lexeme (kinds.Keyword keyword) = lexeme ≡ keyword_text keyword
IsOfKind lexeme (kinds.Mark mark) = lexeme ≡ mark_text mark
