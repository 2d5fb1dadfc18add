-- The first piece of a text, as the first step of lexical analysis returns it.
use Rattle.std.specs.Prelude.{ℕ, ◌<◌, ◌≤◌, List, length, take, drop}
use Rattle.c_lex.specs.declared.pieces.Piece.{Piece}
use Rattle.c_lex.specs.declared.pieces.Piece.TheVariants as pieces
use Rattle.c_lex.specs.declared.tokens.TokenKind.{TokenKind}
use Rattle.c_lex.specs.Gaps.{IsGap}
use Rattle.c_lex.specs.Lexemes.{IsTaken, IsOfKind}

-- the first bytes, of this number, are part of a gap
pub record IsFirstGap (text : List ℕ) (size : ℕ) : Type 0 where
  pub some : 0 < size
  pub within : size ≤ length text
  pub between : IsGap (take size text) (drop size text)

-- the first bytes, of this number, are a token of this kind
pub record IsFirstToken (text : List ℕ) (kind : TokenKind) (size : ℕ) : Type 0 where
  pub some : 0 < size
  pub within : size ≤ length text
  pub taken : IsTaken (take size text) (drop size text)
  pub of_kind : IsOfKind (take size text) kind

-- the text begins with this piece
abbrev pub IsFirstPiece : List ℕ → Piece → Type 0
IsFirstPiece text (pieces.Gap size) = IsFirstGap text size
IsFirstPiece text (pieces.Token kind size) = IsFirstToken text kind size
