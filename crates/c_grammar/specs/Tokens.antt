-- The next token of a list of tokens, and the rest after it.
use Rattle.std.specs.Prelude.{ℕ, ◌≡◌, ◌≢◌, ◌≤◌, ◌⊎◌, List, [], ◌∷◌, Option, Some, None}
use Rattle.c_tree.specs.RawTrees.{NameTree}
use Rattle.c_lex.specs.declared.tokens.Token.{Token}
use Rattle.c_lex.specs.declared.tokens.TokenKind.{TokenKind}
use Rattle.c_lex.specs.declared.tokens.TokenKind.TheVariants as kinds
use Rattle.c_lex.specs.Places.{lexeme_of}
use Rattle.c_grammar.specs.declared.errors.ParseError.{ParseError}
use Rattle.c_grammar.specs.declared.errors.ParseError.TheVariants.{Unexpected, TooDeep}
use Rattle.c_grammar.specs.declared.signs.Sign.{Sign}
use Rattle.c_grammar.specs.declared.signs.Sign.TheVariants as signs
use Rattle.c_grammar.specs.Reading.{sign_at}

-- the class of the next token
abbrev pub next_sign : List Token → Sign
next_sign [] = signs.Finish
next_sign (token ∷ tokens) = sign_at token

abbrev pub next_kind : List Token → Option TokenKind
next_kind [] = None
next_kind (token ∷ tokens) = Some token.kind

-- the place of the next token, or the end of the source
abbrev pub next_place : ℕ → List Token → ℕ
next_place end [] = end
next_place end (token ∷ tokens) = token.at

-- the place of the next token, which exists
abbrev pub next_at : List Token → ℕ
next_at [] = 0
next_at (token ∷ tokens) = token.at

abbrev pub rest_of : List Token → List Token
rest_of [] = []
rest_of (token ∷ tokens) = tokens

-- the next token as a name: its place, and the bytes of the source there
abbrev pub next_name : List ℕ → List Token → NameTree
next_name source [] = record { at = 0; text = [] }
next_name source (token ∷ tokens) = record { at = token.at; text = lexeme_of source token }

-- the next token has this class, and the list after it is the rest
pub record Passes (sign : Sign) (before after : List Token) : Type 0 where
  pub is_next : next_sign before ≡ sign
  pub behind : after ≡ rest_of before

pub record PassesName (source : List ℕ) (before : List Token) (name : NameTree) (after : List Token) : Type 0 where
  pub passes : Passes signs.Name before after
  pub named : name ≡ next_name source before

pub record PassesNumber (before : List Token) (value : ℕ) (after : List Token) : Type 0 where
  pub is_next : next_kind before ≡ Some (kinds.Number value)
  pub behind : after ≡ rest_of before

-- why a token that opens a construct isn't taken: it is another one, or too many constructs are
-- open
abbrev pub IsNotOpened : ℕ → ℕ → Sign → List Token → ParseError → Type 0
IsNotOpened end depth sign before error =
    ((error ≡ Unexpected (next_place end before)) × (next_sign before ≢ sign)) ⊎ ((error ≡ TooDeep (next_place end before)) × (next_sign before ≡ sign) × (64 ≤ depth))
