-- The places of tokens in their source.
use Rattle.std.specs.Prelude.{ℕ, ◌+◌, ◌<◌, ◌≤◌, List, [], ◌∷◌, take, drop}
use Rattle.c_lex.specs.declared.tokens.Token.{Token}

-- the bytes of the source at a token's place
abbrev pub lexeme_of : List ℕ → Token → List ℕ
lexeme_of source token = take token.length (drop token.at source)

-- from place `start` to place `end` the tokens follow one another, each with at least one byte
abbrev pub StandInOrder : ℕ → List Token → ℕ → Type 0
StandInOrder start [] end = start ≤ end
StandInOrder start (token ∷ tokens) end = (start ≤ token.at) × (0 < token.length) × StandInOrder (token.at + token.length) tokens end
