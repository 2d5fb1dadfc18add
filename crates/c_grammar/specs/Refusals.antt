-- Where the tokens of a source are refused.
use Rattle.std.specs.Prelude.{ℕ, ◌≡◌, ◌<◌, ◌⊎◌, List, [], ◌∷◌, ◌++◌, Option, Some, None}
use Rattle.c_grammar.specs.declared.errors.ParseError.{ParseError}
use Rattle.c_grammar.specs.declared.errors.ParseError.TheVariants.{Unexpected, TooDeep, NestedCall, Memory}
use Rattle.c_lex.specs.declared.tokens.Token.{Token}
use Rattle.c_grammar.specs.Rests.{Symbol, Program, Way, Any, Nearest, TakesAll, CanBeNothing, open_in}
use Rattle.c_grammar.specs.Reading.{signs_of}

-- the tokens can be taken one after another, leaving this rest
abbrev pub Leave : Way → List Token → List Symbol → Type 0
Leave way tokens rest = TakesAll way (Program ∷ []) (signs_of tokens) rest

-- the tokens can be taken one after another in some way
abbrev pub CanBeTaken : List Token → Type 0
CanBeTaken tokens = (rest : List Symbol) × Leave Any tokens rest

-- the tokens can be taken one after another in one of these ways
abbrev pub IsLeft : Way → List Token → Type 0
IsLeft way tokens = (rest : List Symbol) × Leave way tokens rest

-- the tokens can be taken as a whole: they leave a rest that can be empty
abbrev pub AreWhole : Way → List Token → Type 0
AreWhole way tokens = (rest : List Symbol) × Leave way tokens rest × CanBeNothing rest

-- at the last of the tokens more than 64 constructs are open, if each else belongs to the nearest if that can take it
abbrev pub IsDeep : List Token → Type 0
IsDeep tokens = (rest : List Symbol) × Leave Nearest tokens rest × (64 < open_in rest)

-- none of the tokens, from the first on, is too deep
abbrev pub IsShallow : List Token → Type 0
IsShallow tokens = (front back : List Token) → tokens ≡ front ++ back → IsDeep front → ⊥

-- the tokens before can be taken, but not followed by this one
pub record IsUnexpectedToken (tokens : List Token) (at : ℕ) : Type 0 where
  pub before : List Token
  pub token : Token
  pub after : List Token
  pub split : tokens ≡ before ++ (token ∷ after)
  pub place : at ≡ token.at
  pub taken : CanBeTaken before
  pub not_with_it : CanBeTaken (before ++ (token ∷ [])) → ⊥
  pub not_too_deep : IsShallow before

-- all tokens can be taken, but every rest that they leave needs another token
pub record IsUnexpectedEnd (end : ℕ) (tokens : List Token) (at : ℕ) : Type 0 where
  pub place : at ≡ end
  pub taken : CanBeTaken tokens
  pub unfinished : (rest : List Symbol) → Leave Any tokens rest → CanBeNothing rest → ⊥
  pub not_too_deep : IsShallow tokens

-- the first token at which more than 64 constructs are open
pub record IsTooDeep (tokens : List Token) (at : ℕ) : Type 0 where
  pub before : List Token
  pub token : Token
  pub after : List Token
  pub split : tokens ≡ before ++ (token ∷ after)
  pub place : at ≡ token.at
  pub deep : IsDeep (before ++ (token ∷ []))
  pub first : IsShallow before

-- the tokens are a program in which nothing is too deep
pub record IsWithin (tokens : List Token) : Type 0 where
  pub rest : List Symbol
  pub taken : Leave Nearest tokens rest
  pub whole : CanBeNothing rest
  pub not_too_deep : IsShallow tokens

-- the tokens are refused as Unexpected at this place
abbrev pub IsUnexpected : ℕ → List Token → ℕ → Type 0
IsUnexpected end tokens at = IsUnexpectedToken tokens at ⊎ IsUnexpectedEnd end tokens at

-- the verdict on the tokens: they are a program in which nothing is too deep, or this is their refusal
abbrev pub Verdict : ℕ → List Token → Option ParseError → Type 0
Verdict end tokens None = IsWithin tokens
Verdict end tokens (Some (Unexpected at)) = IsUnexpected end tokens at
Verdict end tokens (Some (TooDeep at)) = IsTooDeep tokens at
Verdict end tokens (Some (NestedCall at)) = ⊥
Verdict end tokens (Some Memory) = ⊥
