-- How the machine reads a list of tokens.
use Rattle.std.specs.Prelude.{ℕ, Bool, true, false, nat_le, if◌then◌else◌, List, [], ◌∷◌, Option, Some, None}
use Rattle.c_lex.specs.declared.tokens.Token.{Token}
use Rattle.c_grammar.specs.declared.errors.ParseError.{ParseError}
use Rattle.c_grammar.specs.declared.errors.ParseError.TheVariants.{Unexpected, TooDeep}
use Rattle.c_grammar.specs.declared.signs.Sign.{Sign}
use Rattle.c_grammar.specs.Signs.{sign_of_token}
use Rattle.c_grammar.specs.Machine as tasks
use Rattle.c_grammar.specs.Machine.{Task, step, open_tasks}

-- the class of a token
abbrev pub sign_at : Token → Sign
sign_at token = sign_of_token token.kind

abbrev pub signs_of : List Token → List Sign
signs_of [] = []
signs_of (token ∷ tokens) = sign_at token ∷ signs_of tokens

-- the tasks may be left undone at the end of the source
abbrev pub finishes : List Task → Bool
finishes [] = true
finishes (tasks.Items ∷ rest) = true
finishes (tasks.Done ∷ rest) = finishes rest
finishes (tasks.ElsePart ∷ rest) = finishes rest
finishes (tasks.AfterName ∷ rest) = finishes rest
finishes (tasks.AfterIndex ∷ rest) = finishes rest
finishes (tasks.Tail ∷ rest) = finishes rest
finishes (_ ∷ rest) = false

-- The first refusal of the tokens, if these tasks are still to be done, or none. `end` is the length of the
-- source.
unfoldable pub run : ℕ → List Task → List Token → Option ParseError
run end todo [] = if finishes todo then None else Some (Unexpected end)
run end todo (token ∷ tokens) =
    elim (step todo (sign_at token)) [
      | None ↦ Some (Unexpected token.at)
      | Some after ↦ (if nat_le (open_tasks after) 64 then run end after tokens else Some (TooDeep token.at))
    ]
