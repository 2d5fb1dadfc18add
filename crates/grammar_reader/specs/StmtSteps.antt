-- The effect of the functions for declarations, assignments and calls on the tokens, and on the machine's run over
-- them.
use Rattle.std.specs.Prelude.{ℕ, ◌≡◌, ◌≢◌, ◌+◌, ◌*◌, ◌<◌, ◌≤◌, ◌⊎◌, List, [], ◌∷◌, ◌++◌, length, Some}
use Rattle.c_lex.specs.declared.tokens.Token.{Token}
use Rattle.c_tree.specs.RawTrees.{NameTree, RawExprTree, RawSimpleTree}
use Rattle.c_tree.specs.RawTemporaries.{raw_temporaries, raw_simple_temporaries, raw_simples_temporaries}
use Rattle.c_grammar.specs.declared.errors.ParseError.{ParseError}
use Rattle.c_grammar.specs.declared.errors.ParseError.TheVariants.{Unexpected, Memory}
use Rattle.c_grammar.specs.declared.signs.Sign.TheVariants as signs
use Rattle.c_grammar.specs.Machine as tasks
use Rattle.c_grammar.specs.Machine.{Task, open_tasks}
use Rattle.c_grammar.specs.Reading.{run}
use Rattle.c_grammar.specs.Tokens.{next_sign, next_place, rest_of, PassesName}
use Rattle.c_grammar.specs.Grammar.{IsIndex, IsSize, IsSimple, IsLocal, AreMoreLocals, AreLocals}
use Rattle.grammar_reader.specs.Steps.{Leads, Refused}

-- an assignment or a call; the task that leads to it takes its name
pub record ReadsSimple (source : List ℕ) (end depth : ℕ) (before : List Token) (s : RawSimpleTree) (after : List Token) : Type 0 where
  pub tree : IsSimple source before s after
  pub named : next_sign before ≡ signs.Name
  pub shorter : length after < length before
  pub leads : Leads end depth (tasks.AfterSimpleName ∷ []) (rest_of before) [] after
  pub small : raw_simple_temporaries s + 16 * depth ≤ 1040

-- there is no name, or what follows it is refused
abbrev pub RefusedSimple : ℕ → ℕ → List Token → ParseError → Type 0
RefusedSimple end depth before error =
    error ≢ Memory → ((next_sign before ≢ signs.Name) × (error ≡ Unexpected (next_place end before))) ⊎ ((next_sign before ≡ signs.Name) × Refused end depth (tasks.AfterSimpleName ∷ []) (rest_of before) error)

-- an assignment or a call that begins with a name and an index that were read
pub record ReadsIndexed (source : List ℕ) (end depth : ℕ) (name : NameTree) (index : RawExprTree) (before : List Token) (s : RawSimpleTree) (after : List Token) : Type 0 where
  pub tree : (first second : List Token) → PassesName source first name second → IsIndex source second index before → IsSimple source first s after
  pub shorter : length after < length before
  pub leads : Leads end depth (tasks.AfterSimpleIndex ∷ []) before [] after
  pub small : raw_temporaries index + 16 * depth ≤ 1023 → raw_simple_temporaries s + 16 * depth ≤ 1040

-- the task leads to a size, and leaves these tasks after it
abbrev pub Sized : Task → List Task → Type 0
Sized todo left = tasks.move todo signs.LeftBracket ≡ tasks.Take (tasks.Token signs.Number ∷ tasks.Token signs.RightBracket ∷ left)

-- a number in brackets
pub record ReadsSize (end depth : ℕ) (before : List Token) (words : ℕ) (after : List Token) : Type 0 where
  pub tree : IsSize before words after
  pub shorter : length after < length before
  pub leads : (todo : Task) (left rest : List Task) → Sized todo left → open_tasks (left ++ rest) ≡ depth → run end (todo ∷ rest) before ≡ run end (left ++ rest) after

-- there is no bracket, or what follows it is refused
abbrev pub RefusedSize : ℕ → ℕ → List Token → ParseError → Type 0
RefusedSize end depth before error =
    ((next_sign before ≢ signs.LeftBracket) × (error ≡ Unexpected (next_place end before))) ⊎ ((todo : Task) (left rest : List Task) → Sized todo left → open_tasks (left ++ rest) ≡ depth → run end (todo ∷ rest) before ≡ Some error)

-- the declaration of one name, after which the tasks continue with more
pub record ReadsLocal (source : List ℕ) (end depth : ℕ) (before : List Token) (s : RawSimpleTree) (after : List Token) : Type 0 where
  pub tree : IsLocal source before s after
  pub shorter : length after < length before
  pub leads : Leads end depth (tasks.LocalName ∷ []) before (tasks.MoreLocals ∷ []) after
  pub small : raw_simple_temporaries s + 16 * depth ≤ 1040

-- declarations after `int`, up to the `;`
pub record ReadsLocals (source : List ℕ) (end depth : ℕ) (before : List Token) (ss : List RawSimpleTree) (after : List Token) : Type 0 where
  pub tree : AreLocals source before ss after
  pub shorter : length after < length before
  pub leads : Leads end depth (tasks.LocalName ∷ []) (rest_of before) [] after
  pub small : raw_simples_temporaries ss + 16 * depth ≤ 1040

-- declarations so far, from the `int` before them to `now`
pub record ReadingLocals (source : List ℕ) (end depth : ℕ) (before : List Token) (ss : List RawSimpleTree) (now : List Token) : Type 0 where
  pub tree : (others : List RawSimpleTree) (after : List Token) → AreMoreLocals source now others after → AreLocals source before (ss ++ others) after
  pub shorter : length now < length before
  pub leads : Leads end depth (tasks.LocalName ∷ []) (rest_of before) (tasks.MoreLocals ∷ []) now
  pub small : raw_simples_temporaries ss + 16 * depth ≤ 1040
