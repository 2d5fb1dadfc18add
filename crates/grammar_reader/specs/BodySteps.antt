-- The effect of the functions for statements on the tokens, and on the machine's run over them.
use Rattle.std.specs.Prelude.{ℕ, ◌≡◌, ◌≢◌, ◌+◌, ◌<◌, ◌≤◌, true, List, [], ◌∷◌, ◌++◌, length, Option, Some}
use Rattle.c_lex.specs.declared.tokens.Token.{Token}
use Rattle.c_tree.specs.RawTrees.{RawExprTree, RawSimpleTree, RawStmtTree, RawStmtTrees, RawThen}
use Rattle.c_tree.specs.RawViews.{raw_in_order}
use Rattle.c_tree.specs.RawTemporaries.{raw_simples_temporaries, raw_optional_temporaries, raw_step_temporaries, raw_stmt_temporaries, raw_stmts_temporaries}
use Rattle.c_grammar.specs.declared.errors.ParseError.{ParseError}
use Rattle.c_grammar.specs.declared.errors.ParseError.TheVariants.{Memory}
use Rattle.c_grammar.specs.declared.signs.Sign.TheVariants as signs
use Rattle.c_grammar.specs.Machine as tasks
use Rattle.c_grammar.specs.Machine.{Task, open_tasks}
use Rattle.c_grammar.specs.Reading.{run}
use Rattle.c_grammar.specs.Tokens.{next_sign, rest_of, Passes}
use Rattle.c_grammar.specs.Grammar.{IsBody, IsBlock, AreStmts, IsUpToSemicolon, IsForInit, IsForStep}
use Rattle.grammar_reader.specs.Steps.{Leads, Refused}

-- if this number of constructs is open, the last of which this task closes, the run with it is the run with the others
-- after it
abbrev pub LeadsInside : ℕ → ℕ → Task → List Token → List Task → List Token → Type 0
LeadsInside end depth todo before left after = (rest : List Task) → 1 + open_tasks rest ≡ depth → run end (todo ∷ rest) before ≡ run end (left ++ rest) after

-- the run with this task, which closes a construct, ends in this refusal, unless it is out of memory
abbrev pub RefusedInside : ℕ → ℕ → Task → List Token → ParseError → Type 0
RefusedInside end depth todo before error = error ≢ Memory → (rest : List Task) → 1 + open_tasks rest ≡ depth → run end (todo ∷ rest) before ≡ Some error

-- no statement begins at the next token, unless it is a name
abbrev pub NoStatement : List Token → Type 0
NoStatement tokens = next_sign tokens ≢ signs.Name → tasks.body_move (next_sign tokens) ≡ tasks.Refuse

-- a statement that isn't a declaration
pub record ReadsBody (source : List ℕ) (end depth : ℕ) (before : List Token) (s : RawStmtTree) (after : List Token) : Type 0 where
  pub tree : IsBody true source before s after
  pub shorter : length after < length before
  pub leads : Leads end depth (tasks.Body ∷ []) before [] after
  pub small : raw_stmt_temporaries s ≤ 1040

-- the task leads to a block
abbrev pub Braced : Task → Type 0
Braced todo = tasks.move todo signs.LeftBrace ≡ tasks.Take (tasks.BlockItems ∷ [])

-- a block, to which two tasks lead
pub record ReadsBlock (source : List ℕ) (end depth : ℕ) (before : List Token) (ss : RawStmtTrees) (after : List Token) : Type 0 where
  pub tree : IsBlock true source before ss after
  pub shorter : length after < length before
  pub leads : (todo : Task) → Braced todo → Leads end depth (todo ∷ []) before [] after
  pub small : raw_stmts_temporaries ss ≤ 1040

abbrev pub RefusedBlock : ℕ → ℕ → List Token → ParseError → Type 0
RefusedBlock end depth before error = (todo : Task) → Braced todo → Refused end depth (todo ∷ []) before error

-- statements in front of others
abbrev pub stmts_before : List RawStmtTree → RawStmtTrees → RawStmtTrees
stmts_before [] others = others
stmts_before (s ∷ ss) others = RawThen s (stmts_before ss others)

-- these statements are from `start` to `now`: with them in front, the rest of a block from `now` on is a rest from
-- `start` on
pub record AreSoFar (source : List ℕ) (start : List Token) (ss : List RawStmtTree) (now : List Token) : Type 0 where
  pub go_on : (others : RawStmtTrees) (after : List Token) → AreStmts true source now others after → AreStmts true source start (stmts_before ss others) after

-- statements need no more temporaries than allowed
abbrev pub AreSmall : List RawStmtTree → Type 0
AreSmall ss = raw_stmts_temporaries (raw_in_order ss) ≤ 1040

-- a block so far, from its brace to `now`
pub record ReadingBlock (source : List ℕ) (end depth : ℕ) (before : List Token) (ss : List RawStmtTree) (now : List Token) : Type 0 where
  pub so_far : AreSoFar source (rest_of before) ss now
  pub shorter : length now < length before
  pub leads : (todo : Task) → Braced todo → Leads end depth (todo ∷ []) before (tasks.BlockItems ∷ []) now
  pub small : AreSmall ss

-- a statement of a block, or the declarations of one list, after other statements
pub record ReadsBlockItem (source : List ℕ) (end depth : ℕ) (before : List Token) (old new : List RawStmtTree) (after : List Token) : Type 0 where
  pub so_far : (start : List Token) → AreSoFar source start old before → AreSoFar source start new after
  pub shorter : length after < length before
  pub leads : LeadsInside end depth tasks.BlockItems before (tasks.BlockItems ∷ []) after
  pub small : AreSmall old → AreSmall new

-- an optional expression, up to the `;`
pub record ReadsUpToSemicolon (source : List ℕ) (end depth : ℕ) (before : List Token) (v : Option RawExprTree) (after : List Token) : Type 0 where
  pub tree : IsUpToSemicolon source before v after
  pub shorter : length after < length before
  pub leads : Leads end depth (tasks.UpToSemicolon ∷ []) before [] after
  pub small : raw_optional_temporaries v ≤ 1040

-- the first part of a `for`, up to its `;`
pub record ReadsForInit (source : List ℕ) (end depth : ℕ) (before : List Token) (init : List RawSimpleTree) (after : List Token) : Type 0 where
  pub tree : IsForInit source before init after
  pub shorter : length after < length before
  pub leads : LeadsInside end depth tasks.ForInit before (tasks.UpToSemicolon ∷ tasks.ForStep ∷ []) after
  pub small : raw_simples_temporaries init ≤ 1040

-- the last part of a `for`, up to its `)`
pub record ReadsForStep (source : List ℕ) (end depth : ℕ) (before : List Token) (last : Option RawSimpleTree) (after : List Token) : Type 0 where
  pub tree : IsForStep source before last after
  pub shorter : length after < length before
  pub leads : LeadsInside end depth tasks.ForStep before [] after
  pub small : raw_step_temporaries last ≤ 1040

-- the parts of a `for` in their parentheses
pub record ReadsForParts (source : List ℕ) (end depth : ℕ) (before : List Token) (init : List RawSimpleTree) (v : Option RawExprTree) (last : Option RawSimpleTree) (after : List Token) : Type 0 where
  pub b : List Token
  pub c : List Token
  pub d : List Token
  pub opened : Passes signs.LeftParenthesis before b
  pub first : IsForInit source b init c
  pub second : IsUpToSemicolon source c v d
  pub third : IsForStep source d last after
  pub shorter : length after < length before
  pub leads : Leads end depth (tasks.ForParts ∷ []) before [] after
  pub small : (raw_simples_temporaries init ≤ 1040) × (raw_optional_temporaries v ≤ 1040) × (raw_step_temporaries last ≤ 1040)
