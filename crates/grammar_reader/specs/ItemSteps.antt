-- The effect of the functions for items on the tokens, and on the machine's run over them. No construct is open before
-- an item.
use Rattle.std.specs.Prelude.{ℕ, ◌≡◌, ◌≢◌, ◌<◌, ◌≤◌, Bool, true, false, List, [], ◌∷◌, ◌++◌, length, Option, Some, None}
use Rattle.c_lex.specs.declared.tokens.Token.{Token}
use Rattle.c_tree.specs.RawTrees.{NameTree, RawItemTree}
use Rattle.c_tree.specs.RawTemporaries.{AreWithinTemporaries}
use Rattle.c_grammar.specs.declared.errors.ParseError.{ParseError}
use Rattle.c_grammar.specs.declared.errors.ParseError.TheVariants.{Unexpected, Memory}
use Rattle.c_grammar.specs.declared.signs.Sign.TheVariants as signs
use Rattle.c_grammar.specs.Machine as tasks
use Rattle.c_grammar.specs.Machine.{Task}
use Rattle.c_grammar.specs.Reading.{run}
use Rattle.c_grammar.specs.Tokens.{next_sign, next_place, Passes, PassesName}
use Rattle.c_grammar.specs.Grammar.{IsSize, IsStart, IsGlobal, AreMoreGlobals, AreMoreMembers, IsNameOption, AreMoreParameters, AreMoreNamed, AreParameters, AreNamed, IsResult, AreItem, AreItems}
use Rattle.grammar_reader.specs.Steps.{Leads, Refused}

-- whether each parameter has a name
abbrev pub all_have_names : List (Option NameTree) → Bool
all_have_names [] = true
all_have_names (None ∷ ps) = false
all_have_names (Some n ∷ ps) = all_have_names ps

-- the names of the parameters that have one
abbrev pub names_in : List (Option NameTree) → List NameTree
names_in [] = []
names_in (None ∷ ps) = names_in ps
names_in (Some n ∷ ps) = n ∷ names_in ps

-- whether each parameter so far has a name, with one more after them
abbrev pub named_with : Bool → Option NameTree → Bool
named_with named None = false
named_with named (Some n) = named

-- the tasks after the `int` of a parameter, after the parameter, and after all: if each so far has a name, a body may
-- follow
abbrev pub name_task : Bool → Task
name_task true = tasks.ParameterName
name_task false = tasks.PrototypeName

abbrev pub more_task : Bool → Task
more_task true = tasks.MoreParameters
more_task false = tasks.MorePrototype

abbrev pub after_task : Bool → Task
after_task true = tasks.AfterParameters
after_task false = tasks.Token signs.Semicolon

-- the task leads to the parameters of a function
abbrev pub Listed : Task → Type 0
Listed todo = tasks.move todo signs.LeftParenthesis ≡ tasks.Take (tasks.ParameterList ∷ [])

abbrev pub RefusedListed : ℕ → List Token → ParseError → Type 0
RefusedListed end before error = (todo : Task) → Listed todo → Refused end 0 (todo ∷ []) before error

-- `int`, with an optional name
pub record ReadsParameter (source : List ℕ) (end : ℕ) (before : List Token) (p : Option NameTree) (after : List Token) : Type 0 where
  pub between : List Token
  pub int : Passes signs.Int before between
  pub name : IsNameOption source between p after
  pub shorter : length after < length before
  pub leads : (named : Bool) → Leads end 0 (name_task named ∷ []) between (more_task (named_with named p) ∷ []) after

-- there is no `int`
abbrev pub RefusedParameter : ℕ → List Token → ParseError → Type 0
RefusedParameter end before error = error ≢ Memory → (error ≡ Unexpected (next_place end before)) × (next_sign before ≢ signs.Int)

-- parameters so far, after the parenthesis
pub record ReadingParameters (source : List ℕ) (end : ℕ) (before : List Token) (ps : List (Option NameTree)) (now : List Token) : Type 0 where
  pub tree : (a after : List Token) (others : List (Option NameTree)) → Passes signs.LeftParenthesis a before → AreMoreParameters source now others after → AreParameters source a (ps ++ others) after
  pub named : (a after : List Token) (others : List NameTree) → all_have_names ps ≡ true → Passes signs.LeftParenthesis a before → AreMoreNamed source now others after → AreNamed source a (names_in ps ++ others) after
  pub shorter : length now < length before
  pub leads : Leads end 0 (tasks.ParameterList ∷ []) before (more_task (all_have_names ps) ∷ []) now

-- one or more parameters after the parenthesis, with the `)` after them
pub record ReadsParameterList (source : List ℕ) (end : ℕ) (before : List Token) (ps : List (Option NameTree)) (after : List Token) : Type 0 where
  pub tree : (a : List Token) → Passes signs.LeftParenthesis a before → AreParameters source a ps after
  pub named : (a : List Token) → all_have_names ps ≡ true → Passes signs.LeftParenthesis a before → AreNamed source a (names_in ps) after
  pub shorter : length after < length before
  pub leads : Leads end 0 (tasks.ParameterList ∷ []) before (after_task (all_have_names ps) ∷ []) after

-- all parameters, with their parentheses
pub record ReadsParameters (source : List ℕ) (end : ℕ) (before : List Token) (ps : List (Option NameTree)) (after : List Token) : Type 0 where
  pub tree : AreParameters source before ps after
  pub named : all_have_names ps ≡ true → AreNamed source before (names_in ps) after
  pub shorter : length after < length before
  pub leads : (todo : Task) → Listed todo → Leads end 0 (todo ∷ []) before (after_task (all_have_names ps) ∷ []) after

-- a prototype or a function, from its parameters on
pub record ReadsFunction (source : List ℕ) (end : ℕ) (gives : Bool) (name : NameTree) (before : List Token) (item : RawItemTree) (after : List Token) : Type 0 where
  pub tree : (a b : List Token) → IsResult a gives b → PassesName source b name before → AreItem true source a (item ∷ []) after
  pub shorter : length after < length before
  pub leads : (todo : Task) → Listed todo → Leads end 0 (todo ∷ []) before [] after
  pub small : AreWithinTemporaries (item ∷ [])

-- an initial value
pub record ReadsStart (source : List ℕ) (end : ℕ) (before : List Token) (value : ℕ) (after : List Token) : Type 0 where
  pub tree : IsStart source before value after
  pub shorter : length after < length before
  pub leads : Leads end 0 (tasks.StartValue ∷ []) before [] after

-- a global, after its name
pub record ReadsGlobal (source : List ℕ) (end : ℕ) (name : NameTree) (before : List Token) (item : RawItemTree) (after : List Token) : Type 0 where
  pub tree : (a : List Token) → PassesName source a name before → IsGlobal source a item after
  pub no_longer : length after ≤ length before
  pub leads : Leads end 0 (tasks.AfterGlobalName ∷ []) before (tasks.MoreGlobals ∷ []) after
  pub small : AreWithinTemporaries (item ∷ [])

-- globals so far, after the name of the first, as items after others
pub record ReadingGlobals (source : List ℕ) (end : ℕ) (name : NameTree) (before : List Token) (old new : List RawItemTree) (now : List Token) : Type 0 where
  pub is : List RawItemTree
  pub pushed : new ≡ old ++ is
  pub tree : (a b after : List Token) (others : List RawItemTree) → Passes signs.Int a b → PassesName source b name before → AreMoreGlobals source now others after → AreItem true source a (is ++ others) after
  pub no_longer : length now ≤ length before
  pub leads : Leads end 0 (tasks.AfterIntName ∷ []) before (tasks.MoreGlobals ∷ []) now
  pub small : AreWithinTemporaries is

-- globals after the name of the first, up to their `;`
pub record ReadsGlobals (source : List ℕ) (end : ℕ) (name : NameTree) (before : List Token) (old new : List RawItemTree) (after : List Token) : Type 0 where
  pub is : List RawItemTree
  pub pushed : new ≡ old ++ is
  pub tree : (a b : List Token) → Passes signs.Int a b → PassesName source b name before → AreItem true source a is after
  pub shorter : length after < length before
  pub leads : Leads end 0 (tasks.AfterIntName ∷ []) before [] after
  pub small : AreWithinTemporaries is

-- the name and the size of a table, in parentheses
pub record ReadsDeclared (source : List ℕ) (end : ℕ) (before : List Token) (name : NameTree) (words : ℕ) (after : List Token) : Type 0 where
  pub b : List Token
  pub c : List Token
  pub d : List Token
  pub f : List Token
  pub opened : Passes signs.LeftParenthesis before b
  pub star : Passes signs.Star b c
  pub named : PassesName source c name d
  pub sized : IsSize d words f
  pub closed : Passes signs.RightParenthesis f after
  pub shorter : length after < length before
  pub leads : Leads end 0 (tasks.AfterInt ∷ []) before (tasks.TableParameter ∷ tasks.Token signs.Assign ∷ tasks.TableMembers ∷ tasks.Token signs.Semicolon ∷ []) after

-- the `(int)` of a table
pub record ReadsTableParameter (end : ℕ) (before after : List Token) : Type 0 where
  pub b : List Token
  pub c : List Token
  pub opened : Passes signs.LeftParenthesis before b
  pub int : Passes signs.Int b c
  pub closed : Passes signs.RightParenthesis c after
  pub shorter : length after < length before
  pub leads : Leads end 0 (tasks.TableParameter ∷ []) before [] after

-- members so far, from the brace before them
pub record ReadingMembers (source : List ℕ) (end : ℕ) (before : List Token) (ns : List NameTree) (now : List Token) : Type 0 where
  pub b : List Token
  pub c : List Token
  pub first : NameTree
  pub more : List NameTree
  pub some : ns ≡ first ∷ more
  pub opened : Passes signs.LeftBrace before b
  pub named : PassesName source b first c
  pub tree : (others : List NameTree) (after : List Token) → AreMoreMembers source now others after → AreMoreMembers source c (more ++ others) after
  pub shorter : length now < length before
  pub leads : Leads end 0 (tasks.TableMembers ∷ []) before (tasks.MoreMembers ∷ []) now

-- the members of a table, with their braces
pub record ReadsMembers (source : List ℕ) (end : ℕ) (before : List Token) (ns : List NameTree) (after : List Token) : Type 0 where
  pub b : List Token
  pub c : List Token
  pub first : NameTree
  pub more : List NameTree
  pub some : ns ≡ first ∷ more
  pub opened : Passes signs.LeftBrace before b
  pub named : PassesName source b first c
  pub tree : AreMoreMembers source c more after
  pub shorter : length after < length before
  pub leads : Leads end 0 (tasks.TableMembers ∷ []) before [] after

-- a table, after its `int`
pub record ReadsTable (source : List ℕ) (end : ℕ) (before : List Token) (item : RawItemTree) (after : List Token) : Type 0 where
  pub tree : (a : List Token) → Passes signs.Int a before → AreItem true source a (item ∷ []) after
  pub shorter : length after < length before
  pub leads : Leads end 0 (tasks.AfterInt ∷ []) before [] after
  pub small : AreWithinTemporaries (item ∷ [])

-- what follows `int` or `void` at the start of an item
pub record ReadsAfterInt (source : List ℕ) (end : ℕ) (before : List Token) (old new : List RawItemTree) (after : List Token) : Type 0 where
  pub is : List RawItemTree
  pub pushed : new ≡ old ++ is
  pub tree : (a : List Token) → Passes signs.Int a before → AreItem true source a is after
  pub shorter : length after < length before
  pub leads : Leads end 0 (tasks.AfterInt ∷ []) before [] after
  pub small : AreWithinTemporaries is

pub record ReadsAfterVoid (source : List ℕ) (end : ℕ) (before : List Token) (item : RawItemTree) (after : List Token) : Type 0 where
  pub tree : (a : List Token) → Passes signs.Void a before → AreItem true source a (item ∷ []) after
  pub shorter : length after < length before
  pub leads : Leads end 0 (tasks.AfterVoid ∷ []) before [] after
  pub small : AreWithinTemporaries (item ∷ [])

-- an item, or the globals of one list, after others
pub record ReadsItem (source : List ℕ) (end : ℕ) (before : List Token) (old new : List RawItemTree) (after : List Token) : Type 0 where
  pub is : List RawItemTree
  pub pushed : new ≡ old ++ is
  pub tree : AreItem true source before is after
  pub shorter : length after < length before
  pub leads : run end (tasks.Items ∷ []) before ≡ run end (tasks.Items ∷ []) after
  pub small : AreWithinTemporaries is

-- the run over the items ends in this refusal, unless it is out of memory
abbrev pub RefusedItems : ℕ → List Token → ParseError → Type 0
RefusedItems end before error = error ≢ Memory → run end (tasks.Items ∷ []) before ≡ Some error

-- items so far
pub record ReadingItems (source : List ℕ) (end : ℕ) (before : List Token) (is : List RawItemTree) (now : List Token) : Type 0 where
  pub tree : (others : List RawItemTree) → AreItems true source now others → AreItems true source before (is ++ others)
  pub leads : run end (tasks.Items ∷ []) before ≡ run end (tasks.Items ∷ []) now
  pub small : AreWithinTemporaries is

-- all items of a source
pub record ReadsItems (source : List ℕ) (end : ℕ) (before : List Token) (is : List RawItemTree) : Type 0 where
  pub tree : AreItems true source before is
  pub runs : run end (tasks.Items ∷ []) before ≡ None
  pub small : AreWithinTemporaries is
