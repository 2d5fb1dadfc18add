-- Names that a source may contain: they don't begin with a digit.
use Rattle.std.specs.Prelude.{ℕ, ◌<◌, ◌⊎◌, List, [], ◌∷◌, Option, Some, None}
use Rattle.c_tree.specs.RawTrees.{NameTree, RawExprTree, RawExprTrees, RawNumber, RawName, RawElement, RawUnary, RawParenthesized, RawBinary, RawLogicalAnd, RawLogicalOr, RawConditional, RawCall, RawTableCall, NoExprs, And, RawSimpleTree, RawDeclareScalar, RawDeclareArray, RawDeclareWith, RawSet, RawSetElement, RawCalling, RawTableCalling, RawStmtTree, RawStmtTrees, RawDo, RawEmpty, RawBlock, RawIf, RawIfElse, RawWhile, RawFor, RawBreak, RawContinue, RawReturn, NoRawStmts, RawThen, RawItemTree, RawGlobal, RawGlobalArray, RawTableItem, RawPrototypeItem, RawFunctionItem}

abbrev pub IsSourceName : List ℕ → Type 0
IsSourceName [] = ⊥
IsSourceName (b ∷ bs) = (b < 48) ⊎ (57 < b)

abbrev mutual
  pub AreSourceNames : RawExprTree → Type 0
  AreSourceNames (RawNumber v) = Unit {0}
  AreSourceNames (RawName n) = IsSourceName n.text
  AreSourceNames (RawElement n i) = IsSourceName n.text × AreSourceNames i
  AreSourceNames (RawUnary op e) = AreSourceNames e
  AreSourceNames (RawParenthesized e) = AreSourceNames e
  AreSourceNames (RawBinary op l r) = AreSourceNames l × AreSourceNames r
  AreSourceNames (RawLogicalAnd l r) = AreSourceNames l × AreSourceNames r
  AreSourceNames (RawLogicalOr l r) = AreSourceNames l × AreSourceNames r
  AreSourceNames (RawConditional c a b) = AreSourceNames c × AreSourceNames a × AreSourceNames b
  AreSourceNames (RawCall n es) = IsSourceName n.text × AllSourceNames es
  AreSourceNames (RawTableCall n i e) = IsSourceName n.text × AreSourceNames i × AreSourceNames e

  pub AllSourceNames : RawExprTrees → Type 0
  AllSourceNames NoExprs = Unit {0}
  AllSourceNames (And e es) = AreSourceNames e × AllSourceNames es

-- ---- of statements, with the names that they declare

abbrev pub IsSimpleNamed : RawSimpleTree → Type 0
IsSimpleNamed (RawDeclareScalar n) = IsSourceName n.text
IsSimpleNamed (RawDeclareArray n size) = IsSourceName n.text
IsSimpleNamed (RawDeclareWith n v) = IsSourceName n.text × AreSourceNames v
IsSimpleNamed (RawSet n v) = IsSourceName n.text × AreSourceNames v
IsSimpleNamed (RawSetElement n i v) = IsSourceName n.text × AreSourceNames i × AreSourceNames v
IsSimpleNamed (RawCalling n es) = IsSourceName n.text × AllSourceNames es
IsSimpleNamed (RawTableCalling n i e) = IsSourceName n.text × AreSourceNames i × AreSourceNames e

abbrev pub AreSimplesNamed : List RawSimpleTree → Type 0
AreSimplesNamed [] = Unit {0}
AreSimplesNamed (s ∷ ss) = IsSimpleNamed s × AreSimplesNamed ss

abbrev pub IsOptionNamed : Option RawExprTree → Type 0
IsOptionNamed None = Unit {0}
IsOptionNamed (Some e) = AreSourceNames e

abbrev pub IsStepNamed : Option RawSimpleTree → Type 0
IsStepNamed None = Unit {0}
IsStepNamed (Some s) = IsSimpleNamed s

abbrev mutual
  pub IsStmtNamed : RawStmtTree → Type 0
  IsStmtNamed (RawDo s) = IsSimpleNamed s
  IsStmtNamed RawEmpty = Unit {0}
  IsStmtNamed (RawBlock ss) = AreStmtsNamed ss
  IsStmtNamed (RawIf c s) = AreSourceNames c × IsStmtNamed s
  IsStmtNamed (RawIfElse c s r) = AreSourceNames c × IsStmtNamed s × IsStmtNamed r
  IsStmtNamed (RawWhile c s) = AreSourceNames c × IsStmtNamed s
  IsStmtNamed (RawFor init c step s) = AreSimplesNamed init × IsOptionNamed c × IsStepNamed step × IsStmtNamed s
  IsStmtNamed (RawBreak at) = Unit {0}
  IsStmtNamed (RawContinue at) = Unit {0}
  IsStmtNamed (RawReturn at v) = IsOptionNamed v

  pub AreStmtsNamed : RawStmtTrees → Type 0
  AreStmtsNamed NoRawStmts = Unit {0}
  AreStmtsNamed (RawThen s ss) = IsStmtNamed s × AreStmtsNamed ss

-- ---- of items

abbrev pub AreNamed : List NameTree → Type 0
AreNamed [] = Unit {0}
AreNamed (n ∷ ns) = IsSourceName n.text × AreNamed ns

-- a parameter of a prototype may be unnamed
abbrev pub AreParamsNamed : List (Option NameTree) → Type 0
AreParamsNamed [] = Unit {0}
AreParamsNamed (None ∷ ns) = AreParamsNamed ns
AreParamsNamed (Some n ∷ ns) = IsSourceName n.text × AreParamsNamed ns

abbrev pub IsItemNamed : RawItemTree → Type 0
IsItemNamed (RawGlobal n start) = IsSourceName n.text
IsItemNamed (RawGlobalArray n size) = IsSourceName n.text
IsItemNamed (RawTableItem n size members) = IsSourceName n.text × AreNamed members
IsItemNamed (RawPrototypeItem gives n params) = IsSourceName n.text × AreParamsNamed params
IsItemNamed (RawFunctionItem gives n params body) = IsSourceName n.text × AreNamed params × AreStmtsNamed body

-- each name of a source is one
abbrev pub AreItemsNamed : List RawItemTree → Type 0
AreItemsNamed [] = Unit {0}
AreItemsNamed (i ∷ is) = IsItemNamed i × AreItemsNamed is
