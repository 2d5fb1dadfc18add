-- What the symbols of a rest mean of the tokens: the tree of each, and the tokens behind it. The number of constructs that are open
-- behind a symbol bounds the temporaries of its tree.
use Rattle.decisions.proofs.Common.{ℕ, ◌≡◌, ◌≢◌, ◌+◌, ◌*◌, ◌-◌, ◌≤◌, ◌⊎◌, Bool, true, List, [], ◌∷◌, ◌++◌, Option, Token, Infix, UnaryOperator, NameTree, RawExprTree, RawExprTrees, RawSimpleTree, RawStmtTree, RawStmtTrees, RawItemTree, raw_temporaries, raw_arguments_temporaries, raw_simple_temporaries, raw_simples_temporaries, raw_optional_temporaries, raw_step_temporaries, raw_stmt_temporaries, raw_stmts_temporaries, AreWithinTemporaries, Symbol, open_in, next_sign, Passes, PassesName, PassesPrefix, PassesInfix, IsExpr, IsBinary, IsRepeated, IsUnary, IsPrimary, IsIndex, IsParenthesized, AreArguments, AreMoreArguments, IsSize, IsSimple, IsLocal, AreMoreLocals, AreLocals, IsUpToSemicolon, IsForInit, IsForStep, IsBody, IsBlock, AreStmts, IsStart, IsGlobal, AreMoreGlobals, AreMoreMembers, IsNameOption, AreMoreParameters, AreMoreNamed, AreParameters, AreNamed, IsResult, AreItem, AreItems}
use Rattle.c_grammar.specs.declared.signs.Sign.TheVariants as signs
use Rattle.c_grammar.specs.Rests as symbols
use Rattle.decisions.proofs.Signs.{depth_of}

module _ (S : List ℕ) where
  -- ---- expressions

  pub record AnExpr (d : ℕ) (before after : List Token) : Type 0 where
    pub tree : RawExprTree
    pub is : IsExpr S before tree after
    pub small : raw_temporaries tree + 16 * d ≤ 1039

  pub record ABinary (n d : ℕ) (before after : List Token) : Type 0 where
    pub tree : RawExprTree
    pub is : IsBinary S n before tree after
    pub small : raw_temporaries tree + 16 * d + n ≤ 1039

  pub record ARepeated (n d : ℕ) (first : RawExprTree) (before after : List Token) : Type 0 where
    pub tree : RawExprTree
    pub is : IsRepeated S n first before tree after
    pub small : raw_temporaries first + 16 * d + n ≤ 1039 → raw_temporaries tree + 16 * d + n ≤ 1039

  pub record AUnary (d : ℕ) (before after : List Token) : Type 0 where
    pub tree : RawExprTree
    pub is : IsUnary S before tree after
    pub small : raw_temporaries tree + 16 * d ≤ 1029

  pub record APrimary (d : ℕ) (before after : List Token) : Type 0 where
    pub tree : RawExprTree
    pub is : IsPrimary S before tree after
    pub small : raw_temporaries tree + 16 * d ≤ 1029

  pub record AnIndex (d : ℕ) (before after : List Token) : Type 0 where
    pub tree : RawExprTree
    pub is : IsIndex S before tree after
    pub small : raw_temporaries tree + 16 * d ≤ 1023

  pub record AParenthesized (d : ℕ) (before after : List Token) : Type 0 where
    pub tree : RawExprTree
    pub is : IsParenthesized S before tree after
    pub small : raw_temporaries tree + 16 * d ≤ 1023

  pub record SomeArguments (d : ℕ) (before after : List Token) : Type 0 where
    pub trees : RawExprTrees
    pub are : AreArguments S before trees after
    pub small : raw_arguments_temporaries 0 trees + 16 * d ≤ 1028

  -- up to the closing parenthesis, so many constructs being open before it
  pub record SomeMoreArguments (d : ℕ) (before after : List Token) : Type 0 where
    pub trees : RawExprTrees
    pub are : AreMoreArguments S before trees after
    pub small : (k : ℕ) → raw_arguments_temporaries k trees + 16 * d ≤ 1044

  pub record AListOfArguments (d : ℕ) (start after : List Token) : Type 0 where
    pub trees : RawExprTrees
    pub are : AreArguments S start trees after
    pub small : raw_arguments_temporaries 0 trees + 16 * d ≤ 1044

  pub record AConditional (d : ℕ) (before after : List Token) : Type 0 where
    pub then_from : List Token
    pub then_to : List Token
    pub else_from : List Token
    pub chosen : RawExprTree
    pub other : RawExprTree
    pub question : Passes signs.Question before then_from
    pub chosen_is : IsExpr S then_from chosen then_to
    pub colon : Passes signs.Colon then_to else_from
    pub other_is : IsExpr S else_from other after
    pub chosen_small : raw_temporaries chosen + 16 * d ≤ 1039
    pub other_small : raw_temporaries other + 16 * d ≤ 1039

  pub record ACall (d : ℕ) (before after : List Token) : Type 0 where
    pub behind : List Token
    pub name : NameTree
    pub named : PassesName S before name behind
    pub arguments : SomeArguments d behind after

  pub record ATableCall (d : ℕ) (before after : List Token) : Type 0 where
    pub behind : List Token
    pub indexed : List Token
    pub name : NameTree
    pub named : PassesName S before name behind
    pub at : AnIndex d behind indexed
    pub argument : AParenthesized d indexed after

  -- ---- simple statements

  pub record ASimple (before after : List Token) : Type 0 where
    pub tree : RawSimpleTree
    pub is : IsSimple S before tree after
    pub small : raw_simple_temporaries tree ≤ 1040

  pub record ALocal (before after : List Token) : Type 0 where
    pub tree : RawSimpleTree
    pub is : IsLocal S before tree after
    pub small : raw_simple_temporaries tree ≤ 1040

  pub record SomeMoreLocals (before after : List Token) : Type 0 where
    pub trees : List RawSimpleTree
    pub are : AreMoreLocals S before trees after
    pub small : raw_simples_temporaries trees ≤ 1040

  pub record SomeLocals (before after : List Token) : Type 0 where
    pub trees : List RawSimpleTree
    pub are : AreLocals S before trees after
    pub small : raw_simples_temporaries trees ≤ 1040

  pub record AValue (d : ℕ) (before after : List Token) : Type 0 where
    pub from : List Token
    pub assign : Passes signs.Assign before from
    pub value : AnExpr d from after

  pub record AnUpToSemicolon (before after : List Token) : Type 0 where
    pub tree : Option RawExprTree
    pub is : IsUpToSemicolon S before tree after
    pub small : raw_optional_temporaries tree ≤ 1040

  pub record AForInit (before after : List Token) : Type 0 where
    pub trees : List RawSimpleTree
    pub is : IsForInit S before trees after
    pub small : raw_simples_temporaries trees ≤ 1040

  pub record AForStep (before after : List Token) : Type 0 where
    pub tree : Option RawSimpleTree
    pub is : IsForStep S before tree after
    pub small : raw_step_temporaries tree ≤ 1040

  pub record SomeForParts (before after : List Token) : Type 0 where
    pub b : List Token
    pub c : List Token
    pub d : List Token
    pub opened : Passes signs.LeftParenthesis before b
    pub init : AForInit b c
    pub condition : AnUpToSemicolon c d
    pub last : AForStep d after

  -- ---- statements

  pub record ABody (before after : List Token) : Type 0 where
    pub tree : RawStmtTree
    pub is : IsBody true S before tree after
    pub small : raw_stmt_temporaries tree ≤ 1040

  pub record AnElse (before after : List Token) : Type 0 where
    pub from : List Token
    pub passes : Passes signs.Else before from
    pub body : ABody from after

  pub record SomeStmts (before after : List Token) : Type 0 where
    pub trees : RawStmtTrees
    pub are : AreStmts true S before trees after
    pub small : raw_stmts_temporaries trees ≤ 1040

  pub record ABlock (before after : List Token) : Type 0 where
    pub trees : RawStmtTrees
    pub is : IsBlock true S before trees after
    pub small : raw_stmts_temporaries trees ≤ 1040

  -- ---- items

  pub record SomeItem (before after : List Token) : Type 0 where
    pub trees : List RawItemTree
    pub are : AreItem true S before trees after
    pub small : AreWithinTemporaries trees

  pub record SomeItems (before : List Token) : Type 0 where
    pub trees : List RawItemTree
    pub are : AreItems true S before trees
    pub small : AreWithinTemporaries trees

  pub record AGlobal (before after : List Token) : Type 0 where
    pub tree : RawItemTree
    pub is : IsGlobal S before tree after
    pub small : AreWithinTemporaries (tree ∷ [])

  pub record SomeMoreGlobals (before after : List Token) : Type 0 where
    pub trees : List RawItemTree
    pub are : AreMoreGlobals S before trees after
    pub small : AreWithinTemporaries trees

  pub record AStart (before after : List Token) : Type 0 where
    pub from : List Token
    pub value : ℕ
    pub assign : Passes signs.Assign before from
    pub is : IsStart S from value after

  pub record ATableName (before after : List Token) : Type 0 where
    pub c : List Token
    pub d : List Token
    pub f : List Token
    pub g : List Token
    pub name : NameTree
    pub words : ℕ
    pub opened : Passes signs.LeftParenthesis before c
    pub star : Passes signs.Star c d
    pub named : PassesName S d name f
    pub size : IsSize f words g
    pub closed : Passes signs.RightParenthesis g after

  pub record ATableParameter (before after : List Token) : Type 0 where
    pub k : List Token
    pub l : List Token
    pub opened : Passes signs.LeftParenthesis before k
    pub int : Passes signs.Int k l
    pub closed : Passes signs.RightParenthesis l after

  pub record SomeMembers (before after : List Token) : Type 0 where
    pub p : List Token
    pub q : List Token
    pub first : NameTree
    pub names : List NameTree
    pub opened : Passes signs.LeftBrace before p
    pub named : PassesName S p first q
    pub more : AreMoreMembers S q names after

  -- ---- symbols

  -- What a symbol means of the tokens between these two lists, so many constructs being open behind it. What ends with a token that
  -- stands behind the symbol is said of the tokens up to behind that one.
  abbrev pub Means : ℕ → Symbol → List Token → List Token → Type 0
  Means d (symbols.The sign) before after = Passes sign before after × (d ≤ 64)
  Means d (symbols.AnOperator level) before after = (operator : Infix) × PassesInfix (9 - depth_of level) before operator after
  Means d symbols.APrefix before after = (operator : UnaryOperator) × PassesPrefix before operator after
  Means d symbols.End before after = before ≡ after
  Means d symbols.Program before after = after ≡ [] → SomeItems before
  Means d symbols.MoreGlobals before after = (end : List Token) → Passes signs.Semicolon after end → SomeMoreGlobals before end
  Means d symbols.Global before after = AGlobal before after
  Means d symbols.Start before after = (before ≡ after) ⊎ AStart before after
  Means d symbols.MinusOption before after = (before ≡ after) ⊎ Passes signs.Minus before after
  Means d symbols.Size before after = (words : ℕ) × IsSize before words after
  Means d symbols.TableName before after = ATableName before after
  Means d symbols.TableParameter before after = ATableParameter before after
  Means d symbols.Members before after = SomeMembers before after
  Means d symbols.MoreMembers before after = (end : List Token) → Passes signs.RightBrace after end → (names : List NameTree) × AreMoreMembers S before names end
  Means d symbols.Result before after = (gives : Bool) × IsResult before gives after
  Means d symbols.PrototypeParameters before after = (ps : List (Option NameTree)) × AreParameters S before ps after
  Means d symbols.PrototypeList before after = (start end : List Token) → Passes signs.LeftParenthesis start before → Passes signs.RightParenthesis after end → (ps : List (Option NameTree)) × AreParameters S start ps end
  Means d symbols.MorePrototype before after = (end : List Token) → Passes signs.RightParenthesis after end → (ps : List (Option NameTree)) × AreMoreParameters S before ps end
  Means d symbols.NameOption before after = (p : Option NameTree) × IsNameOption S before p after
  Means d symbols.FunctionParameters before after = (ps : List NameTree) × AreNamed S before ps after
  Means d symbols.FunctionList before after = (start end : List Token) → Passes signs.LeftParenthesis start before → Passes signs.RightParenthesis after end → (ps : List NameTree) × AreNamed S start ps end
  Means d symbols.MoreFunction before after = (end : List Token) → Passes signs.RightParenthesis after end → (ps : List NameTree) × AreMoreNamed S before ps end
  Means d symbols.Block before after = ABlock before after
  Means d symbols.BlockItems before after = (end : List Token) → Passes signs.RightBrace after end → SomeStmts before end
  Means d symbols.Body before after = ABody before after
  Means d symbols.ElseOption before after = ((before ≡ after) × (next_sign after ≢ signs.Else)) ⊎ AnElse before after
  Means d symbols.Parenthesized before after = AParenthesized d before after
  Means d symbols.ForParts before after = SomeForParts before after
  Means d symbols.ForInit before after = (end : List Token) → Passes signs.Semicolon after end → AForInit before end
  Means d symbols.SimpleOption before after = (end : List Token) → Passes signs.RightParenthesis after end → AForStep before end
  Means d symbols.ExprOption before after = (end : List Token) → Passes signs.Semicolon after end → AnUpToSemicolon before end
  Means d symbols.Locals before after = (end : List Token) → Passes signs.Semicolon after end → SomeLocals before end
  Means d symbols.MoreLocals before after = (end : List Token) → Passes signs.Semicolon after end → SomeMoreLocals before end
  Means d symbols.Local before after = ALocal before after
  Means d symbols.ValueOption before after = (before ≡ after) ⊎ AValue d before after
  Means d symbols.Simple before after = ASimple before after
  Means d symbols.Call before after = ACall d before after ⊎ ATableCall d before after
  Means d symbols.Index before after = AnIndex d before after
  Means d symbols.Arguments before after = SomeArguments d before after
  Means d symbols.ArgumentList before after = (start end : List Token) → Passes signs.LeftParenthesis start before → Passes signs.RightParenthesis after end → d ≤ 65 → AListOfArguments d start end
  Means d symbols.MoreArguments before after = (end : List Token) → Passes signs.RightParenthesis after end → d ≤ 65 → SomeMoreArguments d before end
  Means d symbols.Expr before after = AnExpr d before after
  Means d symbols.ConditionalOption before after = (before ≡ after) ⊎ AConditional d before after
  Means d (symbols.Binary level) before after = depth_of level ≤ 9 → ABinary (9 - depth_of level) d before after
  Means d (symbols.Repeated level) before after = depth_of level ≤ 9 → (first : RawExprTree) → ARepeated (9 - depth_of level) d first before after
  Means d symbols.Unary before after = AUnary d before after
  Means d symbols.Primary before after = APrimary d before after
  Means d _ before after = SomeItem before after

  -- all tokens are, one after another, what the symbols of the rest mean
  abbrev pub Reads : List Symbol → List Token → Type 0
  Reads [] tokens = tokens ≡ []
  Reads (symbol ∷ rest) tokens = (after : List Token) × (Means (open_in rest) symbol tokens after × Reads rest after)

  -- so they are where the symbol is replaced by these
  abbrev pub By : Symbol → List Symbol → Type 0
  By symbol parts = (rest : List Symbol) (tokens : List Token) → Reads (parts ++ rest) tokens → Reads (symbol ∷ rest) tokens
