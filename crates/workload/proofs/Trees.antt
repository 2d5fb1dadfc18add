-- The tokens of the workload's source are its tree: a derivation for each of the four kinds of lines.
use Rattle.workload.proofs.Common.{ℕ, zero, suc, ◌≡◌, ◌<◌, ◌+◌, true, Some, List, [], ◌∷◌, ◌++◌, length, refl, sym, ap, ◌∙◌, lit<, lit≤, append_assoc, append-nil, codes, Token, BinaryOperator, RawExprTree, RawBinary, RawDeclareScalar, RawItemTree, link_line, chain_text, worker_line, main_line, program_text}
use Rattle.c_lex.specs.declared.tokens.TokenKind.TheVariants as kinds
use Rattle.c_tree.specs.declared.operators.Infix.{Infix}
use Rattle.c_grammar.specs.declared.signs.Sign.{Sign}
use Rattle.c_grammar.specs.Signs.{sign_of_token}
use Rattle.c_grammar.specs.Operators.{infix_operator_of, level_of_infix}
use Rattle.c_grammar.specs.Tokens.{Passes, PassesName, PassesNumber}
use Rattle.c_grammar.specs.Grammar.{PassesInfix, IsExpr, IsBinary, IsRepeated, IsUnary, IsPrimary, AreArguments, AreMoreArguments, IsSimple, IsLocal, AreMoreLocals, AreLocals, IsUpToSemicolon, IsForInit, IsForStep, IsBody, IsBlock, AreStmts, AreMoreNamed, AreNamed, IsResult, AreItem, AreItems, IsProgram}
use Rattle.workload.proofs.Spelling.{Written, spell, past, token_of, tokens_of, place_of, Stands, stands_from, stands_at, lexeme_is}
use Rattle.workload.proofs.Pieces.{first_pieces, first_spelled, link_pieces, link_spelled, worker_pieces, worker_spelled, main_pieces, main_spelled}
use Rattle.workload.proofs.Lexed.{chain_tokens, worker_place, main_place, worker_tokens, main_tokens, program_tokens}
use Rattle.workload.proofs.Items.{named, first_item, link_item, worker_item, main_item, first_places, link_places, worker_places, main_places, chain_items, program_items}

-- the next token is taken
pass : {token : Token} {tokens : List Token} {sign : Sign} → sign_of_token token.kind ≡ sign → Passes sign (token ∷ tokens) tokens
pass is = record { is_next = is; behind = refl }

-- a name is the one that was written
passes_name : {source : List ℕ} {at : ℕ} {w : Written} {ws : List Written} {after : List ℕ} (more : List Token) → Stands source at (w ∷ ws) after → w.kind ≡ kinds.Name
    → PassesName source (token_of at w ∷ tokens_of (past at w) ws more) (named (at + length w.gap) w.lexeme) (tokens_of (past at w) ws more)
passes_name {source = source} {at = at} {w = w} {ws = ws} {after = after} more s is = record {
  passes = pass (ap sign_of_token is);
  named = ap (named (at + length w.gap)) (sym (lexeme_is source at w ws after s));
}

number : {token : Token} {tokens : List Token} {value : ℕ} → token.kind ≡ kinds.Number value → PassesNumber (token ∷ tokens) value tokens
number is = record { is_next = ap (λ kind. Some kind) is; behind = refl }

operator : {level : ℕ} {token : Token} {tokens : List Token} {op : Infix} → infix_operator_of (Some token.kind) ≡ Some op → level_of_infix op ≡ level → PassesInfix level (token ∷ tokens) op tokens
operator is of_level = record { is_next = is; of_level = of_level; behind = refl }

-- an operand, or an operation of some level, stands for all of a looser one
looser : {source : List ℕ} {level : ℕ} {before after : List Token} {e : RawExprTree} → level < 10 → IsBinary source (level + 1) before e after → IsBinary source level before e after
looser low e = IsBinary.chain low e IsRepeated.no_more

at_nine : {source : List ℕ} {before after : List Token} {e : RawExprTree} → IsUnary source before e after → IsBinary source 9 before e after
at_nine e = looser (lit< tt) (IsBinary.operand (lit≤ tt) e)

at_seven : {source : List ℕ} {before after : List Token} {e : RawExprTree} → IsBinary source 9 before e after → IsBinary source 7 before e after
at_seven e = looser (lit< tt) (looser (lit< tt) e)

from_six : {source : List ℕ} {before after : List Token} {e : RawExprTree} → IsBinary source 6 before e after → IsExpr source before e after
from_six e = IsExpr.alone (looser (lit< tt) (looser (lit< tt) (looser (lit< tt) (looser (lit< tt) (looser (lit< tt) (looser (lit< tt) e))))))

operand_alone : {source : List ℕ} {before after : List Token} {e : RawExprTree} → IsPrimary source before e after → IsExpr source before e after
operand_alone e = from_six (looser (lit< tt) (at_seven (at_nine (IsUnary.primary e))))

-- a sum, and a comparison
sum : {source : List ℕ} {before b c after : List Token} {l r : RawExprTree} → IsPrimary source before l b → PassesInfix 8 b (Infix.Binary BinaryOperator.Add) c → IsPrimary source c r after → IsExpr source before (RawBinary BinaryOperator.Add l r) after
sum l plus r = from_six (looser (lit< tt) (looser (lit< tt) (IsBinary.chain (lit< tt) (at_nine (IsUnary.primary l)) (IsRepeated.another plus (at_nine (IsUnary.primary r)) IsRepeated.no_more))))

comparison : {source : List ℕ} {before b c after : List Token} {l r : RawExprTree} → IsPrimary source before l b → PassesInfix 6 b (Infix.Binary BinaryOperator.Less) c → IsPrimary source c r after → IsExpr source before (RawBinary BinaryOperator.Less l r) after
comparison l less r = from_six (IsBinary.chain (lit< tt) (at_seven (at_nine (IsUnary.primary l))) (IsRepeated.another less (at_seven (at_nine (IsUnary.primary r))) IsRepeated.no_more))

pub first_derived : (source : List ℕ) (at : ℕ) (after : List ℕ) (more : List Token) → Stands source at (first_pieces) after
    → AreItem true source (tokens_of at (first_pieces) more) (first_item (place_of at (first_pieces)) ∷ []) more
first_derived source at after more s =
    let ws : List Written = first_pieces in
    AreItem.function (IsResult.int_result (pass refl)) (passes_name more (stands_from 1 source at ws after s) refl) (AreNamed.some_named (pass refl) (pass refl) (passes_name more (stands_from 4 source at ws after s) refl) (AreMoreNamed.last_named (pass refl)))
    (IsBlock.braces (pass refl) (AreStmts.another_stmt (IsBody.return_value (pass refl) (IsUpToSemicolon.something (operand_alone (IsPrimary.name (passes_name more (stands_from 8 source at ws after s) refl))) (pass refl)))
    (AreStmts.last_stmt (pass refl))))

pub link_derived : (i : ℕ) (m : ℕ) (source : List ℕ) (at : ℕ) (after : List ℕ) (more : List Token) → Stands source at (link_pieces i m) after
    → AreItem true source (tokens_of at (link_pieces i m) more) (link_item (place_of at (link_pieces i m)) i m ∷ []) more
link_derived i m source at after more s =
    let ws : List Written = link_pieces i m in
    let p : ℕ → ℕ = place_of at ws in
    AreItem.function (IsResult.int_result (pass refl)) (passes_name more (stands_from 1 source at ws after s) refl) (AreNamed.some_named (pass refl) (pass refl) (passes_name more (stands_from 4 source at ws after s) refl) (AreMoreNamed.last_named (pass refl)))
    (IsBlock.braces (pass refl) (AreStmts.declarations {ds = RawDeclareScalar (named (p 8) (codes "r")) ∷ []} (AreLocals.locals (pass refl) (IsLocal.scalar (passes_name more (stands_from 8 source at ws after s) refl)) (AreMoreLocals.last_local (pass refl)))
    (AreStmts.another_stmt (IsBody.simple (IsSimple.set (passes_name more (stands_from 10 source at ws after s) refl) (pass refl) (operand_alone (IsPrimary.call (passes_name more (stands_from 12 source at ws after s) refl) (AreArguments.arguments (pass refl) (sum (IsPrimary.name (passes_name more (stands_from 14 source at ws after s) refl)) (operator refl refl) (IsPrimary.number (number refl))) (AreMoreArguments.last_argument (pass refl)))))) (pass refl))
    (AreStmts.another_stmt (IsBody.return_value (pass refl) (IsUpToSemicolon.something (operand_alone (IsPrimary.name (passes_name more (stands_from 20 source at ws after s) refl))) (pass refl)))
    (AreStmts.last_stmt (pass refl))))))

pub worker_derived : (n : ℕ) (source : List ℕ) (at : ℕ) (after : List ℕ) (more : List Token) → Stands source at (worker_pieces n) after
    → AreItem true source (tokens_of at (worker_pieces n) more) (worker_item (place_of at (worker_pieces n)) n ∷ []) more
worker_derived n source at after more s =
    let ws : List Written = worker_pieces n in
    let p : ℕ → ℕ = place_of at ws in
    AreItem.function (IsResult.void_result (pass refl)) (passes_name more (stands_from 1 source at ws after s) refl) (AreNamed.some_named (pass refl) (pass refl) (passes_name more (stands_from 4 source at ws after s) refl) (AreMoreNamed.last_named (pass refl)))
    (IsBlock.braces (pass refl) (AreStmts.declarations {ds = RawDeclareScalar (named (p 8) (codes "c")) ∷ []} (AreLocals.locals (pass refl) (IsLocal.scalar (passes_name more (stands_from 8 source at ws after s) refl)) (AreMoreLocals.last_local (pass refl)))
    (AreStmts.declarations {ds = RawDeclareScalar (named (p 11) (codes "v")) ∷ []} (AreLocals.locals (pass refl) (IsLocal.scalar (passes_name more (stands_from 11 source at ws after s) refl)) (AreMoreLocals.last_local (pass refl)))
    (AreStmts.another_stmt (IsBody.simple (IsSimple.set (passes_name more (stands_from 13 source at ws after s) refl) (pass refl) (operand_alone (IsPrimary.call (passes_name more (stands_from 15 source at ws after s) refl) (AreArguments.no_arguments (pass refl) (pass refl))))) (pass refl))
    (AreStmts.another_stmt (IsBody.simple (IsSimple.set (passes_name more (stands_from 19 source at ws after s) refl) (pass refl) (operand_alone (IsPrimary.call (passes_name more (stands_from 21 source at ws after s) refl) (AreArguments.arguments (pass refl) (operand_alone (IsPrimary.name (passes_name more (stands_from 23 source at ws after s) refl))) (AreMoreArguments.last_argument (pass refl)))))) (pass refl))
    (AreStmts.another_stmt (IsBody.simple (IsSimple.set (passes_name more (stands_from 26 source at ws after s) refl) (pass refl) (operand_alone (IsPrimary.call (passes_name more (stands_from 28 source at ws after s) refl) (AreArguments.arguments (pass refl) (operand_alone (IsPrimary.name (passes_name more (stands_from 30 source at ws after s) refl))) (AreMoreArguments.last_argument (pass refl)))))) (pass refl))
    (AreStmts.another_stmt (IsBody.simple (IsSimple.calling (passes_name more (stands_from 33 source at ws after s) refl) (AreArguments.arguments (pass refl) (operand_alone (IsPrimary.name (passes_name more (stands_from 35 source at ws after s) refl))) (AreMoreArguments.last_argument (pass refl)))) (pass refl))
    (AreStmts.last_stmt (pass refl)))))))))

pub main_derived : (n : ℕ) (source : List ℕ) (at : ℕ) (after : List ℕ) (more : List Token) → Stands source at (main_pieces n) after
    → AreItem true source (tokens_of at (main_pieces n) more) (main_item (place_of at (main_pieces n)) n ∷ []) more
main_derived n source at after more s =
    let ws : List Written = main_pieces n in
    let p : ℕ → ℕ = place_of at ws in
    AreItem.function (IsResult.int_result (pass refl)) (passes_name more (stands_from 1 source at ws after s) refl) (AreNamed.no_named (pass refl) (pass refl))
    (IsBlock.braces (pass refl) (AreStmts.declarations {ds = RawDeclareScalar (named (p 6) (codes "i")) ∷ []} (AreLocals.locals (pass refl) (IsLocal.scalar (passes_name more (stands_from 6 source at ws after s) refl)) (AreMoreLocals.last_local (pass refl)))
    (AreStmts.another_stmt (IsBody.for_loop (pass refl) (pass refl) (IsForInit.simple_init (IsSimple.set (passes_name more (stands_from 10 source at ws after s) refl) (pass refl) (operand_alone (IsPrimary.number (number refl)))) (pass refl))
    (IsUpToSemicolon.something (comparison (IsPrimary.name (passes_name more (stands_from 14 source at ws after s) refl)) (operator refl refl) (IsPrimary.number (number refl))) (pass refl))
    (IsForStep.step (IsSimple.set (passes_name more (stands_from 18 source at ws after s) refl) (pass refl) (sum (IsPrimary.name (passes_name more (stands_from 20 source at ws after s) refl)) (operator refl refl) (IsPrimary.number (number refl)))) (pass refl))
    (IsBody.simple (IsSimple.calling (passes_name more (stands_from 24 source at ws after s) refl) (AreArguments.arguments (pass refl) (operand_alone (IsPrimary.name (passes_name more (stands_from 26 source at ws after s) refl))) (AreMoreArguments.another_argument (pass refl) (operand_alone (IsPrimary.name (passes_name more (stands_from 28 source at ws after s) refl))) (AreMoreArguments.last_argument (pass refl))))) (pass refl)))
    (AreStmts.another_stmt (IsBody.return_value (pass refl) (IsUpToSemicolon.something (operand_alone (IsPrimary.number (number refl))) (pass refl)))
    (AreStmts.last_stmt (pass refl))))))

-- the chain's functions up to number m, and all of the source
chain_derived : (m : ℕ) (source rest : List ℕ) → source ≡ chain_text m ++ rest → (more : List Token) (items : List RawItemTree) → AreItems true source more items → AreItems true source (chain_tokens m more) (chain_items m items)
unfolding chain_text
chain_derived zero source rest same more items are =
    AreItems.another_item {is = first_item first_places ∷ []} (first_derived source 0 (10 ∷ rest) more (stands_at source [] first_pieces (10 ∷ rest) (same ∙ first_spelled rest))) are
chain_derived (suc m) source rest same more items are =
    let split : source ≡ chain_text m ++ (link_line (suc m) m ++ rest) = same ∙ append_assoc (chain_text m) (link_line (suc m) m) rest in
    chain_derived m source (link_line (suc m) m ++ rest) split (tokens_of (length (chain_text m)) (link_pieces (suc m) m) more) (link_item (link_places m) (suc m) m ∷ items)
    (AreItems.another_item {is = link_item (link_places m) (suc m) m ∷ []}
    (link_derived (suc m) m source (length (chain_text m)) (10 ∷ rest) more
    (stands_at source (chain_text m) (link_pieces (suc m) m) (10 ∷ rest) (split ∙ ap (λ l. chain_text m ++ l) (link_spelled (suc m) m rest))))
    are)

pub program_derived : (n : ℕ) → IsProgram (program_text n) (program_tokens n) (program_items n)
unfolding program_text
program_derived n =
    let source : List ℕ = chain_text n ++ (worker_line n ++ main_line n) in
    let last : source ≡ (chain_text n ++ worker_line n) ++ spell (main_pieces n) (10 ∷ []) =
    sym (append_assoc (chain_text n) (worker_line n) (main_line n))
    ∙ ap (λ l. (chain_text n ++ worker_line n) ++ l) (sym (append-nil (main_line n)) ∙ main_spelled n []) in
    let before : source ≡ chain_text n ++ spell (worker_pieces n) (10 ∷ main_line n) = ap (λ l. chain_text n ++ l) (worker_spelled n (main_line n)) in
    chain_derived n source (worker_line n ++ main_line n) refl (worker_tokens n) (worker_item (worker_places n) n ∷ main_item (main_places n) n ∷ [])
    (AreItems.another_item {is = worker_item (worker_places n) n ∷ []}
    (worker_derived n source (worker_place n) (10 ∷ main_line n) (main_tokens n) (stands_at source (chain_text n) (worker_pieces n) (10 ∷ main_line n) before))
    (AreItems.another_item {is = main_item (main_places n) n ∷ []}
    (main_derived n source (main_place n) (10 ∷ []) [] (stands_at source (chain_text n ++ worker_line n) (main_pieces n) (10 ∷ []) last))
    AreItems.no_more_items))
