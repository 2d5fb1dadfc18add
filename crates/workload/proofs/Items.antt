-- The tree of the workload's source: an item for each line, by the places of its tokens.
use Rattle.workload.proofs.Common.{ℕ, zero, suc, true, false, List, [], ◌∷◌, ◌++◌, length, Some, codes, BinaryOperator, NameTree, RawExprTree, RawNumber, RawName, RawBinary, RawCall, NoExprs, And, RawDeclareScalar, RawSet, RawCalling, RawStmtTrees, RawDo, RawFor, RawReturn, NoRawStmts, RawThen, RawItemTree, RawFunctionItem, chain_text, worker_line}
use Rattle.workload.proofs.Spelling.{place_of}
use Rattle.workload.proofs.Pieces.{chain_name, first_pieces, link_pieces, worker_pieces, main_pieces}

-- a name at a place
abbrev pub named : ℕ → List ℕ → NameTree
named at text = record { at = at; text = text }

abbrev pub value : ℕ → List ℕ → RawExprTree
value at text = RawName (named at text)

-- the sum of a name's value and 1
abbrev pub one_more : ℕ → List ℕ → RawExprTree
one_more at text = RawBinary BinaryOperator.Add (value at text) (RawNumber 1)

abbrev pub first_body : (ℕ → ℕ) → RawStmtTrees
first_body p = RawThen (RawReturn (p 7) (Some (value (p 8) (codes "x")))) NoRawStmts

abbrev pub first_item : (ℕ → ℕ) → RawItemTree
first_item p = RawFunctionItem true (named (p 1) (chain_name 0)) (named (p 4) (codes "x") ∷ []) (first_body p)

abbrev pub link_body : (ℕ → ℕ) → ℕ → RawStmtTrees
link_body p m =
    RawThen (RawDo (RawDeclareScalar (named (p 8) (codes "r"))))
    (RawThen (RawDo (RawSet (named (p 10) (codes "r")) (RawCall (named (p 12) (chain_name m)) (And (one_more (p 14) (codes "x")) NoExprs))))
    (RawThen (RawReturn (p 19) (Some (value (p 20) (codes "r")))) NoRawStmts))

abbrev pub link_item : (ℕ → ℕ) → ℕ → ℕ → RawItemTree
link_item p i m = RawFunctionItem true (named (p 1) (chain_name i)) (named (p 4) (codes "x") ∷ []) (link_body p m)

abbrev pub worker_body : (ℕ → ℕ) → ℕ → RawStmtTrees
worker_body p n =
    RawThen (RawDo (RawDeclareScalar (named (p 8) (codes "c"))))
    (RawThen (RawDo (RawDeclareScalar (named (p 11) (codes "v"))))
    (RawThen (RawDo (RawSet (named (p 13) (codes "c")) (RawCall (named (p 15) (codes "accept")) NoExprs)))
    (RawThen (RawDo (RawSet (named (p 19) (codes "v")) (RawCall (named (p 21) (codes "wait")) (And (value (p 23) (codes "c")) NoExprs))))
    (RawThen (RawDo (RawSet (named (p 26) (codes "v")) (RawCall (named (p 28) (chain_name n)) (And (value (p 30) (codes "v")) NoExprs))))
    (RawThen (RawDo (RawCalling (named (p 33) (codes "put")) (And (value (p 35) (codes "v")) NoExprs))) NoRawStmts)))))

abbrev pub worker_item : (ℕ → ℕ) → ℕ → RawItemTree
worker_item p n = RawFunctionItem false (named (p 1) (codes "w")) (named (p 4) (codes "n") ∷ []) (worker_body p n)

abbrev pub main_body : (ℕ → ℕ) → ℕ → RawStmtTrees
main_body p n =
    RawThen (RawDo (RawDeclareScalar (named (p 6) (codes "i"))))
    (RawThen
    (RawFor (RawSet (named (p 10) (codes "i")) (RawNumber 0) ∷ []) (Some (RawBinary BinaryOperator.Less (value (p 14) (codes "i")) (RawNumber n)))
    (Some (RawSet (named (p 18) (codes "i")) (one_more (p 20) (codes "i"))))
    (RawDo (RawCalling (named (p 24) (codes "spawn")) (And (value (p 26) (codes "w")) (And (value (p 28) (codes "i")) NoExprs)))))
    (RawThen (RawReturn (p 31) (Some (RawNumber 0))) NoRawStmts))

abbrev pub main_item : (ℕ → ℕ) → ℕ → RawItemTree
main_item p n = RawFunctionItem true (named (p 1) (codes "main")) [] (main_body p n)

-- the places of the tokens of each line
abbrev pub first_places : ℕ → ℕ
first_places k = place_of 0 first_pieces k

abbrev pub link_places : ℕ → ℕ → ℕ
link_places m k = place_of (length (chain_text m)) (link_pieces (suc m) m) k

abbrev pub worker_places : ℕ → ℕ → ℕ
worker_places n k = place_of (length (chain_text n)) (worker_pieces n) k

abbrev pub main_places : ℕ → ℕ → ℕ
main_places n k = place_of (length (chain_text n ++ worker_line n)) (main_pieces n) k

-- the chain's items up to function m, with those that come after them
abbrev pub chain_items : ℕ → List RawItemTree → List RawItemTree
chain_items zero items = first_item first_places ∷ items
chain_items (suc m) items = chain_items m (link_item (link_places m) (suc m) m ∷ items)

-- all of the source
abbrev pub program_items : ℕ → List RawItemTree
program_items n = chain_items n (worker_item (worker_places n) n ∷ main_item (main_places n) n ∷ [])
