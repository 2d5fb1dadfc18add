-- A jump passes over each statement whole, so it comes to the end of the loop in whose body it stands.
use Rattle.c_tree.specs.Trees.{SimpleTree, StmtTree, StmtTrees, Block, For, NoStmts, Then}
use Rattle.c_mean.proofs.Common.{◌≡◌, ◌∙◌, ℕ, suc, List, [], ◌∷◌, ◌++◌, map, Option, Some, None, refl, Item, Simply, Test, Enter, Back, Loop, WhileLoop, ForLoop, step_item, before, all_before, body_before, after_leave, after_skip, skipped}

-- ---- `break`

leave_simples : (n : ℕ) (ss : List SimpleTree) (rest : List Item) → after_leave n (map Simply ss ++ rest) ≡ after_leave n rest
leave_simples n [] rest = refl
leave_simples n (s ∷ ss) rest = leave_simples n ss rest

leave_step : (n : ℕ) (step : Option SimpleTree) (rest : List Item) → after_leave n (step_item step ++ rest) ≡ after_leave n rest
leave_step n None rest = refl
leave_step n (Some s) rest = refl

mutual
  pub leave_passes : (n : ℕ) (s : StmtTree) (rest : List Item) → after_leave n (before s rest) ≡ after_leave n rest
  leave_passes n (Block ss) rest = leave_passes_all n ss rest
  leave_passes n (For init None step s) rest =
      let back = Back (ForLoop None step s) ∷ rest in
      let body = before s (step_item step ++ back) in
      leave_simples n init (Enter ∷ body) ∙ (leave_passes (suc n) s (step_item step ++ back) ∙ leave_step (suc n) step back)
  leave_passes n (For init (Some c) step s) rest = leave_simples n init (Test c (ForLoop (Some c) step s) ∷ rest)
  leave_passes n _ rest = refl

  leave_passes_all : (n : ℕ) (ss : StmtTrees) (rest : List Item) → after_leave n (all_before ss rest) ≡ after_leave n rest
  leave_passes_all n NoStmts rest = refl
  leave_passes_all n (Then s ss) rest = leave_passes n s (all_before ss rest) ∙ leave_passes_all n ss rest

pub leave_body : (loop : Loop) (rest : List Item) → after_leave 0 (body_before loop rest) ≡ rest
leave_body (WhileLoop c s) rest = leave_passes 0 s (Back (WhileLoop c s) ∷ rest)
leave_body (ForLoop c step s) rest = leave_passes 0 s (step_item step ++ Back (ForLoop c step s) ∷ rest) ∙ leave_step 0 step (Back (ForLoop c step s) ∷ rest)

-- ---- `continue`

skip_simples : (n : ℕ) (ss : List SimpleTree) (rest : List Item) → after_skip n (map Simply ss ++ rest) ≡ after_skip n rest
skip_simples n [] rest = refl
skip_simples n (s ∷ ss) rest = skip_simples n ss rest

skip_step : (n : ℕ) (step : Option SimpleTree) (rest : List Item) → after_skip n (step_item step ++ rest) ≡ after_skip n rest
skip_step n None rest = refl
skip_step n (Some s) rest = refl

mutual
  pub skip_passes : (n : ℕ) (s : StmtTree) (rest : List Item) → after_skip n (before s rest) ≡ after_skip n rest
  skip_passes n (Block ss) rest = skip_passes_all n ss rest
  skip_passes n (For init None step s) rest =
      let back = Back (ForLoop None step s) ∷ rest in
      let body = before s (step_item step ++ back) in
      skip_simples n init (Enter ∷ body) ∙ (skip_passes (suc n) s (step_item step ++ back) ∙ skip_step (suc n) step back)
  skip_passes n (For init (Some c) step s) rest = skip_simples n init (Test c (ForLoop (Some c) step s) ∷ rest)
  skip_passes n _ rest = refl

  skip_passes_all : (n : ℕ) (ss : StmtTrees) (rest : List Item) → after_skip n (all_before ss rest) ≡ after_skip n rest
  skip_passes_all n NoStmts rest = refl
  skip_passes_all n (Then s ss) rest = skip_passes n s (all_before ss rest) ∙ skip_passes_all n ss rest

pub skip_body : (loop : Loop) (rest : List Item) → after_skip 0 (body_before loop rest) ≡ skipped loop rest
skip_body (WhileLoop c s) rest = skip_passes 0 s (Back (WhileLoop c s) ∷ rest)
skip_body (ForLoop c step s) rest = skip_passes 0 s (step_item step ++ Back (ForLoop c step s) ∷ rest) ∙ skip_step 0 step (Back (ForLoop c step s) ∷ rest)
