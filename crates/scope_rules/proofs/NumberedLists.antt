-- Statements whose parts have other numbers of their calls.
use Rattle.scope_rules.proofs.Common.{◌≡◌, ℕ, List, [], ◌∷◌, map, refl, sym, ap, ◌∙◌, Box, option_map, Global, Expr, ForParts, Stmt, StmtTree, If, IfElse, While, For, Then, expr_tree, simple_tree, stmt_tree, in_order, stmt_tree-If, stmt_tree-IfElse, stmt_tree-While, stmt_tree-For, simple_numbered, stmt_numbered, stmts_numbered}
use Rattle.c_tree.specs.declared.statements.Stmt.TheViews as code

pub numbered_in_order : (ns : List ℕ) (ts : List StmtTree) → in_order (map (stmt_numbered ns) ts) ≡ stmts_numbered ns (in_order ts)
numbered_in_order ns [] = refl
numbered_in_order ns (t ∷ ts) = ap (Then (stmt_numbered ns t)) (numbered_in_order ns ts)

-- a statement whose parts are numbered, of the statement s
module _ (ns : List ℕ) (s : Stmt) where
  pub if_numbered : (c d : Expr) (p : Box Stmt Global) (q : Stmt) → s ≡ code.If c p → d ≡ c → stmt_tree q ≡ stmt_numbered ns (stmt_tree p.value) → If (expr_tree d) (stmt_tree q) ≡ stmt_numbered ns (stmt_tree s)
  if_numbered c d p q is e f = (λ i. If (expr_tree (e i)) (f i)) ∙ sym (ap (stmt_numbered ns) (ap stmt_tree is ∙ stmt_tree-If c p))

  pub if_else_numbered : (c d : Expr) (p r : Box Stmt Global) (q t : Stmt) → s ≡ code.IfElse c p r → d ≡ c → stmt_tree q ≡ stmt_numbered ns (stmt_tree p.value) → stmt_tree t ≡ stmt_numbered ns (stmt_tree r.value) →
      IfElse (expr_tree d) (stmt_tree q) (stmt_tree t) ≡ stmt_numbered ns (stmt_tree s)
  if_else_numbered c d p r q t is e f g = (λ i. IfElse (expr_tree (e i)) (f i) (g i)) ∙ sym (ap (stmt_numbered ns) (ap stmt_tree is ∙ stmt_tree-IfElse c p r))

  pub while_numbered : (c d : Expr) (p : Box Stmt Global) (q : Stmt) → s ≡ code.While c p → d ≡ c → stmt_tree q ≡ stmt_numbered ns (stmt_tree p.value) → While (expr_tree d) (stmt_tree q) ≡ stmt_numbered ns (stmt_tree s)
  while_numbered c d p q is e f = (λ i. While (expr_tree (e i)) (f i)) ∙ sym (ap (stmt_numbered ns) (ap stmt_tree is ∙ stmt_tree-While c p))

  pub for_numbered : (parts : Box ForParts Global) (p : Box Stmt Global) (made : ForParts) (q : Stmt) → s ≡ code.For parts p → map simple_tree made.init.items ≡ map (simple_numbered ns) (map simple_tree parts.value.init.items) → made.condition ≡ parts.value.condition →
      option_map simple_tree made.step ≡ option_map (simple_numbered ns) (option_map simple_tree parts.value.step) → stmt_tree q ≡ stmt_numbered ns (stmt_tree p.value) →
      For (map simple_tree made.init.items) (option_map expr_tree made.condition) (option_map simple_tree made.step) (stmt_tree q) ≡ stmt_numbered ns (stmt_tree s)
  for_numbered parts p made q is e f g h =
      (λ i. For (e i) (option_map expr_tree (f i)) (g i) (h i)) ∙ sym (ap (stmt_numbered ns) (ap stmt_tree is ∙ stmt_tree-For parts p))
