-- Operators one after another, from the left.
use Rattle.c_mean.proofs.Common.{◌≡◌, ℕ, List, [], ◌∷◌, refl, sym, ap, subst, ◌∙◌, Ok, Err, TrapKind, ExprTree, Value, value, IsInRange}
use Rattle.c_tree.specs.declared.operators.Infix.{Infix}
use Rattle.c_tree.specs.Views.{joined, chained}
use Rattle.c_mean.specs.Chains.{joined_value, chain_value, IsOpen}

module _ (names globals : List (List ℕ)) where
  joined_is : (l : ExprTree) (o : Infix) (r : ExprTree) → value names globals (joined l o r) ≡ joined_value o (value names globals l) (value names globals r)
  joined_is l (Infix.Binary operator) r = refl
  joined_is l _ r = refl

  pub chained_is : (l : ExprTree) (ps : List (Infix × ExprTree)) → value names globals (chained l ps) ≡ chain_value names globals (value names globals l) ps
  chained_is l [] = refl
  chained_is l (p ∷ ps) = chained_is (joined l p.0 p.1) ps ∙ ap (λ v. chain_value names globals v ps) (joined_is l p.0 p.1)

  trap_first : (o : Infix) (trap : TrapKind) (right : Value) → joined_value o (Err trap) right ≡ Err trap
  trap_first (Infix.Binary operator) trap right = refl
  trap_first _ trap right = refl

  -- a trap is the value of all that follows it
  pub chain_trap : (trap : TrapKind) (ps : List (Infix × ExprTree)) → chain_value names globals (Err trap) ps ≡ Err trap
  chain_trap trap [] = refl
  chain_trap trap (p ∷ ps) = ap (λ v. chain_value names globals v ps) (trap_first p.0 trap (value names globals p.1)) ∙ chain_trap trap ps

module _ (sizes widths : List ℕ) where
  -- the operands of a chain, after its first
  abbrev pub OperandsInRange : List (Infix × ExprTree) → Type 0
  OperandsInRange [] = Unit {0}
  OperandsInRange (p ∷ ps) = IsInRange sizes widths p.1 × OperandsInRange ps

  joined_in_range : (l : ExprTree) (o : Infix) (r : ExprTree) → IsInRange sizes widths (joined l o r) → IsInRange sizes widths l × IsInRange sizes widths r
  joined_in_range l (Infix.Binary operator) r h = h
  joined_in_range l _ r h = h

  pub chained_in_range : (l : ExprTree) (ps : List (Infix × ExprTree)) → IsInRange sizes widths (chained l ps) → IsInRange sizes widths l × OperandsInRange ps
  chained_in_range l [] h = (h, tt)
  chained_in_range l (p ∷ ps) h =
      let rest = chained_in_range (joined l p.0 p.1) ps h in
      let two = joined_in_range l p.0 p.1 rest.0 in
      (two.0, (two.1, rest.1))

-- ---- a chain in a tree

module _ (names globals : List (List ℕ)) (tree first : ExprTree) (rest : List (Infix × ExprTree)) (is : tree ≡ chained first rest) where
  -- the first operand traps
  pub first_trap : (trap : TrapKind) → Err trap ≡ value names globals first → Err trap ≡ value names globals tree
  first_trap trap e =
      sym (ap (value names globals) is ∙ chained_is names globals first rest ∙ ap (λ v. chain_value names globals v rest) (sym e) ∙ chain_trap names globals trap rest)

  -- the first operand has a value
  pub first_value : (left : ℕ) → Ok left ≡ value names globals first → chain_value names globals (Ok left) rest ≡ value names globals tree
  first_value left e = ap (λ v. chain_value names globals v rest) e ∙ sym (ap (value names globals) is ∙ chained_is names globals first rest)

-- an operand that is evaluated traps
pub later_trap : (names globals : List (List ℕ)) (all : Value) (left : ℕ) (o : Infix) (e : ExprTree) (rest : List (Infix × ExprTree)) (trap : TrapKind) → chain_value names globals (Ok left) ((o, e) ∷ rest) ≡ all → IsOpen o left → Err trap ≡ value names globals e → Err trap ≡ all
later_trap names globals all left o e rest trap h open_here t =
    sym (sym h ∙ ap (λ v. chain_value names globals (joined_value o (Ok left) v) rest) (sym t) ∙ ap (λ v. chain_value names globals v rest) (open_here trap) ∙ chain_trap names globals trap rest)

pub chain_in_range : (sizes widths : List ℕ) (tree first : ExprTree) (rest : List (Infix × ExprTree)) → tree ≡ chained first rest → IsInRange sizes widths tree → IsInRange sizes widths first × OperandsInRange sizes widths rest
chain_in_range sizes widths tree first rest is h = chained_in_range sizes widths first rest (subst (IsInRange sizes widths) is h)
