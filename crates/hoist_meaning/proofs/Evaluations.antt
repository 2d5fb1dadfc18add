-- Every evaluation of the text ends as the rewritten function does: of an expression, of a right side, which itself may be a call, and of an
-- element that is set, whose index comes first.
use Rattle.hoist_meaning.proofs.Common.{ℕ, ◌+◌, ◌≡◌, refl, sym, ap, subst, ◌∙◌, Bool, true, false, List, ◌++◌, arith, RawExprTree, RawExprTrees, RawNumber, RawName, RawElement, RawUnary, RawParenthesized, RawBinary, RawLogicalAnd, RawLogicalOr, RawConditional, RawCall, RawTableCall, NoExprs, And, RightTree, Computed, ProgramTree, Value, Item, Binding, expr_of, right_of, Spot, right_numbered, evaluate, holds_call, holds_nested, is_named, one_if, names_in, part_after, part_named, left_of, before, value_names, value_before, left_whole}
use Rattle.deep_mean.specs.Naming as deep
use Rattle.hoist_meaning.proofs.Bindings.{Agreement, in_tree}
use Rattle.hoist_meaning.proofs.Items.{items_of, after}
use Rattle.hoist_meaning.proofs.Spots.{with_names, before_stands}
use Rattle.hoist_meaning.proofs.Ends.{Rows, NoCall, EndsAs, told_ends}
use Rattle.hoist_meaning.proofs.Premises.{IsElementSound, KnowsSpawnAlone, IsPlaced, IsSound, IsLeft, IsSideSound, side_left, IsSideLeft, IsSideCall}
use Rattle.hoist_meaning.proofs.Settled.{less_placed}
use Rattle.hoist_meaning.proofs.Parts.{MayBe, computed, plain_side_faults, Evaluates}
use Rattle.hoist_meaning.proofs.PlainEnds.{number_ends, name_ends, unary_ends, parenthesized_ends, element_ends}
use Rattle.hoist_meaning.proofs.BinaryEnds.{binary_ends}
use Rattle.hoist_meaning.proofs.LogicalEnds.{and_ends, or_ends}
use Rattle.hoist_meaning.proofs.ConditionalEnds.{conditional_ends}
use Rattle.hoist_meaning.proofs.ArgumentEnds.{ArgumentsEnd, none_end, first_stays, row_ends}
use Rattle.hoist_meaning.proofs.CallEnds.{side_call_ends, call_ends}
use Rattle.hoist_meaning.proofs.TableEnds.{side_table_ends, table_ends}
use Rattle.hoist_meaning.proofs.ElementEnds.{between_by, side_by, AfterBy, pair_ends}

module _ (program : ProgramTree) (ns : List ℕ) (f : ℕ) (text : Rows) (ds : List Binding) (spawns : KnowsSpawnAlone ds) (gives loop : Bool) where
  mutual
    evaluates : (e : RawExprTree) → Evaluates program ns f text ds gives loop e
    evaluates (RawNumber n) = number_ends program ns f text ds gives loop n
    evaluates (RawName n) = name_ends program ns f text ds gives loop n
    evaluates (RawElement n i) = element_ends program ns f text ds gives loop n i (evaluates i)
    evaluates (RawUnary op e) = unary_ends program ns f text ds gives loop op e (evaluates e)
    evaluates (RawParenthesized e) = parenthesized_ends program ns f text ds gives loop e (evaluates e)
    evaluates (RawBinary op l r) = binary_ends program ns f text ds gives loop op l r (evaluates l) (evaluates r)
    evaluates (RawLogicalAnd l r) = and_ends program ns f text ds gives loop l r (evaluates l) (evaluates r)
    evaluates (RawLogicalOr l r) = or_ends program ns f text ds gives loop l r (evaluates l) (evaluates r)
    evaluates (RawConditional c x y) = conditional_ends program ns f text ds gives loop c x y (evaluates c) (evaluates x) (evaluates y)
    evaluates (RawCall n es) = call_ends program ns f text ds spawns gives loop n es (arguments_end es)
    evaluates (RawTableCall n i e) = table_ends program ns f text ds gives loop n i e (evaluates i) (evaluates e)

    arguments_end : (es : RawExprTrees) (stays : Bool) → ArgumentsEnd program ns f text ds gives loop stays es
    arguments_end NoExprs stays = none_end program ns f text ds gives loop stays
    arguments_end (And e es) true = first_stays program ns f text ds gives loop e es (arguments_end es false)
    arguments_end (And e es) false = row_ends program ns f text ds gives loop e es (evaluates e) (arguments_end es false)

  -- an expression
  pub evaluation_alike : (strict : Bool) (a : Agreement) (k v site : ℕ) (e : RawExprTree) (s : Spot) (globals names : Rows) (rest : List Item) → MayBe strict e → IsPlaced text names ds a v (names_in e) s → IsSound ns gives loop a k v site e s →
      EndsAs program f text strict (IsLeft v (with_names k v e a) (left_of k e) names) NoCall rest globals names (items_of ns s (before k e) rest) (evaluate text globals (deep.expr_of ds site e))
  evaluation_alike strict a k v site e s globals names rest may placed sound = evaluates e strict may a k v site s globals names rest placed sound

  -- a right side that is no call
  plain_side : (a : Agreement) (k v site : ℕ) (e : RawExprTree) (s : Spot) (globals names : Rows) (rest : List Item) → MayBe true e → IsPlaced text names ds a v (names_in e) s → IsSound ns gives loop a k v site e s →
      EndsAs program f text true (IsSideLeft v (right_numbered ns (right_of (after s (before k e)).names (after s (before k e)).site (left_of k e))) names) (IsSideCall v (right_numbered ns (right_of (after s (before k e)).names (after s (before k e)).site (left_of k e))) names) rest globals names
      (items_of ns s (before k e) rest) (evaluate text globals (deep.expr_of ds site e))
  plain_side a k v site e s globals names rest may placed sound =
      let b = with_names k v e a in
      let t = after s (before k e) in
      let left = left_of k e in
      let place = before_stands a k v e s placed.place placed.few in
      let is : Computed (expr_of (in_tree b) left) ≡ right_numbered ns (right_of t.names t.site left) = sym (ap (right_numbered ns) (computed t.names t.site left (left_whole k e)) ∙ ap (λ bs. Computed (expr_of bs left)) place.names) in
      subst (λ r. EndsAs program f text true (IsSideLeft v r names) (IsSideCall v r names) rest globals names (items_of ns s (before k e) rest) (evaluate text globals (deep.expr_of ds site e))) is
      (told_ends program f text true (IsLeft v b left names) (IsSideLeft v (Computed (expr_of (in_tree b) left)) names) NoCall (IsSideCall v (Computed (expr_of (in_tree b) left)) names) rest
      (λ others later outcome leaf. record { keeps = leaf.keeps; is = leaf.is }) (λ others later call none. absurd none)
      (evaluates e true may a k v site s globals names rest placed sound))

  -- a right side, a returned value or a call
  pub side_alike : (used_ : Bool) (a : Agreement) (k v site : ℕ) (e : RawExprTree) (s : Spot) (globals names : Rows) (rest : List Item) → IsPlaced text names ds a v (value_names e) s → IsSideSound ns gives loop used_ a k v site e s →
      EndsAs program f text true (IsSideLeft v (side_left ns s k e) names) (IsSideCall v (side_left ns s k e) names) rest globals names (items_of ns s (value_before k e) rest) (evaluate text globals (deep.expr_of ds site e))
  side_alike used_ a k v site (RawCall n es) s globals names rest placed sound = side_call_ends program ns f text ds spawns gives loop n es (arguments_end es) used_ a k v site s globals names rest placed sound
  side_alike used_ a k v site (RawTableCall n i e) s globals names rest placed sound =
      side_table_ends program ns f text ds gives loop n i e (evaluates i) (evaluates e) used_ a k v site s globals names rest
      (less_placed text names ds a v (value_names (RawTableCall n i e)) (names_in i + one_if (is_named (holds_call e) i) + names_in e) s (omega arith) placed) sound
  side_alike used_ a k v site (RawNumber w) s globals names rest placed sound = plain_side a k v site (RawNumber w) s globals names rest tt placed (record { source = sound.source; fine = sound.fine; left_fine = sym (plain_side_faults used_ (in_tree (with_names k v (RawNumber w) a)) (left_of k (RawNumber w)) (left_whole k (RawNumber w))) ∙ sound.left_fine; sites = sound.sites })
  side_alike used_ a k v site (RawName n) s globals names rest placed sound = plain_side a k v site (RawName n) s globals names rest tt placed (record { source = sound.source; fine = sound.fine; left_fine = sym (plain_side_faults used_ (in_tree (with_names k v (RawName n) a)) (left_of k (RawName n)) (left_whole k (RawName n))) ∙ sound.left_fine; sites = sound.sites })
  side_alike used_ a k v site (RawElement n i) s globals names rest placed sound = plain_side a k v site (RawElement n i) s globals names rest tt placed (record { source = sound.source; fine = sound.fine; left_fine = sym (plain_side_faults used_ (in_tree (with_names k v (RawElement n i) a)) (left_of k (RawElement n i)) (left_whole k (RawElement n i))) ∙ sound.left_fine; sites = sound.sites })
  side_alike used_ a k v site (RawUnary op e) s globals names rest placed sound = plain_side a k v site (RawUnary op e) s globals names rest tt placed (record { source = sound.source; fine = sound.fine; left_fine = sym (plain_side_faults used_ (in_tree (with_names k v (RawUnary op e) a)) (left_of k (RawUnary op e)) (left_whole k (RawUnary op e))) ∙ sound.left_fine; sites = sound.sites })
  side_alike used_ a k v site (RawParenthesized e) s globals names rest placed sound = plain_side a k v site (RawParenthesized e) s globals names rest tt placed (record { source = sound.source; fine = sound.fine; left_fine = sym (plain_side_faults used_ (in_tree (with_names k v (RawParenthesized e) a)) (left_of k (RawParenthesized e)) (left_whole k (RawParenthesized e))) ∙ sound.left_fine; sites = sound.sites })
  side_alike used_ a k v site (RawBinary op l r) s globals names rest placed sound = plain_side a k v site (RawBinary op l r) s globals names rest tt placed (record { source = sound.source; fine = sound.fine; left_fine = sym (plain_side_faults used_ (in_tree (with_names k v (RawBinary op l r) a)) (left_of k (RawBinary op l r)) (left_whole k (RawBinary op l r))) ∙ sound.left_fine; sites = sound.sites })
  side_alike used_ a k v site (RawLogicalAnd l r) s globals names rest placed sound = plain_side a k v site (RawLogicalAnd l r) s globals names rest tt placed (record { source = sound.source; fine = sound.fine; left_fine = sym (plain_side_faults used_ (in_tree (with_names k v (RawLogicalAnd l r) a)) (left_of k (RawLogicalAnd l r)) (left_whole k (RawLogicalAnd l r))) ∙ sound.left_fine; sites = sound.sites })
  side_alike used_ a k v site (RawLogicalOr l r) s globals names rest placed sound = plain_side a k v site (RawLogicalOr l r) s globals names rest tt placed (record { source = sound.source; fine = sound.fine; left_fine = sym (plain_side_faults used_ (in_tree (with_names k v (RawLogicalOr l r) a)) (left_of k (RawLogicalOr l r)) (left_whole k (RawLogicalOr l r))) ∙ sound.left_fine; sites = sound.sites })
  side_alike used_ a k v site (RawConditional c x y) s globals names rest placed sound = plain_side a k v site (RawConditional c x y) s globals names rest tt placed (record { source = sound.source; fine = sound.fine; left_fine = sym (plain_side_faults used_ (in_tree (with_names k v (RawConditional c x y) a)) (left_of k (RawConditional c x y)) (left_whole k (RawConditional c x y))) ∙ sound.left_fine; sites = sound.sites })

  -- ---- `a[i] = e`

  -- what follows the index, where what goes before the right side is to do
  module _ (k v site : ℕ) (i e : RawExprTree) (s : Spot) (start : Rows) (rest : List Item) where
    abbrev pub element_between : List Item
    element_between = between_by program ns f text ds spawns gives loop (holds_nested e) k v site i e s start rest

    abbrev pub element_side : RightTree
    element_side = side_by program ns f text ds spawns gives loop (holds_nested e) k v site i e s start rest

    abbrev pub AfterIndex : Rows → Rows → Value → Type 0
    AfterIndex = AfterBy program ns f text ds spawns gives loop (holds_nested e) k v site i e s start rest

  pub element_alike : (a : Agreement) (k v site : ℕ) (i e : RawExprTree) (s : Spot) (globals names : Rows) (rest : List Item) → IsPlaced text names ds a v (part_after 0 (holds_nested e) i + value_names e) s → IsElementSound ns gives loop a k v site i e s →
      EndsAs program f text false (AfterIndex k v site i e s names rest) NoCall (element_between k v site i e s names rest) globals names
      (items_of ns s (before k i ++ part_named (is_named (holds_nested e) i) (k + names_in i) (left_of k i) ++ value_before (part_after k (holds_nested e) i) e) rest) (evaluate text globals (deep.expr_of ds site i))
  element_alike a k v site i e s globals names rest placed sound =
      pair_ends program ns f text ds spawns gives loop i e (evaluates i) (λ c j w other t others later more put well. side_alike true c j w other e t others later more put well) (holds_nested e) refl a k v site s globals names rest
      (less_placed text names ds a v (part_after 0 (holds_nested e) i + value_names e) (names_in i + one_if (is_named (holds_nested e) i) + value_names e) s (omega arith) placed)
      (record { index_source = sound.index_source; source = sound.source; fine = sound.fine; index_fine = sound.index_fine; left_fine = sound.left_fine; index_sites = sound.index_sites; sites = sound.sites })
