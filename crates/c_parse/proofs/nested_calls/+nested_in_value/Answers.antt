use Rattle.std.proofs.lemmas.Bool.Decides.{nat_tests}
use Rattle.c_parse.proofs.Common.{◌≡◌, ◌≢◌, ◌∙◌, ℕ, Bool, false, nat_eq, List, [], ◌∷◌, length, map, vec_len, refl, sym, ap, subst, arith, RawExprTree, raw_expr_tree, raw_chained, raw_operand_tree, raw_expr_tree-Chain, first_call, nested_in_value}
use Rattle.c_parse.proofs.CallChains.{some_chain_value}
use Rattle.c_parse.proofs.nested_calls.+nested_in_value.Goals as goal

not_empty : (n m : ℕ) (b : Bool) → b ≡ false → b ≡ nat_eq n 0 → n ≡ m → m ≢ 0
not_empty n m b e f g = grind (arith, nat_tests)

none_mapped : {A B : Type 0} (f : A → B) (xs : List A) → map f xs ≡ [] → length xs ≡ 0
none_mapped f [] e = refl
none_mapped f (x ∷ xs) e = cc

pub returns-else-is_empty : goal.returns-else-is_empty
returns-else-is_empty t c =
    let left = c.in-Chain.left in
    let rest = c.in-Chain.rest in
    let some : length rest.items ≢ 0 = not_empty (vec_len rest) (length rest.items) c.is_empty.result c.if-is_empty.false c.is_empty.ensures rest.ok.0 in
    let many : map raw_operand_tree rest.items ≡ [] → ⊥ = λ e. some (none_mapped raw_operand_tree rest.items e) in
    let same : raw_expr_tree c.args.value.now ≡ raw_chained (raw_expr_tree left.value) (map raw_operand_tree rest.items) = ap raw_expr_tree c.in-Chain.is ∙ raw_expr_tree-Chain left rest in
    let P : RawExprTree → Type 0 = λ e. first_call e ≡ nested_in_value e in
    c.first_call-else-is_empty.ensures ∙ subst P (sym same) (sym (some_chain_value (raw_expr_tree left.value) (map raw_operand_tree rest.items) many))
