-- The first call of operators one after another, looked for from the left.
use Rattle.c_tree.specs.declared.operators.Infix.{Infix}
use Rattle.c_parse.proofs.Common.{◌≡◌, ℕ, List, [], ◌∷◌, Option, refl, ap, ◌∙◌, RawExprTree, raw_joined, raw_chained, earlier, first_call, nested_in_value}

abbrev pub chain_call : Option ℕ → List (Infix × RawExprTree) → Option ℕ
chain_call found [] = found
chain_call found (p ∷ ps) = chain_call (earlier found (first_call p.1)) ps

pub joined_call : (l : RawExprTree) (o : Infix) (r : RawExprTree) → first_call (raw_joined l o r) ≡ earlier (first_call l) (first_call r)
joined_call l (Infix.Binary op) r = refl
joined_call l _ r = refl

pub chained_call : (l : RawExprTree) (ps : List (Infix × RawExprTree)) → first_call (raw_chained l ps) ≡ chain_call (first_call l) ps
chained_call l [] = refl
chained_call l (p ∷ ps) = chained_call (raw_joined l p.0 p.1) ps ∙ ap (λ f. chain_call f ps) (joined_call l p.0 p.1)

joined_value : (l : RawExprTree) (o : Infix) (r : RawExprTree) → nested_in_value (raw_joined l o r) ≡ first_call (raw_joined l o r)
joined_value l (Infix.Binary op) r = refl
joined_value l _ r = refl

chain_value : (l : RawExprTree) (ps : List (Infix × RawExprTree)) → nested_in_value l ≡ first_call l → nested_in_value (raw_chained l ps) ≡ first_call (raw_chained l ps)
chain_value l [] e = e
chain_value l (p ∷ ps) e = chain_value (raw_joined l p.0 p.1) ps (joined_value l p.0 p.1)

-- operators one after another are no call
pub some_chain_value : (l : RawExprTree) (ps : List (Infix × RawExprTree)) → (ps ≡ [] → ⊥) → nested_in_value (raw_chained l ps) ≡ first_call (raw_chained l ps)
some_chain_value l [] some = absurd (some refl)
some_chain_value l (p ∷ ps) some = chain_value (raw_joined l p.0 p.1) ps (joined_value l p.0 p.1)
