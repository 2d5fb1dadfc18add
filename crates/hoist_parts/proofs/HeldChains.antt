-- Whether a call stands in operators one after another, looked for from the left.
use Rattle.std.proofs.lemmas.Bool.Decides.{nat_tests}
use Rattle.hoist_parts.proofs.Common.{ℕ, ◌≡◌, ◌≢◌, refl, ap, ◌∙◌, Bool, false, ◌||◌, nat_eq, List, [], ◌∷◌, length, map, arith, Infix, RawExprTree, raw_joined, raw_chained, holds_call, holds_nested, is_left_alone}

abbrev pub chain_held : Bool → List (Infix × RawExprTree) → Bool
chain_held b [] = b
chain_held b (p ∷ ps) = chain_held (b || holds_call p.1) ps

joined_held : (l : RawExprTree) (op : Infix) (r : RawExprTree) → holds_call (raw_joined l op r) ≡ (holds_call l || holds_call r)
joined_held l (Infix.Binary op) r = refl
joined_held l _ r = refl

pub chained_held : (l : RawExprTree) (ps : List (Infix × RawExprTree)) → holds_call (raw_chained l ps) ≡ chain_held (holds_call l) ps
chained_held l [] = refl
chained_held l (p ∷ ps) = chained_held (raw_joined l p.0 p.1) ps ∙ ap (λ b. chain_held b ps) (joined_held l p.0 p.1)

-- ---- what holds of each operator between two operands holds of a chain that has operators

chain_all : (P : RawExprTree → Type 0) → ((l : RawExprTree) (op : Infix) (r : RawExprTree) → P (raw_joined l op r)) → (l : RawExprTree) (ps : List (Infix × RawExprTree)) → P l → P (raw_chained l ps)
chain_all P one l [] h = h
chain_all P one l (p ∷ ps) h = chain_all P one (raw_joined l p.0 p.1) ps (one l p.0 p.1)

pub some_chain : (P : RawExprTree → Type 0) → ((l : RawExprTree) (op : Infix) (r : RawExprTree) → P (raw_joined l op r)) → (l : RawExprTree) (ps : List (Infix × RawExprTree)) → (ps ≡ [] → ⊥) → P (raw_chained l ps)
some_chain P one l [] some = absurd (some refl)
some_chain P one l (p ∷ ps) some = chain_all P one (raw_joined l p.0 p.1) ps (one l p.0 p.1)

-- such a chain is neither a call nor a number
pub joined_nested : (l : RawExprTree) (op : Infix) (r : RawExprTree) → holds_call (raw_joined l op r) ≡ holds_nested (raw_joined l op r)
joined_nested l (Infix.Binary op) r = refl
joined_nested l _ r = refl

pub joined_alone : (l : RawExprTree) (op : Infix) (r : RawExprTree) → is_left_alone (raw_joined l op r) ≡ false
joined_alone l (Infix.Binary op) r = refl
joined_alone l _ r = refl

-- a row that was tested not to be empty
not_empty : (n m : ℕ) (b : Bool) → b ≡ false → b ≡ nat_eq n 0 → n ≡ m → m ≢ 0
not_empty n m b e f g = grind (arith, nat_tests)

none_mapped : {A B : Type 0} (f : A → B) (xs : List A) → map f xs ≡ [] → length xs ≡ 0
none_mapped f [] e = refl
none_mapped f (x ∷ xs) e = cc

pub some_mapped : {A B : Type 0} (f : A → B) (xs : List A) (n : ℕ) (b : Bool) → b ≡ false → b ≡ nat_eq n 0 → n ≡ length xs → map f xs ≡ [] → ⊥
some_mapped f xs n b e t l h = not_empty n (length xs) b e t l (none_mapped f xs h)
