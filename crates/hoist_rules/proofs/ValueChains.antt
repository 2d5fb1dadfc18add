-- A right side of operators is no call itself, so it is rewritten as any other expression.
use Rattle.hoist_rules.proofs.Common.{ℕ, ◌≡◌, refl, Infix, RawExprTree, raw_joined, names_in, left_of, before, value_names, value_left, value_before}

pub joined_value_left : (k : ℕ) (l : RawExprTree) (op : Infix) (r : RawExprTree) → left_of k (raw_joined l op r) ≡ value_left k (raw_joined l op r)
joined_value_left k l (Infix.Binary op) r = refl
joined_value_left k l _ r = refl

pub joined_value_before : (k : ℕ) (l : RawExprTree) (op : Infix) (r : RawExprTree) → before k (raw_joined l op r) ≡ value_before k (raw_joined l op r)
joined_value_before k l (Infix.Binary op) r = refl
joined_value_before k l _ r = refl

pub joined_value_names : (l : RawExprTree) (op : Infix) (r : RawExprTree) → names_in (raw_joined l op r) ≡ value_names (raw_joined l op r)
joined_value_names l (Infix.Binary op) r = refl
joined_value_names l _ r = refl
