-- The variables of a function: their sizes in words, and which of them are in scope from the start.
use Rattle.std.specs.Prelude.{ℕ, zero, suc, List, [], ◌∷◌, ◌++◌, map}
use Rattle.c_tree.specs.Trees.{FunctionTree}
use Rattle.c_tree.specs.TextOrder.{stmts_names}

-- n variables of one word
abbrev pub scalars : ℕ → List ℕ
scalars zero = []
scalars (suc n) = 1 ∷ scalars n

-- the numbers below n
abbrev pub below : ℕ → List ℕ
below zero = []
below (suc n) = n ∷ below n

-- the sizes in words of the names that a function's body declares, in the order of the text
abbrev pub declared_words : FunctionTree → List ℕ
declared_words f = map (λ d. d.words) (stmts_names f.body)

-- the size of each variable in words: the parameters, and then the declared names
abbrev pub sizes_of : FunctionTree → List ℕ
sizes_of f = scalars f.params ++ declared_words f
