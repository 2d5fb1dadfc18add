-- Words of names one after another, and which expressions have a value there.
use Rattle.std.specs.Prelude.{◌≡◌, ℕ, ◌<◌, List, [], ◌∷◌, map, take, drop, length, slice_index}
use Rattle.c_tree.specs.declared.facts.GlobalFact.{GlobalFact}
use Rattle.c_tree.specs.Trees.{ExprTree, Number, Local, Global, LocalElement, GlobalElement, Unary, Parenthesized, Binary, LogicalAnd, LogicalOr, Conditional}

-- the rows of names with these widths, cut from the list of their words in order
abbrev pub rows_of : List ℕ → List ℕ → List (List ℕ)
rows_of [] words = []
rows_of (n ∷ ns) words = take n words ∷ rows_of ns (drop n words)

-- the widths of globals
abbrev pub widths_of : List GlobalFact → List ℕ
widths_of globals = map (λ g. g.words) globals

-- the names in an expression exist, among names and globals with these widths, and those without an index have one
-- word
abbrev pub IsInRange : List ℕ → List ℕ → ExprTree → Type 0
IsInRange sizes widths (Number v) = Unit {0}
IsInRange sizes widths (Local x) = (x < length sizes) × (slice_index sizes x ≡ 1)
IsInRange sizes widths (Global g) = (g < length widths) × (slice_index widths g ≡ 1)
IsInRange sizes widths (LocalElement a i) = (a < length sizes) × IsInRange sizes widths i
IsInRange sizes widths (GlobalElement a i) = (a < length widths) × IsInRange sizes widths i
IsInRange sizes widths (Unary operator e) = IsInRange sizes widths e
IsInRange sizes widths (Parenthesized e) = IsInRange sizes widths e
IsInRange sizes widths (Binary operator l r) = IsInRange sizes widths l × IsInRange sizes widths r
IsInRange sizes widths (LogicalAnd l r) = IsInRange sizes widths l × IsInRange sizes widths r
IsInRange sizes widths (LogicalOr l r) = IsInRange sizes widths l × IsInRange sizes widths r
IsInRange sizes widths (Conditional c a b) = IsInRange sizes widths c × IsInRange sizes widths a × IsInRange sizes widths b
