use Rattle.c_lex.proofs.Common.{ℕ, ◌-◌, ◌≤◌, List, ◌++◌, length, drop, Token, LeadsTo}
use Rattle.c_lex.proofs.lexer.lex.Given as goal

-- what the rest leads to, the source leads to, with the tokens so far before it
abbrev pub invariant-loop-at : goal.invariant-loop-at
invariant-loop-at l = record {
  within : l.at ≤ length l.source;
  leads : (tokens : List Token) (stop : ℕ) (end : List ℕ) → LeadsTo l.at (drop l.at l.source) tokens stop end → LeadsTo 0 l.source (l.tokens.items ++ tokens) stop end;
}

abbrev pub decreases-loop-at : goal.decreases-loop-at
decreases-loop-at l = length l.source - l.at
