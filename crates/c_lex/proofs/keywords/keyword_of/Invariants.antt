use Rattle.c_lex.specs.declared.keywords.Keyword.TheVariants as keywords
use Rattle.c_lex.proofs.Common.{ℕ, ◌≢◌, ◌<◌, get_or, keyword_text}
use Rattle.c_lex.proofs.keywords.keyword_of.Given as goal

-- none so far
abbrev pub invariant-loop-keyword : goal.invariant-loop-keyword
invariant-loop-keyword l = (k : ℕ) → k < l.keyword-index → l.word ≢ keyword_text (get_or l.keyword-items k keywords.Auto)
