use Rattle.c_lex.proofs.Common.{sym, ap, ◌∙◌, arith, below_more, Decides-eqb, not_from_Decides, slice_eq-Decides, keyword_text}
use Rattle.c_lex.proofs.KeywordTable.{keyword_place, keyword_at_place, keyword_place-lt}
use Rattle.c_lex.proofs.keywords.keyword_of.Goals as goal

-- the word is not this keyword
pub loop-keyword-preserved : goal.loop-keyword-preserved
loop-keyword-preserved c =
    let differs = not_from_Decides _ (slice_eq-Decides Decides-eqb _ _ _ c.eq.ensures) c.if-eq.false in
    below_more _ _ c.loop-keyword.invariant (λ same. differs (c.as_bytes.ensures.value ∙ c.text.ensures ∙ sym same))

-- each keyword is in the table
pub returns-clause-none : goal.returns-clause-none
returns-clause-none c = λ keyword same.
    c.loop-keyword.invariant (keyword_place keyword) (omega (arith, keyword_place-lt keyword)) (same ∙ sym (ap keyword_text (keyword_at_place keyword)))
