use Rattle.c_lex.proofs.Common.{◌++◌, length, drop, sym, ap, ◌∙◌, subst, arith, below_more, ⊎_elim, cases_lt, both_ways, Decides-eqb, starts_is, mark_text, BeginsWith}
use Rattle.c_lex.proofs.MarkTable.{mark_place, mark_at_place, mark_place-lt, length_falls}
use Rattle.c_lex.proofs.marks.mark_at.Goals as goal

pub returns-then-starts_with-clause-found : goal.returns-then-starts_with-clause-found
returns-then-starts_with-clause-found c =
    let begins = (starts_is Decides-eqb c.args.text.now c.as_bytes.result.now _ c.starts_with.ensures.value).0 c.if-starts_with.true in
    (drop (length c.as_bytes.result.now) c.args.text.now, begins ∙ ap (λ front. front ++ drop (length c.as_bytes.result.now) c.args.text.now) (c.as_bytes.ensures.value ∙ c.text.ensures))

-- a longer one would have come before
pub returns-then-starts_with-clause-longest : goal.returns-then-starts_with-clause-longest
returns-then-starts_with-clause-longest c = λ other begins.
    ⊎_elim
    (λ earlier. absurd (c.loop-mark.invariant (mark_place other) earlier (subst (λ mark. BeginsWith c.args.text.now (mark_text mark)) (sym (mark_at_place other)) begins)))
    (λ later. length_falls c.loop-mark.mark-index other (omega arith) later)
    (cases_lt (mark_place other) c.loop-mark.mark-index)

-- the text does not begin with this mark
pub loop-mark-preserved : goal.loop-mark-preserved
loop-mark-preserved c =
    below_more _ _ c.loop-mark.invariant (λ begins.
    both_ways _ c.if-starts_with.false ((starts_is Decides-eqb c.args.text.now c.as_bytes.result.now _ c.starts_with.ensures.value).1 begins.0 (begins.1 ∙ ap (λ front. front ++ begins.0) (sym (c.as_bytes.ensures.value ∙ c.text.ensures)))))

-- each mark is in the table
pub returns-clause-none : goal.returns-clause-none
returns-clause-none c = λ mark begins.
    c.loop-mark.invariant (mark_place mark) (omega (arith, mark_place-lt mark)) (subst (λ mark. BeginsWith c.args.text.now (mark_text mark)) (sym (mark_at_place mark)) begins)
