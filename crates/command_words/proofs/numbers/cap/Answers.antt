use Rattle.command_words.proofs.Common.{◌≡◌, ◌∙◌, ◌∷◌, [], ◌+◌, ◌≤◌, sym, Some, None, arith, Decides-eqb, strip_prefix_is, canonical_decimal}
use Rattle.command_words.proofs.Decimals.{cap_text_is, cap_parts}
use Rattle.command_words.proofs.numbers.cap.Goals as goal
use Rattle.command_words.proofs.numbers.cap.Goals.{then-digit-lt49-via-then-digit-lt49, then-digit-lt49-via-else-digit-lt49+then-digit-gt55}

pub returns-in_default-clause-none : goal.returns-in_default-clause-none
returns-in_default-clause-none c resource most least small some few text =
    let parts = cap_parts c.args.field.now c.in_ok-digit.rest.now c.in_ok-digit.digit.now resource most c.in_ok-digit.ensures.cases.0 small text in
    strip_prefix_is Decides-eqb c.in_ok-digit.rest.now (61 ∷ []) None c.in_default.ensures.cases (canonical_decimal most) parts.1

pub returns-then-digit-lt49-clause-none : goal.returns-then-digit-lt49-clause-none
returns-then-digit-lt49-clause-none c resource most least small some few text =
    let parts = cap_parts c.args.field.now c.in_ok-digit.rest.now c.in_ok-digit.digit.now resource most c.in_ok-digit.ensures.cases.0 small text in
    elim c.then-digit-lt49.branch [
      | then-digit-lt49-via-then-digit-lt49 w ↦ absurd (omega (arith, parts.0))
      | then-digit-lt49-via-else-digit-lt49+then-digit-gt55 w ↦ absurd (omega (arith, parts.0))
    ]

pub returns-in_default-read_dec-clause-none : goal.returns-in_default-read_dec-clause-none
returns-in_default-read_dec-clause-none c resource most least small some few text =
    let parts = cap_parts c.args.field.now c.in_ok-digit.rest.now c.in_ok-digit.digit.now resource most c.in_ok-digit.ensures.cases.0 small text in
    let stripped = strip_prefix_is Decides-eqb c.in_ok-digit.rest.now (61 ∷ []) (Some c.in-Some.number) c.in-Some.ensures.cases in
    let both : 61 ∷ c.in-Some.number.now ≡ 61 ∷ canonical_decimal most = sym stripped ∙ parts.1 in
    let read = (rw c.row-row.ensures.most at c.in_default-read_dec.ensures.reads) most few (cc) in
    absurd (cc)

pub returns-then-most-row-clause-none : goal.returns-then-most-row-clause-none
returns-then-most-row-clause-none c resource most least small some few text =
    let parts = cap_parts c.args.field.now c.in_ok-digit.rest.now c.in_ok-digit.digit.now resource most c.in_ok-digit.ensures.cases.0 small text in
    let stripped = strip_prefix_is Decides-eqb c.in_ok-digit.rest.now (61 ∷ []) (Some c.in-Some.number) c.in-Some.ensures.cases in
    let both : 61 ∷ c.in-Some.number.now ≡ 61 ∷ canonical_decimal most = sym stripped ∙ parts.1 in
    let read = (rw c.row-row.ensures.most at c.in-Ok.ensures.reads) most few (cc) in
    let same : c.in-Ok.most ≡ most = cc in
    absurd (omega (arith, c.row-row.ensures.least))

pub returns-clause-found : goal.returns-clause-found
returns-clause-found c =
    let stripped = strip_prefix_is Decides-eqb c.in_ok-digit.rest.now (61 ∷ []) (Some c.in-Some.number) c.in-Some.ensures.cases in
    let digit : 48 + c.from.result ≡ c.in_ok-digit.digit.now = omega arith in
    let small : c.from.result ≤ 7 = omega arith in
    let parts : c.in_ok-digit.digit.now ∷ c.in_ok-digit.rest.now ≡ (48 + c.from.result) ∷ 61 ∷ canonical_decimal c.in-Ok.most = cc
    (stripped, c.in-Ok.ensures.number.0) in (
      c.in_ok-digit.ensures.cases.0 ∙ parts ∙ sym (cap_text_is c.from.result c.in-Ok.most small),
      omega arith,
      small,
      omega (arith, c.row-row.ensures.least),
      rw c.row-row.ensures.most at c.in-Ok.ensures.number.1,
    )
