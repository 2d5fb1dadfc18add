use Rattle.segment_run.proofs.Common.{◌≡◌, ℕ, ◌+◌, ◌-◌, ◌/◌, ◌<◌, List, length, get_or, sym, ap, subst, ◌∙◌, arith, accepted_tree, checked_of, place_of, fact_at, Certificate, FunctionFact}
use Rattle.segment_run.proofs.Reading.{Lies, lies, payload_length, returns_is}
use Rattle.segment_run.proofs.walking.return_of.Goals as goal
use Rattle.segment_run.proofs.walking.return_of.Goals.{Start, After-fact_of-fact}

lying : (c : Start) → Lies c.args.accepted.now.certificate c.args.pool.now c.args.frame
lying c =
    let a = c.args.accepted.now in
    let (chain, at, below, is) = c.requires.there in
    lies (accepted_tree a) a.image a.certificate c.args.pool.now c.args.frame chain at below a.program.well_scoped c.requires.valid is

-- the place of its return address
ra_is : (c : After-fact_of-fact) → c.fact_of-fact.result.now.ra ≡ (fact_at c.args.accepted.now.certificate c.args.frame.function).ra
ra_is c = ap (λ (f : FunctionFact). f.ra) (c.fact_of-fact.ensures ∙ ap (λ (x : Certificate). fact_at x c.args.frame.function) c.certificate.ensures)

pub place_of-start-requires : goal.place_of-start-requires
place_of-start-requires c = (lying (goal.at.place_of-start-requires c).Start).chunk

pub fact_of-fact-requires : goal.fact_of-fact-requires
fact_of-fact-requires c =
    subst (λ (x : Certificate). c.args.frame.function < length x.functions) (sym c.certificate.ensures) (lying (goal.at.fact_of-fact-requires c).Start).function

pub overflow_add-offset : goal.overflow_add-offset
overflow_add-offset c =
    let at = goal.at.overflow_add-offset c in
    omega (arith, ra_is at.After-fact_of-fact, (lying at.Start).high, (lying at.Start).ra, c.place_of-start.ensures.below_end)

pub overflow_sub-offset : goal.overflow_sub-offset
overflow_sub-offset c =
    let at = goal.at.overflow_sub-offset c in
    omega (arith, ra_is at.After-fact_of-fact, (lying at.Start).low, c.place_of-start.ensures.place)

pub payload-payload-requires : goal.payload-payload-requires
payload-payload-requires c = (lying (goal.at.payload-payload-requires c).Start).chunk

pub overflow_sub-result : goal.overflow_sub-result
overflow_sub-result c =
    let at = goal.at.overflow_sub-result c in
    omega (arith, ra_is at.After-fact_of-fact, (lying at.Start).low, c.place_of-start.ensures.place)

pub bounds-payload-offset : goal.bounds-payload-offset
bounds-payload-offset c =
    let at = goal.at.bounds-payload-offset c in
    let l = lying at.Start in
    let long = ap length c.payload-payload.ensures.value ∙ payload_length c.args.pool.now c.args.frame.chunk c.payload-payload.ensures.sound l.chunk in
    omega (arith, ra_is at.After-fact_of-fact, l.low, l.high, l.ra, c.place_of-start.ensures.place, long)

pub returns : goal.returns
returns c = λ chain at below is.
    let ra = ra_is (goal.at.returns c).After-fact_of-fact in
    let low = (lying (goal.at.returns c).Start).low in
    let offset = c.args.frame.low + c.fact_of-fact.result.now.ra - c.place_of-start.result in
    let fact = fact_at c.args.accepted.now.certificate c.args.frame.function in
    let offset_is : offset ≡ c.args.frame.low + fact.ra - place_of c.args.pool.now c.args.frame.chunk =
    (λ i. c.args.frame.low + ra i - c.place_of-start.ensures.place i) in
    ap (λ (words : List ℕ). get_or words (offset / 4 - 4) 0) c.payload-payload.ensures.value
    ∙ returns_is (checked_of c.args.accepted.now) c.args.pool.now c.args.frame chain at below offset is offset_is
    (omega (arith, ra, low, c.place_of-start.ensures.place))
