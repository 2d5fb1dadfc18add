use Rattle.certificate_text.proofs.Numbers.{no_next, some_left}
use Rattle.certificate_text.proofs.fact_lines.read_places.Goals as goal

pub returns-in_default-clause-none : goal.returns-in_default-clause-none
returns-in_default-clause-none c places few words is =
    let loop = c.loop-places in
    no_next _ loop.places.items loop.fields places loop.invariant.0 is words (some_left loop.fields c.is_over.result c.is_over.ensures c.loop-places-test.true) c.in_default.ensures.none
