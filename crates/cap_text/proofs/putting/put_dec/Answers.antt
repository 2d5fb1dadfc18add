use Rattle.std.proofs.lemmas.Grind.{common_steps}
use Rattle.cap_text.proofs.Common.{◌≡◌, ◌∙◌, arith, canonical_integer}
use Rattle.cap_text.proofs.DecimalLaws.{passed_integer_is}
use Rattle.cap_text.proofs.putting.put_dec.Goals as goal

pub returns-clause-ok : goal.returns-clause-ok
returns-clause-ok c =
    let text : c.as_bytes.result.now ≡ canonical_integer c.args.value = c.as_bytes.ensures.value ∙ passed_integer_is _ _ c.ranges.value c.format.ensures.text in
    grind (arith, common_steps)

pub returns-clause-full : goal.returns-clause-full
returns-clause-full c =
    let text : c.as_bytes.result.now ≡ canonical_integer c.args.value = c.as_bytes.ensures.value ∙ passed_integer_is _ _ c.ranges.value c.format.ensures.text in
    rw text at c.extend_from_slice.ensures.full
