use Rattle.schedule_log.proofs.Common.{◌≡◌, ◌∙◌, canonical_integer, passed_integer_is}
use Rattle.schedule_log.proofs.writing.write_digits.Goals as goal

pub returns : goal.returns
returns g c =
    let text : c.as_bytes.result.now ≡ canonical_integer c.args.number = c.as_bytes.ensures.value ∙ passed_integer_is _ _ c.ranges.number c.format.ensures.text
    in rw (← text) c.write.ensures
