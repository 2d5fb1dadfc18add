use Rattle.std.proofs.Common.{sym, ◌∙◌}
use Rattle.std.proofs.lemmas.Slice.Eq.{bytes_eq-Decides}
use Rattle.schedule_reading.proofs.closing.is_key_of.Goals as goal

pub returns : goal.returns
returns c =
    let same = bytes_eq-Decides c.key.result c.args.key.now in
    λ tree. (λ yes. sym (same.0 (sym c.eq.ensures ∙ yes)) ∙ c.key.ensures tree, λ is. c.eq.ensures ∙ same.1 (c.key.ensures tree ∙ sym is))
