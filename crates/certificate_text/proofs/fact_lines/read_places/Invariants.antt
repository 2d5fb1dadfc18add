use Rattle.certificate_text.proofs.Common.{◌≡◌, ◌≤◌, ◌++◌, length, map, canonical_decimal, AreWords}
use Rattle.certificate_text.proofs.fact_lines.read_places.Given as goal

abbrev pub invariant-loop-places : goal.invariant-loop-places
invariant-loop-places l = (l.fn.fields ≡ map canonical_decimal l.places.items ++ l.fields) × AreWords l.places.items × (length l.places.items ≤ 4096)

abbrev pub decreases-loop-places : goal.decreases-loop-places
decreases-loop-places l = length l.fields
