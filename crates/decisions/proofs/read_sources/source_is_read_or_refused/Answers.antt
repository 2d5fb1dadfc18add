use Rattle.std.proofs.Common.{inl, inr}
use Rattle.decisions.proofs.Sources.{source_decided}
use Rattle.decisions.proofs.read_sources.source_is_read_or_refused.Goals as goal

pub returns : goal.returns
returns c = λ source. elim (source_decided source) [ inl p ↦ inl (p.program, p.reads, p.scoped) | inr refused ↦ inr refused ]
