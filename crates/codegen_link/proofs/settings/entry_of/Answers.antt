use Rattle.std.proofs.Common.{arith}
use Rattle.codegen_link.proofs.FactLemmas.{facts-count}
use Rattle.codegen_link.proofs.settings.entry_of.Goals as goal

pub fact_of-requires : goal.fact_of-requires
fact_of-requires c = omega (arith, facts-count _ _ _ c.requires.ready.facts, c.requires.function)
