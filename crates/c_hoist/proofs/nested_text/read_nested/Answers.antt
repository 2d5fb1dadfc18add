use Rattle.c_hoist.proofs.EveryNested.{only_program, only_refusal}
use Rattle.c_hoist.proofs.Meaning.{result_means}
use Rattle.c_hoist.proofs.nested_text.read_nested.Goals as goal

pub returns-clause-only_program : goal.returns-clause-only_program
returns-clause-only_program c = only_program c.args.source.now c.read.result c.read.ensures.program c.read.ensures.refusal

pub returns-clause-only_refusal : goal.returns-clause-only_refusal
returns-clause-only_refusal c = only_refusal c.args.source.now c.read.result c.read.ensures.program c.read.ensures.refusal

pub returns-clause-meaning : goal.returns-clause-meaning
returns-clause-meaning c = result_means c.args.source.now c.read.result
