use Rattle.source_runs.proofs.Common.{arith, tree_of}
use Rattle.source_runs.proofs.Functions.{layout-at, layouts-count}
use Rattle.source_runs.proofs.interpreter.Interpreter.layout.Goals as goal

pub index-requires : goal.index-requires
index-requires c = omega (arith, layouts-count (tree_of c.args.self.now).functions c.args.self.now.layouts.items c.requires.ready.functions, c.requires.there)

pub returns : goal.returns
returns c = layout-at (tree_of c.args.self.now) c.args.self.now.layouts.items c.args.function c.index.result.now c.requires.ready.functions c.requires.there c.index.ensures
