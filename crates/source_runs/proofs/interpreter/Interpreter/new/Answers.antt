use Rattle.source_runs.proofs.Common.{◌<◌, ◌^◌, List, ℕ, ap, sym, ◌∙◌, subst, arith, sum, FunctionTree, widths_of, AreLayouts, AreSmall, IsLayout}
use Rattle.c_tree.specs.ProgramView.{program_tree}
use Rattle.source_runs.proofs.Functions.{all-small}
use Rattle.source_runs.proofs.interpreter.Interpreter.new.Goals as goal

pub layouts_of-requires : goal.layouts_of-requires
layouts_of-requires c =
    let tree = program_tree c.args.program.now in
    subst AreSmall (sym c.functions.ensures) (all-small tree tree.functions c.args.program.now.well_scoped.bodies)

pub layout_of-requires : goal.layout_of-requires
layout_of-requires c =
    let widths = c.as_slice.ensures.value ∙ (c.in_ok-global_widths.ensures ∙ ap widths_of c.globals.ensures) in
    subst (λ (ws : List ℕ). sum ws < 2 ^ 32) (sym widths) (omega (arith, c.args.program.now.well_scoped.global_words))

pub returns-clause-ready : goal.returns-clause-ready
returns-clause-ready c =
    let widths = c.in_ok-global_widths.ensures ∙ ap widths_of c.globals.ensures in
    record {
      scoped = c.args.program.now.well_scoped;
      functions = subst (λ (fs : List FunctionTree). AreLayouts fs c.in_ok-layouts.layouts.items) c.functions.ensures c.in_ok-layouts.ensures;
      global_widths = widths;
      globals = subst (λ (ws : List ℕ). IsLayout ws c.in_ok-global_layout.global_layout) (c.as_slice.ensures.value ∙ widths) c.in_ok-global_layout.ensures;
    }
