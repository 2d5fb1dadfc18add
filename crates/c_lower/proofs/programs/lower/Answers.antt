use Rattle.c_lower.proofs.Common.{◌≡◌, ◌≤◌, ◌^◌, ◌∙◌, List, length, map, sym, ap, subst, AllByRecursion, FlatFunction, IsWellFormed, lowered_function, lowered_global}
use Rattle.c_tree.specs.ProgramView.{program_tree}
use Rattle.c_lower.proofs.FormedPrograms.{program_formed, all_small, all_few, lowered_is}
use Rattle.c_lower.proofs.programs.lower.Goals as goal

pub lower_functions-requires-clause-small : goal.lower_functions-requires-clause-small
lower_functions-requires-clause-small c = rw c.functions.ensures (all_small (program_tree c.args.program.now) (program_tree c.args.program.now).functions c.args.program.now.well_scoped.bodies)

pub lower_functions-requires-clause-few : goal.lower_functions-requires-clause-few
lower_functions-requires-clause-few c = rw c.functions.ensures (all_few (program_tree c.args.program.now) (program_tree c.args.program.now).functions c.args.program.now.well_scoped.bodies)

pub new-requires : goal.new-requires
new-requires c =
    let p = program_tree c.args.program.now in
    let functions : c.in_ok-functions.functions.items ≡ map lowered_function p.functions = c.in_ok-functions.ensures.code ∙ ap (map lowered_function) c.functions.ensures in
    let globals : c.in_ok-globals.globals.items ≡ map lowered_global p.globals = c.in_ok-globals.ensures ∙ ap (map lowered_global) c.globals.ensures in
    let tables : c.in_ok-tables.tables.items ≡ p.tables = c.in_ok-tables.ensures ∙ c.tables.ensures in
    let numbered = subst (λ (fs : List FlatFunction). AllByRecursion (λ f. length f.ops ≤ 2 ^ 32) fs) functions c.in_ok-functions.ensures.numbered in
    subst IsWellFormed (sym (lowered_is p _ _ _ _ functions globals tables c.main_number.ensures)) (program_formed p c.args.program.now.well_scoped numbered)

pub returns : goal.returns
returns c =
    let p = program_tree c.args.program.now in
    let functions : c.in_ok-functions.functions.items ≡ map lowered_function p.functions = c.in_ok-functions.ensures.code ∙ ap (map lowered_function) c.functions.ensures in
    let globals : c.in_ok-globals.globals.items ≡ map lowered_global p.globals = c.in_ok-globals.ensures ∙ ap (map lowered_global) c.globals.ensures in
    let tables : c.in_ok-tables.tables.items ≡ p.tables = c.in_ok-tables.ensures ∙ c.tables.ensures in
    c.new.ensures ∙ lowered_is p _ _ _ _ functions globals tables c.main_number.ensures
