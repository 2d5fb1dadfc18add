-- The workload is built whatever its number.
use Rattle.workload.proofs.Common.{ℕ, ◌≡◌, ◌≤◌, List, length, map, ap, sym, subst, arith, option_map, sum_by-take-le, ProgramTree, lowered, lowered_function, ReadsAs, Binding, definitions, function_words, program_text}
use Rattle.stack_build.specs.Refusals.{of_place}
use Rattle.workload.proofs.Items.{program_items}
use Rattle.workload.proofs.Resolved.{main_trees, main_length}
use Rattle.workload.proofs.Reading.{functions_are}
use Rattle.workload.specs.Sizes.{HasFittingSizes}
use Rattle.workload.proofs.Shapes.{AreLight, main_trees_light, none_large, few_words}

light_fits : (program : ProgramTree) → AreLight program.functions → length program.functions ≤ 1003 → HasFittingSizes program
light_fits program are few = record {
  frames = ap (option_map of_place) (none_large 0 program.functions are);
  words = λ plan.
      let functions = map lowered_function program.functions in
      omega (arith, sum_by-take-le (function_words (lowered program) plan) functions (length functions), few_words (lowered program) plan program.functions are);
}

pub workload_fits : (n : ℕ) → 1 ≤ n → n ≤ 1000 → (program : ProgramTree) → ReadsAs (program_text n) program → HasFittingSizes program
workload_fits n low high program reads =
    let defs : List Binding = definitions (program_items n) in
    let are : program.functions ≡ main_trees defs n = functions_are n low high program reads in
    light_fits program (subst AreLight (sym are) (main_trees_light defs n)) (omega (arith, ap length are, main_length defs n))
