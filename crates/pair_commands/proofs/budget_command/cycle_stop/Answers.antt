use Rattle.pair_commands.proofs.Common.{◌≡◌, ◌<◌, ◌++◌, ◌∷◌, [], ℕ, List, length, arith, sym, ap, ◌∙◌, slice_index_or, program_tree, lowered, cycle_words, refused}
use Rattle.call_cycles.proofs.OrderLemmas.{cycle-within}
use Rattle.pair_commands.proofs.Analyses.{functions-count, name-of}
use Rattle.pair_commands.proofs.budget_command.cycle_stop.Goals as goal

pub bounds-functions-function : goal.bounds-functions-function
bounds-functions-function c =
    let tree = program_tree c.args.program.now in
    let there = cycle-within (lowered tree) c.args.function c.requires.holds in
    let count = functions-count c.functions-functions.result.now tree c.functions-functions.ensures in
    omega (arith, there, count)

pub returns-in-Ok : goal.returns-in-Ok
returns-in-Ok c =
    let tree = program_tree c.args.program.now in
    let there = cycle-within (lowered tree) c.args.function c.requires.holds in
    let count = functions-count c.functions-functions.result.now tree c.functions-functions.ensures in
    let within : c.args.function < length c.functions-functions.result.now = omega (arith, there, count) in
    let name = name-of c.functions-functions.result.now tree c.index-functions-function.result c.args.function c.functions-functions.ensures within in
    let same : c.in-Ok.name.items ≡ (slice_index_or c.functions-functions.result.now c.args.function c.index-functions-function.result).name.items = c.in-Ok.ensures.items ∙ c.as_slice.ensures.value in
    record {
      function = c.args.function;
      least = c.requires;
      is = ap (λ (n : List ℕ). refused 17 (cycle_words n ++ 10 ∷ [])) (same ∙ sym name);
    }
