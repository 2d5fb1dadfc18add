use Rattle.pair_commands.proofs.Common.{◌≡◌, ◌<◌, ◌++◌, ◌∷◌, [], ℕ, List, length, arith, sym, ap, ◌∙◌, slice_index_or, program_tree, lowered, frame_words, refused}
use Rattle.pair_commands.proofs.Analyses.{frame-there, functions-count, name-of}
use Rattle.pair_commands.proofs.frames.frame_stop.Goals as goal

pub bounds-functions-function : goal.bounds-functions-function
bounds-functions-function c =
    let tree = program_tree c.args.program.now in
    let there = frame-there (lowered tree) c.args.max_path c.args.function c.args.bytes c.requires in
    let count = functions-count c.functions-functions.result.now tree c.functions-functions.ensures in
    omega (arith, there, count)

pub returns-in-Ok : goal.returns-in-Ok
returns-in-Ok c =
    let tree = program_tree c.args.program.now in
    let there = frame-there (lowered tree) c.args.max_path c.args.function c.args.bytes c.requires in
    let count = functions-count c.functions-functions.result.now tree c.functions-functions.ensures in
    let within : c.args.function < length c.functions-functions.result.now = omega (arith, there, count) in
    let name = name-of c.functions-functions.result.now tree c.index-functions-function.result c.args.function c.functions-functions.ensures within in
    let same : c.in-Ok.name.items ≡ (slice_index_or c.functions-functions.result.now c.args.function c.index-functions-function.result).name.items = c.in-Ok.ensures.items ∙ c.as_slice.ensures.value in
    record {
      function = c.args.function;
      bytes = c.args.bytes;
      first = c.requires;
      is = ap (λ (n : List ℕ). refused 5 (frame_words n c.args.bytes ++ 10 ∷ [])) (same ∙ sym name);
    }
