use Rattle.source_runs.proofs.Common.{◌≡◌, drop, rows_of, sizes_at, tree_of, globals_of}
use Rattle.source_runs.proofs.Ranges.{after_words, of}
use Rattle.source_runs.proofs.interpreter.Interpreter.arguments.Given as goal

abbrev pub invariant-loop-argument : goal.invariant-loop-argument
invariant-loop-argument l =
    after_words l.words.items (of (rows_of (sizes_at (tree_of l.self) l.thread.front.function) l.thread.front.names.items) (globals_of (tree_of l.self) l.globals.items) (drop l.argument-index l.arguments))
    ≡ of (rows_of (sizes_at (tree_of l.self) l.thread.front.function) l.thread.front.names.items) (globals_of (tree_of l.self) l.globals.items) l.arguments
