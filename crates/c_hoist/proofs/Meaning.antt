-- A well-scoped program that a source reads as does what the source means.
use Rattle.c_tree.specs.WellScoped.{IsWellScoped}
use Rattle.c_hoist.proofs.Common.{ℕ, List, length, Result, Ok, Err, IfOk, tokens_stand, for_parts_whole, ProgramTree, program_tree, Program, SourceError, is_call, program_rises, MeansText}
use Rattle.hoist_meaning.proofs.Plan.{hoisting_keeps_meaning}
use Rattle.hoist_meaning.proofs.ReadNames.{read_named}

pub program_means : (source : List ℕ) (program : ProgramTree) → IsWellScoped program → MeansText source program
program_means source program scoped = λ read.
    hoisting_keeps_meaning read.tree (length source) program (for_parts_whole read.tree read.parsed.none_nested)
    (read_named source read.tokens read.tree read.lexed read.parsed.tree)
    (program_rises source read.tokens (length source) read.tree is_call (tokens_stand source read.tokens read.lexed) read.parsed.tree) read.resolved scoped

pub result_means : (source : List ℕ) (result : Result Program SourceError) → IfOk result (λ p. MeansText source (program_tree p))
result_means source (Ok p) = program_means source (program_tree p) p.well_scoped
result_means source (Err e) = tt
