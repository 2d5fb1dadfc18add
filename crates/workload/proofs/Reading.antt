-- The source of the workload reads as a program, and which functions that has.
use Rattle.workload.proofs.Common.{ℕ, ◌≡◌, ◌≤◌, ap, ◌∙◌, ProgramTree, ReadsAs, definitions, program_of, program_text}
use Rattle.c_scope.proofs.EveryWhole.{one_program}
use Rattle.workload.proofs.Lexed.{program_tokens, program_lexed}
use Rattle.workload.proofs.Items.{program_items}
use Rattle.workload.proofs.Trees.{program_derived}
use Rattle.workload.proofs.Within.{program_within, program_none_nested}
use Rattle.workload.proofs.Resolved.{main_trees, program_functions, program_resolved}

reads_so : (n : ℕ) → 1 ≤ n → n ≤ 1000 → ReadsAs (program_text n) (program_of (program_items n))
reads_so n low high = record {
  tokens = program_tokens n;
  tree = program_items n;
  lexed = program_lexed n low high;
  parsed = record { within = program_within n; tree = program_derived n; none_nested = program_none_nested n };
  resolved = program_resolved n high;
}

pub program_read : (n : ℕ) → 1 ≤ n → n ≤ 1000 → (program : ProgramTree) × ReadsAs (program_text n) program
program_read n low high = (program_of (program_items n), reads_so n low high)

-- whichever program it reads as, its functions are those of the lines
pub functions_are : (n : ℕ) → 1 ≤ n → n ≤ 1000 → (program : ProgramTree) → ReadsAs (program_text n) program → program.functions ≡ main_trees (definitions (program_items n)) n
functions_are n low high program reads = ap (λ (p : ProgramTree). p.functions) (one_program (program_text n) program (program_of (program_items n)) reads (reads_so n low high)) ∙ program_functions n
