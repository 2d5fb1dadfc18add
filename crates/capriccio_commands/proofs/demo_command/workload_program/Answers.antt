use Rattle.capriccio_commands.proofs.Common.{◌≤◌, ◌∙◌, List, ℕ, length, sym, subst, MatchResult, MatchResult-weaker, program_tree, reads_nested, program_text, NoMore, AfterSource, IsSourceText, IsStop}
use Rattle.c_tree.specs.declared.programs.Program.{Program}
use Rattle.c_scope.specs.SourceText.{ReadsAs}
use Rattle.capriccio_commands.proofs.Workloads.{program-short, no-source-error}
use Rattle.capriccio_commands.proofs.demo_command.workload_program.Goals as goal

pub read_source-requires : goal.read_source-requires
read_source-requires c =
    let is = c.as_slice.ensures.value ∙ c.in-Ok.ensures.text in
    subst (λ (l : List ℕ). length l ≤ 1048576) (sym is) (program-short c.args.number c.requires.few)

pub returns-in-Ok : goal.returns-in-Ok
returns-in-Ok c =
    let n = c.args.number in
    let is = c.as_slice.ensures.value ∙ c.in-Ok.ensures.text in
    let reads = c.in-Ok.ensures.read in
    let here = reads_nested (program_text n) reads.0 (subst (λ (l : List ℕ). ReadsAs l reads.0) c.in-Ok.ensures.text reads.1) in
    let read = subst (λ (l : List ℕ). MatchResult c.read_source.result (λ (program : Program). IsSourceText l (program_tree program)) (IsStop (AfterSource l NoMore))) is c.read_source.ensures in
    MatchResult-weaker c.read_source.result read (λ program h. h) (λ stop h. no-source-error n (program_text n) reads.0 stop here h)
