-- `serve` and `demo`: what is laid out for the program runs, and so some outcome is due.
use Rattle.decisions.proofs.Common.{ℕ, ◌+◌, ◌*◌, ◌≤◌, ◌⊎◌, inl, inr, List, Option, AllByRecursion, Files, ProgramTree, IsWellScoped, never, Options, AreInRange, trace_text, program_text, Placement, Serve, Demo, IsWordList, Outside, IsSourceText, IsUnbuilt, IsRunPolicy, sizes_of, setup_of, pool_bytes, IsAccepted, ServesProgram, Serves, demo_sizes, demo_policy, Demos, IsDue, IsInRange, serve-sizes, serve-policy, serve-pool, HoldBytes}
use Rattle.c_hoist.proofs.WholeReads.{reads_nested}
use Rattle.workload.proofs.Reading.{program_read}
use Rattle.command_words.specs.declared.options.Policy.{Policy as RunOptions}
use Rattle.command_outcomes.specs.declared.documents.Document.TheVariants as document
use Rattle.capriccio_commands.proofs.Workloads.{always-built, demo-in-range, demo-run-policy, demo-pool}
use Rattle.decisions.proofs.Sources.{AProgram, AnError, source_decided}
use Rattle.decisions.proofs.Starts.{HasWord, starts_with_words}
use Rattle.decisions.proofs.Loading.{Some_due, load_due, source_due}
use Rattle.decisions.proofs.Building.{ABuild, built_or_not}
use Rattle.decisions.proofs.Valid.{valid_layout, layout_words}
use Rattle.decisions.proofs.Running.{run_due, show_due}
use Rattle.decisions.proofs.DueCommands.{in_range, of_request}

-- ---- a pair that is laid out

module _ (program : ProgramTree) (scoped : IsWellScoped program) (words : AllByRecursion HasWord program.globals) (options : Options) (range : AreInRange options) (policy : RunOptions) (ranges : IsRunPolicy policy) where
  accepted : (b : ABuild program scoped options) → IsAccepted (setup_of program b.image b.certificate policy)
  accepted b = record {
    scoped = scoped;
    globals = layout_words program options b.image b.certificate words b.laid;
    valid = valid_layout program scoped options range b.frames b.code b.image b.certificate b.laid;
  }

  module _ (pool : policy.chunks * options.chunk + policy.extra * policy.extra_bytes ≤ 67108864) where
    pool_fits : (b : ABuild program scoped options) → pool_bytes policy b.certificate ≤ 67108864
    pool_fits b = rw b.laid.2.chunk pool

    ready : (b : ABuild program scoped options) → IsInRange (setup_of program b.image b.certificate policy)
    ready b = in_range program b.image b.certificate policy ranges (pool_fits b)

    -- ---- serve

    pub serve_program : (trace : Option (List ℕ)) → Some_due (ServesProgram trace options policy program)
    serve_program trace = by (built_or_not program scoped options) where
      by : Some_due (IsUnbuilt options program) ⊎ ABuild program scoped options → Some_due (ServesProgram trace options policy program)
      by (inl o) = (o.0, inl o.1)
      by (inr b) =
          let o = run_due trace (setup_of program b.image b.certificate policy) (accepted b) (ready b) in
          (o.0, inr (b.frames, b.code, b.image, b.certificate, b.laid, o.1))

pub serve_due : (files : Option Files) (trace : Option (List ℕ)) (name : List ℕ) (options : Options) (policy : RunOptions) → AreInRange options → IsRunPolicy policy → policy.chunks * options.chunk + policy.extra * policy.extra_bytes ≤ 67108864
    → HoldBytes files → Some_due (Serves files trace name options policy)
serve_due files trace name options policy range ranges pool are =
    load_due document.Source files name _ are (λ bytes b.
    source_due bytes (ServesProgram trace options policy) (λ program is.
    serve_program program is.scoped (starts_with_words bytes program is.reads) options range policy ranges pool trace))

-- ---- demo

-- the workload's text is a program
workload : (number : ℕ) → 1 ≤ number → number ≤ 1000 → AProgram (program_text number)
workload number some few = by (source_decided (program_text number)) where
  by : AProgram (program_text number) ⊎ AnError (program_text number) → AProgram (program_text number)
  by (inl p) = p
  by (inr e) =
      let whole = program_read number some few in
      absurd (never (program_text number) whole.0 e.0 (reads_nested (program_text number) whole.0 whole.1) e.1)

pub demo_due : (number : ℕ) → 1 ≤ number → number ≤ 1000 → Some_due (Demos number)
demo_due number some few = by (built_or_not p.program p.scoped demo_sizes) where
  p : AProgram (program_text number)
  p = workload number some few

  is : IsSourceText (program_text number) p.program
  is = record { reads = p.reads; scoped = p.scoped }

  words : AllByRecursion HasWord p.program.globals
  words = starts_with_words (program_text number) p.program p.reads

  by : Some_due (IsUnbuilt demo_sizes p.program) ⊎ ABuild p.program p.scoped demo_sizes → Some_due (Demos number)
  by (inl o) = always-built number some few p.program o.0 p.reads o.1
  by (inr b) =
      let setup = setup_of p.program b.image b.certificate demo_policy in
      let runs = accepted p.program p.scoped words demo_sizes demo-in-range demo_policy demo-run-policy b in
      let o = show_due (trace_text number) setup runs (in_range p.program b.image b.certificate demo_policy demo-run-policy (demo-pool b.certificate.chunk b.laid.2.chunk)) in
      (o.0, (p.program, is, (b.image, b.certificate, b.laid, o.1)))

-- ---- words

pub serve_words_due : (words : List (List ℕ)) (before : Outside) (source : List ℕ) (placement : Placement) (policy : RunOptions) → IsWordList words (Serve source placement policy) → HoldBytes before.files → Some_due (IsDue words before)
serve_words_due words before source placement policy is are =
    of_request words before (Serve source placement policy) is
    (serve_due before.files before.left source (sizes_of placement) policy (serve-sizes words source placement policy is) (serve-policy words source placement policy is) (serve-pool words source placement policy is) are)

pub demo_words_due : (words : List (List ℕ)) (before : Outside) (number : ℕ) → IsWordList words (Demo number) → Some_due (IsDue words before)
demo_words_due words before number is = of_request words before (Demo number) is (demo_due number is.2 is.3)
