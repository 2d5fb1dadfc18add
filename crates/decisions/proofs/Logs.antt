-- `serve`, `run` and `demo` write the whole log of their run, or its summary.
use Rattle.decisions.proofs.Common.{◌≡◌, ℕ, ◌≤◌, List, Option, Some, ap, subst, ◌∙◌, arith, ⊎_elim, Appends, Files, ProgramTree, lowered, Placement, Policy, Serve, Run, Demo, IsWordList, Setup, IsLaidOut, Image, Certificate, trace_text, program_text, Outside, IsWhole, IsSourceText, Outcome, ShowsRun, shown_outcome, demo_sizes, demo_policy, sizes_of, RunsOn, RunsPair, Runs, Serves, ServesProgram, run_outcome, setup_of, pool_bytes, HasAnswered, HasBuildable, HasValidPair, LooksAtGoodLines, UnlessMemory, WritesLog, WritesSummary}
use Rattle.decisions.proofs.Answered.{has_done, where_done}
use Rattle.decisions.proofs.Looking.{ends_run, looks_at_good_lines}
use Rattle.decisions.proofs.Reading.{after_program, after_pair, not_unbuilt}
use Rattle.decisions.proofs.Workload.{workload_is_good}

-- ---- a run that was done

writes_log : (g : Setup) (trace : List ℕ) (before after : Outside) (status : ℕ) (o : Outcome) → RunsOn (Some trace) g o → IsWhole o before after → status ≡ o.status → LooksAtGoodLines g trace → WritesLog g trace before after status
writes_log g trace before after status o h whole same good =
    let ran : o ≡ run_outcome g h.1 h.2 h.3 = h.5 in
    record {
      entries = h.1;
      stop = h.2;
      ends = ends_run g trace h.1 h.3 good h.2 status h.4 (same ∙ ap (λ (x : Outcome). x.status) ran);
      out = subst (λ (x : Outcome). Appends before.taken after.taken x.out) ran whole.out;
    }

writes_summary : (g : Setup) (trace : List ℕ) (before after : Outside) (status : ℕ) (o : Outcome) → ShowsRun trace g o → IsWhole o before after → status ≡ o.status → LooksAtGoodLines g trace → WritesSummary g trace before after status
writes_summary g trace before after status o h whole same good =
    let ran : o ≡ shown_outcome g h.1 h.2 h.3 = h.5 in
    record {
      entries = h.1;
      stop = h.2;
      ends = ends_run g trace h.1 h.3 good h.2 status h.4 (same ∙ ap (λ (x : Outcome). x.status) ran);
      out = subst (λ (x : Outcome). Appends before.taken after.taken x.out) ran whole.out;
    }

-- ---- serve

pub serve_writes_its_log : (words : List (List ℕ)) (files : Files) (trace name : List ℕ) (placement : Placement) (policy : Policy) (program : ProgramTree) (before after : Outside) (status : ℕ) →
    HasAnswered words files trace before after status → IsWordList words (Serve name placement policy) → HasBuildable files name (sizes_of placement) program →
    ((i : Image) (c : Certificate) → IsLaidOut (lowered program) (sizes_of placement) i c → LooksAtGoodLines (setup_of program i c policy) trace) →
    UnlessMemory status ((i : Image) × (c : Certificate) × IsLaidOut (lowered program) (sizes_of placement) i c × WritesLog (setup_of program i c policy) trace before after status)
serve_writes_its_log words files trace name placement policy program before after status answered asked there good =
    where_done (Serve name placement policy) before after status
    (λ done.
    let sizes = sizes_of placement in
    let o = done.outcome in
    let told : Serves (Some files) before.left name sizes policy o = subst (λ (f : Option Files). Serves f before.left name sizes policy o) answered.files_told done.does in
    let due : Serves (Some files) (Some trace) name sizes policy o = subst (λ (t : Option (List ℕ)). Serves (Some files) t name sizes policy o) answered.trace_told told in
    ⊎_elim
    (λ x. absurd (not_unbuilt sizes program o there.frames there.code x))
    (λ x. (x.2, x.3, x.4, writes_log (setup_of program x.2 x.3 policy) trace before after status o x.5 done.whole done.status_is (good x.2 x.3 x.4)))
    (after_program files name program (ServesProgram (Some trace) sizes policy) o there.source due))
    (has_done words files trace before after status (Serve name placement policy) answered asked)

-- ---- run

-- a valid pair, with its pool within the limit, runs
pair_runs : (trace : List ℕ) (policy : Policy) (program : ProgramTree) (i : Image) (c : Certificate) (files : Files) (s im ce : List ℕ) (o : Outcome) → HasValidPair files s im ce program i c → pool_bytes policy c ≤ 67108864 →
    RunsPair (Some trace) policy program i c o → RunsOn (Some trace) (setup_of program i c policy) o
pair_runs trace policy program i c files s im ce o there fits h =
    ⊎_elim
    (λ x. absurd (x.3.fails (there.valid.holds x.0 x.1 x.2)))
    (λ x. ⊎_elim (λ y. let large = y.0 in absurd (omega (arith, fits, large))) (λ y. y.1) x.1)
    h

pub run_writes_its_log : (words : List (List ℕ)) (files : Files) (trace source image certificate : List ℕ) (policy : Policy) (program : ProgramTree) (i : Image) (c : Certificate) (before after : Outside) (status : ℕ) →
    HasAnswered words files trace before after status → IsWordList words (Run source image certificate policy) → HasValidPair files source image certificate program i c → pool_bytes policy c ≤ 67108864 →
    LooksAtGoodLines (setup_of program i c policy) trace → UnlessMemory status (WritesLog (setup_of program i c policy) trace before after status)
run_writes_its_log words files trace source image certificate policy program i c before after status answered asked there fits good =
    where_done (Run source image certificate policy) before after status
    (λ done.
    let o = done.outcome in
    let told : Runs (Some files) before.left source image certificate policy o = subst (λ (f : Option Files). Runs f before.left source image certificate policy o) answered.files_told done.does in
    let due : Runs (Some files) (Some trace) source image certificate policy o = subst (λ (t : Option (List ℕ)). Runs (Some files) t source image certificate policy o) answered.trace_told told in
    let pair = after_pair files source image certificate program i c (λ p j d. RunsPair (Some trace) policy p j d) o there due in
    writes_log (setup_of program i c policy) trace before after status o (pair_runs trace policy program i c files source image certificate o there fits pair) done.whole done.status_is good)
    (has_done words files trace before after status (Run source image certificate policy) answered asked)

-- ---- demo

pub demo_writes_its_summary : (words : List (List ℕ)) (files : Files) (trace : List ℕ) (number : ℕ) (before after : Outside) (status : ℕ) →
    HasAnswered words files trace before after status → IsWordList words (Demo number) →
    UnlessMemory status ((program : ProgramTree) × IsSourceText (program_text number) program × (i : Image) × (c : Certificate) × IsLaidOut (lowered program) demo_sizes i c
    × WritesSummary (setup_of program i c demo_policy) (trace_text number) before after status)
demo_writes_its_summary words files trace number before after status answered asked =
    where_done (Demo number) before after status
    (λ done.
    let o = done.outcome in
    let h = done.does in
    let shows = h.2 in
    let g = setup_of h.0 shows.0 shows.1 demo_policy in
    let good = looks_at_good_lines g (trace_text number) (workload_is_good number asked.3) in
    (h.0, h.1, shows.0, shows.1, shows.2, writes_summary g (trace_text number) before after status o shows.3 done.whole done.status_is good))
    (has_done words files trace before after status (Demo number) answered asked)
