-- Commands of which an outcome is always due.
use Rattle.decisions.proofs.Common.{ℕ, ◌<◌, ◌≤◌, ◌⊎◌, inl, inr, refl, List, Option, cases_lt, Files, ProgramTree, IsWellScoped, lowered, IsValid, IsFirstFailure, Image, Certificate, Placement, Request, Run, Build, Check, Graph, Budget, IsWordList, refusal, Outside, Accepted, Rejected, BudgetsBytes, Budgets, verdict_outcome, ChecksPair, ChecksBytes, Checks, IsRunPolicy, sizes_of, setup_of, pool_bytes, RunsPair, RunsBytes, Runs, Does, IsDue, IsInRange, run-policy, HoldBytes}
use Rattle.machine_world.specs.WellFormed.{AreWords}
use Rattle.command_words.specs.declared.options.Policy.{Policy as RunOptions}
use Rattle.command_outcomes.specs.declared.stops.Cause.TheVariants as cause
use Rattle.decisions.proofs.Pairs.{pair_decided}
use Rattle.decisions.proofs.Loading.{Some_due, three_due, source_due, image_due, certificate_due}
use Rattle.decisions.proofs.Building.{graph_due, build_due}
use Rattle.decisions.proofs.Budgeting.{budget_pair}
use Rattle.decisions.proofs.Running.{run_due}

abbrev PairFailure : ProgramTree → Image → Certificate → Type 0
PairFailure program i c = (rule f index : ℕ) × IsFirstFailure (lowered program) i c rule f index

-- ---- check

check_pair : (program : ProgramTree) (i : Image) (c : Certificate) → IsValid (lowered program) i c ⊎ PairFailure program i c → Some_due (ChecksPair program i c)
check_pair program i c (inl valid) = (verdict_outcome Accepted, (Accepted, valid, refl))
check_pair program i c (inr w) = (verdict_outcome (Rejected w.0 w.1 w.2), (Rejected w.0 w.1 w.2, w.3, refl))

pub check_due : (files : Option Files) (source image certificate : List ℕ) → HoldBytes files → Some_due (Checks files source image certificate)
check_due files source image certificate are =
    three_due files source image certificate ChecksBytes are (λ s i c i_bytes.
    source_due s _ (λ program is.
    image_due i _ i_bytes (λ img img_is.
    certificate_due c _ (λ cert cert_is. check_pair program img cert (pair_decided (lowered program) img cert)))))

-- ---- budget

pub budget_due : (files : Option Files) (source image certificate : List ℕ) → HoldBytes files → Some_due (Budgets files source image certificate)
budget_due files source image certificate are =
    three_due files source image certificate BudgetsBytes are (λ s i c i_bytes.
    source_due s _ (λ program is.
    image_due i _ i_bytes (λ img img_is.
    certificate_due c _ (λ cert cert_is. budget_pair program is.scoped img cert (pair_decided (lowered program) img cert)))))

-- ---- run

pub in_range : (program : ProgramTree) (i : Image) (c : Certificate) (policy : RunOptions) → IsRunPolicy policy → pool_bytes policy c ≤ 67108864 → IsInRange (setup_of program i c policy)
in_range program i c policy ranges pool = record {
  some_chunks = ranges.some_chunks;
  chunks = ranges.chunks;
  extra = ranges.extra;
  extra_least = ranges.extra_least;
  extra_most = ranges.extra_most;
  extra_whole = ranges.extra_whole;
  fuel = ranges.fuel;
  pool = pool;
}

module _ (trace : Option (List ℕ)) (policy : RunOptions) (ranges : IsRunPolicy policy) (program : ProgramTree) (scoped : IsWellScoped program) (i : Image) (globals : AreWords i.globals) (c : Certificate) where
  in_pool : IsValid (lowered program) i c → (67108864 < pool_bytes policy c) ⊎ (pool_bytes policy c ≤ 67108864) → Some_due (RunsPair trace policy program i c)
  in_pool valid (inl large) = (refusal (cause.Pool (pool_bytes policy c)), inr (valid, inl (large, refl)))
  in_pool valid (inr fits) =
      let o = run_due trace (setup_of program i c policy) (record { scoped = scoped; globals = globals; valid = valid }) (in_range program i c policy ranges fits) in
      (o.0, inr (valid, inr (fits, o.1)))

  pub run_pair : IsValid (lowered program) i c ⊎ PairFailure program i c → Some_due (RunsPair trace policy program i c)
  run_pair (inl valid) = in_pool valid (cases_lt 67108864 (pool_bytes policy c))
  run_pair (inr w) = (refusal (cause.Rejected w.0 w.1 w.2), inl (w.0, w.1, w.2, w.3, refl))

pub runs_due : (files : Option Files) (trace : Option (List ℕ)) (source image certificate : List ℕ) (policy : RunOptions) → IsRunPolicy policy → HoldBytes files → Some_due (Runs files trace source image certificate policy)
runs_due files trace source image certificate policy ranges are =
    three_due files source image certificate (RunsBytes trace policy) are (λ s i c i_bytes.
    source_due s _ (λ program is.
    image_due i _ i_bytes (λ img img_is.
    certificate_due c _ (λ cert cert_is. run_pair trace policy ranges program is.scoped img img_is.words.globals cert (pair_decided (lowered program) img cert)))))

-- ---- words

pub usage_due : (words : List (List ℕ)) (before : Outside) → ((request : Request) → ¬ IsWordList words request) → Some_due (IsDue words before)
usage_due words before none = (refusal cause.Usage, inr (none, refl))

pub of_request : (words : List (List ℕ)) (before : Outside) (request : Request) → IsWordList words request → Some_due (Does request before) → Some_due (IsDue words before)
of_request words before request is o = (o.0, inl (request, is, o.1))

pub check_words_due : (words : List (List ℕ)) (before : Outside) (source image certificate : List ℕ) → IsWordList words (Check source image certificate) → HoldBytes before.files → Some_due (IsDue words before)
check_words_due words before source image certificate is are = of_request words before (Check source image certificate) is (check_due before.files source image certificate are)

pub run_words_due : (words : List (List ℕ)) (before : Outside) (source image certificate : List ℕ) (policy : RunOptions) → IsWordList words (Run source image certificate policy) → HoldBytes before.files → Some_due (IsDue words before)
run_words_due words before source image certificate policy is are =
    of_request words before (Run source image certificate policy) is (runs_due before.files before.left source image certificate policy (run-policy words source image certificate policy is) are)

pub graph_words_due : (words : List (List ℕ)) (before : Outside) (source : List ℕ) (placement : Placement) → IsWordList words (Graph source placement) → HoldBytes before.files → Some_due (IsDue words before)
graph_words_due words before source placement is are = of_request words before (Graph source placement) is (graph_due before.files source placement.max_path are)

pub build_words_due : (words : List (List ℕ)) (before : Outside) (source image certificate : List ℕ) (placement : Placement) → IsWordList words (Build source image certificate placement) → HoldBytes before.files → Some_due (IsDue words before)
build_words_due words before source image certificate placement is are =
    of_request words before (Build source image certificate placement) is (build_due before.files source image certificate (sizes_of placement) are)

pub budget_words_due : (words : List (List ℕ)) (before : Outside) (source image certificate : List ℕ) → IsWordList words (Budget source image certificate) → HoldBytes before.files → Some_due (IsDue words before)
budget_words_due words before source image certificate is are = of_request words before (Budget source image certificate) is (budget_due before.files source image certificate are)
