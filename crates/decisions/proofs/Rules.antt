-- What is laid out for a program of which no frame and not the code is too large meets every rule.
use Rattle.decisions.proofs.Common.{◌≡◌, ◌∙◌, ℕ, ◌+◌, ◌-◌, ◌*◌, ◌^◌, ◌<◌, ◌≤◌, min, false, List, [], length, map, Some, None, refl, sym, ap, subst, arith, ⊎_elim, Option, option_map, AllByRecursion, cases_lt, lowered_function, lowered, program_formed, ProgramTree, IsWellScoped, all-at, IsValid, Plan, PlaceError, refusal_from, Options, code_words, function_words, link, AreInRange, IsPlanFor, words-within, FlatFunction, FlatCode, function_at, IsWellFormed, program_zeroes, IsPlanned, IsLaidOut, of_place, plan-for, size, Certificate, Image, enough, weights_of, HasFittingCode, HasFittingFrames, lowered-graph, size_some, all-from-index}
use Rattle.codegen_link.proofs.ValidLemmas as laid
use Rattle.decisions.proofs.Fewer.{all_few}
use Rattle.decisions.proofs.Valid.{words_many}

-- ---- an operation has a word

abbrev pub no_function : FlatFunction
no_function = record { params = 0; gives = false; sizes = []; ops = [] }

no_refusal : (o : Option PlaceError) → option_map of_place o ≡ None → o ≡ None
no_refusal None e = refl
no_refusal (Some refusal) e = cc

module _ (p : ProgramTree) (scoped : IsWellScoped p) (options : Options) where
  abbrev pub code : FlatCode
  code = lowered p

  few_operations : (plan : Plan) (f : ℕ) → f < length code.functions → (function_at code f).params + length (function_at code f).ops ≤ function_words code plan (function_at code f)
  few_operations plan f there =
      let sizes = (function_at code f).sizes in
      let many = words_many (λ op. size sizes (link code plan op) op) (function_at code f).ops
      (λ i op e. size_some sizes (link code plan op) op (λ a is. program_zeroes p scoped f i a there (e ∙ ap Some is))) in
      omega (arith, many)

  -- a function has at most twice as many variables as words
  pub few_variables : (plan : Plan) → AllByRecursion (λ (f : FlatFunction). length f.sizes ≤ 2 * function_words code plan f) code.functions
  few_variables plan = all-from-index (λ (f : FlatFunction). length f.sizes ≤ 2 * function_words code plan f) no_function code.functions
      (λ k lt.
      let few = all-at (λ (f : FlatFunction). length f.sizes ≤ f.params + 2 * length f.ops) code.functions k no_function (all_few p p.functions scoped.bodies) lt in
      let words = few_operations plan k lt in
      omega (arith, few, words))

  pub well_formed : (plan : Plan) → code_words code plan ≤ 200000 → IsWellFormed code
  well_formed plan fits = program_formed p scoped (all-from-index (λ (f : FlatFunction). length f.ops ≤ 2 ^ 32) no_function (map lowered_function p.functions)
      (λ k lt. (let few = few_operations plan k lt in let within = words-within code plan k lt in omega (arith, few, within, fits))))

  -- the plan of a program whose frames fit
  pub plan_is : (plan : Plan) → HasFittingFrames p options.max_path → IsPlanned code options.max_path plan → IsPlanFor code plan options.max_path
  plan_is plan frames planned =
      let placed = planned.2 in
      let graph = planned.0 in
      let is = placed.graph_is in
      let none : refusal_from options.max_path 0 graph.weights ≡ None =
      subst (λ (weights : List ℕ). refusal_from options.max_path 0 weights ≡ None) (sym is.weights) (no_refusal (refusal_from options.max_path 0 (weights_of code)) frames) in
      plan-for code options.max_path plan (enough code graph planned.1 options.max_path plan is (lowered-graph p scoped graph is) placed.placed none)

  pub code_fits : (plan : Plan) → HasFittingCode p options → IsPlanned code options.max_path plan → code_words code plan ≤ 200000
  code_fits plan fits planned =
      ⊎_elim (λ large. absurd (fits (min (code_words code plan) (2 ^ 64 - 1)) (plan, planned, large, refl))) (λ few. few) (cases_lt 200000 (code_words code plan))

  pub valid : (i : Image) (c : Certificate) → AreInRange options → HasFittingFrames p options.max_path → HasFittingCode p options → IsLaidOut code options i c → IsValid code i c
  valid i c ranges frames fits h =
      let few = code_fits h.0 fits h.1 in
      laid.valid code h.0 options c i (well_formed h.0 few) ranges (plan_is h.0 frames h.1) few h.2 h.3
