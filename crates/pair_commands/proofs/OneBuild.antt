-- A program has one placement for paths of a length, and so one analysis, and its code is too large or not, by one count of words.
use Rattle.pair_commands.proofs.Common.{◌≡◌, ℕ, ◌-◌, ◌^◌, ◌<◌, ◌≤◌, min, List, length, sym, ap, subst, ◌∙◌, arith, length-map, ProgramTree, IsWellScoped, lowered, IsWellFormed, CallGraphState, back_edges, Options, Image, Certificate, IsPlanned, IsLaidOut, IsTooLarge, CodeTooLarge, analysis_lines, HasFittingCode, IsAnalysed, names_of}
use Rattle.checkpoint_place.specs.declared.plans.Plan.{Plan}
use Rattle.checkpoint_place.specs.Placement.{IsPlacement}
use Rattle.rv_code.specs.Table.{encoding}
use Rattle.codegen_link.specs.Layout.{code_words, functions_before}
use Rattle.codegen_link.proofs.CodeLemmas.{length-functions}
use Rattle.one_plan.proofs.LoweredGraph.{lowered-graph}
use Rattle.one_plan.proofs.OnePlan.{graphs-are-one, placements-are-one}

module _ (p : ProgramTree) (scoped : IsWellScoped p) where
  pub plans-are-one : (path : ℕ) (a b : Plan) → IsPlanned (lowered p) path a → IsPlanned (lowered p) path b → a ≡ b
  plans-are-one path a b h k =
      let one = h.2 in
      let two = k.2 in
      let graphs : h.0 ≡ k.0 = graphs-are-one (lowered p) h.0 k.0 one.graph_is two.graph_is in
      let first : IsPlacement k.0 (back_edges k.0) path a =
      subst (λ (g : CallGraphState). IsPlacement g (back_edges g) path a) graphs (subst (λ (numbers : List ℕ). IsPlacement h.0 numbers path a) one.back_is one.placed) in
      let second : IsPlacement k.0 (back_edges k.0) path b = subst (λ (numbers : List ℕ). IsPlacement k.0 numbers path b) two.back_is two.placed in
      placements-are-one k.0 path a b (lowered-graph p scoped k.0 two.graph_is) first second

  -- one text of its analysis
  pub texts-are-one : (path : ℕ) (s t : List ℕ) → IsAnalysed p path s → IsAnalysed p path t → s ≡ t
  texts-are-one path s t h k =
      let one = h.placed in
      let two = k.placed in
      let graphs : h.graph ≡ k.graph = graphs-are-one (lowered p) h.graph k.graph one.graph_is two.graph_is in
      let plans : h.plan ≡ k.plan = plans-are-one path h.plan k.plan (h.graph, h.back, h.placed) (k.graph, k.back, k.placed) in
      let backs : h.back ≡ k.back = one.back_is ∙ (ap (λ (g : CallGraphState). back_edges g) graphs ∙ sym two.back_is) in
      let lines : CallGraphState → List ℕ → Plan → List ℕ = λ g back plan. analysis_lines (names_of p) g.weights plan.bounds g.sites back plan.checkpointed in
      h.lines ∙ (ap (λ (g : CallGraphState). lines g h.back h.plan) graphs ∙ (ap (λ (back : List ℕ). lines k.graph back h.plan) backs ∙ (ap (λ (plan : Plan). lines k.graph k.back plan) plans ∙ sym k.lines)))

  pub words-are-one : (options : Options) (m n : ℕ) → IsTooLarge (lowered p) options (CodeTooLarge m) → IsTooLarge (lowered p) options (CodeTooLarge n) → m ≡ n
  words-are-one options m n h k =
      let plans : h.0 ≡ k.0 = plans-are-one options.max_path h.0 k.0 h.1 k.1 in
      let same : CodeTooLarge m ≡ CodeTooLarge n = h.3 ∙ (ap (λ (plan : Plan). CodeTooLarge (min (code_words (lowered p) plan) (2 ^ 64 - 1))) plans ∙ sym k.3) in
      cc

  -- the words of a pair that is laid out are those of every placement
  pub code-fits : (options : Options) (i : Image) (c : Certificate) → IsWellFormed (lowered p) → IsLaidOut (lowered p) options i c → length i.code ≤ 200000 → HasFittingCode p options
  code-fits options i c formed laid few = λ words large.
      let code = lowered p in
      let plans : large.0 ≡ laid.0 = plans-are-one options.max_path large.0 laid.0 large.1 laid.1 in
      let facts = laid.2 in
      let image = laid.3 in
      let count : length i.code ≡ code_words code laid.0 =
      ap length image.words ∙ (length-map (functions_before code c (length code.functions)) encoding ∙ length-functions code laid.0 c formed facts.facts (length code.functions) (omega arith)) in
      let over : 200000 < code_words code laid.0 = subst (λ (plan : Plan). 200000 < code_words code plan) plans large.2 in
      omega arith
