-- What is laid out for a program is valid, and its globals start with words where the program's do.
use Rattle.decisions.proofs.Common.{◌≡◌, ◌∙◌, ℕ, zero, suc, ◌+◌, ◌-◌, ◌^◌, ◌<◌, ◌≤◌, inl, inr, false, List, [], ◌∷◌, length, map, Option, Some, None, refl, sym, ap, subst, arith, min, option_map, replicate, slice_get, sum_by, AllByRecursion, flat_map, cases_lt, All-from_recursion, sum_by-cons, GlobalFact, ProgramTree, IsWellScoped, lowered, lowered_function, lowered_global, program_formed, Op, function_at, IsWellFormed, Plan, PlaceError, refusal_from, Image, Certificate, size, IsValid, Options, code_words, function_words, link, AreInRange, words-within, weights_of, enough, IsLaidOut, of_place, plan-for, size_some, program_zeroes, HasFittingFrames, HasFittingCode, lowered-graph, all_from, All-append}
use Rattle.flat_code.specs.declared.programs.FlatGlobal.{FlatGlobal}
use Rattle.codegen_link.proofs.ValidLemmas.{valid}
use Rattle.machine_world.specs.WellFormed.{AreWords}

-- where each operation has a word, there are no more operations than words
pub words_many : (weight : Op → ℕ) (ops : List Op) → ((i : ℕ) (op : Op) → slice_get ops i ≡ Some op → 0 < weight op) → length ops ≤ sum_by weight ops
words_many weight [] some = omega arith
words_many weight (op ∷ ops) some =
    let first = some 0 op refl in
    let rest = words_many weight ops (λ i o e. some (suc i) o e) in
    omega (arith, first, rest, sum_by-cons weight op ops)

none_mapped : (found : Option PlaceError) → option_map of_place found ≡ None → found ≡ None
none_mapped None e = refl
none_mapped (Some error) e = absurd cc

module _ (program : ProgramTree) (scoped : IsWellScoped program) where
  few_operations : (plan : Plan) → code_words (lowered program) plan ≤ 200000 → (f : ℕ) → f < length (lowered program).functions → length (function_at (lowered program) f).ops ≤ 2 ^ 32
  few_operations plan fits f there =
      let code = lowered program in
      let function = function_at code f in
      let weight : Op → ℕ = λ op. size function.sizes (link code plan op) op in
      let many = words_many weight function.ops (λ i op e. size_some function.sizes (link code plan op) op (λ a is. program_zeroes program scoped f i a there (e ∙ ap Some is))) in
      let words : function_words code plan function ≡ 2 + function.params + sum_by weight function.ops = refl in
      let within = words-within code plan f there in
      let short : length function.ops ≤ 200000 = omega (arith, many, words, within, fits) in
      omega (arith, short)

  formed : (plan : Plan) → code_words (lowered program) plan ≤ 200000 → IsWellFormed (lowered program)
  formed plan fits =
      program_formed program scoped
      (all_from (λ g. length g.ops ≤ 2 ^ 32) (record { params = 0; gives = false; sizes = []; ops = [] }) (map lowered_function program.functions) (few_operations plan fits))

  module _ (options : Options) (range : AreInRange options) where
    fitting : HasFittingCode program options → (image : Image) (certificate : Certificate) (laid : IsLaidOut (lowered program) options image certificate) → code_words (lowered program) laid.0 ≤ 200000
    fitting fits image certificate laid =
        elim (cases_lt 200000 (code_words (lowered program) laid.0)) [
          | inl large ↦ absurd (fits (min (code_words (lowered program) laid.0) (2 ^ 64 - 1)) (laid.0, laid.1, large, refl))
          | inr few ↦ few
        ]

    pub valid_layout : HasFittingFrames program options.max_path → HasFittingCode program options → (image : Image) (certificate : Certificate) → IsLaidOut (lowered program) options image certificate → IsValid (lowered program) image certificate
    valid_layout frames fits image certificate laid =
        let code = lowered program in
        let plan = laid.0 in
        let planned = laid.1 in
        let placed = planned.2 in
        let few = fitting fits image certificate laid in
        let kept = lowered-graph program scoped planned.0 placed.graph_is in
        let none : refusal_from options.max_path 0 planned.0.weights ≡ None =
        ap (λ (ws : List ℕ). refusal_from options.max_path 0 ws) placed.graph_is.weights ∙ none_mapped (refusal_from options.max_path 0 (weights_of code)) frames in
        let sound = enough code planned.0 planned.1 options.max_path plan placed.graph_is kept placed.placed none in
        valid code plan options certificate image (formed plan few) range (plan-for code options.max_path plan sound) few laid.2 laid.3

-- ---- the words at which globals start

abbrev IsWord : ℕ → Type 0
IsWord value = value < 2 ^ 32

same_words : (count value : ℕ) → IsWord value → AllByRecursion IsWord (replicate count value)
same_words zero value h = tt
same_words (suc count) value h = (h, same_words count value h)

start_words : (gs : List GlobalFact) → AllByRecursion (λ g. g.start < 2 ^ 32) gs → AllByRecursion IsWord (flat_map (λ (g : FlatGlobal). replicate g.words g.start) (map lowered_global gs))
start_words [] h = tt
start_words (g ∷ gs) h =
    All-append IsWord (replicate g.words g.start) (flat_map (λ (x : FlatGlobal). replicate x.words x.start) (map lowered_global gs)) (same_words g.words g.start h.0) (start_words gs h.1)

pub layout_words : (program : ProgramTree) (options : Options) (image : Image) (certificate : Certificate) → AllByRecursion (λ g. g.start < 2 ^ 32) program.globals → IsLaidOut (lowered program) options image certificate → AreWords image.globals
layout_words program options image certificate words laid =
    let made = start_words program.globals words in
    subst (λ (values : List ℕ). AreWords values) (sym laid.3.globals)
    (All-from_recursion IsWord (flat_map (λ (g : FlatGlobal). replicate g.words g.start) (lowered program).globals) made)
