-- A frame that is pushed stands at its function's start.
use Rattle.machine_meaning.proofs.Common.{◌≡◌, ℕ, zero, suc, ◌+◌, ◌-◌, ◌<◌, false, List, [], ◌∷◌, ◌++◌, map, length, drop, replicate, Option, Some, None, refl, sym, ap, ◌∙◌, subst, arith, get_or, append_assoc, length-append, ⊎_elim, eqb, IsTrue, length-map, length-replicate, below, declared_words, ProgramTree, visible, pushed, CallInText, function_calls, AllIn, FlatCode, operation_at, contains_seam}
use Rattle.std.proofs.lemmas.Bool.Decides.{eqb_tells}
use Rattle.cap_word.specs.Rows.{row, zeros, scalars}
use Rattle.c_tree.specs.Sizes as words
use Rattle.flat_code.specs.Frames as flat
use Rattle.machine_meaning.proofs.Silent.{Vars}
use Rattle.machine_meaning.proofs.Stands.{Stands, AtEnd, all_before_stands}
use Rattle.machine_meaning.proofs.Frames.{Lowers, Holds, Runs, fn, cx, base, temps}
use Rattle.machine_meaning.proofs.Rows.{or_cases}

all_in_end : (a b : List CallInText) → AllIn (a ++ b) b
all_in_end a [] = tt
all_in_end a (call ∷ b) = (contains_seam a call b, subst (λ text. AllIn text b) (append_assoc a (call ∷ []) b) (all_in_end (a ++ call ∷ []) b))

pub all_in_self : (calls : List CallInText) → AllIn calls calls
all_in_self calls = all_in_end [] calls

zeros_wide : (sizes : List ℕ) → map length (zeros sizes) ≡ sizes
zeros_wide [] = refl
zeros_wide (n ∷ ns) = ap (λ m. m ∷ map length (zeros ns)) (length-replicate n 0) ∙ ap (λ ms. n ∷ ms) (zeros_wide ns)

arguments_wide : (arguments sizes : List ℕ) → map length (scalars arguments ++ zeros sizes) ≡ words.scalars (length arguments) ++ sizes
arguments_wide [] sizes = zeros_wide sizes
arguments_wide (v ∷ arguments) sizes = ap (λ ms. 1 ∷ ms) (arguments_wide arguments sizes)

arguments_read : (arguments : List ℕ) (rows : List (List ℕ)) (vars : Vars) (x : ℕ) → x < length arguments → get_or (map (λ v. Some (v ∷ [])) arguments ++ vars) x None ≡ Some (row (scalars arguments ++ rows) x)
arguments_read [] rows vars x lt = absurd (omega arith)
arguments_read (v ∷ arguments) rows vars zero lt = refl
arguments_read (v ∷ arguments) rows vars (suc x) lt = arguments_read arguments rows vars x (omega arith)

pub seen_below : (n x : ℕ) → IsTrue (visible x (below n)) → x < n
seen_below zero x h = absurd cc
seen_below (suc n) x h = ⊎_elim (λ e. omega (arith, e.1)) (λ e. let rest : x < n = seen_below n x (or_cases (eqb x n) (visible x (below n)) h e.0) in omega arith) (eqb_tells x n)

drop_scalars : (n : ℕ) (rest : List ℕ) → drop n (words.scalars n ++ rest) ≡ rest
drop_scalars zero rest = refl
drop_scalars (suc n) rest = drop_scalars n rest

length_scalars : (n : ℕ) → length (words.scalars n) ≡ n
length_scalars zero = refl
length_scalars (suc n) = ap suc (length_scalars n)

module _ (program : ProgramTree) (code : FlatCode) (given : Lowers program code) where
  -- what a function has still to do at its start stands at its first operation
  pub start_stands : (f : ℕ) → f < length program.functions → Stands (operation_at code f) (base program code f) (cx program code f) (temps program code f) (function_calls (fn program code f)) (Rattle.c_mean.specs.ToDo.all_before (fn program code f).body []) 0 (below (fn program code f).params)
  start_stands f lt =
      let h = given.functions f lt in
      all_before_stands (operation_at code f) (base program code f) (cx program code f) (temps program code f) (function_calls (fn program code f)) (fn program code f).body false 0 h.last 0 0 (below (fn program code f).params) []
      h.body h.scoped.body (omega arith) (all_in_self (function_calls (fn program code f))) (AtEnd h.end) tt

  pub pushed_holds : (f : ℕ) (arguments : List ℕ) → f < length program.functions → length arguments ≡ (fn program code f).params → Holds program code f (pushed program f arguments).names (flat.pushed code f arguments).variables (below (fn program code f).params)
  pushed_holds f arguments lt e =
      let h = given.functions f lt in
      let tree = fn program code f in
      let sizes : tree.sizes ≡ words.scalars (length arguments) ++ declared_words tree = h.scoped.sizes ∙ ap (λ n. words.scalars n ++ declared_words tree) (sym e) in
      let dropped : drop (length arguments) tree.sizes ≡ declared_words tree = ap (λ s. drop (length arguments) s) sizes ∙ drop_scalars (length arguments) (declared_words tree) in
      let many : length tree.sizes ≡ length arguments + length (declared_words tree) = ap length sizes ∙ length-append (words.scalars (length arguments)) (declared_words tree) ∙ ap (λ n. n + length (declared_words tree)) (length_scalars (length arguments)) in
      record {
        defined = lt;
        wide = ap (λ s. map length (scalars arguments ++ zeros s)) dropped ∙ arguments_wide arguments (declared_words tree) ∙ sym sizes;
        long = length-append (map (λ v. Some (v ∷ [])) arguments) (replicate (length (Rattle.flat_code.specs.Codes.function_at code f).sizes - length arguments) None)
            ∙ omega (arith, length-map arguments (λ v. Some (v ∷ [])), length-replicate {A = Option (List ℕ)} (length (Rattle.flat_code.specs.Codes.function_at code f).sizes - length arguments) None, h.count);
        reads = λ x there seen. arguments_read arguments (zeros (drop (length arguments) tree.sizes)) (replicate (length (Rattle.flat_code.specs.Codes.function_at code f).sizes - length arguments) None) x (omega (arith, seen_below tree.params x seen));
      }

  pub pushed_runs : (f : ℕ) (arguments : List ℕ) → f < length program.functions → length arguments ≡ (fn program code f).params → Runs program code (pushed program f arguments) 0 (flat.pushed code f arguments).variables
  pushed_runs f arguments lt e = record { scope = below (fn program code f).params; holds = pushed_holds f arguments lt e; stands = start_stands f lt }
