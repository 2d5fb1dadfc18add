-- Where a function begins: its arguments are the words of its parameters in both, and every other name has as many words of 0 as it has.
use Rattle.hoist_meaning.proofs.Common.{ℕ, zero, suc, ◌≡◌, ◌<◌, refl, sym, ap, subst, ◌∙◌, List, [], ◌∷◌, ◌++◌, length, drop, arith, slice_index, length-replicate, row, width, zeros, scalars, ProgramTree, function_at, DeepProgram}
use Rattle.deep_mean.specs.DeepFrames as frames
use Rattle.hoist_meaning.proofs.Bindings.{Agreement, Paired}
use Rattle.hoist_meaning.proofs.Ends.{Rows}
use Rattle.hoist_meaning.proofs.Frames.{Words}

-- so many variables of one word
abbrev pub ones : ℕ → List ℕ
ones zero = []
ones (suc n) = 1 ∷ ones n

argument_row : (arguments : List ℕ) (one other : Rows) (x : ℕ) → x < length arguments → row (scalars arguments ++ one) x ≡ row (scalars arguments ++ other) x
argument_row [] one other x h = absurd (omega (arith, h))
argument_row (w ∷ ws) one other zero h = refl
argument_row (w ∷ ws) one other (suc x) h = argument_row ws one other x (omega (arith, h))

zeros_width : (sizes : List ℕ) (x : ℕ) → width (zeros sizes) x ≡ slice_index sizes x
zeros_width [] x = refl
zeros_width (n ∷ sizes) zero = length-replicate n 0
zeros_width (n ∷ sizes) (suc x) = zeros_width sizes x

start_width : (arguments more : List ℕ) (x : ℕ) → width (scalars arguments ++ zeros (drop (length arguments) (ones (length arguments) ++ more))) x ≡ slice_index (ones (length arguments) ++ more) x
start_width [] more x = zeros_width more x
start_width (w ∷ ws) more zero = refl
start_width (w ∷ ws) more (suc x) = start_width ws more x

pub start_words : (text : DeepProgram) (program : ProgramTree) (f : ℕ) (a : Agreement) (arguments text_more tree_more : List ℕ) → ((x y : ℕ) → Paired a x y → (x ≡ y) × (x < length arguments))
    → (frames.function_at text f).sizes ≡ ones (length arguments) ++ text_more → (function_at program f).sizes ≡ ones (length arguments) ++ tree_more
    → Words text program f a (scalars arguments ++ zeros (drop (length arguments) (frames.function_at text f).sizes)) (scalars arguments ++ zeros (drop (length arguments) (function_at program f).sizes))
start_words text program f a arguments text_more tree_more pairs in_text in_tree = record {
  stand = λ x y p.
      let h = pairs x y p in
      argument_row arguments (zeros (drop (length arguments) (frames.function_at text f).sizes)) (zeros (drop (length arguments) (function_at program f).sizes)) x h.1
      ∙ ap (row (scalars arguments ++ zeros (drop (length arguments) (function_at program f).sizes))) h.0;
  text_wide = λ x. subst (λ (sizes : List ℕ). width (scalars arguments ++ zeros (drop (length arguments) sizes)) x ≡ slice_index sizes x) (sym in_text) (start_width arguments text_more x);
  tree_wide = λ y. subst (λ (sizes : List ℕ). width (scalars arguments ++ zeros (drop (length arguments) sizes)) y ≡ slice_index sizes y) (sym in_tree) (start_width arguments tree_more y);
}
