-- Words that go to a place.
use Rattle.source_runs.proofs.Common.{◌≡◌, ℕ, ◌+◌, ◌<◌, ◌≤◌, List, length, take, sym, ap, ◌∙◌, arith, true, false, Bool, Ok, nat_lt, sum, slice_index, slice_set, lt-ltb, le-ltb, width, with_word, ProgramTree, Running, rows_of, widths_of, stored, stored_where, with_names, with_globals, width_is, sizes_at, IsThread, place_of, running_of, Place, Thread}
use Rattle.source_runs.specs.declared.frames.Place.TheVariants as place
use Rattle.source_runs.proofs.Words.{row-set}

within : (ns words : List ℕ) (a i : ℕ) → length words ≡ sum ns → a < length ns → i < slice_index ns a → nat_lt i (width (rows_of ns words) a) ≡ true
within ns words a i full there h = lt-ltb i (width (rows_of ns words) a) (omega (arith, width_is ns words a full there))

beyond : (ns words : List ℕ) (a i : ℕ) → length words ≡ sum ns → a < length ns → slice_index ns a ≤ i → nat_lt i (width (rows_of ns words) a) ≡ false
beyond ns words a i full there h = le-ltb i (width (rows_of ns words) a) (omega (arith, width_is ns words a full there))

module _ (tree : ProgramTree) (thread : Thread) (words : List ℕ) where
  -- the thread with other words of the front's names
  abbrev pub with_front : List ℕ → Running
  with_front names = with_names (running_of tree thread words) (rows_of (sizes_at tree thread.front.function) names)

  -- a word of a name of the front
  pub local-is : (names : List ℕ) (x i at word : ℕ) → names ≡ slice_set thread.front.names.items at word → at ≡ sum (take x (sizes_at tree thread.front.function)) + i → i < slice_index (sizes_at tree thread.front.function) x →
      with_names (running_of tree thread words) (with_word (running_of tree thread words).frame.names x i word) ≡ with_front names
  local-is names x i at word e place h =
      let ns = sizes_at tree thread.front.function in
      ap (with_names (running_of tree thread words)) (sym (ap (rows_of ns) e ∙ row-set ns thread.front.names.items x i at word place h))

  pub stored-local : (p : Place) (names : List ℕ) (x at word : ℕ) → p ≡ place.Local x → names ≡ slice_set thread.front.names.items at word → at ≡ sum (take x (sizes_at tree thread.front.function)) → slice_index (sizes_at tree thread.front.function) x ≡ 1 →
      stored (running_of tree thread words) (place_of p) word ≡ Ok (with_front names)
  stored-local p names x at word is e start one =
      ap (λ (q : Place). stored (running_of tree thread words) (place_of q) word) is
      ∙ ap (λ (r : Running). Ok r) (local-is names x 0 at word e (omega arith) (omega arith))

  pub stored-local_element : (p : Place) (names : List ℕ) (x i start word : ℕ) → p ≡ place.LocalElement x i → names ≡ slice_set thread.front.names.items (start + i) word → start ≡ sum (take x (sizes_at tree thread.front.function)) → i < slice_index (sizes_at tree thread.front.function) x → x < length (sizes_at tree thread.front.function) → IsThread tree thread words →
      stored (running_of tree thread words) (place_of p) word ≡ Ok (with_front names)
  stored-local_element p names x i start word is e starts h there fits =
      let running = running_of tree thread words in
      let ns = sizes_at tree thread.front.function in
      ap (λ (q : Place). stored running (place_of q) word) is
      ∙ (ap (λ (b : Bool). stored_where b (with_names running (with_word running.frame.names x i word))) (within ns thread.front.names.items x i fits.front.full there h)
      ∙ ap (λ (r : Running). Ok r) (local-is names x i (start + i) word e (omega arith) h))

  pub beyond-local : (p : Place) (x i word : ℕ) → p ≡ place.LocalElement x i → slice_index (sizes_at tree thread.front.function) x ≤ i → x < length (sizes_at tree thread.front.function) → IsThread tree thread words →
      stored (running_of tree thread words) (place_of p) word ≡ stored_where false (running_of tree thread words)
  beyond-local p x i word is h there fits =
      let running = running_of tree thread words in
      let ns = sizes_at tree thread.front.function in
      ap (λ (q : Place). stored running (place_of q) word) is
      ∙ ap (λ (b : Bool). stored_where b (with_names running (with_word running.frame.names x i word))) (beyond ns thread.front.names.items x i fits.front.full there h)

  -- a word of a global
  global-is : (new : List ℕ) (g i at word : ℕ) → new ≡ slice_set words at word → at ≡ sum (take g (widths_of tree.globals)) + i → i < slice_index (widths_of tree.globals) g →
      with_globals (running_of tree thread words) (with_word (running_of tree thread words).globals g i word) ≡ running_of tree thread new
  global-is new g i at word e place h =
      let ns = widths_of tree.globals in
      ap (with_globals (running_of tree thread words)) (sym (ap (rows_of ns) e ∙ row-set ns words g i at word place h))

  pub stored-global : (p : Place) (new : List ℕ) (g at word : ℕ) → p ≡ place.Global g → new ≡ slice_set words at word → at ≡ sum (take g (widths_of tree.globals)) → slice_index (widths_of tree.globals) g ≡ 1 →
      stored (running_of tree thread words) (place_of p) word ≡ Ok (running_of tree thread new)
  stored-global p new g at word is e start one =
      ap (λ (q : Place). stored (running_of tree thread words) (place_of q) word) is
      ∙ ap (λ (r : Running). Ok r) (global-is new g 0 at word e (omega arith) (omega arith))

  pub stored-global_element : (p : Place) (new : List ℕ) (g i start word : ℕ) → p ≡ place.GlobalElement g i → new ≡ slice_set words (start + i) word → start ≡ sum (take g (widths_of tree.globals)) → i < slice_index (widths_of tree.globals) g → g < length (widths_of tree.globals) → IsThread tree thread words →
      stored (running_of tree thread words) (place_of p) word ≡ Ok (running_of tree thread new)
  stored-global_element p new g i start word is e starts h there fits =
      let running = running_of tree thread words in
      let ns = widths_of tree.globals in
      ap (λ (q : Place). stored running (place_of q) word) is
      ∙ (ap (λ (b : Bool). stored_where b (with_globals running (with_word running.globals g i word))) (within ns words g i fits.globals there h)
      ∙ ap (λ (r : Running). Ok r) (global-is new g i (start + i) word e (omega arith) h))

  pub beyond-global : (p : Place) (g i word : ℕ) → p ≡ place.GlobalElement g i → slice_index (widths_of tree.globals) g ≤ i → g < length (widths_of tree.globals) → IsThread tree thread words →
      stored (running_of tree thread words) (place_of p) word ≡ stored_where false (running_of tree thread words)
  beyond-global p g i word is h there fits =
      let running = running_of tree thread words in
      let ns = widths_of tree.globals in
      ap (λ (q : Place). stored running (place_of q) word) is
      ∙ ap (λ (b : Bool). stored_where b (with_globals running (with_word running.globals g i word))) (beyond ns words g i fits.globals there h)
