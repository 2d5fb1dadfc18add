use Rattle.codegen_link.proofs.Common.{◌≡◌, ℕ, ◌+◌, ◌*◌, ◌<◌, List, ◌++◌, ◌∷◌, [], drop, length, arith, append_assoc, ap, sym, ◌∙◌, slice_index, at_drop_more, sum_by_more, places_from}
use Rattle.codegen_link.proofs.facts.places.Goals as goal

-- the next place goes from what is to be made to what is made
place-pushed : (sizes : List ℕ) (i place : ℕ) (old new whole : List ℕ) → i < length sizes → old ++ places_from place (drop i sizes) ≡ whole → new ≡ old ++ place ∷ [] →
    new ++ places_from (place + 4 * slice_index sizes i) (drop (i + 1) sizes) ≡ whole
place-pushed sizes i place old new whole lt before pushed =
    let rest = places_from (place + 4 * slice_index sizes i) (drop (i + 1) sizes) in
    ap (λ xs. xs ++ rest) pushed ∙ (append_assoc old (place ∷ []) rest ∙ (ap (λ xs. old ++ xs) (sym (at_drop_more (places_from place) sizes i 0 lt)) ∙ before))

pub loop-words-preserved : goal.loop-words-preserved
loop-words-preserved c =
    let sizes = c.args.sizes.now in
    let i = c.loop-words.words-index in
    record {
      places = place-pushed sizes i c.loop-words.place _ _ _ (omega arith) c.loop-words.invariant.places c.in_ok-push.ensures.items;
      place = omega (arith, c.loop-words.invariant.place, sum_by_more (λ n. n) sizes i 0 (omega arith));
    }
