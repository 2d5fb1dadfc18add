-- A list that holds what is made of the elements so far holds, with what is made of the next one behind it, that too.
use Rattle.stack_certificate.proofs.Common.{◌≡◌, ℕ, ◌+◌, ◌<◌, List, [], ◌∷◌, ◌++◌, length, map, take, sym, ap, ◌∙◌, arith, slice_index_or, flat_map, range_with_len, take_more, map_more, flat_map_more}
use Rattle.std.proofs.lemmas.List.FromFn.{map-range_with_len_more}

joined : {Y : Type 0} (old new before more whole : List Y) → old ≡ before → new ≡ old ++ more → whole ≡ before ++ more → new ≡ whole
joined old new before more whole first pushed step = pushed ∙ (ap (λ ys. ys ++ more) first ∙ sym step)

-- one thing for each element
pub map-pushed : {X Y : Type 0} (f : X → Y) (xs : List X) (i : ℕ) (d : X) (old new : List Y) (y : Y) → i < length xs →
    old ≡ map f (take i xs) → new ≡ old ++ y ∷ [] → y ≡ f (slice_index_or xs i d) → new ≡ map f (take (i + 1) xs)
map-pushed f xs i d old new y lt before pushed value =
    joined old new (map f (take i xs)) (y ∷ []) (map f (take (i + 1) xs)) before pushed (map_more f xs i d lt ∙ ap (λ z. map f (take i xs) ++ z ∷ []) (sym value))

-- a list for each element
pub flat-pushed : {X Y : Type 0} (f : X → List Y) (xs : List X) (i : ℕ) (d : X) (old new more : List Y) → i < length xs →
    old ≡ flat_map f (take i xs) → new ≡ old ++ more → more ≡ f (slice_index_or xs i d) → new ≡ flat_map f (take (i + 1) xs)
flat-pushed f xs i d old new more lt before pushed value =
    joined old new (flat_map f (take i xs)) more (flat_map f (take (i + 1) xs)) before pushed
    (ap (λ ys. flat_map f ys) (take_more xs i d lt) ∙ (sym (flat_map_more f [] (take i xs) (slice_index_or xs i d)) ∙ ap (λ ys. flat_map f (take i xs) ++ ys) (sym value)))

-- one thing for each number
pub numbered-pushed : {Y : Type 0} (f : ℕ → Y) (i : ℕ) (old new : List Y) (y : Y) →
    old ≡ map f (range_with_len 0 i) → new ≡ old ++ y ∷ [] → y ≡ f i → new ≡ map f (range_with_len 0 (i + 1))
numbered-pushed f i old new y before pushed value =
    joined old new (map f (range_with_len 0 i)) (y ∷ []) (map f (range_with_len 0 (i + 1))) before pushed
    (map-range_with_len_more f 0 i i (omega arith) ∙ ap (λ z. map f (range_with_len 0 i) ++ z ∷ []) (sym value))
