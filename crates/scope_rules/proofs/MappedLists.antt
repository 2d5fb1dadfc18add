-- A loop that changes the items of a list in place, one after another, told by what each item stands for.
use Rattle.scope_rules.proofs.Common.{◌≡◌, ◌≢◌, ℕ, ◌+◌, ◌<◌, ◌≤◌, List, ◌++◌, length, map, take, drop, get_or, sym, ap, ◌∙◌, arith, set, map-set, get_or-map, get_or-set_other, length-set, length-map, take_all, append-nil, drop_of_length-le}
use Rattle.std.proofs.lemmas.List.Edits.{map_over_more}

-- the trees of a list whose first i items are changed
abbrev pub changed_to : {B : Type 0} → (B → B) → ℕ → List B → List B
changed_to change i ts = map change (take i ts) ++ drop i ts

pub changed_more : {A B : Type 0} (tree : A → B) (change : B → B) (old now : List A) (i : ℕ) (x new : A) → i < length now → length now ≡ length old →
    map tree now ≡ changed_to change i (map tree old) → x ≡ get_or now i x → tree new ≡ change (tree x) → map tree (set now i new) ≡ changed_to change (i + 1) (map tree old)
changed_more tree change old now i x new here same so at is =
    let many = length-map old tree in
    let now_at : tree x ≡ get_or (map tree now) i (tree x) = ap tree at ∙ sym (get_or-map tree now i x (tree x) here) in
    map-set tree now i new ∙ (ap (set (map tree now) i) is ∙ map_over_more change (map tree old) (map tree now) i (tree x) (omega (arith, here, same, many)) so now_at)

pub changed_all : {A B : Type 0} (tree : A → B) (change : B → B) (i : ℕ) (old now : List A) → length old ≤ i → map tree now ≡ changed_to change i (map tree old) → map tree now ≡ map change (map tree old)
changed_all tree change i old now all h =
    let ts = map tree old in
    let many = length-map old tree in
    let most : length ts ≤ i = omega (arith, all, many) in
    h ∙ (ap (λ l. map change l ++ drop i ts) (take_all i ts most) ∙ (ap (λ l. map change ts ++ l) (drop_of_length-le ts most) ∙ append-nil (map change ts)))

-- the items from the i-th on are as they were
abbrev pub IsLeft : {A : Type 0} → List A → List A → ℕ → Type 0
IsLeft {A = X} old now i = (length now ≡ length old) × ((k : ℕ) (d : X) → i ≤ k → get_or now k d ≡ get_or old k d)

pub left_more : {A : Type 0} (old now : List A) (i : ℕ) (new : A) → IsLeft old now i → IsLeft old (set now i new) (i + 1)
left_more old now i new h = (length-set now i new ∙ h.0, λ k d le. let other : k ≢ i = omega (arith, le) in get_or-set_other now i k new d other ∙ h.1 k d (omega (arith, le)))
