-- Lists of what two functions give.
use Rattle.std.proofs.Common.{◌≡◌, List, [], ◌∷◌, map, refl}

pub map_same : {A B : Type 0} (f g : A → B) (xs : List A) → ((x : A) → f x ≡ g x) → map f xs ≡ map g xs
map_same f g [] h = refl
map_same f g (x ∷ xs) h = rw (h x, map_same f g xs h) refl
