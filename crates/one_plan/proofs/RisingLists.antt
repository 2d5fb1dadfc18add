-- Lists whose keys rise: such a list is determined by what is among it.
use Rattle.one_plan.proofs.Common.{◌≡◌, inl, inr, ℕ, ◌<◌, List, [], ◌∷◌, refl, sym, ap, subst, ◌∙◌, arith, ◌⊎◌, AllByRecursion, IsPermutation, All-from_recursion, recursion_from_All, All-permutation, IsPermutation-sym, All-weaker}

abbrev pub Among : {X : Type 0} → List X → X → Type 0
Among [] x = ⊥
Among (y ∷ ys) x = (y ≡ x) ⊎ Among ys x

abbrev pub Rises : {X : Type 0} → (X → ℕ) → List X → Type 0
Rises key [] = Unit {0}
Rises key (x ∷ xs) = AllByRecursion (λ y. key x < key y) xs × Rises key xs

all-both : {X : Type 0} (P Q R : X → Type 0) → ((x : X) → P x → Q x → R x) → (xs : List X) → AllByRecursion P xs → AllByRecursion Q xs → AllByRecursion R xs
all-both P Q R step [] h k = tt
all-both P Q R step (x ∷ xs) h k = (step x h.0 k.0, all-both P Q R step xs h.1 k.1)

all-among : {X : Type 0} (xs : List X) → AllByRecursion (Among xs) xs
all-among [] = tt
all-among (x ∷ xs) = (inl refl, All-weaker (Among xs) (Among (x ∷ xs)) (λ y h. inr h) xs (all-among xs))

among-all : {X : Type 0} (P : X → Type 0) (xs : List X) (x : X) → AllByRecursion P xs → Among xs x → P x
among-all P [] x h a = absurd a
among-all P (y ∷ ys) x h a = elim a [ inl e ↦ subst P e h.0 | inr rest ↦ among-all P ys x h.1 rest ]

-- of two orders of one list, each is among the other
pub each-among : {X : Type 0} (list xs ys : List X) → IsPermutation list xs → IsPermutation list ys → AllByRecursion (Among xs) ys
each-among list xs ys p q =
    let of_xs = All-from_recursion (Among xs) xs (all-among xs) in
    let of_list = All-permutation (Among xs) xs list (IsPermutation-sym list xs p) of_xs in
    recursion_from_All (Among xs) ys (All-permutation (Among xs) list ys q of_list)

heads-are-one : {X : Type 0} (key : X → ℕ) (x y : X) (xs ys : List X) → AllByRecursion (λ z. key x < key z) xs → AllByRecursion (λ z. key y < key z) ys → Among (x ∷ xs) y → Among (y ∷ ys) x → x ≡ y
heads-are-one key x y xs ys up down a b = elim a [
  | inl e ↦ e
  | inr m ↦ elim b [
    | inl e ↦ sym e
    | inr n ↦ let one = among-all (λ z. key x < key z) xs y up m in let two = among-all (λ z. key y < key z) ys x down n in absurd (omega arith)
  ]
]

not-head : {X : Type 0} (key : X → ℕ) (x y z : X) (xs : List X) → x ≡ y → Among (x ∷ xs) z → key y < key z → Among xs z
not-head key x y z xs e a lt = elim a [
  | inl same ↦ let k : key y ≡ key z = ap key (sym e ∙ same) in absurd (omega arith)
  | inr m ↦ m
]

cons-is-one : {X : Type 0} (x y : X) (xs ys : List X) → x ≡ y → xs ≡ ys → x ∷ xs ≡ y ∷ ys
cons-is-one x y xs ys e f = cc

pub lists-are-one : {X : Type 0} (key : X → ℕ) (xs ys : List X) → Rises key xs → Rises key ys → AllByRecursion (Among xs) ys → AllByRecursion (Among ys) xs → xs ≡ ys
lists-are-one key [] [] up down a b = refl
lists-are-one key [] (y ∷ ys) up down a b = absurd a.0
lists-are-one key (x ∷ xs) [] up down a b = absurd b.0
lists-are-one key (x ∷ xs) (y ∷ ys) up down a b =
    let e = heads-are-one key x y xs ys up.0 down.0 a.0 b.0 in
    cons-is-one x y xs ys e
    (lists-are-one key xs ys up.1 down.1
    (all-both (Among (x ∷ xs)) (λ z. key y < key z) (Among xs) (λ z m lt. not-head key x y z xs e m lt) ys a.1 down.0)
    (all-both (Among (y ∷ ys)) (λ z. key x < key z) (Among ys) (λ z m lt. not-head key y x z ys (sym e) m lt) xs b.1 up.0))

-- orders of one list in which the keys rise are one
pub orders-are-one : {X : Type 0} (key : X → ℕ) (list xs ys : List X) → IsPermutation list xs → IsPermutation list ys → Rises key xs → Rises key ys → xs ≡ ys
orders-are-one key list xs ys p q up down = lists-are-one key xs ys up down (each-among list xs ys p q) (each-among list ys xs q p)
