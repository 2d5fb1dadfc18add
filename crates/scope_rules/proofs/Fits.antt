-- What a program's names stand for is there, and of the right kind.
use Rattle.scope_rules.proofs.Common.{ℕ, ◌≡◌, ◌<◌, refl, subst, Bool, true, false, List, [], ◌∷◌, length, Some, slice_index, IsTrue, eqb, ◌||◌, if◌then◌else◌, bytes_eq, Context, visible, signature_at, Meaning, Found, Binding, find}

abbrev pub MeaningFits : Context → List ℕ → Meaning → Type 0
MeaningFits c scope (Meaning.Local x array) = (x < length c.sizes) × IsTrue (visible x scope) × (array ≡ false → slice_index c.sizes x ≡ 1)
MeaningFits c scope (Meaning.Global g array) = (g < length c.globals) × (array ≡ false → slice_index c.globals g ≡ 1)
MeaningFits c scope (Meaning.Table t) = t < c.tables
MeaningFits c scope (Meaning.Function f gives params defined) = (f < length c.signatures) × ((signature_at c.signatures f).params ≡ params) × ((signature_at c.signatures f).gives ≡ gives)
MeaningFits c scope _ = Unit {0}

abbrev pub AllFit : Context → List ℕ → List Binding → Type 0
AllFit c scope [] = Unit {0}
AllFit c scope (b ∷ bs) = MeaningFits c scope b.meaning × AllFit c scope bs

pub find_fits : (c : Context) (scope : List ℕ) (t : List ℕ) (names : List Binding) (f : Found) → AllFit c scope names → find t names ≡ Some f → MeaningFits c scope f.meaning
find_fits c scope t [] f h e = cc
find_fits c scope t (b ∷ bs) f h e = at_head (bytes_eq b.text t) e (find_fits c scope t bs f h.1)
  where
    at_head : (v : Bool) → (if v then Some (record { position = length bs; meaning = b.meaning }) else find t bs) ≡ Some f → (find t bs ≡ Some f → MeaningFits c scope f.meaning) → MeaningFits c scope f.meaning
    at_head true k next = let same : ◌≡◌ {A = Found} (record { position = length bs; meaning = b.meaning }) f = cc in subst (λ (x : Found). MeaningFits c scope x.meaning) same h.0
    at_head false k next = next k

or_true : (a b : Bool) → IsTrue b → IsTrue (a || b)
or_true true b h = refl
or_true false b h = h

pub fits_more : (c : Context) (x : ℕ) (scope : List ℕ) (m : Meaning) → MeaningFits c scope m → MeaningFits c (x ∷ scope) m
fits_more c x scope (Meaning.Local y array) h = (h.0, or_true (eqb y x) (visible y scope) h.1, h.2)
fits_more c x scope _ h = h

pub all_fit_more : (c : Context) (x : ℕ) (scope : List ℕ) (names : List Binding) → AllFit c scope names → AllFit c (x ∷ scope) names
all_fit_more c x scope [] h = tt
all_fit_more c x scope (b ∷ bs) h = (fits_more c x scope b.meaning h.0, all_fit_more c x scope bs h.1)

pub all_fit_bound : (c : Context) (scope : List ℕ) (b : Binding) (names : List Binding) (v : Bool) → MeaningFits c scope b.meaning → AllFit c scope names → AllFit c scope (if v then names else b ∷ names)
all_fit_bound c scope b names true h k = k
all_fit_bound c scope b names false h k = (h, k)
