-- Words of names and their variables, after one of them is set.
use Rattle.machine_meaning.proofs.Common.{◌≡◌, ◌≢◌, ℕ, zero, suc, ◌<◌, ◌≤◌, Bool, true, false, List, [], ◌∷◌, length, replicate, Some, None, refl, sym, ap, ◌∙◌, subst, arith, get_or, set, ⊎_elim, eqb, IsTrue, ◌||◌, slice_index, map-set_same, cases_eq, cases_lt, ne_eqb, length-set, get_or-set_same, get_or-set_other, length-replicate, row, width, with_word, with_zeros, Context, visible}
use Rattle.machine_meaning.proofs.Silent.{Vars, put}
use Rattle.machine_meaning.proofs.Expressions.{Reads, Wide, wide_at}
use Rattle.machine_meaning.proofs.Stands.{Within}

beyond : {A : Type 0} (rows : List (List A)) (x : ℕ) → length rows ≤ x → get_or rows x [] ≡ []
beyond [] x le = refl
beyond (r ∷ rows) zero le = absurd (omega arith)
beyond (r ∷ rows) (suc x) le = beyond rows x (omega arith)

-- a name with a word is there
pub is_there : (rows : List (List ℕ)) (x : ℕ) → 1 ≤ width rows x → x < length rows
is_there rows x le = ⊎_elim (λ lt. lt) (λ ge. let none : length (get_or rows x []) ≡ 0 = ap length (beyond rows x ge) in absurd (omega arith)) (cases_lt x (length rows))

-- a row of as many words in place of one
pub wide_set : (c : Context) (rows : List (List ℕ)) (x : ℕ) (words : List ℕ) → length words ≡ width rows x → Wide c rows → Wide c (set rows x words)
wide_set c rows x words e wide = map-set_same length rows x words [] e ∙ wide

pub reads_fewer : (c : Context) (fewer scope : List ℕ) (names : List (List ℕ)) (vars : Vars) → Within fewer scope → Reads c scope names vars → Reads c fewer names vars
reads_fewer c fewer scope names vars w reads x lt seen = reads x lt (w x seen)

pub or_cases : (a b : Bool) → IsTrue (a || b) → a ≡ false → IsTrue b
or_cases true b h e = absurd cc
or_cases false b h e = h

seen_before : (y x : ℕ) (scope : List ℕ) → y ≢ x → IsTrue (visible y (x ∷ scope)) → IsTrue (visible y scope)
seen_before y x scope ne h = or_cases (eqb y x) (visible y scope) h (ne_eqb y x ne)

-- a name and its variable are set to the same words
pub reads_set : (c : Context) (scope : List ℕ) (names : List (List ℕ)) (vars : Vars) (x : ℕ) (words : List ℕ) → x < length names → x < length vars → Reads c scope names vars
    → Reads c (x ∷ scope) (set names x words) (set vars x (Some words))
reads_set c scope names vars x words there room reads y lt seen = ⊎_elim same other (cases_eq y x)
  where
    same : y ≡ x → get_or (set vars x (Some words)) y None ≡ Some (row (set names x words) y)
    same at =
        ap (λ n. get_or (set vars x (Some words)) n None) at ∙ get_or-set_same vars x (Some words) None room
        ∙ ap (λ r. Some r) (sym (get_or-set_same names x words [] there)) ∙ ap (λ n. Some (row (set names x words) n)) (sym at)

    other : y ≢ x → get_or (set vars x (Some words)) y None ≡ Some (row (set names x words) y)
    other ne = get_or-set_other vars x y (Some words) None ne ∙ reads y lt (seen_before y x scope ne seen) ∙ ap (λ r. Some r) (sym (get_or-set_other names x y words [] ne))

set_one : (words : List ℕ) (v : ℕ) → length words ≡ 1 → set words 0 v ≡ v ∷ []
set_one (w ∷ []) v e = refl
set_one _ v e = absurd (omega arith)

-- a name of one word is set
pub reads_word : (c : Context) (scope : List ℕ) (names : List (List ℕ)) (vars : Vars) (x v : ℕ) → Wide c names → slice_index c.sizes x ≡ 1 → x < length vars → Reads c scope names vars
    → Reads c (x ∷ scope) (with_word names x 0 v) (put vars x v)
reads_word c scope names vars x v wide one room reads =
    let is : set (row names x) 0 v ≡ v ∷ [] = set_one (row names x) v (wide_at c names wide x ∙ one) in
    subst (λ words. Reads c (x ∷ scope) (set names x (set (row names x) 0 v)) (set vars x (Some words))) is
    (reads_set c scope names vars x (set (row names x) 0 v) (is_there names x (omega (arith, wide_at c names wide x))) room reads)

pub wide_word : (c : Context) (names : List (List ℕ)) (x i v : ℕ) → Wide c names → Wide c (with_word names x i v)
wide_word c names x i v wide = wide_set c names x (set (row names x) i v) (length-set (row names x) i v) wide

-- all words of a name are 0
pub reads_zeros : (c : Context) (scope : List ℕ) (names : List (List ℕ)) (vars : Vars) (x : ℕ) → 1 ≤ width names x → x < length vars → Reads c scope names vars
    → Reads c (x ∷ scope) (with_zeros names x) (set vars x (Some (replicate (width names x) 0)))
reads_zeros c scope names vars x some room reads = reads_set c scope names vars x (replicate (width names x) 0) (is_there names x some) room reads

pub wide_zeros : (c : Context) (names : List (List ℕ)) (x : ℕ) → Wide c names → Wide c (with_zeros names x)
wide_zeros c names x wide = wide_set c names x (replicate (width names x) 0) (length-replicate (width names x) 0) wide

sees : (x : ℕ) (scope : List ℕ) → Within scope (x ∷ scope)
sees x scope y h = or_true (eqb y x) (visible y scope) h
  where
    or_true : (a b : Bool) → IsTrue b → IsTrue (a || b)
    or_true true b h = refl
    or_true false b h = h

-- one word of a name is set
pub reads_element : (c : Context) (scope : List ℕ) (names : List (List ℕ)) (vars : Vars) (a i v : ℕ) → i < width names a → a < length vars → Reads c scope names vars
    → Reads c scope (with_word names a i v) (set vars a (Some (set (row names a) i v)))
reads_element c scope names vars a i v lt room reads =
    reads_fewer c scope (a ∷ scope) (with_word names a i v) (set vars a (Some (set (row names a) i v))) (sees a scope)
    (reads_set c scope names vars a (set (row names a) i v) (is_there names a (omega arith)) room reads)
