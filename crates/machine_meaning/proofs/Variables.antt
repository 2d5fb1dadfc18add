-- The variables of a flat frame that waits where a source frame does: the names in scope, and the index of its place.
use Rattle.machine_meaning.proofs.Common.{◌≡◌, ℕ, ◌+◌, ◌<◌, ◌≤◌, Bool, true, false, List, [], ◌∷◌, length, Option, Some, None, refl, sym, ap, ◌∙◌, arith, cond, ⊎_elim, IsTrue, eqb, nat_lt, slice_index_or, cases_lt, cases_eq, cond-true, cond-false, lt-ltb, le-ltb, eq-eqb, ne_eqb, row, visible, Place, InLocalElement, InGlobalElement}
use Rattle.machine_meaning.proofs.Numbering.{numbered, numbered_length, numbered_at, past_end}

-- the words that hold the index of a place
abbrev pub index_of : Place → Option (List ℕ)
index_of (InLocalElement a i) = Some (i ∷ [])
index_of (InGlobalElement a i) = Some (i ∷ [])
index_of _ = None

abbrev pub when_seen : Bool → List ℕ → Option (List ℕ)
when_seen true words = Some words
when_seen false words = None

-- the words of variable x: the first t are names, and the next holds the index of the place
pub row_of : List (List ℕ) → List ℕ → ℕ → Place → ℕ → Option (List ℕ)
row_of names scope t place x = cond (nat_lt x t) (when_seen (visible x scope) (row names x)) (cond (eqb x t) (index_of place) None)

pub data RowIs (names : List (List ℕ)) (scope : List ℕ) (t : ℕ) (place : Place) (x : ℕ) (words : List ℕ) : Type 0 where
  IsName : (there : x < t) (seen : IsTrue (visible x scope)) (is : words ≡ row names x) → RowIs names scope t place x words
  IsIndex : (last : x ≡ t) (is : index_of place ≡ Some words) → RowIs names scope t place x words

pub name_row : (names : List (List ℕ)) (scope : List ℕ) (t : ℕ) (place : Place) (x : ℕ) → x < t → IsTrue (visible x scope) → row_of names scope t place x ≡ Some (row names x)
unfolding row_of
name_row names scope t place x lt seen = cond-true (nat_lt x t) _ _ (lt-ltb x t lt) ∙ ap (λ (b : Bool). when_seen b (row names x)) seen

pub index_row : (names : List (List ℕ)) (scope : List ℕ) (t : ℕ) (place : Place) → row_of names scope t place t ≡ index_of place
unfolding row_of
index_row names scope t place = cond-false (nat_lt t t) _ _ (le-ltb t t (omega arith)) ∙ cond-true (eqb t t) _ _ (eq-eqb t t refl)

seen_is : (b : Bool) (row words : List ℕ) → when_seen b row ≡ Some words → IsTrue b × (words ≡ row)
seen_is true row words e = (refl, (let same : row ≡ words = cc in sym same))
seen_is false row words e = absurd cc

-- no words
abbrev nothing : Option (List ℕ)
nothing = None

pub row_is : (names : List (List ℕ)) (scope : List ℕ) (t : ℕ) (place : Place) (x : ℕ) (words : List ℕ) → row_of names scope t place x ≡ Some words → RowIs names scope t place x words
unfolding row_of
row_is names scope t place x words e = ⊎_elim
    (λ (lt : x < t). let h = seen_is (visible x scope) (row names x) words (sym (cond-true (nat_lt x t) _ _ (lt-ltb x t lt)) ∙ e) in IsName lt h.0 h.1)
    (λ (ge : t ≤ x).
    let later : cond (eqb x t) (index_of place) nothing ≡ Some words = sym (cond-false (nat_lt x t) _ _ (le-ltb x t ge)) ∙ e in
    ⊎_elim
    (λ (same : x ≡ t). IsIndex same (sym (cond-true (eqb x t) (index_of place) nothing (eq-eqb x t same)) ∙ later))
    (λ (other : x ≡ t → ⊥). absurd (let none : nothing ≡ Some words = sym (cond-false (eqb x t) (index_of place) nothing (ne_eqb x t other)) ∙ later in cc))
    (cases_eq x t))
    (cases_lt x t)

-- as many variables as said
pub variables_of : List (List ℕ) → List ℕ → ℕ → Place → ℕ → List (Option (List ℕ))
variables_of names scope t place n = numbered (row_of names scope t place) 0 n

pub variables_length : (names : List (List ℕ)) (scope : List ℕ) (t : ℕ) (place : Place) (n : ℕ) → length (variables_of names scope t place n) ≡ n
unfolding variables_of
variables_length names scope t place n = numbered_length (row_of names scope t place) 0 n

pub variable_is : (names : List (List ℕ)) (scope : List ℕ) (t : ℕ) (place : Place) (n x : ℕ) → x < n → slice_index_or (variables_of names scope t place n) x None ≡ row_of names scope t place x
unfolding variables_of
variable_is names scope t place n x lt = numbered_at (row_of names scope t place) 0 n x None lt ∙ (let same : 0 + x ≡ x = omega arith in ap (λ (y : ℕ). row_of names scope t place y) same)

-- a variable that is set is one of them
pub variable_set : (names : List (List ℕ)) (scope : List ℕ) (t : ℕ) (place : Place) (n x : ℕ) (words : List ℕ) → slice_index_or (variables_of names scope t place n) x None ≡ Some words → x < n
unfolding variables_of
variable_set names scope t place n x words e = ⊎_elim
    (λ (lt : x < n). lt)
    (λ (ge : n ≤ x). absurd (let long = numbered_length (row_of names scope t place) 0 n in let none : nothing ≡ Some words = sym (past_end (numbered (row_of names scope t place) 0 n) x None (omega (arith, long, ge))) ∙ e in cc))
    (cases_lt x n)
