-- The averages that an edge's line shows, one resource after another.
use Rattle.schedule_reading.proofs.Common.{◌≡◌, ◌≢◌, ◌↔◌, ℕ, zero, suc, ◌+◌, ◌<◌, ◌≤◌, ◌⊎◌, inl, inr, ℤ, pos, nat_eq, true, List, [], ◌∷◌, length, drop, refl, sym, ap, ◌∙◌, arith, if◌then◌else◌, get_or, drop-cons, add-one, length-drop, eq-eqb, eqb-true, ne_eqb, given, shown}

-- what is left to be shown from a resource on
abbrev pub left_at : List ℕ → List ℤ → ℕ → List ℤ
left_at caps change zero = shown caps change
left_at caps change (suc r) = given (drop (suc r) caps) (drop (suc r) change)

module _ (caps : List ℕ) (change : List ℤ) (caps_eight : length caps ≡ 8) (change_eight : length change ≡ 8) where
  first_by : (cs : List ℕ) (avgs : List ℤ) → 0 < length avgs → left_at cs avgs 0 ≡ get_or avgs 0 (pos 0) ∷ left_at cs avgs 1
  first_by cs [] some = absurd (omega (arith, some))
  first_by cs (a ∷ avgs) some = refl

  -- resource 0 is shown
  pub first_shown : left_at caps change 0 ≡ get_or change 0 (pos 0) ∷ left_at caps change 1
  first_shown = first_by caps change (omega (arith, change_eight))

  next_is : (r : ℕ) → suc r < 8 → left_at caps change (suc r) ≡ given (get_or caps (suc r) 0 ∷ drop (suc (suc r)) caps) (get_or change (suc r) (pos 0) ∷ drop (suc (suc r)) change)
  next_is r below =
      ap (λ (cs : List ℕ). given cs (drop (suc r) change)) (drop-cons caps (suc r) 0 (omega (arith, below, caps_eight)))
      ∙ ap (λ (avgs : List ℤ). given (get_or caps (suc r) 0 ∷ drop (suc (suc r)) caps) avgs) (drop-cons change (suc r) (pos 0) (omega (arith, below, change_eight)))

  -- another is shown where it is given
  pub next_shown : (r : ℕ) → suc r < 8 → get_or caps (suc r) 0 ≢ 0 → left_at caps change (suc r) ≡ get_or change (suc r) (pos 0) ∷ left_at caps change (suc (suc r))
  next_shown r below some =
      next_is r below
      ∙ ap (λ b. if b then given (drop (suc (suc r)) caps) (drop (suc (suc r)) change) else get_or change (suc r) (pos 0) ∷ given (drop (suc (suc r)) caps) (drop (suc (suc r)) change)) (ne_eqb (get_or caps (suc r) 0) 0 some)

  pub next_skipped : (r : ℕ) → suc r < 8 → get_or caps (suc r) 0 ≡ 0 → left_at caps change (suc r) ≡ left_at caps change (suc (suc r))
  next_skipped r below none =
      next_is r below
      ∙ ap (λ b. if b then given (drop (suc (suc r)) caps) (drop (suc (suc r)) change) else get_or change (suc r) (pos 0) ∷ given (drop (suc (suc r)) caps) (drop (suc (suc r)) change)) (eq-eqb (get_or caps (suc r) 0) 0 none)

  none_past : (n : ℕ) (cs : List ℕ) → length cs ≡ n → drop n cs ≡ []
  none_past zero [] e = refl
  none_past (suc n) (c ∷ cs) e = none_past n cs (omega (arith, e))
  none_past _ _ e = absurd (omega (arith, e))

  -- and then none is left
  pub last_shown : left_at caps change 8 ≡ []
  last_shown = ap (λ (cs : List ℕ). given cs (drop 8 change)) (none_past 8 caps caps_eight)

-- ---- one value after another

same_head : (a b : ℤ) (avgs bs : List ℤ) → a ∷ avgs ≡ b ∷ bs → a ≡ b
same_head a b avgs bs e = cc

same_tail : (a b : ℤ) (avgs bs : List ℤ) → a ∷ avgs ≡ b ∷ bs → avgs ≡ bs
same_tail a b avgs bs e = cc

-- a value that is there, and another than is shown
module _ (values : List ℤ) (read : ℕ) (a : ℤ) (more : List ℤ) where
  pub shown_on : read < length values → get_or values read (pos 0) ≡ a → more ≡ drop (suc read) values → a ∷ more ≡ drop read values
  shown_on below same rest = ap (λ (x : ℤ). x ∷ more) (sym same) ∙ ap (λ (xs : List ℤ). get_or values read (pos 0) ∷ xs) rest ∙ sym (drop-cons values read (pos 0) below)

  pub shown_back : read < length values → a ∷ more ≡ drop read values → more ≡ drop (suc read) values
  shown_back below e = same_tail a (get_or values read (pos 0)) more (drop (suc read) values) (e ∙ drop-cons values read (pos 0) below)

  pub shown_value : read < length values → a ∷ more ≡ drop read values → get_or values read (pos 0) ≡ a
  shown_value below e = sym (same_head a (get_or values read (pos 0)) more (drop (suc read) values) (e ∙ drop-cons values read (pos 0) below))

  past : (n : ℕ) (xs : List ℤ) → length xs ≤ n → drop n xs ≡ []
  past n [] h = nothing n where
    nothing : (n : ℕ) → ◌≡◌ {A = List ℤ} (drop n []) []
    nothing zero = refl
    nothing (suc n) = refl
  past zero (x ∷ xs) h = absurd (omega (arith, h))
  past (suc n) (x ∷ xs) h = past n xs (omega (arith, h))

  pub shown_over : length values ≤ read → a ∷ more ≡ drop read values → ⊥
  shown_over h e = absurd (let no : a ∷ more ≡ [] = e ∙ past read values h in cc)

-- ---- one turn after another

-- what is shown is the values just where what is left from a resource on is what is left of the values
abbrev pub ShownFrom : List ℕ → List ℤ → List ℤ → (r read : ℕ) → Type 0
ShownFrom caps change values r read = (shown caps change ≡ values) ↔ (left_at caps change r ≡ drop read values)

module _ (caps : List ℕ) (change values : List ℤ) (caps_eight : length caps ≡ 8) (change_eight : length change ≡ 8) where
  pub more_from : (r : ℕ) → r < 8 → (r ≡ 0) ⊎ (get_or caps r 0 ≢ 0) → left_at caps change r ≡ get_or change r (pos 0) ∷ left_at caps change (r + 1)
  more_from zero below either = first_shown caps change caps_eight change_eight
  more_from (suc r) below (inl none) = absurd (omega (arith, none))
  more_from (suc r) below (inr some) =
      next_shown caps change caps_eight change_eight r below some ∙ ap (λ (n : ℕ). get_or change (suc r) (pos 0) ∷ left_at caps change n) (sym (add-one (suc r)))

  pub skip_from : (r : ℕ) → r < 8 → r ≢ 0 → get_or caps r 0 ≡ 0 → left_at caps change r ≡ left_at caps change (r + 1)
  skip_from zero below some none = absurd (some refl)
  skip_from (suc r) below some none = next_skipped caps change caps_eight change_eight r below none ∙ ap (left_at caps change) (sym (add-one (suc r)))

  -- a value is that which is shown
  pub turn_more : (r read : ℕ) → r < 8 → (r ≡ 0) ⊎ (get_or caps r 0 ≢ 0) → read < length values → get_or values read (pos 0) ≡ get_or change r (pos 0) → ShownFrom caps change values r read → ShownFrom caps change values (r + 1) (read + 1)
  turn_more r read below either there same from = (
    λ e.
        shown_back values read (get_or change r (pos 0)) (left_at caps change (r + 1)) there (sym (more_from r below either) ∙ from.0 e)
        ∙ ap (λ (n : ℕ). drop n values) (sym (add-one read)),
    λ e. from.1 (more_from r below either ∙ shown_on values read (get_or change r (pos 0)) (left_at caps change (r + 1)) there same (e ∙ ap (λ (n : ℕ). drop n values) (add-one read))),
  )

  -- a resource isn't shown
  pub turn_skip : (r read : ℕ) → r < 8 → r ≢ 0 → get_or caps r 0 ≡ 0 → ShownFrom caps change values r read → ShownFrom caps change values (r + 1) read
  turn_skip r read below some none from = (
    λ e. sym (skip_from r below some none) ∙ from.0 e,
    λ e. from.1 (skip_from r below some none ∙ e),
  )

  -- a value is missing, or is another
  pub turn_short : (r read : ℕ) → r < 8 → (r ≡ 0) ⊎ (get_or caps r 0 ≢ 0) → length values ≤ read → ShownFrom caps change values r read → shown caps change ≡ values → ⊥
  turn_short r read below either over from e =
      shown_over values read (get_or change r (pos 0)) (left_at caps change (r + 1)) over (sym (more_from r below either) ∙ from.0 e)

  pub turn_other : (r read : ℕ) → r < 8 → (r ≡ 0) ⊎ (get_or caps r 0 ≢ 0) → read < length values → (get_or values read (pos 0) ≡ get_or change r (pos 0) → ⊥) → ShownFrom caps change values r read → shown caps change ≡ values → ⊥
  turn_other r read below either there other from e =
      other (shown_value values read (get_or change r (pos 0)) (left_at caps change (r + 1)) there (sym (more_from r below either) ∙ from.0 e))

  none_over : (n : ℕ) (xs : List ℤ) → n ≡ length xs → drop n xs ≡ []
  none_over zero [] e = refl
  none_over (suc n) (x ∷ xs) e = none_over n xs (omega (arith, e))
  none_over _ _ e = absurd (omega (arith, e))

  -- all are shown
  pub turn_end : (r read : ℕ) → r ≡ 8 → read ≤ length values → ShownFrom caps change values r read → (nat_eq read (length values) ≡ true) ↔ (shown caps change ≡ values)
  turn_end r read all few from = (
    λ over. from.1 (last ∙ sym (none_over read values (eqb-true read (length values) over))),
    λ e.
        let none : drop read values ≡ [] = sym (from.0 e) ∙ last in
        let no : length values ≤ read = (let size = length-drop read values in let zero_is = ap length none in omega (arith, size, zero_is)) in
        eq-eqb read (length values) (omega (arith, few, no)),
  ) where
    last : left_at caps change r ≡ []
    last = ap (left_at caps change) all ∙ last_shown caps change caps_eight change_eight
