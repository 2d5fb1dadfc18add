-- The numbers of sites, one more at a time.
use Rattle.certificate_text.proofs.Common.{◌≡◌, ℕ, ◌+◌, List, [], ◌∷◌, ◌++◌, length, map, refl, ap, sym, subst, ◌∙◌, arith, append_assoc, length-append, Option, Some, None, AllByRecursion, ended_lines, SiteFact, IsAbove, Rises, site_line, HoldsSiteWords, All-push}
use Rattle.certificate_text.proofs.Passing.{last_number}

pub rises_push : (last : Option ℕ) (facts : List SiteFact) (fact : SiteFact) → Rises last facts → IsAbove (last_number last facts) fact.number → Rises last (facts ++ fact ∷ [])
rises_push last [] fact h above = (above, tt)
rises_push last (first ∷ facts) fact h above = (h.0, rises_push (Some first.number) facts fact h.1 above)

pub last_push : (last : Option ℕ) (facts : List SiteFact) (fact : SiteFact) → last_number last (facts ++ fact ∷ []) ≡ Some fact.number
last_push last [] fact = refl
last_push last (first ∷ facts) fact = last_push (Some first.number) facts fact

ended_push : {A : Type 0} (f : A → List ℕ) (xs : List A) (x : A) (rest : List ℕ) → ended_lines (map f (xs ++ x ∷ [])) ++ rest ≡ ended_lines (map f xs) ++ (f x ++ 10 ∷ rest)
ended_push f [] x rest = append_assoc (f x ++ 10 ∷ []) [] rest ∙ append_assoc (f x) (10 ∷ []) rest
ended_push f (y ∷ xs) x rest =
    append_assoc (f y ++ 10 ∷ []) (ended_lines (map f (xs ++ x ∷ []))) rest
    ∙ ap (λ (z : List ℕ). (f y ++ 10 ∷ []) ++ z) (ended_push f xs x rest)
    ∙ sym (append_assoc (f y ++ 10 ∷ []) (ended_lines (map f xs)) (f x ++ 10 ∷ rest))

-- one site more was read
pub one_site_more : (first number : ℕ) (text rest left line : List ℕ) (last : Option ℕ) (facts : List SiteFact) (fact : SiteFact) → number ≡ first + length facts → Rises None facts
    → AllByRecursion HoldsSiteWords facts → text ≡ ended_lines (map site_line facts) ++ rest → last ≡ last_number None facts → rest ≡ line ++ 10 ∷ left → IsAbove last fact.number → HoldsSiteWords fact
    → line ≡ site_line fact
    → (number + 1 ≡ first + length (facts ++ fact ∷ [])) × Rises None (facts ++ fact ∷ []) × AllByRecursion HoldsSiteWords (facts ++ fact ∷ [])
    × (text ≡ ended_lines (map site_line (facts ++ fact ∷ [])) ++ left) × (Some fact.number ≡ last_number None (facts ++ fact ∷ []))
one_site_more first number text rest left line last facts fact count rises words whole before next above small is = (
  omega (arith, length-append facts (fact ∷ [])),
  rises_push None facts fact rises (subst (λ (l : Option ℕ). IsAbove l fact.number) before above),
  All-push HoldsSiteWords facts fact words small,
  whole ∙ ap (λ (x : List ℕ). ended_lines (map site_line facts) ++ x) (next ∙ ap (λ (l : List ℕ). l ++ 10 ∷ left) is) ∙ sym (ended_push site_line facts fact left),
  sym (last_push None facts fact),
)
