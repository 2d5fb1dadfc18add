-- Of a line it is decided whether it is as said where something is due.
use Rattle.decisions.proofs.Common.{ℕ, zero, suc, ◌≡◌, ◌∙◌, ◌+◌, ◌<◌, ◌≤◌, ◌^◌, ◌⊎◌, inl, inr, refl, sym, ap, subst, arith, List, [], ◌∷◌, ◌++◌, length, map, codes, Option, Some, None, decided_by, both_decided, either_decided, number_same, Below, below_decided, text_same, canonical_decimal, after_each, FunctionFact, SiteFact, LinkKind, title_line, chunk_line, max_path_line, functions_line, function_numbers, function_line, sites_line, site_line, HasFewPlaces, AreWords, HoldsFunctionWords, HoldsSiteWords, IsAbove, Due, IsAsSaid, Title, Chunk, MaxPath, FunctionCount, Functions, Sites, Decided}
use Rattle.stack_certificate.specs.declared.sites.LinkKind.TheVariants.{Plain, Linked, Spawned}
use Rattle.decisions.proofs.Decisions.{lt_decided, Begins, begins_decided}

-- ---- a line with one number

numbered_by : (line : List ℕ) (spell : ℕ → List ℕ) (bound : ℕ) → Decided (Below (λ n. line ≡ spell n) bound)
numbered_by line spell bound = below_decided (λ n. line ≡ spell n) (λ n. text_same line (spell n)) bound

-- ---- a line with many numbers

-- the text is so many numbers, each behind a space
abbrev Fields : ℕ → List ℕ → Type 0
Fields count text = (numbers : List ℕ) × ((length numbers ≡ count) × (AreWords numbers × (text ≡ after_each 32 (map canonical_decimal numbers))))

-- it is this number, and then so many
abbrev FieldsFrom : ℕ → List ℕ → ℕ → Type 0
FieldsFrom count text n = (more : List ℕ) × ((text ≡ canonical_decimal n ++ more) × Fields count more)

cancelled : (front a b : List ℕ) → front ++ a ≡ front ++ b → a ≡ b
cancelled [] a b e = e
cancelled (x ∷ front) a b e = cancelled front a b (cc)

fields_from : (count : ℕ) (text : List ℕ) (n : ℕ) → ((more : List ℕ) → Decided (Fields count more)) → Decided (FieldsFrom count text n)
fields_from count text n each = by (begins_decided (canonical_decimal n) text) where
  with_rest : (b : Begins (canonical_decimal n) text) → Decided (Fields count b.0) → Decided (FieldsFrom count text n)
  with_rest b (inl f) = inl (b.0, (b.1, f))
  with_rest b (inr none) = inr (λ other.
      let same : other.0 ≡ b.0 = cancelled (canonical_decimal n) other.0 b.0 (sym other.1.0 ∙ b.1) in
      none (subst (λ (more : List ℕ). Fields count more) same other.1.1))

  by : Decided (Begins (canonical_decimal n) text) → Decided (FieldsFrom count text n)
  by (inr none) = inr (λ other. none (other.0, other.1.0))
  by (inl b) = with_rest b (each b.0)

module _ (bound : ℕ) (bound_is : bound ≡ 2 ^ 32) where
  below_word : (n : ℕ) → n < bound → n < 2 ^ 32
  below_word n h = subst (λ (m : ℕ). n < m) bound_is h

  within_bound : (n : ℕ) → n < 2 ^ 32 → n < bound
  within_bound n h = subst (λ (m : ℕ). n < m) (sym bound_is) h

  abbrev First : ℕ → ℕ → List ℕ → Type 0
  First count b text = (b ≡ 32) × Below (FieldsFrom count text) bound

  first_to : (count b : ℕ) (text : List ℕ) → First count b text → Fields (suc count) (b ∷ text)
  first_to count b text (space, (n, (small, (more, (e, (numbers, (long, (words, is)))))))) =
      (n ∷ numbers, (ap suc long, ((below_word n small, words), (cc))))

  first_from : (count b : ℕ) (text : List ℕ) → Fields (suc count) (b ∷ text) → First count b text
  first_from count b text ([], (long, (words, is))) = absurd cc
  first_from count b text (n ∷ numbers, (long, (words, is))) =
      ((cc), (n, (within_bound n words.0, (after_each 32 (map canonical_decimal numbers), ((cc), (numbers, ((cc), (words.1, refl))))))))

  pub fields_decided : (count : ℕ) (text : List ℕ) → Decided (Fields count text)
  fields_decided zero text = decided_by (λ (e : text ≡ []). ([], (refl, (tt, e)))) none_there (text_same text []) where
    none_there : Fields zero text → text ≡ []
    none_there ([], (long, (words, is))) = is
    none_there (n ∷ numbers, (long, (words, is))) = absurd (omega (arith, long))
  fields_decided (suc count) [] = inr none_there where
    none_there : Fields (suc count) [] → ⊥
    none_there ([], (long, (words, is))) = cc
    none_there (n ∷ numbers, (long, (words, is))) = cc
  fields_decided (suc count) (b ∷ text) =
      decided_by (first_to count b text) (first_from count b text)
      (both_decided (number_same b 32) (below_decided (FieldsFrom count text) (λ n. fields_from count text n (fields_decided count)) bound))

  -- ---- a line of a function

  abbrev AFunction : List ℕ → Type 0
  AFunction line = (fact : FunctionFact) × HasFewPlaces fact × HoldsFunctionWords fact × (line ≡ function_line fact)

  abbrev SomeFields : List ℕ → ℕ → Type 0
  SomeFields rest most = Below (λ places. Fields (suc (suc (suc (suc (suc places))))) rest) most

  function_to : (line rest : List ℕ) (most : ℕ) → most ≡ 4097 → line ≡ codes "function" ++ rest → SomeFields rest most → AFunction line
  function_to line rest most m e (places, (few, ([], (long, f)))) = absurd (omega (arith, long))
  function_to line rest most m e (places, (few, (x ∷ [], (long, f)))) = absurd (omega (arith, long))
  function_to line rest most m e (places, (few, (x ∷ y ∷ [], (long, f)))) = absurd (omega (arith, long))
  function_to line rest most m e (places, (few, (x ∷ y ∷ z ∷ [], (long, f)))) = absurd (omega (arith, long))
  function_to line rest most m e (places, (few, (x ∷ y ∷ z ∷ u ∷ [], (long, f)))) = absurd (omega (arith, long))
  function_to line rest most m e (places, (few, (x ∷ y ∷ z ∷ u ∷ v ∷ numbers, (long, (words, is))))) =
      (record { entry = x; words = y; frame = z; ra = u; bound = v; places = numbers }, omega (arith, few, long, m), words, e ∙ ap (λ (r : List ℕ). codes "function" ++ r) is)

  function_from : (line rest : List ℕ) (most : ℕ) → most ≡ 4097 → line ≡ codes "function" ++ rest → AFunction line → SomeFields rest most
  function_from line rest most m e (fact, few, words, is) =
      let same : rest ≡ after_each 32 (map canonical_decimal (function_numbers fact)) = cancelled (codes "function") rest (after_each 32 (map canonical_decimal (function_numbers fact))) (sym e ∙ is) in
      (length fact.places, (omega (arith, few, m), (function_numbers fact, (omega arith, (words, same)))))

  function_decided : (line : List ℕ) (most : ℕ) → most ≡ 4097 → Decided (AFunction line)
  function_decided line most m = by (begins_decided (codes "function") line) where
    by : Decided (Begins (codes "function") line) → Decided (AFunction line)
    by (inr none) = inr (λ f. none (after_each 32 (map canonical_decimal (function_numbers f.0)), f.3))
    by (inl b) = decided_by (function_to line b.0 most m b.1) (function_from line b.0 most m b.1)
        (below_decided (λ places. Fields (suc (suc (suc (suc (suc places))))) b.0) (λ places. fields_decided (suc (suc (suc (suc (suc places))))) b.0) most)

  -- ---- a line of a site

  abbrev ASite : Option ℕ → List ℕ → Type 0
  ASite last line = (fact : SiteFact) × IsAbove last fact.number × HoldsSiteWords fact × (line ≡ site_line fact)

  abbrev Needs : (ℕ → LinkKind) → List ℕ → ℕ → Type 0
  Needs kind line number = Below (λ need. line ≡ site_line (record { number = number; kind = kind need })) bound

  abbrev SiteAt : Option ℕ → List ℕ → ℕ → Type 0
  SiteAt last line number = IsAbove last number × ((line ≡ site_line (record { number = number; kind = Plain })) ⊎ (Needs Linked line number ⊎ Needs Spawned line number))

  above_decided : (last : Option ℕ) (number : ℕ) → Decided (IsAbove last number)
  above_decided None number = inl tt
  above_decided (Some last) number = lt_decided last number

  site_to : (last : Option ℕ) (line : List ℕ) → Below (SiteAt last line) bound → ASite last line
  site_to last line (number, (small, (above, inl e))) = (record { number = number; kind = Plain }, above, (below_word number small, tt), e)
  site_to last line (number, (small, (above, inr (inl (need, (few, e)))))) = (record { number = number; kind = Linked need }, above, (below_word number small, below_word need few), e)
  site_to last line (number, (small, (above, inr (inr (need, (few, e)))))) = (record { number = number; kind = Spawned need }, above, (below_word number small, below_word need few), e)

  ways : (last : Option ℕ) (line : List ℕ) (number : ℕ) (kind : LinkKind) → IsAbove last number → HoldsSiteWords (record { number = number; kind = kind }) → line ≡ site_line (record { number = number; kind = kind }) → SiteAt last line number
  ways last line number Plain above words e = (above, inl e)
  ways last line number (Linked need) above words e = (above, inr (inl (need, (within_bound need words.1, e))))
  ways last line number (Spawned need) above words e = (above, inr (inr (need, (within_bound need words.1, e))))

  site_from : (last : Option ℕ) (line : List ℕ) → ASite last line → Below (SiteAt last line) bound
  site_from last line (fact, above, words, e) = (fact.number, (within_bound fact.number words.0, ways last line fact.number fact.kind above words e))

  site_decided : (last : Option ℕ) (line : List ℕ) → Decided (ASite last line)
  site_decided last line = decided_by (site_to last line) (site_from last line)
      (below_decided (SiteAt last line) (λ number. both_decided (above_decided last number)
      (either_decided (text_same line (site_line (record { number = number; kind = Plain })))
      (either_decided (numbered_by line (λ need. site_line (record { number = number; kind = Linked need })) bound) (numbered_by line (λ need. site_line (record { number = number; kind = Spawned need })) bound)))) bound)

  -- ---- what is due

  abbrev Said : Due → List ℕ → Type 0
  Said due line = (next : Due) × IsAsSaid due line next

  small_by : (line : List ℕ) (spell : ℕ → List ℕ) (most end : ℕ) → end ≡ suc most → Decided ((n : ℕ) × ((n ≤ most) × (line ≡ spell n)))
  small_by line spell most end e = decided_by (λ (b : Below (λ n. line ≡ spell n) end). (b.0, ((let h = b.1.0 in omega (arith, h, e)), b.1.1))) (λ s. (s.0, ((let h = s.1.0 in omega (arith, h, e)), s.1.1))) (numbered_by line spell end)

  said_decided : (due : Due) (line : List ℕ) → Decided (Said due line)
  said_decided Title line = decided_by (λ (e : line ≡ title_line). (Chunk, (e, refl))) (λ s. s.1.0) (text_same line title_line)
  said_decided Chunk line = decided_by (λ (b : Below (λ n. line ≡ chunk_line n) bound). (MaxPath, (b.0, below_word b.0 b.1.0, b.1.1, refl))) (λ s. (s.1.0, (within_bound s.1.0 s.1.1, s.1.2))) (numbered_by line chunk_line bound)
  said_decided MaxPath line =
      decided_by (λ (b : Below (λ n. line ≡ max_path_line n) bound). (FunctionCount, (b.0, below_word b.0 b.1.0, b.1.1, refl))) (λ s. (s.1.0, (within_bound s.1.0 s.1.1, s.1.2))) (numbered_by line max_path_line bound)
  said_decided FunctionCount line =
      decided_by (λ (b : (n : ℕ) × ((n ≤ 4096) × (line ≡ functions_line n))). (Functions b.0, (b.0, b.1.0, b.1.1, refl))) (λ s. (s.1.0, (s.1.1, s.1.2))) (small_by line functions_line 4096 4097 refl)
  said_decided (Functions zero) line =
      decided_by (λ (b : (n : ℕ) × ((n ≤ 65535) × (line ≡ sites_line n))). (Sites b.0 None, (b.0, b.1.0, b.1.1, refl))) (λ s. (s.1.0, (s.1.1, s.1.2))) (small_by line sites_line 65535 65536 refl)
  said_decided (Functions (suc left)) line =
      decided_by (λ (f : AFunction line). (Functions left, (f.0, f.1, f.2, f.3, refl))) (λ s. (s.1.0, s.1.1, s.1.2, s.1.3)) (function_decided line 4097 refl)
  said_decided (Sites (suc left) last) line =
      decided_by (λ (f : ASite last line). (Sites left (Some f.0.number), (f.0, f.1, f.2, f.3, refl))) (λ s. (s.1.0, s.1.1, s.1.2, s.1.3)) (site_decided last line)
  said_decided (Sites zero last) line = inr (λ s. s.1)

pub line_decided : (due : Due) (line : List ℕ) → Decided ((next : Due) × IsAsSaid due line next)
line_decided due line = said_decided (2 ^ 32) refl due line
