-- A key's field, cut at its marks.
use Rattle.schedule_log.proofs.Common.{◌≡◌, ℕ, ◌≤◌, List, [], ◌∷◌, ◌++◌, length, map, refl, ap, sym, ◌∙◌, arith, AllByRecursion, flat_map, canonical_decimal, pieces, Lacks, after_each, pieces_joined, text_of_pieces, lacks_decimal, key_field}

mark_away : (c : ℕ) → 45 ≤ c → c ≤ 57 → c ≡ 60 → ⊥
mark_away c low high e = omega arith

after_marks : (sites : List ℕ) → flat_map (λ next. 60 ∷ canonical_decimal next) sites ≡ after_each 60 (map canonical_decimal sites)
after_marks [] = refl
after_marks (site ∷ sites) = ap (λ x. (60 ∷ canonical_decimal site) ++ x) (after_marks sites)

lacks_sites : (sites : List ℕ) → AllByRecursion (Lacks 60) (map canonical_decimal sites)
lacks_sites [] = tt
lacks_sites (site ∷ sites) = (lacks_decimal 60 site mark_away, lacks_sites sites)

pub key_pieces : (sites : List ℕ) → 1 ≤ length sites → pieces 60 (key_field sites) ≡ map canonical_decimal sites
key_pieces [] some = absurd (omega arith)
key_pieces (site ∷ sites) some =
    ap (λ x. pieces 60 (canonical_decimal site ++ x)) (after_marks sites)
    ∙ pieces_joined 60 (canonical_decimal site) (map canonical_decimal sites) (lacks_decimal 60 site mark_away) (lacks_sites sites)

pub key_of_pieces : (field : List ℕ) (sites : List ℕ) → 1 ≤ length sites → pieces 60 field ≡ map canonical_decimal sites → field ≡ key_field sites
key_of_pieces field [] some e = absurd (omega arith)
key_of_pieces field (site ∷ sites) some e =
    text_of_pieces 60 field (canonical_decimal site) (map canonical_decimal sites) e ∙ ap (λ x. canonical_decimal site ++ x) (sym (after_marks sites))
