-- The sizes of an accepted program's areas.
use Rattle.segment_run.proofs.Common.{◌≡◌, ℕ, ◌+◌, ◌≤◌, List, [], ◌∷◌, length, map, replicate, refl, sym, ap, ◌∙◌, arith, sum, sum_by, length-map, length-flat_map, sum_by-cons, member_entries, starting_words, IsValid, FlatCode, FlatGlobal, IsWellFormed, fact_at, Certificate, Image, same_words}
use Rattle.segment_run.proofs.Forming.{sum_widths}

sum_lengths : (f : ℕ → ℕ) (rows : List (List ℕ)) → sum_by (λ (row : List ℕ). length (map f row)) rows ≡ sum (map length rows)
sum_lengths f [] = refl
sum_lengths f (row ∷ rows) =
    sum_by-cons (λ (r : List ℕ). length (map f r)) row rows
    ∙ (λ i. length-map row f i + sum_lengths f rows i)
    ∙ sym (sum_by-cons (λ (n : ℕ). n) (length row) (map length rows))

pub few_globals : (flat : FlatCode) (image : Image) (certificate : Certificate) → IsWellFormed flat → IsValid flat image certificate → length image.globals ≤ 65536
few_globals flat image certificate formed valid =
    let same = ap length (same_words image.globals (starting_words flat) (λ i. ((valid.holds 12 0 i).v12 refl).word))
    ∙ length-flat_map (λ (g : FlatGlobal). replicate {A = ℕ} g.words g.start) flat.globals ∙ sum_widths flat.globals in
    omega (arith, same, formed.global_words)

pub few_tables : (flat : FlatCode) (image : Image) (certificate : Certificate) → IsWellFormed flat → IsValid flat image certificate → length image.tables ≤ 65536
few_tables flat image certificate formed valid =
    let entry : ℕ → ℕ = λ g. (fact_at certificate g).entry in
    let same = ap length (same_words image.tables (member_entries flat certificate) (λ i. ((valid.holds 8 0 i).v8 refl).word))
    ∙ length-flat_map (λ (members : List ℕ). map entry members) flat.tables ∙ sum_lengths entry flat.tables in
    omega (arith, same, formed.table_members)
