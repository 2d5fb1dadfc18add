-- An image that is read has the bytes as its spelling, and what is spelled is read again.
use Rattle.stack_image.proofs.Common.{◌≡◌, ◌∙◌, ℕ, List, refl, ap, Image, code_size, globals_size, tables_size, entries_size, words_of, behind, image_of}

-- ---- the image, list by list

words_of_same : (n m : ℕ) (bs ds : List ℕ) → n ≡ m → bs ≡ ds → words_of n bs ≡ words_of m ds
words_of_same n m bs ds e f = ap (λ k. words_of k bs) e ∙ ap (λ b. words_of m b) f

behind_same : (n m : ℕ) (bs ds : List ℕ) → n ≡ m → bs ≡ ds → behind n bs ≡ behind m ds
behind_same n m bs ds e f = ap (λ k. behind k bs) e ∙ ap (λ b. behind m b) f

image_of_parts : (bytes code globals tables entries : List ℕ) →
    code ≡ (image_of bytes).code → globals ≡ (image_of bytes).globals → tables ≡ (image_of bytes).tables → entries ≡ (image_of bytes).entries →
    ◌≡◌ {A = Image} (record { code = code; globals = globals; tables = tables; entries = entries }) (image_of bytes)
image_of_parts bytes code globals tables entries p q r s = rw (p, q, r, s) refl

-- the lists as the code reads them, one after another
pub read_in_order : (bytes r0 r1 r2 r3 code globals tables entries : List ℕ) (c g t e : ℕ) →
    c ≡ code_size bytes → g ≡ globals_size bytes → t ≡ tables_size bytes → e ≡ entries_size bytes →
    r0 ≡ behind 5 bytes → r1 ≡ behind c r0 → r2 ≡ behind g r1 → r3 ≡ behind t r2 →
    code ≡ words_of c r0 → globals ≡ words_of g r1 → tables ≡ words_of t r2 → entries ≡ words_of e r3 →
    ◌≡◌ {A = Image} (record { code = code; globals = globals; tables = tables; entries = entries }) (image_of bytes)
unfolding image_of
read_in_order bytes r0 r1 r2 r3 code globals tables entries c g t e c-is g-is t-is e-is r0-is r1-is r2-is r3-is code-is globals-is tables-is entries-is =
    let p1 : r1 ≡ behind (code_size bytes) (behind 5 bytes) = r1-is ∙ behind_same _ _ _ _ c-is r0-is in
    let p2 : r2 ≡ behind (globals_size bytes) (behind (code_size bytes) (behind 5 bytes)) = r2-is ∙ behind_same _ _ _ _ g-is p1 in
    let p3 : r3 ≡ behind (tables_size bytes) (behind (globals_size bytes) (behind (code_size bytes) (behind 5 bytes))) = r3-is ∙ behind_same _ _ _ _ t-is p2 in
    image_of_parts bytes code globals tables entries
    (code-is ∙ words_of_same _ _ _ _ c-is r0-is)
    (globals-is ∙ words_of_same _ _ _ _ g-is p1)
    (tables-is ∙ words_of_same _ _ _ _ t-is p2)
    (entries-is ∙ words_of_same _ _ _ _ e-is p3)
