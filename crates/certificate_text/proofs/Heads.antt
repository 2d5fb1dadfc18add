-- Where the lines before the functions' break off.
use Rattle.certificate_text.proofs.Common.{◌≡◌, ℕ, ◌≤◌, List, ◌∷◌, ◌++◌, refl, arith, title_line, chunk_line, max_path_line, functions_line, BreaksAfter, Title, Chunk, MaxPath, FunctionCount}
use Rattle.certificate_text.proofs.Otherwise.{other_title, other_chunk, other_max_path, other_count}
use Rattle.certificate_text.proofs.TitleLine.{NoTitle}

pub title_breaks : (text : List ℕ) → NoTitle text → BreaksAfter 0 Title text
title_breaks text none = other_title text none

pub chunk_breaks : (text one : List ℕ) → text ≡ title_line ++ 10 ∷ one → ((n : ℕ) (more : List ℕ) → n ≤ 4294967295 → one ≡ chunk_line n ++ 10 ∷ more → ⊥) → BreaksAfter 1 Title text
chunk_breaks text one e none = (title_line, one, Chunk, e, (refl, refl), other_chunk one none)

pub path_breaks : (text one two : List ℕ) (chunk : ℕ) → text ≡ title_line ++ 10 ∷ one → chunk ≤ 4294967295 → one ≡ chunk_line chunk ++ 10 ∷ two
    → ((n : ℕ) (more : List ℕ) → n ≤ 4294967295 → two ≡ max_path_line n ++ 10 ∷ more → ⊥) → BreaksAfter 2 Title text
path_breaks text one two chunk e small f none = (title_line, one, Chunk, e, (refl, refl), (chunk_line chunk, two, MaxPath, f, (chunk, omega arith, refl, refl), other_max_path two none))

pub count_breaks : (text one two three : List ℕ) (chunk path : ℕ) → text ≡ title_line ++ 10 ∷ one → chunk ≤ 4294967295 → one ≡ chunk_line chunk ++ 10 ∷ two
    → path ≤ 4294967295 → two ≡ max_path_line path ++ 10 ∷ three → ((n : ℕ) (more : List ℕ) → n ≤ 4096 → three ≡ functions_line n ++ 10 ∷ more → ⊥) → BreaksAfter 3 Title text
count_breaks text one two three chunk path e small f fits g none = (
  title_line,
  one,
  Chunk,
  e,
  (refl, refl),
  (
    chunk_line chunk,
    two,
    MaxPath,
    f,
    (chunk, omega arith, refl, refl),
    (max_path_line path, three, FunctionCount, g, (path, omega arith, refl, refl), other_count three none),
  ),
)
