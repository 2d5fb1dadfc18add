-- The four kinds of lines of the workload's source, token by token as they are written.
use Rattle.workload.proofs.Common.{ℕ, ◌≡◌, ◌<◌, ◌≤◌, ◌^◌, List, [], ◌∷◌, ◌++◌, refl, sym, subst, lit<, arith, append_assoc, codes, canonical_decimal, IsNumber, first_line, link_line, worker_line, main_line}
use Rattle.c_lex.specs.declared.keywords.Keyword.TheVariants as keywords
use Rattle.c_lex.specs.declared.marks.Mark.TheVariants as marks
use Rattle.workload.proofs.Spelling.{Written, from, close, blank, keyword, mark, name, number, spell, IsWritten, AreWritten}
use Rattle.workload.proofs.Words.{keyword_written, name_written, number_written, decimal_word, decimal_number, chain_is_name, name_x, name_r, name_w, name_n, name_c, name_v, name_i, name_main, name_accept, name_wait, name_put, name_spawn}
use Rattle.workload.proofs.Marks.{left_parenthesis, right_parenthesis, left_brace, right_brace, comma, semicolon, assign, less, plus}

infixr 5 ◌⊕◌
-- what holds of a piece, and what holds of the pieces behind it
◌⊕◌ : {A B : Type 0} → A → B → A × B
◌⊕◌ a b = (a, b)

-- the name of function i of the chain
abbrev pub chain_name : ℕ → List ℕ
chain_name i = 102 ∷ canonical_decimal i

zero_number : IsNumber (codes "0") 0 × (0 < 2 ^ 32)
zero_number = (IsNumber.null refl refl, lit< tt)

one_number : IsNumber (codes "1") 1 × (1 < 2 ^ 32)
one_number = (IsNumber.decimal (λ e. omega arith, (lit< tt, tt)) refl, lit< tt)

-- the head of function i of the chain, and its body
abbrev with_head : ℕ → List Written → List Written
with_head i body =
    keyword close keywords.Int
    ∷ name blank (chain_name i)
    ∷ mark close marks.LeftParenthesis
    ∷ keyword close keywords.Int
    ∷ name blank (codes "x")
    ∷ mark close marks.RightParenthesis
    ∷ mark blank marks.LeftBrace
    ∷ body

head_written : (i : ℕ) (body : List Written) (rest after : List ℕ) → spell body rest ≡ 32 ∷ after → AreWritten body rest → AreWritten (with_head i body) rest
head_written i body rest after begins written =
    keyword_written _ _ _ tt refl
    ⊕ name_written _ _ _ (refl, tt) (chain_is_name i) refl
    ⊕ left_parenthesis _ _ _ tt
    ⊕ keyword_written _ _ _ tt refl
    ⊕ name_written _ _ _ (refl, tt) name_x refl
    ⊕ right_parenthesis _ _ _ tt
    ⊕ subst (IsWritten (mark blank marks.LeftBrace)) (sym begins) (left_brace _ 32 after (refl, tt))
    ⊕ written

-- the first function of the chain
abbrev pub first_pieces : List Written
first_pieces = with_head 0 (
    keyword blank keywords.Return
    ∷ name blank (codes "x")
    ∷ mark close marks.Semicolon
    ∷ mark blank marks.RightBrace
    ∷ [])

pub first_written : (rest : List ℕ) → AreWritten (first_pieces) (10 ∷ rest)
first_written rest = head_written 0 (from 7 first_pieces) (10 ∷ rest) _ refl (
    keyword_written _ _ _ (refl, tt) refl
    ⊕ name_written _ _ _ (refl, tt) name_x refl
    ⊕ semicolon _ _ _ tt
    ⊕ right_brace _ _ _ (refl, tt)
    ⊕ tt)

pub first_spelled : (rest : List ℕ) → first_line ++ rest ≡ spell (first_pieces) (10 ∷ rest)
unfolding first_line
first_spelled rest = simp append_assoc

-- function i of the chain, which calls function m
abbrev pub link_pieces : ℕ → ℕ → List Written
link_pieces i m = with_head i (
    keyword blank keywords.Int
    ∷ name blank (codes "r")
    ∷ mark close marks.Semicolon
    ∷ name blank (codes "r")
    ∷ mark blank marks.Assign
    ∷ name blank (chain_name m)
    ∷ mark close marks.LeftParenthesis
    ∷ name close (codes "x")
    ∷ mark blank marks.Plus
    ∷ number blank (codes "1") 1
    ∷ mark close marks.RightParenthesis
    ∷ mark close marks.Semicolon
    ∷ keyword blank keywords.Return
    ∷ name blank (codes "r")
    ∷ mark close marks.Semicolon
    ∷ mark blank marks.RightBrace
    ∷ [])

pub link_written : (i : ℕ) (m : ℕ) (rest : List ℕ) → AreWritten (link_pieces i m) (10 ∷ rest)
link_written i m rest = head_written i (from 7 (link_pieces i m)) (10 ∷ rest) _ refl (
    keyword_written _ _ _ (refl, tt) refl
    ⊕ name_written _ _ _ (refl, tt) name_r refl
    ⊕ semicolon _ _ _ tt
    ⊕ name_written _ _ _ (refl, tt) name_r refl
    ⊕ assign _ _ (refl, tt)
    ⊕ name_written _ _ _ (refl, tt) (chain_is_name m) refl
    ⊕ left_parenthesis _ _ _ tt
    ⊕ name_written _ _ _ tt name_x refl
    ⊕ plus _ _ (refl, tt)
    ⊕ number_written _ _ _ _ (refl, tt) (refl, tt) one_number refl
    ⊕ right_parenthesis _ _ _ tt
    ⊕ semicolon _ _ _ tt
    ⊕ keyword_written _ _ _ (refl, tt) refl
    ⊕ name_written _ _ _ (refl, tt) name_r refl
    ⊕ semicolon _ _ _ tt
    ⊕ right_brace _ _ _ (refl, tt)
    ⊕ tt)

pub link_spelled : (i : ℕ) (m : ℕ) (rest : List ℕ) → link_line i m ++ rest ≡ spell (link_pieces i m) (10 ∷ rest)
unfolding link_line
link_spelled i m rest = simp append_assoc

-- the worker
abbrev pub worker_pieces : ℕ → List Written
worker_pieces n =
    keyword close keywords.Void
    ∷ name blank (codes "w")
    ∷ mark close marks.LeftParenthesis
    ∷ keyword close keywords.Int
    ∷ name blank (codes "n")
    ∷ mark close marks.RightParenthesis
    ∷ mark blank marks.LeftBrace
    ∷ keyword blank keywords.Int
    ∷ name blank (codes "c")
    ∷ mark close marks.Semicolon
    ∷ keyword blank keywords.Int
    ∷ name blank (codes "v")
    ∷ mark close marks.Semicolon
    ∷ name blank (codes "c")
    ∷ mark blank marks.Assign
    ∷ name blank (codes "accept")
    ∷ mark close marks.LeftParenthesis
    ∷ mark close marks.RightParenthesis
    ∷ mark close marks.Semicolon
    ∷ name blank (codes "v")
    ∷ mark blank marks.Assign
    ∷ name blank (codes "wait")
    ∷ mark close marks.LeftParenthesis
    ∷ name close (codes "c")
    ∷ mark close marks.RightParenthesis
    ∷ mark close marks.Semicolon
    ∷ name blank (codes "v")
    ∷ mark blank marks.Assign
    ∷ name blank (chain_name n)
    ∷ mark close marks.LeftParenthesis
    ∷ name close (codes "v")
    ∷ mark close marks.RightParenthesis
    ∷ mark close marks.Semicolon
    ∷ name blank (codes "put")
    ∷ mark close marks.LeftParenthesis
    ∷ name close (codes "v")
    ∷ mark close marks.RightParenthesis
    ∷ mark close marks.Semicolon
    ∷ mark blank marks.RightBrace
    ∷ []

pub worker_written : (n : ℕ) (rest : List ℕ) → AreWritten (worker_pieces n) (10 ∷ rest)
worker_written n rest =
    keyword_written _ _ _ tt refl
    ⊕ name_written _ _ _ (refl, tt) name_w refl
    ⊕ left_parenthesis _ _ _ tt
    ⊕ keyword_written _ _ _ tt refl
    ⊕ name_written _ _ _ (refl, tt) name_n refl
    ⊕ right_parenthesis _ _ _ tt
    ⊕ left_brace _ _ _ (refl, tt)
    ⊕ keyword_written _ _ _ (refl, tt) refl
    ⊕ name_written _ _ _ (refl, tt) name_c refl
    ⊕ semicolon _ _ _ tt
    ⊕ keyword_written _ _ _ (refl, tt) refl
    ⊕ name_written _ _ _ (refl, tt) name_v refl
    ⊕ semicolon _ _ _ tt
    ⊕ name_written _ _ _ (refl, tt) name_c refl
    ⊕ assign _ _ (refl, tt)
    ⊕ name_written _ _ _ (refl, tt) name_accept refl
    ⊕ left_parenthesis _ _ _ tt
    ⊕ right_parenthesis _ _ _ tt
    ⊕ semicolon _ _ _ tt
    ⊕ name_written _ _ _ (refl, tt) name_v refl
    ⊕ assign _ _ (refl, tt)
    ⊕ name_written _ _ _ (refl, tt) name_wait refl
    ⊕ left_parenthesis _ _ _ tt
    ⊕ name_written _ _ _ tt name_c refl
    ⊕ right_parenthesis _ _ _ tt
    ⊕ semicolon _ _ _ tt
    ⊕ name_written _ _ _ (refl, tt) name_v refl
    ⊕ assign _ _ (refl, tt)
    ⊕ name_written _ _ _ (refl, tt) (chain_is_name n) refl
    ⊕ left_parenthesis _ _ _ tt
    ⊕ name_written _ _ _ tt name_v refl
    ⊕ right_parenthesis _ _ _ tt
    ⊕ semicolon _ _ _ tt
    ⊕ name_written _ _ _ (refl, tt) name_put refl
    ⊕ left_parenthesis _ _ _ tt
    ⊕ name_written _ _ _ tt name_v refl
    ⊕ right_parenthesis _ _ _ tt
    ⊕ semicolon _ _ _ tt
    ⊕ right_brace _ _ _ (refl, tt)
    ⊕ tt

pub worker_spelled : (n : ℕ) (rest : List ℕ) → worker_line n ++ rest ≡ spell (worker_pieces n) (10 ∷ rest)
unfolding worker_line
worker_spelled n rest = simp append_assoc

-- main
abbrev pub main_pieces : ℕ → List Written
main_pieces n =
    keyword close keywords.Int
    ∷ name blank (codes "main")
    ∷ mark close marks.LeftParenthesis
    ∷ mark close marks.RightParenthesis
    ∷ mark blank marks.LeftBrace
    ∷ keyword blank keywords.Int
    ∷ name blank (codes "i")
    ∷ mark close marks.Semicolon
    ∷ keyword blank keywords.For
    ∷ mark blank marks.LeftParenthesis
    ∷ name close (codes "i")
    ∷ mark blank marks.Assign
    ∷ number blank (codes "0") 0
    ∷ mark close marks.Semicolon
    ∷ name blank (codes "i")
    ∷ mark blank marks.Less
    ∷ number blank (canonical_decimal n) n
    ∷ mark close marks.Semicolon
    ∷ name blank (codes "i")
    ∷ mark blank marks.Assign
    ∷ name blank (codes "i")
    ∷ mark blank marks.Plus
    ∷ number blank (codes "1") 1
    ∷ mark close marks.RightParenthesis
    ∷ name blank (codes "spawn")
    ∷ mark close marks.LeftParenthesis
    ∷ name close (codes "w")
    ∷ mark close marks.Comma
    ∷ name blank (codes "i")
    ∷ mark close marks.RightParenthesis
    ∷ mark close marks.Semicolon
    ∷ keyword blank keywords.Return
    ∷ number blank (codes "0") 0
    ∷ mark close marks.Semicolon
    ∷ mark blank marks.RightBrace
    ∷ []

pub main_written : (n : ℕ) (rest : List ℕ) → 1 ≤ n → n ≤ 1000 → AreWritten (main_pieces n) (10 ∷ rest)
main_written n rest low high =
    keyword_written _ _ _ tt refl
    ⊕ name_written _ _ _ (refl, tt) name_main refl
    ⊕ left_parenthesis _ _ _ tt
    ⊕ right_parenthesis _ _ _ tt
    ⊕ left_brace _ _ _ (refl, tt)
    ⊕ keyword_written _ _ _ (refl, tt) refl
    ⊕ name_written _ _ _ (refl, tt) name_i refl
    ⊕ semicolon _ _ _ tt
    ⊕ keyword_written _ _ _ (refl, tt) refl
    ⊕ left_parenthesis _ _ _ (refl, tt)
    ⊕ name_written _ _ _ tt name_i refl
    ⊕ assign _ _ (refl, tt)
    ⊕ number_written _ _ _ _ (refl, tt) (refl, tt) zero_number refl
    ⊕ semicolon _ _ _ tt
    ⊕ name_written _ _ _ (refl, tt) name_i refl
    ⊕ less _ _ (refl, tt)
    ⊕ number_written _ _ _ _ (refl, tt) (decimal_word n) (decimal_number n low high) refl
    ⊕ semicolon _ _ _ tt
    ⊕ name_written _ _ _ (refl, tt) name_i refl
    ⊕ assign _ _ (refl, tt)
    ⊕ name_written _ _ _ (refl, tt) name_i refl
    ⊕ plus _ _ (refl, tt)
    ⊕ number_written _ _ _ _ (refl, tt) (refl, tt) one_number refl
    ⊕ right_parenthesis _ _ _ tt
    ⊕ name_written _ _ _ (refl, tt) name_spawn refl
    ⊕ left_parenthesis _ _ _ tt
    ⊕ name_written _ _ _ tt name_w refl
    ⊕ comma _ _ _ tt
    ⊕ name_written _ _ _ (refl, tt) name_i refl
    ⊕ right_parenthesis _ _ _ tt
    ⊕ semicolon _ _ _ tt
    ⊕ keyword_written _ _ _ (refl, tt) refl
    ⊕ number_written _ _ _ _ (refl, tt) (refl, tt) zero_number refl
    ⊕ semicolon _ _ _ tt
    ⊕ right_brace _ _ _ (refl, tt)
    ⊕ tt

pub main_spelled : (n : ℕ) (rest : List ℕ) → main_line n ++ rest ≡ spell (main_pieces n) (10 ∷ rest)
unfolding main_line
main_spelled n rest = simp append_assoc
