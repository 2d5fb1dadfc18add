-- The tokens of the workload's source.
use Rattle.workload.proofs.Common.{ℕ, zero, suc, ◌≡◌, ◌≤◌, ◌+◌, List, [], ◌∷◌, ◌++◌, length, refl, sym, ap, subst, arith, append_assoc, append-nil, length-append, Token, nothing, space, LeadsTo, AreTokensOf, line_feed, first_line, link_line, chain_text, worker_line, main_line, program_text}
use Rattle.workload.proofs.Spelling.{Written, spell, end_of, end_is, tokens_of, AreWritten, leads_on, leads_gap}
use Rattle.workload.proofs.Pieces.{first_pieces, first_written, first_spelled, link_pieces, link_written, link_spelled, worker_pieces, worker_written, worker_spelled, main_pieces, main_written, main_spelled}

-- a line leads from its place to what its end leads to
line_leads : (front line rest : List ℕ) (ws : List Written) → line ++ rest ≡ spell ws (10 ∷ rest) → AreWritten ws (10 ∷ rest) → (more : List Token) (stop : ℕ) (end : List ℕ) → LeadsTo (length (front ++ line)) rest more stop end
    → LeadsTo (length front) (line ++ rest) (tokens_of (length front) ws more) stop end
line_leads front line rest ws spelled are more stop end leads =
    let place : length (front ++ line) ≡ end_of (length front) ws + 1 =
    omega (arith, end_is (length front) ws (10 ∷ rest), ap length spelled, length-append line rest, length-append front line) in
    let P : ℕ → Type 0 = λ at. LeadsTo at rest more stop end in
    let Q : List ℕ → Type 0 = λ text. LeadsTo (length front) text (tokens_of (length front) ws more) stop end in
    subst Q (sym spelled) (leads_on (length front) ws (10 ∷ rest) more stop end are (leads_gap (end_of (length front) ws) line_feed rest more stop end (space refl nothing) (subst P place leads)))

-- the tokens of the chain up to function m, with those that come after them
abbrev pub chain_tokens : ℕ → List Token → List Token
chain_tokens zero more = tokens_of 0 first_pieces more
chain_tokens (suc m) more = chain_tokens m (tokens_of (length (chain_text m)) (link_pieces (suc m) m) more)

-- where the worker and main begin
abbrev pub worker_place : ℕ → ℕ
worker_place n = length (chain_text n)

abbrev pub main_place : ℕ → ℕ
main_place n = length (chain_text n ++ worker_line n)

abbrev pub main_tokens : ℕ → List Token
main_tokens n = tokens_of (main_place n) (main_pieces n) []

abbrev pub worker_tokens : ℕ → List Token
worker_tokens n = tokens_of (worker_place n) (worker_pieces n) (main_tokens n)

-- the tokens of the whole source
abbrev pub program_tokens : ℕ → List Token
program_tokens n = chain_tokens n (worker_tokens n)

chain_leads : (m : ℕ) (rest : List ℕ) (more : List Token) (stop : ℕ) (end : List ℕ) → LeadsTo (length (chain_text m)) rest more stop end → LeadsTo 0 (chain_text m ++ rest) (chain_tokens m more) stop end
unfolding chain_text
chain_leads zero rest more stop end leads = line_leads [] first_line rest first_pieces (first_spelled rest) (first_written rest) more stop end leads
chain_leads (suc m) rest more stop end leads =
    let P : List ℕ → Type 0 = λ text. LeadsTo 0 text (chain_tokens (suc m) more) stop end in
    subst P (sym (append_assoc (chain_text m) (link_line (suc m) m) rest)) (chain_leads m (link_line (suc m) m ++ rest) (tokens_of (length (chain_text m)) (link_pieces (suc m) m) more) stop end
    (line_leads (chain_text m) (link_line (suc m) m) rest (link_pieces (suc m) m) (link_spelled (suc m) m rest) (link_written (suc m) m rest) more stop end leads))

main_leads : (n : ℕ) → 1 ≤ n → n ≤ 1000 → LeadsTo (main_place n) (main_line n ++ []) (main_tokens n) (length ((chain_text n ++ worker_line n) ++ main_line n)) []
main_leads n low high = line_leads (chain_text n ++ worker_line n) (main_line n) [] (main_pieces n) (main_spelled n []) (main_written n [] low high) [] _ [] (record { gap = []; split = refl; between = nothing; place = omega arith })

-- the source is these tokens
pub program_lexed : (n : ℕ) → 1 ≤ n → n ≤ 1000 → AreTokensOf (program_text n) (program_tokens n)
unfolding program_text
program_lexed n low high =
    let P : List ℕ → Type 0 = λ last. LeadsTo 0 (chain_text n ++ (worker_line n ++ last)) (program_tokens n) (length ((chain_text n ++ worker_line n) ++ main_line n)) [] in (
      _,
      subst P (append-nil (main_line n)) (chain_leads n (worker_line n ++ (main_line n ++ [])) (worker_tokens n) _ []
          (line_leads (chain_text n) (worker_line n) (main_line n ++ []) (worker_pieces n) (worker_spelled n (main_line n ++ [])) (worker_written n (main_line n ++ [])) (main_tokens n) _ [] (main_leads n low high))),
    )
