-- Comments, by what stands at each place.
use Rattle.c_lex.proofs.Common.{ℕ, suc, ◌≡◌, ◌≢◌, ◌<◌, ◌≤◌, ◌+◌, inl, inr, ⊎_elim, List, [], ◌∷◌, ◌++◌, length, get_or, take, drop, codes, refl, sym, ap, ◌∙◌, subst, arith, append_assoc, cases_lt, get_or_at, get_or-append-add, get_or-take, length-take-le, length-append, drop_all, drop_more, take_more, Lacks, IsLineComment, IsBlockComment, BeginsWith, IsOpenComment}

-- the front of a list, up to what it lacks
pub Lacks-byte : (text : List ℕ) (n byte : ℕ) → n ≤ length text → ((k : ℕ) → k < n → get_or text k 0 ≢ byte) → Lacks (take n text) (byte ∷ [])
Lacks-byte text n byte within apart = λ front back same.
    let long : length (take n text) ≡ length front + length (byte ∷ back) = ap length same ∙ length-append front (byte ∷ back) in
    let all : length (take n text) ≡ n = length-take-le n text within in
    let inside : length front < n = omega arith in
    apart (length front) inside (sym (get_or-take n text (length front) 0 inside) ∙ ap (λ l. get_or l (length front) 0) same ∙ get_or_at front byte back 0 (length front) refl)

-- two bytes in a row, by their places
two_reads : (text front back : List ℕ) (a b : ℕ) → text ≡ front ++ (a ∷ b ∷ back) → (get_or text (length front) 0 ≡ a) × (get_or text (length front + 1) 0 ≡ b) × (length front + 1 < length text)
two_reads text front back a b same = (
  ap (λ l. get_or l (length front) 0) same ∙ get_or_at front a (b ∷ back) 0 (length front) refl,
  ap (λ l. get_or l (length front + 1) 0) same ∙ get_or-append-add front (a ∷ b ∷ back) 1 0,
  (let long : length text ≡ length front + length (a ∷ b ∷ back) = ap length same ∙ length-append front (a ∷ b ∷ back) in omega arith),
)

pub Lacks-pair : (text : List ℕ) (a b : ℕ) → ((k : ℕ) → get_or text k 0 ≡ a → get_or text (k + 1) 0 ≢ b) → Lacks text (a ∷ b ∷ [])
Lacks-pair text a b apart = λ front back same. let reads = two_reads text front back a b same in apart (length front) reads.0 reads.1

Lacks-pair-take : (text : List ℕ) (n a b : ℕ) → n + 1 ≤ length text → ((k : ℕ) → k < n → get_or text k 0 ≡ a → get_or text (k + 1) 0 ≢ b) → Lacks (take (n + 1) text) (a ∷ b ∷ [])
Lacks-pair-take text n a b within apart = λ front back same.
    let reads = two_reads (take (n + 1) text) front back a b same in
    let all : length (take (n + 1) text) ≡ n + 1 = length-take-le (n + 1) text within in
    let inside : length front + 1 < n + 1 = omega (arith, reads.2) in
    apart (length front) (omega arith) (sym (get_or-take (n + 1) text (length front) 0 (omega arith)) ∙ reads.0) (sym (get_or-take (n + 1) text (length front + 1) 0 inside) ∙ reads.1)

-- a line comment, by the place of the LF behind `//`
line_comment_behind : (body : List ℕ) (n : ℕ) → n ≤ length body → ((k : ℕ) → k < n → get_or body k 0 ≢ 10) → (n < length body → get_or body n 0 ≡ 10) → IsLineComment (47 ∷ 47 ∷ take n body) (drop n body)
line_comment_behind body n within none ended = record {
  body = take n body;
  spelled = refl;
  one_line = Lacks-byte body n 10 within none;
  ended = ⊎_elim
      (λ inside. inr (drop (n + 1) body, drop_more body n 0 inside ∙ ap (λ b. b ∷ drop (n + 1) body) (ended inside)))
      (λ past. inl (drop_all n body past))
      (cases_lt n (length body));
}

pub line_comment : (text : List ℕ) (n : ℕ) → BeginsWith text (codes "//") → n ≤ length (drop 2 text) → ((k : ℕ) → k < n → get_or (drop 2 text) k 0 ≢ 10) → (n < length (drop 2 text) → get_or (drop 2 text) n 0 ≡ 10) → IsLineComment (take (2 + n) text) (drop (2 + n) text)
line_comment text n begins =
    let two : 2 + n ≡ suc (suc n) = omega arith in
    subst (λ t. n ≤ length (drop 2 t) → ((k : ℕ) → k < n → get_or (drop 2 t) k 0 ≢ 10) → (n < length (drop 2 t) → get_or (drop 2 t) n 0 ≡ 10) → IsLineComment (take (2 + n) t) (drop (2 + n) t)) (sym begins.1)
    (λ within none ended. rw two (line_comment_behind begins.0 n within none ended))

-- a block comment, by the place of the `*/` behind `/*`
block_comment_behind : (body : List ℕ) (n : ℕ) → n + 1 < length body → get_or body n 0 ≡ 42 → get_or body (n + 1) 0 ≡ 47 → ((k : ℕ) → k < n → get_or body k 0 ≡ 42 → get_or body (k + 1) 0 ≢ 47) → IsBlockComment (47 ∷ 42 ∷ take (n + 2) body)
block_comment_behind body n within star slash first =
    let star_too : take (n + 1) body ≡ take n body ++ 42 ∷ [] = take_more body n 0 (omega arith) ∙ ap (λ b. take n body ++ b ∷ []) star in
    let slash_too : take (n + 2) body ≡ take (n + 1) body ++ 47 ∷ [] = (let next : n + 2 ≡ n + 1 + 1 = omega arith in ap (λ m. take m body) next) ∙ take_more body (n + 1) 0 within ∙ ap (λ b. take (n + 1) body ++ b ∷ []) slash in
    record {
      body = take n body;
      spelled = ap (λ l. 47 ∷ 42 ∷ l) (slash_too ∙ ap (λ l. l ++ 47 ∷ []) star_too ∙ append_assoc (take n body) (42 ∷ []) (47 ∷ []));
      first = subst (λ l. Lacks l (codes "*/")) star_too (Lacks-pair-take body n 42 47 (omega arith) first);
    }

pub block_comment : (text : List ℕ) (n : ℕ) → BeginsWith text (codes "/*") → n + 1 < length (drop 2 text) → get_or (drop 2 text) n 0 ≡ 42 → get_or (drop 2 text) (n + 1) 0 ≡ 47 → ((k : ℕ) → k < n → get_or (drop 2 text) k 0 ≡ 42 → get_or (drop 2 text) (k + 1) 0 ≢ 47) → IsBlockComment (take (2 + n + 2) text)
block_comment text n begins =
    let two : 2 + n + 2 ≡ suc (suc (n + 2)) = omega arith in
    subst (λ t. n + 1 < length (drop 2 t) → get_or (drop 2 t) n 0 ≡ 42 → get_or (drop 2 t) (n + 1) 0 ≡ 47 → ((k : ℕ) → k < n → get_or (drop 2 t) k 0 ≡ 42 → get_or (drop 2 t) (k + 1) 0 ≢ 47) → IsBlockComment (take (2 + n + 2) t)) (sym begins.1)
    (λ within star slash first. rw two (block_comment_behind begins.0 n within star slash first))

pub open_comment : (text : List ℕ) → BeginsWith text (codes "/*") → ((k : ℕ) → get_or (drop 2 text) k 0 ≡ 42 → get_or (drop 2 text) (k + 1) 0 ≢ 47) → IsOpenComment text
open_comment text begins none =
    (begins.0, begins.1, subst (λ l. Lacks l (codes "*/")) (ap (drop 2) begins.1) (Lacks-pair (drop 2 text) 42 47 none))
