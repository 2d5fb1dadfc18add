-- How long a chunk is and where it stands: what holds of every pool, and that pools of one shape agree on it.
use Rattle.chunk_pool.proofs.Common.{◌≡◌, ℕ, ◌+◌, ◌*◌, ◌/◌, ◌%◌, ◌<◌, nat_eq, ◌∷◌, inl, inr, refl, ◌∙◌, ap, arith, cond, count_by, cases_lt, mod-mul-add, Shape, Pool, shape_of, words_of, chunk_of, all_free, after_give, first_place, bytes_of, first_bytes, place_of, end_of, payload_place_of, chunk_at, IsChunk, IsPool, start_pool, chunk_in, first_bytes_in, start_in, words_in}
use Rattle.chunk_pool.proofs.PoolLaws.{after_give-first, after_give-extra, given_extra}
use Rattle.chunk_pool.proofs.FreeLaws.{copies-cons, copies-append}
use Rattle.chunk_pool.proofs.Shapes.{words_in-first, words_in-some, words_in-aligned}

-- ---- how long a chunk is

-- the words of a chunk are as many as it has
pub IsChunk-chunk_of : (p : Pool) (id : ℕ) → IsPool p → id < p.count → IsChunk (words_of p id) (chunk_of p id)
IsChunk-chunk_of p id s within = s.chunks id within

-- a chunk has a payload
pub words_of-payload : (p : Pool) (id : ℕ) → IsPool p → id < p.count → 4 < words_of p id
words_of-payload p id s within = omega (arith, words_in-some (shape_of p) id s.shape)

pub bytes_of-aligned : (p : Pool) (id : ℕ) → IsPool p → bytes_of p id % 16 ≡ 0
bytes_of-aligned p id s =
    let quarter = words_of p id / 4 in
    let words : words_of p id ≡ 4 * quarter = omega (arith, words_in-aligned (shape_of p) id s.shape) in
    let sixteens : bytes_of p id ≡ quarter * 16 + 0 = omega arith in
    ap (λ (n : ℕ). n % 16) sixteens ∙ mod-mul-add quarter 16 0 (omega arith)

-- the numbers below the first count have the first size
pub bytes_of-first : (p : Pool) (id : ℕ) → id < p.first_count → bytes_of p id ≡ first_bytes p
unfolding first_bytes_in
bytes_of-first p id below = ap (λ (n : ℕ). 4 * n) (words_in-first (shape_of p) id below)

pub first_bytes-start : (chunks words extra extra_words : ℕ) → first_bytes (start_pool chunks words extra extra_words) ≡ 4 * words
unfolding first_bytes_in
first_bytes-start chunks words extra extra_words = refl

-- ---- pools of one shape

pub count-same : (p q : Pool) → shape_of q ≡ shape_of p → q.count ≡ p.count
count-same p q same = ap (λ (s : Shape). s.count) same

pub words_of-same : (p q : Pool) (id : ℕ) → shape_of q ≡ shape_of p → words_of q id ≡ words_of p id
words_of-same p q id same = ap (λ (s : Shape). words_in s id) same

pub first_bytes-same : (p q : Pool) → shape_of q ≡ shape_of p → first_bytes q ≡ first_bytes p
first_bytes-same p q same = ap first_bytes_in same

pub place_of-same : (p q : Pool) (id : ℕ) → shape_of q ≡ shape_of p → place_of q id ≡ place_of p id
place_of-same p q id same = ap (λ (s : Shape). first_place + 4 * start_in s id) same

pub payload_place_of-same : (p q : Pool) (id : ℕ) → shape_of q ≡ shape_of p → payload_place_of q id ≡ payload_place_of p id
payload_place_of-same p q id same = ap (λ (place : ℕ). place + 16) (place_of-same p q id same)

pub end_of-same : (p q : Pool) (id : ℕ) → shape_of q ≡ shape_of p → end_of q id ≡ end_of p id
end_of-same p q id same = λ i. place_of-same p q id same i + 4 * words_in (same i) id

pub chunk_at-same : (p q : Pool) (address : ℕ) → shape_of q ≡ shape_of p → chunk_at q address ≡ chunk_at p address
chunk_at-same p q address same = ap (λ (s : Shape). chunk_in s address) same

-- ---- free chunks

-- a give makes one number more free
pub copies-after_give : (p : Pool) (given id : ℕ) → count_by (λ other. nat_eq other id) (all_free (after_give p given)) ≡ cond (nat_eq given id) 1 0 + count_by (λ other. nat_eq other id) (all_free p)
copies-after_give p given id =
    let one : ℕ = cond (nat_eq given id) 1 0 in
    let copies : Pool → ℕ = λ q. count_by (λ other. nat_eq other id) (all_free q) in
    elim (cases_lt given p.first_count) [
      | inl below ↦ ap copies (after_give-first p given below) ∙ copies-cons given (all_free p) id (nat_eq given id) refl
      | inr from ↦
          ap copies (after_give-extra p given from)
          ∙ (let sum : copies (given_extra p given) ≡ one + copies p =
          omega (arith, copies-append p.free (given ∷ p.extra_free) id, copies-append p.free p.extra_free id, copies-cons given p.extra_free id (nat_eq given id) refl) in sum)
    ]
