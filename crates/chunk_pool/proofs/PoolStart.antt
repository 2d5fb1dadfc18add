-- The start is a sound pool.
use Rattle.chunk_pool.proofs.Common.{◌≡◌, ℕ, zero, suc, ◌+◌, ◌-◌, ◌*◌, ◌/◌, ◌%◌, ◌^◌, ◌<◌, ◌≤◌, false, List, [], length, map, get_or, replicate, refl, sym, ◌∙◌, ap, subst, inl, inr, arith, nat_eq, cond, Bool, All, IsDistinct, AllByRecursion, range_with_len, ne_eqb, eq-eqb, cases_eq, length-map, length-replicate, get_or-map, All-cons, All-replicate, length-range_with_len, get_or-range_with_len, Shape, first_or, words_in, next_in, IsChunk, IsLinked, IsFreeList, IsShape, IsPool, start_chunk, start_shape, start_pool}
use Rattle.chunk_pool.proofs.Shapes.{words_in-some}

-- ---- the start

apart_in_range : (a b n : ℕ) → a < b → AllByRecursion (λ y. nat_eq a y ≡ false) (range_with_len b n)
apart_in_range a b zero before = tt
apart_in_range a b (suc n) before = (ne_eqb a b (λ same. omega arith), apart_in_range a (b + 1) n (omega arith))

IsDistinct-range : (a n : ℕ) → IsDistinct nat_eq (range_with_len a n)
unfolding IsDistinct
IsDistinct-range a zero = tt
IsDistinct-range a (suc n) = (apart_in_range a (a + 1) n (omega arith), IsDistinct-range (a + 1) n)

pub first_or-range : (a n end : ℕ) → a + n ≡ end → first_or (range_with_len a n) end ≡ a
first_or-range a zero end ends = omega arith
first_or-range a (suc n) end ends = refl

pub first_or-some : (a n end : ℕ) → 1 ≤ n → first_or (range_with_len a n) end ≡ a
first_or-some a zero end some = absurd (omega arith)
first_or-some a (suc n) end some = refl

-- ---- the numbers behind

next_in-last : (s : Shape) (id : ℕ) → id + 1 ≡ s.first_count → next_in s id ≡ s.count
next_in-last s id last = ap (λ (b : Bool). cond b s.count (id + 1)) (eq-eqb (id + 1) s.first_count last)

pub next_in-more : (s : Shape) (id : ℕ) → ¬ (id + 1 ≡ s.first_count) → next_in s id ≡ id + 1
next_in-more s id more = ap (λ (b : Bool). cond b s.count (id + 1)) (ne_eqb (id + 1) s.first_count more)

next_in-most : (s : Shape) (id : ℕ) → id < s.count → next_in s id ≤ s.count
next_in-most s id within = elim (cases_eq (id + 1) s.first_count) [
  | inl last ↦ omega (arith, next_in-last s id last)
  | inr more ↦ omega (arith, next_in-more s id more)
]

-- the numbers of a size: from one to below another, each linked to the next and the last to the end
IsLinked-range : (contents : List (List ℕ)) (a n to end : ℕ) → a + n ≡ to → ((id : ℕ) → a ≤ id → id + 1 < to → get_or (get_or contents id []) 0 0 ≡ id + 1) → ((id : ℕ) → a ≤ id → id + 1 ≡ to → get_or (get_or contents id []) 0 0 ≡ end) → IsLinked contents end (range_with_len a n)
IsLinked-range contents a zero to end ends next last = tt
IsLinked-range contents a (suc zero) to end ends next last = (last a (omega arith) (omega arith), tt)
IsLinked-range contents a (suc (suc n)) to end ends next last =
    (next a (omega arith) (omega arith), IsLinked-range contents (a + 1) (suc n) to end (omega arith) (λ id from. next id (omega arith)) (λ id from. last id (omega arith)))

within_range : (a n : ℕ) → All (λ id. (a ≤ id) × (id < a + n)) (range_with_len a n)
within_range a n k d within =
    let in' : k < n = omega (arith, length-range_with_len a n) in
    let at = get_or-range_with_len a n k d in' in
    (omega (arith, at), omega (arith, at))

IsChunk-start_chunk : (s : Shape) (id : ℕ) → 1 ≤ words_in s id → next_in s id < 2 ^ 32 → IsChunk (words_in s id) (start_chunk s id)
IsChunk-start_chunk s id some fits = record {
  length = omega (arith, length-replicate {A = ℕ} (words_in s id - 1) 0);
  fits = All-cons (λ word. word < 2 ^ 32) (next_in s id) (replicate (words_in s id - 1) 0) fits (All-replicate (λ word. word < 2 ^ 32) (words_in s id - 1) 0 (omega arith));
}

pub chunk-start : (s : Shape) (id : ℕ) → id < s.count → get_or (map (start_chunk s) (range_with_len 0 s.count)) id [] ≡ start_chunk s id
chunk-start s id within =
    let in' : id < length (range_with_len 0 s.count) = omega (arith, length-range_with_len 0 s.count) in
    get_or-map (start_chunk s) (range_with_len 0 s.count) id 0 [] in'
    ∙ ap (start_chunk s) (let e : get_or (range_with_len 0 s.count) id 0 ≡ id = omega (arith, get_or-range_with_len 0 s.count id 0 within) in e)

pub first_word-start_pool : (s : Shape) (id : ℕ) → id < s.count → get_or (get_or (map (start_chunk s) (range_with_len 0 s.count)) id []) 0 0 ≡ next_in s id
first_word-start_pool s id within = ap (λ (chunk : List ℕ). get_or chunk 0 0) (chunk-start s id within)

-- contents whose first words are the numbers behind are linked in the order of the numbers, size by size
pub first_linked : (s : Shape) (contents : List (List ℕ)) → IsShape s → ((id : ℕ) → id < s.count → get_or (get_or contents id []) 0 0 ≡ next_in s id) → IsFreeList contents s.count 0 s.first_count (range_with_len 0 s.first_count)
first_linked s contents sound next = record {
  within = (let all : 0 + s.first_count ≡ s.first_count = omega arith in
      subst (λ (n : ℕ). All (λ id. (0 ≤ id) × (id < n)) (range_with_len 0 s.first_count)) all (within_range 0 s.first_count));
  distinct = IsDistinct-range 0 s.first_count;
  linked = IsLinked-range contents 0 s.first_count s.first_count s.count (omega arith)
      (λ id from below. next id (omega (arith, sound.first_within)) ∙ next_in-more s id (λ same. omega arith))
      (λ id from last. next id (omega (arith, sound.first_within)) ∙ next_in-last s id last);
}

pub extra_linked : (s : Shape) (contents : List (List ℕ)) (extra : ℕ) → IsShape s → s.first_count + extra ≡ s.count → ((id : ℕ) → id < s.count → get_or (get_or contents id []) 0 0 ≡ next_in s id) → IsFreeList contents s.count s.first_count s.count (range_with_len s.first_count extra)
extra_linked s contents extra sound ends next = record {
  within = subst (λ (n : ℕ). All (λ id. (s.first_count ≤ id) × (id < n)) (range_with_len s.first_count extra)) ends (within_range s.first_count extra);
  distinct = IsDistinct-range s.first_count extra;
  linked = IsLinked-range contents s.first_count extra s.count s.count ends
      (λ id from below. next id (omega arith) ∙ next_in-more s id (λ same. omega arith))
      (λ id from last. next id (omega arith) ∙ next_in-more s id (λ same. omega arith) ∙ last);
}

pub IsPool-start_pool : (chunks words extra extra_words : ℕ) → IsShape (start_shape chunks words extra extra_words) → IsPool (start_pool chunks words extra extra_words)
IsPool-start_pool chunks words extra extra_words sound =
    let s : Shape = start_shape chunks words extra extra_words in
    record {
      shape = sound;
      count_is = length-map (range_with_len 0 s.count) (start_chunk s) ∙ length-range_with_len 0 s.count;
      chunks = λ id within. subst (IsChunk (words_in s id)) (sym (chunk-start s id within))
          (IsChunk-start_chunk s id (omega (arith, words_in-some s id sound)) (omega (arith, next_in-most s id within, sound.extra_bounded, sound.chunks_bounded)));
      free = first_linked s (map (start_chunk s) (range_with_len 0 s.count)) sound (first_word-start_pool s);
      extra_free = extra_linked s (map (start_chunk s) (range_with_len 0 s.count)) extra sound refl (first_word-start_pool s);
    }

-- the shape of so many chunks of so many bytes
pub IsShape-start_bytes : (count bytes extra extra_bytes : ℕ) → 1 ≤ count → count ≤ 65536 → 64 ≤ bytes → bytes ≤ 65536 → bytes % 16 ≡ 0 → extra ≤ 65536 → 32 ≤ extra_bytes → extra_bytes ≤ 65536 → extra_bytes % 16 ≡ 0 → count * bytes + extra * extra_bytes ≤ 67108864 → IsShape (start_shape count (bytes / 4) extra (extra_bytes / 4))
IsShape-start_bytes count bytes extra extra_bytes some_chunks chunks_bounded header_fits bytes_bounded aligned extra_bounded extra_header_fits extra_bytes_bounded extra_aligned size_bounded =
    let in_words : bytes ≡ 4 * (bytes / 4) = omega arith in
    let extra_in_words : extra_bytes ≡ 4 * (extra_bytes / 4) = omega arith in
    let size : count * (4 * (bytes / 4)) + extra * (4 * (extra_bytes / 4)) ≤ 67108864 =
    subst (λ (e : ℕ). count * (4 * (bytes / 4)) + extra * e ≤ 67108864) extra_in_words (subst (λ (b : ℕ). count * b + extra * extra_bytes ≤ 67108864) in_words size_bounded) in
    let all_extra : count + extra - count ≡ extra = omega arith in
    let size_in_words : count * (bytes / 4) + (count + extra - count) * (extra_bytes / 4) ≤ 16777216 =
    subst (λ (n : ℕ). count * (bytes / 4) + n * (extra_bytes / 4) ≤ 16777216) (sym all_extra) (omega arith) in
    record {
      some_chunks = some_chunks;
      chunks_bounded = chunks_bounded;
      first_within = omega arith;
      extra_bounded = omega arith;
      header_fits = omega arith;
      extra_header_fits = omega arith;
      words_bounded = omega arith;
      extra_words_bounded = omega arith;
      aligned = omega arith;
      extra_aligned = omega arith;
      size_bounded = size_in_words;
    }

pub IsPool-start_bytes : (count bytes extra extra_bytes : ℕ) → 1 ≤ count → count ≤ 65536 → 64 ≤ bytes → bytes ≤ 65536 → bytes % 16 ≡ 0 → extra ≤ 65536 → 32 ≤ extra_bytes → extra_bytes ≤ 65536 → extra_bytes % 16 ≡ 0 → count * bytes + extra * extra_bytes ≤ 67108864 → IsPool (start_pool count (bytes / 4) extra (extra_bytes / 4))
IsPool-start_bytes count bytes extra extra_bytes some_chunks chunks_bounded header_fits bytes_bounded aligned extra_bounded extra_header_fits extra_bytes_bounded extra_aligned size_bounded =
    IsPool-start_pool count (bytes / 4) extra (extra_bytes / 4)
    (IsShape-start_bytes count bytes extra extra_bytes some_chunks chunks_bounded header_fits bytes_bounded aligned extra_bounded extra_header_fits extra_bytes_bounded extra_aligned size_bounded)
