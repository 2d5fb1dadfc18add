-- How the chunks and the free list lie in a region of words.
use Rattle.std.proofs.Common.{◌≡◌, ◌≢◌, ℕ, zero, suc, ◌+◌, ◌-◌, ◌<◌, ◌≤◌, List, [], ◌∷◌, length, map, take, drop, get_or, set, replicate, refl, sym, ◌∙◌, ap, subst, inl, inr, arith, All}
use Rattle.chunk_pool.proofs.Common.{range_with_len, cases_eq, cases_lt, length-set, length-replicate, get_or-take, get_or-drop, get_or-set_same, get_or-set_other, take-set-le, take-replicate, drop-replicate, drop-set-lt, drop-set-add, drop-take, same_lists, All-head, All-tail, length-map-range_with_len, get_or-map-range_with_len, Shape, contents_with, start_chunk, next_in, words_in, start_in, size_in, IsShape}
use Rattle.chunk_pool.specs.Chunks.{chunk_words, chunks_in, followed}
use Rattle.chunk_pool.proofs.Shapes.{start-before, start_fits, words_in-some}

-- ---- one chunk

-- a word of a chunk is one of the region
pub get_or-chunk_words : (s : Shape) (id word d : ℕ) (region : List ℕ) → word < words_in s id → get_or (chunk_words s region id) word d ≡ get_or region (start_in s id + word) d
get_or-chunk_words s id word d region below = get_or-take (words_in s id) (drop (start_in s id) region) word d below ∙ get_or-drop (start_in s id) region word d

take-set_within : (n : ℕ) (xs : List ℕ) (i x : ℕ) → i < n → take n (set xs i x) ≡ set (take n xs) i x
take-set_within zero xs i x below = absurd (omega arith)
take-set_within (suc n) (y ∷ xs) (suc i) x below = ap (λ (l : List ℕ). y ∷ l) (take-set_within n xs i x (omega arith))
take-set_within (suc n) _ _ x below = refl

pub chunk_words-set_same : (s : Shape) (id word value : ℕ) (region : List ℕ) → word < words_in s id → chunk_words s (set region (start_in s id + word) value) id ≡ set (chunk_words s region id) word value
chunk_words-set_same s id word value region below =
    ap (take (words_in s id)) (drop-set-add (start_in s id) region word value) ∙ take-set_within (words_in s id) (drop (start_in s id) region) word value below

pub chunk_words-set_other : (s : Shape) (id word value other : ℕ) (region : List ℕ) → word < words_in s id → other ≢ id → chunk_words s (set region (start_in s id + word) value) other ≡ chunk_words s region other
chunk_words-set_other s id word value other region below apart = elim (cases_lt id other) [
  | inl before ↦
      let first : start_in s id + words_in s id ≤ start_in s other = start-before s id other before in
      ap (take (words_in s other)) (drop-set-lt (start_in s other) region (start_in s id + word) value (omega arith))
  | inr behind ↦
      let less : other < id = omega (arith, apart) in
      let later : start_in s other + words_in s other ≤ start_in s id = start-before s other id less in
      let offset = start_in s id + word - start_in s other in
      let at : start_in s id + word ≡ start_in s other + offset = omega arith in
      ap (λ (i : ℕ). take (words_in s other) (drop (start_in s other) (set region i value))) at
      ∙ ap (take (words_in s other)) (drop-set-add (start_in s other) region offset value)
      ∙ take-set-le (words_in s other) (drop (start_in s other) region) offset value (omega arith)
]

-- ---- all chunks

pub length-chunks_in : (s : Shape) (region : List ℕ) → length (chunks_in s region) ≡ s.count
length-chunks_in s region = length-map-range_with_len (chunk_words s region) 0 s.count

pub get_or-chunks_in : (s : Shape) (id : ℕ) (region d : List ℕ) → id < s.count → get_or (chunks_in s region) id d ≡ chunk_words s region id
get_or-chunks_in s id region d within = get_or-map-range_with_len (chunk_words s region) 0 s.count id id d within (omega arith)

-- a word of the contents is one of the region
pub word_in_region : (s : Shape) (id word : ℕ) (region : List ℕ) → id < s.count → word < words_in s id → get_or (get_or (chunks_in s region) id []) word 0 ≡ get_or region (start_in s id + word) 0
word_in_region s id word region within below =
    ap (λ (chunk : List ℕ). get_or chunk word 0) (get_or-chunks_in s id region [] within) ∙ get_or-chunk_words s id word 0 region below

-- a word that is written is written in the contents
pub chunks_in-set : (s : Shape) (id word value : ℕ) (region : List ℕ) → id < s.count → word < words_in s id → chunks_in s (set region (start_in s id + word) value) ≡ contents_with (chunks_in s region) id word value
chunks_in-set s id word value region within below =
    let old = chunks_in s region in
    let new = set region (start_in s id + word) value in
    let chunk = set (get_or old id []) word value in
    let count_is = length-chunks_in s region in
    let id_in : id < length old = omega arith in
    same_lists (chunks_in s new) (set old id chunk) (omega (arith, length-chunks_in s new, length-set old id chunk))
    (λ k d k_in.
    let k_within : k < s.count = omega (arith, length-chunks_in s new) in
    get_or-chunks_in s k new d k_within
    ∙ elim (cases_eq k id) [
      | inl same ↦
          let own : chunk_words s new id ≡ get_or (set old id chunk) id d =
          chunk_words-set_same s id word value region below
          ∙ ap (λ (c : List ℕ). set c word value) (sym (get_or-chunks_in s id region [] within))
          ∙ sym (get_or-set_same old id chunk d id_in) in
          subst (λ (k : ℕ). chunk_words s new k ≡ get_or (set old id chunk) k d) (sym same) own
      | inr apart ↦
          chunk_words-set_other s id word value k region below apart
          ∙ sym (get_or-chunks_in s k region d k_within)
          ∙ sym (get_or-set_other old id k chunk d apart)
    ])

-- a payload is a run of the region
pub payload_in_region : (s : Shape) (id : ℕ) (region : List ℕ) → 4 ≤ words_in s id → id < s.count → take (words_in s id - 4) (drop (start_in s id + 4) region) ≡ drop 4 (get_or (chunks_in s region) id [])
payload_in_region s id region header within =
    let split : words_in s id ≡ 4 + (words_in s id - 4) = omega arith in
    ap (take (words_in s id - 4)) (sym (Rattle.std.proofs.lemmas.List.drop-drop 4 (start_in s id) region))
    ∙ sym (drop-take 4 (words_in s id - 4) (drop (start_in s id) region))
    ∙ ap (λ (n : ℕ). drop 4 (take n (drop (start_in s id) region))) (sym split)
    ∙ ap (drop 4) (sym (get_or-chunks_in s id region [] within))

-- ---- a free list

pub length-followed : (s : Shape) (region : List ℕ) (first free : ℕ) → length (followed s region first free) ≡ free
length-followed s region first zero = refl
length-followed s region first (suc more) =
    let rest = length-followed s region (get_or region (start_in s first) 0) more in omega arith

-- the list behind its first number
pub followed-step : (s : Shape) (region : List ℕ) (first free more : ℕ) → free ≡ more + 1 → followed s region first free ≡ first ∷ followed s region (get_or region (start_in s first) 0) more
followed-step s region first free more e = let one_more : free ≡ suc more = omega arith in ap (followed s region first) one_more

-- a word that is none of its links leaves it
pub followed-set : (s : Shape) (region : List ℕ) (at value first free : ℕ) → All (λ id. start_in s id ≢ at) (followed s region first free) → followed s (set region at value) first free ≡ followed s region first free
followed-set s region at value first zero apart = refl
followed-set s region at value first (suc more) apart =
    let ids = followed s region (get_or region (start_in s first) 0) more in
    let kept : get_or (set region at value) (start_in s first) 0 ≡ get_or region (start_in s first) 0 =
    get_or-set_other region at (start_in s first) value 0 (All-head (λ id. start_in s id ≢ at) first ids apart) in
    ap (λ (next : ℕ). first ∷ followed s (set region at value) next more) kept
    ∙ ap (λ (l : List ℕ). first ∷ l) (followed-set s region at value (get_or region (start_in s first) 0) more (All-tail (λ id. start_in s id ≢ at) first ids apart))

-- where each chunk's first word but the last's is the number after its own, the list is in their order
pub followed-range : (s : Shape) (region : List ℕ) (first free end : ℕ) → first + free ≡ end → ((id : ℕ) → first ≤ id → id + 1 < end → get_or region (start_in s id) 0 ≡ id + 1) → followed s region first free ≡ range_with_len first free
followed-range s region first (suc (suc more)) end ends next =
    ap (λ (n : ℕ). first ∷ followed s region n (suc more)) (next first (omega arith) (omega arith))
    ∙ ap (λ (l : List ℕ). first ∷ l) (followed-range s region (first + 1) (suc more) end (omega arith) (λ id from. next id (omega arith)))
followed-range s region first _ end ends next = refl

-- ---- the start

-- the chunks of a region whose first words are linked up to this number, and whose other words are 0
pub record IsLinkedTo (s : Shape) (linked : ℕ) (region : List ℕ) : Type 0 where
  pub size : length region ≡ size_in s
  pub before : (id : ℕ) → id < linked → chunk_words s region id ≡ start_chunk s id
  pub after : (id : ℕ) → linked ≤ id → id < s.count → chunk_words s region id ≡ replicate (words_in s id) 0

pub linked_none : (s : Shape) (region : List ℕ) → IsShape s → region ≡ replicate (size_in s) 0 → IsLinkedTo s 0 region
linked_none s region sound zeros = record {
  size = ap length zeros ∙ length-replicate (size_in s) 0;
  before = λ id below. absurd (omega arith);
  after = λ id from within.
      let fits : start_in s id + words_in s id ≤ size_in s = start_fits s id sound within in
      ap (λ (l : List ℕ). take (words_in s id) (drop (start_in s id) l)) zeros
      ∙ ap (take (words_in s id)) (drop-replicate (start_in s id) (size_in s) 0)
      ∙ take-replicate (words_in s id) (size_in s - start_in s id) 0 (omega arith);
}

zeros-set : (words x : ℕ) → 1 ≤ words → set (replicate words 0) 0 x ≡ x ∷ replicate (words - 1) 0
zeros-set zero x some = absurd (omega arith)
zeros-set (suc n) x some = let less : n ≡ suc n - 1 = omega arith in ap (λ (m : ℕ). x ∷ replicate m 0) less

pub linked_more : (s : Shape) (id : ℕ) (region : List ℕ) → IsShape s → id < s.count → IsLinkedTo s id region → IsLinkedTo s (id + 1) (set region (start_in s id) (next_in s id))
linked_more s id region sound within so_far =
    let some : 1 ≤ words_in s id = omega (arith, words_in-some s id sound) in
    let first : start_in s id ≡ start_in s id + 0 = omega arith in
    let P : List ℕ → Type 0 = λ new. IsLinkedTo s (id + 1) new in
    subst (λ (at : ℕ). P (set region at (next_in s id))) (sym first) (record {
      size = length-set region (start_in s id + 0) (next_in s id) ∙ so_far.size;
      before = λ other below. elim (cases_eq other id) [
        | inl same ↦ subst (λ (k : ℕ). chunk_words s (set region (start_in s id + 0) (next_in s id)) k ≡ start_chunk s k) (sym same)
            (chunk_words-set_same s id 0 (next_in s id) region (omega arith)
            ∙ ap (λ (c : List ℕ). set c 0 (next_in s id)) (so_far.after id (omega arith) within) ∙ zeros-set (words_in s id) (next_in s id) some)
        | inr apart ↦ chunk_words-set_other s id 0 (next_in s id) other region (omega arith) apart ∙ so_far.before other (omega (arith, apart))
      ];
      after = λ other from other_in.
          let apart : other ≢ id = omega arith in
          chunk_words-set_other s id 0 (next_in s id) other region (omega arith) apart ∙ so_far.after other (omega arith) other_in;
    })

pub linked_all : (s : Shape) (region : List ℕ) → IsLinkedTo s s.count region → chunks_in s region ≡ map (start_chunk s) (range_with_len 0 s.count)
linked_all s region all =
    same_lists (chunks_in s region) (map (start_chunk s) (range_with_len 0 s.count))
    (length-chunks_in s region ∙ sym (length-map-range_with_len (start_chunk s) 0 s.count))
    (λ k d k_in.
    let within : k < s.count = omega (arith, length-chunks_in s region) in
    get_or-chunks_in s k region d within ∙ all.before k within
    ∙ sym (get_or-map-range_with_len (start_chunk s) 0 s.count k k d within (omega arith)))
