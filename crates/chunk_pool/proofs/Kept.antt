-- A pool that lies in one region, as its parts change.
use Rattle.std.proofs.Common.{◌≡◌, ◌≢◌, ℕ, ◌+◌, ◌-◌, ◌/◌, ◌^◌, ◌<◌, ◌≤◌, ◌⊎◌, inl, inr, List, [], ◌∷◌, length, map, take, drop, get_or, set, nat_le, refl, sym, ◌∙◌, ap, subst, arith, All, Contains}
use Rattle.chunk_pool.proofs.Common.{range_with_len, cases_eq, cases_lt, length-set, length-append, All-head, Shape, Pool, first_place, HasAddress, shape_of, word_of, payload_of, contents_with, with_word, words_of, words_in, start_of, start_in, size_in, free_count, after_give, first_or, IsHeld, IsLinked, IsFreeList, IsShape, IsPool, offers, choice, class_for, next_in, start_chunk, start_shape, start_pool, chunks_in, followed, pool_of, IsKept}
use Rattle.chunk_pool.specs.declared.pool.ChunkPool.TheInside.{Inside}
use Rattle.chunk_pool.proofs.AddressLaws.{position_within}
use Rattle.chunk_pool.proofs.Shapes.{start-before, words_in-some}
use Rattle.chunk_pool.proofs.PoolLaws.{same_pool, apart_from, absent-first, absent-extra, word_of-with_word_same, IsPool-with_word, IsPool-taken_first, IsPool-taken_extra, IsPool-given_first, IsPool-given_extra, given_first, given_extra, after_give-first, after_give-extra}
use Rattle.chunk_pool.proofs.FreeLaws.{free_bounded}
use Rattle.chunk_pool.proofs.PoolStart.{first_or-range, first_or-some, first_word-start_pool, next_in-more}
use Rattle.chunk_pool.proofs.RegionLaws.{word_in_region, payload_in_region, chunks_in-set, length-followed, followed-step, followed-set, followed-range}

-- ---- reading, where p is what the fields are seen as

pub shape_is : (a : Inside) (p : Pool) → pool_of a ≡ p → IsKept a → IsShape (shape_of p)
shape_is a p v kept = subst (λ (q : Pool). IsShape (shape_of q)) v kept.pool.shape

-- each chunk has a header and a payload
pub has_words : (a : Inside) (p : Pool) (id : ℕ) → pool_of a ≡ p → IsKept a → 8 ≤ words_of p id
has_words a p id v kept = words_in-some (shape_of p) id (shape_is a p v kept)

-- the region is as long as the words of all chunks
pub region_is : (a : Inside) (p : Pool) → pool_of a ≡ p → IsKept a → length a.region ≡ size_in (shape_of p)
region_is a p v kept = kept.size ∙ ap (λ (q : Pool). size_in (shape_of q)) v

-- where the word of an address stands, the region has a word
pub address_within : (a : Inside) (p : Pool) (id address at : ℕ) → pool_of a ≡ p → IsKept a → HasAddress p id address → at ≡ (address - first_place) / 4 → at < length a.region
address_within a p id address at v kept has is =
    omega (arith, is, region_is a p v kept, position_within p id address (subst IsPool v kept.pool) has)

pub read_is : (a : Inside) (p : Pool) (id word : ℕ) → pool_of a ≡ p → id < p.count → word < words_of p id → get_or a.region (start_of p id + word) 0 ≡ word_of p id word
read_is a p id word v =
    let P : Pool → Type 0 = λ q. id < q.count → word < words_of q id → get_or a.region (start_of q id + word) 0 ≡ word_of q id word in
    subst P v (λ within below. sym (word_in_region a.shape id word a.region within below))

pub payload_is : (a : Inside) (p : Pool) (id at : ℕ) → pool_of a ≡ p → IsKept a → id < p.count → at ≡ start_of p id + 4 → take (words_of p id - 4) (drop at a.region) ≡ payload_of p id
payload_is a p id at v kept =
    let P : Pool → Type 0 = λ q. id < q.count → at ≡ start_of q id + 4 → take (words_of q id - 4) (drop at a.region) ≡ payload_of q id in
    subst P v (λ within at_is.
    ap (λ (n : ℕ). take (words_in a.shape id - 4) (drop n a.region)) at_is
    ∙ payload_in_region a.shape id a.region (omega (arith, words_in-some a.shape id kept.pool.shape)) within)

pub free_is : (a : Inside) (p : Pool) → pool_of a ≡ p → (a.free ≡ length p.free) × (a.extra_free ≡ length p.extra_free)
free_is a p v = (
  sym (length-followed a.shape a.region a.first a.free) ∙ ap (λ (q : Pool). length q.free) v,
  sym (length-followed a.shape a.region a.extra_first a.extra_free) ∙ ap (λ (q : Pool). length q.extra_free) v,
)

-- of which size a need takes
pub class_is : (a : Inside) (p : Pool) (need : ℕ) → pool_of a ≡ p → choice (offers a.shape.words a.free need) (offers a.shape.extra_words a.extra_free need) (nat_le a.shape.words a.shape.extra_words) ≡ class_for p need
class_is a p need v =
    ap (λ (n : ℕ). choice (offers a.shape.words n need) (offers a.shape.extra_words a.extra_free need) (nat_le a.shape.words a.shape.extra_words)) (sym (length-followed a.shape a.region a.first a.free))
    ∙ ap (λ (n : ℕ). choice (offers a.shape.words (length (followed a.shape a.region a.first a.free)) need) (offers a.shape.extra_words n need) (nat_le a.shape.words a.shape.extra_words)) (sym (length-followed a.shape a.region a.extra_first a.extra_free))
    ∙ ap (λ (q : Pool). class_for q need) v

-- how many chunks are free
pub all_free_is : (a : Inside) (p : Pool) → pool_of a ≡ p → a.free + a.extra_free ≡ free_count p
all_free_is a p v = omega (arith, (free_is a p v).0, (free_is a p v).1, length-append p.free p.extra_free)

pub free_most : (a : Inside) (p : Pool) → pool_of a ≡ p → IsKept a → a.free + a.extra_free ≤ a.shape.count
free_most a p v kept = omega (arith, all_free_is a (pool_of a) refl, free_bounded (pool_of a) kept.pool)

-- ---- a word is written

-- the first word of a chunk is not a word behind the first, and no word of another chunk
places_apart : (s : Shape) (a b word : ℕ) → IsShape s → word < words_in s b → (a ≢ b) ⊎ (1 ≤ word) → start_in s a ≢ start_in s b + word
places_apart s a b word sound below differ same = elim (cases_eq a b) [
  | inl equal ↦ elim differ [
    | inl apart ↦ absurd (apart equal)
    | inr behind ↦ let both : start_in s a ≡ start_in s b = ap (start_in s) equal in absurd (omega arith)
  ]
  | inr apart ↦ elim (cases_lt a b) [
    | inl before ↦ absurd (omega (arith, start-before s a b before, words_in-some s a sound))
    | inr behind ↦ let less : b < a = omega (arith, apart) in absurd (omega (arith, start-before s b a less))
  ]
]

links_apart : (s : Shape) (ids : List ℕ) (id word : ℕ) → IsShape s → word < words_in s id → (¬ Contains ids id) ⊎ (4 ≤ word) → All (λ k. start_in s k ≢ start_in s id + word) ids
links_apart s ids id word sound below kept k d within =
    places_apart s (get_or ids k d) id word sound below (elim kept [ inl absent ↦ inl (apart_from ids id absent k d within) | inr behind ↦ inr (omega arith) ])

-- the pool with the word written, and that it is kept
pub record IsWritten (a : Inside) (p : Pool) (id word value : ℕ) (new : List ℕ) : Type 0 where
  pub pool : pool_of (record a { region = new }) ≡ with_word p id word value
  pub kept : IsKept (record a { region = new })

here_written : (a : Inside) (id word value : ℕ) → IsKept a → id < a.shape.count → word < words_in a.shape id → value < 2 ^ 32 → IsHeld (pool_of a) id ⊎ (4 ≤ word) → IsWritten a (pool_of a) id word value (set a.region (start_in a.shape id + word) value)
here_written a id word value kept within below fits link_kept =
    let s = a.shape in
    let at = start_in s id + word in
    let new = set a.region at value in
    let free = followed s a.region a.first a.free in
    let extra = followed s a.region a.extra_first a.extra_free in
    let same_free = followed-set s a.region at value a.first a.free
    (links_apart s free id word kept.pool.shape below (elim link_kept [ inl held ↦ inl (absent-first (pool_of a) id held.1) | inr behind ↦ inr behind ])) in
    let same_extra = followed-set s a.region at value a.extra_first a.extra_free
    (links_apart s extra id word kept.pool.shape below (elim link_kept [ inl held ↦ inl (absent-extra (pool_of a) id held.1) | inr behind ↦ inr behind ])) in
    let pool : pool_of (record a { region = new }) ≡ with_word (pool_of a) id word value =
    same_pool s (chunks_in s new) (contents_with (chunks_in s a.region) id word value) (followed s new a.first a.free) free (followed s new a.extra_first a.extra_free) extra
    (chunks_in-set s id word value a.region within below) same_free same_extra in
    record {
      pool = pool;
      kept = record {
        pool = subst IsPool (sym pool) (IsPool-with_word (pool_of a) id word value kept.pool within fits link_kept);
        size = length-set a.region at value ∙ kept.size;
        first = kept.first ∙ ap (λ (ids : List ℕ). first_or ids s.count) (sym same_free);
        extra_first = kept.extra_first ∙ ap (λ (ids : List ℕ). first_or ids s.count) (sym same_extra);
      };
    }

pub written : (a : Inside) (p : Pool) (id word value at : ℕ) (new : List ℕ) → pool_of a ≡ p → IsKept a → id < p.count → word < words_of p id → value < 2 ^ 32 → IsHeld p id ⊎ (4 ≤ word) → at ≡ start_of p id + word → new ≡ set a.region at value → IsWritten a p id word value new
written a p id word value at new v kept within below fits link_kept at_is new_is =
    let P : Pool → Type 0 = λ q. id < q.count → word < words_of q id → IsHeld q id ⊎ (4 ≤ word) → at ≡ start_of q id + word → IsWritten a q id word value new in
    subst P v (λ within below link_kept at_is.
    let same : set a.region (start_in a.shape id + word) value ≡ new = sym (new_is ∙ ap (λ (i : ℕ). set a.region i value) at_is) in
    subst (IsWritten a (pool_of a) id word value) same (here_written a id word value kept within below fits link_kept)) within below link_kept at_is

-- ---- a chunk is taken

-- a free list that isn't empty: its first number is that of a chunk of its size, and the rest begins with the number in that chunk's first word
record IsTakenOff (s : Shape) (region : List ℕ) (first free next from to : ℕ) : Type 0 where
  pub within : (from ≤ first) × (first < to)
  pub rest : followed s region next (free - 1) ≡ drop 1 (followed s region first free)
  pub link : to ≤ s.count → next ≡ first_or (followed s region next (free - 1)) s.count

taken_off : (s : Shape) (region : List ℕ) (first free next from to : ℕ) → IsShape s → next ≡ get_or region (start_in s first) 0 →
    IsFreeList (chunks_in s region) s.count from to (followed s region first free) → 0 < length (followed s region first free) →
    IsTakenOff s region first free next from to
taken_off s region first free next from to sound next_is list some = record {
  within = within;
  rest = sym (ap (drop 1) split);
  link = λ most.
      let below : first < s.count = omega (arith, within.1) in
      let at : start_in s first ≡ start_in s first + 0 = omega arith in
      next_is ∙ ap (λ (i : ℕ). get_or region i 0) at ∙ sym (word_in_region s first 0 region below (omega (arith, words_in-some s first sound)))
      ∙ (subst (IsLinked (chunks_in s region) s.count) split list.linked).0;
} where
  split : followed s region first free ≡ first ∷ followed s region next (free - 1)
  split = followed-step s region first free (free - 1) (omega (arith, some, length-followed s region first free))
      ∙ ap (λ (n : ℕ). first ∷ followed s region n (free - 1)) (sym next_is)

  within : (from ≤ first) × (first < to)
  within =
      let P : ℕ → Type 0 = λ id. (from ≤ id) × (id < to) in
      All-head P first (followed s region next (free - 1)) (subst (All P) split list.within)

abbrev pub first_taken : Inside → ℕ → Inside
first_taken a next = record a { first = next; free = a.free - 1 }

abbrev pub extra_taken : Inside → ℕ → Inside
extra_taken a next = record a { extra_first = next; extra_free = a.extra_free - 1 }

pub record IsFirstTaken (a : Inside) (p : Pool) (next : ℕ) : Type 0 where
  pub within : a.first < a.shape.count
  pub first : a.first ≡ first_or p.free p.count
  pub pool : pool_of (first_taken a next) ≡ record p { free = drop 1 p.free }
  pub kept : IsKept (first_taken a next)

pub record IsExtraTaken (a : Inside) (p : Pool) (next : ℕ) : Type 0 where
  pub within : a.extra_first < a.shape.count
  pub first : a.extra_first ≡ first_or p.extra_free p.count
  pub pool : pool_of (extra_taken a next) ≡ record p { extra_free = drop 1 p.extra_free }
  pub kept : IsKept (extra_taken a next)

pub taken_first : (a : Inside) (p : Pool) (next : ℕ) → pool_of a ≡ p → IsKept a → 0 < length p.free →
    next ≡ get_or a.region (start_in a.shape a.first) 0 → IsFirstTaken a p next
taken_first a p next v kept some next_is = subst (λ (q : Pool). 0 < length q.free → IsFirstTaken a q next) v (λ some.
    let shape = kept.pool.shape in
    let off = taken_off a.shape a.region a.first a.free next 0 a.shape.first_count shape next_is kept.pool.free some in
    let pool : pool_of (first_taken a next) ≡ record (pool_of a) { free = drop 1 (pool_of a).free } =
    ap (λ (free : List ℕ). record (pool_of a) { free = free }) off.rest in
    record {
      within = omega (arith, off.within.1, shape.first_within);
      first = kept.first;
      pool = pool;
      kept = record {
        pool = subst IsPool (sym pool) (IsPool-taken_first (pool_of a) kept.pool);
        size = kept.size;
        first = off.link shape.first_within;
        extra_first = kept.extra_first;
      };
    }) some

pub taken_extra : (a : Inside) (p : Pool) (next : ℕ) → pool_of a ≡ p → IsKept a → 0 < length p.extra_free →
    next ≡ get_or a.region (start_in a.shape a.extra_first) 0 → IsExtraTaken a p next
taken_extra a p next v kept some next_is = subst (λ (q : Pool). 0 < length q.extra_free → IsExtraTaken a q next) v (λ some.
    let off = taken_off a.shape a.region a.extra_first a.extra_free next a.shape.first_count a.shape.count kept.pool.shape next_is kept.pool.extra_free some in
    let pool : pool_of (extra_taken a next) ≡ record (pool_of a) { extra_free = drop 1 (pool_of a).extra_free } =
    ap (λ (free : List ℕ). record (pool_of a) { extra_free = free }) off.rest in
    record {
      within = off.within.1;
      first = kept.extra_first;
      pool = pool;
      kept = record {
        pool = subst IsPool (sym pool) (IsPool-taken_extra (pool_of a) kept.pool);
        size = kept.size;
        first = kept.first;
        extra_first = off.link (omega arith);
      };
    }) some

-- ---- a chunk is given back

abbrev pub first_given : Inside → ℕ → Inside
first_given a id = record a { first = id; free = a.free + 1 }

abbrev pub extra_given : Inside → ℕ → Inside
extra_given a id = record a { extra_first = id; extra_free = a.extra_free + 1 }

pub record IsGiven (a : Inside) (p : Pool) (id : ℕ) : Type 0 where
  pub pool : pool_of a ≡ after_give p id
  pub kept : IsKept a

-- a chunk in front of a free list, whose first number was written into the chunk's first word
put_front : (a : Inside) (p : Pool) (id link first free : ℕ) → pool_of a ≡ with_word p id 0 link → IsKept a → IsPool p → id < p.count → link ≡ first →
    followed a.shape a.region id (free + 1) ≡ id ∷ followed a.shape a.region first free
put_front a p id link first free is kept sound within same =
    let at : start_in a.shape id ≡ start_in a.shape id + 0 = omega arith in
    let here : id < a.shape.count = subst (λ (q : Pool). id < q.count) (sym is) within in
    let next : get_or a.region (start_in a.shape id) 0 ≡ first =
    ap (λ (i : ℕ). get_or a.region i 0) at
    ∙ sym (word_in_region a.shape id 0 a.region here (omega (arith, words_in-some a.shape id kept.pool.shape)))
    ∙ ap (λ (q : Pool). word_of q id 0) is
    ∙ word_of-with_word_same p id 0 link sound within (omega (arith, words_in-some (shape_of p) id sound.shape)) ∙ same in
    followed-step a.shape a.region id (free + 1) free refl ∙ ap (λ (n : ℕ). id ∷ followed a.shape a.region n free) next

-- the link is written, and then the number is in front
pub given_to_first : (old a : Inside) (p : Pool) (id : ℕ) → pool_of old ≡ p → IsKept old → pool_of a ≡ with_word p id 0 old.first → IsKept a → IsHeld p id → id < p.first_count → IsGiven (first_given a id) p id
given_to_first old a p id old_is old_kept is kept held below =
    let sound : IsPool p = subst IsPool old_is old_kept.pool in
    let s = a.shape in
    let link : old.first ≡ first_or p.free p.count = old_kept.first ∙ ap (λ (q : Pool). first_or q.free q.count) old_is in
    let first : a.first ≡ first_or p.free p.count = kept.first ∙ ap (λ (q : Pool). first_or q.free q.count) is in
    let free : List ℕ = followed s a.region id (a.free + 1) in
    let split : free ≡ id ∷ followed s a.region a.first a.free = put_front a p id old.first a.first a.free is kept sound held.0 (link ∙ sym first) in
    let given : pool_of (first_given a id) ≡ given_first p id =
    ap (λ (q : Pool). record q { free = free }) is
    ∙ ap (λ (ids : List ℕ). record (with_word p id 0 old.first) { free = ids }) (split ∙ ap (λ (q : Pool). id ∷ q.free) is)
    ∙ ap (λ (n : ℕ). record p { contents = contents_with p.contents id 0 n; free = id ∷ p.free }) link in
    record {
      pool = given ∙ sym (after_give-first p id below);
      kept = record {
        pool = subst IsPool (sym given) (IsPool-given_first p id sound held below);
        size = kept.size;
        first = sym (ap (λ (ids : List ℕ). first_or ids s.count) split);
        extra_first = kept.extra_first;
      };
    }

pub given_to_extra : (old a : Inside) (p : Pool) (id : ℕ) → pool_of old ≡ p → IsKept old → pool_of a ≡ with_word p id 0 old.extra_first → IsKept a → IsHeld p id → p.first_count ≤ id → IsGiven (extra_given a id) p id
given_to_extra old a p id old_is old_kept is kept held from =
    let sound : IsPool p = subst IsPool old_is old_kept.pool in
    let s = a.shape in
    let link : old.extra_first ≡ first_or p.extra_free p.count = old_kept.extra_first ∙ ap (λ (q : Pool). first_or q.extra_free q.count) old_is in
    let first : a.extra_first ≡ first_or p.extra_free p.count = kept.extra_first ∙ ap (λ (q : Pool). first_or q.extra_free q.count) is in
    let free : List ℕ = followed s a.region id (a.extra_free + 1) in
    let split : free ≡ id ∷ followed s a.region a.extra_first a.extra_free =
    put_front a p id old.extra_first a.extra_first a.extra_free is kept sound held.0 (link ∙ sym first) in
    let given : pool_of (extra_given a id) ≡ given_extra p id =
    ap (λ (q : Pool). record q { extra_free = free }) is
    ∙ ap (λ (ids : List ℕ). record (with_word p id 0 old.extra_first) { extra_free = ids }) (split ∙ ap (λ (q : Pool). id ∷ q.extra_free) is)
    ∙ ap (λ (n : ℕ). record p { contents = contents_with p.contents id 0 n; extra_free = id ∷ p.extra_free }) link in
    record {
      pool = given ∙ sym (after_give-extra p id from);
      kept = record {
        pool = subst IsPool (sym given) (IsPool-given_extra p id sound held from);
        size = kept.size;
        first = kept.first;
        extra_first = sym (ap (λ (ids : List ℕ). first_or ids s.count) split);
      };
    }

-- ---- the start

abbrev pub started_with : ℕ → ℕ → ℕ → ℕ → List ℕ → Inside
started_with chunks words extra extra_words region = record {
  shape = start_shape chunks words extra extra_words;
  first = 0;
  free = chunks;
  extra_first = chunks;
  extra_free = extra;
  region = region;
}

module _ (chunks words extra extra_words : ℕ) (region : List ℕ) (sound : IsPool (start_pool chunks words extra extra_words))
    (linked : chunks_in (start_shape chunks words extra extra_words) region ≡ map (start_chunk (start_shape chunks words extra extra_words)) (range_with_len 0 (chunks + extra))) where
  abbrev s : Shape
  s = start_shape chunks words extra extra_words

  next : (id : ℕ) → id < s.count → get_or region (start_in s id) 0 ≡ next_in s id
  next id within =
      let at : start_in s id ≡ start_in s id + 0 = omega arith in
      ap (λ (i : ℕ). get_or region i 0) at ∙ sym (word_in_region s id 0 region within (omega (arith, words_in-some s id sound.shape)))
      ∙ ap (λ (contents : List (List ℕ)). get_or (get_or contents id []) 0 0) linked ∙ first_word-start_pool s id within

  free_order : followed s region 0 chunks ≡ range_with_len 0 chunks
  free_order = followed-range s region 0 chunks chunks (omega arith)
      (λ id from below. next id (omega arith) ∙ next_in-more s id (λ same. omega arith))

  extra_order : followed s region chunks extra ≡ range_with_len chunks extra
  extra_order = followed-range s region chunks extra (chunks + extra) refl
      (λ id from below. next id (omega arith) ∙ next_in-more s id (λ same. omega arith))

  pub started : pool_of (started_with chunks words extra extra_words region) ≡ start_pool chunks words extra extra_words
  started = same_pool s (chunks_in s region) (map (start_chunk s) (range_with_len 0 (chunks + extra))) (followed s region 0 chunks) (range_with_len 0 chunks)
      (followed s region chunks extra) (range_with_len chunks extra) linked free_order extra_order

  pub started_kept : length region ≡ size_in s → IsKept (started_with chunks words extra extra_words region)
  started_kept size = record {
    pool = subst IsPool (sym started) sound;
    size = size;
    first = sym (ap (λ (ids : List ℕ). first_or ids s.count) free_order ∙ first_free_start);
    extra_first = sym (ap (λ (ids : List ℕ). first_or ids s.count) extra_order ∙ first_or-range chunks extra s.count refl);
  } where
    first_free_start : first_or (range_with_len 0 chunks) s.count ≡ 0
    first_free_start = first_or-some 0 chunks s.count sound.shape.some_chunks
