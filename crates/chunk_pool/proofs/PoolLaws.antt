-- What a step leaves of the words, and that each step keeps a pool sound.
use Rattle.std.proofs.Common.{◌≡◌, ◌≢◌, ℕ, ◌^◌, ◌<◌, ◌≤◌, ◌⊎◌, inl, inr, Bool, false, List, [], ◌∷◌, length, drop, get_or, set, sym, ◌∙◌, ap, subst, arith, nat_eq, cond, All, Contains}
use Rattle.chunk_pool.proofs.Common.{IsDistinct, AllByRecursion, cases_Bool, cases_eq, cases_lt, eqb-true, ne_eqb, false≢true, lt-ltb, le-ltb, length-set, get_or-set_same, get_or-set_other, get_or_default, set_past, drop-set-lt, All-cons, All-head, All-tail, All-set, All-drop, Contains-append_left, Contains-append_right, Contains-from_any, list_any-from_Contains, Shape, Pool, shape_of, word_of, payload_of, contents_with, with_word, words_of, KeepsOthers, free_beside, after_give, first_or, IsFree, IsHeld, IsChunk, IsLinked, IsFreeList, IsPool}
use Rattle.std.specs.Cmp.{nat_eq_equiv}
use Rattle.chunk_pool.proofs.Shapes.{words_in-some}

-- ---- a pool by its parts

pub same_pool : (s : Shape) (contents contents' : List (List ℕ)) (free free' extra extra' : List ℕ) → contents ≡ contents' → free ≡ free' → extra ≡ extra' →
    Path Pool (record { count = s.count; first_count = s.first_count; words = s.words; extra_words = s.extra_words; contents = contents; free = free; extra_free = extra })
    (record { count = s.count; first_count = s.first_count; words = s.words; extra_words = s.extra_words; contents = contents'; free = free'; extra_free = extra' })
same_pool s contents contents' free free' extra extra' same_contents same_free same_extra =
    λ i. record { count = s.count; first_count = s.first_count; words = s.words; extra_words = s.extra_words; contents = same_contents i; free = same_free i; extra_free = same_extra i }

-- ---- numbers in a list

pub Contains-cases : (xs : List ℕ) (x : ℕ) → Contains xs x ⊎ ¬ Contains xs x
Contains-cases xs x = elim (cases_Bool (Rattle.std.specs.List.list_any (nat_eq x) xs)) [
  | inl found ↦ inl (Contains-from_any eqb-true x xs found)
  | inr none ↦ inr (λ there. false≢true (sym none ∙ list_any-from_Contains nat_eq_equiv x xs there))
]

-- a number that is not in the list differs from each of its numbers
pub apart_from : (xs : List ℕ) (x : ℕ) → ¬ Contains xs x → All (λ y. y ≢ x) xs
apart_from xs x absent k d within same = absent (k, within, get_or_default xs k x d within ∙ same)

pub different_by_test : (xs : List ℕ) (x : ℕ) → All (λ y. y ≢ x) xs → AllByRecursion (λ y. nat_eq x y ≡ false) xs
different_by_test [] x apart = tt
different_by_test (y ∷ ys) x apart =
    (ne_eqb x y (λ same. All-head (λ y. y ≢ x) y ys apart (sym same)), different_by_test ys x (All-tail (λ y. y ≢ x) y ys apart))

-- ---- words

-- a word that is written leaves the first word of a chunk, if it is another chunk's or not the first
pub first_word-contents_with : (contents : List (List ℕ)) (id word value other : ℕ) → (other ≢ id) ⊎ (1 ≤ word) → get_or (get_or (contents_with contents id word value) other []) 0 0 ≡ get_or (get_or contents other []) 0 0
first_word-contents_with contents id word value other (inl apart) =
    ap (λ chunk. get_or chunk 0 0) (get_or-set_other contents id other (set (get_or contents id []) word value) [] apart)
first_word-contents_with contents id word value other (inr behind) = elim (cases_eq other id) [
  | inr apart ↦ ap (λ chunk. get_or chunk 0 0) (get_or-set_other contents id other (set (get_or contents id []) word value) [] apart)
  | inl same ↦ elim (cases_lt id (length contents)) [
    | inl within ↦
        let differ : 0 ≢ word = omega arith in
        subst (λ (other : ℕ). get_or (get_or (contents_with contents id word value) other []) 0 0 ≡ get_or (get_or contents other []) 0 0) (sym same)
        (ap (λ chunk. get_or chunk 0 0) (get_or-set_same contents id (set (get_or contents id []) word value) [] within) ∙ get_or-set_other (get_or contents id []) word 0 value 0 differ)
    | inr past ↦ ap (λ (contents : List (List ℕ)). get_or (get_or contents other []) 0 0) (set_past contents id (set (get_or contents id []) word value) past)
  ]
]

-- links that are not written stay
pub IsLinked-kept : (old new : List (List ℕ)) (end : ℕ) (ids : List ℕ) → All (λ id. get_or (get_or new id []) 0 0 ≡ get_or (get_or old id []) 0 0) ids → IsLinked old end ids → IsLinked new end ids
IsLinked-kept old new end [] same linked = tt
IsLinked-kept old new end (id ∷ ids) same linked =
    let P : ℕ → Type 0 = λ id. get_or (get_or new id []) 0 0 ≡ get_or (get_or old id []) 0 0 in
    (All-head P id ids same ∙ linked.0, IsLinked-kept old new end ids (All-tail P id ids same) linked.1)

IsChunk-set : (words : ℕ) (chunk : List ℕ) (word value : ℕ) → value < 2 ^ 32 → IsChunk words chunk → IsChunk words (set chunk word value)
IsChunk-set words chunk word value fits old = record {
  length = length-set chunk word value ∙ old.length;
  fits = All-set (λ word. word < 2 ^ 32) chunk word value fits old.fits;
}

-- each chunk has its words after one of them is written
pub chunks-contents_with : (p : Pool) (id word value : ℕ) → IsPool p → id < p.count → value < 2 ^ 32 → (k : ℕ) → k < p.count → IsChunk (words_of p k) (get_or (contents_with p.contents id word value) k [])
chunks-contents_with p id word value s within fits k k_within =
    let new = set (get_or p.contents id []) word value in
    let in' : id < length p.contents = subst (λ (n : ℕ). id < n) (sym s.count_is) within in
    elim (cases_eq k id) [
      | inl same ↦ subst (λ (k : ℕ). IsChunk (words_of p k) (get_or (contents_with p.contents id word value) k [])) (sym same)
          (subst (IsChunk (words_of p id)) (sym (get_or-set_same p.contents id new [] in')) (IsChunk-set (words_of p id) (get_or p.contents id []) word value fits (s.chunks id within)))
      | inr apart ↦ subst (IsChunk (words_of p k)) (sym (get_or-set_other p.contents id k new [] apart)) (s.chunks k k_within)
    ]

pub word_of-with_word_same : (p : Pool) (id word value : ℕ) → IsPool p → id < p.count → word < words_of p id → word_of (with_word p id word value) id word ≡ value
word_of-with_word_same p id word value s within below =
    let in' : id < length p.contents = subst (λ (n : ℕ). id < n) (sym s.count_is) within in
    let word_in : word < length (get_or p.contents id []) = omega (arith, (s.chunks id within).length) in
    ap (λ chunk. get_or chunk word 0) (get_or-set_same p.contents id (set (get_or p.contents id []) word value) [] in')
    ∙ get_or-set_same (get_or p.contents id []) word value 0 word_in

pub word_of-with_word_other : (p : Pool) (id word value at : ℕ) → at ≢ word → word_of (with_word p id word value) id at ≡ word_of p id at
word_of-with_word_other p id word value at apart = elim (cases_lt id (length p.contents)) [
  | inl within ↦
      ap (λ chunk. get_or chunk at 0) (get_or-set_same p.contents id (set (get_or p.contents id []) word value) [] within)
      ∙ get_or-set_other (get_or p.contents id []) word at value 0 apart
  | inr past ↦ ap (λ (contents : List (List ℕ)). get_or (get_or contents id []) at 0) (set_past p.contents id (set (get_or p.contents id []) word value) past)
]

pub KeepsOthers-with_word : (p : Pool) (id word value : ℕ) → KeepsOthers p (with_word p id word value) id
KeepsOthers-with_word p id word value other apart = get_or-set_other p.contents id other (set (get_or p.contents id []) word value) [] apart

pub KeepsOthers-after_give : (p : Pool) (id : ℕ) → KeepsOthers p (after_give p id) id
KeepsOthers-after_give p id = KeepsOthers-with_word p id 0 (first_or (free_beside p id) p.count)

-- a give leaves every payload
pub payload_of-after_give : (p : Pool) (id other : ℕ) → payload_of (after_give p id) other ≡ payload_of p other
payload_of-after_give p id other = elim (cases_eq other id) [
  | inr apart ↦ ap (drop 4) (KeepsOthers-after_give p id other apart)
  | inl same ↦ subst (λ (other : ℕ). payload_of (after_give p id) other ≡ payload_of p other) (sym same) (own_payload p id (first_or (free_beside p id) p.count))
] where
  own_payload : (p : Pool) (id value : ℕ) → drop 4 (get_or (contents_with p.contents id 0 value) id []) ≡ drop 4 (get_or p.contents id [])
  own_payload p id value = elim (cases_lt id (length p.contents)) [
    | inl within ↦
        ap (drop 4) (get_or-set_same p.contents id (set (get_or p.contents id []) 0 value) [] within)
        ∙ drop-set-lt 4 (get_or p.contents id []) 0 value (omega arith)
    | inr past ↦ ap (λ (contents : List (List ℕ)). drop 4 (get_or contents id [])) (set_past p.contents id (set (get_or p.contents id []) 0 value) past)
  ]

-- ---- the free lists

pub absent-first : (p : Pool) (id : ℕ) → ¬ IsFree p id → ¬ Contains p.free id
absent-first p id absent there = absent (Contains-append_left p.free p.extra_free id there)

pub absent-extra : (p : Pool) (id : ℕ) → ¬ IsFree p id → ¬ Contains p.extra_free id
absent-extra p id absent there = absent (Contains-append_right p.free p.extra_free id there)

-- the links of a list stay where a word is written that is none of them
pub links-contents_with : (contents : List (List ℕ)) (ids : List ℕ) (id word value : ℕ) → (¬ Contains ids id) ⊎ (1 ≤ word) → All (λ k. get_or (get_or (contents_with contents id word value) k []) 0 0 ≡ get_or (get_or contents k []) 0 0) ids
links-contents_with contents ids id word value differ k d below =
    first_word-contents_with contents id word value (get_or ids k d)
    (elim differ [ inl absent ↦ inl (apart_from ids id absent k d below) | inr behind ↦ inr behind ])

pub IsFreeList-written : (contents : List (List ℕ)) (end from to : ℕ) (ids : List ℕ) (id word value : ℕ) → (¬ Contains ids id) ⊎ (1 ≤ word) → IsFreeList contents end from to ids → IsFreeList (contents_with contents id word value) end from to ids
IsFreeList-written contents end from to ids id word value differ old = record {
  within = old.within;
  distinct = old.distinct;
  linked = IsLinked-kept contents (contents_with contents id word value) end ids (links-contents_with contents ids id word value differ) old.linked;
}

IsDistinct-rest : (ids : List ℕ) → IsDistinct nat_eq ids → IsDistinct nat_eq (drop 1 ids)
unfolding IsDistinct
IsDistinct-rest [] distinct = distinct
IsDistinct-rest (id ∷ ids) distinct = distinct.1

IsLinked-rest : (contents : List (List ℕ)) (end : ℕ) (ids : List ℕ) → IsLinked contents end ids → IsLinked contents end (drop 1 ids)
IsLinked-rest contents end [] linked = linked
IsLinked-rest contents end (id ∷ ids) linked = linked.1

-- a list without its first number
pub IsFreeList-rest : (contents : List (List ℕ)) (end from to : ℕ) (ids : List ℕ) → IsFreeList contents end from to ids → IsFreeList contents end from to (drop 1 ids)
IsFreeList-rest contents end from to ids old = record {
  within = All-drop (λ id. (from ≤ id) × (id < to)) 1 ids old.within;
  distinct = IsDistinct-rest ids old.distinct;
  linked = IsLinked-rest contents end ids old.linked;
}

pub first_or-most : (ids : List ℕ) (from to end : ℕ) → to ≤ end → All (λ id. (from ≤ id) × (id < to)) ids → first_or ids end ≤ end
first_or-most [] from to end within all = omega arith
first_or-most (id ∷ ids) from to end within all = omega (arith, (All-head (λ id. (from ≤ id) × (id < to)) id ids all).1)

IsDistinct-cons : (id : ℕ) (ids : List ℕ) → ¬ Contains ids id → IsDistinct nat_eq ids → IsDistinct nat_eq (id ∷ ids)
unfolding IsDistinct
IsDistinct-cons id ids absent distinct = (different_by_test ids id (apart_from ids id absent), distinct)

-- a list with one more number in front, whose chunk links to the one that was first
pub IsFreeList-front : (contents : List (List ℕ)) (end from to : ℕ) (ids : List ℕ) (id : ℕ) → id < length contents → 0 < length (get_or contents id []) → (from ≤ id) × (id < to) → ¬ Contains ids id → IsFreeList contents end from to ids → IsFreeList (contents_with contents id 0 (first_or ids end)) end from to (id ∷ ids)
IsFreeList-front contents end from to ids id there some_words here absent old = record {
  within = All-cons (λ id. (from ≤ id) × (id < to)) id ids here old.within;
  distinct = IsDistinct-cons id ids absent old.distinct;
  linked = (
    ap (λ chunk. get_or chunk 0 0) (get_or-set_same contents id (set (get_or contents id []) 0 (first_or ids end)) [] there)
        ∙ get_or-set_same (get_or contents id []) 0 (first_or ids end) 0 some_words,
    IsLinked-kept contents (contents_with contents id 0 (first_or ids end)) end ids (links-contents_with contents ids id 0 (first_or ids end) (inl absent)) old.linked,
  );
}

-- ---- what each step keeps

-- there are at most as many chunks as of both sizes
pub count-most : (p : Pool) → IsPool p → p.count ≤ 131072
count-most p s = omega (arith, s.shape.extra_bounded, s.shape.chunks_bounded)

pub IsPool-with_word : (p : Pool) (id word value : ℕ) → IsPool p → id < p.count → value < 2 ^ 32 → IsHeld p id ⊎ (4 ≤ word) → IsPool (with_word p id word value)
IsPool-with_word p id word value s within fits link_kept = record {
  shape = s.shape;
  count_is = length-set p.contents id (set (get_or p.contents id []) word value) ∙ s.count_is;
  chunks = chunks-contents_with p id word value s within fits;
  free = IsFreeList-written p.contents p.count 0 p.first_count p.free id word value
      (elim link_kept [ inl held ↦ inl (absent-first p id held.1) | inr behind ↦ inr (omega arith) ]) s.free;
  extra_free = IsFreeList-written p.contents p.count p.first_count p.count p.extra_free id word value
      (elim link_kept [ inl held ↦ inl (absent-extra p id held.1) | inr behind ↦ inr (omega arith) ]) s.extra_free;
}

pub IsPool-taken_first : (p : Pool) → IsPool p → IsPool (record p { free = drop 1 p.free })
IsPool-taken_first p s = record {
  shape = s.shape;
  count_is = s.count_is;
  chunks = s.chunks;
  free = IsFreeList-rest p.contents p.count 0 p.first_count p.free s.free;
  extra_free = s.extra_free;
}

pub IsPool-taken_extra : (p : Pool) → IsPool p → IsPool (record p { extra_free = drop 1 p.extra_free })
IsPool-taken_extra p s = record {
  shape = s.shape;
  count_is = s.count_is;
  chunks = s.chunks;
  free = s.free;
  extra_free = IsFreeList-rest p.contents p.count p.first_count p.count p.extra_free s.extra_free;
}

-- a give of a chunk of each size
abbrev pub given_first : Pool → ℕ → Pool
given_first p id = record p { contents = contents_with p.contents id 0 (first_or p.free p.count); free = id ∷ p.free }

abbrev pub given_extra : Pool → ℕ → Pool
given_extra p id = record p { contents = contents_with p.contents id 0 (first_or p.extra_free p.count); extra_free = id ∷ p.extra_free }

abbrev given_by : Pool → ℕ → Bool → Pool
given_by p id first = record p {
  contents = contents_with p.contents id 0 (first_or (cond first p.free p.extra_free) p.count);
  free = cond first (id ∷ p.free) p.free;
  extra_free = cond first p.extra_free (id ∷ p.extra_free);
}

pub after_give-first : (p : Pool) (id : ℕ) → id < p.first_count → after_give p id ≡ given_first p id
after_give-first p id below = ap (given_by p id) (lt-ltb id p.first_count below)

pub after_give-extra : (p : Pool) (id : ℕ) → p.first_count ≤ id → after_give p id ≡ given_extra p id
after_give-extra p id from = ap (given_by p id) (le-ltb id p.first_count from)

module _ (p : Pool) (id : ℕ) (s : IsPool p) (held : IsHeld p id) where
  there : id < length p.contents
  there = subst (λ (n : ℕ). id < n) (sym s.count_is) held.0

  some_words : 0 < length (get_or p.contents id [])
  some_words = omega (arith, (s.chunks id held.0).length, words_in-some (shape_of p) id s.shape)

  pub IsPool-given_first : id < p.first_count → IsPool (given_first p id)
  IsPool-given_first below =
      let next : ℕ = first_or p.free p.count in
      let fits : next < 2 ^ 32 = omega (arith, count-most p s, first_or-most p.free 0 p.first_count p.count s.shape.first_within s.free.within) in
      record {
        shape = s.shape;
        count_is = length-set p.contents id (set (get_or p.contents id []) 0 next) ∙ s.count_is;
        chunks = chunks-contents_with p id 0 next s held.0 fits;
        free = IsFreeList-front p.contents p.count 0 p.first_count p.free id there some_words (omega arith, below) (absent-first p id held.1) s.free;
        extra_free = IsFreeList-written p.contents p.count p.first_count p.count p.extra_free id 0 next (inl (absent-extra p id held.1)) s.extra_free;
      }

  pub IsPool-given_extra : p.first_count ≤ id → IsPool (given_extra p id)
  IsPool-given_extra from =
      let next : ℕ = first_or p.extra_free p.count in
      let fits : next < 2 ^ 32 = omega (arith, count-most p s, first_or-most p.extra_free p.first_count p.count p.count (omega arith) s.extra_free.within) in
      record {
        shape = s.shape;
        count_is = length-set p.contents id (set (get_or p.contents id []) 0 next) ∙ s.count_is;
        chunks = chunks-contents_with p id 0 next s held.0 fits;
        free = IsFreeList-written p.contents p.count 0 p.first_count p.free id 0 next (inl (absent-first p id held.1)) s.free;
        extra_free = IsFreeList-front p.contents p.count p.first_count p.count p.extra_free id there some_words (from, held.0) (absent-extra p id held.1) s.extra_free;
      }

pub IsPool-after_give : (p : Pool) (id : ℕ) → IsPool p → IsHeld p id → IsPool (after_give p id)
IsPool-after_give p id s held = elim (cases_lt id p.first_count) [
  | inl below ↦ subst IsPool (sym (after_give-first p id below)) (IsPool-given_first p id s held below)
  | inr from ↦ subst IsPool (sym (after_give-extra p id from)) (IsPool-given_extra p id s held from)
]
