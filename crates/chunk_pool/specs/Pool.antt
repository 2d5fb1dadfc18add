-- A pool of chunks of two sizes and its two free lists, as a plain value.
use Rattle.std.specs.Prelude.{◌≡◌, ◌≢◌, ℕ, ◌+◌, ◌-◌, ◌*◌, ◌/◌, ◌%◌, ◌^◌, ◌<◌, ◌≤◌, ◌&&◌, Bool, true, false, List, [], ◌∷◌, ◌++◌, length, map, drop, replicate, Option, Some, None, if◌then◌else◌, nat_eq, nat_lt, nat_le, slice_index, slice_index_or, slice_set, All, Contains}
use Rattle.std.specs.List.{IsDistinct, range_with_len}
use Rattle.chunk_pool.specs.declared.shape.Class.{Class}
use Rattle.chunk_pool.specs.declared.shape.Class.TheVariants.{First, Extra}
use Rattle.chunk_pool.specs.declared.shape.Shape.{Shape}

-- a pool: the number of chunks, the number of those of the first size, the words of a chunk of each size, the words of
-- every chunk, and the free numbers of each size, the next to be taken first
pub record Pool : Type 0 where
  pub count : ℕ
  pub first_count : ℕ
  pub words : ℕ
  pub extra_words : ℕ
  pub contents : List (List ℕ)
  pub free : List ℕ
  pub extra_free : List ℕ

-- ---- the shape

-- the number of chunks of each size. It determines the places of the chunks, and only a new pool changes it.
abbrev pub shape_of : Pool → Shape
shape_of p = record { count = p.count; first_count = p.first_count; words = p.words; extra_words = p.extra_words }

-- the numbers of the first size come before those of the second
abbrev pub is_first : Shape → ℕ → Bool
is_first shape id = nat_lt id shape.first_count

-- the number of words of a chunk
unfoldable pub words_in : Shape → ℕ → ℕ
words_in shape id = if is_first shape id then shape.words else shape.extra_words

-- the number of words of all chunks of the first size
abbrev pub first_size : Shape → ℕ
first_size shape = shape.first_count * shape.words

-- the number of words before a chunk's first word
unfoldable pub start_in : Shape → ℕ → ℕ
start_in shape id =
    if is_first shape id then id * shape.words else first_size shape + (id - shape.first_count) * shape.extra_words

-- the number of words of all chunks
abbrev pub size_in : Shape → ℕ
size_in shape = first_size shape + (shape.count - shape.first_count) * shape.extra_words

-- the number of words of a chunk of a pool, and the number of words before its first word
abbrev pub words_of : Pool → ℕ → ℕ
words_of p id = words_in (shape_of p) id

abbrev pub start_of : Pool → ℕ → ℕ
start_of p id = start_in (shape_of p) id

-- ---- words

-- the words of a chunk
abbrev pub chunk_of : Pool → ℕ → List ℕ
chunk_of p id = slice_index_or p.contents id []

-- one word of a chunk
abbrev pub word_of : Pool → ℕ → ℕ → ℕ
word_of p id word = slice_index (chunk_of p id) word

-- the words of a chunk after its header of four words
abbrev pub payload_of : Pool → ℕ → List ℕ
payload_of p id = drop 4 (chunk_of p id)

-- the contents after one word of one chunk is written
abbrev pub contents_with : List (List ℕ) → ℕ → ℕ → ℕ → List (List ℕ)
contents_with contents id word value = slice_set contents id (slice_set (slice_index_or contents id []) word value)

-- the pool after one word of one chunk is written
abbrev pub with_word : Pool → ℕ → ℕ → ℕ → Pool
with_word p id word value = record p { contents = contents_with p.contents id word value }

-- every chunk other than this one keeps its words
abbrev pub KeepsOthers : Pool → Pool → ℕ → Type 0
KeepsOthers old new id = (other : ℕ) → other ≢ id → chunk_of new other ≡ chunk_of old other

-- every other word of this chunk stays the same
abbrev pub KeepsOtherWords : Pool → Pool → ℕ → ℕ → Type 0
KeepsOtherWords old new id word = (other : ℕ) → other ≢ word → word_of new id other ≡ word_of old id other

-- every payload keeps its words
abbrev pub KeepsPayloads : Pool → Pool → Type 0
KeepsPayloads old new = (other : ℕ) → payload_of new other ≡ payload_of old other

-- ---- free and held

-- the numbers of all free chunks, those of the first size first
abbrev pub all_free : Pool → List ℕ
all_free p = p.free ++ p.extra_free

-- the number of free chunks
abbrev pub free_count : Pool → ℕ
free_count p = length (all_free p)

-- the first pool with the free lists of the second
abbrev pub with_free_of : Pool → Pool → Pool
with_free_of p q = record p { free = q.free; extra_free = q.extra_free }

-- the first of these numbers, or the end mark if there is none
abbrev pub first_or : List ℕ → ℕ → ℕ
first_or [] end = end
first_or (id ∷ ids) end = id

-- the free chunks of the size of this chunk
abbrev pub free_beside : Pool → ℕ → List ℕ
free_beside p id = if is_first (shape_of p) id then p.free else p.extra_free

-- the pool after a chunk is given back: it is at the front of the free chunks of its size, and its first word is the
-- number that was first there, or the count
abbrev pub after_give : Pool → ℕ → Pool
after_give p id = record p {
  contents = contents_with p.contents id 0 (first_or (free_beside p id) p.count);
  free = if is_first (shape_of p) id then id ∷ p.free else p.free;
  extra_free = if is_first (shape_of p) id then p.extra_free else id ∷ p.extra_free;
}

-- the chunk is free
abbrev pub IsFree : Pool → ℕ → Type 0
IsFree p id = Contains (all_free p) id

-- the chunk is in the pool and isn't free
abbrev pub IsHeld : Pool → ℕ → Type 0
IsHeld p id = (id < p.count) × ¬ IsFree p id

-- ---- the invariant of a pool

-- the chunk has this number of words, each of 32 bits
pub record IsChunk (words : ℕ) (chunk : List ℕ) : Type 0 where
  pub length : length chunk ≡ words
  pub fits : All (λ word. word < 2 ^ 32) chunk

-- the first word of each of these chunks is the number of the next of them, and that of the last is the end mark
abbrev pub IsLinked : List (List ℕ) → ℕ → List ℕ → Type 0
IsLinked contents end [] = Unit {0}
IsLinked contents end (id ∷ ids) = (slice_index (slice_index_or contents id []) 0 ≡ first_or ids end) × IsLinked contents end ids

-- a list of distinct numbers in a range, threaded through the first words of its chunks
pub record IsFreeList (contents : List (List ℕ)) (end from to : ℕ) (ids : List ℕ) : Type 0 where
  pub within : All (λ id. (from ≤ id) × (id < to)) ids
  pub distinct : IsDistinct nat_eq ids
  pub linked : IsLinked contents end ids

-- 1 to 65,536 chunks of the first size, a multiple of 4 words from 16 to 16,384, and at most 65,536 of the second, a
-- multiple of 4 words from 8 to 16,384; together at most 16,777,216 words
pub record IsShape (shape : Shape) : Type 0 where
  pub some_chunks : 1 ≤ shape.first_count
  pub chunks_bounded : shape.first_count ≤ 65536
  pub first_within : shape.first_count ≤ shape.count
  pub extra_bounded : shape.count ≤ shape.first_count + 65536
  pub header_fits : 16 ≤ shape.words
  pub extra_header_fits : 8 ≤ shape.extra_words
  pub words_bounded : shape.words ≤ 16384
  pub extra_words_bounded : shape.extra_words ≤ 16384
  pub aligned : shape.words % 4 ≡ 0
  pub extra_aligned : shape.extra_words % 4 ≡ 0
  pub size_bounded : size_in shape ≤ 16777216

-- the invariant of a pool: its shape is possible, each chunk has its words, and each free list is threaded through free
-- chunks of its size
pub record IsPool (p : Pool) : Type 0 where
  pub shape : IsShape (shape_of p)
  pub count_is : length p.contents ≡ p.count
  pub chunks : (id : ℕ) → id < p.count → IsChunk (words_of p id) (chunk_of p id)
  -- each free list has numbers of its size
  pub free : IsFreeList p.contents p.count 0 p.first_count p.free
  pub extra_free : IsFreeList p.contents p.count p.first_count p.count p.extra_free

-- ---- the first pool

-- the shape with these numbers of chunks of these numbers of words, first size and second
abbrev pub start_shape : ℕ → ℕ → ℕ → ℕ → Shape
start_shape chunks words extra extra_words =
    record { count = chunks + extra; first_count = chunks; words = words; extra_words = extra_words }

-- the next number after a chunk's, or the count after the last of its size
abbrev pub next_in : Shape → ℕ → ℕ
next_in shape id = if nat_eq (id + 1) shape.first_count then shape.count else id + 1

-- all words are 0 except the first, which is the next chunk's number
abbrev pub start_chunk : Shape → ℕ → List ℕ
start_chunk shape id = next_in shape id ∷ replicate (words_in shape id - 1) 0

-- all chunks are free, in the order of their numbers
abbrev pub start_pool : ℕ → ℕ → ℕ → ℕ → Pool
start_pool chunks words extra extra_words = record {
  count = chunks + extra;
  first_count = chunks;
  words = words;
  extra_words = extra_words;
  contents = map (start_chunk (start_shape chunks words extra extra_words)) (range_with_len 0 (chunks + extra));
  free = range_with_len 0 chunks;
  extra_free = range_with_len chunks extra;
}

-- ---- addresses

-- the address of the first byte of chunk 0
abbrev pub first_place : ℕ
first_place = 0x8000_0000

-- the size of a chunk in bytes
abbrev pub bytes_of : Pool → ℕ → ℕ
bytes_of p id = 4 * words_of p id

-- the size of a chunk of the first size in bytes
unfoldable pub first_bytes_in : Shape → ℕ
first_bytes_in shape = 4 * shape.words

abbrev pub first_bytes : Pool → ℕ
first_bytes p = first_bytes_in (shape_of p)

-- the address of the first byte of a chunk
abbrev pub place_of : Pool → ℕ → ℕ
place_of p id = first_place + 4 * start_of p id

-- the address just past a chunk's last byte, where a stack in it begins
abbrev pub end_of : Pool → ℕ → ℕ
end_of p id = place_of p id + bytes_of p id

-- the address of the first byte of a chunk's payload, and the size of the payload in bytes
abbrev pub payload_place_of : Pool → ℕ → ℕ
payload_place_of p id = place_of p id + 16

abbrev pub payload_bytes_of : Pool → ℕ → ℕ
payload_bytes_of p id = bytes_of p id - 16

-- the chunk has a byte at this address
abbrev pub HasAddress : Pool → ℕ → ℕ → Type 0
HasAddress p id address = (id < p.count) × (place_of p id ≤ address) × (address < end_of p id)

-- the address just past the chunks of the first size, and that just past all chunks
abbrev pub first_end : Shape → ℕ
first_end shape = first_place + 4 * first_size shape

abbrev pub last_end : Shape → ℕ
last_end shape = first_place + 4 * size_in shape

-- the number of the chunk that has a byte at this address, if there is one
unfoldable pub chunk_in : Shape → ℕ → Option ℕ
chunk_in shape address =
    if nat_lt address first_place then None
    else if nat_lt address (first_end shape) then Some ((address - first_place) / (4 * shape.words))
    else if nat_lt address (last_end shape) then Some (shape.first_count + (address - first_end shape) / (4 * shape.extra_words))
    else None

abbrev pub chunk_at : Pool → ℕ → Option ℕ
chunk_at p address = chunk_in (shape_of p) address

-- ---- what a need of n bytes takes

-- the chunk's payload has at least as many bytes as the need
abbrev pub fits : Pool → ℕ → ℕ → Bool
fits p need id = nat_le need (payload_bytes_of p id)

-- no free chunk fits the need
abbrev pub FitsNone : Pool → ℕ → Type 0
FitsNone p need = All (λ id. fits p need id ≡ false) (all_free p)

-- a chunk, and the pool after it was taken from its free list
pub record Taken : Type 0 where
  pub chunk : ℕ
  pub pool : Pool

-- chunks of this number of words, of which this number are free, include one that fits the need
abbrev pub offers : ℕ → ℕ → ℕ → Bool
offers words free need = nat_lt 0 free && nat_le need (4 * words - 16)

-- the size from which a need is taken. The tests are: a free chunk of the first size fits, a free chunk of the second
-- size fits, and a payload of the first is no larger.
abbrev pub choice : Bool → Bool → Bool → Option Class
choice true false no_larger = Some First
choice true true true = Some First
choice true true false = Some Extra
choice false true no_larger = Some Extra
choice false false no_larger = None

-- the size from which a need is taken, of a pool
abbrev pub class_for : Pool → ℕ → Option Class
class_for p need =
    choice (offers p.words (length p.free) need) (offers p.extra_words (length p.extra_free) need) (nat_le p.words p.extra_words)

-- the chunk taken from a size: its first free number
abbrev pub taken_of : Pool → Option Class → Option Taken
taken_of p None = None
taken_of p (Some First) = Some (record { chunk = first_or p.free p.count; pool = record p { free = drop 1 p.free } })
taken_of p (Some Extra) =
    Some (record { chunk = first_or p.extra_free p.count; pool = record p { extra_free = drop 1 p.extra_free } })

-- what a need takes: a chunk of the smaller size with a free chunk that fits, or of the first if both are equal. It is
-- None if no free chunk fits.
unfoldable pub taken_for : Pool → ℕ → Option Taken
taken_for p need = taken_of p (class_for p need)

-- the result of a take and the pool after it are what the need takes
abbrev pub IsTaken : Option Taken → Option ℕ → Pool → Pool → Type 0
IsTaken None answer old new = (answer ≡ None) × (new ≡ old)
IsTaken (Some taken) answer old new = (answer ≡ Some taken.chunk) × (new ≡ taken.pool)
