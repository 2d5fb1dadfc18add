-- How a pool is kept in its region: the chunks side by side, and the free lists through the first words of the free
-- chunks.
use Rattle.std.specs.Prelude.{◌≡◌, ℕ, zero, suc, List, [], ◌∷◌, length, map, take, drop, slice_index}
use Rattle.std.specs.List.{range_with_len}
use Rattle.chunk_pool.specs.declared.pool.ChunkPool.TheInside.{Inside}
use Rattle.chunk_pool.specs.declared.shape.Shape.{Shape}
use Rattle.chunk_pool.specs.Pool.{Pool, first_or, words_in, start_in, size_in, IsPool}

-- the words of a chunk in a region
abbrev pub chunk_words : Shape → List ℕ → ℕ → List ℕ
chunk_words shape region id = take (words_in shape id) (drop (start_in shape id) region)

-- the chunks of a region
abbrev pub chunks_in : Shape → List ℕ → List (List ℕ)
chunks_in shape region = map (chunk_words shape region) (range_with_len 0 shape.count)

-- a number of chunk numbers from the first on, each the first word of the chunk before it
abbrev pub followed : Shape → List ℕ → ℕ → ℕ → List ℕ
followed shape region first zero = []
followed shape region first (suc more) = first ∷ followed shape region (slice_index region (start_in shape first)) more

abbrev pub pool_of : Inside → Pool
pool_of a = record {
  count = a.shape.count;
  first_count = a.shape.first_count;
  words = a.shape.words;
  extra_words = a.shape.extra_words;
  contents = chunks_in a.shape a.region;
  free = followed a.shape a.region a.first a.free;
  extra_free = followed a.shape a.region a.extra_first a.extra_free;
}

-- the pool meets its invariant, the region has exactly its words, and each first number is that of its free list
pub record IsKept (a : Inside) : Type 0 where
  pub pool : IsPool (pool_of a)
  pub size : length a.region ≡ size_in a.shape
  pub first : a.first ≡ first_or (followed a.shape a.region a.first a.free) a.shape.count
  pub extra_first : a.extra_first ≡ first_or (followed a.shape a.region a.extra_first a.extra_free) a.shape.count
