use Rattle.chunk_pool.proofs.AddressLaws.{chunk_at-some, HasAddress-from_chunk_at, HasAddress-unique, place_of-aligned, place_of-bounded}
use Rattle.chunk_pool.proofs.ShapeLaws.{IsChunk-chunk_of, words_of-payload, bytes_of-aligned, bytes_of-first, first_bytes-start, words_of-same, place_of-same, first_bytes-same, chunk_at-same}
use Rattle.chunk_pool.proofs.laws.place_laws.Goals as goal

pub returns-clause-words : goal.returns-clause-words
returns-clause-words c p id sound within = (IsChunk-chunk_of p id sound within, words_of-payload p id sound within)

pub returns-clause-aligned : goal.returns-clause-aligned
returns-clause-aligned c p id sound = (place_of-aligned p id sound, bytes_of-aligned p id sound)

pub returns-clause-below_end : goal.returns-clause-below_end
returns-clause-below_end c = place_of-bounded

pub returns-clause-one_chunk : goal.returns-clause-one_chunk
returns-clause-one_chunk c = HasAddress-unique

pub returns-clause-found : goal.returns-clause-found
returns-clause-found c = chunk_at-some

pub returns-clause-finds : goal.returns-clause-finds
returns-clause-finds c = HasAddress-from_chunk_at

pub returns-clause-first : goal.returns-clause-first
returns-clause-first c = bytes_of-first

pub returns-clause-start : goal.returns-clause-start
returns-clause-start c = first_bytes-start

pub returns-clause-shape : goal.returns-clause-shape
returns-clause-shape c p q id address same =
    (words_of-same p q id same, place_of-same p q id same, first_bytes-same p q same, chunk_at-same p q address same)
