-- Chains that are read by the headers, where the chunks have their words.
use Rattle.thread_core.proofs.Common.{◌≡◌, ℕ, zero, suc, List, ◌∷◌, Option, refl, ap, ◌∙◌, slice_index, AllByRecursion, Pool, shape_of, chunk_of, chunk_at, chunk_at-same, chunk_below, chain_from}
use Rattle.std.specs.Option.{unwrap_or}

pub same_below : (pool after : Pool) (chunk : ℕ) → shape_of after ≡ shape_of pool → chunk_of after chunk ≡ chunk_of pool chunk → chunk_below after chunk ≡ chunk_below pool chunk
same_below pool after chunk shape kept =
    ap (λ (row : List ℕ). unwrap_or (chunk_at after (slice_index row 0)) chunk) kept
    ∙ ap (λ (found : Option ℕ). unwrap_or found chunk) (chunk_at-same pool after (slice_index (chunk_of pool chunk) 0) shape)

pub chain_stays : (pool after : Pool) (chunk depth : ℕ) → shape_of after ≡ shape_of pool → AllByRecursion (λ c. chunk_of after c ≡ chunk_of pool c) (chain_from pool chunk depth) → chain_from after chunk depth ≡ chain_from pool chunk depth
chain_stays pool after chunk zero shape kept = refl
chain_stays pool after chunk (suc n) shape kept =
    ap (λ (rest : List ℕ). chunk ∷ rest) (ap (λ (k : ℕ). chain_from after k n) (same_below pool after chunk shape kept.0) ∙ chain_stays pool after (chunk_below pool chunk) n shape kept.1)
