-- A `&` to the words of a block shows each of them. Assumes `Logic`.
use mathlib.Core.List.{List}
use Prim.Native.Nat.{ℕ, ◌+◌, ◌*◌}
use lib.ListN.{length}
use Rattle.chunk_pool.proofs.Common.{Ura, full_share, Lft, ffalse, froom, Logic, w32, u32, row, shared_of, uint_row_laws, Ptr, block_ptr, null_ptr, beside_shr_laws, said_shr_laws, elements_shared, elements_shr_laws, of_Lends, Lends, Lends-said, Lends-first, Lends-both, Lends-false, fit, words_type, words_own, words_lent}
use denote.Copied.{uint_Copied}
use denote.Shares.{shares_each}
use denote.Sharing.{ShrLaws, said}
use Rattle.chunk_pool.specs.contracts.block.Words as words
use Rattle.chunk_pool.proofs.block.Words.TheLaw.Statement.{statement}

words_laws : (p : Ptr) (items : List ℕ) (spare : ℕ) → ShrLaws (words_lent p items spare)
words_laws (block_ptr b o) items spare =
    beside_shr_laws (said (fit items spare)) (elements_shared u32 items b o) (said_shr_laws (fit items spare) tt) (elements_shr_laws u32 (uint_row_laws w32) items b o)
words_laws null_ptr items spare = said_shr_laws ffalse tt

Lends-words : {M : Type 1} {𝓤 : Ura M} (𝓛 : Logic 𝓤) (l : Lft) (p : Ptr) (items : List ℕ) (spare : ℕ) → Lends 𝓛 (words_own p items spare) (words_lent p items spare) l
Lends-words 𝓛 l (block_ptr b o) items spare =
    let run : Lends 𝓛 (row u32 full_share items b o) (elements_shared u32 items b o) l =
    λ κ ts inc sp. shares_each 𝓛 u32 (shared_of u32) l ((uint_Copied 𝓛 w32).shares full_share l) items κ ts b o inc sp in
    Lends-both 𝓛 (fit items spare) _ (said (fit items spare)) (elements_shared u32 items b o) l (Lends-said 𝓛 (fit items spare) tt l)
    (Lends-first 𝓛 (row u32 full_share items b o) (froom (words_type spare) b (length items * 4 + o)) (elements_shared u32 items b o) l run)
Lends-words 𝓛 l null_ptr items spare = Lends-false 𝓛 (said ffalse) l

pub shares : statement
shares = of_Lends words.struct words.the_codes words.the_heap words.the_lent (λ d p. words_laws d.at d.items d.spare) tt (λ M 𝓤 𝓛 d p. Lends-words 𝓛 (words.the_row).lives d.at d.items d.spare)
