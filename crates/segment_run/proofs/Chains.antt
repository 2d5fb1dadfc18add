-- The chain that the headers of chunks name, and what keeps it.
use Rattle.segment_run.proofs.Common.{◌≡◌, ℕ, zero, suc, ◌+◌, ◌/◌, ◌%◌, ◌^◌, ◌<◌, ◌≤◌, List, ◌∷◌, length, Option, Some, refl, ap, ◌∙◌, arith, cond, Bool, nat_eq, eq-eqb, Pool, payload_place_of, IsPool, shape_of, words_of, chunk_at, Stored, Nothing, Byte, Half, Word, with_half, with_word, with_stored, TellsWords, Areas, Spot, InPayload, spot_of, with_byte_on, with_byte, copies, saved_tp, IsSpot, IsSpot-spot_of, IsPool-with_byte, copies-cons, word_of-other, chunk_below, chain_from, chunk_at-same, chunk_at-some}
use Rattle.rv_machine.specs.Rows as rows
use Rattle.std.specs.Option.{unwrap_or}

-- ---- what headers name

pub chunk_below-of : (p : Pool) (chunk next : ℕ) → next < p.count → 4 < words_of p next → saved_tp p chunk ≡ payload_place_of p next → chunk_below p chunk ≡ next
chunk_below-of p chunk next within header named =
    ap (λ (address : ℕ). unwrap_or (chunk_at p address) chunk) named
    ∙ ap (λ (found : Option ℕ). unwrap_or found chunk) (chunk_at-some p next (payload_place_of p next) (within, omega arith, omega (arith, header)))

pub length-chain_from : (p : Pool) (chunk n : ℕ) → length (chain_from p chunk n) ≡ n
length-chain_from p chunk zero = refl
length-chain_from p chunk (suc n) = ap suc (length-chain_from p (chunk_below p chunk) n)

-- ---- what keeps it

-- pools of one shape, with the same saved tp in each chunk of a chain, have the same chain
pub chain_from-kept : (p q : Pool) (chunk n : ℕ) → shape_of q ≡ shape_of p → ((k : ℕ) → 1 ≤ copies k (chain_from p chunk n) → saved_tp q k ≡ saved_tp p k) →
    chain_from q chunk n ≡ chain_from p chunk n
chain_from-kept p q chunk zero same saved = refl
chain_from-kept p q chunk (suc n) same saved =
    let rest = chain_from p (chunk_below p chunk) n in
    let one : ◌≡◌ {A = ℕ} (cond (nat_eq chunk chunk) 1 0) 1 = ap (λ (b : Bool). cond b 1 0) (eq-eqb chunk chunk refl) in
    let first : saved_tp q chunk ≡ saved_tp p chunk = saved chunk (omega (arith, copies-cons chunk chunk rest, one)) in
    let below : chunk_below q chunk ≡ chunk_below p chunk =
    ap (λ (address : ℕ). unwrap_or (chunk_at q address) chunk) first ∙ ap (λ (found : Option ℕ). unwrap_or found chunk) (chunk_at-same p q (saved_tp p chunk) same) in
    ap (λ (chain : List ℕ). chunk ∷ chain)
    (ap (λ (k : ℕ). chain_from q k n) below
    ∙ chain_from-kept p q (chunk_below p chunk) n same (λ k there. saved k (omega (arith, copies-cons k chunk rest, there))))

-- ---- a store changes no header

saved_tp-with_byte_on : (areas : Areas) (address b chunk : ℕ) (spot : Option Spot) → IsSpot areas address spot → saved_tp (with_byte_on areas spot b).pool chunk ≡ saved_tp areas.pool chunk
saved_tp-with_byte_on areas address b chunk (Some (InPayload there offset)) is =
    word_of-other areas.pool there (offset / 4) _ chunk 0 (λ same first. omega (arith, is.1, first))
saved_tp-with_byte_on areas address b chunk _ is = refl

saved_tp-with_byte : (areas : Areas) (a b chunk : ℕ) → IsPool areas.pool → saved_tp (with_byte areas a b).pool chunk ≡ saved_tp areas.pool chunk
saved_tp-with_byte areas a b chunk sound = saved_tp-with_byte_on areas a b chunk (spot_of areas a) (IsSpot-spot_of areas a sound)

IsPool-with_half : (areas : Areas) (a h : ℕ) → IsPool areas.pool → h < 2 ^ 16 → IsPool (with_half with_byte areas a h).pool
unfolding with_half
IsPool-with_half areas a h sound fits =
    IsPool-with_byte (with_byte areas a (h % 2 ^ 8)) (a + 1) (h / 2 ^ 8) (IsPool-with_byte areas a (h % 2 ^ 8) sound (omega arith)) (omega arith)

saved_tp-with_half : (areas : Areas) (a h chunk : ℕ) → IsPool areas.pool → h < 2 ^ 16 → saved_tp (with_half with_byte areas a h).pool chunk ≡ saved_tp areas.pool chunk
unfolding with_half
saved_tp-with_half areas a h chunk sound fits =
    saved_tp-with_byte (with_byte areas a (h % 2 ^ 8)) (a + 1) (h / 2 ^ 8) chunk (IsPool-with_byte areas a (h % 2 ^ 8) sound (omega arith))
    ∙ saved_tp-with_byte areas a (h % 2 ^ 8) chunk sound

saved_tp-with_word : (areas : Areas) (a w chunk : ℕ) → IsPool areas.pool → w < 2 ^ 32 → saved_tp (with_word with_byte areas a w).pool chunk ≡ saved_tp areas.pool chunk
unfolding with_word
saved_tp-with_word areas a w chunk sound fits =
    saved_tp-with_half (with_half with_byte areas a (w % 2 ^ 16)) (a + 2) (w / 2 ^ 16) chunk (IsPool-with_half areas a (w % 2 ^ 16) sound (omega arith)) (omega arith)
    ∙ saved_tp-with_half areas a (w % 2 ^ 16) chunk sound (omega arith)

pub saved_tp-stored : (areas : Areas) (pc chunk : ℕ) (x : List ℕ) (stored : Stored) → IsPool areas.pool → TellsWords (rows.Goes pc x stored) → saved_tp (with_stored with_byte stored areas).pool chunk ≡ saved_tp areas.pool chunk
saved_tp-stored areas pc chunk x Nothing sound told = refl
saved_tp-stored areas pc chunk x (Byte a b) sound told = saved_tp-with_byte areas a b chunk sound
saved_tp-stored areas pc chunk x (Half a h) sound told = saved_tp-with_half areas a h chunk sound told.1
saved_tp-stored areas pc chunk x (Word a w) sound told = saved_tp-with_word areas a w chunk sound told.1

-- a store leaves the chain
pub chain_from-stored : (areas : Areas) (pc chunk n : ℕ) (x : List ℕ) (stored : Stored) → IsPool areas.pool → TellsWords (rows.Goes pc x stored) →
    shape_of (with_stored with_byte stored areas).pool ≡ shape_of areas.pool → chain_from (with_stored with_byte stored areas).pool chunk n ≡ chain_from areas.pool chunk n
chain_from-stored areas pc chunk n x stored sound told same =
    chain_from-kept areas.pool (with_stored with_byte stored areas).pool chunk n same (λ k there. saved_tp-stored areas pc k x stored sound told)
