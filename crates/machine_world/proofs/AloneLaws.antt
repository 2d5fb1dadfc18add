-- A step of a thread leaves each chunk that is neither its own nor free nor accessed.
use Rattle.machine_world.proofs.Common.{◌≡◌, ◌≢◌, ℕ, ◌+◌, ◌%◌, ◌/◌, ◌^◌, ◌<◌, ◌≤◌, Bool, List, [], ◌∷◌, Option, Some, refl, sym, ap, subst, ◌∙◌, arith, cond, ⊎_elim, cases_eq, eq-eqb, Pool, chunk_of, all_free, taken_for-leaves, taken_for-keeps, KeepsOthers-with_word, KeepsOthers-after_give, with_stored, with_half, with_word, Stored, Nothing, Byte, Half, Word, read, Areas, Spot, InPayload, spot_of, is_writable, with_byte_on, with_byte, t1, Local, with_header, machine_of, local_step, copies, copies_in, IsApart, KeepsChunk}
use Rattle.chunk_pool.specs.Pool.{with_word as with_pool_word}
use Rattle.rv_machine.specs.Access.{Access, IsAccessed, Fills, next_access}
use Rattle.rv_machine.specs.Rows as rows
use Rattle.rv_machine.proofs.AccessLaws.{Fills-outcome}
use Rattle.machine_world.proofs.AreaLaws.{spot_of-with_byte}
use Rattle.machine_world.proofs.LocalCases.{on_local}
use Rattle.machine_world.proofs.HeldLaws.{copies-cons}

-- ---- bytes

chunk_of-with_byte_on : (areas : Areas) (spot : Option Spot) (b chunk : ℕ) → ((offset : ℕ) → spot ≢ Some (InPayload chunk offset)) → chunk_of (with_byte_on areas spot b).pool chunk ≡ chunk_of areas.pool chunk
chunk_of-with_byte_on areas (Some (InPayload c offset)) b chunk away = ⊎_elim
    (λ (same : chunk ≡ c). absurd (away offset (ap (λ (k : ℕ). Some (InPayload k offset)) (sym same))))
    (λ (apart : chunk ≢ c). KeepsOthers-with_word areas.pool c (offset / 4) _ chunk apart)
    (cases_eq chunk c)
chunk_of-with_byte_on areas _ b chunk away = refl

-- no spot of so many bytes from an address on lies in the chunk
abbrev Away : Areas → ℕ → ℕ → ℕ → Type 0
Away areas chunk a n = (at offset : ℕ) → (a ≤ at) × (at < a + n) → spot_of areas at ≢ Some (InPayload chunk offset)

kept_byte : (areas : Areas) (chunk a b : ℕ) → Away areas chunk a 1 → chunk_of (with_byte areas a b).pool chunk ≡ chunk_of areas.pool chunk
kept_byte areas chunk a b away = chunk_of-with_byte_on areas (spot_of areas a) b chunk (λ offset. away a offset (omega arith, omega arith))

Away-with_byte : (areas : Areas) (chunk a n c b : ℕ) → Away areas chunk a n → Away (with_byte areas c b) chunk a n
Away-with_byte areas chunk a n c b away at offset inside there = away at offset inside (sym (spot_of-with_byte areas c b at) ∙ there)

kept_half : (areas : Areas) (chunk a h : ℕ) → Away areas chunk a 2 → chunk_of (with_half with_byte areas a h).pool chunk ≡ chunk_of areas.pool chunk
unfolding with_half
kept_half areas chunk a h away =
    kept_byte (with_byte areas a (h % 2 ^ 8)) chunk (a + 1) (h / 2 ^ 8)
    (λ at offset inside. Away-with_byte areas chunk a 2 a (h % 2 ^ 8) away at offset (omega (arith, inside.0), omega (arith, inside.1)))
    ∙ kept_byte areas chunk a (h % 2 ^ 8) (λ at offset inside. away at offset (inside.0, omega (arith, inside.1)))

Away-with_half : (areas : Areas) (chunk a n c h : ℕ) → Away areas chunk a n → Away (with_half with_byte areas c h) chunk a n
unfolding with_half
Away-with_half areas chunk a n c h away =
    Away-with_byte (with_byte areas c (h % 2 ^ 8)) chunk a n (c + 1) (h / 2 ^ 8) (Away-with_byte areas chunk a n c (h % 2 ^ 8) away)

kept_word : (areas : Areas) (chunk a w : ℕ) → Away areas chunk a 4 → chunk_of (with_word with_byte areas a w).pool chunk ≡ chunk_of areas.pool chunk
unfolding with_word
kept_word areas chunk a w away =
    kept_half (with_half with_byte areas a (w % 2 ^ 16)) chunk (a + 2) (w / 2 ^ 16)
    (λ at offset inside. Away-with_half areas chunk a 4 a (w % 2 ^ 16) away at offset (omega (arith, inside.0), omega (arith, inside.1)))
    ∙ kept_half areas chunk a (w % 2 ^ 16) (λ at offset inside. away at offset (inside.0, omega (arith, inside.1)))

-- the access of a step has no byte in the chunk
abbrev Unaccessed : Option Access → Areas → ℕ → Type 0
Unaccessed accessed areas chunk = (at offset : ℕ) → IsAccessed accessed at → spot_of areas at ≢ Some (InPayload chunk offset)

kept_stored : (l : Local) (chunk pc : ℕ) (x : List ℕ) (stored : Stored) (accessed : Option Access) → Fills accessed (is_writable l.areas) (rows.Goes pc x stored) → Unaccessed accessed l.areas chunk →
    chunk_of (with_stored with_byte stored l.areas).pool chunk ≡ chunk_of l.areas.pool chunk
kept_stored l chunk pc x Nothing accessed fills out = refl
kept_stored l chunk pc x (Byte a v) accessed fills out = kept_byte l.areas chunk a v (subst (λ a. Unaccessed a l.areas chunk) fills.0 out)
kept_stored l chunk pc x (Half a v) accessed fills out = kept_half l.areas chunk a v (subst (λ a. Unaccessed a l.areas chunk) fills.0 out)
kept_stored l chunk pc x (Word a v) accessed fills out = kept_word l.areas chunk a v (subst (λ a. Unaccessed a l.areas chunk) fills.0 out)

-- ---- calls

not_first : (chunk first : ℕ) (rest : List ℕ) → copies chunk (first ∷ rest) ≡ 0 → chunk ≢ first
not_first chunk first rest none same =
    let one : copies chunk (first ∷ rest) ≡ 1 + copies chunk rest = copies-cons chunk first rest ∙ ap (λ (b : Bool). cond b 1 0 + copies chunk rest) (eq-eqb first chunk (sym same)) in
    omega arith

pub chunk_of-with_header : (p : Pool) (c a b chunk : ℕ) → chunk ≢ c → chunk_of (with_header p c a b) chunk ≡ chunk_of p chunk
chunk_of-with_header p c a b chunk apart = KeepsOthers-with_word (with_pool_word p c 0 a) c 1 b chunk apart ∙ KeepsOthers-with_word p c 0 a chunk apart

pub KeepsChunk-step : (code : List ℕ) (l : Local) (chunk : ℕ) → IsApart code l chunk → KeepsChunk chunk l (local_step code l)
KeepsChunk-step code l chunk apart =
    let none : copies_in chunk l ≡ 0 = apart.elsewhere in
    let chain : copies chunk l.core.chain ≡ 0 = omega arith in
    on_local code l (KeepsChunk chunk l) (record {
      goes = λ pc x stored e. kept_stored l chunk pc x stored (next_access code (machine_of l)) (subst (Fills (next_access code (machine_of l)) (is_writable l.areas)) e (Fills-outcome code (machine_of l))) apart.unaccessed;
      links = λ taken some.
          let free : copies chunk (taken.chunk ∷ all_free taken.pool) ≡ 0 = omega (arith, none, taken_for-leaves l.areas.pool (read l.core.x t1) taken some chunk) in
          chunk_of-with_header taken.pool taken.chunk _ _ chunk (not_first chunk taken.chunk (all_free taken.pool) free)
          ∙ ap (λ (p : Pool). chunk_of p chunk) (taken_for-keeps l.areas.pool (read l.core.x t1) taken some);
      unlinks = λ given left is. KeepsOthers-after_give l.areas.pool given chunk (not_first chunk given left (sym (ap (copies chunk) is) ∙ chain));
      starts = refl;
      calls = λ number call some. refl;
      ends = λ last is. KeepsOthers-after_give l.areas.pool last chunk (not_first chunk last [] (sym (ap (copies chunk) is) ∙ chain));
      traps = λ kind. tt;
      no_room = tt;
      wrong = tt;
    })
