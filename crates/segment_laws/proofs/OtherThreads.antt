-- The threads that don't run keep the words of their chunks.
use Rattle.segment_laws.proofs.Common.{◌≡◌, ◌≢◌, ℕ, ◌+◌, ◌<◌, ◌≤◌, Bool, true, false, nat_eq, ltb, not, List, [], ◌∷◌, ◌++◌, Some, refl, sym, ap, ◌∙◌, arith, cond, ⊎_elim, AllByRecursion, cond_both, cases_eq, cond-true, cond-false, eq-eqb, ne_eqb, eqb-true, sum_by-cons, Pool, Taken, chunk_of, taken_for, all_free, taken_for-leaves, taken_for-keeps, IsCounted, copies_in, copies, with_header, Thread, World, first_with, thread_of, replaced, without, local_in, chunk_of-with_header}
use Rattle.machine_world.specs.Chains.{held_copies}

-- ---- chunks

pub held_one : (chunk number : ℕ) (threads : List Thread) (t : Thread) → first_with number threads ≡ Some t → copies chunk t.core.chain ≤ held_copies chunk threads
held_one chunk number [] t found = absurd cc
held_one chunk number (u ∷ us) t found = ⊎_elim
    (λ (same : u.number ≡ number).
    let here : Some u ≡ Some t = sym (cond-true (nat_eq u.number number) (Some u) (first_with number us) (eq-eqb u.number number same)) ∙ found in
    let equal : u ≡ t = cc in
    let chain : copies chunk u.core.chain ≡ copies chunk t.core.chain = ap (λ (v : Thread). copies chunk v.core.chain) equal in
    omega (arith, chain))
    (λ apart. let rest = held_one chunk number us t (sym (cond-false (nat_eq u.number number) (Some u) (first_with number us) (ne_eqb u.number number apart)) ∙ found) in omega (arith, rest))
    (cases_eq u.number number)

pub held_two : (chunk one other : ℕ) (threads : List Thread) (t v : Thread) → (one ≡ other → ⊥) → first_with one threads ≡ Some t → first_with other threads ≡ Some v → copies chunk t.core.chain + copies chunk v.core.chain ≤ held_copies chunk threads
held_two chunk one other [] t v apart found too = absurd cc
held_two chunk one other (u ∷ us) t v apart found too = ⊎_elim
    (λ (same : u.number ≡ one).
    let here : Some u ≡ Some t = sym (cond-true (nat_eq u.number one) (Some u) (first_with one us) (eq-eqb u.number one same)) ∙ found in
    let equal : u ≡ t = cc in
    let chain : copies chunk u.core.chain ≡ copies chunk t.core.chain = ap (λ (w : Thread). copies chunk w.core.chain) equal in
    let later : first_with other us ≡ Some v = sym (cond-false (nat_eq u.number other) (Some u) (first_with other us) (ne_eqb u.number other (λ e. apart (sym same ∙ e)))) ∙ too in
    let rest = held_one chunk other us v later in
    omega (arith, chain, rest))
    (λ differ.
    let first : first_with one us ≡ Some t = sym (cond-false (nat_eq u.number one) (Some u) (first_with one us) (ne_eqb u.number one differ)) ∙ found in
    ⊎_elim
    (λ (same : u.number ≡ other).
    let here : Some u ≡ Some v = sym (cond-true (nat_eq u.number other) (Some u) (first_with other us) (eq-eqb u.number other same)) ∙ too in
    let equal : u ≡ v = cc in
    let chain : copies chunk u.core.chain ≡ copies chunk v.core.chain = ap (λ (w : Thread). copies chunk w.core.chain) equal in
    let rest = held_one chunk one us t first in
    omega (arith, chain, rest))
    (λ differs. let rest = held_two chunk one other us t v apart first (sym (cond-false (nat_eq u.number other) (Some u) (first_with other us) (ne_eqb u.number other differs)) ∙ too) in omega (arith, rest))
    (cases_eq u.number other))
    (cases_eq u.number one)

-- what holds of each chunk that is in a chain holds of all of it
pub each_chunk : (P : ℕ → Type 0) (chain : List ℕ) → ((chunk : ℕ) → 0 < copies chunk chain → P chunk) → AllByRecursion P chain
each_chunk P [] each = tt
each_chunk P (chunk ∷ chain) each = (
  each chunk (let first = copies_cons chunk chunk chain in let one : ◌≡◌ {A = ℕ} (cond (nat_eq chunk chunk) 1 0) 1 = cond-true (nat_eq chunk chunk) 1 0 (eq-eqb chunk chunk refl) in omega (arith, first, one)),
  each_chunk P chain (λ other some. each other (let first = copies_cons other chunk chain in omega (arith, first, some))),
)
  where
    copies_cons : (chunk first : ℕ) (chain : List ℕ) → copies chunk (first ∷ chain) ≡ cond (nat_eq first chunk) 1 0 + copies chunk chain
    copies_cons chunk first chain = sum_by-cons (λ (other : ℕ). cond (nat_eq other chunk) 1 0) first chain

pub at_most_one : (b : Bool) → ◌≤◌ (cond b 1 0) 1
at_most_one true = omega arith
at_most_one false = omega arith

pub segment_keeps : (w : World) (number other : ℕ) (t o : Thread) (after : Pool) → IsCounted w → thread_of w number ≡ Some t → thread_of w other ≡ Some o → other ≢ number →
    ((chunk : ℕ) → copies_in chunk (local_in w t) ≡ 0 → chunk_of after chunk ≡ chunk_of w.areas.pool chunk) → AllByRecursion (λ chunk. chunk_of after chunk ≡ chunk_of w.areas.pool chunk) o.core.chain
segment_keeps w number other t o after counted found too apart kept =
    each_chunk (λ chunk. chunk_of after chunk ≡ chunk_of w.areas.pool chunk) o.core.chain (λ chunk some.
    let held = held_two chunk number other w.threads t o (λ e. apart (sym e)) found too in
    let all = counted.partition chunk in
    let most = at_most_one (ltb chunk w.areas.pool.count) in
    kept chunk (omega (arith, held, all, most, some)))

-- a chunk that was taken was free
pub taken_free : (p : Pool) (need : ℕ) (taken : Taken) → taken_for p need ≡ Some taken → 0 < copies taken.chunk (all_free p)
taken_free p need taken e =
    let left = taken_for-leaves p need taken e taken.chunk in
    let first : copies taken.chunk (taken.chunk ∷ all_free taken.pool) ≡ cond (nat_eq taken.chunk taken.chunk) 1 0 + copies taken.chunk (all_free taken.pool) = sum_by-cons (λ (other : ℕ). cond (nat_eq other taken.chunk) 1 0) taken.chunk (all_free taken.pool) in
    let one : ◌≡◌ {A = ℕ} (cond (nat_eq taken.chunk taken.chunk) 1 0) 1 = cond-true (nat_eq taken.chunk taken.chunk) 1 0 (eq-eqb taken.chunk taken.chunk refl) in
    omega (arith, left, first, one)

pub start_keeps : (w : World) (other need tp_now sp_now : ℕ) (o : Thread) (taken : Taken) → IsCounted w → thread_of w other ≡ Some o → taken_for w.areas.pool need ≡ Some taken →
    AllByRecursion (λ chunk. chunk_of (with_header taken.pool taken.chunk tp_now sp_now) chunk ≡ chunk_of w.areas.pool chunk) o.core.chain
start_keeps w other need tp_now sp_now o taken counted found e =
    each_chunk (λ chunk. chunk_of (with_header taken.pool taken.chunk tp_now sp_now) chunk ≡ chunk_of w.areas.pool chunk) o.core.chain (λ chunk some.
    chunk_of-with_header taken.pool taken.chunk tp_now sp_now chunk
    (λ (same : chunk ≡ taken.chunk). (let held = held_one chunk other w.threads o found in
    let all = counted.partition chunk in
    let most = at_most_one (ltb chunk w.areas.pool.count) in
    let free = taken_free w.areas.pool need taken e in
    let equal : copies chunk (all_free w.areas.pool) ≡ copies taken.chunk (all_free w.areas.pool) = ap (λ (k : ℕ). copies k (all_free w.areas.pool)) same in
    omega (arith, held, all, most, free, equal, some)))
    ∙ ap (λ (p : Pool). chunk_of p chunk) (taken_for-keeps w.areas.pool need taken e))

-- ---- threads that are written

pub replaced_twice : (a b : Thread) (threads : List Thread) → a.number ≡ b.number → replaced a (replaced b threads) ≡ replaced a threads
replaced_twice a b [] same = refl
replaced_twice a b (t ∷ ts) same =
    let rest = replaced_twice a b ts same in
    cond_both (nat_eq t.number b.number) b t (λ (u : Thread). cond (nat_eq u.number a.number) a u ∷ replaced a (replaced b ts) ≡ cond (nat_eq t.number a.number) a t ∷ replaced a ts)
    (λ yes'.
    let is : t.number ≡ a.number = eqb-true t.number b.number yes' ∙ sym same in
    (λ k. cond-true (nat_eq b.number a.number) a b (eq-eqb b.number a.number (sym same)) k ∷ rest k)
    ∙ (λ k. sym (cond-true (nat_eq t.number a.number) a t (eq-eqb t.number a.number is)) k ∷ replaced a ts))
    (λ no'. λ k. cond (nat_eq t.number a.number) a t ∷ rest k)

pub replaced_gone : (b : Thread) (threads : List Thread) → without b.number (replaced b threads) ≡ without b.number threads
replaced_gone b [] = refl
replaced_gone b (t ∷ ts) =
    let rest = replaced_gone b ts in
    cond_both (nat_eq t.number b.number) b t (λ (u : Thread). cond (not (nat_eq u.number b.number)) (u ∷ without b.number (replaced b ts)) (without b.number (replaced b ts)) ≡ cond (not (nat_eq t.number b.number)) (t ∷ without b.number ts) (without b.number ts))
    (λ yes'.
    ap (λ (x : Bool). cond (not x) (b ∷ without b.number (replaced b ts)) (without b.number (replaced b ts))) (eq-eqb b.number b.number refl)
    ∙ rest
    ∙ sym (ap (λ (x : Bool). cond (not x) (t ∷ without b.number ts) (without b.number ts)) yes'))
    (λ no'. ap (λ (us : List Thread). cond (not (nat_eq t.number b.number)) (t ∷ us) us) rest)

pub replaced_joined : (a new : Thread) (threads : List Thread) → new.number ≢ a.number → replaced a (threads ++ new ∷ []) ≡ replaced a threads ++ new ∷ []
replaced_joined a new [] apart = (λ k. cond-false (nat_eq new.number a.number) a new (ne_eqb new.number a.number apart) k ∷ [])
replaced_joined a new (t ∷ ts) apart = ap (λ (us : List Thread). cond (nat_eq t.number a.number) a t ∷ us) (replaced_joined a new ts apart)
