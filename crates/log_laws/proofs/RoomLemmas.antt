-- The chunks of the certificate's size have room for the longest path; and a run starts in a pool of the shape of the policy.
use Rattle.log_laws.proofs.Common.{◌≡◌, ℕ, zero, suc, ◌+◌, ◌*◌, ◌/◌, ◌<◌, ◌≤◌, true, Option, Some, None, refl, ap, subst, arith, ⊎_elim, cases_lt, le-leb, lowered, IsValid, Pool, Taken, fits, payload_bytes_of, shape_of, taken_for, taken_for-shape, Setup, main_fact, start_areas, start_machine, Areas, empty_world, start_world, started_on, World, roomy_below, roomy}
use Rattle.chunk_pool.proofs.Shapes.{words_in-first}
use Rattle.log_laws.proofs.CountLemmas.{once}

-- ---- the chunks of the first size

-- each of them counts where a chunk of theirs is large enough
first_count : (p : Pool) (bytes n : ℕ) → n ≤ p.first_count → bytes + 16 ≤ 4 * p.words → n ≤ roomy_below p bytes n
first_count p bytes zero within room = omega arith
first_count p bytes (suc n) within room =
    let rest = first_count p bytes n (omega (arith, within)) room in
    let words = words_in-first (shape_of p) n (omega (arith, within)) in
    let fit : fits p bytes n ≡ true = le-leb bytes (payload_bytes_of p n) (omega (arith, words, room)) in
    let here = ap once fit in
    omega (arith, rest, here)

-- and what comes behind them takes nothing off
more_count : (p : Pool) (bytes n m : ℕ) → n ≤ m → roomy_below p bytes n ≤ roomy_below p bytes m
more_count p bytes n zero le = let none : n ≡ 0 = omega (arith, le) in omega (arith, ap (roomy_below p bytes) none)
more_count p bytes n (suc m) le = ⊎_elim
    (λ (below : n < suc m). let rest = more_count p bytes n m (omega (arith, below)) in omega (arith, rest))
    (λ (from : suc m ≤ n). let same : n ≡ suc m = omega (arith, le, from) in omega (arith, ap (roomy_below p bytes) same))
    (cases_lt n (suc m))

pub first_roomy : (g : Setup) → IsValid (lowered g.program) g.image g.certificate → g.policy.chunks ≤ roomy (start_areas g).pool g.certificate.max_path
first_roomy g valid =
    let p = (start_areas g).pool in
    let sizes = ((valid.holds 1 0 1).v1 refl).chunk refl in
    let path = ((valid.holds 11 0 3).v11 refl).path refl in
    let whole = sizes.0 in
    let room : g.certificate.max_path + 16 ≤ 4 * (g.certificate.chunk / 4) = omega (arith, whole, path) in
    let first = first_count p g.certificate.max_path g.policy.chunks (omega arith) room in
    let all = more_count p g.certificate.max_path g.policy.chunks (g.policy.chunks + g.policy.extra) (omega arith) in
    omega (arith, first, all)

-- ---- the start

abbrev HasShapeOf : Pool → Option World → Type 0
HasShapeOf p None = Unit {0}
HasShapeOf p (Some w) = shape_of w.areas.pool ≡ shape_of p

shape_started : (areas : Areas) (entry need : ℕ) (found : Option Taken) → taken_for areas.pool need ≡ found → HasShapeOf areas.pool (started_on (empty_world areas) entry found)
shape_started areas entry need None e = tt
shape_started areas entry need (Some taken) e = taken_for-shape areas.pool need taken e

shape_start : (areas : Areas) (entry need : ℕ) → HasShapeOf areas.pool (start_world areas entry need)
unfolding start_world
shape_start areas entry need = shape_started areas entry need (taken_for areas.pool need) refl

-- the pool in which a run starts has the shape that the policy gives it
pub start-shape : (g : Setup) (start : World) → start_machine g ≡ Some start → shape_of start.areas.pool ≡ shape_of (start_areas g).pool
start-shape g start e = subst (HasShapeOf (start_areas g).pool) e (shape_start (start_areas g) (main_fact g).entry (main_fact g).bound)
