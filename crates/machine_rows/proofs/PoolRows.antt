-- Pools whose chunks are known, through takes and gives.
use Rattle.std.proofs.Common.{◌≡◌, ℕ, zero, suc, ◌<◌, [], ◌∷◌, Option, subst, ◌∙◌, ap, sym, arith}
use Rattle.std.specs.List.{Contains}
use Rattle.chunk_pool.specs.Pool.{Pool, IsHeld, IsTaken, after_give, start_pool, taken_for}

-- what a take answers of a known pool, and leaves of it
take-known : (s p q : Pool) (need : ℕ) (r : Option ℕ) → p ≡ s → IsTaken (taken_for p need) r p q → IsTaken (taken_for s need) r s q
take-known s p q need r is taken = subst (λ (x : Pool). IsTaken (taken_for x need) r x q) is taken

pub give-known : (s p q : Pool) (id : ℕ) → p ≡ s → q ≡ after_give p id → q ≡ after_give s id
give-known s p q id is given = given ∙ ap (λ (x : Pool). after_give x id) is

pub held-known : (s p : Pool) (id : ℕ) → p ≡ s → IsHeld s id → IsHeld p id
held-known s p id is held = subst (λ (x : Pool). IsHeld x id) (sym is) held

pub below-known : (s p : Pool) (id : ℕ) → p ≡ s → id < s.count → id < p.count
below-known s p id is below = subst (λ (x : Pool). id < x.count) (sym is) below

none-in : (id : ℕ) → Contains [] id → ⊥
none-in id there = let lt = there.1 in absurd (omega arith)

one-in : (x id : ℕ) → Contains (x ∷ []) id → x ≡ id
one-in x id (zero, within, at) = at
one-in x id (suc k, within, at) = absurd (omega arith)

two-in : (x y id : ℕ) → (x ≡ id → ⊥) → Contains (x ∷ y ∷ []) id → y ≡ id
two-in x y id other (zero, within, at) = absurd (other at)
two-in x y id other (suc zero, within, at) = at
two-in x y id other (suc (suc k), within, at) = absurd (omega arith)

-- ---- two chunks of 64 bytes

abbrev pub two : Pool
two = start_pool 2 16 0 16

abbrev pub two_dry : Pool
two_dry = record two { free = [] }

pub taken-dry : (p0 p1 p2 p3 : Pool) (a b c : Option ℕ) → p0 ≡ two → IsTaken (taken_for p0 48) a p0 p1 → IsTaken (taken_for p1 48) b p1 p2 → IsTaken (taken_for p2 48) c p2 p3 → p3 ≡ two_dry
unfolding taken_for
taken-dry p0 p1 p2 p3 a b c start first second third =
    let one : p1 ≡ record two { free = 1 ∷ [] } = (take-known two p0 p1 48 a start first).1 in
    let dry : p2 ≡ two_dry = (take-known (record two { free = 1 ∷ [] }) p1 p2 48 b one second).1 in
    (take-known two_dry p2 p3 48 c dry third).1

pub held-0 : IsHeld two_dry 0
held-0 = (omega arith, none-in 0)

pub held-1 : IsHeld (after_give two_dry 0) 1
held-1 = (omega arith, λ there. (let same = one-in 0 1 there in absurd (omega (arith, same))))

-- ---- two chunks of 80 bytes and two of 48

abbrev pub four : Pool
four = start_pool 2 20 2 12

abbrev pub four_dry : Pool
four_dry = record four { free = []; extra_free = [] }

pub taken-by_need : (p0 p1 p2 p3 p4 p5 p6 : Pool) (a b c d e f : Option ℕ) → p0 ≡ four → IsTaken (taken_for p0 32) a p0 p1 → IsTaken (taken_for p1 33) b p1 p2 → IsTaken (taken_for p2 65) c p2 p3 →
    IsTaken (taken_for p3 0) d p3 p4 → IsTaken (taken_for p4 64) e p4 p5 → IsTaken (taken_for p5 0) f p5 p6 → p6 ≡ four_dry
unfolding taken_for
taken-by_need p0 p1 p2 p3 p4 p5 p6 a b c d e f start t1 t2 t3 t4 t5 t6 =
    let s1 : Pool = record four { extra_free = 3 ∷ [] } in
    let s2 : Pool = record four { free = 1 ∷ []; extra_free = 3 ∷ [] } in
    let s4 : Pool = record four { free = 1 ∷ []; extra_free = [] } in
    let one : p1 ≡ s1 = (take-known four p0 p1 32 a start t1).1 in
    let second : p2 ≡ s2 = (take-known s1 p1 p2 33 b one t2).1 in
    let third : p3 ≡ s2 = (take-known s2 p2 p3 65 c second t3).1 in
    let fourth : p4 ≡ s4 = (take-known s2 p3 p4 0 d third t4).1 in
    let fifth : p5 ≡ four_dry = (take-known s4 p4 p5 64 e fourth t5).1 in
    (take-known four_dry p5 p6 0 f fifth t6).1

pub four-0 : IsHeld four_dry 0
four-0 = (omega arith, none-in 0)

pub four-3 : IsHeld (after_give four_dry 0) 3
four-3 = (omega arith, λ there. (let same = one-in 0 3 there in absurd (omega (arith, same))))

pub four-2 : IsHeld (after_give (after_give four_dry 0) 3) 2
four-2 = (omega arith, λ there. (let same = two-in 0 3 2 (λ e. absurd (omega (arith, e))) there in absurd (omega (arith, same))))
