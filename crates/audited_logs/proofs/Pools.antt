-- The count of chunks stays through a run, and one is held at its start.
use Rattle.audited_logs.proofs.Common.{◌≡◌, ℕ, suc, ◌+◌, ◌-◌, ◌≤◌, nat_eq, cond, List, [], ◌∷◌, length, true, false, Option, Some, None, refl, ap, ◌∙◌, subst, arith, length-append, ⊎_elim, cases_eq, eq-eqb, ne_eqb, range_with_len, Pool, Taken, all_free, free_count, taken_for, start_pool, copies-cons, IfSome, Areas, local_step, empty_world, started_on, start_world, world_of, World, Setting, Move, with_thread, step, local_in, row_for, on_step, on_printed}
use Rattle.std.proofs.lemmas.List.FromFn.{length-range_with_len}
use Rattle.chunk_pool.proofs.NeedLaws.{taken_for-count, taken_for-leaves}
use Rattle.chunk_pool.proofs.ShapeLaws.{count-same}
use Rattle.machine_world.specs.Held.{copies, KeepsShape}
use Rattle.machine_world.proofs.HeldLaws.{KeepsShape-step}

-- how many chunks a world has
abbrev pub chunk_count : World → ℕ
chunk_count w = w.areas.pool.count

-- ---- steps

abbrev pub KeepsCount : World → Move → Type 0
KeepsCount w move = IfSome (world_of move) (λ after. chunk_count after ≡ chunk_count w)

pub count_step : (s : Setting) (w : World) → KeepsCount w (step s w)
count_step s w =
    on_step s w (KeepsCount w) (λ stop. tt) tt
    (λ number thread runs there left.
    let keeps : KeepsShape (local_in w thread) (local_step s.code (local_in w thread)) = KeepsShape-step s.code (local_in w thread) in
    record {
      goes = λ after e. count-same w.areas.pool after.areas.pool (subst (KeepsShape (local_in w thread)) e keeps);
      answers = λ ask still e. on_printed (KeepsCount w) (row_for s w thread ask).prints _ refl (λ word some. refl);
      blocks = λ block. refl;
      spawns = λ entry argument need still taken e few some. taken_for-count w.areas.pool need taken some;
      ends = λ areas e. count-same w.areas.pool areas.pool (subst (KeepsShape (local_in w thread)) e keeps);
    })

-- ---- the start

-- a list without one of its elements
record Without (x : ℕ) (ys : List ℕ) : Type 0 where
  rest : List ℕ
  copies_are : (id : ℕ) → copies id ys ≡ cond (nat_eq x id) 1 0 + copies id rest
  long : length ys ≡ suc (length rest)

without_later : (x y : ℕ) (ys : List ℕ) → Without x ys → Without x (y ∷ ys)
without_later x y ys is = record {
  rest = y ∷ is.rest;
  copies_are = λ id. (let whole = copies-cons y ys id (nat_eq y id) refl in let part = copies-cons y is.rest id (nat_eq y id) refl in let old = is.copies_are id in omega (arith, whole, part, old));
  long = ap suc is.long;
}

without : (x : ℕ) (ys : List ℕ) → 1 ≤ copies x ys → Without x ys
without x [] some = absurd (omega (arith, some))
without x (y ∷ ys) some = ⊎_elim
    (λ (same : y ≡ x). record { rest = ys; copies_are = λ id. ap (λ (n : ℕ). copies id (n ∷ ys)) same ∙ copies-cons x ys id (nat_eq x id) refl; long = refl })
    (λ (apart : y ≡ x → ⊥). without_later x y ys (without x ys (let whole = copies-cons y ys x false (ne_eqb y x apart) in omega (arith, whole, some))))
    (cases_eq y x)

-- lists with as many copies of each number are as long
as_long : (xs ys : List ℕ) → ((id : ℕ) → copies id xs ≡ copies id ys) → length xs ≡ length ys
as_long [] [] same = refl
as_long [] (y ∷ ys) same =
    let none = same y in
    let one = copies-cons y ys y true (eq-eqb y y refl) in
    absurd (omega (arith, none, one))
as_long (x ∷ xs) ys same =
    let one = copies-cons x xs x true (eq-eqb x x refl) in
    let there = same x in
    let w = without x ys (omega (arith, one, there)) in
    let rest = as_long xs w.rest (λ id. (let mine = copies-cons x xs id (nat_eq x id) refl in let theirs = w.copies_are id in let all = same id in omega (arith, mine, theirs, all))) in
    let long = w.long in
    omega (arith, rest, long)

-- a chunk that is taken is one free chunk less
free_taken : (p : Pool) (need : ℕ) (taken : Taken) → taken_for p need ≡ Some taken → free_count p ≡ suc (free_count taken.pool)
free_taken p need taken e = as_long (all_free p) (taken.chunk ∷ all_free taken.pool) (λ id. taken_for-leaves p need taken e id)

free_start : (chunks words extra extra_words : ℕ) → free_count (start_pool chunks words extra extra_words) ≡ chunks + extra
free_start chunks words extra extra_words =
    let long = length-append (range_with_len 0 chunks) (range_with_len chunks extra) in
    let first = length-range_with_len 0 chunks in
    let more = length-range_with_len chunks extra in
    omega (arith, long, first, more)

-- the first world has the chunks of its areas, of which one is held, at clock 0 and cost 0
pub record Starts (chunks : ℕ) (w : World) : Type 0 where
  pub count : chunk_count w ≡ chunks
  pub held : w.areas.pool.count - free_count w.areas.pool ≡ 1
  pub clock : w.clock ≡ 0
  pub cost : w.cost ≡ 0
  pub threads : length w.threads ≡ 1

starts_on : (areas : Areas) (chunks entry need : ℕ) (w : World) (found : Option Taken) → areas.pool.count ≡ chunks → free_count areas.pool ≡ chunks → taken_for areas.pool need ≡ found → started_on (empty_world areas) entry found ≡ Some w → Starts chunks w
starts_on areas chunks entry need w None count free f e = absurd (let no : ◌≡◌ {A = Option World} None (Some w) = e in cc)
starts_on areas chunks entry need w (Some taken) count free f e =
    let same : with_thread (empty_world areas) taken entry 0 ≡ w = cc in
    let is = taken_for-count areas.pool need taken f in
    let less = free_taken areas.pool need taken f in
    subst (Starts chunks) same (record { count = is ∙ count; held = omega (arith, is, count, less, free); clock = refl; cost = refl; threads = refl })

pub starts : (chunks words extra extra_words entry need : ℕ) (globals tables : List ℕ) (w : World) → start_world (record { pool = start_pool chunks words extra extra_words; globals = globals; tables = tables }) entry need ≡ Some w → Starts (chunks + extra) w
unfolding start_world
starts chunks words extra extra_words entry need globals tables w e =
    let areas : Areas = record { pool = start_pool chunks words extra extra_words; globals = globals; tables = tables } in
    starts_on areas (chunks + extra) entry need w (taken_for areas.pool need) refl (free_start chunks words extra extra_words) refl e
