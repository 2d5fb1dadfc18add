-- Each step of the world keeps it counted: numbers rise, and held and free chunks are exactly the pool.
use Rattle.machine_world.proofs.Common.{◌≡◌, ℕ, zero, suc, ◌+◌, ◌<◌, ◌≤◌, Bool, ltb, nat_eq, not, List, [], ◌∷◌, ◌++◌, Option, Some, None, refl, sym, ap, subst, ◌∙◌, arith, cond, ⊎_elim, range_with_len, cond_both, cases_eq, cases_lt, lt-ltb, le-ltb, cond-true, cond-false, eq-eqb, ne_eqb, eqb-true, nat_le, ◌&&◌, blocking_row, is_dropped, with_delivery, Taken, taken_for, start_pool, shape_of, all_free, taken_for-leaves, taken_for-shape, Areas, local_step, with_result, copies, KeepsCopies, KeepsShape, Blocked, Thread, World, Setting, first_with, thread_of, replaced, without, with_thread, start_core, retired, resumed, result_of, step, local_in, result_on, empty_world, started_on, start_world, Action, Deliver, Advance, Pick, Step, delivered, advanced, may_run, picked_at, picked, is_between, after_action, and_then, after_actions, held_copies, AreAllFree, RiseBetween, IsCounted, KeepsCounted, IsCountedIf}
use Rattle.chunk_pool.specs.declared.shape.Shape.{Shape}
use Rattle.machine_world.proofs.StepCases.{Ways, blocked_at, row_for, answered_by, on_step, on_printed}
use Rattle.machine_world.proofs.HeldLaws.{copies-cons, KeepsCopies-step, KeepsShape-step}
use Rattle.machine_world.proofs.WorldLaws.{held_copies-replaced, held_copies-without, held_copies-append}

-- ---- numbers

RiseBetween-weaken : (from lower next : ℕ) (threads : List Thread) → lower ≤ from → RiseBetween from next threads → RiseBetween lower next threads
RiseBetween-weaken from lower next [] below rise = omega arith
RiseBetween-weaken from lower next (t ∷ ts) below rise = (omega (arith, rise.0), rise.1)

RiseBetween-replaced : (new : Thread) (from next : ℕ) (threads : List Thread) → RiseBetween from next threads → RiseBetween from next (replaced new threads)
RiseBetween-replaced new from next [] rise = rise
RiseBetween-replaced new from next (t ∷ ts) rise =
    let rest = RiseBetween-replaced new (t.number + 1) next ts rise.1 in
    cond_both (nat_eq t.number new.number) new t (λ (u : Thread). (from ≤ u.number) × RiseBetween (u.number + 1) next (replaced new ts))
    (λ same. let equal : t.number ≡ new.number = eqb-true t.number new.number same in
    (omega (arith, rise.0), subst (λ (n : ℕ). RiseBetween (n + 1) next (replaced new ts)) equal rest))
    (λ _. (rise.0, rest))

RiseBetween-without : (number from next : ℕ) (threads : List Thread) → RiseBetween from next threads → RiseBetween from next (without number threads)
RiseBetween-without number from next [] rise = rise
RiseBetween-without number from next (t ∷ ts) rise =
    let rest = RiseBetween-without number (t.number + 1) next ts rise.1 in
    cond_both (not (nat_eq t.number number)) (t ∷ without number ts) (without number ts) (RiseBetween from next)
    (λ _. (rise.0, rest))
    (λ _. RiseBetween-weaken (t.number + 1) from next (without number ts) (omega (arith, rise.0)) rest)

RiseBetween-append : (from next : ℕ) (threads : List Thread) (t : Thread) → RiseBetween from next threads → t.number ≡ next → RiseBetween from (next + 1) (threads ++ t ∷ [])
RiseBetween-append from next [] t rise is_next = (omega arith, omega arith)
RiseBetween-append from next (u ∷ us) t rise is_next = (rise.0, RiseBetween-append (u.number + 1) next us t rise.1 is_next)

pub first_with-number : (number : ℕ) (threads : List Thread) (t : Thread) → first_with number threads ≡ Some t → t.number ≡ number
first_with-number number [] t found = absurd (cc)
first_with-number number (u ∷ us) t found = ⊎_elim
    (λ (same : u.number ≡ number).
    let here : Some u ≡ Some t = sym (cond-true (nat_eq u.number number) (Some u) (first_with number us) (eq-eqb u.number number same)) ∙ found in
    let equal : u ≡ t = cc in
    ap (λ (v : Thread). v.number) (sym equal) ∙ same)
    (λ apart. first_with-number number us t (sym (cond-false (nat_eq u.number number) (Some u) (first_with number us) (ne_eqb u.number number apart)) ∙ found))
    (cases_eq u.number number)

-- ---- worlds

-- a thread of the world, by its number
pub record IsLive (w : World) (thread : Thread) : Type 0 where
  pub found : first_with thread.number w.threads ≡ Some thread

counted_retired : (w : World) (thread new : Thread) (areas : Areas) → IsCounted w → IsLive w thread → new.number ≡ thread.number →
    ((chunk : ℕ) → copies chunk new.core.chain + copies chunk (all_free areas.pool) ≡ copies chunk thread.core.chain + copies chunk (all_free w.areas.pool)) →
    shape_of areas.pool ≡ shape_of w.areas.pool → IsCounted (retired w new areas)
counted_retired w thread new areas counted live number same size = record {
  numbered = RiseBetween-replaced new 0 w.next w.threads counted.numbered;
  partition = λ chunk.
      let found : first_with new.number w.threads ≡ Some thread = ap (λ (n : ℕ). first_with n w.threads) number ∙ live.found in
      let held = held_copies-replaced chunk new thread 0 w.next w.threads counted.numbered found in
      let count : cond (ltb chunk areas.pool.count) 1 0 ≡ cond (ltb chunk w.areas.pool.count) 1 0 = ap (λ (s : Shape). cond (ltb chunk s.count) 1 0) size in
      let before = counted.partition chunk in
      (let sum : held_copies chunk (replaced new w.threads) + copies chunk (all_free areas.pool) ≡ held_copies chunk w.threads + copies chunk (all_free w.areas.pool) = omega (arith, held, same chunk) in sum)
      ∙ before ∙ sym count;
}

counted_ended : (w : World) (thread : Thread) (areas : Areas) (clock cost : ℕ) → IsCounted w → IsLive w thread →
    ((chunk : ℕ) → copies chunk (all_free areas.pool) ≡ copies chunk thread.core.chain + copies chunk (all_free w.areas.pool)) →
    shape_of areas.pool ≡ shape_of w.areas.pool →
    IsCounted (record w { threads = without thread.number w.threads; areas = areas; clock = clock; cost = cost; running = None })
counted_ended w thread areas clock cost counted live same size = record {
  numbered = RiseBetween-without thread.number 0 w.next w.threads counted.numbered;
  partition = λ chunk.
      let held = held_copies-without chunk thread.number thread 0 w.next w.threads counted.numbered live.found in
      let count : cond (ltb chunk areas.pool.count) 1 0 ≡ cond (ltb chunk w.areas.pool.count) 1 0 = ap (λ (s : Shape). cond (ltb chunk s.count) 1 0) size in
      (let sum : held_copies chunk (without thread.number w.threads) + copies chunk (all_free areas.pool) ≡ held_copies chunk w.threads + copies chunk (all_free w.areas.pool) = omega (arith, held, same chunk) in sum)
      ∙ counted.partition chunk ∙ sym count;
}

pub counted_started : (w : World) (taken : Taken) (need entry argument : ℕ) → IsCounted w → taken_for w.areas.pool need ≡ Some taken → IsCounted (with_thread w taken entry argument)
counted_started w taken need entry argument counted some = record {
  numbered = RiseBetween-append 0 w.next w.threads _ counted.numbered refl;
  partition = λ chunk.
      let held = held_copies-append chunk w.threads (record { number = w.next; core = start_core taken entry argument; blocked = None }) in
      let left = taken_for-leaves w.areas.pool need taken some chunk in
      let moved_free = copies-cons chunk taken.chunk (all_free taken.pool) in
      let chain = copies-cons chunk taken.chunk [] in
      let count : cond (ltb chunk taken.pool.count) 1 0 ≡ cond (ltb chunk w.areas.pool.count) 1 0 = ap (λ (s : Shape). cond (ltb chunk s.count) 1 0) (taken_for-shape w.areas.pool need taken some) in
      (let sum : held_copies chunk (w.threads ++ record { number = w.next; core = start_core taken entry argument; blocked = None } ∷ []) + copies chunk (all_free taken.pool) ≡ held_copies chunk w.threads + copies chunk (all_free w.areas.pool) = omega (arith, held, left, moved_free, chain) in sum)
      ∙ counted.partition chunk ∙ sym count;
}

-- ---- moves

-- a thread that only passes its ECALL
counted_resumed : (w : World) (thread : Thread) (result : Option ℕ) → IsCounted w → IsLive w thread → IsCounted (retired w (resumed thread result) w.areas)
counted_resumed w thread result counted live = counted_retired w thread (resumed thread result) w.areas counted live refl (λ chunk. refl) refl

counted_ways : (s : Setting) (w : World) (thread : Thread) → IsCounted w → IsLive w thread → Ways s w KeepsCounted thread
counted_ways s w thread counted live =
    let l = local_in w thread in
    let same : (chunk : ℕ) → KeepsCopies chunk l (local_step s.code l) = λ chunk. KeepsCopies-step s.code l chunk in
    let size : KeepsShape l (local_step s.code l) = KeepsShape-step s.code l in
    record {
      goes = λ after e. counted_retired w thread (record thread { core = after.core }) after.areas counted live refl
          (λ chunk. subst (KeepsCopies chunk l) e (same chunk)) (subst (KeepsShape l) e size);
      answers = λ ask still e.
          let after = counted_resumed w thread (result_of ask (row_for s w thread ask).result) counted live in
          let is : IsCounted (answered_by w thread ask (row_for s w thread ask)) = record { numbered = after.numbered; partition = after.partition } in
          on_printed KeepsCounted (row_for s w thread ask).prints _ is (λ word some. is);
      blocks = λ block.
          let after = counted_retired w thread (blocked_at w thread block) w.areas counted live refl (λ chunk. refl) refl in
          record { numbered = after.numbered; partition = after.partition };
      spawns = λ entry argument need still taken e few some.
          counted_started (retired w (resumed thread (Some w.next)) w.areas) taken need entry argument (counted_resumed w thread (Some w.next) counted live) some;
      ends = λ areas e. counted_ended w thread areas (w.clock + 1) (w.cost + 1) counted live
          (λ chunk. subst (KeepsCopies chunk l) e (same chunk)) (subst (KeepsShape l) e size);
    }

pub counted_step : (s : Setting) (w : World) → IsCounted w → KeepsCounted (step s w)
counted_step s w counted =
    on_step s w KeepsCounted (λ stop. tt) tt
    (λ number thread runs there left. counted_ways s w thread counted (record { found = ap (λ (n : ℕ). first_with n w.threads) (first_with-number number w.threads thread there) ∙ there }))

-- ---- the start

copies-below : (chunk from n : ℕ) → chunk < from → copies chunk (range_with_len from n) ≡ 0
copies-below chunk from zero below = refl
copies-below chunk from (suc n) below =
    copies-cons chunk from (range_with_len (from + 1) n)
    ∙ (λ i. cond (ne_eqb from chunk (λ same. omega arith) i) 1 0 + copies-below chunk (from + 1) n (omega arith) i)

copies-past : (chunk from n : ℕ) → from + n ≤ chunk → copies chunk (range_with_len from n) ≡ 0
copies-past chunk from zero past = refl
copies-past chunk from (suc n) past =
    copies-cons chunk from (range_with_len (from + 1) n)
    ∙ (λ i. cond (ne_eqb from chunk (λ same. omega arith) i) 1 0 + copies-past chunk (from + 1) n (omega arith) i)

copies-range : (chunk from n : ℕ) → from ≤ chunk → chunk < from + n → copies chunk (range_with_len from n) ≡ 1
copies-range chunk from zero low high = absurd (omega arith)
copies-range chunk from (suc n) low high = ⊎_elim
    (λ (same : from ≡ chunk).
    copies-cons chunk from (range_with_len (from + 1) n)
    ∙ (λ i. cond (eq-eqb from chunk same i) 1 0 + copies-below chunk (from + 1) n (omega arith) i))
    (λ apart.
    let later : copies chunk (range_with_len (from + 1) n) ≡ 1 = copies-range chunk (from + 1) n (omega arith) (omega arith) in
    copies-cons chunk from (range_with_len (from + 1) n)
    ∙ (λ i. cond (ne_eqb from chunk apart i) 1 0 + later i))
    (cases_eq from chunk)

free_once : (chunk count : ℕ) → copies chunk (range_with_len 0 count) ≡ cond (ltb chunk count) 1 0
free_once chunk count = ⊎_elim
    (λ (within : chunk < count).
    copies-range chunk 0 count (omega arith) (omega arith)
    ∙ sym (ap (λ (b : Bool). cond b 1 0) (lt-ltb chunk count within)))
    (λ (past : count ≤ chunk).
    copies-past chunk 0 count (omega arith)
    ∙ sym (ap (λ (b : Bool). cond b 1 0) (le-ltb chunk count past)))
    (cases_lt chunk count)

counted_started_on : (w : World) (entry need : ℕ) (found : Option Taken) → IsCounted w → taken_for w.areas.pool need ≡ found → IsCountedIf (started_on w entry found)
counted_started_on w entry need None counted e = tt
counted_started_on w entry need (Some taken) counted e = counted_started w taken need entry 0 counted e

-- in a new pool every chunk is free
pub all_free-new : (chunks words extra extra_words : ℕ) → AreAllFree (start_pool chunks words extra extra_words)
all_free-new chunks words extra extra_words chunk =
    let behind : chunks ≡ 0 + chunks = omega arith in
    ap (λ (k : ℕ). copies chunk (range_with_len 0 chunks ++ range_with_len k extra)) behind
    ∙ ap (copies chunk) (range-append 0 chunks extra) ∙ free_once chunk (chunks + extra)
  where
    range-append : (a n m : ℕ) → range_with_len a n ++ range_with_len (a + n) m ≡ range_with_len a (n + m)
    range-append a zero m =
        let here : a + 0 ≡ a = omega arith in let all : m ≡ 0 + m = omega arith in
        ap (λ (k : ℕ). range_with_len k m) here ∙ ap (range_with_len a) all
    range-append a (suc n) m =
        let next : a + suc n ≡ a + 1 + n = omega arith in let all : suc (n + m) ≡ suc n + m = omega arith in
        ap (λ (k : ℕ). a ∷ (range_with_len (a + 1) n ++ range_with_len k m)) next
        ∙ ap (λ (xs : List ℕ). a ∷ xs) (range-append (a + 1) n m) ∙ ap (range_with_len a) all

pub counted_start : (areas : Areas) (entry need : ℕ) → AreAllFree areas.pool → IsCountedIf (start_world areas entry need)
unfolding start_world
counted_start areas entry need free =
    counted_started_on (empty_world areas) entry need (taken_for areas.pool need)
    (record { numbered = omega arith; partition = λ chunk. (let all : 0 + copies chunk (all_free areas.pool) ≡ cond (ltb chunk areas.pool.count) 1 0 = omega (arith, free chunk) in all) }) refl

-- ---- actions

pub counted_picked_at : (s : Setting) (w : World) (thread : Thread) (blocked : Option Blocked) → IsCounted w → IsLive w thread → IsCounted (picked_at s w thread blocked)
counted_picked_at s w thread None counted live = record { numbered = counted.numbered; partition = counted.partition }
counted_picked_at s w thread (Some blocked) counted live =
    let row = blocking_row s.caps w.exchange blocked.block in
    let after = counted_retired w thread (record thread { core = record thread.core { x = with_result thread.core.x (result_on blocked.block row.result) }; blocked = None }) w.areas counted live refl (λ chunk. refl) refl in
    record { numbered = after.numbered; partition = after.partition }

counted_picked : (s : Setting) (w : World) (number : ℕ) (found : Option Thread) → IsCounted w → thread_of w number ≡ found → IsCountedIf (picked s w found)
counted_picked s w number None counted e = tt
counted_picked s w number (Some thread) counted e =
    cond_both (may_run s w thread.blocked) (Some (picked_at s w thread thread.blocked)) None IsCountedIf
    (λ _. counted_picked_at s w thread thread.blocked counted
    (record { found = ap (λ (n : ℕ). first_with n w.threads) (first_with-number number w.threads thread e) ∙ e }))
    (λ _. tt)

pub counted_action : (s : Setting) (w : World) (action : Action) → IsCounted w → IsCountedIf (after_action s w action)
counted_action s w (Deliver delivery) counted =
    cond_both (is_between w) (Some (delivered s w delivery)) None IsCountedIf
    (λ _. cond_both (is_dropped s.backlog w.exchange delivery) w (record w { exchange = with_delivery w.exchange delivery }) IsCounted
    (λ _. counted)
    (λ _. record { numbered = counted.numbered; partition = counted.partition }))
    (λ _. tt)
counted_action s w (Advance to) counted =
    cond_both (is_between w && nat_le w.clock to) (Some (advanced w to)) None IsCountedIf
    (λ _. record { numbered = counted.numbered; partition = counted.partition })
    (λ _. tt)
counted_action s w (Pick number) counted =
    cond_both (is_between w) (picked s w (thread_of w number)) None IsCountedIf
    (λ _. counted_picked s w number (thread_of w number) counted refl)
    (λ _. tt)
counted_action s w Step counted = counted_step s w counted

counted_then : (found : Option World) (rest : World → Option World) → IsCountedIf found → ((w : World) → IsCounted w → IsCountedIf (rest w)) → IsCountedIf (and_then found rest)
counted_then None rest counted after = tt
counted_then (Some w) rest counted after = after w counted

pub counted_actions : (s : Setting) (actions : List Action) (w : World) → IsCounted w → IsCountedIf (after_actions s actions w)
counted_actions s [] w counted = counted
counted_actions s (action ∷ actions) w counted =
    counted_then (after_action s w action) (after_actions s actions) (counted_action s w action counted) (counted_actions s actions)
