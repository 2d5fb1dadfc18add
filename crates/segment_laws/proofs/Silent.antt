-- What steps of the running thread make of the world.
use Rattle.segment_laws.proofs.Common.{◌≡◌, ℕ, zero, suc, ◌+◌, ◌<◌, ◌≤◌, Bool, true, false, cond, List, [], ◌∷◌, Some, refl, sym, ap, subst, ◌∙◌, arith, ⊎_elim, nat_eq, eq-eqb, ne_eqb, cases_eq, IsCounted, Local, LocalMove, local_step, Checked, WayIn, Leads}
use Rattle.cap_word.specs.Runs as runs
use Rattle.cap_word.specs.declared.stops.Stop.{Stop}
use Rattle.machine_world.specs.Numbered.{RiseBetween}
use Rattle.machine_world.specs.Runs.{world_of, and_then, after_steps}
use Rattle.machine_world.specs.Threads.{Thread, World, Setting, first_with, thread_of, replaced, Move, Goes, Stops, retired, moved, step_of, step_on, step, local_in}
use Rattle.segment_laws.specs.Silent.{GoesOn, after_silent}
use Rattle.machine_world.proofs.WorldLaws.{replaced_none}

-- ---- threads by number

abbrev chosen : Thread → Thread → Bool → Thread
chosen new old same = cond same new old

-- one thread is put in the place of another of its number, twice
replaced-twice : (old new : Thread) (threads : List Thread) → old.number ≡ new.number → replaced new (replaced old threads) ≡ replaced new threads
replaced-twice old new [] same = refl
replaced-twice old new (t ∷ threads) same =
    let rest = replaced-twice old new threads same in
    let first : chosen new (chosen old t (nat_eq t.number old.number)) (nat_eq (chosen old t (nat_eq t.number old.number)).number new.number) ≡ chosen new t (nat_eq t.number new.number) = ⊎_elim
    (λ (is : t.number ≡ old.number).
    let yes : nat_eq t.number old.number ≡ true = eq-eqb t.number old.number is in
    let then : nat_eq old.number new.number ≡ true = eq-eqb old.number new.number same in
    let now : nat_eq t.number new.number ≡ true = eq-eqb t.number new.number (is ∙ same) in
    ap (λ (b : Bool). chosen new (chosen old t b) (nat_eq (chosen old t b).number new.number)) yes ∙ ap (chosen new old) then ∙ sym (ap (chosen new t) now))
    (λ (apart : t.number ≡ old.number → ⊥).
    let no : nat_eq t.number old.number ≡ false = ne_eqb t.number old.number apart in
    ap (λ (b : Bool). chosen new (chosen old t b) (nat_eq (chosen old t b).number new.number)) no)
    (cases_eq t.number old.number) in
    (λ i. first i ∷ rest i)

-- the thread of a number after it was replaced
first-replaced : (number : ℕ) (old new : Thread) (threads : List Thread) → new.number ≡ number → first_with number threads ≡ Some old → first_with number (replaced new threads) ≡ Some new
first-replaced number old new [] is found = absurd cc
first-replaced number old new (t ∷ threads) is found = ⊎_elim
    (λ (same : t.number ≡ number).
    let yes : nat_eq t.number new.number ≡ true = eq-eqb t.number new.number (same ∙ sym is) in
    let then : nat_eq new.number number ≡ true = eq-eqb new.number number is in
    ap (λ (b : Bool). cond (nat_eq (chosen new t b).number number) (Some (chosen new t b)) (first_with number (replaced new threads))) yes
    ∙ ap (λ (b : Bool). cond b (Some new) (first_with number (replaced new threads))) then)
    (λ (apart : t.number ≡ number → ⊥).
    let no : nat_eq t.number new.number ≡ false = ne_eqb t.number new.number (λ e. apart (e ∙ is)) in
    let other : nat_eq t.number number ≡ false = ne_eqb t.number number apart in
    let later : first_with number threads ≡ Some old = sym (ap (λ (b : Bool). cond b (Some t) (first_with number threads)) other) ∙ found in
    ap (λ (b : Bool). cond (nat_eq (chosen new t b).number number) (Some (chosen new t b)) (first_with number (replaced new threads))) no
    ∙ ap (λ (b : Bool). cond b (Some t) (first_with number (replaced new threads))) other
    ∙ first-replaced number old new threads is later)
    (cases_eq t.number number)

pub thread_after : (w : World) (thread : Thread) (at : Local) (n : ℕ) → thread_of w thread.number ≡ Some thread → thread_of (after_silent w thread at n) thread.number ≡ Some (record thread { core = at.core })
thread_after w thread at n found = first-replaced thread.number thread (record thread { core = at.core }) w.threads refl found

-- ---- one step

pub step_moves : (s : Setting) (w : World) (thread : Thread) (move : LocalMove) → w.running ≡ Some thread.number → thread_of w thread.number ≡ Some thread → w.cost < s.fuel → local_step s.code (local_in w thread) ≡ move → step s w ≡ moved s w thread move
unfolding step
step_moves s w thread move running found less e =
    let left : nat_eq w.cost s.fuel ≡ false = ne_eqb w.cost s.fuel (λ same. omega arith) in
    ap (step_on s w) running ∙ ap (step_of s w) found
    ∙ ap (λ (b : Bool). cond b (Stops Stop.Fuel) (moved s w thread (local_step s.code (local_in w thread)))) left
    ∙ ap (moved s w thread) e

pub step_fuel : (s : Setting) (w : World) (thread : Thread) → w.running ≡ Some thread.number → thread_of w thread.number ≡ Some thread → w.cost ≡ s.fuel → step s w ≡ Stops Stop.Fuel
unfolding step
step_fuel s w thread running found same =
    let out : nat_eq w.cost s.fuel ≡ true = eq-eqb w.cost s.fuel same in
    ap (step_on s w) running ∙ ap (step_of s w) found
    ∙ ap (λ (b : Bool). cond b (Stops Stop.Fuel) (moved s w thread (local_step s.code (local_in w thread)))) out

pub step_turns : (s : Setting) (w : World) (thread : Thread) (at : Local) (n : ℕ) (move : LocalMove) → w.running ≡ Some thread.number → thread_of w thread.number ≡ Some thread → w.cost + n < s.fuel → local_step s.code at ≡ move →
    step s (after_silent w thread at n) ≡ moved s (after_silent w thread at n) (record thread { core = at.core }) move
step_turns s w thread at n move running found less e =
    step_moves s (after_silent w thread at n) (record thread { core = at.core }) move running (thread_after w thread at n found) less e

-- ---- any number of steps

-- the world after one silent step and then others is that after one more
silent_more : (w : World) (thread : Thread) (next at : Local) (n : ℕ) → after_silent (retired w (record thread { core = next.core }) next.areas) (record thread { core = next.core }) at n ≡ after_silent w thread at (suc n)
silent_more w thread next at n =
    let old : Thread = record thread { core = next.core } in
    let new : Thread = record thread { core = at.core } in
    let threads : replaced new (replaced old w.threads) ≡ replaced new w.threads = replaced-twice old new w.threads refl in
    let clock : w.clock + 1 + n ≡ w.clock + suc n = omega arith in
    let cost : w.cost + 1 + n ≡ w.cost + suc n = omega arith in
    (λ i. record w { threads = threads i; areas = at.areas; clock = clock i; cost = cost i })

silent_none : (w : World) (thread : Thread) → replaced thread w.threads ≡ w.threads → after_silent w thread (local_in w thread) 0 ≡ w
silent_none w thread same =
    let clock : w.clock + 0 ≡ w.clock = omega arith in
    let cost : w.cost + 0 ≡ w.cost = omega arith in
    (λ i. record w { threads = same i; areas = w.areas; clock = clock i; cost = cost i })

goes_way : (c : Checked) (s : Setting) (n : ℕ) (w : World) (thread : Thread) (at : Local) → replaced thread w.threads ≡ w.threads → w.running ≡ Some thread.number → thread_of w thread.number ≡ Some thread → w.cost + n ≤ s.fuel → WayIn c s.code n (local_in w thread) at →
    GoesOn s n w (after_silent w thread at n)
goes_way c s zero w thread at same running found fits way = subst (λ (l : Local). after_silent w thread l 0 ≡ w) way (silent_none w thread same)
goes_way c s (suc n) w thread at same running found fits way =
    let next : Local = way.1.0 in
    let moved_thread : Thread = record thread { core = next.core } in
    let after : World = retired w moved_thread next.areas in
    let step_is : step s w ≡ Goes after = step_moves s w thread (runs.Goes next) running found (omega arith) way.1.1 in
    let rest = goes_way c s n after moved_thread at (replaced-twice moved_thread moved_thread w.threads refl) running (first-replaced thread.number thread moved_thread w.threads refl found) (omega arith) way.1.2 in
    (after, step_is, subst (GoesOn s n after) (silent_more w thread next at n) rest)

-- ---- numbers that rise are different

-- a thread that stands in the place of its number
itself : (thread : Thread) (from next : ℕ) (threads : List Thread) → RiseBetween from next threads → first_with thread.number threads ≡ Some thread → replaced thread threads ≡ threads
itself thread from next [] rise found = refl
itself thread from next (t ∷ threads) rise found = ⊎_elim
    (λ (same : t.number ≡ thread.number).
    let yes : nat_eq t.number thread.number ≡ true = eq-eqb t.number thread.number same in
    let both : Some t ≡ Some thread = sym (ap (λ (b : Bool). cond b (Some t) (first_with thread.number threads)) yes) ∙ found in
    let is : t ≡ thread = cc in
    let rest = replaced_none thread (t.number + 1) next threads rise.1 (omega (arith, same)) in
    let first : chosen thread t (nat_eq t.number thread.number) ≡ t = ap (chosen thread t) yes ∙ sym is in
    (λ i. first i ∷ rest i))
    (λ (apart : t.number ≡ thread.number → ⊥).
    let no : nat_eq t.number thread.number ≡ false = ne_eqb t.number thread.number apart in
    let later : first_with thread.number threads ≡ Some thread = sym (ap (λ (b : Bool). cond b (Some t) (first_with thread.number threads)) no) ∙ found in
    let rest = itself thread (t.number + 1) next threads rise.1 later in
    (λ i. chosen thread t (no i) ∷ rest i))
    (cases_eq t.number thread.number)

pub goes_on : (c : Checked) (s : Setting) (w : World) (thread : Thread) (at : Local) (n : ℕ) → IsCounted w → w.running ≡ Some thread.number → thread_of w thread.number ≡ Some thread → w.cost + n ≤ s.fuel → Leads c s.code n (local_in w thread) at →
    GoesOn s n w (after_silent w thread at n)
goes_on c s w thread at n counted running found fits leads = goes_way c s n w thread at (itself thread 0 w.next w.threads counted.numbered found) running found fits leads.way

-- ---- one after another

pub joined : (s : Setting) (m n : ℕ) (w between after : World) → GoesOn s m w between → GoesOn s n between after → GoesOn s (m + n) w after
joined s zero n w between after first rest =
    let sum : n ≡ zero + n = omega arith in
    subst (λ (k : ℕ). GoesOn s k w after) sum (subst (λ (from : World). GoesOn s n from after) first rest)
joined s (suc m) n w between after first rest =
    let sum : suc (m + n) ≡ suc m + n = omega arith in
    subst (λ (k : ℕ). GoesOn s k w after) sum (first.0, first.1, joined s m n first.0 between after first.2 rest)

pub runs_on : (s : Setting) (n : ℕ) (w after : World) → GoesOn s n w after → after_steps s n w ≡ Some after
runs_on s zero w after goes = ap (λ (x : World). Some x) (sym goes)
runs_on s (suc n) w after goes = ap (λ (m : Move). and_then (world_of m) (after_steps s n)) goes.1 ∙ runs_on s n goes.0 after goes.2
