-- What a step of the world leaves of the numbers of threads, and of the thread whose segment ends.
use Rattle.thread_core.proofs.Common.{◌≡◌, ℕ, zero, suc, ◌+◌, List, [], ◌∷◌, ◌++◌, Option, Some, None, refl, sym, ◌∙◌, ap, subst, cond_both, may_run, picked, picked_at, is_between, after_action, Pick, Blocked, Thread, World, Setting, thread_of, Move, Goes, Puts, Spawns, Blocks, Ends, step, GoesOn, Counts, counts_step, AreFrom, first_with-number}
use Rattle.machine_world.proofs.StepCases.{Ways, blocked_at, row_for, on_step, on_printed}
use Rattle.machine_meaning.proofs.Threads.{replaced_same, without_same}

-- one number more
pub are_from_one : (first : ℕ) (numbers : List ℕ) (end number : ℕ) → AreFrom first numbers end → number ≡ end → AreFrom first (numbers ++ number ∷ []) (end + 1)
are_from_one first [] end number h e = (e ∙ h, ap (λ (n : ℕ). n + 1) h)
are_from_one first (x ∷ numbers) end number h e = (h.0, are_from_one (first + 1) numbers end number h.1 e)

-- the thread is blocked
pub record IsBlockedIn (w : World) (number : ℕ) : Type 0 where
  pub thread : Thread
  pub there : thread_of w number ≡ Some thread
  pub blocked : Blocked
  pub at : thread.blocked ≡ Some blocked

-- the number of the next thread, and the thread at the end of its segment
abbrev pub Leaves : ℕ → World → Move → Type 0
Leaves number w (Goes after) = after.next ≡ w.next
Leaves number w (Puts value after) = after.next ≡ w.next
Leaves number w (Spawns started after) = (started ≡ w.next) × (after.next ≡ w.next + 1)
Leaves number w (Blocks after) = (after.next ≡ w.next) × IsBlockedIn after number
Leaves number w (Ends after) = (after.next ≡ w.next) × (thread_of after number ≡ None)
Leaves number w _ = Unit {0}

pub leaves_step : (s : Setting) (w : World) (number : ℕ) → w.running ≡ Some number → Leaves number w (step s w)
leaves_step s w number running =
    on_step s w (Leaves number w) (λ stop. tt) tt
    (λ other thread runs there left.
    let same : other ≡ number = cc in
    let own : thread.number ≡ number = first_with-number other w.threads thread there ∙ same in
    let found : thread_of w thread.number ≡ Some thread = subst (λ (n : ℕ). thread_of w n ≡ Some thread) (sym (first_with-number other w.threads thread there)) there in
    subst (λ (n : ℕ). Ways s w (Leaves n w) thread) own (record {
      goes = λ after e. refl;
      answers = λ ask still e. on_printed (Leaves thread.number w) (row_for s w thread ask).prints _ refl (λ word some. refl);
      blocks = λ block. (
        refl,
        record {
          thread = blocked_at w thread block;
          there = replaced_same (blocked_at w thread block) thread w.threads found;
          blocked = record { block = block; since = w.clock + 1 };
          at = refl;
        },
      );
      spawns = λ entry argument need still taken e few some. (refl, refl);
      ends = λ areas e. (refl, without_same thread.number w.threads);
    }))

pub goes_next : (s : Setting) (n : ℕ) (w at : World) → GoesOn s n w at → at.next ≡ w.next
goes_next s zero w at e = ap (λ (v : World). v.next) e
goes_next s (suc n) w at h = goes_next s n h.0 at h.2 ∙ (subst (Counts w) h.1 (counts_step s w)).next

-- and after the pick of a thread
abbrev NextIf : World → Option World → Type 0
NextIf w None = Unit {0}
NextIf w (Some after) = after.next ≡ w.next

next_picked_at : (s : Setting) (w : World) (thread : Thread) (blocked : Option Blocked) → NextIf w (Some (picked_at s w thread blocked))
next_picked_at s w thread None = refl
next_picked_at s w thread (Some blocked) = refl

next_picked : (s : Setting) (w : World) (found : Option Thread) → NextIf w (picked s w found)
next_picked s w None = tt
next_picked s w (Some thread) = cond_both (may_run s w thread.blocked) (Some (picked_at s w thread thread.blocked)) None (NextIf w) (λ _. next_picked_at s w thread thread.blocked) (λ _. tt)

pub picks_next : (s : Setting) (w after : World) (number : ℕ) → after_action s w (Pick number) ≡ Some after → after.next ≡ w.next
picks_next s w after number e =
    subst (NextIf w) e (cond_both (is_between w) (picked s w (thread_of w number)) None (NextIf w) (λ _. next_picked s w (thread_of w number)) (λ _. tt))
