-- Every live thread is in place, at each moment.
use Rattle.machine_meaning.proofs.Common.{◌≡◌, ℕ, ◌+◌, ◌≤◌, nat_eq, List, [], ◌∷◌, Option, Some, None, refl, sym, ap, subst, ◌∙◌, arith, ⊎_elim, AllByRecursion, cases_eq, cond-true, cond-false, eq-eqb, ne_eqb, Segment, ProgramTree, Pool, IsInPlace, Core, RiseBetween, Checked, InPrologue, InOperation, IsResting, AtStart, AtCall, PastCall, IsFramedStep, IsFramedNext, IsSound, Thread, World, Setting, first_with, thread_of, local_in, IsWellFormed, IsSettledIf, IsSettled, IsUnderWay}

rests_in_place : (c : Checked) (pool : Pool) (core : Core) → IsResting c pool core → IsInPlace c pool core
rests_in_place c pool core (AtStart f frames in_place) = (InPrologue f 0, frames, in_place)
rests_in_place c pool core (AtCall f i op word frames in_place) = (InOperation f i word, frames, in_place.frames_are)
rests_in_place c pool core (PastCall f i op word place frames in_place) = (place, frames, in_place.frames_are)

-- a number that is found is not below the first
found_from : (from next n : ℕ) (threads : List Thread) (t : Thread) → RiseBetween from next threads → first_with n threads ≡ Some t → from ≤ n
found_from from next n [] t rise found = absurd cc
found_from from next n (u ∷ us) t rise found = ⊎_elim
    (λ (same : u.number ≡ n). omega (arith, rise.0, same))
    (λ apart. let rest = found_from (u.number + 1) next n us t rise.1 (sym (cond-false (nat_eq u.number n) (Some u) (first_with n us) (ne_eqb u.number n apart)) ∙ found) in omega (arith, rise.0, rest))
    (cases_eq u.number n)

-- what holds of each thread that is found by its number holds of all
pub each_live : (P : Thread → Type 0) (from next : ℕ) (threads : List Thread) → RiseBetween from next threads → ((n : ℕ) (t : Thread) → first_with n threads ≡ Some t → P t) → AllByRecursion P threads
each_live P from next [] rise each = tt
each_live P from next (t ∷ ts) rise each = (
  each t.number t (cond-true (nat_eq t.number t.number) (Some t) (first_with t.number ts) (eq-eqb t.number t.number refl)),
  each_live P (t.number + 1) next ts rise.1 (λ n u found.
      let later = found_from (t.number + 1) next n ts u rise.1 found in
      each n u (cond-false (nat_eq t.number n) (Some t) (first_with n ts) (ne_eqb t.number n (λ e. omega (arith, e, later))) ∙ found)),
)

settled_in_place : (c : Checked) (pool : Pool) (o : Option Thread) (t : Thread) → o ≡ Some t → IsSettledIf c pool o → IsInPlace c pool t.core
settled_in_place c pool None t e h = absurd cc
settled_in_place c pool (Some u) t e h = let same : u ≡ t = cc in subst (λ (v : Thread). IsInPlace c pool v.core) same (rests_in_place c pool u.core h.0)

pub settled_sound : (c : Checked) (s : Setting) (w : World) → IsWellFormed c s w → IsSettled c w → IsSound c w
settled_sound c s w formed settled = record {
  in_place = each_live (λ thread. IsInPlace c w.areas.pool thread.core) 0 w.next w.threads formed.counted.numbered (λ n t found. settled_in_place c w.areas.pool (thread_of w n) t found (settled.threads n));
  partition = formed.counted.partition;
}

pub under_way_sound : (c : Checked) (program : ProgramTree) (s : Setting) (w : World) (segment : Segment) → IsWellFormed c s w → IsUnderWay c program s w segment → IsSound c w × IsFramedNext c s w w.running
under_way_sound c program s w segment formed u =
    let along = u.runs.along u.steps (local_in w u.thread) u.comes in
    let good = along.good in
    let own : IsInPlace c w.areas.pool u.thread.core = (good.place, good.frames, good.in_place) in (
      record {
        in_place = each_live (λ thread. IsInPlace c w.areas.pool thread.core) 0 w.next w.threads formed.counted.numbered (λ n t found. ⊎_elim
            (λ (same : n ≡ segment.number).
            let both : Some u.thread ≡ Some t = sym u.live ∙ ap (λ (k : ℕ). thread_of w k) (sym same) ∙ found in
            let equal : u.thread ≡ t = cc in
            subst (λ (v : Thread). IsInPlace c w.areas.pool v.core) equal own)
            (λ (apart : n ≡ segment.number → ⊥). settled_in_place c w.areas.pool (thread_of w n) t found (u.settled n apart))
            (cases_eq n segment.number));
        partition = formed.counted.partition;
      },
      subst (IsFramedNext c s w) (sym u.running) (subst (IsFramedStep c s w) (sym u.live) (good.place, good.frames, good.in_place, good.access)),
    )
