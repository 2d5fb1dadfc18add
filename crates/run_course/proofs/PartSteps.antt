-- What a part of a step comes to, the step comes to that ends with it.
use Rattle.run_course.proofs.Common.{◌≡◌, ◌∙◌, ◌<◌, ◌≤◌, ◌||◌, ℕ, Bool, true, false, Option, Some, None, Result, Ok, Err, refl, sym, ap, subst, arith, IfErr, IfOk, OnOk, if◌then◌else◌, Setup, State, CountsPart, Kept, Output, FallsTo, due_at, long_rank, next_rank, rank, stuck_rank, turn_rank, under_rank, Rest, PartEnds, StepEnds, Under, Failure, Halt, Next, any_ready_in, Held}
use Rattle.run_course.specs.GoingOn.{going_on}

ends_on : (g : Setup) (state : State) (before : Rest) (k : Kept) (held : Held) (left : Rest) (taken written : Output) (part : Result (Unit {0}) Failure)
    → PartEnds g state before k held left taken written part → StepEnds g state before k held left taken written (going_on part)
ends_on g state before k held left taken written (Ok _) ends = ends
ends_on g state before k held left taken written (Err failure) ends = ends

pub part_ends : (g : Setup) (state : State) (before : Rest) (k : Kept) (held : Held) (left : Rest) (taken written : Output) (part : Result (Unit {0}) Failure)
    (step : Result (Option Halt) Failure) → step ≡ going_on part → PartEnds g state before k held left taken written part → StepEnds g state before k held left taken written step
part_ends g state before k held left taken written part step is ends =
    subst (λ (s : Result (Option Halt) Failure). StepEnds g state before k held left taken written s) (sym is) (ends_on g state before k held left taken written part ends)

counts_on : (part : Result (Unit {0}) Failure) (writes writes' : ℕ) → CountsPart part writes writes' → CountsPart (going_on part) writes writes'
counts_on (Ok _) writes writes' counts = counts
counts_on _ writes writes' counts = counts

pub part_counts : (part : Result (Unit {0}) Failure) (step : Result (Option Halt) Failure) (writes writes' : ℕ) → step ≡ going_on part → CountsPart part writes writes'
    → CountsPart step writes writes'
part_counts part step writes writes' is counts = subst (λ (s : Result (Option Halt) Failure). CountsPart s writes writes') (sym is) (counts_on part writes writes' counts)

-- where only memory can want
memory_on : (part : Result (Unit {0}) Failure) (writes : ℕ) → IfErr part (λ failure. failure ≡ Failure.Memory) → CountsPart (going_on part) writes writes
memory_on (Ok _) writes only = refl
memory_on (Err failure) writes only = subst (λ (f : Failure). CountsPart {V = Option Halt} (Err f) writes writes) (sym only) refl

pub memory_counts : (part : Result (Unit {0}) Failure) (step : Result (Option Halt) Failure) (writes : ℕ) → step ≡ going_on part
    → IfErr part (λ failure. failure ≡ Failure.Memory) → CountsPart step writes writes
memory_counts part step writes is only = subst (λ (s : Result (Option Halt) Failure). CountsPart s writes writes) (sym is) (memory_on part writes only)

unrefused_on : (P : Type 0) (part : Result (Unit {0}) Failure) → OnOk part P → OnOk (going_on part) P
unrefused_on P (Ok _) holds = holds
unrefused_on P (Err failure) holds = tt

pub part_unrefused : (P : Type 0) (part : Result (Unit {0}) Failure) (step : Result (Option Halt) Failure) → step ≡ going_on part → OnOk part P → OnOk step P
part_unrefused P part step is holds = subst (λ (s : Result (Option Halt) Failure). OnOk s P) (sym is) (unrefused_on P part holds)

onwards : (P Q : Type 0) (part : Result (Unit {0}) Failure) → (P → Q) → OnOk part P → OnOk part Q
onwards P Q (Ok _) f holds = f holds
onwards P Q (Err failure) f holds = tt

pub holds_on_ok : {V : Type 0} (P : Type 0) (part : Result V Failure) → P → OnOk part P
holds_on_ok P (Ok _) holds = holds
holds_on_ok P (Err failure) holds = tt

pub given_on_ok : (A P : Type 0) (part : Result (Unit {0}) Failure) → IfOk part (λ _. A → P) → A → OnOk part P
given_on_ok A P (Ok _) f holds = f holds
given_on_ok A P (Err failure) f holds = tt

-- ---- how much is still to do

pub stuck_small : (next : Next) (held : Held) → stuck_rank next held ≤ 1
stuck_small next held = by (due_at next held.machine.clock || any_ready_in held) where
  by : (b : Bool) → (if b then 0 else 1) ≤ 1
  by true = omega arith
  by false = omega arith

next_small : (next : Next) → next_rank next ≤ 2
next_small (Next.Event event) = omega arith
next_small _ = omega arith

long_first : (old new : Kept) (before after : Held) → long_rank new after < long_rank old before → rank new after < rank old before
long_first old new before after less =
    let next = next_small new.next in
    let stuck = stuck_small new.next after in
    omega (arith, next, stuck, less)

falls_on : (part : Result (Unit {0}) Failure) (old new : ℕ) → OnOk part (new < old) → FallsTo old (going_on part) new
falls_on (Ok _) old new falls = falls
falls_on (Err failure) old new falls = tt

pub part_falls : (part : Result (Unit {0}) Failure) (step : Result (Option Halt) Failure) → step ≡ going_on part → (old new : Kept) (before after : Held)
    → OnOk part (long_rank new after < long_rank old before) → FallsTo (rank old before) step (rank new after)
part_falls part step is old new before after falls =
    subst (λ (s : Result (Option Halt) Failure). FallsTo (rank old before) s (rank new after)) (sym is)
    (falls_on part (rank old before) (rank new after) (onwards _ _ part (long_first old new before after) falls))

-- a segment is over that was under way
pub over_falls : (part : Result (Unit {0}) Failure) (old new : Kept) (held : Held) (under : Under) → old.under ≡ Some under → turn_rank under.turn ≡ 2
    → OnOk part (new.under ≡ None) → OnOk part (long_rank new held < long_rank old held)
over_falls part old new held under is two over =
    let was : under_rank old.under ≡ 2 = ap under_rank is ∙ two in
    onwards _ _ part (λ none. let now : under_rank new.under ≡ 1 = ap under_rank none in omega (arith, was, now)) over
