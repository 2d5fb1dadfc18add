-- A run by ready operations goes on by one operation.
use Rattle.segment_run.proofs.Common.{◌≡◌, ℕ, zero, suc, ◌+◌, ◌-◌, ◌<◌, List, [], ◌∷◌, length, Option, Some, None, Ok, refl, sym, ap, subst, ◌∙◌, arith, slice_get, IfSome, place_at, ready_effect, second, third, DoesAs, AreReady, Kind, Ready, Areas, IsWellFormed, Checked, Regs, HasForm, StaysSafe, Thread, Instr, instruction_at, Run, IsIn, machine_at, IsReadyIn, IsKindAt, GoesOn, WentOn, thread_of, IsUnderWay}
use Rattle.segment_run.proofs.Instructions.{stands_at}
use Rattle.segment_run.proofs.ReadyTurns.{is_ready, goes, step_of_turn}
use Rattle.segment_run.proofs.UnderWay.{safe_now, begun}

-- ---- where a run begins

abbrev pub run_of : Checked → List ℕ → Areas → Thread → ℕ → Run
run_of checked code areas thread fuel = record { checked = checked; code = code; thread = thread; start = thread_of areas thread; fuel = fuel }

pub begins : (checked : Checked) (code : List ℕ) (areas : Areas) (thread : Thread) (fuel : ℕ) (ready : List Ready) (at : ℕ) (x : List ℕ) →
    IsWellFormed checked.flat → HasForm checked (thread_of areas thread) → StaysSafe checked code (thread_of areas thread) → AreReady code (length code) ready →
    place_at at ≡ thread.regs.pc → x ≡ thread.regs.x → IsIn (run_of checked code areas thread fuel) ready areas x at fuel
begins checked code areas thread fuel ready at x formed form safe are pc same = record {
  formed = formed;
  safe = safe;
  are_ready = are;
  way = subst (λ (regs : Regs). IsUnderWay checked code (thread_of areas thread) fuel (thread_of areas (record thread { regs = regs })) fuel)
      (λ i. record { pc = sym pc i; x = sym same i }) (begun checked code (thread_of areas thread) fuel form);
}

-- ---- one operation more

pub standing : (run : Run) (ready : List Ready) (areas : Areas) (x : List ℕ) (at left : ℕ) → IsIn run ready areas x at left → (instr : Instr) × (instruction_at run.code (place_at at) ≡ Ok instr)
standing run ready areas x at left is =
    let now = thread_of areas (record run.thread { regs = record { pc = place_at at; x = x } }) in
    stands_at run.checked run.code now (safe_now run.checked run.code run.start now run.fuel left is.safe is.way)

pub op_in : (run : Run) (ready : List Ready) (areas : Areas) (x : List ℕ) (at left : ℕ) (op : Ready) → IsIn run ready areas x at left → slice_get ready at ≡ Some op → IsReadyIn run.code at op
op_in run ready areas x at left op is got =
    let s = standing run ready areas x at left is in
    is_ready run.code ready at s.0 op is.are_ready s.1 is.way.form.core.pc got

pub goes_in : (run : Run) (ready : List Ready) (areas : Areas) (x : List ℕ) (at left : ℕ) (op : Ready) → IsIn run ready areas x at left → 0 < left → slice_get ready at ≡ Some op →
    GoesOn (ready_effect op (machine_at areas at x))
goes_in run ready areas x at left op is some got =
    let now = thread_of areas (record run.thread { regs = record { pc = place_at at; x = x } }) in
    goes run.checked run.code run.start now run.fuel left (ready_effect op (machine_at areas at x)) is.formed is.safe is.way some
    ((op_in run ready areas x at left op is got).does (machine_at areas at x) refl)

pub went_in : (run : Run) (ready : List Ready) (areas after : Areas) (x x_after : List ℕ) (at next left left_next : ℕ) (op : Ready) → IsIn run ready areas x at left → left_next + 1 ≡ left →
    slice_get ready at ≡ Some op → WentOn (ready_effect op (machine_at areas at x)) areas after next x_after → IsIn run ready after x_after next left_next
went_in run ready areas after x x_after at next left left_next op is less got went =
    let less_is : left - 1 ≡ left_next = omega (arith, less) in
    record {
      formed = is.formed;
      safe = is.safe;
      are_ready = is.are_ready;
      way = subst (λ (k : ℕ). IsUnderWay run.checked run.code run.start run.fuel (thread_of after (record run.thread { regs = record { pc = place_at next; x = x_after } })) k) less_is
          (step_of_turn run.checked run.code run.start areas after run.thread at next run.fuel left x x_after (ready_effect op (machine_at areas at x)) is.formed is.safe is.way (omega (arith, less))
          ((op_in run ready areas x at left op is got).does (machine_at areas at x) refl) went);
    }

pub if_some : {X : Type 0} {P Q : X → Type 0} (found : Option X) → IfSome found P → ((x : X) → P x → Q x) → IfSome found Q
if_some None is more = tt
if_some (Some x) is more = more x is

-- ---- nothing has changed

pub unchanged : (run : Run) (ready : List Ready) (areas after : Areas) (x x_after : List ℕ) (at left : ℕ) → after ≡ areas → x_after ≡ x → IsIn run ready areas x at left → IsIn run ready after x_after at left
unchanged run ready areas after x x_after at left same_areas same_x is =
    subst (λ (a : Areas). IsIn run ready a x_after at left) (sym same_areas) (subst (λ (y : List ℕ). IsIn run ready areas y at left) (sym same_x) is)

-- ---- the operations behind one that begins a group

pub second_at : (words : List ℕ) (ready : List Ready) (at : ℕ) (op : Ready) (k behind : Kind) → AreReady words (length words) ready → slice_get ready at ≡ Some op → op.kind ≡ k → second k ≡ Some behind → IsKindAt ready (at + 1) behind
second_at words ready at op k behind are there is is_second = λ next got.
    let before : IfSome (second op.kind) (λ o. DoesAs o next.kind) = (are.groups at op next there got).0 in
    subst (λ (found : Option Kind). IfSome found (λ o. DoesAs o next.kind)) (ap second is ∙ is_second) before

one_before : {X : Type 0} (xs : List X) (k : ℕ) (x : X) → slice_get xs (k + 1) ≡ Some x → (y : X) × (slice_get xs k ≡ Some y)
one_before [] k x e = absurd (cc)
one_before (y ∷ xs) zero x e = (y, refl)
one_before (y ∷ xs) (suc k) x e = let same : suc (k + 1) ≡ suc k + 1 = omega arith in one_before xs k x (ap (slice_get (y ∷ xs)) same ∙ e)

pub third_at : (words : List ℕ) (ready : List Ready) (at : ℕ) (op : Ready) (k last : Kind) → AreReady words (length words) ready → slice_get ready at ≡ Some op → op.kind ≡ k → third k ≡ Some last → IsKindAt ready (at + 2) last
third_at words ready at op k last are there is end = λ after got.
    let place : at + 2 ≡ (at + 1) + 1 = omega arith in
    let got_it = ap (slice_get ready) (sym place) ∙ got in
    let next = one_before ready (at + 1) after got_it in
    let begins : IfSome (third op.kind) (λ o. second next.0.kind ≡ Some o) = (are.groups at op next.0 there next.1).1 in
    let pair : second next.0.kind ≡ Some last = subst (λ (found : Option Kind). IfSome found (λ o. second next.0.kind ≡ Some o)) (ap third is ∙ end) begins in
    second_at words ready (at + 1) next.0 next.0.kind last are next.1 refl pair after got_it
