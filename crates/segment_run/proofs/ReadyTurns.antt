-- A ready operation of a thread that never comes to a fault is a step of the machine.
use Rattle.segment_run.proofs.Common.{◌≡◌, ◌≢◌, inl, inr, ℕ, zero, suc, ◌+◌, ◌-◌, ◌/◌, ◌%◌, ◌^◌, ◌<◌, ◌≤◌, Bool, true, false, List, [], ◌∷◌, length, Option, Some, None, Result, Ok, Err, refl, sym, ap, subst, ◌∙◌, arith, ◌==◌, nat_lt, slice_get, if◌then◌else◌, IfSome, cond-true, cond-false, cases_eq, cases_lt, eq-eqb, ne_eqb, lt-ltb, FaultKind, place_at, done, done_as, ready_effect, branches_to, AreReady, DoesAs, IsReadyAt, Kind, Ready, IsWellFormed, Areas, with_byte, Local, machine_of, local_move, local_step, Checked, decoding, Instr, Nothing, Word, word_at, word_is_writable, with_word, with_stored, read, write, Machine, Outcome, next, passes, sets, jumps, loads, found, word_loaded, word_stored, stores, code_start, code_word, decoded, fetched, instruction_at, started, outcome, IsReadyIn, machine_at, GoesOn, WentOn, IsSafeMove, StaysSafe, thread_of, IsUnderWay, Thread}
use Rattle.cap_word.specs.Runs as runs
use Rattle.cap_word.specs.Word.{add}
use Rattle.cap_word.specs.declared.faults.FaultKind.TheVariants as faults
use Rattle.rv_machine.specs.Rows as rows
use Rattle.segment_run.proofs.Fetching.{fetched_at}
use Rattle.segment_run.proofs.Instructions.{went, stands_at}
use Rattle.segment_run.proofs.UnderWay.{safe_now, goes_on}

-- ---- where an instruction stands

misaligned : (code : List ℕ) (pc : ℕ) → pc % 4 ≢ 0 → instruction_at code pc ≡ Err faults.Misaligned
unfolding instruction_at
misaligned code pc apart = cond-false (pc % 4 == 0) (fetched (code_word code pc)) (Err faults.Misaligned) (ne_eqb (pc % 4) 0 apart)

before_code : (code : List ℕ) (pc : ℕ) → pc % 4 ≡ 0 → pc < 4096 → instruction_at code pc ≡ Err faults.Fetch
unfolding instruction_at
before_code code pc aligned low =
    cond-true (pc % 4 == 0) (fetched (code_word code pc)) (Err faults.Misaligned) (eq-eqb (pc % 4) 0 aligned)
    ∙ ap fetched (cond-true (nat_lt pc code_start) None (slice_get code ((pc - code_start) / 4)) (lt-ltb pc code_start low))

pub record Stands (code : List ℕ) (pc : ℕ) : Type 0 where
  pub aligned : pc % 4 ≡ 0
  pub low : 4096 ≤ pc
  pub word : ℕ
  pub there : slice_get code ((pc - 4096) / 4) ≡ Some word
  pub is : instruction_at code pc ≡ decoded (decoding word)

no_fault : {X : Type 0} (kind : FaultKind) (instr : Instr) (found : Result Instr FaultKind) → found ≡ Err kind → found ≡ Ok instr → X
no_fault kind instr found wrong right = absurd (let both = sym wrong ∙ right in cc)

stands_found : (code : List ℕ) (pc : ℕ) (instr : Instr) (word : Option ℕ) → instruction_at code pc ≡ Ok instr → pc % 4 ≡ 0 → 4096 ≤ pc → slice_get code ((pc - 4096) / 4) ≡ word → Stands code pc
stands_found code pc instr None e aligned low there = no_fault faults.Fetch instr (instruction_at code pc) (fetched_at code pc None aligned low there) e
stands_found code pc instr (Some word) e aligned low there =
    record { aligned = aligned; low = low; word = word; there = there; is = fetched_at code pc (Some word) aligned low there }

pub stands : (code : List ℕ) (pc : ℕ) (instr : Instr) → instruction_at code pc ≡ Ok instr → Stands code pc
stands code pc instr e = elim (cases_eq (pc % 4) 0) [
  | inl aligned ↦ elim (cases_lt pc 4096) [
    | inl low ↦ no_fault faults.Fetch instr (instruction_at code pc) (before_code code pc aligned low) e
    | inr high ↦ stands_found code pc instr (slice_get code ((pc - 4096) / 4)) e aligned high refl
  ]
  | inr apart ↦ no_fault faults.Misaligned instr (instruction_at code pc) (misaligned code pc apart) e
]

-- ---- the operation there

word_of_index : (code : List ℕ) (at : ℕ) (s : Stands code (place_at at)) → slice_get code at ≡ Some s.word
word_of_index code at s =
    let same : (place_at at - 4096) / 4 ≡ at = omega arith in
    ap (slice_get code) (sym same) ∙ s.there

below_length : (code : List ℕ) (at word : ℕ) → slice_get code at ≡ Some word → at < length code
below_length [] at word e = absurd (cc)
below_length (w ∷ code) zero word e = omega arith
below_length (w ∷ code) (suc at) word e = let low = below_length code at word e in omega (arith, low)

pub in_list : (code : List ℕ) (ready : List Ready) (at : ℕ) (instr : Instr) → AreReady code (length code) ready → instruction_at code (place_at at) ≡ Ok instr → at < length ready
in_list code ready at instr are e =
    let s = stands code (place_at at) instr e in
    let low = below_length code at s.word (word_of_index code at s) in
    omega (arith, low, are.count_is)

pub is_ready : (code : List ℕ) (ready : List Ready) (at : ℕ) (instr : Instr) (op : Ready) → AreReady code (length code) ready → instruction_at code (place_at at) ≡ Ok instr → place_at at < 2 ^ 32 →
    slice_get ready at ≡ Some op → IsReadyIn code at op
unfolding outcome
is_ready code ready at instr op are e fits got =
    let s = stands code (place_at at) instr e in
    let one : IsReadyAt op (place_at at) (decoding s.word) = are.each at s.word op fits (word_of_index code at s) got in
    record {
      registers = record { writes = one.writes; rd = one.rd; rs1 = one.rs1; rs2 = one.rs2 };
      does = λ m pc.
          let here : instruction_at code m.pc ≡ decoded (decoding s.word) = ap (instruction_at code) pc ∙ s.is in
          subst (λ (o : Outcome). IfSome (ready_effect op m) (λ found. o ≡ found)) (ap (λ (i : Result Instr FaultKind). started i m) (sym here)) (one.does m pc);
    }

-- ---- it goes on

goes_as : (c : Checked) (code : List ℕ) (start now : Local) (left left_now : ℕ) (o : Outcome) → IsWellFormed c.flat → StaysSafe c code start → IsUnderWay c code start left now left_now → 0 < left_now →
    outcome code (machine_of now) ≡ o → GoesOn (Some o)
unfolding local_step
goes_as c code start now left left_now (rows.Goes pc x stored) formed safe way fuel is =
    let after : Local = record { areas = with_stored with_byte stored now.areas; core = record { pc = pc; x = x; chain = now.core.chain } } in
    let step : local_step code now ≡ runs.Goes after = ap (local_move now) is in
    let further = goes_on c code start now after left left_now (left_now - 1) formed safe way step (omega (arith, fuel)) in
    let at = stands_at c code after (safe_now c code start after left (left_now - 1) safe further) in
    let s = stands code pc at.0 at.1 in
    (s.aligned, s.low)
goes_as c code start now left left_now (rows.Asks number) formed safe way fuel is = tt
goes_as c code start now left left_now (rows.Fails kind) formed safe way fuel is =
    subst (IsSafeMove c now) (ap (local_move now) is) (safe_now c code start now left left_now safe way).move

pub goes : (c : Checked) (code : List ℕ) (start now : Local) (left left_now : ℕ) (found : Option Outcome) → IsWellFormed c.flat → StaysSafe c code start → IsUnderWay c code start left now left_now → 0 < left_now →
    IfSome found (λ o. outcome code (machine_of now) ≡ o) → GoesOn found
goes c code start now left left_now None formed safe way fuel is = tt
goes c code start now left left_now (Some o) formed safe way fuel is = goes_as c code start now left left_now o formed safe way fuel is

-- ---- it went on

pub step_of_turn : (c : Checked) (code : List ℕ) (start : Local) (areas after : Areas) (thread : Thread) (at next_at left left_now : ℕ) (x x_after : List ℕ) (found : Option Outcome) →
    IsWellFormed c.flat → StaysSafe c code start → IsUnderWay c code start left (thread_of areas (record thread { regs = record { pc = place_at at; x = x } })) left_now → 0 < left_now →
    IfSome found (λ o. outcome code (machine_at areas at x) ≡ o) → WentOn found areas after next_at x_after →
    IsUnderWay c code start left (thread_of after (record thread { regs = record { pc = place_at next_at; x = x_after } })) (left_now - 1)
step_of_turn c code start areas after thread at next_at left left_now x x_after found formed safe way fuel is turn =
    let here : Thread = record thread { regs = record { pc = place_at at; x = x } } in
    let there : Thread = record thread { regs = record { pc = place_at next_at; x = x_after } } in
    let came : outcome code (machine_at areas at x) ≡ rows.Goes (place_at next_at) x_after turn.stored = subst (λ (f : Option Outcome). IfSome f (λ o. outcome code (machine_at areas at x) ≡ o)) turn.outcome is in
    let step : local_step code (thread_of areas here) ≡ runs.Goes (thread_of after there) =
    went code areas after here there.regs (rows.Goes (place_at next_at) x_after turn.stored)
    (record { outcome_is = came; registers = refl; memory = turn.memory }) way.form.areas.pool way.form.core refl in
    goes_on c code start (thread_of areas here) (thread_of after there) left left_now (left_now - 1) formed safe way step (omega (arith, fuel))

-- ---- the forms of what an operation comes to

pub set_went : (found : Option Outcome) (areas : Areas) (at rd value : ℕ) (x x_after : List ℕ) → place_at at < 2 ^ 32 → GoesOn found → found ≡ Some (sets (machine_at areas at x) rd value) → x_after ≡ write x rd value →
    WentOn found areas areas (at + 1) x_after
unfolding sets add
set_went found areas at rd value x x_after fits goes is written =
    let place : (next (machine_at areas at x) % 4 ≡ 0) × (code_start ≤ next (machine_at areas at x)) = subst GoesOn is goes in
    let behind : next (machine_at areas at x) ≡ place_at (at + 1) = omega (arith, fits, place.1) in
    record { stored = Nothing; outcome = is ∙ (λ i. Some (rows.Goes (behind i) (sym written i) Nothing)); memory = refl }

pub load_goes : (m : Machine) (rd : ℕ) (loaded : Result ℕ FaultKind) → GoesOn (Some (loads m rd loaded)) → (word : ℕ) × (loaded ≡ Ok word)
unfolding loads
load_goes m rd (Ok word) goes = (word, refl)
load_goes m rd (Err kind) goes = absurd goes

pub load_went : (found : Option Outcome) (areas : Areas) (at rd word : ℕ) (loaded : Result ℕ FaultKind) (x x_after : List ℕ) → place_at at < 2 ^ 32 → GoesOn found → found ≡ Some (loads (machine_at areas at x) rd loaded) →
    loaded ≡ Ok word → x_after ≡ write x rd word → WentOn found areas areas (at + 1) x_after
unfolding loads
load_went found areas at rd word loaded x x_after fits goes is there written =
    set_went found areas at rd word x x_after fits goes (is ∙ ap (λ (r : Result ℕ FaultKind). Some (loads (machine_at areas at x) rd r)) there) written

pub store_goes : (m : Machine) (address value : ℕ) → GoesOn (Some (word_stored m address value)) → (address % 4 ≡ 0) × (word_is_writable m.writable address ≡ true)
unfolding word_stored
store_goes m address value goes = elim (cases_eq (address % 4) 0) [
  | inl aligned ↦ (
    aligned,
    may (word_is_writable m.writable address)
        (subst (λ (o : Outcome). GoesOn (Some o)) (cond-true (address % 4 == 0) (stores m (word_is_writable m.writable address) (Word address value)) (rows.Fails faults.Misaligned) (eq-eqb (address % 4) 0 aligned)) goes),
  )
  | inr apart ↦ absurd (subst (λ (o : Outcome). GoesOn (Some o)) (cond-false (address % 4 == 0) (stores m (word_is_writable m.writable address) (Word address value)) (rows.Fails faults.Misaligned) (ne_eqb (address % 4) 0 apart)) goes)
]
  where
    may : (writable : Bool) → GoesOn (Some (stores m writable (Word address value))) → writable ≡ true
    may true goes = refl
    may false goes = absurd goes

pub store_went : (found : Option Outcome) (areas after : Areas) (at address value : ℕ) (x : List ℕ) → place_at at < 2 ^ 32 → GoesOn found → found ≡ Some (word_stored (machine_at areas at x) address value) →
    after ≡ with_word with_byte areas address value → WentOn found areas after (at + 1) x
unfolding word_stored add
store_went found areas after at address value x fits goes is stored =
    let m = machine_at areas at x in
    let may = store_goes m address value (subst GoesOn is goes) in
    let whole : word_stored m address value ≡ rows.Goes (next m) x (Word address value) =
    cond-true (address % 4 == 0) (stores m (word_is_writable m.writable address) (Word address value)) (rows.Fails faults.Misaligned) (eq-eqb (address % 4) 0 may.0)
    ∙ ap (λ (b : Bool). stores m b (Word address value)) may.1 in
    let place : (next m % 4 ≡ 0) × (code_start ≤ next m) = subst GoesOn (is ∙ ap Some whole) goes in
    let behind : next m ≡ place_at (at + 1) = omega (arith, fits, place.1) in
    record { stored = Word address value; outcome = is ∙ ap Some whole ∙ (λ i. Some (rows.Goes (behind i) x (Word address value))); memory = stored }

pub jump_went : (found : Option Outcome) (areas : Areas) (at rd target index : ℕ) (x x_after : List ℕ) → GoesOn found → found ≡ Some (jumps (machine_at areas at x) rd target) →
    (target % 4 ≡ 0 → 4096 ≤ target → place_at index ≡ target) → x_after ≡ write x rd (next (machine_at areas at x)) → WentOn found areas areas index x_after
unfolding jumps
jump_went found areas at rd target index x x_after goes is leads written =
    let m = machine_at areas at x in
    let yes = rows.Goes target (write x rd (next m)) Nothing in
    let no : Outcome = rows.Fails faults.Misaligned in
    elim (cases_eq (target % 4) 0) [
      | inl aligned ↦
          let whole : found ≡ Some yes = is ∙ ap Some (cond-true (target % 4 == 0) yes no (eq-eqb (target % 4) 0 aligned)) in
          let place : (target % 4 ≡ 0) × (code_start ≤ target) = subst GoesOn whole goes in
          record { stored = Nothing; outcome = whole ∙ (λ i. Some (rows.Goes (sym (leads place.0 place.1) i) (sym written i) Nothing)); memory = refl }
      | inr apart ↦ absurd (subst GoesOn (is ∙ ap Some (cond-false (target % 4 == 0) yes no (ne_eqb (target % 4) 0 apart))) goes)
    ]

pub branch_went : (found : Option Outcome) (areas : Areas) (at to index : ℕ) (x : List ℕ) (taken : Bool) → place_at at < 2 ^ 32 → GoesOn found → found ≡ Some (branches_to (machine_at areas at x) to taken) →
    index ≡ (if taken then to else at + 1) → WentOn found areas areas index x
unfolding passes add
branch_went found areas at to index x true fits goes is leads =
    record { stored = Nothing; outcome = is ∙ (λ i. Some (rows.Goes (place_at (sym leads i)) x Nothing)); memory = refl }
branch_went found areas at to index x false fits goes is leads =
    let place : (next (machine_at areas at x) % 4 ≡ 0) × (code_start ≤ next (machine_at areas at x)) = subst GoesOn is goes in
    let behind_it : index ≡ at + 1 = leads in
    let behind : next (machine_at areas at x) ≡ place_at index = omega (arith, fits, place.1, behind_it) in
    record { stored = Nothing; outcome = is ∙ (λ i. Some (rows.Goes (behind i) x Nothing)); memory = refl }

-- ---- a word that is loaded

from_found : (o : Option ℕ) (word : ℕ) → found o ≡ Ok word → o ≡ Some word
from_found (Some value) word e = let same : value ≡ word = cc in ap Some same
from_found None word e = absurd (cc)

pub loaded_ok : (bytes : ℕ → Option ℕ) (at word : ℕ) → word_loaded bytes at ≡ Ok word → (at % 4 ≡ 0) × (word_at bytes at ≡ Some word)
unfolding word_loaded
loaded_ok bytes at word e = elim (cases_eq (at % 4) 0) [
  | inl aligned ↦ (aligned, from_found (word_at bytes at) word (sym (cond-true (at % 4 == 0) (found (word_at bytes at)) (Err faults.Misaligned) (eq-eqb (at % 4) 0 aligned)) ∙ e))
  | inr apart ↦ absurd (let both = sym (cond-false (at % 4 == 0) (found (word_at bytes at)) (Err faults.Misaligned) (ne_eqb (at % 4) 0 apart)) ∙ e in cc)
]

-- ---- an operation as one of a kind

pub by_kind : (kind : Kind) (op : Ready) (a b : ℕ) (m : Machine) → DoesAs kind op.kind → a ≡ read m.x op.rs1 → b ≡ read m.x op.rs2 → ready_effect op m ≡ done_as kind op a b m
unfolding done
by_kind kind op a b m does first second = (λ i. done op (sym first i) (sym second i) m) ∙ sym (does op a b m)
