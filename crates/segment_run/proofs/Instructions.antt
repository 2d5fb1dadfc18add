-- One instruction of the machine over the areas is one step of the thread.
use Rattle.segment_run.proofs.Common.{◌≡◌, ℕ, List, Result, Ok, Err, refl, sym, ap, subst, ◌∙◌, Stops, IsPool, shape_of, with_stored, Outcome, instruction_at, started, outcome, answer, regs_after, memory_after, TellsWords, Regs, Areas, spot_of, with_byte, KeepsShape, Local, Wrong, machine_of, local_move, local_step, system_call, IsCore, KeepsShape-step, Checked, Instr, IsSafe, IsSafeMove, thread_of, Thread, FaultKind, bytes_on}
use Rattle.cap_word.specs.Runs as runs
use Rattle.rv_machine.specs.Rows as rows
use Rattle.rv_machine.specs.declared.results.StepResult.TheVariants as results
use Rattle.rv_machine.proofs.WordLaws.{TellsWords-outcome}
use Rattle.segment_run.proofs.Chains.{chain_from-stored}

told : (code : List ℕ) (l : Local) → IsCore l.core → TellsWords (outcome code (machine_of l))
told code l is = TellsWords-outcome code (machine_of l) (record {
  pc = is.pc;
  count = is.count;
  registers = is.registers;
  bytes = λ at. bytes_on l.areas (spot_of l.areas at);
})

-- what the code tells of one instruction: its answer, the registers and the areas then
pub record Told (code : List ℕ) (areas after : Areas) (thread : Thread) (regs : Regs) (o : Outcome) : Type 0 where
  pub outcome_is : outcome code (machine_of (thread_of areas thread)) ≡ o
  pub registers : regs ≡ regs_after o thread.regs
  pub memory : after ≡ memory_after with_byte o areas

-- it went on
pub went : (code : List ℕ) (areas after : Areas) (thread : Thread) (regs : Regs) (o : Outcome) → Told code areas after thread regs o → IsPool areas.pool → IsCore (thread_of areas thread).core →
    results.Went ≡ answer o thread.regs → local_step code (thread_of areas thread) ≡ runs.Goes (thread_of after (record thread { regs = regs }))
unfolding local_step
went code areas after thread regs (rows.Goes pc x stored) is sound core answered =
    let l = thread_of areas thread in
    let stored_areas = with_stored with_byte stored areas in
    let new : Thread = record thread { regs = record { pc = pc; x = x } } in
    let words : TellsWords (rows.Goes pc x stored) = subst TellsWords is.outcome_is (told code l core) in
    let goes : local_step code l ≡ runs.Goes (record { areas = stored_areas; core = record { pc = pc; x = x; chain = l.core.chain } }) = ap (local_move l) is.outcome_is in
    let shape : shape_of stored_areas.pool ≡ shape_of areas.pool = subst (KeepsShape l) goes (KeepsShape-step code l) in
    let chain = chain_from-stored areas pc thread.chunk thread.depth x stored sound words shape in
    goes
    ∙ ap (λ (chain : List ℕ). runs.Goes (record { areas = stored_areas; core = record { pc = pc; x = x; chain = chain } })) (sym chain)
    ∙ (λ i. runs.Goes (thread_of (sym is.memory i) (record thread { regs = sym is.registers i })))
went code areas after thread regs (rows.Asks number) is sound core answered = absurd (cc)
went code areas after thread regs (rows.Fails kind) is sound core answered = absurd (cc)

-- it is an ECALL
pub record IsAsked (code : List ℕ) (areas after : Areas) (thread : Thread) (regs : Regs) (number : ℕ) : Type 0 where
  pub calls : local_step code (thread_of areas thread) ≡ system_call (thread_of areas thread) number
  pub areas_are : after ≡ areas
  pub registers_are : regs ≡ thread.regs

pub asked : (code : List ℕ) (areas after : Areas) (thread : Thread) (regs : Regs) (number : ℕ) (o : Outcome) → Told code areas after thread regs o →
    results.Call number ≡ answer o thread.regs → IsAsked code areas after thread regs number
unfolding local_step
asked code areas after thread regs number (rows.Goes pc x stored) is answered = absurd (cc)
asked code areas after thread regs number (rows.Asks n) is answered =
    let same : number ≡ n = cc in
    record {
      calls = ap (local_move (thread_of areas thread)) is.outcome_is ∙ ap (system_call (thread_of areas thread)) (sym same);
      areas_are = is.memory;
      registers_are = is.registers;
    }
asked code areas after thread regs number (rows.Fails kind) is answered = absurd (cc)

-- it is a fault
pub failed : (code : List ℕ) (areas after : Areas) (thread : Thread) (regs : Regs) (pc : ℕ) (kind : FaultKind) (o : Outcome) → Told code areas after thread regs o →
    results.Fault pc kind ≡ answer o thread.regs → local_step code (thread_of areas thread) ≡ Stops Wrong
unfolding local_step
failed code areas after thread regs pc kind (rows.Goes pc' x stored) is answered = absurd (cc)
failed code areas after thread regs pc kind (rows.Asks n) is answered = absurd (cc)
failed code areas after thread regs pc kind (rows.Fails kind') is answered = ap (local_move (thread_of areas thread)) is.outcome_is

-- an instruction stands where a safe thread is
no_fault : (c : Checked) (code : List ℕ) (l : Local) (found : Result Instr FaultKind) → instruction_at code l.core.pc ≡ found → IsSafeMove c l (local_step code l) → (instr : Instr) × (instruction_at code l.core.pc ≡ Ok instr)
unfolding local_step outcome started
no_fault c code l (Ok instr) e move = (instr, e)
no_fault c code l (Err kind) e move =
    let wrong : local_step code l ≡ Stops Wrong = ap (λ (found : Result Instr FaultKind). local_move l (started found (machine_of l))) e in
    absurd (subst (IsSafeMove c l) wrong move)

pub stands_at : (c : Checked) (code : List ℕ) (l : Local) → IsSafe c code l → (instr : Instr) × (instruction_at code l.core.pc ≡ Ok instr)
stands_at c code l safe = no_fault c code l (instruction_at code l.core.pc) refl safe.move
