-- The guard of an index: in range it goes on behind the guard with the index in t0, and else it traps.
use Rattle.segment_laws.proofs.Common.{◌≡◌, ℕ, ◌+◌, ◌^◌, ◌<◌, ◌≤◌, ◌++◌, List, ◌∷◌, pos, true, false, Some, None, refl, sym, ap, subst, ◌∙◌, arith, slice_get, nat_lt, lt-ltb, le-ltb, Instr, accessed, effect, read, branches, Op, FlatThread, scalar, fact_at, guard, AreGlobals, Frame, IsGoodAccess, Checked}
use Rattle.cap_word.specs.Word as word
use Rattle.rv_machine.specs.Rows as rows
use Rattle.machine_world.specs.Local.{Local, LocalMove, machine_of, local_move, local_step, system_call, trapped}
use Rattle.segment_laws.proofs.Facts.{CodeFacts, IsOperationAt}
use Rattle.segment_laws.proofs.Immediate.{words_of, fetch_at, is_t0, is_t1, is_a0, is_a7, add_immediate, load_immediate}
use Rattle.segment_laws.proofs.Inside.{IsWholeWord, IsGoodState-inside, pc_next}
use Rattle.segment_laws.proofs.Jumping.{moves_within, relative-on, move-taken, move-passed}
use Rattle.segment_laws.proofs.Registers.{step-is, add-small, word_of-small}
use Rattle.segment_laws.proofs.Simulation.{During, IsOneWord, load_scalar}
use Rattle.segment_laws.proofs.Ways.{IsGoodState, Leads, Leads-then, ComesTo}

-- the words of an operation are the guard of an index below n, these behind it and others; this number of them is whole
pub record IsGuarded (c : Checked) (f i : ℕ) (op : Op) (x n kind count : ℕ) (behind : List Instr) : Type 0 where
  pub rest : List Instr
  pub words : words_of c f i op ≡ guard (fact_at c.certificate f) x n kind ++ (behind ++ rest)
  pub whole : (w : ℕ) → w < count → IsWholeWord c f w op
  pub one : IsOneWord c f x
  pub small : n < 2 ^ 32
  pub more : 7 < count

-- index and count in t0 and t1
record Compared (c : Checked) (code : List ℕ) (l : Local) (t : FlatThread) (frame : Frame) (below : List Frame) (k n : ℕ) : Type 0 where
  next : Local
  leads : Leads c code 3 l next
  during : During c next t 3 frame below
  index : read next.core.x 5 ≡ k
  count : read next.core.x 6 ≡ n

compares : (c : Checked) (code : List ℕ) (l : Local) (t : FlatThread) (op : Op) (frame : Frame) (below : List Frame) (x n kind k : ℕ) {count : ℕ}
    {behind : List Instr} → CodeFacts c code → IsOperationAt c code t.frame.function t.frame.next op →
    IsGuarded c t.frame.function t.frame.next op x n kind count behind → During c l t 0 frame below → scalar t x ≡ Some k → Compared c code l t frame below k n
compares c code l t op frame below x n kind k facts there guarded during value =
    let f = t.frame.function in
    let i = t.frame.next in
    let e = λ (w : ℕ). ap (λ (words : List Instr). slice_get words w) guarded.words in
    let first = load_scalar c code l t 0 op frame below 5 x k facts there (guarded.whole 0 (omega arith)) during
    (fetch_at c code l f i 0 op frame below _ there during.inside (e 0)) guarded.one value is_t0 in
    let second = load_immediate c code first.next t 1 op frame below 6 n there (guarded.whole 1 (omega arith)) (guarded.whole 2 (omega arith))
    first.during (e 1) (e 2) is_t1 guarded.small in
    record {
      next = second.next;
      leads = Leads-then c code 1 2 l first.next second.next first.leads second.leads;
      during = second.during;
      index = second.others 5 (λ e. absurd (omega arith)) ∙ first.value_is;
      count = second.value_is;
    }

pub does_bltu : (l : Local) (n : ℕ) → local_move l (effect (Instr.Bltu 5 6 (pos n)) (machine_of l)) ≡ local_move l (branches (machine_of l) (pos n) (nat_lt (read l.core.x 5) (read l.core.x 6)))
unfolding effect
does_bltu l n = refl

pub none_bltu : (m : rows.Machine) (n : ℕ) → accessed (Instr.Bltu 5 6 (pos n)) m ≡ None
unfolding accessed
none_bltu m n = refl

-- ---- in range

-- behind the guard, with the index in t0
pub record Guarded (c : Checked) (code : List ℕ) (l : Local) (t : FlatThread) (frame : Frame) (below : List Frame) (k : ℕ) : Type 0 where
  pub next : Local
  pub leads : Leads c code 4 l next
  pub during : During c next t 7 frame below
  pub index : read next.core.x 5 ≡ k

pub guard_passes : (c : Checked) (code : List ℕ) (l : Local) (t : FlatThread) (op : Op) (frame : Frame) (below : List Frame) (x n kind k : ℕ) {count : ℕ}
    {behind : List Instr} → CodeFacts c code → IsOperationAt c code t.frame.function t.frame.next op →
    IsGuarded c t.frame.function t.frame.next op x n kind count behind → During c l t 0 frame below → scalar t x ≡ Some k → k < n →
    Guarded c code l t frame below k
guard_passes c code l t op frame below x n kind k facts there guarded during value within =
    let f = t.frame.function in
    let i = t.frame.next in
    let compared = compares c code l t op frame below x n kind k facts there guarded during value in
    let test : nat_lt (read compared.next.core.x 5) (read compared.next.core.x 6) ≡ true = (λ i. nat_lt (compared.index i) (compared.count i)) ∙ lt-ltb k n within in
    let pc = compared.during.inside.pc in
    let room = there.room in
    let aligned = there.aligned in
    let more = (guarded.whole 7 guarded.more).small in
    let moved = moves_within c code compared.next t 3 7 op frame below (Instr.Bltu 5 6 (pos 16)) (compared.next.core.pc + 16) there
    (guarded.whole 3 (omega arith)) compared.during (ap (λ (words : List Instr). slice_get words 3) guarded.words)
    (does_bltu compared.next 16 ∙ move-taken compared.next (pos 16) _ (compared.next.core.pc + 16) test (relative-on (machine_of compared.next) 16 (omega (arith, pc, room, more))) (omega (arith, pc, aligned)))
    (none_bltu (machine_of compared.next) 16) (omega (arith, pc)) in
    record {
      next = moved.next;
      leads = Leads-then c code 3 1 l compared.next moved.next compared.leads moved.leads;
      during = moved.during;
      index = moved.registers 5 ∙ compared.index;
    }

-- ---- out of range

does_ecall : (l : Local) → local_move l (effect Instr.Ecall (machine_of l)) ≡ system_call l (read l.core.x 17)
unfolding effect
does_ecall l = refl

none_ecall : (m : rows.Machine) → accessed Instr.Ecall m ≡ None
unfolding accessed
none_ecall m = refl

-- at an ECALL in a word of an operation
pub ecall_is : (c : Checked) (code : List ℕ) (l : Local) (t : FlatThread) (w n : ℕ) (op : Op) (frame : Frame) (below : List Frame) → IsOperationAt c code t.frame.function t.frame.next op → IsWholeWord c t.frame.function w op → During c l t w frame below →
    slice_get (words_of c t.frame.function t.frame.next op) w ≡ Some Instr.Ecall → read l.core.x 17 ≡ n → (local_step code l ≡ system_call l n) × IsGoodState c code l
ecall_is c code l t w n op frame below there whole during e number =
    let fetch = fetch_at c code l t.frame.function t.frame.next w op frame below Instr.Ecall there during.inside e in (
      step-is code l Instr.Ecall fetch ∙ does_ecall l ∙ ap (system_call l) number,
      IsGoodState-inside c code l t.frame.function t.frame.next w op frame below Instr.Ecall there whole during.inside fetch (subst (IsGoodAccess c (frame ∷ below)) (sym (none_ecall (machine_of l))) tt),
    )

-- at the ECALL of a trap, with the globals as they were
pub record AtTrap (c : Checked) (code : List ℕ) (l : Local) (t : FlatThread) (move : LocalMove) : Type 0 where
  pub comes : ComesTo c code 6 l move
  pub globals : AreGlobals c.flat t.globals comes.at.areas.globals

pub guard_traps : (c : Checked) (code : List ℕ) (l : Local) (t : FlatThread) (op : Op) (frame : Frame) (below : List Frame) (x n kind k : ℕ) {count : ℕ}
    {behind : List Instr} → CodeFacts c code → IsOperationAt c code t.frame.function t.frame.next op →
    IsGuarded c t.frame.function t.frame.next op x n kind count behind → During c l t 0 frame below → scalar t x ≡ Some k → n ≤ k → kind < 2048 →
    AtTrap c code l t (trapped kind)
guard_traps c code l t op frame below x n kind k facts there guarded during value past small =
    let f = t.frame.function in
    let i = t.frame.next in
    let compared = compares c code l t op frame below x n kind k facts there guarded during value in
    let test : nat_lt (read compared.next.core.x 5) (read compared.next.core.x 6) ≡ false = (λ i. nat_lt (compared.index i) (compared.count i)) ∙ le-ltb k n past in
    let e = λ (w : ℕ). ap (λ (words : List Instr). slice_get words w) guarded.words in
    let w3 = guarded.whole 3 (omega arith) in
    let moved = moves_within c code compared.next t 3 4 op frame below (Instr.Bltu 5 6 (pos 16)) (word.add compared.next.core.pc 4) there
    w3 compared.during (e 3)
    (does_bltu compared.next 16 ∙ move-passed compared.next (pos 16) _ test) (none_bltu (machine_of compared.next) 16)
    (pc_next c code compared.next f i 3 op there w3.small compared.during.inside.pc) in
    let kind_put = add_immediate c code moved.next t 4 op frame below 10 0 kind (pos kind) there (guarded.whole 4 (omega arith)) moved.during (e 4) is_a0
    (ap (word.add 0) (word_of-small kind (omega arith)) ∙ add-small 0 kind (omega arith) ∙ (let e : 0 + kind ≡ kind = omega arith in e)) in
    let number_put = add_immediate c code kind_put.next t 5 op frame below 17 0 31 (pos 31) there (guarded.whole 5 (omega arith)) kind_put.during (e 5) is_a7
    (ap (word.add 0) (word_of-small 31 (omega arith)) ∙ add-small 0 31 (omega arith)) in
    let at = ecall_is c code number_put.next t 6 31 op frame below there (guarded.whole 6 (omega arith)) number_put.during (e 6) number_put.value_is in
    let kind_is : read number_put.next.core.x 10 ≡ kind = number_put.others 10 (λ e. absurd (omega arith)) ∙ kind_put.value_is in
    let leads = Leads-then c code 4 1 l moved.next kind_put.next (Leads-then c code 3 1 l compared.next moved.next compared.leads moved.leads) kind_put.leads in
    record {
      comes = record {
        at = number_put.next;
        leads = Leads-then c code 5 1 l kind_put.next number_put.next leads number_put.leads;
        good = at.1;
        move_is = at.0 ∙ ap trapped kind_is;
      };
      globals = number_put.during.globals;
    }
