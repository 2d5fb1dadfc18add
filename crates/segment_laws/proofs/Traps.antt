-- Traps: the machine comes to the ECALL of the trap with the globals as they were.
use Rattle.segment_laws.proofs.Common.{◌≡◌, ℕ, ◌≤◌, List, length, get_or, set, Option, Some, sym, ap, subst, ◌∙◌, arith, Finish, width, word_at, with_word, Goes, Stops, TrapKind, Instr, Op, function_at, members_of, FlatThread, Finished, standing, FlatMove, variable, passed, set_to, on, scalar, puts, within, enters_by, does, flat_step, global_words, member_count, Local, Trapped, Checked}
use Rattle.segment_laws.proofs.Facts.{CodeFacts, IsOperationAt}
use Rattle.segment_laws.proofs.FlatSteps.{was_there, IsStraight, function_there}
use Rattle.segment_laws.proofs.Guards.{IsGuarded, AtTrap, guard_traps}
use Rattle.segment_laws.proofs.Simulation.{Simulates}
use Rattle.segment_laws.proofs.FlatMoves.{NoFinish, goes_alone, past_of}
use Rattle.segment_laws.proofs.Entries.{count_is}
use Rattle.segment_laws.proofs.TableSteps.{guarded, lost_never}
use Rattle.segment_laws.proofs.GlobalOps as array
use Rattle.segment_laws.proofs.GlobalOps.{widths_are, global_there}
use Rattle.segment_laws.proofs.LocalArrays as local
use Rattle.segment_laws.specs.Straight.{TrapsAlike}
use Rattle.segment_laws.specs.Tables.{TableTrapsAlike}

-- the flat thread's trap, and the machine at it
pub record TrapsWith (c : Checked) (code : List ℕ) (l : Local) (t : FlatThread) (kind : TrapKind) (finish : Finish) : Type 0 where
  pub finish_is : finish ≡ record { trap = Some kind; globals = t.globals }
  pub at : AtTrap c code l t (Stops (Trapped kind))

-- ---- an operation that stays in its frame

-- a guarded index was out of range
index_traps : (c : Checked) (code : List ℕ) (l : Local) (t : FlatThread) (op : Op) (x n k : ℕ) (finish : Finish) {count : ℕ} {behind : List Instr} →
    CodeFacts c code → IsOperationAt c code t.frame.function t.frame.next op → IsGuarded c t.frame.function t.frame.next op x n 1 count behind →
    Simulates c l t → scalar t x ≡ Some k → n ≤ k → finish ≡ record { trap = Some TrapKind.Index; globals = t.globals } →
    TrapsWith c code l t TrapKind.Index finish
index_traps c code l t op x n k finish facts there guarded simulates value past finish_is =
    let at = guard_traps c code l t op simulates.frame simulates.below x n 1 k facts there guarded simulates.during value past (omega arith) in
    record { finish_is = finish_is; at = at }

pub straight_trap : (c : Checked) (code : List ℕ) (l : Local) (t : FlatThread) (op : Op) (finish : Finish) → CodeFacts c code →
    IsOperationAt c code t.frame.function t.frame.next op → Simulates c l t → IsStraight op → does c.flat t op ≡ Stops (Finished finish) →
    TrapsWith c code l t TrapKind.Index finish
straight_trap c code l t (Op.LoadLocal d a x) finish facts there simulates straight e =
    let op = Op.LoadLocal d a x in
    let f = t.frame.function in
    let move = λ (k : ℕ) (row : List ℕ). within t k (length row) (puts t d (get_or row k 0)) in
    let lost = lost_never finish in
    let index = was_there (scalar t x) (λ k. on (variable t.frame a) (move k)) (Stops (Finished finish)) e lost in
    let row = was_there (variable t.frame a) (move index.value) (Stops (Finished finish)) index.move lost in
    let past = past_of t index.value (length row.value) TrapKind.Index _ finish tt row.move in
    let count = simulates.during.shape.words a row.value row.is in
    let guarded = local.load_element c code f t.frame.next d a x facts there in
    index_traps c code l t op x (get_or (function_at c.flat f).sizes a 0) index.value finish facts there guarded simulates index.is
    (omega (arith, past.0, count)) past.1
straight_trap c code l t (Op.StoreLocal a x y) finish facts there simulates straight e =
    let op = Op.StoreLocal a x y in
    let f = t.frame.function in
    let move : ℕ → ℕ → List ℕ → FlatMove = λ k v row. within t k (length row) (Goes (record t { frame = passed (set_to t.frame a (set row k v)) })) in
    let lost = lost_never finish in
    let index = was_there (scalar t x) (λ k. on (scalar t y) (λ v. on (variable t.frame a) (move k v))) (Stops (Finished finish)) e lost in
    let value = was_there (scalar t y) (λ v. on (variable t.frame a) (move index.value v)) (Stops (Finished finish)) index.move lost in
    let row = was_there (variable t.frame a) (move index.value value.value) (Stops (Finished finish)) value.move lost in
    let past = past_of t index.value (length row.value) TrapKind.Index _ finish tt row.move in
    let count = simulates.during.shape.words a row.value row.is in
    let guarded = local.store_element c code f t.frame.next a x y facts there in
    index_traps c code l t op x (get_or (function_at c.flat f).sizes a 0) index.value finish facts there guarded simulates index.is
    (omega (arith, past.0, count)) past.1
straight_trap c code l t (Op.LoadArray d g x) finish facts there simulates straight e =
    let op = Op.LoadArray d g x in
    let width_is = widths_are c.flat t.globals l.areas.globals g simulates.during.globals (global_there c.flat g there.formed.1) in
    let index = was_there (scalar t x) (λ k. within t k (width t.globals g) (puts t d (word_at t.globals g k))) (Stops (Finished finish)) e (lost_never finish) in
    let past = past_of t index.value (width t.globals g) TrapKind.Index (puts t d (word_at t.globals g index.value)) finish tt index.move in
    let guarded = array.load_element c code t.frame.function t.frame.next d g x facts there in
    index_traps c code l t op x (global_words c.flat g) index.value finish facts there guarded simulates index.is (omega (arith, past.0, width_is)) past.1
straight_trap c code l t (Op.StoreArray g x y) finish facts there simulates straight e =
    let op = Op.StoreArray g x y in
    let width_is = widths_are c.flat t.globals l.areas.globals g simulates.during.globals (global_there c.flat g there.formed.0) in
    let move : ℕ → ℕ → FlatMove = λ k v. within t k (width t.globals g) (Goes (record t { frame = passed t.frame; globals = with_word t.globals g k v })) in
    let index = was_there (scalar t x) (λ k. on (scalar t y) (move k)) (Stops (Finished finish)) e (lost_never finish) in
    let value = was_there (scalar t y) (move index.value) (Stops (Finished finish)) index.move (lost_never finish) in
    let past = past_of t index.value (width t.globals g) TrapKind.Index _ finish tt value.move in
    let guarded = array.store_element c code t.frame.function t.frame.next g x y facts there in
    index_traps c code l t op x (global_words c.flat g) index.value finish facts there guarded simulates index.is (omega (arith, past.0, width_is)) past.1
straight_trap c code l t (Op.Call site d g args) finish facts there simulates straight e = absurd straight
straight_trap c code l t (Op.CallTable site d table i x) finish facts there simulates straight e = absurd straight
straight_trap c code l t (Op.Model site d n args) finish facts there simulates straight e = absurd straight
straight_trap c code l t (Op.Spawn site d g x) finish facts there simulates straight e = absurd straight
straight_trap c code l t (Op.Return x) finish facts there simulates straight e = absurd straight
straight_trap c code l t op finish facts there simulates straight e = absurd (subst NoFinish e (goes_alone c.flat t op (λ stops. stops)))

-- so its trap is the machine's
pub step_traps : (c : Checked) (code : List ℕ) (l : Local) (t : FlatThread) (finish : Finish) (op : Op) → CodeFacts c code → Simulates c l t →
    standing c.flat t.frame ≡ Some op → IsStraight op → flat_step c.flat t ≡ Stops (Finished finish) → TrapsAlike c code l t finish
step_traps c code l t finish op facts simulates is straight e =
    let step : does c.flat t op ≡ Stops (Finished finish) = sym (ap (λ (o : Option Op). on o (does c.flat t)) is) ∙ e in
    let there = facts.operation t.frame.function t.frame.next op (function_there c l t simulates) is in
    let traps = straight_trap c code l t op finish facts there simulates straight step in
    record { steps = 6; comes = traps.at.comes; same = traps.finish_is }

-- ---- tables

pub table_trap : (c : Checked) (code : List ℕ) (l : Local) (t : FlatThread) (site table i x : ℕ) (d : Option ℕ) (finish : Finish) → CodeFacts c code → IsOperationAt c code t.frame.function t.frame.next (Op.CallTable site d table i x) → Simulates c l t → does c.flat t (Op.CallTable site d table i x) ≡ Stops (Finished finish) →
    TrapsWith c code l t TrapKind.Table finish
table_trap c code l t site table i x d finish facts there simulates e =
    let op : Op = Op.CallTable site d table i x in
    let index = was_there (scalar t i) (λ k. on (scalar t x) (enters_by (members_of c.flat table) c.flat t k)) (Stops (Finished finish)) e (lost_never finish) in
    let value = was_there (scalar t x) (enters_by (members_of c.flat table) c.flat t index.value) (Stops (Finished finish)) index.move (lost_never finish) in
    let past = past_of t index.value (length (members_of c.flat table)) TrapKind.Table _ finish tt value.move in
    let count = count_is c table there.formed.0 in
    record {
      finish_is = past.1;
      at = guard_traps c code l t op simulates.frame simulates.below i (member_count c.flat table) 2 index.value facts there
          (guarded c code t.frame.function t.frame.next site table i x d facts there) simulates.during index.is (omega (arith, past.0, count)) (omega arith);
    }

pub table_trap_alike : (c : Checked) (code : List ℕ) (l : Local) (t : FlatThread) (finish : Finish) (site table i x : ℕ) (d : Option ℕ) →
    CodeFacts c code → Simulates c l t → standing c.flat t.frame ≡ Some (Op.CallTable site d table i x) → flat_step c.flat t ≡ Stops (Finished finish) →
    TableTrapsAlike c code l t finish
table_trap_alike c code l t finish site table i x d facts simulates stands step =
    let op : Op = Op.CallTable site d table i x in
    let there = facts.operation t.frame.function t.frame.next op (function_there c l t simulates) stands in
    let move : does c.flat t op ≡ Stops (Finished finish) = sym (ap (λ (o : Option Op). on o (does c.flat t)) stands) ∙ step in
    let traps = table_trap c code l t site table i x d finish facts there simulates move in
    record { steps = 6; comes = traps.at.comes; same = traps.finish_is }
