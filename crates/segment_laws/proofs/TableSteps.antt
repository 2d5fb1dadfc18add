-- Calls through a table of flat code, and the machine that stands for it.
use Rattle.segment_laws.proofs.Common.{◌≡◌, ℕ, zero, suc, ◌+◌, ◌*◌, ◌^◌, ◌<◌, ◌≤◌, Bool, List, [], ◌∷◌, length, get_or, pos, Option, Some, refl, sym, ap, ◌∙◌, arith, ⊎_elim, cases_lt, lt-ltb, le-ltb, Finish, Goes, Stops, TrapKind, read, Op, members_of, FlatThread, Finished, Lost, pushed, FlatMove, scalar, where_in, trapped, enters, enters_by, fact_at, table_address, member_count, kind_of, Frame, Local, Checked}
use Rattle.cap_word.specs.Word as word
use Rattle.segment_laws.proofs.Calling.{row_before}
use Rattle.segment_laws.proofs.Facts.{CodeFacts, IsOperationAt}
use Rattle.segment_laws.proofs.FlatSteps.{goes_same}
use Rattle.segment_laws.proofs.Guards.{IsGuarded, guard_passes}
use Rattle.segment_laws.proofs.Immediate.{fetch_at, is_t1, is_a0, load_immediate}
use Rattle.segment_laws.proofs.Inside.{IsWholeWord}
use Rattle.segment_laws.proofs.LocalArrays.{scales, adds}
use Rattle.segment_laws.proofs.Registers.{add-small, word_of-small}
use Rattle.segment_laws.proofs.Simulation.{During, load_scalar}
use Rattle.segment_laws.proofs.Straight.{one_word}
use Rattle.segment_laws.proofs.Ways.{Leads, Leads-then}
use Rattle.segment_laws.proofs.Entries.{count_is, few_members, load_entry}

-- ---- the words before the transfer

whole_word : (c : Checked) (f site t i x w : ℕ) (d : Option ℕ) → w < 13 → IsWholeWord c f w (Op.CallTable site d t i x)
whole_word c f site t i x w d lt = record { small = omega arith; row_is = row_before (kind_of c.certificate (Op.CallTable site d t i x)) 13 w (omega arith) }

pub guarded : (c : Checked) (code : List ℕ) (f n site t i x : ℕ) (d : Option ℕ) → CodeFacts c code → IsOperationAt c code f n (Op.CallTable site d t i x) →
    IsGuarded c f n (Op.CallTable site d t i x) i (member_count c.flat t) 2 13 []
guarded c code f n site t i x d facts there =
    let count = count_is c t there.formed.0 in
    let few = few_members c t there.formed.0 facts.tables_small in
    record {
      rest = _;
      words = refl;
      whole = λ w lt. whole_word c f site t i x w d (omega arith);
      one = one_word c f i there.formed.1;
      small = omega (arith, count, few);
      more = omega arith;
    }

-- the argument in a0 and the entry of the member in t2
pub record IsReadied (c : Checked) (code : List ℕ) (l : Local) (t : FlatThread) (frame : Frame) (below : List Frame) (entry v : ℕ) : Type 0 where
  pub next : Local
  pub leads : Leads c code 10 l next
  pub during : During c next t 13 frame below
  pub entry_is : read next.core.x 7 ≡ entry
  pub argument : read next.core.x 10 ≡ v

pub readies : (c : Checked) (code : List ℕ) (l : Local) (t : FlatThread) (site table i x k v : ℕ) (d : Option ℕ) (frame : Frame) (below : List Frame) → CodeFacts c code → IsOperationAt c code t.frame.function t.frame.next (Op.CallTable site d table i x) → During c l t 0 frame below →
    scalar t i ≡ Some k → scalar t x ≡ Some v → k < length (members_of c.flat table) → (fact_at c.certificate (get_or (members_of c.flat table) k 0)).entry < 2 ^ 32 →
    IsReadied c code l t frame below (fact_at c.certificate (get_or (members_of c.flat table) k 0)).entry v
readies c code l t site table i x k v d frame below facts there during index value inside small =
    let op = Op.CallTable site d table i x in
    let f = t.frame.function in
    let n = t.frame.next in
    let entry = (fact_at c.certificate (get_or (members_of c.flat table) k 0)).entry in
    let whole = (λ (w : ℕ) (lt : w < 13). whole_word c f site table i x w d lt) in
    let count = count_is c table there.formed.0 in
    let few = few_members c table there.formed.0 facts.tables_small in
    let address = table_address c.flat table + 4 * k in
    let far : address < 2 ^ 32 = (let has = Rattle.segment_laws.proofs.Entries.HasEntry-at c table k there.formed.0 inside in omega (arith, has.address, has.inside, facts.tables_small)) in
    let passed = guard_passes c code l t op frame below i (member_count c.flat table) 2 k facts there (guarded c code f n site table i x d facts there) during index (omega (arith, inside, count)) in
    let scaled = scales c code passed.next t op frame below k there (whole 7 (omega arith)) passed.during refl passed.index (omega (arith, inside, few)) in
    let set = load_immediate c code scaled.next t 8 op frame below 6 (table_address c.flat table) there (whole 8 (omega arith)) (whole 9 (omega arith)) scaled.during refl refl is_t1 (omega (arith, far)) in
    let summed = adds c code set.next t 10 op frame below 6 (4 * k) (table_address c.flat table) address there (whole 10 (omega arith)) set.during refl
    (set.others 5 (λ e. absurd (omega arith)) ∙ scaled.value_is) set.value_is
    (add-small (4 * k) (table_address c.flat table) (omega (arith, far)) ∙ (let e : 4 * k + table_address c.flat table ≡ address = omega arith in e)) in
    let loaded = load_entry c code summed.next t 11 op frame below table k entry (pos 0) facts there (whole 11 (omega arith)) summed.during (fetch_at c code summed.next f n 11 op frame below _ there summed.during.inside refl) there.formed.0 inside refl small
    ((λ j. word.add (summed.value_is j) (word_of-small 0 (omega arith) j)) ∙ add-small address 0 (omega (arith, far)) ∙ (let e : address + 0 ≡ address = omega arith in e)) in
    let argument = load_scalar c code loaded.next t 12 op frame below 10 x v facts there (whole 12 (omega arith)) loaded.during (fetch_at c code loaded.next f n 12 op frame below _ there loaded.during.inside refl) (one_word c f x there.formed.2) value is_a0 in
    record {
      next = argument.next;
      leads = Leads-then c code 9 1 l loaded.next argument.next
          (Leads-then c code 8 1 l summed.next loaded.next
          (Leads-then c code 7 1 l set.next summed.next
          (Leads-then c code 5 2 l scaled.next set.next (Leads-then c code 4 1 l passed.next scaled.next passed.leads scaled.leads) set.leads) summed.leads) loaded.leads) argument.leads;
      during = argument.during;
      entry_is = argument.others 7 (λ e. absurd (omega arith)) ∙ loaded.value_is;
      argument = argument.value_is;
    }

-- ---- the call

abbrev pub entered : Checked → FlatThread → ℕ → ℕ → FlatThread
entered c t g v = record { frame = pushed c.flat g (v ∷ []); below = t.frame ∷ t.below; globals = t.globals }

-- a single argument
pub first_argument : (xs : List ℕ) (v : ℕ) → read xs 10 ≡ v → (j : ℕ) → j < 1 → read xs (10 + j) ≡ get_or (v ∷ []) j 0
first_argument xs v e zero lt = e
first_argument xs v e (suc j) lt = absurd (omega arith)

-- ---- a step of the flat thread

pub lost_never : (finish : Finish) → (let m : FlatMove = Stops Lost in m) ≡ Stops (Finished finish) → ⊥
lost_never finish e = cc

pub not_lost_goes : (t : FlatThread) → (let m : FlatMove = Stops Lost in m) ≡ Goes t → ⊥
not_lost_goes t e = cc

-- the index was in range
pub was_member : (c : Checked) (t after : FlatThread) (table k v : ℕ) → enters_by (members_of c.flat table) c.flat t k v ≡ Goes after → (k < length (members_of c.flat table)) × (entered c t (get_or (members_of c.flat table) k 0) v ≡ after)
was_member c t after table k v e =
    let move : FlatMove = enters c.flat t (get_or (members_of c.flat table) k 0) (v ∷ []) in
    ⊎_elim
    (λ (inside : k < length (members_of c.flat table)).
    (inside, goes_same (entered c t (get_or (members_of c.flat table) k 0) v) after (sym (ap (λ (b : Bool). where_in b t TrapKind.Table move) (lt-ltb k (length (members_of c.flat table)) inside)) ∙ e)))
    (λ (past : length (members_of c.flat table) ≤ k).
    absurd (let trap : trapped t TrapKind.Table ≡ Goes after = sym (ap (λ (b : Bool). where_in b t TrapKind.Table move) (le-ltb k (length (members_of c.flat table)) past)) ∙ e in cc))
    (cases_lt k (length (members_of c.flat table)))
