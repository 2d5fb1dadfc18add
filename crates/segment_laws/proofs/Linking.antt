-- The far path of a linked transfer: LINK takes a chunk, and the call is made on it.
use Rattle.segment_laws.proofs.Common.{◌≡◌, ℕ, ◌+◌, ◌-◌, ◌<◌, ◌≤◌, Bool, true, cond, List, [], ◌∷◌, length, get_or, set, pos, Some, refl, ap, subst, ◌∙◌, arith, lit<, get_or-set_same, nat_eq, nat_lt, ◌||◌, lt-ltb, eq-eqb, cond_both, length-set, taken_for-leaves, taken_for-keeps, taken_for-shape, Instr, read, Op, FlatThread, LinkKind, kind_of, transfer_size, copies, Frame, Local, machine_of, local_step, linked, with_header, saved_sp, Checked, Whole, Linking, transfer_row, HasForm, copies-cons, IsChunk-chunk_of, words_of-payload}
use Rattle.cap_word.specs.Word as word
use Rattle.chunk_pool.specs.Pool.{Pool, Taken, taken_for, chunk_of, word_of as pool_word, with_word as with_pool_word, end_of, payload_place_of, IsPool, words_of, all_free}
use Rattle.segment_laws.proofs.Agreeing.{Agrees}
use Rattle.segment_laws.proofs.CallShapes.{CallShape}
use Rattle.segment_laws.proofs.Facts.{IsOperationAt}
use Rattle.segment_laws.proofs.Guards.{ecall_is}
use Rattle.segment_laws.proofs.Immediate.{add_immediate, is_a7}
use Rattle.segment_laws.proofs.Jumping.{moves_within, move-taken, relative-on}
use Rattle.segment_laws.proofs.Linked.{Tested, whole_word, linked_slice, does_bltu, none_bltu}
use Rattle.segment_laws.proofs.Registers.{add-small, word_of-small}
use Rattle.segment_laws.proofs.Simulation.{During}
use Rattle.segment_laws.proofs.Stacks.{word_of-other}
use Rattle.segment_laws.proofs.Ways.{IsGoodState, Leads, Leads-then}

-- ---- a header

word_same : (p : Pool) (chunk k value : ℕ) → chunk < length p.contents → k < length (chunk_of p chunk) → pool_word (with_pool_word p chunk k value) chunk k ≡ value
word_same p chunk k value there small =
    ap (λ (row : List ℕ). get_or row k 0) (get_or-set_same p.contents chunk (set (chunk_of p chunk) k value) [] there) ∙ get_or-set_same (chunk_of p chunk) k value 0 small

pub header_sp : (p : Pool) (chunk tp_now sp_now : ℕ) → IsPool p → chunk < p.count → saved_sp (with_header p chunk tp_now sp_now) chunk ≡ sp_now
header_sp p chunk tp_now sp_now sound lt =
    let there : chunk < length p.contents = omega (arith, sound.count_is, lt) in
    let long : length (chunk_of p chunk) ≡ words_of p chunk = (IsChunk-chunk_of p chunk sound lt).length in
    let fits = words_of-payload p chunk sound lt in
    let first : Pool = with_pool_word p chunk 0 tp_now in
    let there' : chunk < length first.contents = omega (arith, there, length-set p.contents chunk (set (chunk_of p chunk) 0 tp_now)) in
    let row : chunk_of first chunk ≡ set (chunk_of p chunk) 0 tp_now = get_or-set_same p.contents chunk (set (chunk_of p chunk) 0 tp_now) [] there in
    let long' : length (chunk_of first chunk) ≡ words_of p chunk = ap length row ∙ length-set (chunk_of p chunk) 0 tp_now ∙ long in
    word_same first chunk 1 sp_now there' (omega (arith, long', fits))

-- every word of another chunk stays
header_other : (p : Pool) (chunk tp_now sp_now other j : ℕ) → (other ≡ chunk → ⊥) → pool_word (with_header p chunk tp_now sp_now) other j ≡ pool_word p other j
header_other p chunk tp_now sp_now other j away =
    word_of-other (with_pool_word p chunk 0 tp_now) chunk 1 sp_now other j (λ e k. away e) ∙ word_of-other p chunk 0 tp_now other j (λ e k. away e)

-- ---- LINK

-- a chunk that a need takes stands in no chain
pub linked_agrees : (c : Checked) (l : Local) (need tp_now sp_now : ℕ) (taken : Taken) → HasForm c l → taken_for l.areas.pool need ≡ Some taken → Agrees l.areas.pool (with_header taken.pool taken.chunk tp_now sp_now) l.core.chain
linked_agrees c l need tp_now sp_now taken form e =
    let p = l.areas.pool in
    let keeps = taken_for-keeps p need taken e in
    let free : copies taken.chunk (all_free p) ≡ 1 + copies taken.chunk (all_free taken.pool) =
    taken_for-leaves p need taken e taken.chunk ∙ copies-cons taken.chunk taken.chunk (all_free taken.pool) ∙ ap (λ (b : Bool). cond b 1 0 + copies taken.chunk (all_free taken.pool)) (eq-eqb taken.chunk taken.chunk refl) in
    let most = form.owns.once taken.chunk in
    let one = cond_both (nat_lt taken.chunk p.count) 1 0 (λ (n : ℕ). n ≤ 1) (λ _. omega arith) (λ _. omega arith) in
    let none : copies taken.chunk l.core.chain ≡ 0 = omega (arith, free, most, one) in
    record {
      shape = taken_for-shape p need taken e;
      same = λ other there j.
          header_other taken.pool taken.chunk tp_now sp_now other j (λ same. let nothing : copies other l.core.chain ≡ 0 = ap (λ (k : ℕ). copies k l.core.chain) same ∙ none in omega (arith, nothing, there))
          ∙ ap (λ (q : Pool). pool_word q other j) keeps;
    }

-- what LINK leads to
abbrev pub after_link : Local → Taken → Local
after_link l taken = record {
  areas = record l.areas { pool = with_header taken.pool taken.chunk (read l.core.x 4) (read l.core.x 2) };
  core = Rattle.machine_world.specs.Local.after_call l.core (taken.chunk ∷ l.core.chain) (payload_place_of taken.pool taken.chunk) (end_of taken.pool taken.chunk);
}

-- the word of the second call instruction is one at which the caller's frame lies below the chunk that was linked
pub linking_row : (need n : ℕ) → transfer_row (LinkKind.Linked need) (n + 8) (Some n) ≡ Linking
linking_row need n = ap (λ (b : Bool). cond (b || nat_eq (n + 8) (n + 9) || nat_eq (n + 8) (n + 10)) Linking Whole) (eq-eqb (n + 8) (n + 8) refl)

-- the far path up to LINK
pub record AtLink (c : Checked) (code : List ℕ) (l : Local) (t : FlatThread) (op : Op) (need : ℕ) (frame : Frame) (below : List Frame) (s : CallShape c t.frame.function t.frame.next op) : Type 0 where
  pub at : Local
  pub leads : Leads c code 5 l at
  pub during : During c at t (s.before + 7) frame below
  pub need_is : read at.core.x 6 ≡ need
  pub good : IsGoodState c code at
  pub step : local_step code at ≡ linked at
  pub others : (r : ℕ) → (r ≡ 5 → ⊥) → (r ≡ 6 → ⊥) → (r ≡ 17 → ⊥) → read at.core.x r ≡ read l.core.x r

pub to_link : (c : Checked) (code : List ℕ) (l : Local) (t : FlatThread) (op : Op) (need : ℕ) (frame : Frame) (below : List Frame) → (there : IsOperationAt c code t.frame.function t.frame.next op) → (s : CallShape c t.frame.function t.frame.next op) → kind_of c.certificate op ≡ LinkKind.Linked need →
    (tested : Tested c code l t op need frame below s) → frame.low - need < payload_place_of tested.next.areas.pool frame.chunk → AtLink c code l t op need frame below s
to_link c code l t op need frame below there s is_linked tested short =
    let f = t.frame.function in
    let i = t.frame.next in
    let n = s.before in
    let l1 = tested.next in
    let test : nat_lt (read l1.core.x 5) (read l1.core.x 4) ≡ true = (λ k. nat_lt (tested.left k) (tested.during.inside.tp_is k)) ∙ lt-ltb (frame.low - need) (payload_place_of l1.areas.pool frame.chunk) short in
    let pc = tested.during.inside.pc in
    let room = there.room in
    let aligned = there.aligned in
    let size_is = s.size_is in
    let eleven : transfer_size (kind_of c.certificate op) ≡ 11 = ap transfer_size is_linked in
    let moved = moves_within c code l1 t (n + 3) (n + 6) op frame below (Instr.Bltu 5 4 (pos 12)) (l1.core.pc + 12) there (whole_word c code f i 3 need op s is_linked (omega arith)) tested.during (linked_slice c f i 3 need op (Instr.Bltu 5 4 (pos 12)) s is_linked refl)
    (does_bltu l1 ∙ move-taken l1 (pos 12) (nat_lt (read l1.core.x 5) (read l1.core.x 4)) (l1.core.pc + 12) test (relative-on (machine_of l1) 12 (omega (arith, pc, room, size_is, eleven))) (omega (arith, pc, aligned)))
    (none_bltu (machine_of l1)) (omega (arith, pc)) in
    let number = add_immediate c code moved.next t (n + 6) op frame below 17 0 1 (pos 1) there (whole_word c code f i 6 need op s is_linked (omega arith)) moved.during (linked_slice c f i 6 need op (Instr.Addi 17 0 (pos 1)) s is_linked refl) is_a7
    (ap (word.add 0) (word_of-small 1 (lit< tt)) ∙ add-small 0 1 (lit< tt)) in
    let seven : n + 6 + 1 ≡ n + 7 = omega arith in
    let during : During c number.next t (n + 7) frame below = subst (λ (k : ℕ). During c number.next t k frame below) seven number.during in
    let at = ecall_is c code number.next t (n + 7) 1 op frame below there (whole_word c code f i 7 need op s is_linked (omega arith)) during (linked_slice c f i 7 need op Instr.Ecall s is_linked refl) number.value_is in
    record {
      at = number.next;
      leads = Leads-then c code 4 1 l moved.next number.next (Leads-then c code 3 1 l l1 moved.next tested.leads moved.leads) number.leads;
      during = during;
      need_is = number.others 6 (λ e. omega arith) ∙ moved.registers 6 ∙ tested.need_is;
      good = at.1;
      step = at.0;
      others = λ r not_t0 not_t1 not_a7. number.others r not_a7 ∙ moved.registers r ∙ tested.others r not_t0 not_t1;
    }
