-- The words of the tables are the entries of the members, table by table; one of them is loaded by a thread within an
-- operation.
use Rattle.segment_laws.proofs.Common.{◌≡◌, ℕ, ◌+◌, ◌-◌, ◌*◌, ◌/◌, ◌^◌, ◌<◌, ◌≤◌, List, [], ◌∷◌, length, get_or, map, take, ℤ, Some, Ok, refl, sym, ap, subst, ◌∙◌, arith, inr, sum_by, flat_map, length-map, get_or-map, length-flat_map, get_or-flat_map, sum_by-cons, word_of, Instr, accessed, read, instruction_at, Op, members_of, FlatThread, fact_at, table_address, member_count, Areas, tables_place, Frame, IsGoodAccess, Local, machine_of, Checked, member_entries}
use Rattle.std.proofs.lemmas.List.Folds.{length-flat_map-take}
use Rattle.cap_word.specs.Word as word
use Rattle.segment_laws.proofs.Facts.{CodeFacts, IsOperationAt, Fit-areas}
use Rattle.segment_laws.proofs.Immediate.{is_t2}
use Rattle.segment_laws.proofs.Inside.{IsWholeWord, set_register}
use Rattle.segment_laws.proofs.Registers.{effect-lw}
use Rattle.segment_laws.proofs.Simulation.{During, Sets, Sets-register}
use Rattle.segment_laws.proofs.Words.{TableWord, loaded-table}

-- the entries of the members of one table
abbrev pub entries_of : Checked → List ℕ → List ℕ
entries_of c members = map (λ g. (fact_at c.certificate g).entry) members

same_sums : (c : Checked) (rows : List (List ℕ)) → sum_by (λ members. length (entries_of c members)) rows ≡ sum_by length rows
same_sums c [] = refl
same_sums c (row ∷ rows) =
    sum_by-cons (λ members. length (entries_of c members)) row rows
    ∙ (λ i. length-map row (λ g. (fact_at c.certificate g).entry) i + same_sums c rows i)
    ∙ sym (sum_by-cons length row rows)

-- the members of a table that is there are few
pub count_is : (c : Checked) (t : ℕ) → t < length c.flat.tables → member_count c.flat t ≡ length (members_of c.flat t)
count_is c t there = get_or-map length c.flat.tables t [] 0 there

pub few_members : (c : Checked) (t : ℕ) → t < length c.flat.tables → length (member_entries c) ≤ 65536 → length (members_of c.flat t) ≤ 65536
few_members c t there few =
    let room = length-flat_map-take (entries_of c) c.flat.tables t [] there in
    let count = length-map (members_of c.flat t) (λ g. (fact_at c.certificate g).entry) in
    omega (arith, room, count, few)

-- what is known of entry k of table t
pub record HasEntry (c : Checked) (t k : ℕ) : Type 0 where
  pub number : ℕ
  pub address : table_address c.flat t + 4 * k ≡ tables_place + 4 * number
  pub inside : number < length (member_entries c)
  pub value : get_or (member_entries c) number 0 ≡ (fact_at c.certificate (get_or (members_of c.flat t) k 0)).entry

pub HasEntry-at : (c : Checked) (t k : ℕ) → t < length c.flat.tables → k < length (members_of c.flat t) → HasEntry c t k
HasEntry-at c t k there inside =
    let front = take t c.flat.tables in
    let before = length (flat_map (entries_of c) front) in
    let start : before ≡ sum_by length front = length-flat_map (entries_of c) front ∙ same_sums c front in
    let count : length (entries_of c (members_of c.flat t)) ≡ length (members_of c.flat t) = length-map (members_of c.flat t) (λ g. (fact_at c.certificate g).entry) in
    let room : before + length (entries_of c (members_of c.flat t)) ≤ length (member_entries c) = length-flat_map-take (entries_of c) c.flat.tables t [] there in
    record {
      number = before + k;
      address = omega (arith, start);
      inside = omega (arith, room, count, inside);
      value = get_or-flat_map (entries_of c) c.flat.tables t k [] 0 there (omega (arith, count, inside))
          ∙ get_or-map (λ g. (fact_at c.certificate g).entry) (members_of c.flat t) k 0 0 inside;
    }

TableWord-at : (c : Checked) (areas : Areas) (t k entry : ℕ) → areas.tables ≡ member_entries c → (has : HasEntry c t k) → (fact_at c.certificate (get_or (members_of c.flat t) k 0)).entry ≡ entry → entry < 2 ^ 32 → TableWord areas (table_address c.flat t + 4 * k)
TableWord-at c areas t k entry tables has is small =
    let address = has.address in
    let inside = has.inside in
    let number : (table_address c.flat t + 4 * k - tables_place) / 4 ≡ has.number = omega (arith, address) in
    let length_is : length areas.tables ≡ length (member_entries c) = ap length tables in
    let value : get_or areas.tables ((table_address c.flat t + 4 * k - tables_place) / 4) 0 ≡ entry =
    (λ i. get_or (tables i) (number i) 0) ∙ has.value ∙ is in
    record {
      low = omega (arith, address);
      high = omega (arith, address, inside, length_is);
      aligned = omega (arith, address);
      below = subst (λ (v : ℕ). v < 2 ^ 32) (sym value) small;
    }

table_lw : (c : Checked) (l : Local) (frames : List Frame) (t k : ℕ) (imm : ℤ) → t < length c.flat.tables → k < member_count c.flat t → word.add (read l.core.x 5) (word_of imm) ≡ table_address c.flat t + 4 * k →
    IsGoodAccess c frames (accessed (Instr.Lw 7 5 imm) (machine_of l))
unfolding accessed
table_lw c l frames t k imm there small address = inr (inr (t, there, (omega (arith, address), omega (arith, address, small))))

-- lw t2, imm(t0), where that is entry k of table t
pub load_entry : (c : Checked) (code : List ℕ) (l : Local) (t : FlatThread) (w : ℕ) (op : Op) (frame : Frame) (below : List Frame) (table k entry : ℕ) (imm : ℤ) → CodeFacts c code → IsOperationAt c code t.frame.function t.frame.next op → IsWholeWord c t.frame.function w op → During c l t w frame below →
    instruction_at code l.core.pc ≡ Ok (Instr.Lw 7 5 imm) → table < length c.flat.tables → k < length (members_of c.flat table) → (fact_at c.certificate (get_or (members_of c.flat table) k 0)).entry ≡ entry → entry < 2 ^ 32 →
    word.add (read l.core.x 5) (word_of imm) ≡ table_address c.flat table + 4 * k → Sets c code l t w frame below 7 entry
load_entry c code l t w op frame below table k entry imm facts there whole during fetch is_table inside is small address =
    let form = during.inside.form.areas in
    let has = HasEntry-at c table k is_table inside in
    let at = TableWord-at c l.areas table k entry form.tables has is small in
    let far = has.address in
    let number : (table_address c.flat table + 4 * k - tables_place) / 4 ≡ has.number = omega (arith, far) in
    let value = loaded-table l.areas (table_address c.flat table + 4 * k) (Fit-areas c code l.areas facts form) at
    ∙ (λ i. Some (get_or (form.tables i) (number i) 0)) ∙ ap Some (has.value ∙ is) in
    let count = count_is c table is_table in
    Sets-register c code l t w frame below 7 entry during
    (set_register c code l t.frame.function t.frame.next w op frame below (Instr.Lw 7 5 imm) 7 entry there whole during.inside fetch
    (effect-lw l 7 5 (table_address c.flat table + 4 * k) entry imm address at.aligned value)
    (table_lw c l (frame ∷ below) table k imm is_table (omega (arith, inside, count)) address) is_t2)
