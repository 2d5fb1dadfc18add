-- A step from a good state accesses no chunk but those in the thread's chain.
use Rattle.segment_laws.proofs.Common.{◌≡◌, ℕ, zero, suc, ◌+◌, ◌-◌, ◌*◌, ◌<◌, ◌≤◌, List, [], ◌∷◌, length, map, Option, Some, None, refl, sym, ap, subst, ◌∙◌, arith, cond, Bool, ⊎_elim, sum, sum_by, ◌⊎◌, eq-eqb, length-map, get_or-map, length-flat_map, sum_by-cons, sum_by_more_le, Pool, chunk_of, place_of, Access, IsAccessed, IsWellFormed, FlatGlobal, fact_at, Areas, Spot, InGlobals, InTables, InPayload, globals_place, tables_place, spot_of, global_widths, copies, copies_in, KeepsCopies, Frame, IsFrame, FramesAt, IsGoodAccess, IsFramed, IsInGlobal, IsInTable, Core, Local, access_at, local_step, Checked, Place, Row, NoFrame, Empty, Fresh, Linking, Whole, row_of, KeepsChunk-step, copies-cons, KeepsCopies-step, Comes}
use Rattle.machine_world.specs.Alone.{KeepsChunk}
use Rattle.segment_laws.proofs.FrameWords.{stack_frame}
use Rattle.segment_laws.proofs.Spots.{Fit, InsidePayload, spot_of-payload, spot_of-global, spot_of-table}
use Rattle.segment_laws.proofs.Ways.{HasForm, IsGoodState}
use Rattle.segment_laws.proofs.Moves.{Comes-suc, Comes-first}
use Rattle.segment_laws.proofs.Entries.{entries_of, count_is}

-- ---- the running frame's chunk is in the chain

record IsHeldFrame (c : Checked) (pool : Pool) (chain : List ℕ) (frame : Frame) : Type 0 where
  held : 1 ≤ copies frame.chunk chain
  is : IsFrame c pool frame

front_copies : (chunk : ℕ) (chain : List ℕ) (k : ℕ) → k ≡ chunk → 1 ≤ copies k (chunk ∷ chain)
front_copies chunk chain k same =
    let one : copies k (chunk ∷ chain) ≡ 1 + copies k chain = copies-cons k chunk chain ∙ ap (λ (b : Bool). cond b 1 0 + copies k chain) (eq-eqb chunk k (sym same)) in
    omega (arith, one)

held_frame : (c : Checked) (pool : Pool) (core : Core) (place : Place) (row : Row) (chain : List ℕ) (frame : Frame) (below : List Frame) → FramesAt c pool core place row chain (frame ∷ below) → IsHeldFrame c pool chain frame
held_frame c pool core place NoFrame [] frame below at = absurd at
held_frame c pool core place NoFrame (chunk ∷ []) frame below at = absurd at
held_frame c pool core place NoFrame (chunk ∷ other ∷ chain) frame below at = absurd at
held_frame c pool core place Empty [] frame below at = absurd at
held_frame c pool core place Empty (chunk ∷ chain) frame below at = record { held = front_copies chunk chain frame.chunk at.0.chunk_is; is = stack_frame c pool (chunk ∷ chain) frame below at.1 }
held_frame c pool core place Fresh [] frame below at = absurd at
held_frame c pool core place Fresh (chunk ∷ chain) frame below at = record { held = front_copies chunk chain frame.chunk at.0.chunk_is; is = stack_frame c pool (chunk ∷ chain) frame below at.1 }
held_frame c pool core place Whole [] frame below at = absurd at
held_frame c pool core place Whole (chunk ∷ chain) frame below at = record { held = front_copies chunk chain frame.chunk at.0.chunk_is; is = stack_frame c pool (chunk ∷ chain) frame below at.1 }
held_frame c pool core place Linking [] frame below at = absurd at
held_frame c pool core place Linking (linked ∷ []) frame below at = absurd at
held_frame c pool core place Linking (linked ∷ chunk ∷ chain) frame below at =
    let later = front_copies chunk chain frame.chunk at.2.chunk_is in
    record { held = omega (arith, later, copies-cons frame.chunk linked (chunk ∷ chain)); is = stack_frame c pool (chunk ∷ chain) frame below at.3 }

-- ---- globals and tables

sum_words : (gs : List FlatGlobal) → sum (map (λ (x : FlatGlobal). x.words) gs) ≡ sum_by (λ (x : FlatGlobal). x.words) gs
sum_words [] = refl
sum_words (g ∷ gs) = sum_by-cons (λ (n : ℕ). n) g.words (map (λ (x : FlatGlobal). x.words) gs) ∙ (λ i. g.words + sum_words gs i) ∙ sym (sum_by-cons (λ (x : FlatGlobal). x.words) g gs)

same_sums : (c : Checked) (rows : List (List ℕ)) → sum_by (λ (members : List ℕ). length (entries_of c members)) rows ≡ sum_by length rows
same_sums c [] = refl
same_sums c (row ∷ rows) =
    sum_by-cons (λ (members : List ℕ). length (entries_of c members)) row rows
    ∙ (λ i. length-map row (λ (g : ℕ). (fact_at c.certificate g).entry) i + same_sums c rows i)
    ∙ sym (sum_by-cons length row rows)

no_global : FlatGlobal
no_global = record { words = 0; start = 0 }

-- the areas are small enough for the map
pub fits : (c : Checked) (l : Local) → IsWellFormed c.flat → HasForm c l → Fit l.areas
fits c l formed form =
    let globals : length l.areas.globals ≡ sum (global_widths c.flat) = form.areas.globals in
    let tables : length l.areas.tables ≡ sum (map length c.flat.tables) = ap length form.areas.tables ∙ length-flat_map (entries_of c) c.flat.tables ∙ same_sums c c.flat.tables ∙ sym (sum_lengths c.flat.tables) in
    record {
      pool = form.areas.pool;
      globals = omega (arith, globals, formed.global_words);
      tables = omega (arith, tables, formed.table_members);
      global_words = form.areas.global_words;
    }
  where
    sum_lengths : (rows : List (List ℕ)) → sum (map length rows) ≡ sum_by length rows
    sum_lengths [] = refl
    sum_lengths (row ∷ rows) = sum_by-cons (λ (n : ℕ). n) (length row) (map length rows) ∙ (λ i. length row + sum_lengths rows i) ∙ sym (sum_by-cons length row rows)

not_global : (areas : Areas) (at chunk offset : ℕ) → globals_place ≤ at → at < globals_place + 4 * length areas.globals → spot_of areas at ≡ Some (InPayload chunk offset) → ⊥
not_global areas at chunk offset low high e = let both : Some (InGlobals (at - globals_place)) ≡ Some (InPayload chunk offset) = sym (spot_of-global areas at low high) ∙ e in cc

not_table : (areas : Areas) (at chunk offset : ℕ) → Fit areas → tables_place ≤ at → at < tables_place + 4 * length areas.tables → spot_of areas at ≡ Some (InPayload chunk offset) → ⊥
not_table areas at chunk offset fit low high e = let both : Some (InTables (at - tables_place)) ≡ Some (InPayload chunk offset) = sym (spot_of-table areas at fit low high) ∙ e in cc

-- ---- a good access lies in no other chunk

same_chunk : (chunk offset other away : ℕ) → (let spot : Option Spot = Some (InPayload chunk offset) in spot) ≡ Some (InPayload other away) → chunk ≡ other
same_chunk chunk offset other away e = cc

in_frame : (c : Checked) (l : Local) (access : Access) (frame : Frame) (below : List Frame) (chunk at offset : ℕ) → Fit l.areas → IsHeldFrame c l.areas.pool l.core.chain frame → copies_in chunk l ≡ 0 → IsFramed access (frame ∷ below) → IsAccessed (Some access) at →
    spot_of l.areas at ≡ Some (InPayload chunk offset) → ⊥
in_frame c l access frame below chunk at offset fit has elsewhere framed accessed e =
    let frame_is = has.is in
    let lowest = frame_is.lowest in
    let highest = frame_is.highest in
    let inside : InsidePayload l.areas.pool frame.chunk at = record { chunk_below = frame_is.chunk; low = omega (arith, lowest, framed.0, accessed.0); high = omega (arith, highest, framed.1, accessed.1) } in
    let same : frame.chunk ≡ chunk = same_chunk frame.chunk (at - place_of l.areas.pool frame.chunk) chunk offset (sym (spot_of-payload l.areas frame.chunk at fit inside) ∙ e) in
    let none : copies frame.chunk l.core.chain ≡ copies chunk l.core.chain = ap (λ (k : ℕ). copies k l.core.chain) same in
    absurd (omega (arith, has.held, none, elsewhere))

in_global : (c : Checked) (l : Local) (access : Access) (chunk at offset : ℕ) → HasForm c l → IsInGlobal c access → IsAccessed (Some access) at → spot_of l.areas at ≡ Some (InPayload chunk offset) → ⊥
in_global c l access chunk at offset form is accessed e =
    let g = is.0 in
    let there = is.1 in
    let room = sum_by_more_le (λ (x : FlatGlobal). x.words) c.flat.globals g no_global there in
    let words = get_or-map (λ (x : FlatGlobal). x.words) c.flat.globals g no_global 0 there in
    let all : length l.areas.globals ≡ sum_by (λ (x : FlatGlobal). x.words) c.flat.globals = form.areas.globals ∙ sum_words c.flat.globals in
    not_global l.areas at chunk offset (omega (arith, is.2.0, accessed.0)) (omega (arith, is.2.1, accessed.1, room, words, all)) e

in_table : (c : Checked) (l : Local) (access : Access) (chunk at offset : ℕ) → Fit l.areas → HasForm c l → IsInTable c access → IsAccessed (Some access) at → spot_of l.areas at ≡ Some (InPayload chunk offset) → ⊥
in_table c l access chunk at offset fit form is accessed e =
    let t = is.0 in
    let there = is.1 in
    let room = sum_by_more_le length c.flat.tables t [] there in
    let count = count_is c t there in
    let all : length l.areas.tables ≡ sum_by length c.flat.tables = ap length form.areas.tables ∙ length-flat_map (entries_of c) c.flat.tables ∙ same_sums c c.flat.tables in
    not_table l.areas at chunk offset fit (omega (arith, is.2.0, accessed.0)) (omega (arith, is.2.1, accessed.1, room, count, all)) e

unaccessed : (c : Checked) (l : Local) (access : Option Access) (frames : List Frame) (chunk : ℕ) → Fit l.areas → HasForm c l → ((frame : Frame) (below : List Frame) → frames ≡ frame ∷ below → IsHeldFrame c l.areas.pool l.core.chain frame) → copies_in chunk l ≡ 0 →
    IsGoodAccess c frames access → (at offset : ℕ) → IsAccessed access at → spot_of l.areas at ≡ Some (InPayload chunk offset) → ⊥
unaccessed c l None frames chunk fit form has elsewhere good at offset accessed e = absurd accessed
unaccessed c l (Some access) [] chunk fit form has elsewhere good at offset accessed e = ⊎_elim
    (λ (framed : ⊥). absurd framed)
    (λ (rest : IsInGlobal c access ⊎ IsInTable c access). ⊎_elim
    (λ (global : IsInGlobal c access). in_global c l access chunk at offset form global accessed e)
    (λ (table : IsInTable c access). in_table c l access chunk at offset fit form table accessed e) rest)
    good
unaccessed c l (Some access) (frame ∷ below) chunk fit form has elsewhere good at offset accessed e = ⊎_elim
    (λ (framed : IsFramed access (frame ∷ below)). in_frame c l access frame below chunk at offset fit (has frame below refl) elsewhere framed accessed e)
    (λ (rest : IsInGlobal c access ⊎ IsInTable c access). ⊎_elim
    (λ (global : IsInGlobal c access). in_global c l access chunk at offset form global accessed e)
    (λ (table : IsInTable c access). in_table c l access chunk at offset fit form table accessed e) rest)
    good

pub keeps_step : (c : Checked) (code : List ℕ) (l : Local) (chunk : ℕ) → IsWellFormed c.flat → HasForm c l → IsGoodState c code l → copies_in chunk l ≡ 0 → KeepsChunk chunk l (local_step code l)
keeps_step c code l chunk formed form good elsewhere =
    KeepsChunk-step code l chunk
    (record {
      elsewhere = elsewhere;
      unaccessed = unaccessed c l (access_at code l) good.frames chunk (fits c l formed form) form
          (λ frame below same. held_frame c l.areas.pool l.core good.place (row_of c good.place) l.core.chain frame below (subst (λ (fs : List Frame). FramesAt c l.areas.pool l.core good.place (row_of c good.place) l.core.chain fs) same good.in_place.frames_are))
          elsewhere good.access;
    })

-- ---- any number of steps

pub keeps_steps : (c : Checked) (code : List ℕ) (k : ℕ) (l at : Local) (chunk : ℕ) → IsWellFormed c.flat → ((j : ℕ) (between : Local) → Comes code j l between → HasForm c between × IsGoodState c code between) → Comes code k l at → copies_in chunk l ≡ 0 →
    chunk_of at.areas.pool chunk ≡ chunk_of l.areas.pool chunk
keeps_steps c code zero l at chunk formed all comes elsewhere = let same : l ≡ at = cc in ap (λ (x : Local). chunk_of x.areas.pool chunk) (sym same)
keeps_steps c code (suc k) l at chunk formed all comes elsewhere =
    let first = Comes-first code k l at comes in
    let here = all 0 l refl in
    let kept : chunk_of first.next.areas.pool chunk ≡ chunk_of l.areas.pool chunk = subst (KeepsChunk chunk l) first.step (keeps_step c code l chunk formed here.0 here.1 elsewhere) in
    let count : copies_in chunk first.next ≡ copies_in chunk l = subst (KeepsCopies chunk l) first.step (KeepsCopies-step code l chunk) in
    keeps_steps c code k first.next at chunk formed (λ j between later. all (suc j) between (Comes-suc code j l first.next between first.step later)) first.rest (count ∙ elsewhere) ∙ kept
