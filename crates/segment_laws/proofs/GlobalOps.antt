-- Operations on globals and their elements.
use Rattle.segment_laws.proofs.Common.{◌≡◌, ℕ, ◌+◌, ◌*◌, ◌^◌, ◌<◌, ◌≤◌, ◌++◌, List, [], ◌∷◌, length, get_or, map, pos, Some, refl, sym, ap, subst, ◌∙◌, arith, slice_get, length-map, get_or-map, get_or-le-sum_by, word_of, width, word_at, with_word, Instr, read, Op, FlatGlobal, FlatCode, FlatThread, passed, scalar, global_address, global_words, li, AreGlobals, global_widths, Frame, Local, Checked}
use Rattle.cap_word.specs.Word as word
use Rattle.segment_laws.proofs.Facts.{CodeFacts, IsOperationAt}
use Rattle.segment_laws.proofs.Finish.{store_scalar, Simulates-at, behind_last, Reaches-after}
use Rattle.segment_laws.proofs.GlobalWords.{element_of, load_global, store_global}
use Rattle.segment_laws.proofs.Guards.{IsGuarded, guard_passes}
use Rattle.segment_laws.proofs.Immediate.{fetch_at, is_t0, is_t1, load_immediate}
use Rattle.segment_laws.proofs.Inside.{IsWholeWord}
use Rattle.segment_laws.proofs.LocalArrays.{scales, adds}
use Rattle.segment_laws.proofs.Registers.{add-small, word_of-small}
use Rattle.segment_laws.proofs.Rows.{HasGlobal, HasGlobal-at}
use Rattle.segment_laws.proofs.Simulation.{During, Simulates, Reaches, load_scalar}
use Rattle.segment_laws.proofs.Straight.{one_word, flat_set}
use Rattle.segment_laws.proofs.Ways.{Leads, Leads-then}

-- a global is there, with as many words as its row
pub widths_are : (code : FlatCode) (rows : List (List ℕ)) (words : List ℕ) (g : ℕ) → AreGlobals code rows words → g < length code.globals → width rows g ≡ global_words code g
widths_are code rows words g are there =
    let lengths : length rows ≡ length code.globals = sym (length-map rows length) ∙ ap length are.widths ∙ length-map code.globals (λ (x : FlatGlobal). x.words) in
    sym (get_or-map length rows g [] 0 (omega (arith, lengths, there))) ∙ ap (λ (ns : List ℕ). get_or ns g 0) are.widths

pub global_there : (code : FlatCode) (g : ℕ) → g < length (map (λ (x : FlatGlobal). x.words) code.globals) → g < length code.globals
global_there code g below = subst (λ (n : ℕ). g < n) (length-map code.globals (λ (x : FlatGlobal). x.words)) below

-- the address of a word of a global is a word
address_below : (c : Checked) (rows : List (List ℕ)) (words : List ℕ) (g k : ℕ) → HasGlobal c.flat rows words g k → length words ≤ 65536 → element_of c g k < 2 ^ 32
address_below c rows words g k has few =
    let address = has.address in
    let inside = has.inside in
    omega (arith, address, inside, few)

few_globals : (c : Checked) (code : List ℕ) (l : Local) (t : FlatThread) (w : ℕ) (frame : Frame) (below : List Frame) → CodeFacts c code → During c l t w frame below → length l.areas.globals ≤ 65536
few_globals c code l t w frame below facts during = omega (arith, during.inside.form.areas.globals, facts.globals_small)

pub load_global_reaches : (c : Checked) (code : List ℕ) (l : Local) (t : FlatThread) (d g : ℕ) → CodeFacts c code → IsOperationAt c code t.frame.function t.frame.next (Op.LoadGlobal d g) → Simulates c l t → Reaches c code l (flat_set t d (word_at t.globals g 0))
load_global_reaches c code l t d g facts there simulates =
    let op = Op.LoadGlobal d g in
    let f = t.frame.function in
    let i = t.frame.next in
    let frame = simulates.frame in
    let below = simulates.below in
    let during = simulates.during in
    let is_global : g < length c.flat.globals = global_there c.flat g there.formed.1.0 in
    let one : width t.globals g ≡ 1 = widths_are c.flat t.globals l.areas.globals g during.globals is_global ∙ there.formed.1.1 in
    let has = HasGlobal-at c.flat t.globals l.areas.globals g 0 during.globals is_global (omega (arith, one)) in
    let below_32 = address_below c t.globals l.areas.globals g 0 has (few_globals c code l t 0 frame below facts during) in
    let whole = (λ (w : ℕ) (small : w < 4). (let word : IsWholeWord c f w op = record { small = small; row_is = refl } in word)) in
    let set = load_immediate c code l t 0 op frame below 6 (global_address c.flat g) there (whole 0 (omega arith)) (whole 1 (omega arith)) during refl refl is_t1 (omega (arith, below_32)) in
    let has' : HasGlobal c.flat t.globals set.next.areas.globals g 0 = HasGlobal-at c.flat t.globals set.next.areas.globals g 0 set.during.globals is_global (omega (arith, one)) in
    let loaded = load_global c code set.next t 2 op frame below 5 6 g 0 (pos 0) facts there (whole 2 (omega arith)) set.during (fetch_at c code set.next f i 2 op frame below _ there set.during.inside refl) is_global has'
    ((λ i. word.add (set.value_is i) (word_of-small 0 (omega arith) i)) ∙ add-small (global_address c.flat g) 0 (omega (arith, below_32)) ∙ (let e : global_address c.flat g + 0 ≡ element_of c g 0 = omega arith in e)) is_t0 in
    let stored = store_scalar c code loaded.next t 3 op frame below 5 d (word_at t.globals g 0) facts there (whole 3 (omega arith)) loaded.during (fetch_at c code loaded.next f i 3 op frame below _ there loaded.during.inside refl) (one_word c f d there.formed.0) loaded.value_is refl in
    Reaches-after c code 3 l loaded.next (flat_set t d (word_at t.globals g 0)) (Leads-then c code 2 1 l set.next loaded.next set.leads loaded.leads) stored

-- the flat thread after a word of a global was set
abbrev pub flat_with_globals : FlatThread → List (List ℕ) → FlatThread
flat_with_globals t globals = record t { frame = passed t.frame; globals = globals }

pub store_global_reaches : (c : Checked) (code : List ℕ) (l : Local) (t : FlatThread) (g x v : ℕ) → CodeFacts c code → IsOperationAt c code t.frame.function t.frame.next (Op.StoreGlobal g x) → Simulates c l t → scalar t x ≡ Some v → Reaches c code l (flat_with_globals t (with_word t.globals g 0 v))
store_global_reaches c code l t g x v facts there simulates value =
    let op = Op.StoreGlobal g x in
    let f = t.frame.function in
    let i = t.frame.next in
    let frame = simulates.frame in
    let below = simulates.below in
    let during = simulates.during in
    let is_global : g < length c.flat.globals = global_there c.flat g there.formed.0.0 in
    let one : width t.globals g ≡ 1 = widths_are c.flat t.globals l.areas.globals g during.globals is_global ∙ there.formed.0.1 in
    let has = HasGlobal-at c.flat t.globals l.areas.globals g 0 during.globals is_global (omega (arith, one)) in
    let below_32 = address_below c t.globals l.areas.globals g 0 has (few_globals c code l t 0 frame below facts during) in
    let whole = (λ (w : ℕ) (small : w < 4). (let word : IsWholeWord c f w op = record { small = small; row_is = refl } in word)) in
    let first = load_scalar c code l t 0 op frame below 5 x v facts there (whole 0 (omega arith)) during (fetch_at c code l f i 0 op frame below _ there during.inside refl) (one_word c f x there.formed.1) value is_t0 in
    let set = load_immediate c code first.next t 1 op frame below 6 (global_address c.flat g) there (whole 1 (omega arith)) (whole 2 (omega arith)) first.during refl refl is_t1 (omega (arith, below_32)) in
    let has' : HasGlobal c.flat t.globals set.next.areas.globals g 0 = HasGlobal-at c.flat t.globals set.next.areas.globals g 0 set.during.globals is_global (omega (arith, one)) in
    let stored = store_global c code set.next t 3 op frame below 6 5 g 0 v (pos 0) facts there (whole 3 (omega arith)) set.during (fetch_at c code set.next f i 3 op frame below _ there set.during.inside refl) is_global has'
    ((λ i. word.add (set.value_is i) (word_of-small 0 (omega arith) i)) ∙ add-small (global_address c.flat g) 0 (omega (arith, below_32)) ∙ (let e : global_address c.flat g + 0 ≡ element_of c g 0 = omega arith in e))
    (set.others 5 (λ e. absurd (omega arith)) ∙ first.value_is) in
    record {
      steps = 3;
      after = stored.next;
      leads = Leads-then c code 3 1 l set.next stored.next (Leads-then c code 1 2 l first.next set.next first.leads set.leads) stored.leads;
      simulates = Simulates-at c stored.next (record t { globals = with_word t.globals g 0 v }) 4 (i + 1) frame below stored.during
          (behind_last c code stored.next f i 3 op frame below there stored.during.inside refl);
    }

-- ---- elements

-- a global's words are few
few_words : (c : Checked) (code : List ℕ) (g : ℕ) → CodeFacts c code → g < length c.flat.globals → global_words c.flat g ≤ 65536
few_words c code g facts there =
    let count : length (global_widths c.flat) ≡ length c.flat.globals = length-map c.flat.globals (λ (x : FlatGlobal). x.words) in
    omega (arith, facts.globals_small, get_or-le-sum_by (λ (n : ℕ). n) (global_widths c.flat) g 0 (omega (arith, count, there)))

-- the operation is on an element of global g, whose index is scalar x
abbrev pub HasElement : Checked → ℕ → ℕ → Op → ℕ → ℕ → Type 0
HasElement c f i op g x =
    IsGuarded c f i op x (global_words c.flat g) 1 13 (Instr.Slli 5 5 (pos 2) ∷ li 6 (global_address c.flat g) ++ (Instr.Add 5 5 6 ∷ []))

pub load_element : (c : Checked) (code : List ℕ) (f i d g x : ℕ) → CodeFacts c code → IsOperationAt c code f i (Op.LoadArray d g x) →
    HasElement c f i (Op.LoadArray d g x) g x
load_element c code f i d g x facts at =
    let few = few_words c code g facts (global_there c.flat g at.formed.1) in
    let whole = (λ (w : ℕ) (small : w < 13). (let word : IsWholeWord c f w (Op.LoadArray d g x) = record { small = small; row_is = refl } in word)) in
    record { rest = _; words = refl; whole = whole; one = one_word c f x at.formed.2; small = omega (arith, few); more = omega arith }

pub store_element : (c : Checked) (code : List ℕ) (f i g x y : ℕ) → CodeFacts c code → IsOperationAt c code f i (Op.StoreArray g x y) →
    HasElement c f i (Op.StoreArray g x y) g x
store_element c code f i g x y facts at =
    let few = few_words c code g facts (global_there c.flat g at.formed.0) in
    let whole = (λ (w : ℕ) (small : w < 13). (let word : IsWholeWord c f w (Op.StoreArray g x y) = record { small = small; row_is = refl } in word)) in
    record { rest = _; words = refl; whole = whole; one = one_word c f x at.formed.1; small = omega (arith, few); more = omega arith }

-- t0 is the address of the element
record Addressed (c : Checked) (code : List ℕ) (l : Local) (t : FlatThread) (frame : Frame) (below : List Frame) (g k : ℕ) : Type 0 where
  next : Local
  leads : Leads c code 8 l next
  during : During c next t 11 frame below
  value_is : read next.core.x 5 ≡ element_of c g k
  has : HasGlobal c.flat t.globals next.areas.globals g k
  below_32 : element_of c g k < 2 ^ 32

addresses : (c : Checked) (code : List ℕ) (l : Local) (t : FlatThread) (op : Op) (frame : Frame) (below : List Frame) (g x k : ℕ) → CodeFacts c code →
    IsOperationAt c code t.frame.function t.frame.next op → g < length c.flat.globals → HasElement c t.frame.function t.frame.next op g x →
    During c l t 0 frame below → scalar t x ≡ Some k → k < width t.globals g → Addressed c code l t frame below g k
addresses c code l t op frame below g x k facts there is_global element during value within =
    let width_is = widths_are c.flat t.globals l.areas.globals g during.globals is_global in
    let n = global_words c.flat g in
    let few = few_words c code g facts is_global in
    let e = λ (w : ℕ). ap (λ (words : List Instr). slice_get words w) element.words in
    let passed = guard_passes c code l t op frame below x n 1 k facts there element during value (omega (arith, within, width_is)) in
    let scaled = scales c code passed.next t op frame below k there (element.whole 7 (omega arith)) passed.during (e 7) passed.index
    (omega (arith, within, width_is, few)) in
    let has0 = HasGlobal-at c.flat t.globals l.areas.globals g k during.globals is_global within in
    let below_32 = address_below c t.globals l.areas.globals g k has0 (few_globals c code l t 0 frame below facts during) in
    let set = load_immediate c code scaled.next t 8 op frame below 6 (global_address c.flat g) there (element.whole 8 (omega arith))
    (element.whole 9 (omega arith)) scaled.during (e 8) (e 9) is_t1 (omega (arith, below_32)) in
    let summed = adds c code set.next t 10 op frame below 6 (4 * k) (global_address c.flat g) (element_of c g k) there
    (element.whole 10 (omega arith)) set.during (e 10) (set.others 5 (λ e. absurd (omega arith)) ∙ scaled.value_is) set.value_is
    (add-small (4 * k) (global_address c.flat g) (omega (arith, below_32)) ∙ (let e : 4 * k + global_address c.flat g ≡ element_of c g k = omega arith in e)) in
    let leads = Leads-then c code 5 2 l scaled.next set.next (Leads-then c code 4 1 l passed.next scaled.next passed.leads scaled.leads) set.leads in
    record {
      next = summed.next;
      leads = Leads-then c code 7 1 l set.next summed.next leads summed.leads;
      during = summed.during;
      value_is = summed.value_is;
      has = HasGlobal-at c.flat t.globals summed.next.areas.globals g k summed.during.globals is_global within;
      below_32 = below_32;
    }

at_zero : (l : Local) (a : ℕ) → read l.core.x 5 ≡ a → a < 2 ^ 32 → word.add (read l.core.x 5) (word_of (pos 0)) ≡ a
at_zero l a is below = (λ i. word.add (is i) (word_of-small 0 (omega arith) i)) ∙ add-small a 0 (omega arith) ∙ (let e : a + 0 ≡ a = omega arith in e)

pub load_array_reaches : (c : Checked) (code : List ℕ) (l : Local) (t : FlatThread) (d g x k : ℕ) → CodeFacts c code → IsOperationAt c code t.frame.function t.frame.next (Op.LoadArray d g x) → Simulates c l t → scalar t x ≡ Some k → k < width t.globals g → Reaches c code l (flat_set t d (word_at t.globals g k))
load_array_reaches c code l t d g x k facts there simulates value within =
    let op = Op.LoadArray d g x in
    let f = t.frame.function in
    let i = t.frame.next in
    let frame = simulates.frame in
    let below = simulates.below in
    let element = load_element c code f i d g x facts there in
    let whole = element.whole in
    let is_global = global_there c.flat g there.formed.1 in
    let addressed = addresses c code l t op frame below g x k facts there is_global element simulates.during value within in
    let loaded = load_global c code addressed.next t 11 op frame below 5 5 g k (pos 0) facts there (whole 11 (omega arith)) addressed.during (fetch_at c code addressed.next f i 11 op frame below _ there addressed.during.inside refl) is_global addressed.has
    (at_zero addressed.next (element_of c g k) addressed.value_is addressed.below_32) is_t0 in
    let stored = store_scalar c code loaded.next t 12 op frame below 5 d (word_at t.globals g k) facts there (whole 12 (omega arith)) loaded.during (fetch_at c code loaded.next f i 12 op frame below _ there loaded.during.inside refl) (one_word c f d there.formed.0) loaded.value_is refl in
    Reaches-after c code 9 l loaded.next (flat_set t d (word_at t.globals g k)) (Leads-then c code 8 1 l addressed.next loaded.next addressed.leads loaded.leads) stored

pub store_array_reaches : (c : Checked) (code : List ℕ) (l : Local) (t : FlatThread) (g x y k v : ℕ) → CodeFacts c code → IsOperationAt c code t.frame.function t.frame.next (Op.StoreArray g x y) → Simulates c l t → scalar t x ≡ Some k → scalar t y ≡ Some v → k < width t.globals g →
    Reaches c code l (flat_with_globals t (with_word t.globals g k v))
store_array_reaches c code l t g x y k v facts there simulates index value within =
    let op = Op.StoreArray g x y in
    let f = t.frame.function in
    let i = t.frame.next in
    let frame = simulates.frame in
    let below = simulates.below in
    let element = store_element c code f i g x y facts there in
    let whole = element.whole in
    let is_global = global_there c.flat g there.formed.0 in
    let addressed = addresses c code l t op frame below g x k facts there is_global element simulates.during index within in
    let loaded = load_scalar c code addressed.next t 11 op frame below 6 y v facts there (whole 11 (omega arith)) addressed.during (fetch_at c code addressed.next f i 11 op frame below _ there addressed.during.inside refl) (one_word c f y there.formed.2) value is_t1 in
    let has = HasGlobal-at c.flat t.globals loaded.next.areas.globals g k loaded.during.globals is_global within in
    let stored = store_global c code loaded.next t 12 op frame below 5 6 g k v (pos 0) facts there (whole 12 (omega arith)) loaded.during (fetch_at c code loaded.next f i 12 op frame below _ there loaded.during.inside refl) is_global has
    (at_zero loaded.next (element_of c g k) (loaded.others 5 (λ e. absurd (omega arith)) ∙ addressed.value_is) addressed.below_32) loaded.value_is in
    record {
      steps = 9;
      after = stored.next;
      leads = Leads-then c code 9 1 l loaded.next stored.next (Leads-then c code 8 1 l addressed.next loaded.next addressed.leads loaded.leads) stored.leads;
      simulates = Simulates-at c stored.next (record t { globals = with_word t.globals g k v }) 13 (i + 1) frame below stored.during
          (behind_last c code stored.next f i 12 op frame below there stored.during.inside refl);
    }
