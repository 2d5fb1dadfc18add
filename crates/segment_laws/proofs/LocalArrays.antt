-- Elements of a variable, by an index behind its guard.
use Rattle.segment_laws.proofs.Common.{◌≡◌, ℕ, ◌+◌, ◌*◌, ◌%◌, ◌^◌, ◌<◌, ◌≤◌, List, [], ◌∷◌, length, get_or, set, pos, Some, None, refl, sym, ap, subst, ◌∙◌, arith, get_or-set_same, get_or-set_other, slice_get, length-set, word_of, Instr, accessed, effect, read, sets, Op, function_at, FlatThread, variable, passed, set_to, scalar, fact_at, Frame, word_in, Local, machine_of, Checked, variable_word}
use Rattle.cap_word.specs.Word as word
use Rattle.rv_machine.specs.Rows as rows
use Rattle.segment_laws.proofs.Facts.{CodeFacts, IsOperationAt}
use Rattle.segment_laws.proofs.Finish.{store_scalar, store_variable, Simulates-at, behind_last, Reaches-after}
use Rattle.segment_laws.proofs.FrameWords.{InFrame-inside, frame_bounded, load_at}
use Rattle.segment_laws.proofs.Guards.{IsGuarded, guard_passes}
use Rattle.segment_laws.proofs.Immediate.{words_of, fetch_at, is_t0, is_t1}
use Rattle.segment_laws.proofs.Inside.{IsWholeWord, IsSet}
use Rattle.segment_laws.proofs.Registers.{add-small, word_of-small}
use Rattle.segment_laws.proofs.Simulation.{During, Simulates, Reaches, Sets, Sets-register, set_value, IsWordPlace, IsWordPlace-variable, load_scalar}
use Rattle.segment_laws.proofs.Straight.{one_word, flat_set}
use Rattle.segment_laws.proofs.Variables.{HasWord}
use Rattle.segment_laws.proofs.Ways.{Leads, Leads-then}

does_slli : (m : rows.Machine) (k : ℕ) → read m.x 5 ≡ k → 4 * k < 2 ^ 32 → effect (Instr.Slli 5 5 (pos 2)) m ≡ sets m 5 (4 * k)
unfolding effect word.sll
does_slli m k e small =
    let two : word_of (pos 2) ≡ 2 = word_of-small 2 (omega arith) in
    ap (λ (n : ℕ). sets m 5 (word.sll n (word_of (pos 2)))) e
    ∙ ap (λ (s : ℕ). sets m 5 (k * 2 ^ (s % 32) % 2 ^ 32)) two
    ∙ ap (sets m 5) (let sum : k * 2 ^ (2 % 32) % 2 ^ 32 ≡ 4 * k = omega arith in sum)

none_slli : (m : rows.Machine) → accessed (Instr.Slli 5 5 (pos 2)) m ≡ None
unfolding accessed
none_slli m = refl

does_add : (m : rows.Machine) (r a b v : ℕ) → read m.x 5 ≡ a → read m.x r ≡ b → word.add a b ≡ v → effect (Instr.Add 5 5 r) m ≡ sets m 5 v
unfolding effect
does_add m r a b v p q e = (λ i. sets m 5 (word.add (p i) (q i))) ∙ ap (sets m 5) e

none_add : (m : rows.Machine) (r : ℕ) → accessed (Instr.Add 5 5 r) m ≡ None
unfolding accessed
none_add m r = refl

-- four times the index in t0
pub scales : (c : Checked) (code : List ℕ) (l : Local) (t : FlatThread) (op : Op) (frame : Frame) (below : List Frame) (k : ℕ) → IsOperationAt c code t.frame.function t.frame.next op → IsWholeWord c t.frame.function 7 op → During c l t 7 frame below →
    slice_get (words_of c t.frame.function t.frame.next op) 7 ≡ Some (Instr.Slli 5 5 (pos 2)) → read l.core.x 5 ≡ k → 4 * k < 2 ^ 32 → Sets c code l t 7 frame below 5 (4 * k)
scales c code l t op frame below k there whole during e index small =
    set_value c code l t 7 op frame below (Instr.Slli 5 5 (pos 2)) 5 (4 * k) there whole during (fetch_at c code l t.frame.function t.frame.next 7 op frame below (Instr.Slli 5 5 (pos 2)) there during.inside e)
    (does_slli (machine_of l) k index small) (none_slli (machine_of l)) is_t0

-- t0 plus a register
pub adds : (c : Checked) (code : List ℕ) (l : Local) (t : FlatThread) (w : ℕ) (op : Op) (frame : Frame) (below : List Frame) (r a b v : ℕ) → IsOperationAt c code t.frame.function t.frame.next op → IsWholeWord c t.frame.function w op → During c l t w frame below →
    slice_get (words_of c t.frame.function t.frame.next op) w ≡ Some (Instr.Add 5 5 r) → read l.core.x 5 ≡ a → read l.core.x r ≡ b → word.add a b ≡ v → Sets c code l t w frame below 5 v
adds c code l t w op frame below r a b v there whole during e left right sum =
    set_value c code l t w op frame below (Instr.Add 5 5 r) 5 v there whole during (fetch_at c code l t.frame.function t.frame.next w op frame below (Instr.Add 5 5 r) there during.inside e)
    (does_add (machine_of l) r a b v left right sum) (none_add (machine_of l) r) is_t0

-- ---- an element of a variable

-- few words fit a frame
few_words : (c : Checked) (code : List ℕ) (f a : ℕ) → CodeFacts c code → f < length c.flat.functions → a < length (function_at c.flat f).sizes →
    4 * get_or (function_at c.flat f).sizes a 0 ≤ 2032
few_words c code f a facts there below =
    let fact = facts.frame f there in
    let inside = fact.place_inside a below in
    let most = fact.most in
    omega (arith, inside, most)

-- the operation is on an element of variable a, whose index is scalar x
abbrev pub HasElement : Checked → ℕ → ℕ → Op → ℕ → ℕ → Type 0
HasElement c f i op a x = IsGuarded c f i op x (get_or (function_at c.flat f).sizes a 0) 1 11 (Instr.Slli 5 5 (pos 2) ∷ Instr.Add 5 5 2 ∷ [])

pub load_element : (c : Checked) (code : List ℕ) (f i d a x : ℕ) → CodeFacts c code → IsOperationAt c code f i (Op.LoadLocal d a x) →
    HasElement c f i (Op.LoadLocal d a x) a x
load_element c code f i d a x facts at =
    let few = few_words c code f a facts at.function at.formed.1 in
    let whole = (λ (w : ℕ) (small : w < 11). (let word : IsWholeWord c f w (Op.LoadLocal d a x) = record { small = small; row_is = refl } in word)) in
    record { rest = _; words = refl; whole = whole; one = one_word c f x at.formed.2; small = omega (arith, few); more = omega arith }

pub store_element : (c : Checked) (code : List ℕ) (f i a x y : ℕ) → CodeFacts c code → IsOperationAt c code f i (Op.StoreLocal a x y) →
    HasElement c f i (Op.StoreLocal a x y) a x
store_element c code f i a x y facts at =
    let few = few_words c code f a facts at.function at.formed.0 in
    let whole = (λ (w : ℕ) (small : w < 11). (let word : IsWholeWord c f w (Op.StoreLocal a x y) = record { small = small; row_is = refl } in word)) in
    record { rest = _; words = refl; whole = whole; one = one_word c f x at.formed.1; small = omega (arith, few); more = omega arith }

-- t0 is the frame's lowest address plus four times the index
record Addressed (c : Checked) (code : List ℕ) (l : Local) (t : FlatThread) (frame : Frame) (below : List Frame) (a k : ℕ) : Type 0 where
  next : Local
  leads : Leads c code 6 l next
  during : During c next t 9 frame below
  value_is : read next.core.x 5 ≡ frame.low + 4 * k
  inside : k < get_or (function_at c.flat t.frame.function).sizes a 0
  place : IsWordPlace c t.frame.function (get_or (fact_at c.certificate t.frame.function).places a 0 + 4 * k)
  below_32 : frame.low + 4 * k + get_or (fact_at c.certificate t.frame.function).places a 0 < 2 ^ 32

addresses : (c : Checked) (code : List ℕ) (l : Local) (t : FlatThread) (op : Op) (frame : Frame) (below : List Frame) (a x k : ℕ) (row : List ℕ) →
    CodeFacts c code → IsOperationAt c code t.frame.function t.frame.next op → a < length (function_at c.flat t.frame.function).sizes →
    HasElement c t.frame.function t.frame.next op a x → During c l t 0 frame below → scalar t x ≡ Some k → variable t.frame a ≡ Some row → k < length row →
    Addressed c code l t frame below a k
addresses c code l t op frame below a x k row facts there in_frame element during value set within =
    let f = t.frame.function in
    let n = get_or (function_at c.flat f).sizes a 0 in
    let count : length row ≡ n = during.shape.words a row set in
    let inside : k < n = omega (arith, within, count) in
    let place = IsWordPlace-variable c code f a k (facts.frame f there.function) in_frame inside in
    let fits = place.fits in
    let bytes = during.inside.body.bytes in
    let high = frame_bounded c l f t.frame.next 0 frame below during.inside in
    let below_32 : frame.low + 4 * k + get_or (fact_at c.certificate f).places a 0 < 2 ^ 32 = omega (arith, high, fits, bytes) in
    let few : 4 * n ≤ 2032 = few_words c code f a facts there.function in_frame in
    let e = λ (w : ℕ). ap (λ (words : List Instr). slice_get words w) element.words in
    let passed = guard_passes c code l t op frame below x n 1 k facts there element during value inside in
    let scaled = scales c code passed.next t op frame below k there (element.whole 7 (omega arith)) passed.during (e 7) passed.index (omega arith) in
    let summed = adds c code scaled.next t 8 op frame below 2 (4 * k) frame.low (frame.low + 4 * k) there (element.whole 8 (omega arith)) scaled.during (e 8)
    scaled.value_is scaled.during.inside.sp_is
    (add-small (4 * k) frame.low (omega arith) ∙ (let e : 4 * k + frame.low ≡ frame.low + 4 * k = omega arith in e)) in
    record {
      next = summed.next;
      leads = Leads-then c code 5 1 l scaled.next summed.next (Leads-then c code 4 1 l passed.next scaled.next passed.leads scaled.leads) summed.leads;
      during = summed.during;
      value_is = summed.value_is;
      inside = inside;
      place = place;
      below_32 = below_32;
    }

-- the address of an element
element_address : (l : Local) (low place k : ℕ) → read l.core.x 5 ≡ low + 4 * k → low + 4 * k + place < 2 ^ 32 →
    word.add (read l.core.x 5) (word_of (pos place)) ≡ low + (place + 4 * k)
element_address l low place k is below =
    ap (word.add (read l.core.x 5)) (word_of-small place (omega arith)) ∙ ap (λ (n : ℕ). word.add n place) is ∙ add-small (low + 4 * k) place below
    ∙ (let e : low + 4 * k + place ≡ low + (place + 4 * k) = omega arith in e)

pub load_local_reaches : (c : Checked) (code : List ℕ) (l : Local) (t : FlatThread) (d a x k : ℕ) (row : List ℕ) → CodeFacts c code → IsOperationAt c code t.frame.function t.frame.next (Op.LoadLocal d a x) → Simulates c l t → scalar t x ≡ Some k → variable t.frame a ≡ Some row → k < length row →
    Reaches c code l (flat_set t d (get_or row k 0))
load_local_reaches c code l t d a x k row facts there simulates value set within =
    let op = Op.LoadLocal d a x in
    let f = t.frame.function in
    let i = t.frame.next in
    let frame = simulates.frame in
    let below = simulates.below in
    let place = get_or (fact_at c.certificate f).places a 0 in
    let element = load_element c code f i d a x facts there in
    let whole = element.whole in
    let addressed = addresses c code l t op frame below a x k row facts there there.formed.1 element simulates.during value set within in
    let word_place = addressed.place in
    let in_frame = InFrame-inside c code addressed.next f i 9 frame below (place + 4 * k) facts there.function addressed.during.inside word_place.aligned word_place.fits in
    let address = element_address addressed.next frame.low place k addressed.value_is addressed.below_32 in
    let held : variable_word c addressed.next.areas.pool frame a k ≡ get_or row k 0 = addressed.during.variables a row set k within in
    let function : frame.function ≡ f = simulates.during.inside.body.function in
    let here : word_in addressed.next.areas.pool frame.chunk (frame.low + (place + 4 * k)) ≡ get_or row k 0 =
    (let e : frame.low + (place + 4 * k) ≡ frame.low + place + 4 * k = omega arith in ap (word_in addressed.next.areas.pool frame.chunk) e)
    ∙ ap (λ (g : ℕ). word_in addressed.next.areas.pool frame.chunk (frame.low + get_or (fact_at c.certificate g).places a 0 + 4 * k)) (sym function) ∙ held in
    let loaded = Sets-register c code addressed.next t 9 frame below 5 (get_or row k 0) addressed.during
    (subst (IsSet c code addressed.next f i 9 frame below 5) here
    (load_at c code addressed.next f i 9 op frame below 5 5 (place + 4 * k) (pos place) facts there (whole 9 (omega arith)) addressed.during.inside
    (fetch_at c code addressed.next f i 9 op frame below _ there addressed.during.inside refl) in_frame address is_t0)) in
    let stored = store_scalar c code loaded.next t 10 op frame below 5 d (get_or row k 0) facts there (whole 10 (omega arith)) loaded.during (fetch_at c code loaded.next f i 10 op frame below _ there loaded.during.inside refl) (one_word c f d there.formed.0) loaded.value_is refl in
    Reaches-after c code 7 l loaded.next (flat_set t d (get_or row k 0)) (Leads-then c code 6 1 l addressed.next loaded.next addressed.leads loaded.leads) stored

pub store_local_reaches : (c : Checked) (code : List ℕ) (l : Local) (t : FlatThread) (a x y k v : ℕ) (row : List ℕ) → CodeFacts c code → IsOperationAt c code t.frame.function t.frame.next (Op.StoreLocal a x y) → Simulates c l t → scalar t x ≡ Some k → scalar t y ≡ Some v → variable t.frame a ≡ Some row → k < length row →
    Reaches c code l (record t { frame = passed (set_to t.frame a (set row k v)) })
store_local_reaches c code l t a x y k v row facts there simulates index value set_row within =
    let op = Op.StoreLocal a x y in
    let f = t.frame.function in
    let i = t.frame.next in
    let frame = simulates.frame in
    let below = simulates.below in
    let place = get_or (fact_at c.certificate f).places a 0 in
    let element = store_element c code f i a x y facts there in
    let whole = element.whole in
    let count = simulates.during.shape.words a row set_row in
    let addressed = addresses c code l t op frame below a x k row facts there there.formed.0 element simulates.during index set_row within in
    let loaded = load_scalar c code addressed.next t 9 op frame below 6 y v facts there (whole 9 (omega arith)) addressed.during (fetch_at c code addressed.next f i 9 op frame below _ there addressed.during.inside refl) (one_word c f y there.formed.2) value is_t1 in
    let function : frame.function ≡ f = simulates.during.inside.body.function in
    let has : HasWord c frame a k = (
      subst (λ (g : ℕ). a < length (function_at c.flat g).sizes) (sym function) there.formed.0,
      subst (λ (g : ℕ). k < get_or (function_at c.flat g).sizes a 0) (sym function) addressed.inside,
    ) in
    let address = element_address loaded.next frame.low place k (loaded.others 5 (λ e. absurd (omega arith)) ∙ addressed.value_is) addressed.below_32 in
    let new = set row k v in
    let stored = store_variable c code loaded.next t 10 op frame below 5 6 a k v (pos place) new facts there (whole 10 (omega arith)) loaded.during (fetch_at c code loaded.next f i 10 op frame below _ there loaded.during.inside refl) has
    (address ∙ ap (λ (g : ℕ). frame.low + (get_or (fact_at c.certificate g).places a 0 + 4 * k)) (sym function)) loaded.value_is
    (length-set row k v ∙ count ∙ ap (λ (g : ℕ). get_or (function_at c.flat g).sizes a 0) (sym function))
    (get_or-set_same row k v 0 within)
    (λ j small apart. get_or-set_other row k j v 0 apart ∙ sym (loaded.during.variables a row set_row j (omega (arith, small, length-set row k v)))) in
    record {
      steps = 7;
      after = stored.next;
      leads = Leads-then c code 7 1 l loaded.next stored.next (Leads-then c code 6 1 l addressed.next loaded.next addressed.leads loaded.leads) stored.leads;
      simulates = Simulates-at c stored.next (record t { frame = set_to t.frame a new }) 11 (i + 1) frame below stored.during
          (behind_last c code stored.next f i 10 op frame below there stored.during.inside refl);
    }
