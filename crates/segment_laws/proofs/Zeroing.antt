-- The operation that sets each word of a variable to 0, a word an instruction. On the way the variable counts as one that
-- isn't set.
use Rattle.segment_laws.proofs.Common.{◌≡◌, ℕ, zero, suc, ◌+◌, ◌-◌, ◌*◌, ◌<◌, ◌≤◌, List, length, get_or, set, pos, Some, None, refl, sym, ap, subst, ◌∙◌, arith, ⊎_elim, get_or-set_same, get_or-set_other, replicate, slice_get, cases_eq, length-replicate, word_of, Pool, Instr, read, Op, function_at, FlatFrame, FlatThread, variable, passed, set_to, fact_at, zeroes, Areas, AreGlobals, Frame, frame_bytes, Local, Checked, variable_word, HoldsVariables, IsShaped, AreFlatFrames}
use Rattle.cap_word.specs.Word as word
use Rattle.segment_laws.proofs.Facts.{CodeFacts, FrameFacts, IsOperationAt}
use Rattle.segment_laws.proofs.Finish.{Simulates-at, behind_last}
use Rattle.segment_laws.proofs.FrameWords.{InFrame-inside, store_at, once_of}
use Rattle.segment_laws.proofs.Immediate.{fetch_at}
use Rattle.segment_laws.proofs.Inside.{Inside, IsWholeWord}
use Rattle.segment_laws.proofs.Simulation.{Simulates, Reaches, IsWordPlace-variable}
use Rattle.segment_laws.proofs.Stacks.{stack_away, AreFlatFrames-with_word}
use Rattle.segment_laws.proofs.Variables.{offset_of, written_pool, HasWord, variable_word-same, variable_word-other, set_there, IsShaped-set, variable-set_same, variable-set_other}
use Rattle.segment_laws.proofs.Ways.{Leads, Leads-none, Leads-then}
use Rattle.segment_laws.proofs.Words.{word_number}

-- the frame with a variable that isn't set
abbrev unset : FlatFrame → ℕ → FlatFrame
unset flat x = record flat { variables = set flat.variables x None }

-- a variable that is set in it is another one
set_apart : (flat : FlatFrame) (x y : ℕ) (words : List ℕ) → x < length flat.variables → variable (unset flat x) y ≡ Some words → (y ≡ x → ⊥) × (variable flat y ≡ Some words)
set_apart flat x y words there is = ⊎_elim
    (λ (same : y ≡ x). absurd (let none : variable (unset flat x) x ≡ None = get_or-set_same flat.variables x None None there in let e : variable (unset flat x) x ≡ Some words = ap (variable (unset flat x)) (sym same) ∙ is in cc))
    (λ (apart : y ≡ x → ⊥). (apart, sym (get_or-set_other flat.variables x y None None apart) ∙ is))
    (cases_eq y x)

-- within the operation, where the variable isn't set and its first words are 0
record Zeroed (c : Checked) (l : Local) (t : FlatThread) (x m : ℕ) (frame : Frame) (below : List Frame) : Type 0 where
  inside : Inside c l t.frame.function t.frame.next m frame below
  shape : IsShaped c t.frame
  others : HoldsVariables c l.areas.pool frame (unset t.frame x)
  zeros : (j : ℕ) → j < m → variable_word c l.areas.pool frame x j ≡ 0
  flats : AreFlatFrames c l.areas.pool below t.below
  globals : AreGlobals c.flat t.globals l.areas.globals

-- one more word
record OneMore (c : Checked) (code : List ℕ) (l : Local) (t : FlatThread) (x m : ℕ) (frame : Frame) (below : List Frame) : Type 0 where
  next : Local
  leads : Leads c code 1 l next
  zeroed : Zeroed c next t x (m + 1) frame below

zeroes-at : (place n j : ℕ) → j < n → slice_get (zeroes place n) j ≡ Some (Instr.Sw 2 0 (pos (place + 4 * j)))
zeroes-at place zero j small = absurd (omega arith)
zeroes-at place (suc n) zero small = (let e : place ≡ place + 4 * 0 = omega arith in ap (λ (p : ℕ). Some (Instr.Sw 2 0 (pos p))) e)
zeroes-at place (suc n) (suc j) small = zeroes-at (place + 4) n j (omega arith) ∙ (let e : place + 4 + 4 * j ≡ place + 4 * suc j = omega arith in ap (λ (p : ℕ). Some (Instr.Sw 2 0 (pos p))) e)

one_more : (c : Checked) (code : List ℕ) (l : Local) (t : FlatThread) (x m : ℕ) (frame : Frame) (below : List Frame) → CodeFacts c code → IsOperationAt c code t.frame.function t.frame.next (Op.Zero x) → Zeroed c l t x m frame below → m < get_or (function_at c.flat t.frame.function).sizes x 0 →
    OneMore c code l t x m frame below
one_more c code l t x m frame below facts there zeroed small =
    let f = t.frame.function in
    let i = t.frame.next in
    let is = zeroed.inside in
    let op = Op.Zero x in
    let whole : IsWholeWord c f m op = record { small = small; row_is = refl } in
    let function : frame.function ≡ f = is.body.function in
    let fact : FrameFacts c frame.function = facts.frame frame.function (subst (λ (g : ℕ). g < length c.flat.functions) (sym function) there.function) in
    let has : HasWord c frame x m = (subst (λ (g : ℕ). x < length (function_at c.flat g).sizes) (sym function) there.formed, subst (λ (g : ℕ). m < get_or (function_at c.flat g).sizes x 0) (sym function) small) in
    let place = IsWordPlace-variable c code frame.function x m fact has.0 has.1 in
    let offset = offset_of c frame x m in
    let fits : offset + 4 ≤ frame_bytes c f = subst (λ (g : ℕ). offset + 4 ≤ frame_bytes c g) function place.fits in
    let not_ra : offset ≡ (fact_at c.certificate f).ra → ⊥ = (λ (e : offset ≡ (fact_at c.certificate f).ra). place.not_ra (e ∙ ap (λ (g : ℕ). (fact_at c.certificate g).ra) (sym function))) in
    let in_frame = InFrame-inside c code l f i m frame below offset facts there.function is place.aligned fits in
    let imm = get_or (fact_at c.certificate f).places x 0 + 4 * m in
    let imm_is : offset ≡ imm = ap (λ (g : ℕ). get_or (fact_at c.certificate g).places x 0 + 4 * m) function in
    let fetch = fetch_at c code l f i m op frame below (Instr.Sw 2 0 (pos imm)) there is (zeroes-at (get_or (fact_at c.certificate f).places x 0) (get_or (function_at c.flat f).sizes x 0) m small) in
    let stored = store_at c code l f i m op frame below 2 0 offset 0 (pos imm) facts there whole is fetch in_frame
    (ap (λ (o : ℕ). word.add (read l.core.x 2) (word_of (pos o))) (sym imm_is) ∙ in_frame.address) place.aligned not_ra refl in
    let away = stack_away c l.areas.pool l.core.chain frame below is.stack is.front (once_of c l f i m frame below is) in
    let after : Pool = written_pool c l.areas.pool frame x m 0 in
    let pool : stored.next.areas.pool ≡ after = ap (λ (a : Areas). a.pool) stored.areas in
    let sizes : length (function_at c.flat f).sizes ≡ length (function_at c.flat frame.function).sizes = ap (λ (g : ℕ). length (function_at c.flat g).sizes) (sym function) in
    record {
      next = stored.next;
      leads = stored.leads;
      zeroed = record {
        inside = stored.inside;
        shape = zeroed.shape;
        others = subst (λ (p : Pool). HoldsVariables c p frame (unset t.frame x)) (sym pool)
            (λ y words set k within.
            let apart = set_apart t.frame x y words (omega (arith, zeroed.shape.count, there.formed)) set in
            let y_there : y < length (function_at c.flat frame.function).sizes = (let in' = set_there t.frame y words apart.1 in omega (arith, in', zeroed.shape.count, sizes)) in
            let count : length words ≡ get_or (function_at c.flat frame.function).sizes y 0 = zeroed.shape.words y words apart.1 ∙ ap (λ (g : ℕ). get_or (function_at c.flat g).sizes y 0) (sym function) in
            variable_word-other c l frame x m 0 y k fact in_frame has (y_there, omega (arith, within, count)) (λ same _. apart.0 same) ∙ zeroed.others y words set k within);
        zeros = subst (λ (p : Pool). (j : ℕ) → j < m + 1 → variable_word c p frame x j ≡ 0) (sym pool)
            (λ j within. ⊎_elim
            (λ (same : j ≡ m). ap (variable_word c after frame x) same ∙ variable_word-same c l frame x m 0 is.form.areas.pool in_frame)
            (λ (apart : j ≡ m → ⊥).
            variable_word-other c l frame x m 0 x j fact in_frame has (has.0, omega (arith, has.1, within)) (λ _. apart) ∙ zeroed.zeros j (omega arith))
            (cases_eq j m));
        flats = subst (λ (p : Pool). AreFlatFrames c p below t.below) (sym pool)
            (AreFlatFrames-with_word c l.areas.pool below t.below frame.chunk (word_number l.areas.pool frame.chunk (frame.low + offset)) 0 (frame.low + frame.bytes) in_frame.ends away zeroed.flats);
        globals = subst (λ (a : Areas). AreGlobals c.flat t.globals a.globals) (sym stored.areas) zeroed.globals;
      };
    }

-- all words
record AllZeroed (c : Checked) (code : List ℕ) (l : Local) (t : FlatThread) (x n r : ℕ) (frame : Frame) (below : List Frame) : Type 0 where
  next : Local
  leads : Leads c code r l next
  zeroed : Zeroed c next t x n frame below

all_zeroed : (c : Checked) (code : List ℕ) (l : Local) (t : FlatThread) (x m n r : ℕ) (frame : Frame) (below : List Frame) → CodeFacts c code → IsOperationAt c code t.frame.function t.frame.next (Op.Zero x) → Zeroed c l t x m frame below → n ≡ get_or (function_at c.flat t.frame.function).sizes x 0 → m + r ≡ n →
    AllZeroed c code l t x n r frame below
all_zeroed c code l t x m n zero frame below facts there zeroed count sum =
    record { next = l; leads = Leads-none c code l; zeroed = (let e : m ≡ n = omega arith in subst (λ (k : ℕ). Zeroed c l t x k frame below) e zeroed) }
all_zeroed c code l t x m n (suc r) frame below facts there zeroed count sum =
    let one = one_more c code l t x m frame below facts there zeroed (omega (arith, count, sum)) in
    let rest = all_zeroed c code one.next t x (m + 1) n r frame below facts there one.zeroed count (omega arith) in
    record {
      next = rest.next;
      leads = (let e : 1 + r ≡ suc r = omega arith in subst (λ (k : ℕ). Leads c code k l rest.next) e (Leads-then c code 1 r l one.next rest.next one.leads rest.leads));
      zeroed = rest.zeroed;
    }

-- words of 0
abbrev pub blank : ℕ → List ℕ
blank n = replicate n 0

length-blank : (n : ℕ) → length (blank n) ≡ n
length-blank n = length-replicate n 0

get_or-blank : (n k : ℕ) → get_or (blank n) k 0 ≡ 0
get_or-blank (suc n) (suc k) = get_or-blank n k
get_or-blank _ _ = refl

pub zero_reaches : (c : Checked) (code : List ℕ) (l : Local) (t : FlatThread) (x : ℕ) → CodeFacts c code → IsOperationAt c code t.frame.function t.frame.next (Op.Zero x) → Simulates c l t →
    Reaches c code l (record t { frame = passed (set_to t.frame x (blank (get_or (function_at c.flat t.frame.function).sizes x 0))) })
zero_reaches c code l t x facts there simulates =
    let f = t.frame.function in
    let i = t.frame.next in
    let frame = simulates.frame in
    let below = simulates.below in
    let during = simulates.during in
    let n = get_or (function_at c.flat f).sizes x 0 in
    let some : 0 < n = facts.zeroed f i x there.function there.there in
    let row : List ℕ = blank n in
    let done = all_zeroed c code l t x 0 n n frame below facts there
    (record {
      inside = during.inside;
      shape = during.shape;
      others = λ y words set k within. (let apart = set_apart t.frame x y words (omega (arith, during.shape.count, there.formed)) set in during.variables y words apart.1 k within);
      zeros = λ j none. absurd (omega arith);
      flats = during.flats;
      globals = during.globals;
    }) refl (omega arith) in
    let now = done.zeroed in
    let set_frame : FlatFrame = set_to t.frame x row in
    let last : n - 1 + 1 ≡ n = omega (arith, some) in
    record {
      steps = n - 1;
      after = done.next;
      leads = (let e : n ≡ suc (n - 1) = omega (arith, some) in subst (λ (k : ℕ). Leads c code k l done.next) e done.leads);
      simulates = Simulates-at c done.next (record t { frame = set_frame }) n (i + 1) frame below
          (record {
            inside = now.inside;
            shape = IsShaped-set c t.frame x row during.shape there.formed (length-blank n);
            variables = λ y words set k within. ⊎_elim
                (λ (same : y ≡ x).
                let here : Some row ≡ Some words = sym (variable-set_same t.frame x row (omega (arith, during.shape.count, there.formed))) ∙ ap (variable set_frame) (sym same) ∙ set in
                let rows : row ≡ words = cc in
                let small : k < n = (let len : length row ≡ length words = ap length rows in omega (arith, len, within, length-blank n)) in
                ap (λ (z : ℕ). variable_word c done.next.areas.pool frame z k) same ∙ now.zeros k small ∙ sym (get_or-blank n k) ∙ ap (λ (r : List ℕ). get_or r k 0) rows)
                (λ (apart : y ≡ x → ⊥). now.others y words (get_or-set_other t.frame.variables x y None None apart ∙ sym (variable-set_other t.frame x y row apart) ∙ set) k within)
                (cases_eq y x);
            flats = now.flats;
            globals = now.globals;
          })
          (behind_last c code done.next f i (n - 1) (Op.Zero x) frame below there (subst (λ (k : ℕ). Inside c done.next f i k frame below) (sym last) now.inside) last);
    }
