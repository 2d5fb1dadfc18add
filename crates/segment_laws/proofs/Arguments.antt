-- Arguments are loaded into the argument registers, one an instruction.
use Rattle.segment_laws.proofs.Common.{◌≡◌, ℕ, zero, suc, ◌+◌, ◌<◌, ◌≤◌, List, [], ◌∷◌, ◌++◌, length, get_or, pos, Option, Some, refl, sym, ap, subst, ◌∙◌, arith, slice_get, AllByRecursion, Instr, read, Op, function_at, FlatThread, scalar, scalars, both, IsScalar, context_of, fact_at, FunctionFact, arguments, Frame, Local, Checked}
use Rattle.segment_laws.proofs.Facts.{CodeFacts, IsOperationAt}
use Rattle.segment_laws.proofs.Immediate.{words_of, fetch_at}
use Rattle.segment_laws.proofs.Inside.{IsWholeWord, IsValueRegister}
use Rattle.segment_laws.proofs.Simulation.{During, load_scalar}
use Rattle.segment_laws.proofs.Straight.{one_word}
use Rattle.segment_laws.proofs.Ways.{Leads, Leads-none, Leads-then}

-- the instruction that loads an argument
abbrev pub load_of : FunctionFact → ℕ → ℕ → Instr
load_of fact r x = Instr.Lw r 2 (pos (get_or fact.places x 0))

pub arguments-at : (fact : FunctionFact) (r : ℕ) (xs : List ℕ) (rest : List Instr) (j : ℕ) → j < length xs → slice_get (arguments fact r xs ++ rest) j ≡ Some (load_of fact (r + j) (get_or xs j 0))
arguments-at fact r [] rest j small = absurd (omega arith)
arguments-at fact r (x ∷ xs) rest zero small = (let e : r ≡ r + 0 = omega arith in ap (λ (k : ℕ). Some (load_of fact k x)) e)
arguments-at fact r (x ∷ xs) rest (suc j) small = arguments-at fact (r + 1) xs rest j (omega arith) ∙ (let e : r + 1 + j ≡ r + suc j = omega arith in ap (λ (k : ℕ). Some (load_of fact k (get_or xs j 0))) e)

pub arguments-past : (fact : FunctionFact) (r : ℕ) (xs : List ℕ) (rest : List Instr) (j : ℕ) → slice_get (arguments fact r xs ++ rest) (length xs + j) ≡ slice_get rest j
arguments-past fact r [] rest j = (let e : 0 + j ≡ j = omega arith in ap (slice_get rest) e)
arguments-past fact r (x ∷ xs) rest j = (let e : suc (length xs) + j ≡ suc (length xs + j) = omega arith in ap (slice_get (arguments fact r (x ∷ xs) ++ rest)) e) ∙ arguments-past fact (r + 1) xs rest j

is_argument : (r : ℕ) → 10 ≤ r → r < 17 → IsValueRegister r
is_argument r low high = record { some = omega arith; there = omega arith; not_sp = λ e. absurd (omega arith); not_tp = λ e. absurd (omega arith) }

-- the values of the first scalar and of the others
pub both_values : (first : Option ℕ) (rest : Option (List ℕ)) (vs : List ℕ) → both first rest ≡ Some vs → (v : ℕ) × (ws : List ℕ) × (first ≡ Some v) × (rest ≡ Some ws) × (vs ≡ v ∷ ws)
both_values (Some v) (Some ws) vs e = (v, ws, refl, refl, (cc))
both_values _ _ vs e = absurd (cc)

-- the arguments are in their registers, and nothing else changed
pub record AreLoaded (c : Checked) (code : List ℕ) (l : Local) (t : FlatThread) (w n r : ℕ) (vs : List ℕ) (frame : Frame) (below : List Frame) : Type 0 where
  pub next : Local
  pub leads : Leads c code n l next
  pub during : During c next t (w + n) frame below
  pub values : (j : ℕ) → j < n → read next.core.x (r + j) ≡ get_or vs j 0
  pub others : (q : ℕ) → (q < r) → read next.core.x q ≡ read l.core.x q
  pub areas : next.areas ≡ l.areas
  pub count : length vs ≡ n

values_at : (next : Local) (r v : ℕ) (ws vs : List ℕ) (n : ℕ) → vs ≡ v ∷ ws → read next.core.x r ≡ v → ((j : ℕ) → j < n → read next.core.x (r + 1 + j) ≡ get_or ws j 0) → (j : ℕ) → j < suc n → read next.core.x (r + j) ≡ get_or vs j 0
values_at next r v ws vs n is first rest zero small = (let e : r + 0 ≡ r = omega arith in ap (read next.core.x) e) ∙ first ∙ ap (λ (us : List ℕ). get_or us 0 0) (sym is)
values_at next r v ws vs n is first rest (suc j) small = (let e : r + suc j ≡ r + 1 + j = omega arith in ap (read next.core.x) e) ∙ rest j (omega arith) ∙ ap (λ (us : List ℕ). get_or us (suc j) 0) (sym is)

pub load_arguments : (c : Checked) (code : List ℕ) (l : Local) (t : FlatThread) (w r : ℕ) (op : Op) (xs vs : List ℕ) (frame : Frame) (below : List Frame) → CodeFacts c code → IsOperationAt c code t.frame.function t.frame.next op → During c l t w frame below →
    10 ≤ r → r + length xs ≤ 17 → AllByRecursion (IsScalar (context_of c.flat (function_at c.flat t.frame.function))) xs → scalars t xs ≡ Some vs →
    ((j : ℕ) → j < length xs → IsWholeWord c t.frame.function (w + j) op) →
    ((j : ℕ) → j < length xs → slice_get (words_of c t.frame.function t.frame.next op) (w + j) ≡ Some (load_of (fact_at c.certificate t.frame.function) (r + j) (get_or xs j 0))) →
    AreLoaded c code l t w (length xs) r vs frame below
load_arguments c code l t w r op [] vs frame below facts there during low high formed values whole words =
    let none : [] ≡ vs = cc in
    record {
      next = l;
      leads = Leads-none c code l;
      during = (let e : w ≡ w + 0 = omega arith in subst (λ (k : ℕ). During c l t k frame below) e during);
      values = λ j small. absurd (omega arith);
      others = λ q small. refl;
      areas = refl;
      count = ap length (sym none);
    }
load_arguments c code l t w r op (x ∷ xs) vs frame below facts there during low high formed values whole words =
    let parts = both_values (scalar t x) (scalars t xs) vs values in
    let v = parts.0 in
    let ws = parts.1 in
    let w_is : w + 0 ≡ w = omega arith in
    let r_is : r + 0 ≡ r = omega arith in
    let here : slice_get (words_of c t.frame.function t.frame.next op) w ≡ Some (load_of (fact_at c.certificate t.frame.function) r x) =
    ap (slice_get (words_of c t.frame.function t.frame.next op)) (sym w_is) ∙ words 0 (omega arith) ∙ ap (λ (k : ℕ). Some (load_of (fact_at c.certificate t.frame.function) k x)) r_is in
    let word_w : IsWholeWord c t.frame.function w op = subst (λ (k : ℕ). IsWholeWord c t.frame.function k op) w_is (whole 0 (omega arith)) in
    let first = load_scalar c code l t w op frame below r x v facts there word_w during (fetch_at c code l t.frame.function t.frame.next w op frame below (load_of (fact_at c.certificate t.frame.function) r x) there during.inside here)
    (one_word c t.frame.function x formed.0) parts.2 (is_argument r low (omega arith)) in
    let rest = load_arguments c code first.next t (w + 1) (r + 1) op xs ws frame below facts there first.during (omega arith) (omega arith) formed.1 parts.3
    (λ j small. (let e : w + suc j ≡ w + 1 + j = omega arith in subst (λ (k : ℕ). IsWholeWord c t.frame.function k op) e (whole (suc j) (omega arith))))
    (λ j small.
    (let e : w + 1 + j ≡ w + suc j = omega arith in ap (slice_get (words_of c t.frame.function t.frame.next op)) e) ∙ words (suc j) (omega arith)
    ∙ (let e : r + suc j ≡ r + 1 + j = omega arith in ap (λ (k : ℕ). Some (load_of (fact_at c.certificate t.frame.function) k (get_or xs j 0))) e)) in
    record {
      next = rest.next;
      leads = (let e : 1 + length xs ≡ suc (length xs) = omega arith in subst (λ (k : ℕ). Leads c code k l rest.next) e (Leads-then c code 1 (length xs) l first.next rest.next first.leads rest.leads));
      during = (let e : w + 1 + length xs ≡ w + suc (length xs) = omega arith in subst (λ (k : ℕ). During c rest.next t k frame below) e rest.during);
      values = values_at rest.next r v ws vs (length xs) parts.4 (rest.others r (omega arith) ∙ first.value_is) rest.values;
      others = λ q small. rest.others q (omega arith) ∙ first.others q (λ e. absurd (omega arith));
      areas = rest.areas ∙ first.areas;
      count = ap length parts.4 ∙ ap suc rest.count;
    }

pub scalars-length : (t : FlatThread) (xs vs : List ℕ) → scalars t xs ≡ Some vs → length vs ≡ length xs
scalars-length t [] vs e = (let none : [] ≡ vs = cc in ap length (sym none))
scalars-length t (x ∷ xs) vs e =
    let parts = both_values (scalar t x) (scalars t xs) vs e in
    ap length parts.4 ∙ ap suc (scalars-length t xs parts.1 parts.3)
