-- The operations that ask the world: the thread comes to rest at their ECALL, asks the flat thread's call, and goes on with
-- the result that came.
use Rattle.segment_laws.proofs.Common.{◌≡◌, ℕ, suc, ◌+◌, ◌*◌, ◌^◌, ◌<◌, List, [], ◌∷◌, ◌++◌, length, get_or, pos, Bool, Option, Some, None, refl, sym, ap, subst, ◌∙◌, arith, append_assoc, slice_get, Call, call_of, Asks, Instr, read, Op, function_at, FlatThread, variable, with_result, scalar, scalars, IsResultPlace, context_of, fact_at, need_of, begin, size, result_size, kind_of, Frame, Local, Checked, variable_word, HoldsVariables, HoldArguments}
use Rattle.cap_word.specs.Word as word
use Rattle.stack_certificate.specs.Parts.{arguments, system_call, result}
use Rattle.machine_world.specs.Local as local
use Rattle.segment_laws.proofs.Arguments.{both_values, scalars-length, arguments-at, arguments-past, load_arguments}
use Rattle.segment_laws.proofs.Facts.{CodeFacts, IsOperationAt}
use Rattle.segment_laws.proofs.Finish.{store_scalar, Simulates-at}
use Rattle.segment_laws.proofs.Guards.{ecall_is}
use Rattle.segment_laws.proofs.Immediate.{words_of, fetch_at, is_a0, is_a1, is_a2, is_a7, add_immediate, load_immediate}
use Rattle.segment_laws.proofs.Inside.{IsWholeWord, HasFrames-inside}
use Rattle.segment_laws.proofs.ModelledCalls.{asks_for, call_small}
use Rattle.segment_laws.proofs.Registers.{add-small, word_of-small}
use Rattle.segment_laws.proofs.Simulation.{During, Simulates, load_scalar, scalar_word}
use Rattle.segment_laws.proofs.Straight.{one_word}
use Rattle.segment_laws.proofs.Ways.{Leads-none, Leads-then}
pub use Rattle.segment_laws.specs.Asking.{Arrives, AtAsk}

-- ---- the result of a call

-- behind the call of an operation whose result, in a0, goes to d if one is wanted
pub result_arrives : (c : Checked) (code : List ℕ) (l : Local) (t : FlatThread) (w v : ℕ) (op : Op) (d : Option ℕ) (frame : Frame) (below : List Frame) → CodeFacts c code → IsOperationAt c code t.frame.function t.frame.next op → During c l t w frame below →
    w + result_size d ≡ size (function_at c.flat t.frame.function).sizes (kind_of c.certificate op) op →
    ((j : ℕ) → slice_get (words_of c t.frame.function t.frame.next op) (w + j) ≡ slice_get (result (fact_at c.certificate t.frame.function) d) j) → (w < size (function_at c.flat t.frame.function).sizes (kind_of c.certificate op) op → IsWholeWord c t.frame.function w op) →
    (gives : Bool) → IsResultPlace (context_of c.flat (function_at c.flat t.frame.function)) gives d → read l.core.x 10 ≡ v →
    Arrives c code l (record t { frame = with_result t.frame d v })
result_arrives c code l t w v op None frame below facts there during last words whole gives formed value =
    let f = t.frame.function in
    let i = t.frame.next in
    let pc = during.inside.pc in
    let next = there.next in
    record {
      steps = 0;
      after = l;
      leads = Leads-none c code l;
      simulates = Simulates-at c l t w (i + 1) frame below during (let e : l.core.pc ≡ begin c.flat c.certificate f (i + 1) + 4 * 0 = omega (arith, pc, next, last) in e);
    }
result_arrives c code l t w v op (Some d) frame below facts there during last words whole gives formed value =
    let f = t.frame.function in
    let i = t.frame.next in
    let zero_more : w + 0 ≡ w = omega arith in
    let word : slice_get (words_of c f i op) w ≡ Some (Instr.Sw 2 10 (pos (get_or (fact_at c.certificate f).places d 0))) = ap (slice_get (words_of c f i op)) (sym zero_more) ∙ words 0 in
    let reaches = store_scalar c code l t w op frame below 10 d v facts there (whole (omega (arith, last))) during (fetch_at c code l f i w op frame below _ there during.inside word) (one_word c f d formed.1) value last in
    record { steps = suc reaches.steps; after = reaches.after; leads = reaches.leads; simulates = reaches.simulates }

-- ---- modelled calls

-- what the argument registers hold is what the scalars' words are
hold_arguments : (c : Checked) (at : Local) (t : FlatThread) (frame : Frame) (xs vs : List ℕ) (r : ℕ) → HoldsVariables c at.areas.pool frame t.frame → scalars t xs ≡ Some vs → ((j : ℕ) → j < length xs → read at.core.x (r + j) ≡ get_or vs j 0) →
    HoldArguments c at.areas.pool at.core frame r xs
hold_arguments c at t frame [] vs r holds values held = tt
hold_arguments c at t frame (x ∷ xs) vs r holds values held =
    let parts = both_values (scalar t x) (scalars t xs) vs values in
    let row = scalar_word (variable t.frame x) parts.0 parts.2 in
    let here : variable_word c at.areas.pool frame x 0 ≡ parts.0 = holds x (parts.0 ∷ row.0) row.1 0 (omega arith) in
    let first : read at.core.x r ≡ parts.0 = (let e : r ≡ r + 0 = omega arith in ap (read at.core.x) e) ∙ held 0 (omega arith) ∙ ap (λ (us : List ℕ). get_or us 0 0) parts.4 in (
      first ∙ sym here,
      hold_arguments c at t frame xs parts.1 (r + 1) holds parts.3
          (λ j small. (let e : r + 1 + j ≡ r + suc j = omega arith in ap (read at.core.x) e) ∙ held (suc j) (omega arith) ∙ ap (λ (us : List ℕ). get_or us (suc j) 0) parts.4),
    )

pub model_asks : (c : Checked) (code : List ℕ) (l : Local) (t : FlatThread) (site n : ℕ) (d : Option ℕ) (args vs : List ℕ) (call : Call) → CodeFacts c code → IsOperationAt c code t.frame.function t.frame.next (Op.Model site d n args) → (simulates : Simulates c l t) → scalars t args ≡ Some vs → call_of n vs ≡ Some call →
    AtAsk c code l t (Op.Model site d n args) (length args + 1) (local.Calls call) simulates.frame simulates.below
model_asks c code l t site n d args vs call facts there simulates values is_call =
    let op = Op.Model site d n args in
    let f = t.frame.function in
    let i = t.frame.next in
    let frame = simulates.frame in
    let below = simulates.below in
    let fact = fact_at c.certificate f in
    let rest : List Instr = system_call n ++ result fact d in
    let words : words_of c f i op ≡ arguments fact 10 args ++ rest = append_assoc (arguments fact 10 args) (system_call n) (result fact d) in
    let small = call_small n vs call is_call in
    let whole = (λ (w : ℕ) (few : w < length args + 2). (let whole_word : IsWholeWord c f w op = record { small = omega arith; row_is = refl } in whole_word)) in
    let count : length vs ≡ length args = scalars-length t args vs values in
    let loaded = load_arguments c code l t 0 10 op args vs frame below facts there simulates.during (omega arith) (omega (arith, small.1, count)) there.formed.1 values
    (λ j few. (let e : j ≡ 0 + j = omega arith in subst (λ (k : ℕ). IsWholeWord c f k op) e (whole j (omega arith))))
    (λ j few. (let e : 0 + j ≡ j = omega arith in ap (slice_get (words_of c f i op)) e) ∙ ap (λ (ws : List Instr). slice_get ws j) words ∙ arguments-at fact 10 args rest j few) in
    let at_w : During c loaded.next t (length args) frame below = (let e : 0 + length args ≡ length args = omega arith in subst (λ (k : ℕ). During c loaded.next t k frame below) e loaded.during) in
    let past = (λ (j : ℕ). (let p : slice_get (words_of c f i op) (length args + j) ≡ slice_get rest j = ap (λ (ws : List Instr). slice_get ws (length args + j)) words ∙ arguments-past fact 10 args rest j in p)) in
    let e_number : slice_get (words_of c f i op) (length args) ≡ Some (Instr.Addi 17 0 (pos n)) = (let e : length args ≡ length args + 0 = omega arith in ap (slice_get (words_of c f i op)) e) ∙ past 0 in
    let number = add_immediate c code loaded.next t (length args) op frame below 17 0 n (pos n) there (whole (length args) (omega arith)) at_w e_number is_a7
    (ap (word.add 0) (word_of-small n (omega (arith, small.0))) ∙ add-small 0 n (omega (arith, small.0)) ∙ (let e : 0 + n ≡ n = omega arith in e)) in
    let ecall = ecall_is c code number.next t (length args + 1) n op frame below there (whole (length args + 1) (omega arith)) number.during (past 1) number.value_is in
    let held = (λ (j : ℕ) (few : j < length args). (let h : read number.next.core.x (10 + j) ≡ get_or vs j 0 = number.others (10 + j) (λ e. absurd (omega (arith, small.1, count))) ∙ loaded.values j few in h)) in
    record {
      steps = length args + 1;
      at = number.next;
      leads = Leads-then c code (length args) 1 l loaded.next number.next loaded.leads number.leads;
      during = number.during;
      rests = record {
        operation = there.there;
        ecall = refl;
        frames_are = HasFrames-inside c code number.next f i (length args + 1) op frame below there (whole (length args + 1) (omega arith)) number.during.inside;
        registers = (number.value_is, hold_arguments c number.next t frame args vs 10 number.during.variables values held);
      };
      good = ecall.1;
      asks = ecall.0 ∙ asks_for number.next n vs call (λ j few. held j (omega (arith, count))) is_call;
      areas = number.areas ∙ loaded.areas;
    }

-- ---- spawn

pub spawn_asks : (c : Checked) (code : List ℕ) (l : Local) (t : FlatThread) (site : ℕ) (d : Option ℕ) (g x v : ℕ) → CodeFacts c code → IsOperationAt c code t.frame.function t.frame.next (Op.Spawn site d g x) → (simulates : Simulates c l t) → scalar t x ≡ Some v →
    (fact_at c.certificate g).entry < 2 ^ 32 → need_of (kind_of c.certificate (Op.Spawn site d g x)) < 2 ^ 32 →
    AtAsk c code l t (Op.Spawn site d g x) 6 (local.Starts (fact_at c.certificate g).entry v (need_of (kind_of c.certificate (Op.Spawn site d g x)))) simulates.frame simulates.below
spawn_asks c code l t site d g x v facts there simulates value entry_below need_below =
    let op = Op.Spawn site d g x in
    let f = t.frame.function in
    let i = t.frame.next in
    let frame = simulates.frame in
    let below = simulates.below in
    let entry = (fact_at c.certificate g).entry in
    let need = need_of (kind_of c.certificate op) in
    let whole = (λ (w : ℕ) (few : w < 7). (let whole_word : IsWholeWord c f w op = record { small = omega arith; row_is = refl } in whole_word)) in
    let first = load_immediate c code l t 0 op frame below 10 entry there (whole 0 (omega arith)) (whole 1 (omega arith)) simulates.during refl refl is_a0 entry_below in
    let second = load_scalar c code first.next t 2 op frame below 11 x v facts there (whole 2 (omega arith)) first.during (fetch_at c code first.next f i 2 op frame below _ there first.during.inside refl) (one_word c f x there.formed.2) value is_a1 in
    let third = load_immediate c code second.next t 3 op frame below 12 need there (whole 3 (omega arith)) (whole 4 (omega arith)) second.during refl refl is_a2 need_below in
    let number = add_immediate c code third.next t 5 op frame below 17 0 4 (pos 4) there (whole 5 (omega arith)) third.during refl is_a7
    (ap (word.add 0) (word_of-small 4 (omega arith)) ∙ add-small 0 4 (omega arith)) in
    let ecall = ecall_is c code number.next t 6 4 op frame below there (whole 6 (omega arith)) number.during refl number.value_is in
    let in_a0 : read number.next.core.x 10 ≡ entry = number.others 10 (λ e. absurd (omega arith)) ∙ third.others 10 (λ e. absurd (omega arith)) ∙ second.others 10 (λ e. absurd (omega arith)) ∙ first.value_is in
    let in_a1 : read number.next.core.x 11 ≡ v = number.others 11 (λ e. absurd (omega arith)) ∙ third.others 11 (λ e. absurd (omega arith)) ∙ second.value_is in
    let in_a2 : read number.next.core.x 12 ≡ need = number.others 12 (λ e. absurd (omega arith)) ∙ third.value_is in
    let row = scalar_word (variable t.frame x) v value in
    let held : variable_word c number.next.areas.pool frame x 0 ≡ v = number.during.variables x (v ∷ row.0) row.1 0 (omega arith) in
    record {
      steps = 6;
      at = number.next;
      leads = Leads-then c code 5 1 l third.next number.next (Leads-then c code 3 2 l second.next third.next (Leads-then c code 2 1 l first.next second.next first.leads second.leads) third.leads) number.leads;
      during = number.during;
      rests = record {
        operation = there.there;
        ecall = refl;
        frames_are = HasFrames-inside c code number.next f i 6 op frame below there (whole 6 (omega arith)) number.during.inside;
        registers = (number.value_is, in_a0, in_a1 ∙ sym held, in_a2);
      };
      good = ecall.1;
      asks = ecall.0 ∙ (λ i. Asks (local.Starts (in_a0 i) (in_a1 i) (in_a2 i)) number.next);
      areas = number.areas ∙ third.areas ∙ second.areas ∙ first.areas;
    }
