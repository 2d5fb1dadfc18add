-- Between segments: the start, deliveries, the clock, and that each world whose threads rest stands for some source world.
use Rattle.machine_meaning.proofs.Common.{◌≡◌, ℕ, zero, suc, ◌+◌, ◌<◌, ◌≤◌, Bool, true, false, nat_eq, List, [], ◌∷◌, ◌++◌, length, map, replicate, Option, Some, None, refl, sym, ap, subst, ◌∙◌, arith, cond, ⊎_elim, slice_get, is_none, option_map, nat_le, ◌&&◌, flat_map, cases_lt, cond_both, cond-true, cond-false, eq-eqb, ne_eqb, length-map, length-replicate, lowered_function, lowered_global, lowered, Waiting, function_at, Exchange, Delivery, is_dropped, with_delivery, start_globals, Rest, ProgramTree, IsWellScoped, IsValid, Pool, Taken, taken_for, Areas, AreGlobals, Frame, Core, Checked, IsResting, AtStart, PastCall, SourceThread, Starts, Waits, StandsFor, StandsForRest, StandsForWorld, Blocked, Thread, World, Setting, first_with, thread_of, start_core, with_thread, AreWellFormed, IsWellFormed, fact_at, Certificate, Image, RestsSo, IsSettledIf, IsSettled, StandsSettled}
use Rattle.c_mean.specs.World as source
use Rattle.c_tree.specs.declared.facts.GlobalFact.{GlobalFact}
use Rattle.certificate_rules.specs.Rules.{starting_words}
use Rattle.machine_meaning.proofs.LoweredSteps.{params_at}
use Rattle.machine_world.specs.Runs.{Advance, Deliver, after_action, delivered, advanced, empty_world, started_on, start_world, is_between}
use Rattle.machine_meaning.proofs.BetweenLaws as between
use Rattle.machine_meaning.proofs.StandsForSome.{globals_somewhere}
use Rattle.machine_meaning.proofs.Alone.{fresh_somewhere}
use Rattle.machine_meaning.proofs.Fresh.{new_stands}
use Rattle.machine_meaning.proofs.Threads.{none_from}

-- no world
abbrev no_world : Option World
no_world = None

-- ---- deliveries and the clock

same_delivery : (c : Checked) (program : ProgramTree) (s : Setting) (w : World) (other : source.World) (delivery : Delivery) → StandsSettled c program w other
    → StandsSettled c program (delivered s w delivery) (cond (is_dropped s.backlog w.exchange delivery) other (record other { exchange = with_delivery w.exchange delivery }))
same_delivery c program s w other delivery h = by_drop (is_dropped s.backlog w.exchange delivery)
  where
    by_drop : (b : Bool) → StandsSettled c program (cond b w (record w { exchange = with_delivery w.exchange delivery })) (cond b other (record other { exchange = with_delivery w.exchange delivery }))
    by_drop true = h
    by_drop false = record {
      stands = record { between = h.stands.between; threads = h.stands.threads; globals_are = h.stands.globals_are; exchange = refl; next = h.stands.next };
      settled = record { between = h.settled.between; threads = h.settled.threads };
    }

pub delivered_law : (c : Checked) (program : ProgramTree) (s : Setting) (w after : World) (other : source.World) (delivery : Delivery) → StandsSettled c program w other → after_action s w (Deliver delivery) ≡ Some after
    → StandsSettled c program after (cond (is_dropped s.backlog other.exchange delivery) other (record other { exchange = with_delivery other.exchange delivery }))
delivered_law c program s w after other delivery h e =
    let between : is_between w ≡ true = ap (λ (o : Option ℕ). is_none o) h.settled.between in
    let is : Some (delivered s w delivery) ≡ Some after = sym (ap (λ (b : Bool). cond b (Some (delivered s w delivery)) no_world) between) ∙ e in
    let same : delivered s w delivery ≡ after = cc in
    subst (λ (v : World). StandsSettled c program v (cond (is_dropped s.backlog other.exchange delivery) other (record other { exchange = with_delivery other.exchange delivery }))) same
    (subst (λ (x : Exchange). StandsSettled c program (delivered s w delivery) (cond (is_dropped s.backlog x delivery) other (record other { exchange = with_delivery x delivery }))) h.stands.exchange (same_delivery c program s w other delivery h))

pub advanced_law : (c : Checked) (program : ProgramTree) (s : Setting) (w after : World) (other : source.World) (to : ℕ) → StandsSettled c program w other → after_action s w (Advance to) ≡ Some after → StandsSettled c program after other
advanced_law c program s w after other to h e =
    cond_both (is_between w && nat_le w.clock to) (Some (advanced w to)) no_world (λ (o : Option World). o ≡ Some after → StandsSettled c program after other)
    (λ may e'. let same : advanced w to ≡ after = cc in subst (λ (v : World). StandsSettled c program v other) same (record {
      stands = record { between = h.stands.between; threads = h.stands.threads; globals_are = h.stands.globals_are; exchange = h.stands.exchange; next = h.stands.next };
      settled = record { between = h.settled.between; threads = h.settled.threads };
    }))
    (λ may_not e'. absurd (let none : no_world ≡ Some after = e' in cc))
    e

-- ---- the start

same_words : {A : Type 0} (xs ys : List A) → ((i : ℕ) → slice_get xs i ≡ slice_get ys i) → xs ≡ ys
same_words [] [] h = refl
same_words (x ∷ xs) (y ∷ ys) h = (let first : Some x ≡ Some y = h 0 in let same : x ≡ y = cc in let rest = same_words xs ys (λ i. h (suc i)) in λ k. same k ∷ rest k)
same_words _ _ h = absurd (let e = h 0 in cc)

starts_wide : (gs : List GlobalFact) → map length (map (λ (g : GlobalFact). replicate g.words g.start) gs) ≡ map (λ g. g.words) (map lowered_global gs)
starts_wide [] = refl
starts_wide (g ∷ gs) = (let first = length-replicate g.words g.start in let rest = starts_wide gs in λ k. first k ∷ rest k)

starts_joined : (gs : List GlobalFact) → flat_map (λ row. row) (map (λ (g : GlobalFact). replicate g.words g.start) gs) ≡ flat_map (λ g. replicate g.words g.start) (map lowered_global gs)
starts_joined [] = refl
starts_joined (g ∷ gs) = ap (λ (ws : List ℕ). replicate g.words g.start ++ ws) (starts_joined gs)

globals_start : (program : ProgramTree) (image : Image) (certificate : Certificate) → IsValid (lowered program) image certificate → AreGlobals (lowered program) (start_globals program) image.globals
globals_start program image certificate valid = record {
  widths = starts_wide program.globals;
  joined = starts_joined program.globals ∙ sym (same_words image.globals (starting_words (lowered program)) (λ i. ((valid.holds 12 0 i).v12 refl).word));
}

-- a world of one thread
first_thread : (P : Option Thread → Option Rest → Type 0) (thread : Thread) (rest : Rest) → thread.number ≡ 0 → P (Some thread) (Some rest) → P None None → (n : ℕ) → P (first_with n (thread ∷ [])) (slice_get (rest ∷ []) n)
first_thread P thread rest is some none zero = subst (λ (o : Option Thread). P o (Some rest)) (sym (cond-true (nat_eq thread.number 0) (Some thread) None (eq-eqb thread.number 0 is))) some
first_thread P thread rest is some none (suc n) = subst (λ (o : Option Thread). P o None) (sym (cond-false (nat_eq thread.number (suc n)) (Some thread) None (ne_eqb thread.number (suc n) (λ e. omega (arith, e, is))))) none

starts_on : (program : ProgramTree) (image : Image) (certificate : Certificate) (w : World) (areas : Areas) (found : Option Taken) → IsWellScoped program → IsValid (lowered program) image certificate → areas.globals ≡ image.globals → AreWellFormed (record { flat = lowered program; certificate = certificate }) areas
    → taken_for areas.pool (fact_at certificate program.main).bound ≡ found → started_on (empty_world areas) (fact_at certificate program.main).entry found ≡ Some w
    → StandsSettled (record { flat = lowered program; certificate = certificate }) program w (source.start_world program)
starts_on program image certificate w areas None scoped valid same_globals formed taken e = absurd (let none : no_world ≡ Some w = e in cc)
starts_on program image certificate w areas (Some taken) scoped valid same_globals formed found e =
    let c : Checked = record { flat = lowered program; certificate = certificate } in
    let first = with_thread (empty_world areas) taken (fact_at certificate program.main).entry 0 in
    let same : first ≡ w = cc in
    let there : program.main < length (lowered program).functions = (let main = scoped.main_defined in omega (arith, main, length-map program.functions lowered_function)) in
    let signed = (let main = scoped.main_defined in params_at program program.main (omega (arith, main, length-map program.functions Rattle.c_tree.specs.WellScoped.signature_of))) in
    let params : length {A = ℕ} [] ≡ (function_at program program.main).params = sym (sym signed ∙ scoped.main_params) in
    let globals = subst (AreGlobals (lowered program) (start_globals program)) (sym same_globals) (globals_start program image certificate valid) in
    let new = new_stands program image certificate scoped valid areas taken (fact_at certificate program.main).bound program.main 0 [] (start_globals program) formed found (omega arith) there (omega arith) params (λ k lt. absurd (omega (arith, lt))) globals in
    let thread : Thread = record { number = 0; core = start_core taken (fact_at certificate program.main).entry 0; blocked = None } in
    subst (λ (v : World). StandsSettled c program v (source.start_world program)) same (record {
      stands = record {
        between = refl;
        threads = first_thread (λ (o : Option Thread) (rest : Option Rest). StandsForRest c program first.areas.pool o rest) thread (source.Fresh program.main []) refl (record { unblocked = refl; rests = AtStart program.main new.frames new.in_place; stands = new.stands }) tt;
        globals_are = globals;
        exchange = refl;
        next = refl;
      };
      settled = record { between = refl; threads = first_thread (λ (o : Option Thread) (rest : Option Rest). IsSettledIf c first.areas.pool o) thread (source.Fresh program.main []) refl (AtStart program.main new.frames new.in_place, new.single) tt };
    })

pub starts_law : (program : ProgramTree) (image : Image) (certificate : Certificate) (w : World) (areas : Areas) → IsWellScoped program → IsValid (lowered program) image certificate → areas.globals ≡ image.globals → AreWellFormed (record { flat = lowered program; certificate = certificate }) areas
    → start_world areas (fact_at certificate program.main).entry (fact_at certificate program.main).bound ≡ Some w → StandsSettled (record { flat = lowered program; certificate = certificate }) program w (source.start_world program)
unfolding start_world
starts_law program image certificate w areas scoped valid same_globals formed e = starts_on program image certificate w areas (taken_for areas.pool (fact_at certificate program.main).bound) scoped valid same_globals formed refl e

-- ---- some source world

-- the rest of a source thread that a machine thread stands for
record RestFor (c : Checked) (program : ProgramTree) (pool : Pool) (thread : Option Thread) : Type 0 where
  rest : Rest
  stands : StandsForRest c program pool thread (Some rest)

-- lists by number
listed : {A : Type 0} → (ℕ → A) → (from n : ℕ) → List A
listed g from zero = []
listed g from (suc n) = g from ∷ listed g (from + 1) n

listed_length : {A : Type 0} (g : ℕ → A) (from n : ℕ) → length (listed g from n) ≡ n
unfolding listed
listed_length g from zero = refl
listed_length g from (suc n) = ap suc (listed_length g (from + 1) n)

listed_at : {A : Type 0} (g : ℕ → A) (from n k : ℕ) → k < n → slice_get (listed g from n) k ≡ Some (g (from + k))
unfolding listed
listed_at g from zero k lt = absurd (omega arith)
listed_at g from (suc n) zero lt = (let same : from ≡ from + 0 = omega arith in ap (λ (i : ℕ). Some (g i)) same)
listed_at g from (suc n) (suc k) lt = listed_at g (from + 1) n k (omega arith) ∙ (let same : from + 1 + k ≡ from + suc k = omega arith in ap (λ (i : ℕ). Some (g i)) same)

listed_past : {A : Type 0} (g : ℕ → A) (from n k : ℕ) → n ≤ k → slice_get (listed g from n) k ≡ None
unfolding listed
listed_past g from zero k le = refl
listed_past g from (suc n) zero le = absurd (omega arith)
listed_past g from (suc n) (suc k) le = listed_past g (from + 1) n k (omega arith)

module _ (program : ProgramTree) (image : Image) (certificate : Certificate) (scoped : IsWellScoped program) (valid : IsValid (lowered program) image certificate) where
  abbrev checked : Checked
  checked = record { flat = lowered program; certificate = certificate }

  waits_for : (pool : Pool) (core : Core) (f i : ℕ) (op : Rattle.flat_code.specs.declared.operations.Op.Op) (word : ℕ) (place : Rattle.machine_world.specs.Places.Place) (frames : List Frame) (past : Rattle.machine_world.specs.Rests.IsPastCall checked pool core f i op word place frames)
      → (thread : SourceThread) → StandsFor checked program pool core (PastCall f i op word place frames past) thread → (waiting : Waiting) × StandsFor checked program pool core (PastCall f i op word place frames past) (Waits waiting)
  waits_for pool core f i op word place frames past (Starts frame below) h = absurd h
  waits_for pool core f i op word place frames past (Waits waiting) h = (waiting, h)

  rest_for : (pool : Pool) (thread : Thread) (blocked : Option Blocked) (rests : IsResting checked pool thread.core) → thread.blocked ≡ blocked → RestsSo checked pool thread rests blocked → RestFor checked program pool (Some thread)
  rest_for pool thread None (AtStart f frames in_place) is single =
      let new = fresh_somewhere program image certificate scoped valid pool thread.core f frames in_place single in
      record { rest = source.Fresh new.function new.arguments; stands = record { unblocked = is; rests = AtStart f frames in_place; stands = new.stands } }
  rest_for pool thread (Some blocked) (PastCall f i op word place frames in_place) is so =
      let some = between.somewhere program checked image pool thread.core (PastCall f i op word place frames in_place) scoped refl valid in
      let waits = waits_for pool thread.core f i op word place frames in_place some.0 some.1 in
      record {
        rest = source.Blocked blocked.block waits.0;
        stands = record { blocked = ap (option_map (λ (b : Blocked). b.block)) is; rests = PastCall f i op word place frames in_place; past = tt; stands = waits.1 };
      }
  rest_for pool thread _ _ is so = absurd so

  rest_if : (pool : Pool) (thread : Option Thread) → IsSettledIf checked pool thread → RestFor checked program pool thread
  rest_if pool None h = record { rest = source.Ended; stands = tt }
  rest_if pool (Some thread) h = rest_for pool thread thread.blocked h.0 refl h.1

  pub somewhere_law : (s : Setting) (w : World) → IsWellFormed checked s w → IsSettled checked w → (other : source.World) × StandsForWorld checked program w other
  somewhere_law s w formed settled =
      let globals = globals_somewhere (lowered program) w.areas.globals formed.areas.globals in
      let rest_at : ℕ → Rest = λ n. (rest_if w.areas.pool (thread_of w n) (settled.threads n)).rest in
      let rests : List Rest = listed rest_at 0 w.next in (
        record { threads = rests; globals = globals.0; exchange = w.exchange; outputs = [] },
        record {
          between = settled.between;
          threads = λ n. ⊎_elim
              (λ (lt : n < w.next). subst (StandsForRest checked program w.areas.pool (thread_of w n)) (sym (listed_at rest_at 0 w.next n lt ∙ (let same : 0 + n ≡ n = omega arith in ap (λ (k : ℕ). Some (rest_at k)) same)))
              (rest_if w.areas.pool (thread_of w n) (settled.threads n)).stands)
              (λ (ge : w.next ≤ n). subst (λ (o : Option Thread). StandsForRest checked program w.areas.pool o (slice_get rests n)) (sym (none_from 0 w.next n w.threads formed.counted.numbered ge))
              (subst (StandsForRest checked program w.areas.pool None) (sym (listed_past rest_at 0 w.next n ge)) tt))
              (cases_lt n w.next);
          globals_are = globals.1;
          exchange = refl;
          next = sym (listed_length rest_at 0 w.next);
        },
      )
