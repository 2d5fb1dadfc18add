-- Sites of lowered programs: each stands in one function, and where a source frame waits at one, its function is there and
-- has the room that its place needs.
use Rattle.std.specs.Prelude.{filter_map, flat_map, slice_get, slice_index_or}
use Rattle.machine_meaning.proofs.Common.{◌≡◌, ℕ, zero, suc, ◌<◌, ◌≤◌, false, List, [], ◌∷◌, ◌++◌, map, length, Option, Some, None, refl, sym, ap, ◌∙◌, subst, arith, eqb, ⊎_elim, AllByRecursion, Contains, IsDistinct, cons_option, cases_lt, eqb-false, IsDistinct-head, IsDistinct-tail, below, FunctionTree, ProgramTree, NoStmts, IsWellScoped, function_at, CallInText, function_calls, function_ops, lowered_function, lowered, sites_distinct, FlatFunction, Op, operation_at, site_of, site_in}
use Rattle.flat_code.specs.Codes as codes
use Rattle.machine_meaning.proofs.Frames.{base, cx, temps}
use Rattle.machine_meaning.proofs.Lowered.{function_is, lowers}
use Rattle.machine_meaning.proofs.Pushed.{all_in_self}
use Rattle.machine_meaning.proofs.SiteNumbers.{sites, distinct_second}
use Rattle.machine_meaning.proofs.Stands.{AtEnd}
use Rattle.machine_meaning.proofs.TextCalls.{CallStands, stmts_calls_stand, contained_stands}
use Rattle.machine_meaning.proofs.Numbering.{past_end}

abbrev no_function : FunctionTree
no_function = record { name = []; params = 0; gives = false; sizes = []; body = NoStmts }

-- ---- a site stands in one function

-- the sites of functions, one after another
abbrev all_sites : List FunctionTree → List ℕ
all_sites fs = flat_map (λ (f : FlatFunction). filter_map site_of f.ops) (map lowered_function fs)

apart : (ops : List Op) (rest : List ℕ) (i s : ℕ) → IsDistinct eqb (sites ops ++ rest) → site_in (slice_get ops i) ≡ Some s → AllByRecursion (λ y. eqb s y ≡ false) rest
apart [] rest i s h e = absurd cc
apart (op ∷ ops) rest zero s h e = first (site_of op) h e
  where
    second : (xs ys : List ℕ) (P : ℕ → Type 0) → AllByRecursion P (xs ++ ys) → AllByRecursion P ys
    second [] ys P h = h
    second (x ∷ xs) ys P h = second xs ys P h.1

    first : (o : Option ℕ) → IsDistinct eqb (cons_option o (sites ops) ++ rest) → o ≡ Some s → AllByRecursion (λ y. eqb s y ≡ false) rest
    first None h e = absurd cc
    first (Some n) h e =
        let same : n ≡ s = cc in
        subst (λ (m : ℕ). AllByRecursion (λ y. eqb m y ≡ false) rest) same (second (sites ops) rest (λ y. eqb n y ≡ false) (IsDistinct-head eqb n (sites ops ++ rest) h))
apart (op ∷ ops) rest (suc i) s h e = apart ops rest i s (tail (site_of op) h) e
  where
    tail : (o : Option ℕ) → IsDistinct eqb (cons_option o (sites ops) ++ rest) → IsDistinct eqb (sites ops ++ rest)
    tail None h = h
    tail (Some n) h = IsDistinct-tail eqb n (sites ops ++ rest) h

-- what holds of all sites holds of each
each_site : (P : ℕ → Type 0) (fs : List FunctionTree) (f i s : ℕ) → f < length fs → AllByRecursion P (all_sites fs) → site_in (slice_get (function_ops (slice_index_or fs f no_function)) i) ≡ Some s → P s
each_site P [] f i s lt h e = absurd (omega arith)
each_site P (x ∷ fs) zero i s lt h e = here (function_ops x) i (front (sites (function_ops x)) (all_sites fs) h) e
  where
    front : (a b : List ℕ) → AllByRecursion P (a ++ b) → AllByRecursion P a
    front [] b h = tt
    front (y ∷ a) b h = (h.0, front a b h.1)

    known : (o : Option ℕ) (rest : List ℕ) → AllByRecursion P (cons_option o rest) → o ≡ Some s → P s
    known None rest h e = absurd cc
    known (Some n) rest h e = let same : n ≡ s = cc in subst P same h.0

    behind : (o : Option ℕ) (rest : List ℕ) → AllByRecursion P (cons_option o rest) → AllByRecursion P rest
    behind None rest h = h
    behind (Some n) rest h = h.1

    here : (ops : List Op) (i : ℕ) → AllByRecursion P (sites ops) → site_in (slice_get ops i) ≡ Some s → P s
    here [] i h e = absurd cc
    here (op ∷ ops) zero h e = known (site_of op) (sites ops) h e
    here (op ∷ ops) (suc i) h e = here ops i (behind (site_of op) (sites ops) h) e
each_site P (x ∷ fs) (suc f) i s lt h e = each_site P fs f i s (omega arith) (rest (sites (function_ops x)) (all_sites fs) h) e
  where
    rest : (a b : List ℕ) → AllByRecursion P (a ++ b) → AllByRecursion P b
    rest [] b h = h
    rest (y ∷ a) b h = rest a b h.1

same_place : (fs : List FunctionTree) (f g i j s : ℕ) → f < length fs → g < length fs → IsDistinct eqb (all_sites fs) → site_in (slice_get (function_ops (slice_index_or fs f no_function)) i) ≡ Some s → site_in (slice_get (function_ops (slice_index_or fs g no_function)) j) ≡ Some s → f ≡ g
same_place [] f g i j s lt lt' h e k = absurd (omega arith)
same_place (x ∷ fs) zero zero i j s lt lt' h e k = refl
same_place (x ∷ fs) zero (suc g) i j s lt lt' h e k =
    let all : AllByRecursion (λ y. eqb s y ≡ false) (all_sites fs) = apart (function_ops x) (all_sites fs) i s h e in
    absurd (eqb-false s s (each_site (λ y. eqb s y ≡ false) fs g j s (omega arith) all k) refl)
same_place (x ∷ fs) (suc f) zero i j s lt lt' h e k =
    let all : AllByRecursion (λ y. eqb s y ≡ false) (all_sites fs) = apart (function_ops x) (all_sites fs) j s h k in
    absurd (eqb-false s s (each_site (λ y. eqb s y ≡ false) fs f i s (omega arith) all e) refl)
same_place (x ∷ fs) (suc f) (suc g) i j s lt lt' h e k = ap suc (same_place fs f g i j s (omega arith) (omega arith) (distinct_second (sites (function_ops x)) (all_sites fs) h) e k)

-- ---- calls in the text

pub nothing_in : {A : Type 0} (x : A) → Contains [] x → ⊥
nothing_in x h = omega (arith, h.1)

module _ (program : ProgramTree) (scoped : IsWellScoped program) where
  -- a function with a call in its text is there
  pub has_calls : (f : ℕ) (call : CallInText) → Contains (function_calls (function_at program f)) call → f < length program.functions
  has_calls f call h = ⊎_elim (λ (lt : f < length program.functions). lt)
      (λ (ge : length program.functions ≤ f). absurd (nothing_in call (subst (λ (tree : FunctionTree). Contains (function_calls tree) call) (past_end program.functions f no_function ge) h)))
      (cases_lt f (length program.functions))

  -- a call of a function's text stands in its code
  pub call_is : (f : ℕ) (call : CallInText) → f < length program.functions → Contains (function_calls (function_at program f)) call
      → CallStands (operation_at (lowered program) f) (base program (lowered program) f) (cx program (lowered program) f) (temps program (lowered program) f) (function_calls (function_at program f)) call
  call_is f call lt h =
      let code = lowered program in
      let here = (lowers program scoped).functions f lt in
      let tree = function_at program f in
      contained_stands (operation_at code f) (base program code f) (cx program code f) (temps program code f) (function_calls tree) (function_calls tree) call
      (stmts_calls_stand (operation_at code f) (base program code f) (cx program code f) (temps program code f) (function_calls tree) tree.body false 0 here.last 0 0 (below tree.params) []
      here.body here.scoped.body (omega arith) (all_in_self (function_calls tree)) (AtEnd here.end) tt)
      h

  ops_of : (f : ℕ) → f < length program.functions → (codes.function_at (lowered program) f).ops ≡ function_ops (function_at program f)
  ops_of f lt = ap (λ (g : FlatFunction). g.ops) (function_is program scoped f lt)

  -- a function with an operation is there
  pub has_operation : (f i : ℕ) (op : Op) → operation_at (lowered program) f i ≡ Some op → f < length program.functions
  has_operation f i op e = ⊎_elim (λ (lt : f < length program.functions). lt)
      (λ (ge : length program.functions ≤ f). absurd (none program.functions f i ge e))
      (cases_lt f (length program.functions))
    where
      none : (fs : List FunctionTree) (f i : ℕ) → length fs ≤ f → slice_get (slice_index_or (map lowered_function fs) f (record { params = 0; gives = false; sizes = []; ops = [] })).ops i ≡ Some op → ⊥
      none [] f i le e = cc
      none (x ∷ fs) zero i le e = omega arith
      none (x ∷ fs) (suc f) i le e = none fs f i (omega arith) e

  -- an operation at the site of a call stands in the function of that call's text
  pub one_function : (f i s : ℕ) (op : Op) (g : ℕ) (call : CallInText) → operation_at (lowered program) f i ≡ Some op → site_of op ≡ Some s → Contains (function_calls (function_at program g)) call → s ≡ Rattle.c_mean.specs.Sites.site_of call → f ≡ g
  one_function f i s op g call e site in_text is =
      let lt = has_operation f i op e in
      let lt' = has_calls g call in_text in
      let there = call_is g call lt' in_text in
      same_place program.functions f g i there.place s lt lt' (sites_distinct program scoped.site_numbers.0)
      (ap (λ (os : List Op). site_in (slice_get os i)) (sym (ops_of f lt)) ∙ ap site_in e ∙ site)
      (ap (λ (os : List Op). site_in (slice_get os there.place)) (sym (ops_of g lt')) ∙ there.site ∙ ap (λ n. Some n) (sym is))
