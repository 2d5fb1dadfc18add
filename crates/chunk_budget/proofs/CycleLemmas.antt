-- A program on a cycle of calls has no budget: along each call the height falls, or it doesn't rise and the bound falls.
use Rattle.chunk_budget.proofs.Common.{◌≡◌, inl, inr, ◌⊎◌, ⊎_elim, ℕ, ◌+◌, ◌<◌, ◌≤◌, true, false, List, [], ◌∷◌, refl, sym, ap, ◌∙◌, subst, arith, Some, Op, FlatCode, operation_at, Certificate, kind_of, functions_called, Calls, height_of, chunks_added, AreCovered, Budget}
use Rattle.stack_image.specs.declared.images.Image.{Image}
use Rattle.stack_certificate.specs.declared.sites.LinkKind.{LinkKind}
use Rattle.stack_certificate.specs.Certificates.{fact_at}
use Rattle.certificate_rules.specs.Sites.{callees_of, certified_site, greatest_bound, starts_thread, is_spawned, NamesSites}
use Rattle.certificate_rules.specs.Validity.{IsValid}
use Rattle.call_graph.specs.Lists.{has}
use Rattle.call_cycles.specs.Cycles.{IsOnCycle, IsWay}
use Rattle.cycle_break.proofs.NumberLemmas.{all-has, has-cases, true_false}
use Rattle.chunk_budget.proofs.LeastLemmas.{inside}
use Rattle.chunk_budget.specs.LeastBudgets.{HasNoBudget, IsCycleRefusal}
use Rattle.chunk_budget.specs.declared.budgets.MakeBudgetError.{MakeBudgetError}
use Rattle.chunk_budget.specs.declared.budgets.MakeBudgetError.TheVariants.{Cycle, Memory}

-- the bound of each of some functions is at most the greatest
bound-within : (certificate : Certificate) (gs : List ℕ) (g : ℕ) → has g gs ≡ true → (fact_at certificate g).bound ≤ greatest_bound certificate gs
bound-within certificate [] g h = true_false false h refl
bound-within certificate (first ∷ gs) g h =
    has-cases g first gs h
    (λ e. let same : (fact_at certificate first).bound ≡ (fact_at certificate g).bound = ap (λ (n : ℕ). (fact_at certificate n).bound) e in omega (arith, same))
    (λ rest. omega (arith, bound-within certificate gs g rest))

module _ (code : FlatCode) (image : Image) (certificate : Certificate) (valid : IsValid code image certificate) (heights : List ℕ) (covered : AreCovered code certificate heights) where
  -- function g is lower than f, or no higher and with a lower bound
  abbrev Falls : ℕ → ℕ → Type 0
  Falls f g =
      (height_of heights g < height_of heights f)
      ⊎ ((height_of heights g ≤ height_of heights f) × ((fact_at certificate g).bound < (fact_at certificate f).bound))

  falls-more : (f g h : ℕ) → Falls f g → Falls g h → Falls f h
  falls-more f g h (inl a) (inl b) = inl (omega (arith, a, b))
  falls-more f g h (inl a) (inr b) = let le = b.0 in inl (omega (arith, a, le))
  falls-more f g h (inr a) (inl b) = let le = a.0 in inl (omega (arith, le, b))
  falls-more f g h (inr a) (inr b) =
      let first = a.0 in
      let second = b.0 in
      let bound = a.1 in
      let bound_more = b.1 in
      inr (omega (arith, first, second), omega (arith, bound, bound_more))

  -- the site of a call isn't certified as one that starts a thread
  names : NamesSites code certificate
  names = ((valid.holds 1 0 5).v1 refl).sites refl

  falls-of : (f g k site : ℕ) (op : Op) (kind : LinkKind) → kind_of certificate op ≡ kind → operation_at code f k ≡ Some op → certified_site op ≡ Some site →
      starts_thread op ≡ false → has g (functions_called code op) ≡ true → has g (callees_of code op) ≡ true → Falls f g
  falls-of f g k site op LinkKind.Plain e there at none called entered =
      let here = all-has (λ h. height_of heights h + chunks_added (kind_of certificate op) ≤ height_of heights f) (functions_called code op) g (covered f k op there) called in
      let added : chunks_added (kind_of certificate op) ≡ 0 = ap chunks_added e in
      let frame = ((valid.holds 3 f 0).v3 refl).frame refl (inside code f k op there) in
      let least = frame.1 in
      let bound = ((valid.holds 10 f site).v10 refl).bound k op there at e in
      let within = bound-within certificate (callees_of code op) g entered in
      inr (omega (arith, here, added), omega (arith, least, bound, within))
  falls-of f g k site op (LinkKind.Linked need) e there at none called entered =
      let here = all-has (λ h. height_of heights h + chunks_added (kind_of certificate op) ≤ height_of heights f) (functions_called code op) g (covered f k op there) called in
      let added : chunks_added (kind_of certificate op) ≡ 1 = ap chunks_added e in
      inl (omega (arith, here, added))
  falls-of f g k site op (LinkKind.Spawned need) e there at none called entered =
      let named = names.each f k site op there at in
      true_false true refl (let no : true ≡ false = sym (ap is_spawned e) ∙ (named.1 ∙ none) in no)

  falls-at : (f g k : ℕ) (op : Op) → operation_at code f k ≡ Some op → has g (functions_called code op) ≡ true → Falls f g
  falls-at f g k (Op.Call site d h args) there called = falls-of f g k site (Op.Call site d h args) (kind_of certificate (Op.Call site d h args)) refl there refl refl called called
  falls-at f g k (Op.CallTable site d t i s) there called = falls-of f g k site (Op.CallTable site d t i s) (kind_of certificate (Op.CallTable site d t i s)) refl there refl refl called called
  falls-at f g k _ there called = true_false false called refl

  falls : (f g : ℕ) → Calls code f g → Falls f g
  falls f g call = falls-at f g call.k call.op call.there call.called

  falls-along : (f g : ℕ) (way : List ℕ) (h : ℕ) → Falls f g → IsWay code g way h → Falls f h
  falls-along f g [] h fall e = subst (λ (n : ℕ). Falls f n) e fall
  falls-along f g (next ∷ way) h fall calls = falls-along f next way h (falls-more f g next fall (falls g next calls.0)) calls.1

  off_cycles : (f : ℕ) → IsOnCycle code f → ⊥
  off_cycles f cycle = ⊎_elim
      (λ lower. omega (arith, lower))
      (λ both. let lower = both.1 in omega (arith, lower))
      (falls-along f cycle.first cycle.rest f (falls f cycle.first cycle.call) cycle.way)

-- the refusal for a cycle tells that there is no budget
pub none-on_cycle : (code : FlatCode) (image : Image) (certificate : Certificate) → IsValid code image certificate → (error : MakeBudgetError) → IsCycleRefusal code error → HasNoBudget code certificate error
none-on_cycle code image certificate valid (Cycle f) least = λ (budget : Budget) is. off_cycles code image certificate valid budget.heights is.calls f least.holds
none-on_cycle code image certificate valid Memory refusal = tt
