-- The least function that the checker takes is the least first function of a thread that is too high.
use Rattle.chunk_budget.proofs.Common.{◌≡◌, ℕ, ◌-◌, ◌≤◌, ◌⊎◌, List, length, sym, ap, ◌∙◌, subst, arith, Some, inl, inr, ⊎_elim, Option, cases_lt, none-some, Op, FlatCode, Budget, IsLeastOf, height_of, IsRoot, IsHighRoot, least_below, high_function, high_root}
use Rattle.chunk_budget.proofs.LeastLemmas.{IsHeldBelow, same_least, own_least, below_least, inside}
use Rattle.chunk_budget.proofs.CoverLemmas.{refused_below, rejected}

-- an operation starts a thread with a function that is too high
record IsHighHere (chunks : ℕ) (heights : List ℕ) (op : Op) (n : ℕ) : Type 0 where
  site : ℕ
  result : Option ℕ
  argument : ℕ
  op_is : op ≡ Op.Spawn site result n argument
  high : chunks ≤ height_of heights n

high_here : (chunks : ℕ) (heights : List ℕ) (f : ℕ) (op : Op) (n : ℕ) → high_root chunks heights f op ≡ Some n → IsHighHere chunks heights op n
high_here chunks heights f (Op.Spawn site d g s) n e =
    let r = refused_below (height_of heights g) chunks g n e in
    record {
      site = site;
      result = d;
      argument = s;
      op_is = ap (λ (m : ℕ). Op.Spawn site d m s) r.1;
      high = subst (λ (m : ℕ). chunks ≤ height_of heights m) r.1 r.0;
    }
high_here chunks heights f _ n e = absurd (none-some n e)

module _ (code : FlatCode) (budget : Budget) (some : 1 ≤ budget.per_thread) where
  -- main or an operation has the number n
  abbrev IsFound : ℕ → Type 0
  IsFound n = (high_function budget.per_thread budget.heights code.main ≡ Some n) ⊎ IsHeldBelow (high_root budget.per_thread budget.heights) code (length code.functions) n

  to_high : (n : ℕ) → IsFound n → IsHighRoot code budget n
  to_high n (inl e) =
      let r = refused_below (height_of budget.heights code.main) budget.per_thread code.main n e in
      let high : budget.per_thread ≤ height_of budget.heights n = subst (λ (m : ℕ). budget.per_thread ≤ height_of budget.heights m) r.1 r.0 in
      (inl (sym r.1), omega arith)
  to_high n (inr b) =
      let here = high_here budget.per_thread budget.heights b.f b.held.op n b.held.number_is in
      let high = here.high in
      (inr (record { f = b.f; k = b.held.k; site = here.site; result = here.result; argument = here.argument; there = b.held.there ∙ ap Some here.op_is }), omega arith)

  from_high : (n : ℕ) → IsHighRoot code budget n → IsFound n
  from_high n h =
      let above = h.1 in
      let le : budget.per_thread ≤ height_of budget.heights n = omega arith in
      ⊎_elim
      (λ e. inl (subst (λ (m : ℕ). high_function budget.per_thread budget.heights m ≡ Some n) e (rejected (height_of budget.heights n) budget.per_thread n le)))
      (λ spawned. inr (record {
        f = spawned.f;
        below = inside code spawned.f spawned.k _ spawned.there;
        held = record {
          k = spawned.k;
          op = Op.Spawn spawned.site spawned.result n spawned.argument;
          there = spawned.there;
          number_is = rejected (height_of budget.heights n) budget.per_thread n le;
        };
      }))
      h.0

  -- the answer is the least first function of a thread that is too high, or none
  pub high_least : (r : Option ℕ) →
      r ≡ least_below (high_root budget.per_thread budget.heights) code (high_function budget.per_thread budget.heights code.main) (length code.functions) →
      IsLeastOf (IsHighRoot code budget) r
  high_least r e = subst (IsLeastOf (IsHighRoot code budget)) (sym e)
      (same_least IsFound (IsHighRoot code budget)
      (least_below (high_root budget.per_thread budget.heights) code (high_function budget.per_thread budget.heights code.main) (length code.functions)) to_high from_high
      (below_least (λ n. high_function budget.per_thread budget.heights code.main ≡ Some n) (high_root budget.per_thread budget.heights) code
      (high_function budget.per_thread budget.heights code.main) (length code.functions) (own_least (high_function budget.per_thread budget.heights code.main))))

-- where none is too high, each is at most one below the chunks of a thread
pub all_low : (code : FlatCode) (budget : Budget) → ((n : ℕ) → IsHighRoot code budget n → ⊥) → (g : ℕ) → IsRoot code g → height_of budget.heights g ≤ budget.per_thread - 1
all_low code budget none g root = ⊎_elim (λ high. absurd (none g (root, high))) (λ le. le) (cases_lt (budget.per_thread - 1) (height_of budget.heights g))
