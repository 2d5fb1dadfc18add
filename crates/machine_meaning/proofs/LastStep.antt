-- The step at which a thread of flat code asks: it stands at its operation, whose call it asks.
use Rattle.machine_meaning.proofs.Common.{◌≡◌, ℕ, zero, suc, Bool, true, false, List, [], ◌∷◌, length, Option, Some, None, refl, sym, ap, ◌∙◌, subst, nat_lt, Call, Question, call_of, width, word_at, with_word, Goes, Asks, Stops, and_then, moves, TrapKind, Op, FlatCode, members_of, FlatFrame, FlatThread, FlatWaiting, standing, variable}
use Rattle.flat_code.specs.Step.{FlatMove, on, scalar, scalars, where_in, jumps, puts, goes_with, asks, returns, does, flat_step, flat_machine}

module _ (code : FlatCode) where
  -- the last step of a thread that came to ask
  pub record Asked (asked : Question) (waiting : FlatWaiting) : Type 0 where
    pub last : FlatThread
    pub step : flat_step code last ≡ Asks asked waiting

  first_step : (n : ℕ) (t : FlatThread) (asked : Question) (waiting : FlatWaiting) (move : FlatMove) → flat_step code t ≡ move → ((next : FlatThread) → moves (flat_machine code) n next ≡ Asks asked waiting → Asked asked waiting)
      → and_then move (moves (flat_machine code) n) ≡ Asks asked waiting → Asked asked waiting
  first_step n t asked waiting (Goes next) is later e = later next e
  first_step n t asked waiting (Asks asked' waiting') is later e = record { last = t; step = is ∙ e }
  first_step n t asked waiting (Stops end) is later e = absurd cc

  pub asked_last : (n : ℕ) (t : FlatThread) (asked : Question) (waiting : FlatWaiting) → moves (flat_machine code) n t ≡ Asks asked waiting → Asked asked waiting
  asked_last zero t asked waiting e = absurd cc
  asked_last (suc n) t asked waiting e = first_step n t asked waiting (flat_step code t) refl (λ next. asked_last n next asked waiting) e

  -- ---- a thread that asks waits in its frame

  abbrev WaitsIn : FlatThread → FlatMove → Type 0
  WaitsIn t (Asks asked waiting) = waiting.frame ≡ t.frame
  WaitsIn t _ = Unit {0}

  on_waits : {A : Type 0} (t : FlatThread) (o : Option A) (use_it : A → FlatMove) → ((a : A) → WaitsIn t (use_it a)) → WaitsIn t (on o use_it)
  on_waits t None use_it h = tt
  on_waits t (Some a) use_it h = h a

  where_waits : (t : FlatThread) (b : Bool) (trap : TrapKind) (move : FlatMove) → WaitsIn t move → WaitsIn t (where_in b t trap move)
  where_waits t true trap move h = h
  where_waits t false trap move h = tt

  jumps_waits : (t : FlatThread) (to word : ℕ) → WaitsIn t (jumps t to word)
  jumps_waits t to zero = tt
  jumps_waits t to (suc n) = tt

  returns_waits : (t : FlatThread) (below : List FlatFrame) (word : ℕ) → WaitsIn t (returns code t below word)
  returns_waits t [] word = tt
  returns_waits t (frame ∷ below) word = tt

  does_waits : (t : FlatThread) (op : Op) → WaitsIn t (does code t op)
  does_waits t (Op.Copy d x) = on_waits t (scalar t x) _ (λ a. tt)
  does_waits t (Op.Neg d x) = on_waits t (scalar t x) _ (λ a. tt)
  does_waits t (Op.Not d x) = on_waits t (scalar t x) _ (λ a. tt)
  does_waits t (Op.Flip d x) = on_waits t (scalar t x) _ (λ a. tt)
  does_waits t (Op.Bin o d x y) = on_waits t (scalar t x) _ (λ a. on_waits t (scalar t y) _ (λ b. tt))
  does_waits t (Op.StoreGlobal g x) = on_waits t (scalar t x) _ (λ a. tt)
  does_waits t (Op.LoadLocal d a i) = on_waits t (scalar t i) _ (λ k. on_waits t (variable t.frame a) _ (λ row. where_waits t (nat_lt k (length row)) TrapKind.Index _ tt))
  does_waits t (Op.LoadArray d a i) = on_waits t (scalar t i) _ (λ k. where_waits t (nat_lt k (width t.globals a)) TrapKind.Index (puts t d (word_at t.globals a k)) tt)
  does_waits t (Op.StoreLocal a i x) = on_waits t (scalar t i) _ (λ k. on_waits t (scalar t x) _ (λ v. on_waits t (variable t.frame a) _ (λ row. where_waits t (nat_lt k (length row)) TrapKind.Index _ tt)))
  does_waits t (Op.StoreArray a i x) = on_waits t (scalar t i) _ (λ k. on_waits t (scalar t x) _ (λ v. where_waits t (nat_lt k (width t.globals a)) TrapKind.Index (goes_with t (with_word t.globals a k v)) tt))
  does_waits t (Op.JumpZero x to) = on_waits t (scalar t x) _ (λ a. jumps_waits t to a)
  does_waits t (Op.Call site d f args) = on_waits t (scalars t args) _ (λ ws. tt)
  does_waits t (Op.CallTable site d table i x) = on_waits t (scalar t i) _ (λ k. on_waits t (scalar t x) _ (λ v. where_waits t (nat_lt k (length (members_of code table))) TrapKind.Table _ tt))
  does_waits t (Op.Model site d n args) = on_waits t (scalars t args) _ (λ ws. on_waits t (call_of n ws) _ (λ call. refl))
  does_waits t (Op.Spawn site d f x) = on_waits t (scalar t x) _ (λ a. refl)
  does_waits t (Op.Return None) = returns_waits t t.below 0
  does_waits t (Op.Return (Some x)) = on_waits t (scalar t x) _ (λ a. returns_waits t t.below a)
  does_waits t _ = tt

  -- ---- a modelled call by its number

  abbrev CallsBy : ℕ → FlatMove → Type 0
  CallsBy n (Asks asked waiting) = (words : List ℕ) × (call_of n words ≡ Some asked.call)
  CallsBy n _ = Unit {0}

  call_by : (t : FlatThread) (n : ℕ) (words : List ℕ) (o : Option Call) → call_of n words ≡ o → CallsBy n (on o (asks t))
  call_by t n words None e = tt
  call_by t n words (Some call) e = (words, e)

  model_by : (t : FlatThread) (site n : ℕ) (d : Option ℕ) (args : List ℕ) → CallsBy n (does code t (Op.Model site d n args))
  model_by t site n d args = by_words (scalars t args)
    where
      by_words : (o : Option (List ℕ)) → CallsBy n (on o (λ arguments. on (call_of n arguments) (asks t)))
      by_words None = tt
      by_words (Some words) = call_by t n words (call_of n words) refl

  pub called_by : (asked : Question) (waiting : FlatWaiting) (site n : ℕ) (d : Option ℕ) (args : List ℕ) → Asked asked waiting → standing code waiting.frame ≡ Some (Op.Model site d n args) → (words : List ℕ) × (call_of n words ≡ Some asked.call)
  called_by asked waiting site n d args h at =
      let inside : WaitsIn h.last (Asks asked waiting) = subst (WaitsIn h.last) h.step (on_waits h.last (standing code h.last.frame) (does code h.last) (does_waits h.last)) in
      let here : standing code h.last.frame ≡ Some (Op.Model site d n args) = ap (λ (frame : FlatFrame). standing code frame) (sym inside) ∙ at in
      let step : does code h.last (Op.Model site d n args) ≡ Asks asked waiting = sym (ap (λ (o : Option Op). on o (does code h.last)) here) ∙ h.step in
      subst (CallsBy n) step (model_by h.last site n d args)
