-- No step of a thread of flat code changes the function with which it started.
use Rattle.segment_laws.proofs.Common.{◌≡◌, ℕ, zero, suc, Bool, true, false, List, [], ◌∷◌, length, Option, Some, None, refl, sym, ap, ◌∙◌, subst, nat_lt, Call, call_of, width, word_at, with_word, Goes, and_then, moves, TrapKind, Pool, Op, FlatCode, members_of, FlatFrame, FlatThread, standing, variable, with_result, FlatMove, on, scalar, scalars, where_in, jumps, puts, goes_with, asks, place_in, returns, does, flat_step, flat_machine, Frame, Checked, AreFlatFrames, last_function, last_flat, first_of}

-- ---- frames of both

pub frames-first : (c : Checked) (pool : Pool) (frames : List Frame) (flats : List FlatFrame) (f g : ℕ) → f ≡ g → AreFlatFrames c pool frames flats → last_function f frames ≡ last_flat g flats
frames-first c pool [] [] f g e are = e
frames-first c pool (frame ∷ frames) (flat ∷ flats) f g e are = frames-first c pool frames flats frame.function flat.function are.0.function are.1
frames-first c pool _ _ f g e are = absurd are

-- a frame that goes on is of its function
pub result-function : (frame : FlatFrame) (d : Option ℕ) (word : ℕ) → (with_result frame d word).function ≡ frame.function
result-function frame None word = refl
result-function frame (Some d) word = refl

-- ---- one step

abbrev Keeps : ℕ → FlatMove → Type 0
Keeps f (Goes next) = first_of next ≡ f
Keeps f _ = Unit {0}

module _ (code : FlatCode) where
  on-keeps : {A : Type 0} (f : ℕ) (o : Option A) (use_it : A → FlatMove) → ((a : A) → Keeps f (use_it a)) → Keeps f (on o use_it)
  on-keeps f None use_it keeps = tt
  on-keeps f (Some a) use_it keeps = keeps a

  where-keeps : (f : ℕ) (t : FlatThread) (b : Bool) (trap : TrapKind) (move : FlatMove) → Keeps f move → Keeps f (where_in b t trap move)
  where-keeps f t true trap move keeps = keeps
  where-keeps f t false trap move keeps = tt

  jumps-keeps : (t : FlatThread) (to word : ℕ) → Keeps (first_of t) (jumps t to word)
  jumps-keeps t to zero = refl
  jumps-keeps t to (suc n) = refl

  returns-keeps : (t : FlatThread) (below : List FlatFrame) (word : ℕ) → Keeps (last_flat t.frame.function below) (returns code t below word)
  returns-keeps t [] word = tt
  returns-keeps t (frame ∷ below) word = ap (λ (f : ℕ). last_flat f below) (result-function frame (place_in (standing code frame)) word)

  asks-keeps : (t : FlatThread) (o : Option Call) → Keeps (first_of t) (on o (asks t))
  asks-keeps t None = tt
  asks-keeps t (Some call) = tt

  does-keeps : (t : FlatThread) (op : Op) → Keeps (first_of t) (does code t op)
  does-keeps t (Op.Copy d x) = on-keeps (first_of t) (scalar t x) _ (λ a. refl)
  does-keeps t (Op.Neg d x) = on-keeps (first_of t) (scalar t x) _ (λ a. refl)
  does-keeps t (Op.Not d x) = on-keeps (first_of t) (scalar t x) _ (λ a. refl)
  does-keeps t (Op.Flip d x) = on-keeps (first_of t) (scalar t x) _ (λ a. refl)
  does-keeps t (Op.Bin o d x y) = on-keeps (first_of t) (scalar t x) _ (λ a. on-keeps (first_of t) (scalar t y) _ (λ b. refl))
  does-keeps t (Op.StoreGlobal g x) = on-keeps (first_of t) (scalar t x) _ (λ a. refl)
  does-keeps t (Op.LoadLocal d a i) = on-keeps (first_of t) (scalar t i) _ (λ k. on-keeps (first_of t) (variable t.frame a) _ (λ row. where-keeps (first_of t) t (nat_lt k (length row)) TrapKind.Index _ refl))
  does-keeps t (Op.LoadArray d a i) = on-keeps (first_of t) (scalar t i) _ (λ k. where-keeps (first_of t) t (nat_lt k (width t.globals a)) TrapKind.Index (puts t d (word_at t.globals a k)) refl)
  does-keeps t (Op.StoreLocal a i x) = on-keeps (first_of t) (scalar t i) _ (λ k. on-keeps (first_of t) (scalar t x) _ (λ v. on-keeps (first_of t) (variable t.frame a) _ (λ row. where-keeps (first_of t) t (nat_lt k (length row)) TrapKind.Index _ refl)))
  does-keeps t (Op.StoreArray a i x) = on-keeps (first_of t) (scalar t i) _ (λ k. on-keeps (first_of t) (scalar t x) _ (λ v. where-keeps (first_of t) t (nat_lt k (width t.globals a)) TrapKind.Index (goes_with t (with_word t.globals a k v)) refl))
  does-keeps t (Op.JumpZero x to) = on-keeps (first_of t) (scalar t x) _ (λ a. jumps-keeps t to a)
  does-keeps t (Op.Call site d f args) = on-keeps (first_of t) (scalars t args) _ (λ ws. refl)
  does-keeps t (Op.CallTable site d table i x) = on-keeps (first_of t) (scalar t i) _ (λ k. on-keeps (first_of t) (scalar t x) _ (λ v. where-keeps (first_of t) t (nat_lt k (length (members_of code table))) TrapKind.Table _ refl))
  does-keeps t (Op.Model site d n args) = on-keeps (first_of t) (scalars t args) _ (λ ws. asks-keeps t (call_of n ws))
  does-keeps t (Op.Spawn site d f x) = on-keeps (first_of t) (scalar t x) _ (λ a. tt)
  does-keeps t (Op.Return None) = returns-keeps t t.below 0
  does-keeps t (Op.Return (Some x)) = on-keeps (first_of t) (scalar t x) _ (λ a. returns-keeps t t.below a)
  does-keeps t _ = refl

  step-keeps : (t : FlatThread) → Keeps (first_of t) (flat_step code t)
  step-keeps t = on-keeps (first_of t) (standing code t.frame) (does code t) (λ op. does-keeps t op)

  pub step-first : (t after : FlatThread) → flat_step code t ≡ Goes after → first_of after ≡ first_of t
  step-first t after e = subst (Keeps (first_of t)) e (step-keeps t)

  -- ---- silent steps

  then-first : (n : ℕ) (t after : FlatThread) (move : FlatMove) → flat_step code t ≡ move → ((next : FlatThread) → moves (flat_machine code) n next ≡ Goes after → first_of after ≡ first_of next) → and_then move (moves (flat_machine code) n) ≡ Goes after →
      first_of after ≡ first_of t
  then-first n t after (Goes next) step later e = later next e ∙ step-first t next step
  then-first n t after _ step later e = absurd cc

  pub moves-first : (n : ℕ) (t after : FlatThread) → moves (flat_machine code) n t ≡ Goes after → first_of after ≡ first_of t
  moves-first zero t after e = let same : t ≡ after = cc in ap first_of (sym same)
  moves-first (suc n) t after e = then-first n t after (flat_step code t) refl (λ next. moves-first n next after) e
