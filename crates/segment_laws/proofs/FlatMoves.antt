-- What a step of a flat thread can't lead to, by its operation: which operations ask, and which end or trap.
use Rattle.segment_laws.proofs.Common.{◌≡◌, ℕ, zero, suc, ◌<◌, ◌≤◌, Bool, true, false, List, [], ◌∷◌, length, Option, Some, None, sym, ap, subst, ◌∙◌, ⊎_elim, nat_lt, cases_lt, lt-ltb, le-ltb, Finish, call_of, Goes, Asks, Stops, TrapKind, FlatCode, FlatFrame, FlatThread, Finished, Lost, variable, FlatMove, on, scalar, scalars, where_in, trapped, jumps, asks, returns, does, Op}

-- ---- no question

abbrev pub NoQuestion : FlatMove → Type 0
NoQuestion (Asks question waiting) = ⊥
NoQuestion _ = Unit {0}

on_none : {A : Type 0} (o : Option A) (k : A → FlatMove) → ((a : A) → NoQuestion (k a)) → NoQuestion (on o k)
on_none None k h = tt
on_none (Some a) k h = h a

where_none : (b : Bool) (t : FlatThread) (trap : TrapKind) (move : FlatMove) → NoQuestion move → NoQuestion (where_in b t trap move)
where_none true t trap move h = h
where_none false t trap move h = tt

jumps_none : (t : FlatThread) (to v : ℕ) → NoQuestion (jumps t to v)
jumps_none t to zero = tt
jumps_none t to (suc v) = tt

returns_none : (code : FlatCode) (t : FlatThread) (below : List FlatFrame) (word : ℕ) → NoQuestion (returns code t below word)
returns_none code t [] word = tt
returns_none code t (frame ∷ below) word = tt

-- operations that ask
abbrev pub IsQuestion : Op → Type 0
IsQuestion (Op.Model site d n args) = Unit {0}
IsQuestion (Op.Spawn site d f s) = Unit {0}
IsQuestion _ = ⊥

pub asks_nothing : (code : FlatCode) (t : FlatThread) (op : Op) → (IsQuestion op → ⊥) → NoQuestion (does code t op)
asks_nothing code t (Op.Copy d s) not = on_none (scalar t s) _ (λ a. tt)
asks_nothing code t (Op.Neg d s) not = on_none (scalar t s) _ (λ a. tt)
asks_nothing code t (Op.Not d s) not = on_none (scalar t s) _ (λ a. tt)
asks_nothing code t (Op.Flip d s) not = on_none (scalar t s) _ (λ a. tt)
asks_nothing code t (Op.Bin op d x y) not = on_none (scalar t x) _ (λ a. on_none (scalar t y) _ (λ b. tt))
asks_nothing code t (Op.StoreGlobal g s) not = on_none (scalar t s) _ (λ a. tt)
asks_nothing code t (Op.LoadLocal d a i) not = on_none (scalar t i) _ (λ k. on_none (variable t.frame a) _ (λ row. where_none (nat_lt k (length row)) t TrapKind.Index _ tt))
asks_nothing code t (Op.LoadArray d a i) not = on_none (scalar t i) _ (λ k. where_none (nat_lt k _) t TrapKind.Index _ tt)
asks_nothing code t (Op.StoreLocal a i s) not = on_none (scalar t i) _ (λ k. on_none (scalar t s) _ (λ v. on_none (variable t.frame a) _ (λ row. where_none (nat_lt k (length row)) t TrapKind.Index _ tt)))
asks_nothing code t (Op.StoreArray a i s) not = on_none (scalar t i) _ (λ k. on_none (scalar t s) _ (λ v. where_none (nat_lt k _) t TrapKind.Index _ tt))
asks_nothing code t (Op.JumpZero s to) not = on_none (scalar t s) _ (λ v. jumps_none t to v)
asks_nothing code t (Op.Call site d f args) not = on_none (scalars t args) _ (λ vs. tt)
asks_nothing code t (Op.CallTable site d table i s) not = on_none (scalar t i) _ (λ k. on_none (scalar t s) _ (λ v. where_none (nat_lt k _) t TrapKind.Table _ tt))
asks_nothing code t (Op.Model site d n args) not = absurd (not tt)
asks_nothing code t (Op.Spawn site d f s) not = absurd (not tt)
asks_nothing code t (Op.Return None) not = returns_none code t t.below 0
asks_nothing code t (Op.Return (Some s)) not = on_none (scalar t s) _ (λ v. returns_none code t t.below v)
asks_nothing code t _ not = tt

-- ---- a question alone

abbrev pub OnlyQuestion : FlatMove → Type 0
OnlyQuestion (Goes next) = ⊥
OnlyQuestion (Asks question waiting) = Unit {0}
OnlyQuestion (Stops (Finished finish)) = ⊥
OnlyQuestion (Stops Lost) = Unit {0}

on_only : {A : Type 0} (o : Option A) (k : A → FlatMove) → ((a : A) → OnlyQuestion (k a)) → OnlyQuestion (on o k)
on_only None k h = tt
on_only (Some a) k h = h a

pub model_asks : (code : FlatCode) (t : FlatThread) (site n : ℕ) (d : Option ℕ) (args : List ℕ) → OnlyQuestion (does code t (Op.Model site d n args))
model_asks code t site n d args = on_only (scalars t args) _ (λ vs. on_only (call_of n vs) (asks t) (λ call. tt))

pub spawn_asks : (code : FlatCode) (t : FlatThread) (site g x : ℕ) (d : Option ℕ) → OnlyQuestion (does code t (Op.Spawn site d g x))
spawn_asks code t site g x d = on_only (scalar t x) _ (λ v. tt)

-- ---- no end and no trap

abbrev pub NoFinish : FlatMove → Type 0
NoFinish (Stops (Finished finish)) = ⊥
NoFinish _ = Unit {0}

on_goes : {A : Type 0} (o : Option A) (k : A → FlatMove) → ((a : A) → NoFinish (k a)) → NoFinish (on o k)
on_goes None k h = tt
on_goes (Some a) k h = h a

jumps_on : (t : FlatThread) (to v : ℕ) → NoFinish (jumps t to v)
jumps_on t to zero = tt
jumps_on t to (suc v) = tt

pub call_goes : (code : FlatCode) (t : FlatThread) (site g : ℕ) (d : Option ℕ) (args : List ℕ) → NoFinish (does code t (Op.Call site d g args))
call_goes code t site g d args = on_goes (scalars t args) _ (λ vs. tt)

-- operations that may trap, end or ask
abbrev pub MayStop : Op → Type 0
MayStop (Op.LoadLocal d a i) = Unit {0}
MayStop (Op.LoadArray d a i) = Unit {0}
MayStop (Op.StoreLocal a i s) = Unit {0}
MayStop (Op.StoreArray a i s) = Unit {0}
MayStop (Op.Call site d f args) = Unit {0}
MayStop (Op.CallTable site d t i s) = Unit {0}
MayStop (Op.Model site d n args) = Unit {0}
MayStop (Op.Spawn site d f s) = Unit {0}
MayStop (Op.Return s) = Unit {0}
MayStop _ = ⊥

pub goes_alone : (code : FlatCode) (t : FlatThread) (op : Op) → (MayStop op → ⊥) → NoFinish (does code t op)
goes_alone code t (Op.Const d v) not = tt
goes_alone code t (Op.Copy d s) not = on_goes (scalar t s) _ (λ a. tt)
goes_alone code t (Op.Neg d s) not = on_goes (scalar t s) _ (λ a. tt)
goes_alone code t (Op.Not d s) not = on_goes (scalar t s) _ (λ a. tt)
goes_alone code t (Op.Flip d s) not = on_goes (scalar t s) _ (λ a. tt)
goes_alone code t (Op.Bin op d x y) not = on_goes (scalar t x) _ (λ a. on_goes (scalar t y) _ (λ b. tt))
goes_alone code t (Op.Zero a) not = tt
goes_alone code t (Op.LoadGlobal d g) not = tt
goes_alone code t (Op.StoreGlobal g s) not = on_goes (scalar t s) _ (λ a. tt)
goes_alone code t (Op.Jump to) not = tt
goes_alone code t (Op.JumpZero s to) not = on_goes (scalar t s) _ (λ v. jumps_on t to v)
goes_alone code t _ not = absurd (not tt)

-- ---- an index that was out of range

pub past_of : (t : FlatThread) (i size : ℕ) (kind : TrapKind) (move : FlatMove) (finish : Finish) → NoFinish move → where_in (nat_lt i size) t kind move ≡ Stops (Finished finish) → (size ≤ i) × (finish ≡ record { trap = Some kind; globals = t.globals })
past_of t i size kind move finish none e = ⊎_elim
    (λ (inside : i < size). absurd (subst NoFinish (sym (ap (λ (b : Bool). where_in b t kind move) (lt-ltb i size inside)) ∙ e) none))
    (λ (past : size ≤ i). (past, (let trap : trapped t kind ≡ Stops (Finished finish) = sym (ap (λ (b : Bool). where_in b t kind move) (le-ltb i size past)) ∙ e in cc)))
    (cases_lt i size)
