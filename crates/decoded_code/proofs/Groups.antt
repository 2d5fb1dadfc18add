-- Operations of which those that begin a group get the kind of the group.
use Rattle.std.proofs.Common.{◌≡◌, ◌≢◌, ℕ, zero, suc, ◌+◌, ◌<◌, ◌≤◌, List, [], ◌∷◌, length, Option, Some, None, inl, inr, IfSome, refl, sym, ap, subst, ◌∙◌, arith}
use Rattle.decoded_code.proofs.Common.{slice_get, slice_set, cases_lt, decoding, Instr, read, Machine, Outcome, decoded, started, place_at, done_as, done, ready_effect, DoesAs, IsBefore, IsReadyAt, AreEachReady, AreReady, Ready}
use Rattle.std.proofs.Common.{◌⊎◌, ◌-◌, ◌++◌, take, drop}
use Rattle.std.proofs.Math.Seq.{take-length, drop-length}
use Rattle.decoded_code.specs.declared.ready.Kind.{Kind}
use Rattle.decoded_code.specs.declared.ready.Kind.TheVariants as kind

-- ---- another kind that does the same

pub does_on : (a b c : Kind) → DoesAs a b → DoesAs b c → DoesAs a c
does_on a b c ab bc = λ op x y m. ab op x y m ∙ bc op x y m

without_kind : (k other : Kind) (op : Ready) (a b : ℕ) (m : Machine) → done_as k (record op { kind = other }) a b m ≡ done_as k op a b m
without_kind kind.Other to op a b m = refl
without_kind _ to op a b m = refl

-- ---- one operation of another kind

pub record IsKinOf (op was : Ready) : Type 0 where
  pub is : op ≡ record was { kind = op.kind }
  pub does : DoesAs op.kind was.kind

pub kin_on : (a b c : Ready) → IsKinOf a b → IsKinOf b c → IsKinOf a c
kin_on a b c ab bc = record { is = ab.is ∙ ap (λ (op : Ready). record op { kind = a.kind }) bc.is; does = does_on a.kind b.kind c.kind ab.does bc.does }

effect_as : (k : Kind) (was : Ready) (m : Machine) → DoesAs k was.kind → ready_effect (record was { kind = k }) m ≡ ready_effect was m
unfolding done
effect_as k was m does =
    does (record was { kind = k }) (read m.x was.rs1) (read m.x was.rs2) m ∙ without_kind was.kind k was (read m.x was.rs1) (read m.x was.rs2) m

pub kin_ready : (op was : Ready) (place : ℕ) (found : Option Instr) → IsKinOf op was → IsReadyAt was place found → IsReadyAt op place found
kin_ready op was place found kin ready = subst (λ (o : Ready). IsReadyAt o place found) (sym kin.is) (record {
  writes = ready.writes;
  rd = ready.rd;
  rs1 = ready.rs1;
  rs2 = ready.rs2;
  does = λ m pc. subst (λ (f : Option Outcome). IfSome f (λ outcome. started (decoded found) m ≡ outcome)) (sym (effect_as op.kind was m kin.does)) (ready.does m pc);
})

-- ---- the list, from the operation of an index on

pub record AreGrouped (old : List Ready) (from : ℕ) (new : List Ready) : Type 0 where
  pub count_is : length new ≡ length old
  pub kin : (k : ℕ) (op was : Ready) → slice_get new k ≡ Some op → slice_get old k ≡ Some was → IsKinOf op was
  pub groups : (at : ℕ) (op next : Ready) → from ≤ at + 1 → slice_get new at ≡ Some op → slice_get new (at + 1) ≡ Some next → IsBefore op.kind next.kind

got : {X : Type 0} (xs : List X) (i k : ℕ) (x y : X) → slice_get (slice_set xs i x) k ≡ Some y → ((k ≡ i) × (x ≡ y)) ⊎ ((k ≢ i) × (slice_get xs k ≡ Some y))
got (z ∷ xs) zero zero x y e = inl (refl, cc)
got (z ∷ xs) zero (suc k) x y e = inr (λ (same : suc k ≡ 0). omega (arith, same), e)
got (z ∷ xs) (suc i) zero x y e = inr (λ (same : 0 ≡ suc i). omega (arith, same), e)
got (z ∷ xs) (suc i) (suc k) x y e = elim (got xs i k x y e) [
  | inl h ↦ inl (omega (arith, h.0), h.1)
  | inr h ↦ inr (λ (same : suc k ≡ suc i). h.0 (omega (arith, same)), h.1)
]
got [] _ k x y e = absurd (cc)

pub length_set : {X : Type 0} (xs : List X) (i : ℕ) (x : X) → length (slice_set xs i x) ≡ length xs
length_set (z ∷ xs) (suc i) x = let rest = length_set xs i x in omega (arith, rest)
length_set _ _ x = refl

same_found : (found : Option Ready) (a b : Ready) → found ≡ Some a → found ≡ Some b → a ≡ b
same_found None a b is also = absurd (cc)
same_found (Some o) a b is also = cc

pub one_grouped : (old ops : List Ready) (n : ℕ) (was next op : Ready) → 0 < n → AreGrouped old (n + 1) ops → slice_get ops (n - 1) ≡ Some was → slice_get ops n ≡ Some next → IsKinOf op was → IsBefore op.kind next.kind →
    AreGrouped old n (slice_set ops (n - 1) op)
one_grouped old ops n was next op some are there behind kin before = record {
  count_is = length_set ops (n - 1) op ∙ are.count_is;
  kin = λ k o w found old_found. elim (got ops (n - 1) k op o found) [
    | inl h ↦ subst (λ (r : Ready). IsKinOf r w) h.1 (kin_on op was w kin (are.kin k was w (ap (slice_get ops) h.0 ∙ there) old_found))
    | inr h ↦ are.kin k o w h.1 old_found
  ];
  groups = λ at o after from found found_after. elim (got ops (n - 1) (at + 1) op after found_after) [
    | inl h ↦ absurd (let on = h.0 in omega (arith, from, on, some))
    | inr h ↦ one at o after from h.1 (got ops (n - 1) at op o found)
  ];
}
  where
    one : (at : ℕ) (o after : Ready) → n ≤ at + 1 → slice_get ops (at + 1) ≡ Some after → ((at ≡ n - 1) × (op ≡ o)) ⊎ ((at ≢ n - 1) × (slice_get ops at ≡ Some o)) → IsBefore o.kind after.kind
    one at o after from found (inl h) =
        let last = h.0 in
        let here : at + 1 ≡ n = omega (arith, last, some) in
        let is : next ≡ after = same_found (slice_get ops n) next after behind (ap (slice_get ops) (sym here) ∙ found) in
        subst (λ (r : Ready). IsBefore r.kind after.kind) h.1 (subst (λ (r : Ready). IsBefore op.kind r.kind) is before)
    one at o after from found (inr h) = elim (cases_lt (at + 1) (n + 1)) [
      | inl low ↦ absurd (h.0 (omega (arith, low, from)))
      | inr high ↦ are.groups at o after high h.1 found
    ]

-- ---- the whole list

found_below : (ops : List Ready) (k : ℕ) (op : Ready) → slice_get ops k ≡ Some op → k < length ops
found_below [] k op e = absurd (cc)
found_below (o ∷ ops) zero op e = omega arith
found_below (o ∷ ops) (suc k) op e = let low = found_below ops k op e in omega (arith, low)

found_old : (old : List Ready) (k : ℕ) → k < length old → (was : Ready) × (slice_get old k ≡ Some was)
found_old [] k low = absurd (omega (arith, low))
found_old (o ∷ old) zero low = (o, refl)
found_old (o ∷ old) (suc k) low = found_old old k (omega (arith, low))

pub all_grouped : (words : List ℕ) (count n : ℕ) (old new : List Ready) → AreEachReady words count old → AreGrouped old n new → n ≤ 1 → AreReady words count new
all_grouped words count n old new each are start = record {
  count_is = are.count_is ∙ each.count_is;
  each = λ at word op fits there found.
      let low = found_below new at op found in
      let was = found_old old at (omega (arith, low, are.count_is)) in
      kin_ready op was.0 (place_at at) (decoding word) (are.kin at op was.0 found was.1) (each.each at word was.0 fits there was.1);
  groups = λ at op next found behind. are.groups at op next (omega (arith, start)) found behind;
}

append_nil : {X : Type 0} (xs : List X) → xs ++ [] ≡ xs
append_nil [] = refl
append_nil (x ∷ xs) = ap (λ (rest : List _). x ∷ rest) (append_nil xs)

-- ---- what is written back to a list of the same length

pub whole : {X : Type 0} (new old : List X) (n : ℕ) → length new ≡ length old → n ≡ length old → take n (new ++ drop (length new) old) ≡ new
whole new old n same count =
    let none : drop (length new) old ≡ [] = ap (λ (k : ℕ). drop k old) same ∙ drop-length old in
    let all : new ++ drop (length new) old ≡ new = ap (λ (rest : List _). new ++ rest) none ∙ append_nil new in
    ap (take n) all ∙ ap (λ (k : ℕ). take k new) (count ∙ sym same) ∙ take-length new
