-- A map whose keys are bytes: what a change at these bytes leaves at others.
use Rattle.std.proofs.lemmas.Bool.{cases_Bool, cond-true, cond-false}
use Rattle.scope_rules.proofs.Common.{ℕ, ◌≡◌, sym, subst, ◌∙◌, ⊎_elim, List, Bool, true, false, Option, Ordering, nat_cmp, Vec, BTreeMap, get_by, UpdatesBy, slice_cmp, bytes_decides, nat_list_cmp_total, nat_list_eq_equiv, bytes_eq, is_eq-slice_cmp}
use Rattle.std.specs.Map.{lookup, update, IsKeyTest, AreApart, KeepsOthers}
use Rattle.std.specs.Ordering.{is_eq}
use Rattle.std.specs.Cmp.{eq_by_cmp_equiv}

-- what a text finds
abbrev pub at_text : {X : Type 0} → List ℕ → BTreeMap (Vec ℕ) X → Option X
at_text t m = get_by (λ k. slice_cmp nat_cmp t k.items) m

abbrev pub ByText : Vec ℕ → Vec ℕ → Ordering
ByText = λ x y. slice_cmp nat_cmp x.items y.items

apart : (bs cs ks : List ℕ) → bytes_eq bs cs ≡ false → bytes_eq bs ks ≡ true → bytes_eq cs ks ≡ false
apart bs cs ks n y = nat_list_eq_equiv.symm cs ks ∙ sym (nat_list_eq_equiv.congr bs ks cs y) ∙ n

apart_in_order : (bs cs ks : List ℕ) → bytes_eq bs cs ≡ false → is_eq (slice_cmp nat_cmp bs ks) ≡ true → is_eq (slice_cmp nat_cmp cs ks) ≡ false
apart_in_order bs cs ks n y = is_eq-slice_cmp cs ks ∙ apart bs cs ks n (sym (is_eq-slice_cmp bs ks) ∙ y)

others_stay : {X : Type 0} (eq : Vec ℕ → Vec ℕ → Bool) (test : Vec ℕ → Bool) (old new : List (Vec ℕ × X)) → KeepsOthers eq test old new
    → (other : Vec ℕ → Bool) → IsKeyTest eq other → AreApart test other → lookup other new ≡ lookup other old
unfolding KeepsOthers
others_stay eq test old new h = h

pub text_updates : (bs : List ℕ) → {X : Type 0} (m n : BTreeMap (Vec ℕ) X) (w : Option X) → UpdatesBy ByText (λ k. slice_cmp nat_cmp bs k.items) m n w
    → (cs : List ℕ) → at_text cs n ≡ update bytes_eq (λ ds. at_text ds m) bs w cs
text_updates bs m n w h cs =
    ⊎_elim
    (λ y. subst (λ l. at_text l n ≡ w) ((bytes_decides bs cs).0 y) h.1 ∙ sym (cond-true (bytes_eq bs cs) w (at_text cs m) y))
    (λ e. others_stay _ _ _ _ h.3 _ (λ x y. (eq_by_cmp_equiv nat_list_cmp_total).congr cs x.items y.items) (λ k. apart_in_order bs cs k.items e)
    ∙ sym (cond-false (bytes_eq bs cs) w (at_text cs m) e))
    (cases_Bool (bytes_eq bs cs))
