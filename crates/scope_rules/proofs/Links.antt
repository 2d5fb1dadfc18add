-- The map of names and the list of what each hides, as a name is added and taken away.
use Rattle.scope_rules.proofs.Common.{ℕ, suc, ◌≡◌, refl, sym, ap, ◌∙◌, List, [], ◌∷◌, ◌++◌, length, map, reverse, arith, nat_cmp, Some, None, Bool, true, false, Option, ◌<◌, ◌-◌, drop, rules, reverse-append, length-map, length-reverse, BTreeMap, get, UpdatesBy, slice_cmp, bytes_eq, Found, Vec, Binding, find, binding_of, AreLinked, Finds}
use Rattle.std.proofs.lemmas.Slice.Eq.{bytes_eq-Decides}
use mathlib.Core.Bool.{cond}
use Rattle.scope_rules.specs.declared.names.Declared.{Declared}
use Rattle.scope_rules.proofs.TextKeys.{at_text, ByText, text_updates}

pub reverse-snoc : {A : Type 0} (xs : List A) (y : A) → reverse (xs ++ y ∷ []) ≡ y ∷ reverse xs
reverse-snoc xs y = reverse-append xs (y ∷ [])

finds_more : (d : Declared) (bs : List Binding) (m n : BTreeMap (Vec ℕ) Found)
    → d.found.position ≡ length bs → Finds m bs
    → UpdatesBy ByText (λ k. slice_cmp nat_cmp d.text.items k.items) m n (Some d.found)
    → Finds n (binding_of d ∷ bs)
finds_more d bs m n p f u t = rw (text_updates d.text.items m n (Some d.found) u t, f t, ← p) refl

pub declare_links : (d : Declared) (items : List Declared) (m n : BTreeMap (Vec ℕ) Found) (more : List Declared)
    → more ≡ items ++ d ∷ []
    → d.found.position ≡ length items
    → d.hidden ≡ at_text d.text.items m
    → AreLinked (reverse items) × Finds m (map binding_of (reverse items))
    → UpdatesBy ByText (λ k. slice_cmp nat_cmp d.text.items k.items) m n (Some d.found)
    → AreLinked (reverse more) × Finds n (map binding_of (reverse more))
declare_links d items m n more e p h k u = rw (e, reverse-snoc items d)
    ((p ∙ sym (length-reverse items), h ∙ k.1 d.text.items, k.0), finds_more d (map binding_of (reverse items)) m n (p ∙ sym (length-map (reverse items) binding_of ∙ length-reverse items)) k.1 u)

pub same_text : (a t : List ℕ) → bytes_eq a t ≡ true → a ≡ t
same_text a t h = search (rules, bytes_eq-Decides)

pub same_itself : (a : List ℕ) → bytes_eq a a ≡ true
same_itself a = search (rules, bytes_eq-Decides)

finds_fewer : (d : Declared) (bs : List Binding) (m n : BTreeMap (Vec ℕ) Found) (w : Option Found)
    → d.hidden ≡ w → d.hidden ≡ find d.text.items bs → Finds m (binding_of d ∷ bs)
    → UpdatesBy ByText (λ k. slice_cmp nat_cmp d.text.items k.items) m n w
    → Finds n bs
finds_fewer d bs m n w i h f u t = rw (text_updates d.text.items m n w u t, f t) (by_test (bytes_eq d.text.items t) refl)
  where
    by_test : (b : Bool) → b ≡ bytes_eq d.text.items t → cond b w (cond b (Some (record { position = length bs; meaning = d.found.meaning })) (find t bs)) ≡ find t bs
    by_test true e = sym i ∙ (h ∙ ap (λ x. find x bs) (same_text d.text.items t (sym e)))
    by_test false e = refl

pub forget_links : (d : Declared) (items fewer : List Declared) (m n : BTreeMap (Vec ℕ) Found) (w : Option Found)
    → d.hidden ≡ w
    → items ≡ fewer ++ d ∷ []
    → AreLinked (reverse items) × Finds m (map binding_of (reverse items))
    → UpdatesBy ByText (λ k. slice_cmp nat_cmp d.text.items k.items) m n w
    → AreLinked (reverse fewer) × Finds n (map binding_of (reverse fewer))
forget_links d items fewer m n w i e k u =
    let r : AreLinked (d ∷ reverse fewer) × Finds m (map binding_of (d ∷ reverse fewer)) = rw (e, reverse-snoc fewer d) at k in
    (r.0.2, finds_fewer d (map binding_of (reverse fewer)) m n w i r.0.1 r.1 u)

pub is_there : (d : Declared) (items fewer : List Declared) (m : BTreeMap (Vec ℕ) Found)
    → items ≡ fewer ++ d ∷ []
    → AreLinked (reverse items) × Finds m (map binding_of (reverse items))
    → get ByText m d.text ≡ None → ⊥
is_there d items fewer m e k h =
    let r : AreLinked (d ∷ reverse fewer) × Finds m (map binding_of (d ∷ reverse fewer)) = rw (e, reverse-snoc fewer d) at k in
    let s = same_itself d.text.items in
    let f = r.1 d.text.items in
    let g = rw s at f in
    cc

pub drop_one : {A : Type 0} (xs : List A) (n : ℕ) → n < length xs → drop (length (drop 1 xs) - n) (drop 1 xs) ≡ drop (length xs - n) xs
drop_one [] n h = refl
drop_one (x ∷ xs) n h = let e : suc (length xs) - n ≡ suc (length xs - n) = omega arith in rw e refl
