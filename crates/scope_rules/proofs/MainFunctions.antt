-- Where no rule is broken, main has no parameters.
use Rattle.scope_rules.proofs.Common.{ℕ, ◌≡◌, refl, sym, subst, ◌∙◌, Bool, true, false, not, List, [], ◌∷◌, length, Some, nat_eq, ◌&&◌, if◌then◌else◌, codes, bytes_eq, NameTree, RawItemTree, RawFunctionItem, capped, Rule, Meaning, Binding, find, Sofar, with_definition, with_definitions, main_faults, item_faults, item_after, items_faults, not-false}
use Rattle.scope_rules.proofs.NoFaults.{both_none, not_broken, same_number}
use Rattle.scope_rules.proofs.Agreement.{IsSigned, definition_parts}

abbrev pub MainHasNone : List Binding → Type 0
MainHasNone ds = (g : Bool) (k : ℕ) → IsSigned g k (find (codes "main") ds) → k ≡ 0

no_parameters : (n : NameTree) (k : ℕ) (v : Bool) → v ≡ bytes_eq n.text (codes "main") → v ≡ true → main_faults n k ≡ [] → k ≡ 0
no_parameters n k v e t h =
    let b = not_broken (bytes_eq n.text (codes "main") && not (nat_eq k 0)) n.at Rule.Kind h in
    let d : (true && not (nat_eq k 0)) ≡ false = subst (λ x. (x && not (nat_eq k 0)) ≡ false) (sym e ∙ t) b in
    same_number k 0 (not-false (nat_eq k 0) d)

main_function : (n : NameTree) (gives : Bool) (count : ℕ) (ds : List Binding) (g : Bool) (k : ℕ) (v : Bool) → v ≡ bytes_eq n.text (codes "main") → main_faults n count ≡ []
    → MainHasNone ds → IsSigned g k (if v then Some (record { position = length ds; meaning = Meaning.Function (capped (length ds)) gives count true }) else find (codes "main") ds) → k ≡ 0
main_function n gives count ds g k true e h m s = sym s.1 ∙ no_parameters n count true e refl h
main_function n gives count ds g k false e h m s = m g k s

main_step : (defs : List Binding) (w : Sofar) (ds : List Binding) (i : RawItemTree) → item_faults defs w i ≡ [] → MainHasNone ds → MainHasNone (with_definition ds i)
main_step defs w ds (RawFunctionItem gives n params body) h m =
    let j = definition_parts defs w gives n params body h in
    λ g k s. main_function n gives (length params) ds g k (bytes_eq n.text (codes "main")) refl j.1 m s
main_step defs w ds _ h m = m

pub mains : (defs : List Binding) (w : Sofar) (ds : List Binding) (is : List RawItemTree) → items_faults defs w is ≡ [] → MainHasNone ds → MainHasNone (with_definitions ds is)
mains defs w ds [] h m = m
mains defs w ds (i ∷ is) h m =
    let j = both_none (item_faults defs w i) (items_faults defs (item_after defs w i) is) h in
    mains defs (item_after defs w i) (with_definition ds i) is j.1 (main_step defs w ds i j.0 m)
