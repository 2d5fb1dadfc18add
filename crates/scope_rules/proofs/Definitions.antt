-- The functions that a source defines, by name and by number.
use Rattle.scope_rules.proofs.Common.{ℕ, ◌≡◌, ◌<◌, ◌≤◌, refl, ap, subst, ◌∙◌, Bool, true, false, List, [], ◌∷◌, ◌++◌, length, length-append, get_or, map, Some, arith, if◌then◌else◌, bytes_eq, map-append, get_or-append, RawItemTree, RawFunctionItem, capped, signature_of, Signature, signature_at, Meaning, Found, Binding, find, function_in, Sofar, with_definition, with_definitions, item_after, items_after}

abbrev pub signature_in : Meaning → Signature
signature_in (Meaning.Function f gives params defined) = record { params = capped params; gives = gives }
signature_in _ = record { params = 0; gives = false }

-- the signatures of the definitions, the first first
abbrev pub signatures_of : List Binding → List Signature
signatures_of [] = []
signatures_of (b ∷ bs) = signatures_of bs ++ signature_in b.meaning ∷ []

-- a definition is a function with the number of definitions before it
abbrev pub IsDefinition : ℕ → Meaning → Type 0
IsDefinition k (Meaning.Function f gives params defined) = f ≡ capped k
IsDefinition k _ = ⊥

abbrev pub AreDefinitions : List Binding → Type 0
AreDefinitions [] = Unit {0}
AreDefinitions (b ∷ bs) = IsDefinition (length bs) b.meaning × AreDefinitions bs

with_definition_are : (ds : List Binding) (i : RawItemTree) → AreDefinitions ds → AreDefinitions (with_definition ds i)
with_definition_are ds (RawFunctionItem gives n params body) h = (refl, h)
with_definition_are ds _ h = h

pub definitions_are : (ds : List Binding) (is : List RawItemTree) → AreDefinitions ds → AreDefinitions (with_definitions ds is)
definitions_are ds [] h = h
definitions_are ds (i ∷ is) h = definitions_are (with_definition ds i) is (with_definition_are ds i h)

pub signatures_length : (ds : List Binding) → length (signatures_of ds) ≡ length ds
signatures_length [] = refl
signatures_length (b ∷ bs) = let h = signatures_length bs in let k = length-append (signatures_of bs) (signature_in b.meaning ∷ []) in omega arith

definition_number : (k : ℕ) (m : Meaning) → IsDefinition k m → function_in m ≡ capped k
definition_number k (Meaning.Function f gives params defined) h = h
definition_number k _ h = absurd h

at_end : {A : Type 0} (xs : List A) (y d : A) → get_or (xs ++ y ∷ []) (length xs) d ≡ y
at_end [] y d = refl
at_end (x ∷ xs) y d = at_end xs y d

-- the function of a name's definition has that definition's signature
abbrev pub IsDefinedAs : List Binding → Found → Type 0
IsDefinedAs ds f = (function_in f.meaning < length (signatures_of ds)) × (signature_at (signatures_of ds) (function_in f.meaning) ≡ signature_in f.meaning)

pub find_definition : (t : List ℕ) (ds : List Binding) (f : Found) → AreDefinitions ds → length ds ≤ 65536 → find t ds ≡ Some f → IsDefinedAs ds f
find_definition t [] f h l e = cc
find_definition t (b ∷ bs) f h l e = at_head (bytes_eq b.text t) e (find_definition t bs f h.1 (omega arith))
  where
    at_head : (v : Bool) → (if v then Some (record { position = length bs; meaning = b.meaning }) else find t bs) ≡ Some f → (find t bs ≡ Some f → IsDefinedAs bs f) → IsDefinedAs (b ∷ bs) f
    at_head true k next =
        let same : ◌≡◌ {A = Found} (record { position = length bs; meaning = b.meaning }) f = cc in
        let n : function_in b.meaning ≡ capped (length bs) = definition_number (length bs) b.meaning h.0 in
        let s = signatures_length bs in
        let a = length-append (signatures_of bs) (signature_in b.meaning ∷ []) in
        let m : function_in b.meaning ≡ length (signatures_of bs) = omega arith in
        subst (λ (x : Found). IsDefinedAs (b ∷ bs) x) same
        ((omega arith), (rw m (at_end (signatures_of bs) (signature_in b.meaning) (record { params = 0; gives = false }))))
    at_head false k next =
        let r = next k in
        let a = length-append (signatures_of bs) (signature_in b.meaning ∷ []) in
        ((omega arith), (get_or-append (signatures_of bs) (signature_in b.meaning ∷ []) (record { params = 0; gives = false }) (function_in f.meaning) r.0 ∙ r.1))

-- the functions that are made have these signatures
item_signatures : (defs : List Binding) (w : Sofar) (ds : List Binding) (i : RawItemTree) → map signature_of w.functions ≡ signatures_of ds → map signature_of (item_after defs w i).functions ≡ signatures_of (with_definition ds i)
item_signatures defs w ds (RawFunctionItem gives n params body) h = map-append signature_of w.functions _ ∙ ap (λ x. x ++ record { params = capped (length params); gives = gives } ∷ []) h
item_signatures defs w ds _ h = h

pub items_signatures : (defs : List Binding) (w : Sofar) (ds : List Binding) (is : List RawItemTree) → map signature_of w.functions ≡ signatures_of ds → map signature_of (items_after defs w is).functions ≡ signatures_of (with_definitions ds is)
items_signatures defs w ds [] h = h
items_signatures defs w ds (i ∷ is) h = items_signatures defs (item_after defs w i) (with_definition ds i) is (item_signatures defs w ds i h)
