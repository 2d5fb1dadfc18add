-- Where no rule is broken, each prototype of a function agrees with its definition.
use Rattle.scope_rules.proofs.Common.{ℕ, ◌≡◌, refl, sym, subst, ◌∙◌, Bool, true, false, not, List, [], ◌∷◌, ◌++◌, length, Option, Some, None, nat_eq, ◌||◌, ◌&&◌, if◌then◌else◌, bytes_eq, NameTree, RawItemTree, RawGlobal, RawGlobalArray, RawTableItem, RawPrototypeItem, RawFunctionItem, RawStmtTrees, capped, Rule, Meaning, Found, Binding, find, is_fixed, bound, broken, is_modelled, function_of, size_faults, stmts_faults, Sofar, with_definition, with_definitions, outer_in, outer_faults, differ, repeated_faults, function_faults, main_faults, is_missing, is_defined, with_function, prototype_faults, params_faults, members_faults, params_spot, body_spot, item_faults, item_after, items_faults, items_after, or_parts, not-false}
use Rattle.scope_rules.proofs.NoFaults.{both_none, four_none, not_broken, same_number}
use Rattle.scope_rules.proofs.Links.{same_text, same_itself}

-- a name is a function with this result and so many parameters
abbrev pub IsSignedIn : Bool → ℕ → Meaning → Type 0
IsSignedIn g k (Meaning.Function f gives params defined) = (gives ≡ g) × (params ≡ k)
IsSignedIn g k _ = ⊥

abbrev pub IsSigned : Bool → ℕ → Option Found → Type 0
IsSigned g k None = ⊥
IsSigned g k (Some f) = IsSignedIn g k f.meaning

-- a name that is bound
bound_at : (t n : List ℕ) (names : List Binding) (m : Meaning) (g : Bool) (k : ℕ) (v w : Bool) → w ≡ bytes_eq n t
    → IsSigned g k (find t names) → (IsSigned g k (find n names) → IsSignedIn g k m)
    → IsSigned g k (find t (if v then names else record { text = n; meaning = m } ∷ names))
bound_at t n names m g k true w e h same = h
bound_at t n names m g k false true e h same =
    let there : n ≡ t = same_text n t (sym e) in
    let here : IsSignedIn g k m = same (subst (λ x. IsSigned g k (find x names)) (sym there) h) in
    rw (sym e) here
bound_at t n names m g k false false e h same = rw (sym e) h

pub bound_signed : (t n : List ℕ) (names : List Binding) (m : Meaning) (g : Bool) (k : ℕ) → IsSigned g k (find t names) → (IsSigned g k (find n names) → IsSignedIn g k m) → IsSigned g k (find t (bound names n m))
bound_signed t n names m g k h same = bound_at t n names m g k (is_fixed (find n names)) (bytes_eq n t) refl h same

outer_signed_meaning : (m : Meaning) (at : ℕ) (g : Bool) (k : ℕ) → outer_in at m ≡ [] → IsSignedIn g k m → ⊥
outer_signed_meaning (Meaning.Function f gives params defined) at g k h s = cc
outer_signed_meaning _ at g k h s = s

outer_signed_in : (o : Option Found) (at : ℕ) (g : Bool) (k : ℕ) → outer_faults o at ≡ [] → IsSigned g k o → ⊥
outer_signed_in None at g k h s = s
outer_signed_in (Some f) at g k h s = outer_signed_meaning f.meaning at g k h s

same_results : (a b : Bool) → differ a b ≡ false → b ≡ a
same_results true b h = not-false b h
same_results false b h = h

repeated_signed : (d g' : Bool) (k' at : ℕ) (m : Meaning) (g : Bool) (k : ℕ) → repeated_faults d g' k' at m ≡ [] → IsSignedIn g k m → (g' ≡ g) × (k' ≡ k)
repeated_signed d g' k' at (Meaning.Function f gives params defined) g k h s =
    let j = both_none (broken (d && defined) at Rule.Twice) (broken (differ gives g' || not (nat_eq params k')) at Rule.Arity) h in
    let b = or_parts (differ gives g') (not (nat_eq params k')) (not_broken (differ gives g' || not (nat_eq params k')) at Rule.Arity j.1) in
    (same_results gives g' b.0 ∙ s.0, sym (same_number params k' (not-false (nat_eq params k') b.1)) ∙ s.1)
repeated_signed d g' k' at _ g k h s = absurd s

function_signed : (d g' : Bool) (k' at : ℕ) (o : Option Found) (g : Bool) (k : ℕ) → function_faults d g' k' at o ≡ [] → IsSigned g k o → (g' ≡ g) × (k' ≡ k)
function_signed d g' k' at None g k h s = absurd s
function_signed d g' k' at (Some f) g k h s = repeated_signed d g' k' at f.meaning g k h s

repeated_free_meaning : (d g' : Bool) (k' at : ℕ) (m : Meaning) → repeated_faults d g' k' at m ≡ [] → is_modelled m ≡ false
repeated_free_meaning d g' k' at (Meaning.Local x array) h = refl
repeated_free_meaning d g' k' at (Meaning.Global x array) h = refl
repeated_free_meaning d g' k' at (Meaning.Table t) h = refl
repeated_free_meaning d g' k' at (Meaning.Function f gives params defined) h = refl
repeated_free_meaning d g' k' at (Meaning.Modelled m) h = cc
repeated_free_meaning d g' k' at Meaning.Spawn h = cc

pub repeated_free : (d g' : Bool) (k' at : ℕ) (o : Option Found) → function_faults d g' k' at o ≡ [] → is_fixed o ≡ false
repeated_free d g' k' at None h = refl
repeated_free d g' k' at (Some f) h = repeated_free_meaning d g' k' at f.meaning h

-- what a prototype and a definition that break no rule say of the name itself
pub prototype_parts : (defs : List Binding) (w : Sofar) (gives : Bool) (n : NameTree) (params : List (Option NameTree)) → item_faults defs w (RawPrototypeItem gives n params) ≡ []
    → (is_missing (find n.text defs) ≡ false) × (function_faults false gives (length params) n.at (find n.text w.spot.names) ≡ [])
prototype_parts defs w gives n params h =
    let names = with_function defs w.spot.names gives n (length params) (is_defined (find n.text w.spot.names)) in
    let ff = function_faults false gives (length params) n.at (find n.text w.spot.names) in
    let fm = main_faults n (length params) in
    let fp = prototype_faults names (length names) params in
    let a = both_none (broken (is_missing (find n.text defs)) n.at Rule.Unknown) (ff ++ (fm ++ fp)) h in
    let b = both_none ff (fm ++ fp) a.1 in
    (not_broken (is_missing (find n.text defs)) n.at Rule.Unknown a.0, b.0)

pub definition_parts : (defs : List Binding) (w : Sofar) (gives : Bool) (n : NameTree) (params : List NameTree) (body : RawStmtTrees) → item_faults defs w (RawFunctionItem gives n params body) ≡ []
    → (function_faults true gives (length params) n.at (find n.text w.spot.names) ≡ []) × (main_faults n (length params) ≡ [])
    × (params_faults (params_spot defs w.spot gives n params) params ≡ []) × (stmts_faults gives false (body_spot defs w.spot gives n params) body ≡ [])
definition_parts defs w gives n params body h = four_none _ _ _ _ h

-- a function stays what it is
stays : (defs : List Binding) (w : Sofar) (i : RawItemTree) (t : List ℕ) (g : Bool) (k : ℕ) → item_faults defs w i ≡ [] → IsSigned g k (find t w.spot.names) → IsSigned g k (find t (item_after defs w i).spot.names)
stays defs w (RawGlobal n start) t g k h s =
    bound_signed t n.text w.spot.names _ g k s (λ r. absurd (outer_signed_in (find n.text w.spot.names) n.at g k h r))
stays defs w (RawGlobalArray n size) t g k h s =
    let j = both_none (outer_faults (find n.text w.spot.names) n.at) (size_faults n size) h in
    bound_signed t n.text w.spot.names _ g k s (λ r. absurd (outer_signed_in (find n.text w.spot.names) n.at g k j.0 r))
stays defs w (RawTableItem n size members) t g k h s =
    let j = both_none (outer_faults (find n.text w.spot.names) n.at) (broken (nat_eq size 0 || not (nat_eq size (length members))) n.at Rule.Arity ++ members_faults w.spot.names members) h in
    bound_signed t n.text w.spot.names _ g k s (λ r. absurd (outer_signed_in (find n.text w.spot.names) n.at g k j.0 r))
stays defs w (RawPrototypeItem gives n params) t g k h s =
    let j = prototype_parts defs w gives n params h in
    bound_signed t n.text w.spot.names (Meaning.Function (function_of (find n.text defs)) gives (length params) (is_defined (find n.text w.spot.names))) g k s (λ r. function_signed false gives (length params) n.at (find n.text w.spot.names) g k j.1 r)
stays defs w (RawFunctionItem gives n params body) t g k h s =
    let j = definition_parts defs w gives n params body h in
    bound_signed t n.text w.spot.names (Meaning.Function (function_of (find n.text defs)) gives (length params) true) g k s (λ r. function_signed true gives (length params) n.at (find n.text w.spot.names) g k j.0 r)

pub all_stay : (defs : List Binding) (w : Sofar) (is : List RawItemTree) (t : List ℕ) (g : Bool) (k : ℕ) → items_faults defs w is ≡ [] → IsSigned g k (find t w.spot.names) → IsSigned g k (find t (items_after defs w is).spot.names)
all_stay defs w [] t g k h s = s
all_stay defs w (i ∷ is) t g k h s =
    let j = both_none (item_faults defs w i) (items_faults defs (item_after defs w i) is) h in
    all_stay defs (item_after defs w i) is t g k j.1 (stays defs w i t g k j.0 s)

-- each definition so far is in scope, as it was defined
abbrev pub AreBacked : List Binding → List Binding → Type 0
AreBacked ds names = (t : List ℕ) (g : Bool) (k : ℕ) → IsSigned g k (find t ds) → IsSigned g k (find t names)

pub bound_here : (n : List ℕ) (names : List Binding) (m : Meaning) (g : Bool) (k : ℕ) (v : Bool) → v ≡ false → IsSignedIn g k m → IsSigned g k (find n (if v then names else record { text = n; meaning = m } ∷ names))
bound_here n names m g k true e s = cc
bound_here n names m g k false e s = rw (same_itself n) s

backed_function : (defs : List Binding) (w : Sofar) (ds : List Binding) (gives : Bool) (n : NameTree) (params : List NameTree) (body : RawStmtTrees) (t : List ℕ) (g : Bool) (k : ℕ) (v : Bool)
    → v ≡ bytes_eq n.text t → item_faults defs w (RawFunctionItem gives n params body) ≡ [] → AreBacked ds w.spot.names
    → IsSigned g k (if v then Some (record { position = length ds; meaning = Meaning.Function (capped (length ds)) gives (length params) true }) else find t ds)
    → IsSigned g k (find t (with_function defs w.spot.names gives n (length params) true))
backed_function defs w ds gives n params body t g k true e h b s =
    let j = definition_parts defs w gives n params body h in
    let m = Meaning.Function (function_of (find n.text defs)) gives (length params) true in
    let there : n.text ≡ t = same_text n.text t (sym e) in
    subst (λ x. IsSigned g k (find x (bound w.spot.names n.text m))) there
    (bound_here n.text w.spot.names m g k (is_fixed (find n.text w.spot.names)) (repeated_free true gives (length params) n.at (find n.text w.spot.names) j.0) s)
backed_function defs w ds gives n params body t g k false e h b s = stays defs w (RawFunctionItem gives n params body) t g k h (b t g k s)

backed_step : (defs : List Binding) (w : Sofar) (ds : List Binding) (i : RawItemTree) → item_faults defs w i ≡ [] → AreBacked ds w.spot.names → AreBacked (with_definition ds i) (item_after defs w i).spot.names
backed_step defs w ds (RawGlobal n start) h b = λ t g k s. stays defs w (RawGlobal n start) t g k h (b t g k s)
backed_step defs w ds (RawGlobalArray n size) h b = λ t g k s. stays defs w (RawGlobalArray n size) t g k h (b t g k s)
backed_step defs w ds (RawTableItem n size members) h b = λ t g k s. stays defs w (RawTableItem n size members) t g k h (b t g k s)
backed_step defs w ds (RawPrototypeItem gives n params) h b = λ t g k s. stays defs w (RawPrototypeItem gives n params) t g k h (b t g k s)
backed_step defs w ds (RawFunctionItem gives n params body) h b = λ t g k s. backed_function defs w ds gives n params body t g k (bytes_eq n.text t) refl h b s

pub all_backed : (defs : List Binding) (w : Sofar) (ds : List Binding) (is : List RawItemTree) → items_faults defs w is ≡ [] → AreBacked ds w.spot.names → AreBacked (with_definitions ds is) (items_after defs w is).spot.names
all_backed defs w ds [] h b = b
all_backed defs w ds (i ∷ is) h b =
    let j = both_none (item_faults defs w i) (items_faults defs (item_after defs w i) is) h in
    all_backed defs (item_after defs w i) (with_definition ds i) is j.1 (backed_step defs w ds i j.0 b)

-- one name is one function
one_signature_in : (g g' : Bool) (k k' : ℕ) (m : Meaning) → IsSignedIn g k m → IsSignedIn g' k' m → (g ≡ g') × (k ≡ k')
one_signature_in g g' k k' (Meaning.Function f gives params defined) s r = (sym s.0 ∙ r.0, sym s.1 ∙ r.1)
one_signature_in g g' k k' _ s r = absurd s

pub one_signature : (g g' : Bool) (k k' : ℕ) (o : Option Found) → IsSigned g k o → IsSigned g' k' o → (g ≡ g') × (k ≡ k')
one_signature g g' k k' None s r = absurd s
one_signature g g' k k' (Some f) s r = one_signature_in g g' k k' f.meaning s r
