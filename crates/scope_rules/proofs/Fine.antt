-- Items that break no rule, one after another: their names, functions and tables are well scoped.
use Rattle.scope_rules.proofs.Common.{ℕ, ◌≡◌, ◌<◌, ◌≤◌, ◌+◌, refl, sym, ap, subst, ◌∙◌, Bool, true, false, not, List, [], ◌∷◌, ◌++◌, append_assoc, length, length-append, map, sum, Option, Some, None, arith, nat_eq, ◌||◌, if◌then◌else◌, AllByRecursion, bytes_eq, map-append, length-map, GlobalFact, NameTree, RawItemTree, RawGlobal, RawGlobalArray, RawTableItem, RawPrototypeItem, RawFunctionItem, raw_item_temporaries, AreWithinTemporaries, FunctionTree, ProgramTree, stmts_names, capped, signature_of, Context, IsFunctionScoped, AreFunctionsScoped, signature_at, IsMember, IsTable, Rule, Meaning, Found, Binding, find, is_fixed, bound, broken, is_member, function_in, function_of, use_faults, stmts_of, Sofar, with_definition, with_definitions, is_missing, is_defined, with_function, outer_faults, members_faults, members_of, body_spot, function_tree_of, item_faults, item_after, items_faults, items_after, most_params, All-push, and_parts}
use Rattle.scope_rules.proofs.NoFaults.{both_none, same_number, Used, used}
use Rattle.scope_rules.proofs.Links.{same_itself}
use Rattle.scope_rules.proofs.Fits.{MeaningFits, AllFit, find_fits, all_fit_bound}
use Rattle.scope_rules.proofs.Fewer.{AreSix, bound_six}
use Rattle.scope_rules.proofs.Growth.{words}
use Rattle.scope_rules.proofs.ScopedSimples.{next_is_there}
use Rattle.scope_rules.proofs.Positive.{stmts_positive, no_more_than_words}
use Rattle.scope_rules.proofs.Programs.{outer_context, function_scoped}
use Rattle.scope_rules.proofs.Definitions.{signature_in, signatures_of, IsDefinition, AreDefinitions, IsDefinedAs, find_definition}
use Rattle.scope_rules.proofs.Agreement.{IsSignedIn, IsSigned, AreBacked, one_signature, all_stay, prototype_parts, definition_parts, bound_here, repeated_free}
use Rattle.scope_rules.proofs.WithinLimits.{AreWithin, one_of_locals, signature_small}
use Rattle.scope_rules.proofs.Lengthening.{StartsWith, items_longer, members_length, one_member}

-- a definition's result and parameters
pub record HasSignature (m : Meaning) : Type 0 where
  pub result : Bool
  pub count : ℕ
  pub signed : IsSignedIn result count m
  pub signature : signature_in m ≡ record { params = capped count; gives = result }

definition_signature : (k : ℕ) (m : Meaning) → IsDefinition k m → HasSignature m
definition_signature k (Meaning.Function f gives params defined) h = record { result = gives; count = params; signed = (refl, refl); signature = refl }
definition_signature k _ h = absurd h

pub found_signature : (t : List ℕ) (ds : List Binding) (f : Found) → AreDefinitions ds → find t ds ≡ Some f → HasSignature f.meaning
found_signature t [] f h e = cc
found_signature t (b ∷ bs) f h e = at_head (bytes_eq b.text t) e (found_signature t bs f h.1)
  where
    at_head : (v : Bool) → (if v then Some (record { position = length bs; meaning = b.meaning }) else find t bs) ≡ Some f → (find t bs ≡ Some f → HasSignature f.meaning) → HasSignature f.meaning
    at_head true k next = let same : ◌≡◌ {A = Found} (record { position = length bs; meaning = b.meaning }) f = cc in subst (λ (x : Found). HasSignature x.meaning) same (definition_signature (length bs) b.meaning h.0)
    at_head false k next = next k

-- what is there
pub record IsThere (o : Option Found) : Type 0 where
  pub found : Found
  pub is : o ≡ Some found

pub there : (o : Option Found) → is_missing o ≡ false → IsThere o
there None h = cc
there (Some f) h = record { found = f; is = refl }

member_in : (c : Context) (m : Meaning) → MeaningFits c [] m → is_member m ≡ true → IsMember c.signatures (function_in m)
member_in c (Meaning.Function f gives params defined) h e = let b = and_parts gives (nat_eq params 1) e in (h.0, h.1 ∙ same_number params 1 b.1, h.2 ∙ b.0)
member_in c _ h e = cc

members_scoped : (c : Context) (names : List Binding) (ns : List NameTree) → AllFit c [] names → members_faults names ns ≡ [] → AllByRecursion (IsMember c.signatures) (members_of names ns)
members_scoped c names [] fit h = tt
members_scoped c names (n ∷ ns) fit h =
    let j = both_none (use_faults is_member (find n.text names) n.at) (members_faults names ns) h in
    let u : Used is_member (find n.text names) = used is_member (find n.text names) n.at j.0 in
    let m : IsMember c.signatures (function_of (find n.text names)) = rw u.is (member_in c u.found.meaning (find_fits c [] n.text names u.found fit u.is) u.may_be) in
    (m, members_scoped c names ns fit j.1)

functions_then : (p : ProgramTree) (fs : List FunctionTree) (f : FunctionTree) → AreFunctionsScoped p fs → IsFunctionScoped p f → AreFunctionsScoped p (fs ++ f ∷ [])
functions_then p [] f h k = (k, tt)
functions_then p (g ∷ fs) f h k = (h.0, functions_then p fs f h.1 k)

find_definition_here : (t : List ℕ) (ds : List Binding) (m : Meaning) → is_missing (find t (record { text = t; meaning = m } ∷ ds)) ≡ false
find_definition_here t ds m = rw (same_itself t) refl

not_missing_bound : (t : List ℕ) (b : Binding) (ds : List Binding) (v : Bool) → is_missing (find t ds) ≡ false → is_missing (if v then Some (record { position = length ds; meaning = b.meaning }) else find t ds) ≡ false
not_missing_bound t b ds true h = refl
not_missing_bound t b ds false h = h

not_missing_step : (t : List ℕ) (ds : List Binding) (i : RawItemTree) → is_missing (find t ds) ≡ false → is_missing (find t (with_definition ds i)) ≡ false
not_missing_step t ds (RawFunctionItem gives n params body) h = not_missing_bound t (record { text = n.text; meaning = Meaning.Function (capped (length ds)) gives (length params) true }) ds (bytes_eq n.text t) h
not_missing_step t ds _ h = h

not_missing : (t : List ℕ) (ds : List Binding) (is : List RawItemTree) → is_missing (find t ds) ≡ false → is_missing (find t (with_definitions ds is)) ≡ false
not_missing t ds [] h = h
not_missing t ds (i ∷ is) h = not_missing t (with_definition ds i) is (not_missing_step t ds i h)

pub record IsFine (p : ProgramTree) (w : Sofar) : Type 0 where
  pub fits : AllFit (outer_context p) [] w.spot.names
  pub six : AreSix w.spot.names
  pub functions : AreFunctionsScoped p w.functions
  pub tables : AllByRecursion (IsTable (map signature_of p.functions)) w.tables

module _ (p : ProgramTree) (defs final : List Binding) (lim : AreWithin p)
    (agrees : map signature_of p.functions ≡ signatures_of defs) (are : AreDefinitions defs) (short : length defs ≤ 65536) (backed : AreBacked defs final)
    (few_globals : length p.globals ≤ 65536) (few_tables : length p.tables ≤ 65536) where
  -- a function that is bound has its definition's number, result and parameters
  function_fits : (t : List ℕ) (g : Bool) (k : ℕ) (d : Bool) → is_missing (find t defs) ≡ false → IsSigned g k (find t final)
      → MeaningFits (outer_context p) [] (Meaning.Function (function_of (find t defs)) g k d) × (k ≤ 6)
  function_fits t g k d h s =
      let e : IsThere (find t defs) = there (find t defs) h in
      let a : IsDefinedAs defs e.found = find_definition t defs e.found are short e.is in
      let f : HasSignature e.found.meaning = found_signature t defs e.found are e.is in
      let self : IsSigned f.result f.count (find t defs) = subst (λ o. IsSigned f.result f.count o) (sym e.is) f.signed in
      let one = one_signature f.result g f.count k (find t final) (backed t f.result f.count self) s in
      let sig : signature_at (map signature_of p.functions) (function_in e.found.meaning) ≡ record { params = capped f.count; gives = f.result } = rw agrees (a.1 ∙ f.signature) in
      let low : (signature_at (map signature_of p.functions) (function_in e.found.meaning)).params ≤ most_params p.functions = signature_small p.functions (function_in e.found.meaning) in
      let six : most_params p.functions ≤ 6 = lim.params in
      let cap : (signature_at (map signature_of p.functions) (function_in e.found.meaning)).params ≡ capped f.count = ap (λ x. x.params) sig in
      let count : f.count ≡ k = one.1 in
      let there_is : function_in e.found.meaning < length (map signature_of p.functions) = rw agrees a.0 in
      subst (λ o. MeaningFits (outer_context p) [] (Meaning.Function (function_of o) g k d) × (k ≤ 6)) (sym e.is)
      ((there_is, omega arith, ap (λ x. x.gives) sig ∙ one.0), omega arith)

  pub fine_global : (w : Sofar) (n : NameTree) (array : Bool) (g : GlobalFact) → (array ≡ false → g.words ≡ 1) → IsFine p w → StartsWith (w.globals ++ g ∷ []) p.globals
      → AllFit (outer_context p) [] (bound w.spot.names n.text (Meaning.Global (capped (length w.globals)) array)) × AreSix (bound w.spot.names n.text (Meaning.Global (capped (length w.globals)) array))
  fine_global w n array g one fine q =
      let m = Meaning.Global (capped (length w.globals)) array in
      let ws = map (λ (x : GlobalFact). x.words) w.globals in
      let all = map (λ (x : GlobalFact). x.words) p.globals in
      let e : all ≡ (ws ++ g.words ∷ []) ++ map (λ (x : GlobalFact). x.words) q.0 =
      ap (map (λ (x : GlobalFact). x.words)) q.1 ∙ (map-append (λ (x : GlobalFact). x.words) (w.globals ++ g ∷ []) q.0 ∙ ap (λ z. z ++ map (λ (x : GlobalFact). x.words) q.0) (map-append (λ (x : GlobalFact). x.words) w.globals (g ∷ []))) in
      let lw : length ws ≡ length w.globals = length-map w.globals (λ (x : GlobalFact). x.words) in
      let la : length all ≡ length p.globals = length-map p.globals (λ (x : GlobalFact). x.words) in
      let t = next_is_there ws all g.words (map (λ (x : GlobalFact). x.words) q.0, e) (omega arith) in
      let u = rw lw at t in (
        all_fit_bound (outer_context p) [] (record { text = n.text; meaning = m }) w.spot.names (is_fixed (find n.text w.spot.names)) (u.0, λ z. u.1 ∙ one z) fine.fits,
        bound_six w.spot.names n.text m tt fine.six,
      )

  fine_table : (w : Sofar) (n : NameTree) (row : List ℕ) → IsFine p w → StartsWith (w.tables ++ row ∷ []) p.tables
      → AllFit (outer_context p) [] (bound w.spot.names n.text (Meaning.Table (capped (length w.tables))))
  fine_table w n row fine q =
      let l : length p.tables ≡ length w.tables + 1 + length q.0 = ap length q.1 ∙ (length-append (w.tables ++ row ∷ []) q.0 ∙ ap (λ x. x + length q.0) (length-append w.tables (row ∷ []))) in
      all_fit_bound (outer_context p) [] (record { text = n.text; meaning = Meaning.Table (capped (length w.tables)) }) w.spot.names (is_fixed (find n.text w.spot.names)) (omega arith) fine.fits

  fine_function : (w : Sofar) (n : NameTree) (d g : Bool) (k : ℕ) → IsFine p w → is_missing (find n.text defs) ≡ false → IsSigned g k (find n.text final)
      → AllFit (outer_context p) [] (with_function defs w.spot.names g n k d) × AreSix (with_function defs w.spot.names g n k d) × (k ≤ 6)
  fine_function w n d g k fine h s =
      let f = function_fits n.text g k d h s in
      let m = Meaning.Function (function_of (find n.text defs)) g k d in (
        all_fit_bound (outer_context p) [] (record { text = n.text; meaning = m }) w.spot.names (is_fixed (find n.text w.spot.names)) f.0 fine.fits,
        bound_six w.spot.names n.text m f.1 fine.six,
        f.1,
      )

  -- one more item, where these items follow
  fine_step : (ds : List Binding) (w : Sofar) (i : RawItemTree) (is : List RawItemTree) → items_faults defs w (i ∷ is) ≡ []
      → with_definitions ds (i ∷ is) ≡ defs → (items_after defs w (i ∷ is)).spot.names ≡ final
      → StartsWith (item_after defs w i).functions p.functions → StartsWith (item_after defs w i).globals p.globals → StartsWith (item_after defs w i).tables p.tables
      → raw_item_temporaries i ≤ 65536 → IsFine p w → IsFine p (item_after defs w i)
  fine_step ds w (RawGlobal n start) is none ends last qf qg qt held fine =
      let f = fine_global w n false (record { words = 1; start = start }) (λ z. refl) fine qg in
      record { fits = f.0; six = f.1; functions = fine.functions; tables = fine.tables }
  fine_step ds w (RawGlobalArray n size) is none ends last qf qg qt held fine =
      let f = fine_global w n true (record { words = size; start = 0 }) (λ z. cc) fine qg in
      record { fits = f.0; six = f.1; functions = fine.functions; tables = fine.tables }
  fine_step ds w (RawTableItem n size members) is none ends last qf qg qt held fine =
      let i = RawTableItem n size members in
      let here = both_none (item_faults defs w i) (items_faults defs (item_after defs w i) is) none in
      let fo = outer_faults (find n.text w.spot.names) n.at in
      let fa = broken (nat_eq size 0 || not (nat_eq size (length members))) n.at Rule.Arity in
      let j = both_none fo (fa ++ members_faults w.spot.names members) here.0 in
      let k = both_none fa (members_faults w.spot.names members) j.1 in
      let row = members_of w.spot.names members in
      let one : 1 ≤ length row = rw (members_length w.spot.names members) (one_member size (length members) n.at k.0) in
      record {
        fits = fine_table w n row fine qt;
        six = bound_six w.spot.names n.text (Meaning.Table (capped (length w.tables))) tt fine.six;
        functions = fine.functions;
        tables = All-push (IsTable (map signature_of p.functions)) w.tables row fine.tables (one, members_scoped (outer_context p) w.spot.names members fine.fits k.1);
      }
  fine_step ds w (RawPrototypeItem gives n params) is none ends last qf qg qt held fine =
      let i = RawPrototypeItem gives n params in
      let here = both_none (item_faults defs w i) (items_faults defs (item_after defs w i) is) none in
      let j = prototype_parts defs w gives n params here.0 in
      let d = is_defined (find n.text w.spot.names) in
      let free = repeated_free false gives (length params) n.at (find n.text w.spot.names) j.1 in
      let s = bound_here n.text w.spot.names (Meaning.Function (function_of (find n.text defs)) gives (length params) d) gives (length params) (is_fixed (find n.text w.spot.names)) free (refl, refl) in
      let t : IsSigned gives (length params) (find n.text final) = subst (λ x. IsSigned gives (length params) (find n.text x)) last (all_stay defs (item_after defs w i) is n.text gives (length params) here.1 s) in
      let f = fine_function w n d gives (length params) fine j.0 t in
      record { fits = f.0; six = f.1; functions = fine.functions; tables = fine.tables }
  fine_step ds w (RawFunctionItem gives n params body) is none ends last qf qg qt held fine =
      let i = RawFunctionItem gives n params body in
      let here = both_none (item_faults defs w i) (items_faults defs (item_after defs w i) is) none in
      let j = definition_parts defs w gives n params body here.0 in
      let free = repeated_free true gives (length params) n.at (find n.text w.spot.names) j.0 in
      let s = bound_here n.text w.spot.names (Meaning.Function (function_of (find n.text defs)) gives (length params) true) gives (length params) (is_fixed (find n.text w.spot.names)) free (refl, refl) in
      let t : IsSigned gives (length params) (find n.text final) = subst (λ x. IsSigned gives (length params) (find n.text x)) last (all_stay defs (item_after defs w i) is n.text gives (length params) here.1 s) in
      let m : is_missing (find n.text defs) ≡ false =
      subst (λ x. is_missing (find n.text x) ≡ false) ends (not_missing n.text (with_definition ds i) is (find_definition_here n.text ds (Meaning.Function (capped (length ds)) gives (length params) true))) in
      let f = fine_function w n true gives (length params) fine m t in
      let b = body_spot defs w.spot gives n params in
      let names = stmts_names (stmts_of b body) in
      let tree = function_tree_of b gives n params body in
      let positive : length names ≤ sum (words names) = no_more_than_words names (stmts_positive gives false b body j.3) in
      let e : p.functions ≡ w.functions ++ tree ∷ qf.0 = qf.1 ∙ append_assoc w.functions (tree ∷ []) qf.0 in
      let most = one_of_locals w.functions tree qf.0 in
      let locals : sum (words names) ≤ 4096 = omega (arith, lim.locals, rw (← e) at most) in
      record {
        fits = f.0;
        six = f.1;
        functions = functions_then p w.functions tree fine.functions (function_scoped p defs w.spot gives n params body f.2 positive locals f.0 f.1 j.3 held);
        tables = fine.tables;
      }

  pub items_fine : (ds : List Binding) (w : Sofar) (is : List RawItemTree) → items_faults defs w is ≡ []
      → with_definitions ds is ≡ defs → (items_after defs w is).spot.names ≡ final
      → p.functions ≡ (items_after defs w is).functions → p.globals ≡ (items_after defs w is).globals → p.tables ≡ (items_after defs w is).tables
      → AreWithinTemporaries is → IsFine p w → IsFine p (items_after defs w is)
  items_fine ds w [] none ends last ef eg et held fine = fine
  items_fine ds w (i ∷ is) none ends last ef eg et held fine =
      let v = item_after defs w i in
      let l = items_longer defs v is in
      let here = both_none (item_faults defs w i) (items_faults defs v is) none in
      items_fine (with_definition ds i) v is here.1 ends last ef eg et held.1
      (fine_step ds w i is none ends last (l.functions.0, ef ∙ l.functions.1) (l.globals.0, eg ∙ l.globals.1) (l.tables.0, et ∙ l.tables.1) held.0 fine)
