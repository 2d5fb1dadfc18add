-- A function: what is in scope after its parameters and after its body, and the rules that its parts break.
use Rattle.scope_rules.proofs.Common.{ℕ, ◌≡◌, ◌-◌, ◌++◌, ap, ◌∙◌, Bool, true, false, List, [], ◌∷◌, length, drop, append_assoc, NameTree, RawStmtTrees, RawFunctionItem, Meaning, Binding, find, Spot, next_variable, with_variable, stmts_after, stmts_faults, Sofar, params_after, params_faults, params_spot, body_spot, with_function, function_left, function_faults, main_faults, item_faults, head_faults}
use Rattle.scope_rules.proofs.Scopes.{Extends, same_names, then_extends, bound_extends, stmts_extends, names_left}

pub params_extends : (s : Spot) (ns : List NameTree) → Extends (params_after s ns).names s.names
params_extends s [] = same_names s.names
params_extends s (n ∷ ns) = then_extends s.names (with_variable s n false 1).names (params_after (with_variable s n false 1) ns).names (bound_extends s.names n.text (Meaning.Local (next_variable s) false)) (params_extends (with_variable s n false 1) ns)

module _ (defs : List Binding) (w : Sofar) (gives : Bool) (n : NameTree) (params : List NameTree) (body : RawStmtTrees) where
  abbrev start : Spot
  start = body_spot defs w.spot gives n params

  abbrev last : Spot
  last = stmts_after start body

  abbrev known : List Binding
  known = with_function defs w.spot.names gives n (length params) true

  in_scope : Extends last.names known
  in_scope = then_extends known start.names last.names (params_extends (params_spot defs w.spot gives n params) params) (stmts_extends start body)

  pub spot_ended : (e : Spot) (count outer : ℕ) → e ≡ last → count ≡ length known → outer ≡ w.spot.outer
      → record e { names = drop (length e.names - count) e.names; outer = outer; sizes = [] } ≡ function_left w.spot known last
  spot_ended e count outer h c o =
      ap (λ (x : Spot). record x { names = drop (length x.names - count) x.names; outer = outer; sizes = [] }) h
      ∙ (ap (λ x. record last { names = x; outer = outer; sizes = [] }) (names_left known last.names count c in_scope)
      ∙ ap (λ x. record last { names = known; outer = x; sizes = [] }) o)

  pub faults_joined : head_faults defs w.spot gives n params ++ stmts_faults gives false start body ≡ item_faults defs w (RawFunctionItem gives n params body)
  faults_joined =
      let ff = function_faults true gives (length params) n.at (find n.text w.spot.names) in
      let fm = main_faults n (length params) in
      let fp = params_faults (params_spot defs w.spot gives n params) params in
      let fs = stmts_faults gives false start body in
      append_assoc ff (fm ++ fp) fs ∙ ap (λ x. ff ++ x) (append_assoc fm fp fs)
