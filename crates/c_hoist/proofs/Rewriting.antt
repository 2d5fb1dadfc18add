-- A source that is rewritten and read item by item.
use Rattle.c_hoist.proofs.Common.{◌≡◌, sym, ap, subst, ◌∙◌, Bool, List, [], ◌∷◌, ◌++◌, append_assoc, append-nil, None, NameTree, RawStmtTree, RawStmtTrees, RawItemTree, RawFunctionItem, is_call, stmts_places, item_places, items_places, definitions, at_start, items_after, items_faults, Making, IsMaking, with_statements, Agrees, HasRead, items_hoisted, ℕ}
use Rattle.grammar_laws.proofs.NoNames.{no_declared}
use Rattle.scope_rules.specs.declared.resolver.Resolver.{Resolver}
use Rattle.scope_rules.specs.Faults.{least_of}
use Rattle.scope_rules.specs.ItemViews.{sofar_of}
use Rattle.scope_rules.proofs.Makings.{next_statements}
use Rattle.hoist_meaning.proofs.SourceItems.{definitions_same}
use Rattle.hoist_rules.specs.Receivers.{Received, Resolved, Kept}

-- the rewriting keeps what a source defines
pub read_of_hoisted : (r : Resolver) (is read : List RawItemTree) → HasRead r is read → HasRead r (items_hoisted is) read
read_of_hoisted r is read h =
    let e : definitions is ≡ definitions (items_hoisted is) = sym (definitions_same [] is) in
    record {
      defined = h.defined ∙ e;
      sofar = subst (λ ds. Agrees (sofar_of r.items) (items_after ds at_start read)) e h.sofar;
      faults = h.faults ∙ ap (λ ds. least_of None (items_faults ds at_start read)) e;
      counted = h.counted;
    }

-- the places of one more item's calls
pub places_of_one_more : (is : List RawItemTree) (i : RawItemTree) → items_places is_call (is ++ i ∷ []) ≡ items_places is_call is ++ item_places is_call i
places_of_one_more [] i = append-nil (item_places is_call i)
places_of_one_more (j ∷ is) i =
    ap (λ ps. item_places is_call j ++ ps) (places_of_one_more is i) ∙ sym (append_assoc (item_places is_call j) (items_places is_call is) (item_places is_call i))

-- the definition so far, and the places of its calls, if the statements are resolved
abbrev pub making_or : Making → Received → Making
making_or m (Resolved making places) = making
making_or m (Kept ss us) = m

abbrev pub places_of : Received → List ℕ
places_of (Resolved making places) = places
places_of (Kept ss us) = []

-- a definition, after its statements
pub all_statements : (m e : Making) (all read : List RawItemTree) (gives : Bool) (n : NameTree) (params : List NameTree) (ss : List RawStmtTree)
    → e ≡ with_statements m ss → IsMaking m all read gives n params [] → IsMaking e all read gives n params ss
all_statements m e all read gives n params ss same h = subst (λ x. IsMaking x all read gives n params ss) (sym same) (next_statements m all read gives n params [] ss h)

-- the places of its calls are those of its statements
pub places_of_function : (gives : Bool) (n : NameTree) (params : List NameTree) (body : RawStmtTrees) → item_places is_call (RawFunctionItem gives n params body) ≡ stmts_places is_call body
places_of_function gives n params body = ap (λ x. x ++ stmts_places is_call body) (no_declared params)
