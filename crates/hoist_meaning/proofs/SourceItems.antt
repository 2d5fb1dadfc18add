-- Items one after another: the rewriting declares nothing outside functions, so names, globals and tables are the same, and each function of
-- the text is one of the tree, whose statements are sound.
use Rattle.hoist_meaning.proofs.Common.{ℕ, zero, suc, ◌≡◌, ◌≤◌, refl, sym, ap, ◌∙◌, true, false, List, [], ◌∷◌, ◌++◌, length, map, append_assoc, append-nil, length-append, arith, slice_index_or, RawItemTree, RawGlobal, RawGlobalArray, RawTableItem, RawPrototypeItem, RawFunctionItem, raw_in_order, FunctionTree, capped, Meaning, Binding, find, bound, Sofar, with_definition, with_definitions, with_function, is_defined, members_of, body_spot, function_tree_of, item_after, items_after, function_numbered, DeepFunction, DeepSofar, item_hoisted, items_hoisted, all_hoisted}
use Rattle.c_tree.specs.Trees as tree
use Rattle.deep_mean.specs.Naming as deep

-- ---- what is declared outside functions

pub definition_same : (ds : List Binding) (i : RawItemTree) → with_definition ds (item_hoisted i) ≡ with_definition ds i
definition_same ds (RawGlobal n start) = refl
definition_same ds _ = refl

pub definitions_same : (ds : List Binding) (is : List RawItemTree) → with_definitions ds (items_hoisted is) ≡ with_definitions ds is
definitions_same ds [] = refl
definitions_same ds (i ∷ is) = ap (λ (es : List Binding). with_definitions es (items_hoisted is)) (definition_same ds i) ∙ definitions_same (with_definition ds i) is

-- what the items so far make of the text, and of the tree
pub record SofarAlike (w : DeepSofar) (v : Sofar) : Type 0 where
  pub names : w.spot.names ≡ v.spot.names
  pub globals : w.globals ≡ v.globals
  pub tables : w.tables ≡ v.tables
  pub text_none : w.spot.sizes ≡ []
  pub tree_none : v.spot.sizes ≡ []
  pub functions : length w.functions ≡ length v.functions

pub item_alike : (one other : List Binding) (w : DeepSofar) (v : Sofar) (i : RawItemTree) → one ≡ other → SofarAlike w v → SofarAlike (deep.item_after one w i) (item_after other v (item_hoisted i))
item_alike one other w v (RawGlobal n start) d h = record {
  names = λ j. bound (h.names j) n.text (Meaning.Global (capped (length (h.globals j))) false);
  globals = λ j. h.globals j ++ (record { words = 1; start = start }) ∷ [];
  tables = h.tables;
  text_none = h.text_none;
  tree_none = h.tree_none;
  functions = h.functions;
}
item_alike one other w v (RawGlobalArray n size) d h = record {
  names = λ j. bound (h.names j) n.text (Meaning.Global (capped (length (h.globals j))) true);
  globals = λ j. h.globals j ++ (record { words = size; start = 0 }) ∷ [];
  tables = h.tables;
  text_none = h.text_none;
  tree_none = h.tree_none;
  functions = h.functions;
}
item_alike one other w v (RawTableItem n size members) d h = record {
  names = λ j. bound (h.names j) n.text (Meaning.Table (capped (length (h.tables j))));
  globals = h.globals;
  tables = λ j. h.tables j ++ members_of (h.names j) members ∷ [];
  text_none = h.text_none;
  tree_none = h.tree_none;
  functions = h.functions;
}
item_alike one other w v (RawPrototypeItem gives n params) d h = record {
  names = λ j. with_function (d j) (h.names j) gives n (length params) (is_defined (find n.text (h.names j)));
  globals = h.globals;
  tables = h.tables;
  text_none = h.text_none;
  tree_none = h.tree_none;
  functions = h.functions;
}
item_alike one other w v (RawFunctionItem gives n params body) d h = record {
  names = λ j. with_function (d j) (h.names j) gives n (length params) true;
  globals = h.globals;
  tables = h.tables;
  text_none = refl;
  tree_none = refl;
  functions = (
      let f = h.functions in
      let b = body_spot one w.spot gives n params in
      let c = body_spot other v.spot gives n params in
      let d' : DeepFunction = record { params = length params; sizes = (deep.stmts_after b body).sizes; body = deep.stmts_of b body } in
      let t = function_tree_of c gives n params (raw_in_order (all_hoisted 0 body)) in
      let a = length-append w.functions (d' ∷ []) in
      let e = length-append v.functions (t ∷ []) in omega (arith, f, a, e));
}

pub items_alike : (one other : List Binding) (w : DeepSofar) (v : Sofar) (is : List RawItemTree) → one ≡ other → SofarAlike w v → SofarAlike (deep.items_after one w is) (items_after other v (items_hoisted is))
items_alike one other w v [] d h = h
items_alike one other w v (i ∷ is) d h = items_alike one other (deep.item_after one w i) (item_after other v (item_hoisted i)) is d (item_alike one other w v i d h)

-- ---- functions by number

pub seam : {A : Type 0} (xs : List A) (x : A) (ys : List A) (none : A) → slice_index_or (xs ++ x ∷ ys) (length xs) none ≡ x
seam [] x ys none = refl
seam (z ∷ xs) x ys none = seam xs x ys none

pub record Later {A : Type 0} (xs all : List A) : Type 0 where
  pub more : List A
  pub is : all ≡ xs ++ more

later_none : {A : Type 0} (xs : List A) → Later xs xs
later_none xs = record { more = []; is = sym (append-nil xs) }

later_on : {A : Type 0} (xs : List A) (x : A) (all : List A) → Later (xs ++ x ∷ []) all → Later xs all
later_on xs x all h = record { more = x ∷ h.more; is = h.is ∙ append_assoc xs (x ∷ []) h.more }

pub text_later : (one : List Binding) (w : DeepSofar) (is : List RawItemTree) → Later w.functions (deep.items_after one w is).functions
text_later one w [] = later_none w.functions
text_later one w (RawGlobal n start ∷ is) = text_later one (deep.item_after one w (RawGlobal n start)) is
text_later one w (RawGlobalArray n size ∷ is) = text_later one (deep.item_after one w (RawGlobalArray n size)) is
text_later one w (RawTableItem n size members ∷ is) = text_later one (deep.item_after one w (RawTableItem n size members)) is
text_later one w (RawPrototypeItem gives n params ∷ is) = text_later one (deep.item_after one w (RawPrototypeItem gives n params)) is
text_later one w (RawFunctionItem gives n params body ∷ is) =
    let b = body_spot one w.spot gives n params in
    let d : DeepFunction = record { params = length params; sizes = (deep.stmts_after b body).sizes; body = deep.stmts_of b body } in
    later_on w.functions d (deep.items_after one w (RawFunctionItem gives n params body ∷ is)).functions (text_later one (deep.item_after one w (RawFunctionItem gives n params body)) is)

pub tree_later : (other : List Binding) (v : Sofar) (is : List RawItemTree) → Later v.functions (items_after other v is).functions
tree_later other v [] = later_none v.functions
tree_later other v (RawGlobal n start ∷ is) = tree_later other (item_after other v (RawGlobal n start)) is
tree_later other v (RawGlobalArray n size ∷ is) = tree_later other (item_after other v (RawGlobalArray n size)) is
tree_later other v (RawTableItem n size members ∷ is) = tree_later other (item_after other v (RawTableItem n size members)) is
tree_later other v (RawPrototypeItem gives n params ∷ is) = tree_later other (item_after other v (RawPrototypeItem gives n params)) is
tree_later other v (RawFunctionItem gives n params body ∷ is) =
    later_on v.functions (function_tree_of (body_spot other v.spot gives n params) gives n params body) (items_after other v (RawFunctionItem gives n params body ∷ is)).functions (tree_later other (item_after other v (RawFunctionItem gives n params body)) is)

abbrev no_function : FunctionTree
no_function = record { name = []; params = 0; gives = false; sizes = []; body = tree.NoStmts }

pub at_numbered : (ns : List ℕ) (fs : List FunctionTree) (j : ℕ) → slice_index_or (map (function_numbered ns) fs) j no_function ≡ function_numbered ns (slice_index_or fs j no_function)
at_numbered ns (f ∷ fs) (suc j) = at_numbered ns fs j
at_numbered ns _ _ = refl

-- none is there beyond the last
pub past : {A : Type 0} (xs : List A) (j : ℕ) (none : A) → length xs ≤ j → slice_index_or xs j none ≡ none
past [] j none h = refl
past (x ∷ xs) zero none h = absurd (omega (arith, h))
past (x ∷ xs) (suc j) none h = past xs j none (omega (arith, h))
