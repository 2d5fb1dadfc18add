-- What is known of a place and of all statements there is known of their parts.
use Rattle.hoist_meaning.proofs.Common.{ℕ, ◌≡◌, ◌≤◌, refl, sym, ap, subst, ◌∙◌, Bool, List, [], ◌∷◌, ◌++◌, length, length-append, Option, Some, None, arith, append-nil, RawExprTree, RawSimpleTree, RawDeclareScalar, RawDeclareArray, RawDeclareWith, RawStmtTree, RawStmtTrees, RawDo, RawBlock, RawIf, RawIfElse, RawWhile, RawFor, RawReturn, NoRawStmts, RawThen, raw_in_order, as_body, Item, Spot, inside, left, stmt_after, stmts_after, stmt_faults, stmt_numbered, is_call, stmt_places, stmts_places, calls_in, counted}
use Rattle.c_mean.specs.ToDo as items
use Rattle.scope_rules.specs.Statements as tree_stmts
use Rattle.deep_mean.specs.Naming as deep
use Rattle.hoist_meaning.proofs.KnownSpawn.{AreFine}
use Rattle.hoist_meaning.proofs.Bindings.{Agreement, Outside, Both, New, AreBelow}
use Rattle.hoist_meaning.proofs.Items.{items_of, after}
use Rattle.hoist_meaning.proofs.Premises.{KnowsSpawnAlone}
use Rattle.hoist_meaning.proofs.Sizes.{Grows, grows_none, grows_on}
use Rattle.hoist_meaning.proofs.Fits.{PlaceFits}

-- ---- sizes

pub grows_length : (xs ys : List ℕ) → Grows xs ys → length xs ≤ length ys
grows_length xs ys h =
    let long = length-append xs h.more in
    let same : length ys ≡ length (xs ++ h.more) = ap length h.is in omega (arith, long, same)

-- ---- scopes

-- numbers to come may be greater
text_on : (a : Agreement) (n i m : ℕ) → n ≤ i → AreBelow n m a → AreBelow i m a
text_on (Outside bs) n i m le b = tt
text_on (Both t x y array a) n i m le b = (omega (arith, b.0, le), b.1, b.2)
text_on (New k y a) n i m le b = (b.0, text_on a n i y le b.1)

pub below_on : (a : Agreement) (n i m j : ℕ) → n ≤ i → m ≤ j → AreBelow n m a → AreBelow i j a
below_on (Outside bs) n i m j le few b = tt
below_on (Both t x y array a) n i m j le few b = (omega (arith, b.0, le), omega (arith, b.1, few), b.2)
below_on (New k y a) n i m j le few b = (omega (arith, b.0, few), text_on a n i y le b.1)

-- places with the same names, at which as many variables or more were declared
pub place_on : (a : Agreement) (s t u v : Spot) → PlaceFits a s t → u.names ≡ s.names → v.names ≡ t.names → length s.sizes ≤ length u.sizes → length t.sizes ≤ length v.sizes → PlaceFits a u v
place_on a s t u v h e f many more = record {
  stand = record {
    text = record { names = e ∙ h.stand.text.names; count = refl };
    tree = record { agrees = h.stand.tree.agrees; names = f ∙ h.stand.tree.names; count = refl };
    below = below_on a (length s.sizes) (length u.sizes) (length t.sizes) (length v.sizes) many more h.stand.below;
  };
  knows = subst KnowsSpawnAlone (sym e) h.knows;
}

-- ---- a body

-- a body of the tree, as the statements that it is
pub record BodyIs (gives loop : Bool) (ns : List ℕ) (t : Spot) (ss : List RawStmtTree) : Type 0 where
  pub place : Spot
  pub names : place.names ≡ t.names
  pub sizes : place.sizes ≡ t.sizes
  pub site : place.site ≡ t.site
  pub at : (rest : List Item) → items.before (stmt_numbered ns (tree_stmts.stmt_of t (as_body ss))) rest ≡ items_of ns place ss rest
  pub fine : stmt_faults gives loop t (as_body ss) ≡ [] → AreFine gives loop place ss
  pub later_sizes : (stmt_after t (as_body ss)).sizes ≡ (after place ss).sizes
  pub later_site : (stmt_after t (as_body ss)).site ≡ (after place ss).site
  pub calls : stmt_places is_call (as_body ss) ≡ stmts_places is_call (raw_in_order ss)

pub body_is : (gives loop : Bool) (ns : List ℕ) (t : Spot) (ss : List RawStmtTree) → BodyIs gives loop ns t ss
body_is gives loop ns t [] = record { place = t; names = refl; sizes = refl; site = refl; at = λ rest. refl; fine = λ h. refl; later_sizes = refl; later_site = refl; calls = refl }
body_is gives loop ns t (s ∷ []) = record {
  place = t;
  names = refl;
  sizes = refl;
  site = refl;
  at = λ rest. refl;
  fine = λ h. ap (λ fs. fs ++ []) h;
  later_sizes = refl;
  later_site = refl;
  calls = sym (append-nil (stmt_places is_call s));
}
body_is gives loop ns t (s ∷ r ∷ ss) = record { place = inside t; names = refl; sizes = refl; site = refl; at = λ rest. refl; fine = λ h. h; later_sizes = refl; later_site = refl; calls = refl }

-- ---- variables of the text

simple_text : (s : Spot) (p : RawSimpleTree) → Grows s.sizes (deep.simple_after s p).sizes
simple_text s (RawDeclareScalar n) = record { more = 1 ∷ []; is = refl }
simple_text s (RawDeclareArray n size) = record { more = size ∷ []; is = refl }
simple_text s (RawDeclareWith n v) = record { more = 1 ∷ []; is = refl }
simple_text s _ = grows_none s.sizes

pub simples_text : (s : Spot) (ps : List RawSimpleTree) → Grows s.sizes (deep.simples_after s ps).sizes
simples_text s [] = grows_none s.sizes
simples_text s (p ∷ ps) = grows_on s.sizes (deep.simple_after s p).sizes (deep.simples_after (deep.simple_after s p) ps).sizes (simple_text s p) (simples_text (deep.simple_after s p) ps)

pub optional_text : (s : Spot) (c : Option RawExprTree) → Grows s.sizes (deep.optional_after s c).sizes
optional_text s None = grows_none s.sizes
optional_text s (Some e) = grows_none s.sizes

pub step_text : (s : Spot) (p : Option RawSimpleTree) → Grows s.sizes (deep.step_after s p).sizes
step_text s None = grows_none s.sizes
step_text s (Some p) = simple_text s p

mutual
  pub stmt_text : (s : Spot) (p : RawStmtTree) → Grows s.sizes (deep.stmt_after s p).sizes
  stmt_text s (RawDo p) = simple_text s p
  stmt_text s (RawBlock ps) = stmts_text (inside s) ps
  stmt_text s (RawIf c p) = stmt_text (inside (counted s (calls_in c))) p
  stmt_text s (RawIfElse c p r) =
      let middle = inside (left s (deep.stmt_after (inside (counted s (calls_in c))) p)) in
      grows_on s.sizes middle.sizes (deep.stmt_after middle r).sizes (stmt_text (inside (counted s (calls_in c))) p) (stmt_text middle r)
  stmt_text s (RawWhile c p) = stmt_text (inside (counted s (calls_in c))) p
  stmt_text s (RawFor init c step p) =
      let one = deep.simples_after (inside s) init in
      let two = deep.optional_after one c in
      let three = deep.step_after two step in
      grows_on s.sizes three.sizes (deep.stmt_after (inside three) p).sizes
      (grows_on s.sizes two.sizes three.sizes (grows_on s.sizes one.sizes two.sizes (simples_text (inside s) init) (optional_text one c)) (step_text two step)) (stmt_text (inside three) p)
  stmt_text s (RawReturn at v) = optional_text s v
  stmt_text s _ = grows_none s.sizes

  pub stmts_text : (s : Spot) (ps : RawStmtTrees) → Grows s.sizes (deep.stmts_after s ps).sizes
  stmts_text s NoRawStmts = grows_none s.sizes
  stmts_text s (RawThen p ps) = grows_on s.sizes (deep.stmt_after s p).sizes (deep.stmts_after (deep.stmt_after s p) ps).sizes (stmt_text s p) (stmts_text (deep.stmt_after s p) ps)
