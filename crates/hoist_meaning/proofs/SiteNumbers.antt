-- The calls of the tree have the numbers of the text's: a call stands at one place in both, and the j-th place of the tree has the number of
-- the k-th of the text where both are one.
use Rattle.hoist_meaning.proofs.Common.{ℕ, zero, suc, ◌≡◌, ◌+◌, ◌≤◌, refl, sym, ap, subst, ◌∙◌, Bool, true, false, ◌||◌, List, [], ◌∷◌, ◌++◌, append_assoc, append-nil, length, length-append, Option, Some, None, arith, if◌then◌else◌, slice_index_or, RawExprTree, RawExprTrees, RawNumber, RawName, RawElement, RawUnary, RawParenthesized, RawBinary, RawLogicalAnd, RawLogicalOr, RawConditional, RawCall, RawTableCall, NoExprs, And, RawSimpleTree, RawDeclareWith, RawSet, RawSetElement, RawCalling, RawTableCalling, RawStmtTree, RawStmtTrees, RawDo, RawBlock, RawIf, RawIfElse, RawWhile, RawFor, RawReturn, NoRawStmts, RawThen, RawItemTree, raw_in_order, HasNoCall, IsValueWhole, IsSimpleWhole, AreSimplesWhole, IsStepWhole, IsConditionWhole, IsReturnWhole, IsStmtWhole, AreStmtsWhole, is_call, expr_places, exprs_places, simple_places, simples_places, optional_places, step_places, stmt_places, stmts_places, items_places, site_numbers, RiseWithin, Spot, right_after, simple_after, simples_after, inside, left, step_after, stmt_after, stmts_after, returned_after, number_at, calls_in, all_calls_in, used, declared, declared_as, set_to, holds_call, hold_call, is_named, is_spawn, names_in, arguments_names, part_after, part_named, left_of, arguments_left, call_left, index_left, argument_left, table_call_left, is_true, is_false, in_block, decided, before, arguments_before, value_left, value_before, table_before, items_hoisted, AllWhole, in_order_whole, StandsAt, IsPlain, ArePlain, AreItemsPlain, or_parts}
use Rattle.hoist_meaning.proofs.CallCounts.{no_places, none_of_them}
use Rattle.hoist_meaning.proofs.Numbers.{numbers_kept}
use Rattle.hoist_meaning.proofs.Items.{after, after_both}
use Rattle.hoist_meaning.proofs.Premises.{after_part, in_branch, after_branch, after_left, after_condition, SitesStand, ArgumentSitesStand}
use Rattle.hoist_meaning.proofs.TableEnds.{three_after}

-- ---- places one after another in a list

-- these stand in it from the j-th on
pub record Occurs (all : List ℕ) (j : ℕ) (places : List ℕ) : Type 0 where
  pub earlier : List ℕ
  pub later : List ℕ
  pub is : all ≡ earlier ++ (places ++ later)
  pub many : length earlier ≡ j

pub occurs_first : (all : List ℕ) (j : ℕ) (xs ys : List ℕ) → Occurs all j (xs ++ ys) → Occurs all j xs
occurs_first all j xs ys h = record { earlier = h.earlier; later = ys ++ h.later; is = h.is ∙ ap (λ zs. h.earlier ++ zs) (append_assoc xs ys h.later); many = h.many }

pub occurs_second : (all : List ℕ) (j : ℕ) (xs ys : List ℕ) → Occurs all j (xs ++ ys) → Occurs all (j + length xs) ys
occurs_second all j xs ys h = record {
  earlier = h.earlier ++ xs;
  later = h.later;
  is = h.is ∙ ap (λ zs. h.earlier ++ zs) (append_assoc xs ys h.later) ∙ sym (append_assoc h.earlier xs (ys ++ h.later));
  many = (let both = length-append h.earlier xs in let one = h.many in omega (arith, both, one));
}

pub occurs_as : (all : List ℕ) (i j : ℕ) (xs ys : List ℕ) → i ≡ j → xs ≡ ys → Occurs all i xs → Occurs all j ys
occurs_as all i j xs ys e f h = subst (λ k. Occurs all k ys) e (subst (λ zs. Occurs all i zs) f h)

stands_after : (earlier rest : List ℕ) (p : ℕ) → StandsAt (earlier ++ p ∷ rest) (length earlier) p
stands_after [] rest p = refl
stands_after (e ∷ earlier) rest p = stands_after earlier rest p

pub occurs_stands : (all : List ℕ) (j p : ℕ) (rest : List ℕ) → Occurs all j (p ∷ rest) → StandsAt all j p
occurs_stands all j p rest h = subst (λ i. StandsAt all i p) h.many (subst (λ xs. StandsAt xs (length h.earlier) p) (sym h.is) (stands_after h.earlier (rest ++ h.later) p))

both_length : (xs ys : List ℕ) (m n : ℕ) → length xs ≡ m → length ys ≡ n → length (xs ++ ys) ≡ m + n
both_length xs ys m n e f = let both = length-append xs ys in omega (arith, both, e, f)

-- ---- how many calls

mutual
  pub calls_length : (e : RawExprTree) → length (expr_places is_call e) ≡ calls_in e
  calls_length (RawElement n i) = calls_length i
  calls_length (RawUnary op e) = calls_length e
  calls_length (RawParenthesized e) = calls_length e
  calls_length (RawBinary op l r) = both_length (expr_places is_call l) (expr_places is_call r) (calls_in l) (calls_in r) (calls_length l) (calls_length r)
  calls_length (RawLogicalAnd l r) = both_length (expr_places is_call l) (expr_places is_call r) (calls_in l) (calls_in r) (calls_length l) (calls_length r)
  calls_length (RawLogicalOr l r) = both_length (expr_places is_call l) (expr_places is_call r) (calls_in l) (calls_in r) (calls_length l) (calls_length r)
  calls_length (RawConditional c x y) =
      let inner = both_length (expr_places is_call x) (expr_places is_call y) (calls_in x) (calls_in y) (calls_length x) (calls_length y) in
      let outer = both_length (expr_places is_call c) (expr_places is_call x ++ expr_places is_call y) (calls_in c) (calls_in x + calls_in y) (calls_length c) inner in
      omega (arith, outer)
  calls_length (RawCall n es) = let rest = all_calls_length es in omega (arith, rest)
  calls_length (RawTableCall n i e) = let inner = both_length (expr_places is_call i) (expr_places is_call e) (calls_in i) (calls_in e) (calls_length i) (calls_length e) in omega (arith, inner)
  calls_length _ = refl

  pub all_calls_length : (es : RawExprTrees) → length (exprs_places is_call es) ≡ all_calls_in es
  all_calls_length NoExprs = refl
  all_calls_length (And e es) = both_length (expr_places is_call e) (exprs_places is_call es) (calls_in e) (all_calls_in es) (calls_length e) (all_calls_length es)

-- ---- the next site after a statement in which each call is whole

none_there : (e : RawExprTree) → HasNoCall e → length (expr_places is_call e) ≡ 0
none_there e h = ap length (no_places e h)

value_site : (j : ℕ) (v : RawExprTree) → IsValueWhole v → j + length (expr_places is_call v) ≤ 65536 → right_after j v ≡ j + length (expr_places is_call v)
value_site j (RawElement n i) h few = let none = none_there i h in omega (arith, none)
value_site j (RawUnary op e) h few = let none = none_there e h in omega (arith, none)
value_site j (RawParenthesized e) h few = let none = none_there e h in omega (arith, none)
value_site j (RawBinary op l r) h few = let none = none_there (RawBinary op l r) h in omega (arith, none)
value_site j (RawLogicalAnd l r) h few = let none = none_there (RawLogicalAnd l r) h in omega (arith, none)
value_site j (RawLogicalOr l r) h few = let none = none_there (RawLogicalOr l r) h in omega (arith, none)
value_site j (RawConditional c x y) h few = let none = none_there (RawConditional c x y) h in omega (arith, none)
value_site j (RawCall n es) h few = let none = ap length (none_of_them es h) in omega (arith, none, few)
value_site j (RawTableCall n i e) h few =
    let one = none_there i h.0 in
    let two = none_there e h.1 in
    let both = length-append (expr_places is_call i) (expr_places is_call e) in
    omega (arith, one, two, both, few)
value_site j _ h few = omega arith

simple_site : (s : Spot) (p : RawSimpleTree) → IsSimpleWhole p → s.site + length (simple_places is_call p) ≤ 65536 → (simple_after s p).site ≡ s.site + length (simple_places is_call p)
simple_site s (RawDeclareWith n v) h few = value_site s.site v h few
simple_site s (RawSet n v) h few = value_site s.site v h few
simple_site s (RawSetElement n i v) h few =
    let one = none_there i h.0 in
    let both = length-append (expr_places is_call i) (expr_places is_call v) in
    let two = value_site s.site v h.1 (omega (arith, few, one, both)) in
    omega (arith, one, two, both)
simple_site s (RawCalling n es) h few = value_site s.site (RawCall n es) h few
simple_site s (RawTableCalling n i e) h few = value_site s.site (RawTableCall n i e) h few
simple_site s _ h few = omega arith

simples_site : (s : Spot) (ps : List RawSimpleTree) → AreSimplesWhole ps → s.site + length (simples_places is_call ps) ≤ 65536 → (simples_after s ps).site ≡ s.site + length (simples_places is_call ps)
simples_site s [] h few = omega arith
simples_site s (p ∷ ps) h few =
    let both = length-append (simple_places is_call p) (simples_places is_call ps) in
    let one = simple_site s p h.0 (omega (arith, few, both)) in
    let two = simples_site (simple_after s p) ps h.1 (omega (arith, few, both, one)) in
    omega (arith, both, one, two)

step_site : (s : Spot) (p : Option RawSimpleTree) → IsStepWhole p → s.site + length (step_places is_call p) ≤ 65536 → (step_after s p).site ≡ s.site + length (step_places is_call p)
step_site s None h few = omega arith
step_site s (Some p) h few = simple_site s p h few

condition_none : (c : Option RawExprTree) → IsConditionWhole c → length (optional_places is_call c) ≡ 0
condition_none None h = refl
condition_none (Some e) h = none_there e h

returned_site : (s : Spot) (v : Option RawExprTree) → IsReturnWhole v → s.site + length (optional_places is_call v) ≤ 65536 → (returned_after s v).site ≡ s.site + length (optional_places is_call v)
returned_site s None h few = omega arith
returned_site s (Some v) h few = value_site s.site v h few

mutual
  pub stmt_site : (s : Spot) (p : RawStmtTree) → IsStmtWhole p → s.site + length (stmt_places is_call p) ≤ 65536 → (stmt_after s p).site ≡ s.site + length (stmt_places is_call p)
  stmt_site s (RawDo p) h few = simple_site s p h few
  stmt_site s (RawBlock ps) h few = stmts_site (inside s) ps h few
  stmt_site s (RawIf c p) h few =
      let both = length-append (expr_places is_call c) (stmt_places is_call p) in
      let none = none_there c h.0 in
      let one = stmt_site (inside s) p h.1 (omega (arith, few, both, none)) in
      omega (arith, both, none, one)
  stmt_site s (RawIfElse c p r) h few =
      let outer = length-append (expr_places is_call c) (stmt_places is_call p ++ stmt_places is_call r) in
      let both = length-append (stmt_places is_call p) (stmt_places is_call r) in
      let none = none_there c h.0 in
      let one = stmt_site (inside s) p h.1 (omega (arith, few, outer, both, none)) in
      let two = stmt_site (inside (left s (stmt_after (inside s) p))) r h.2 (omega (arith, few, outer, both, none, one)) in
      omega (arith, outer, both, none, one, two)
  stmt_site s (RawWhile c p) h few =
      let both = length-append (expr_places is_call c) (stmt_places is_call p) in
      let none = none_there c h.0 in
      let one = stmt_site (inside s) p h.1 (omega (arith, few, both, none)) in
      omega (arith, both, none, one)
  stmt_site s (RawFor init c step p) h few =
      let first = simples_after (inside s) init in
      let second = step_after first step in
      let outer = length-append (simples_places is_call init) (optional_places is_call c ++ (step_places is_call step ++ stmt_places is_call p)) in
      let middle = length-append (optional_places is_call c) (step_places is_call step ++ stmt_places is_call p) in
      let inner = length-append (step_places is_call step) (stmt_places is_call p) in
      let none = condition_none c h.1 in
      let one = simples_site (inside s) init h.0 (omega (arith, few, outer, middle, inner)) in
      let two = step_site first step h.2 (omega (arith, few, outer, middle, inner, one)) in
      let three = stmt_site (inside second) p h.3 (omega (arith, few, outer, middle, inner, none, one, two)) in
      omega (arith, outer, middle, inner, none, one, two, three)
  stmt_site s (RawReturn at v) h few = returned_site s v h few
  stmt_site s _ h few = omega arith

  pub stmts_site : (s : Spot) (ps : RawStmtTrees) → AreStmtsWhole ps → s.site + length (stmts_places is_call ps) ≤ 65536 → (stmts_after s ps).site ≡ s.site + length (stmts_places is_call ps)
  stmts_site s NoRawStmts h few = omega arith
  stmts_site s (RawThen p ps) h few =
      let both = length-append (stmt_places is_call p) (stmts_places is_call ps) in
      let one = stmt_site s p h.0 (omega (arith, few, both)) in
      let two = stmts_site (stmt_after s p) ps h.1 (omega (arith, few, both, one)) in
      omega (arith, both, one, two)

-- ---- statements of the tree, from a place on

abbrev pub places_of : List RawStmtTree → List ℕ
places_of ss = stmts_places is_call (raw_in_order ss)

pub places_both : (xs ys : List RawStmtTree) → places_of (xs ++ ys) ≡ places_of xs ++ places_of ys
places_both [] ys = refl
places_both (x ∷ xs) ys = ap (λ ps. stmt_places is_call x ++ ps) (places_both xs ys) ∙ sym (append_assoc (stmt_places is_call x) (places_of xs) (places_of ys))

pub whole_both : (xs ys : List RawStmtTree) → AllWhole (xs ++ ys) → AllWhole xs × AllWhole ys
whole_both [] ys h = (tt, h)
whole_both (x ∷ xs) ys h = let rest = whole_both xs ys h.1 in ((h.0, rest.0), rest.1)

-- their calls stand in the tree's from the place's site on, and each is whole
pub record TreeHas (tree : List ℕ) (s : Spot) (ss : List RawStmtTree) : Type 0 where
  pub occurs : Occurs tree s.site (places_of ss)
  pub few : s.site + length (places_of ss) ≤ 65536
  pub whole : AllWhole ss

pub tree_both : (tree : List ℕ) (s : Spot) (xs ys : List RawStmtTree) → TreeHas tree s (xs ++ ys) → TreeHas tree s xs × TreeHas tree (after s xs) ys
tree_both tree s xs ys h =
    let split = occurs_as tree s.site s.site (places_of (xs ++ ys)) (places_of xs ++ places_of ys) refl (places_both xs ys) h.occurs in
    let wholes = whole_both xs ys h.whole in
    let both = ap length (places_both xs ys) ∙ length-append (places_of xs) (places_of ys) in
    let few = h.few in
    let site = stmts_site s (raw_in_order xs) (in_order_whole xs wholes.0) (omega (arith, few, both)) in (
      record { occurs = occurs_first tree s.site (places_of xs) (places_of ys) split; few = omega (arith, few, both); whole = wholes.0 },
      record {
        occurs = occurs_as tree (s.site + length (places_of xs)) (after s xs).site (places_of ys) (places_of ys) (sym site) refl (occurs_second tree s.site (places_of xs) (places_of ys) split);
        few = omega (arith, few, both, site);
        whole = wholes.1;
      },
    )

pub tree_three : (tree : List ℕ) (s : Spot) (xs ys zs : List RawStmtTree) → TreeHas tree s (xs ++ ys ++ zs) → TreeHas tree s xs × TreeHas tree (after s xs) ys × TreeHas tree (after (after s xs) ys) zs
tree_three tree s xs ys zs h =
    let outer = tree_both tree s (xs ++ ys) zs h in
    let inner = tree_both tree s xs ys outer.0 in
    (inner.0, inner.1, subst (λ t. TreeHas tree t zs) (after_both s xs ys) outer.1)

block_whole : (zs : List RawStmtTree) → AreStmtsWhole (raw_in_order zs) → AllWhole zs
block_whole [] h = tt
block_whole (z ∷ zs) h = (h.0, block_whole zs h.1)

-- within the branches of an `if` whose condition holds no call
tree_branch : (tree : List ℕ) (s : Spot) (c : RawExprTree) (zs : List RawStmtTree) → HasNoCall c → AllWhole zs → TreeHas tree s (RawIf c (in_block zs) ∷ []) → TreeHas tree (in_branch s) zs
tree_branch tree s c zs quiet whole h =
    let is : (expr_places is_call c ++ places_of zs) ++ [] ≡ places_of zs = append-nil (expr_places is_call c ++ places_of zs) ∙ ap (λ ps. ps ++ places_of zs) (no_places c quiet) in
    let few = h.few in
    let many = ap length is in
    record { occurs = occurs_as tree s.site s.site ((expr_places is_call c ++ places_of zs) ++ []) (places_of zs) refl is h.occurs; few = omega (arith, few, many); whole = whole }

tree_branches : (tree : List ℕ) (s : Spot) (c : RawExprTree) (xs ys : List RawStmtTree) → HasNoCall c → AllWhole xs → AllWhole ys → TreeHas tree s (RawIfElse c (in_block xs) (in_block ys) ∷ []) → TreeHas tree (in_branch s) xs × TreeHas tree (in_branch (after_branch s xs)) ys
tree_branches tree s c xs ys quiet whole_x whole_y h =
    let is : (expr_places is_call c ++ (places_of xs ++ places_of ys)) ++ [] ≡ places_of xs ++ places_of ys =
    append-nil (expr_places is_call c ++ (places_of xs ++ places_of ys)) ∙ ap (λ ps. ps ++ (places_of xs ++ places_of ys)) (no_places c quiet) in
    let split = occurs_as tree s.site s.site ((expr_places is_call c ++ (places_of xs ++ places_of ys)) ++ []) (places_of xs ++ places_of ys) refl is h.occurs in
    let few = h.few in
    let many = ap length is ∙ length-append (places_of xs) (places_of ys) in
    let site = stmts_site (in_branch s) (raw_in_order xs) (in_order_whole xs whole_x) (omega (arith, few, many)) in (
      record { occurs = occurs_first tree s.site (places_of xs) (places_of ys) split; few = omega (arith, few, many); whole = whole_x },
      record {
        occurs = occurs_as tree (s.site + length (places_of xs)) (after_branch s xs).site (places_of ys) (places_of ys) (sym site) refl (occurs_second tree s.site (places_of xs) (places_of ys) split);
        few = omega (arith, few, many, site);
        whole = whole_y;
      },
    )

-- ---- an expression without a call has no number

quiet_sites : (ns : List ℕ) (s : Spot) (k site : ℕ) (e : RawExprTree) → holds_call e ≡ false → SitesStand ns s k site e
quiet_sites ns s k site (RawElement n i) h = quiet_sites ns s k site i h
quiet_sites ns s k site (RawUnary op e) h = quiet_sites ns s k site e h
quiet_sites ns s k site (RawParenthesized e) h = quiet_sites ns s k site e h
quiet_sites ns s k site (RawBinary op l r) h =
    let two = or_parts (holds_call l) (holds_call r) h in
    (quiet_sites ns s k site l two.0, quiet_sites ns (after_part s k (holds_call r) l) (part_after k (holds_call r) l) (site + calls_in l) r two.1)
quiet_sites ns s k site (RawLogicalAnd l r) h =
    let two = or_parts (holds_call l) (holds_call r) h in
    (quiet_sites ns s k site l two.0, quiet_sites ns (in_branch (after_left s k l)) (k + names_in l + 1) (site + calls_in l) r two.1)
quiet_sites ns s k site (RawLogicalOr l r) h =
    let two = or_parts (holds_call l) (holds_call r) h in
    (quiet_sites ns s k site l two.0, quiet_sites ns (in_branch (after_left s k l)) (k + names_in l + 1) (site + calls_in l) r two.1)
quiet_sites ns s k site (RawConditional c x y) h =
    let two = or_parts (holds_call c) (holds_call x || holds_call y) h in
    let three = or_parts (holds_call x) (holds_call y) two.1 in (
      quiet_sites ns s k site c two.0,
      quiet_sites ns (in_branch (after_condition s k c)) (k + names_in c + 1) (site + calls_in c) x three.0,
      quiet_sites ns (in_branch (after_branch (after_condition s k c) (before (k + names_in c + 1) x ++ set_to (k + names_in c) (left_of (k + names_in c + 1) x) ∷ []))) (k + names_in c + 1 + names_in x) (site + calls_in c + calls_in x) y three.1,
    )
quiet_sites ns s k site (RawCall n es) h = absurd (let wrong : true ≡ false = h in cc)
quiet_sites ns s k site (RawTableCall n i e) h = absurd (let wrong : true ≡ false = h in cc)
quiet_sites ns s k site _ h = tt

-- ---- the numbers of an expression's calls

module _ (ns tree text : List ℕ) (same : (j k at : ℕ) → StandsAt tree j at → StandsAt text k at → number_at ns j ≡ k) where
  -- a call of a name at one place in both
  call_number : (j site at : ℕ) (xs ys : List ℕ) → Occurs tree j (at ∷ xs) → Occurs text site (at ∷ ys) → number_at ns j ≡ site
  call_number j site at xs ys h g = same j site at (occurs_stands tree j at xs h) (occurs_stands text site at ys g)

  -- the text's places of an expression after another one
  text_next : (site : ℕ) (e : RawExprTree) (xs : List ℕ) → Occurs text site (expr_places is_call e ++ xs) → Occurs text (site + calls_in e) xs
  text_next site e xs h =
      occurs_as text (site + length (expr_places is_call e)) (site + calls_in e) xs xs (ap (λ n. site + n) (calls_length e)) refl (occurs_second text site (expr_places is_call e) xs h)

  logical_sites : (b : Bool) (k site : ℕ) (l r c : RawExprTree) (s : Spot) → holds_call r ≡ b → HasNoCall c →
      TreeHas tree s (before k l ++ (if b then decided (k + names_in l) (left_of k l) c (before (k + names_in l + 1) r) (left_of (k + names_in l + 1) r) else [])) →
      (TreeHas tree (in_branch (after_left s k l)) (before (k + names_in l + 1) r) → SitesStand ns (in_branch (after_left s k l)) (k + names_in l + 1) (site + calls_in l) r) →
      SitesStand ns (in_branch (after_left s k l)) (k + names_in l + 1) (site + calls_in l) r
  logical_sites true k site l r c s e quiet h rest =
      let n = k + names_in l in
      let zs = before (n + 1) r ++ set_to n (is_true (left_of (n + 1) r)) ∷ [] in
      let t = after s (before k l) in
      let t1 = after_left s k l in
      let outer = tree_both tree s (before k l) (decided n (left_of k l) c (before (n + 1) r) (left_of (n + 1) r)) h in
      let branch = tree_both tree t (declared_as n (is_true (left_of k l)) ∷ []) (RawIf c (in_block zs) ∷ []) outer.1 in
      let block = tree_branch tree t1 c zs quiet (block_whole zs branch.1.whole.0.1) branch.1 in
      rest (tree_both tree (in_branch t1) (before (n + 1) r) (set_to n (is_true (left_of (n + 1) r)) ∷ []) block).0
  logical_sites false k site l r c s e quiet h rest = quiet_sites ns (in_branch (after_left s k l)) (k + names_in l + 1) (site + calls_in l) r e

  conditional_sites : (b : Bool) (k site : ℕ) (c x y : RawExprTree) (s : Spot) → (holds_call x || holds_call y) ≡ b →
      TreeHas tree s (before k c ++ (if b then
      declared (k + names_in c)
      ∷ RawIfElse (left_of k c)
      (in_block (before (k + names_in c + 1) x ++ set_to (k + names_in c) (left_of (k + names_in c + 1) x) ∷ []))
      (in_block (before (k + names_in c + 1 + names_in x) y ++ set_to (k + names_in c) (left_of (k + names_in c + 1 + names_in x) y) ∷ []))
      ∷ []
      else [])) →
      (TreeHas tree (in_branch (after_condition s k c)) (before (k + names_in c + 1) x) → SitesStand ns (in_branch (after_condition s k c)) (k + names_in c + 1) (site + calls_in c) x) →
      (TreeHas tree (in_branch (after_branch (after_condition s k c) (before (k + names_in c + 1) x ++ set_to (k + names_in c) (left_of (k + names_in c + 1) x) ∷ []))) (before (k + names_in c + 1 + names_in x) y)
      → SitesStand ns (in_branch (after_branch (after_condition s k c) (before (k + names_in c + 1) x ++ set_to (k + names_in c) (left_of (k + names_in c + 1) x) ∷ []))) (k + names_in c + 1 + names_in x) (site + calls_in c + calls_in x) y) →
      SitesStand ns (in_branch (after_condition s k c)) (k + names_in c + 1) (site + calls_in c) x
      × SitesStand ns (in_branch (after_branch (after_condition s k c) (before (k + names_in c + 1) x ++ set_to (k + names_in c) (left_of (k + names_in c + 1) x) ∷ []))) (k + names_in c + 1 + names_in x) (site + calls_in c + calls_in x) y
  conditional_sites true k site c x y s e h rest_x rest_y =
      let n = k + names_in c in
      let m = n + 1 + names_in x in
      let first = before (n + 1) x ++ set_to n (left_of (n + 1) x) ∷ [] in
      let second = before m y ++ set_to n (left_of m y) ∷ [] in
      let t = after s (before k c) in
      let t1 = after_condition s k c in
      let outer = tree_both tree s (before k c) (declared n ∷ RawIfElse (left_of k c) (in_block first) (in_block second) ∷ []) h in
      let inner = tree_both tree t (declared n ∷ []) (RawIfElse (left_of k c) (in_block first) (in_block second) ∷ []) outer.1 in
      let whole = inner.1.whole.0 in
      let blocks = tree_branches tree t1 (left_of k c) first second whole.0 (block_whole first whole.1) (block_whole second whole.2) inner.1 in
      (rest_x (tree_both tree (in_branch t1) (before (n + 1) x) (set_to n (left_of (n + 1) x) ∷ []) blocks.0).0, rest_y (tree_both tree (in_branch (after_branch t1 first)) (before m y) (set_to n (left_of m y) ∷ []) blocks.1).0)
  conditional_sites false k site c x y s e h rest_x rest_y =
      let two = or_parts (holds_call x) (holds_call y) e in (
        quiet_sites ns (in_branch (after_condition s k c)) (k + names_in c + 1) (site + calls_in c) x two.0,
        quiet_sites ns (in_branch (after_branch (after_condition s k c) (before (k + names_in c + 1) x ++ set_to (k + names_in c) (left_of (k + names_in c + 1) x) ∷ []))) (k + names_in c + 1 + names_in x) (site + calls_in c + calls_in x) y two.1,
      )

  -- the places of what is left of a call's index and argument
  abbrev parts_places : ℕ → RawExprTree → RawExprTree → List ℕ
  parts_places k i e = expr_places is_call (index_left k i e) ++ expr_places is_call (argument_left k i e)

  mutual
    pub sites_stand : (k site : ℕ) (e : RawExprTree) (s : Spot) → IsPlain e → TreeHas tree s (before k e) → Occurs text site (expr_places is_call e) → SitesStand ns s k site e
    sites_stand k site (RawElement n i) s p h g = sites_stand k site i s p h g
    sites_stand k site (RawUnary op e) s p h g = sites_stand k site e s p h g
    sites_stand k site (RawParenthesized e) s p h g = sites_stand k site e s p h g
    sites_stand k site (RawBinary op l r) s p h g =
        let k1 = part_after k (holds_call r) l in
        let three = tree_three tree s (before k l) (part_named (is_named (holds_call r) l) (k + names_in l) (left_of k l)) (before k1 r) h in
        (sites_stand k site l s p.0 three.0 (occurs_first text site (expr_places is_call l) (expr_places is_call r) g), sites_stand k1 (site + calls_in l) r (after_part s k (holds_call r) l) p.1 three.2 (text_next site l (expr_places is_call r) g))
    sites_stand k site (RawLogicalAnd l r) s p h g =
        let n = k + names_in l in
        let ss = if holds_call r then decided n (left_of k l) (used n) (before (n + 1) r) (left_of (n + 1) r) else [] in (
          sites_stand k site l s p.0 (tree_both tree s (before k l) ss h).0 (occurs_first text site (expr_places is_call l) (expr_places is_call r) g),
          logical_sites (holds_call r) k site l r (used n) s refl tt h (λ there. sites_stand (n + 1) (site + calls_in l) r (in_branch (after_left s k l)) p.1 there (text_next site l (expr_places is_call r) g)),
        )
    sites_stand k site (RawLogicalOr l r) s p h g =
        let n = k + names_in l in
        let ss = if holds_call r then decided n (left_of k l) (is_false (used n)) (before (n + 1) r) (left_of (n + 1) r) else [] in (
          sites_stand k site l s p.0 (tree_both tree s (before k l) ss h).0 (occurs_first text site (expr_places is_call l) (expr_places is_call r) g),
          logical_sites (holds_call r) k site l r (is_false (used n)) s refl tt h (λ there. sites_stand (n + 1) (site + calls_in l) r (in_branch (after_left s k l)) p.1 there (text_next site l (expr_places is_call r) g)),
        )
    sites_stand k site (RawConditional c x y) s p h g =
        let n = k + names_in c in
        let m = n + 1 + names_in x in
        let first = before (n + 1) x ++ set_to n (left_of (n + 1) x) ∷ [] in
        let second = before m y ++ set_to n (left_of m y) ∷ [] in
        let ss = if holds_call x || holds_call y then declared n ∷ RawIfElse (left_of k c) (in_block first) (in_block second) ∷ [] else [] in
        let later = text_next site c (expr_places is_call x ++ expr_places is_call y) g in
        let two = conditional_sites (holds_call x || holds_call y) k site c x y s refl h (λ there. sites_stand (n + 1) (site + calls_in c) x (in_branch (after_condition s k c)) p.1 there (occurs_first text (site + calls_in c) (expr_places is_call x) (expr_places is_call y) later))
        (λ there. sites_stand m (site + calls_in c + calls_in x) y (in_branch (after_branch (after_condition s k c) first)) p.2 there (text_next (site + calls_in c) x (expr_places is_call y) later)) in
        (sites_stand k site c s p.0 (tree_both tree s (before k c) ss h).0 (occurs_first text site (expr_places is_call c) (expr_places is_call x ++ expr_places is_call y) g), two.0, two.1)
    sites_stand k site (RawCall n es) s p h g =
        let stays = is_spawn n in
        let two = tree_both tree s (arguments_before stays k es) (declared_as (k + arguments_names stays es) (call_left k n es) ∷ []) h in
        let t = after s (arguments_before stays k es) in (
          argument_sites_stand k (site + 1) stays es s p two.0 (occurs_second text site (n.at ∷ []) (exprs_places is_call es) g),
          call_number t.site site n.at (exprs_places is_call (arguments_left stays k es) ++ []) (exprs_places is_call es) two.1.occurs g,
        )
    sites_stand k site (RawTableCall n i e) s p h g =
        let k1 = part_after k (holds_call e) i in
        let named = part_named (is_named (holds_call e) i) (k + names_in i) (left_of k i) in
        let left = table_call_left k n i e in
        let two = tree_both tree s (table_before k i e) (declared_as (k1 + names_in e) left ∷ []) h in
        let three = tree_three tree s (before k i) named (before k1 e) two.0 in
        let later = occurs_second text site (n.at ∷ []) (expr_places is_call i ++ expr_places is_call e) g in (
          sites_stand k (site + 1) i s p.0 three.0 (occurs_first text (site + 1) (expr_places is_call i) (expr_places is_call e) later),
          sites_stand k1 (site + 1 + calls_in i) e (after_part s k (holds_call e) i) p.1 three.2 (text_next (site + 1) i (expr_places is_call e) later),
          ap (λ (t : Spot). number_at ns t.site) (sym (three_after s (before k i) named (before k1 e)))
              ∙ call_number (after s (table_before k i e)).site site n.at (parts_places k i e ++ []) (expr_places is_call i ++ expr_places is_call e) two.1.occurs g,
        )
    sites_stand k site _ s p h g = tt

    pub argument_sites_stand : (k site : ℕ) (stays : Bool) (es : RawExprTrees) (s : Spot) → ArePlain stays es → TreeHas tree s (arguments_before stays k es) → Occurs text site (exprs_places is_call es) → ArgumentSitesStand ns s k site stays es
    argument_sites_stand k site stays NoExprs s p h g = tt
    argument_sites_stand k site true (And e es) s p h g = argument_sites_stand k (site + calls_in e) false es s p.1 h (text_next site e (exprs_places is_call es) g)
    argument_sites_stand k site false (And e es) s p h g =
        let k1 = part_after k (hold_call es) e in
        let three = tree_three tree s (before k e) (part_named (is_named (hold_call es) e) (k + names_in e) (left_of k e)) (arguments_before false k1 es) h in (
          sites_stand k site e s p.0 three.0 (occurs_first text site (expr_places is_call e) (exprs_places is_call es) g),
          argument_sites_stand k1 (site + calls_in e) false es (after_part s k (hold_call es) e) p.1 three.2 (text_next site e (exprs_places is_call es) g),
        )

  -- of a right side, which stands at the place after what goes before it, where itself it is a call
  pub value_sites_stand : (k site : ℕ) (e : RawExprTree) (s : Spot) → IsPlain e → TreeHas tree s (value_before k e) → Occurs tree (after s (value_before k e)).site (expr_places is_call (value_left k e)) → Occurs text site (expr_places is_call e) → SitesStand ns s k site e
  value_sites_stand k site (RawCall n es) s p h own g =
      let stays = is_spawn n in (
        argument_sites_stand k (site + 1) stays es s p h (occurs_second text site (n.at ∷ []) (exprs_places is_call es) g),
        call_number (after s (arguments_before stays k es)).site site n.at (exprs_places is_call (arguments_left stays k es)) (exprs_places is_call es) own g,
      )
  value_sites_stand k site (RawTableCall n i e) s p h own g =
      let k1 = part_after k (holds_call e) i in
      let named = part_named (is_named (holds_call e) i) (k + names_in i) (left_of k i) in
      let three = tree_three tree s (before k i) named (before k1 e) h in
      let later = occurs_second text site (n.at ∷ []) (expr_places is_call i ++ expr_places is_call e) g in (
        sites_stand k (site + 1) i s p.0 three.0 (occurs_first text (site + 1) (expr_places is_call i) (expr_places is_call e) later),
        sites_stand k1 (site + 1 + calls_in i) e (after_part s k (holds_call e) i) p.1 three.2 (text_next (site + 1) i (expr_places is_call e) later),
        ap (λ (t : Spot). number_at ns t.site) (sym (three_after s (before k i) named (before k1 e)))
            ∙ call_number (after s (table_before k i e)).site site n.at (parts_places k i e) (expr_places is_call i ++ expr_places is_call e) own g,
      )
  value_sites_stand k site (RawNumber v) s p h own g = sites_stand k site (RawNumber v) s p h g
  value_sites_stand k site (RawName n) s p h own g = sites_stand k site (RawName n) s p h g
  value_sites_stand k site (RawElement n i) s p h own g = sites_stand k site (RawElement n i) s p h g
  value_sites_stand k site (RawUnary op e) s p h own g = sites_stand k site (RawUnary op e) s p h g
  value_sites_stand k site (RawParenthesized e) s p h own g = sites_stand k site (RawParenthesized e) s p h g
  value_sites_stand k site (RawBinary op l r) s p h own g = sites_stand k site (RawBinary op l r) s p h g
  value_sites_stand k site (RawLogicalAnd l r) s p h own g = sites_stand k site (RawLogicalAnd l r) s p h g
  value_sites_stand k site (RawLogicalOr l r) s p h own g = sites_stand k site (RawLogicalOr l r) s p h g
  value_sites_stand k site (RawConditional c x y) s p h own g = sites_stand k site (RawConditional c x y) s p h g

-- ---- the numbers of a rewritten source

stands_number : (ns : List ℕ) (j d k : ℕ) → StandsAt ns j k → slice_index_or ns j d ≡ k
stands_number [] j d k h = absurd h
stands_number (n ∷ ns) zero d k h = h
stands_number (n ∷ ns) (suc j) d k h = stands_number ns j d k h

pub same_numbers : (items : List RawItemTree) (end : ℕ) → AreItemsPlain items → RiseWithin 0 (items_places is_call items) end → (j k at : ℕ) → StandsAt (items_places is_call (items_hoisted items)) j at → StandsAt (items_places is_call items) k at →
    number_at (site_numbers (items_hoisted items)) j ≡ k
same_numbers items end plain rise j k at one two = stands_number (site_numbers (items_hoisted items)) j j k (numbers_kept items end at j k plain rise one two)
