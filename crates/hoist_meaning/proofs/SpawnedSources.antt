-- The same of statements and sources: where a rewritten source breaks no rule of scope, no call of the text stands in the first argument
-- of a `spawn`.
use Rattle.hoist_meaning.proofs.Common.{ℕ, ◌+◌, ◌≡◌, refl, ◌∙◌, Bool, true, false, not, List, [], ◌∷◌, ◌++◌, append-nil, Option, Some, None, length, if◌then◌else◌, RawExprTree, RawCall, RawTableCall, RawSimpleTree, RawDeclareWith, RawSet, RawSetElement, RawCalling, RawTableCalling, RawStmtTree, RawStmtTrees, RawDo, RawBlock, RawIf, RawIfElse, RawWhile, RawFor, RawBreak, RawReturn, NoRawStmts, RawThen, RawItemTree, RawGlobal, RawGlobalArray, RawTableItem, RawPrototypeItem, RawFunctionItem, raw_in_order, as_body, Rule, Binding, find, broken, scalar_faults, array_faults, expr_faults, right_faults, Spot, declare_faults, simple_faults, simples_faults, simples_after, inside, left, condition_faults, step_faults, step_after, stmt_after, stmt_faults, stmts_faults, Sofar, definitions, at_start, function_faults, main_faults, params_faults, params_spot, body_spot, item_faults, item_after, items_faults, faults_of, both_none, holds_call, holds_nested, is_named, is_spawn, names_in, part_after, part_or, part_named, left_of, is_false, in_block, before, value_left, value_before, simple_left, simple_before, returned_left, returned_before, while_calling, stmt_names, hoisted, all_hoisted, item_hoisted, items_hoisted, not_held, IsPlain, IsSimplePlain, IsOptionPlain, IsStmtPlain, AreStmtsPlain, IsItemPlain, AreItemsPlain}
use Rattle.hoist_meaning.proofs.KnownSpawn.{KnowsSpawn, bound_knows, simples_know, step_knows, stmt_knows, stmts_know, params_know, AreFine, after_all, both_fine, one_fine, SomewhereFine}
use Rattle.hoist_meaning.proofs.SpawnedNames.{first_plain, no_call_plain, part_fine, plain, arguments_plain}

value_plain : (gives loop : Bool) (s t : Spot) (k : ℕ) (v : RawExprTree) → KnowsSpawn s.names → KnowsSpawn t.names → AreFine gives loop s (value_before k v) → right_faults t.names (value_left k v) ≡ [] → IsPlain v
value_plain gives loop s t k (RawCall n es) known there h f = arguments_plain gives loop s k (is_spawn n) es known h (first_plain (is_spawn n) true t.names n k es refl there f)
value_plain gives loop s t k (RawTableCall n i e) known there h f =
    let m = part_after k (holds_call e) i in
    let a = part_fine gives loop s (before k i) (part_named (is_named (holds_call e) i) (k + names_in i) (left_of k i)) (before m e) known h in
    (plain gives loop s k i known a.0, plain gives loop a.1.0 m e a.1.1 a.1.2)
value_plain gives loop s t k v known there h f = plain gives loop s k v known h

simple_plain : (gives loop : Bool) (s t : Spot) (k : ℕ) (p : RawSimpleTree) → KnowsSpawn s.names → KnowsSpawn t.names → AreFine gives loop s (simple_before k p) → simple_faults t (simple_left k p) ≡ [] → IsSimplePlain p
simple_plain gives loop s t k (RawDeclareWith n v) known there h f = value_plain gives loop s t k v known there h (both_none (declare_faults t n) (right_faults t.names (value_left k v)) f).1
simple_plain gives loop s t k (RawSet n v) known there h f = value_plain gives loop s t k v known there h (both_none (scalar_faults t.names n) (right_faults t.names (value_left k v)) f).1
simple_plain gives loop s t k (RawSetElement n i v) known there h f =
    let m = part_after k (holds_nested v) i in
    let index = part_or (is_named (holds_nested v) i) (k + names_in i) (left_of k i) in
    let a = part_fine gives loop s (before k i) (part_named (is_named (holds_nested v) i) (k + names_in i) (left_of k i)) (value_before m v) known h in
    let x = both_none (array_faults t.names n) (expr_faults t.names index ++ right_faults t.names (value_left m v)) f in
    let y = both_none (expr_faults t.names index) (right_faults t.names (value_left m v)) x.1 in
    (plain gives loop s k i known a.0, value_plain gives loop a.1.0 t m v a.1.1 there a.1.2 y.1)
simple_plain gives loop s t k (RawCalling n es) known there h f = arguments_plain gives loop s k (is_spawn n) es known h (first_plain (is_spawn n) false t.names n k es refl there f)
simple_plain gives loop s t k (RawTableCalling n i e) known there h f =
    let m = part_after k (holds_call e) i in
    let a = part_fine gives loop s (before k i) (part_named (is_named (holds_call e) i) (k + names_in i) (left_of k i)) (before m e) known h in
    (plain gives loop s k i known a.0, plain gives loop a.1.0 m e a.1.1 a.1.2)
simple_plain gives loop s t k _ known there h f = tt

-- statements as a body
body_fine : (gives loop : Bool) (s : Spot) (ss : List RawStmtTree) → KnowsSpawn s.names → stmt_faults gives loop s (as_body ss) ≡ [] → SomewhereFine gives loop ss
body_fine gives loop s [] known h = (s, known, refl)
body_fine gives loop s (p ∷ []) known h = (s, known, append-nil (stmt_faults gives loop s p) ∙ h)
body_fine gives loop s (p ∷ q ∷ ss) known h = (inside s, known, h)

-- a `while` of either form: its condition, and its body, whose new names begin at some number
while_plain : (v gives loop : Bool) (s : Spot) (k : ℕ) (c : RawExprTree) (p : RawStmtTree) → holds_call c ≡ v → KnowsSpawn s.names →
    stmt_faults gives loop s (if v then while_calling k c (as_body (hoisted (k + names_in c) p)) else RawWhile c (as_body (hoisted k p))) ≡ [] → IsPlain c × ((m : ℕ) × SomewhereFine gives true (hoisted m p))
while_plain true gives loop s k c p e known h =
    let body = as_body (hoisted (k + names_in c) p) in
    let ends = RawIf (is_false (left_of k c)) (RawBreak 0) in
    let t = inside (inside s) in
    let u = after_all t (before k c) in
    let w = stmt_after u ends in
    let knows = stmts_know t (raw_in_order (before k c)) known in
    let a = both_fine gives true t (before k c) (ends ∷ body ∷ []) h in
    let b = both_fine gives true u (ends ∷ []) (body ∷ []) a.1 in
    (plain gives true t k c known a.0, (k + names_in c, body_fine gives true w (hoisted (k + names_in c) p) (stmt_knows u ends knows) (one_fine gives true w body b.1)))
while_plain false gives loop s k c p e known h =
    let a = both_none (expr_faults s.names c) (stmt_faults gives true (inside s) (as_body (hoisted k p))) h in
    (no_call_plain c (not_held c e), (k, body_fine gives true (inside s) (hoisted k p) known a.1))

returned_plain : (gives loop : Bool) (s : Spot) (k at : ℕ) (v : Option RawExprTree) → KnowsSpawn s.names → AreFine gives loop s (returned_before k v ++ RawReturn at (returned_left k v) ∷ []) → IsOptionPlain v
returned_plain gives loop s k at None known h = tt
returned_plain gives loop s k at (Some v) known h =
    let xs = value_before k v in
    let t = after_all s xs in
    let a = both_fine gives loop s xs (RawReturn at (Some (value_left k v)) ∷ []) h in
    let f = both_none (broken (not gives) at Rule.Kind) (right_faults t.names (value_left k v)) (one_fine gives loop t (RawReturn at (Some (value_left k v))) a.1) in
    value_plain gives loop s t k v known (stmts_know s (raw_in_order xs) known) a.0 f.1

mutual
  stmt_plain : (gives loop : Bool) (s : Spot) (k : ℕ) (p : RawStmtTree) → KnowsSpawn s.names → AreFine gives loop s (hoisted k p) → IsStmtPlain p
  stmt_plain gives loop s k (RawDo p) known h =
      let xs = simple_before k p in
      let t = after_all s xs in
      let a = both_fine gives loop s xs (RawDo (simple_left k p) ∷ []) h in
      simple_plain gives loop s t k p known (stmts_know s (raw_in_order xs) known) a.0 (one_fine gives loop t (RawDo (simple_left k p)) a.1)
  stmt_plain gives loop s k (RawBlock ss) known h = all_plain gives loop (inside s) k ss known (one_fine gives loop s (in_block (all_hoisted k ss)) h)
  stmt_plain gives loop s k (RawIf c p) known h =
      let ps = hoisted (k + names_in c) p in
      let t = after_all s (before k c) in
      let knows = stmts_know s (raw_in_order (before k c)) known in
      let a = both_fine gives loop s (before k c) (RawIf (left_of k c) (as_body ps) ∷ []) h in
      let b = both_none (expr_faults t.names (left_of k c)) (stmt_faults gives loop (inside t) (as_body ps)) (one_fine gives loop t (RawIf (left_of k c) (as_body ps)) a.1) in
      let f = body_fine gives loop (inside t) ps knows b.1 in
      (plain gives loop s k c known a.0, stmt_plain gives loop f.0 (k + names_in c) p f.1 f.2)
  stmt_plain gives loop s k (RawIfElse c p r) known h =
      let m = k + names_in c + stmt_names p in
      let ps = hoisted (k + names_in c) p in
      let rs = hoisted m r in
      let t = after_all s (before k c) in
      let u = left t (stmt_after (inside t) (as_body ps)) in
      let knows = stmts_know s (raw_in_order (before k c)) known in
      let one = stmt_faults gives loop (inside t) (as_body ps) in
      let other = stmt_faults gives loop (inside u) (as_body rs) in
      let a = both_fine gives loop s (before k c) (RawIfElse (left_of k c) (as_body ps) (as_body rs) ∷ []) h in
      let b = both_none (expr_faults t.names (left_of k c)) (one ++ other) (one_fine gives loop t (RawIfElse (left_of k c) (as_body ps) (as_body rs)) a.1) in
      let d = both_none one other b.1 in
      let f = body_fine gives loop (inside t) ps knows d.0 in
      let g = body_fine gives loop (inside u) rs knows d.1 in
      (plain gives loop s k c known a.0, stmt_plain gives loop f.0 (k + names_in c) p f.1 f.2, stmt_plain gives loop g.0 m r g.1 g.2)
  stmt_plain gives loop s k (RawWhile c p) known h =
      let both = if holds_call c then while_calling k c (as_body (hoisted (k + names_in c) p)) else RawWhile c (as_body (hoisted k p)) in
      let a = while_plain (holds_call c) gives loop s k c p refl known (one_fine gives loop s both h) in
      (a.0, stmt_plain gives true a.1.1.0 a.1.0 p a.1.1.1 a.1.1.2)
  stmt_plain gives loop s k (RawFor init c step p) known h =
      let body = as_body (hoisted k p) in
      let t = simples_after (inside s) init in
      let u = step_after t step in
      let x = condition_faults t.names c in
      let y = step_faults t step in
      let z = stmt_faults gives true (inside u) body in
      let a = both_none (simples_faults (inside s) init) (x ++ (y ++ z)) (one_fine gives loop s (RawFor init c step body) h) in
      let b = both_none x (y ++ z) a.1 in
      let d = both_none y z b.1 in
      let f = body_fine gives true (inside u) (hoisted k p) (step_knows t step (simples_know (inside s) init known)) d.1 in
      stmt_plain gives true f.0 k p f.1 f.2
  stmt_plain gives loop s k (RawReturn at v) known h = returned_plain gives loop s k at v known h
  stmt_plain gives loop s k _ known h = tt

  all_plain : (gives loop : Bool) (s : Spot) (k : ℕ) (ss : RawStmtTrees) → KnowsSpawn s.names → AreFine gives loop s (all_hoisted k ss) → AreStmtsPlain ss
  all_plain gives loop s k NoRawStmts known h = tt
  all_plain gives loop s k (RawThen p ss) known h =
      let a = both_fine gives loop s (hoisted k p) (all_hoisted (k + stmt_names p) ss) h in
      (stmt_plain gives loop s k p known a.0, all_plain gives loop (after_all s (hoisted k p)) (k + stmt_names p) ss (stmts_know s (raw_in_order (hoisted k p)) known) a.1)

-- ---- items

item_plain : (defs : List Binding) (w : Sofar) (i : RawItemTree) → KnowsSpawn w.spot.names → item_faults defs w (item_hoisted i) ≡ [] → IsItemPlain i
item_plain defs w (RawFunctionItem gives n params body) known h =
    let first = params_spot defs w.spot gives n params in
    let at = body_spot defs w.spot gives n params in
    let x = function_faults true gives (length params) n.at (find n.text w.spot.names) in
    let y = main_faults n (length params) in
    let z = params_faults first params in
    let f = stmts_faults gives false at (raw_in_order (all_hoisted 0 body)) in
    let a = both_none x (y ++ (z ++ f)) h in
    let b = both_none y (z ++ f) a.1 in
    let d = both_none z f b.1 in
    all_plain gives false at 0 body (params_know first params (bound_knows w.spot.names n.text _ known)) d.1
item_plain defs w _ known h = tt

item_knows : (defs : List Binding) (w : Sofar) (i : RawItemTree) → KnowsSpawn w.spot.names → KnowsSpawn (item_after defs w i).spot.names
item_knows defs w (RawGlobal n start) known = bound_knows w.spot.names n.text _ known
item_knows defs w (RawGlobalArray n size) known = bound_knows w.spot.names n.text _ known
item_knows defs w (RawTableItem n size members) known = bound_knows w.spot.names n.text _ known
item_knows defs w (RawPrototypeItem gives n params) known = bound_knows w.spot.names n.text _ known
item_knows defs w (RawFunctionItem gives n params body) known = bound_knows w.spot.names n.text _ known

all_items_plain : (defs : List Binding) (w : Sofar) (is : List RawItemTree) → KnowsSpawn w.spot.names → items_faults defs w (items_hoisted is) ≡ [] → AreItemsPlain is
all_items_plain defs w [] known h = tt
all_items_plain defs w (i ∷ is) known h =
    let next = item_after defs w (item_hoisted i) in
    let a = both_none (item_faults defs w (item_hoisted i)) (items_faults defs next (items_hoisted is)) h in
    (item_plain defs w i known a.0, all_items_plain defs next is (item_knows defs w (item_hoisted i) known) a.1)

-- a source whose rewritten tree breaks no rule of scope
pub scoped_plain : (is : List RawItemTree) → faults_of (items_hoisted is) ≡ [] → AreItemsPlain is
scoped_plain is h = all_items_plain (definitions (items_hoisted is)) at_start is (9, refl) h
