-- Where the rewritten expressions break no rule of scope, no call stands in the first argument of a `spawn`: such an argument became the
-- number 0, which is no function's name.
use Rattle.hoist_meaning.proofs.Common.{ℕ, ◌+◌, ◌≡◌, refl, sym, ap, ◌∙◌, inl, inr, ◌⊎◌, ⊎_elim, Bool, true, false, ◌||◌, List, [], ◌∷◌, ◌++◌, codes, length, if◌then◌else◌, bytes_eq-Decides, NameTree, RawExprTree, RawExprTrees, RawNumber, RawElement, RawUnary, RawParenthesized, RawBinary, RawLogicalAnd, RawLogicalOr, RawConditional, RawCall, RawTableCall, NoExprs, And, RawStmtTree, RawIf, RawIfElse, raw_in_order, HasNoCall, Binding, find, callee_of, expr_faults, exprs_faults, listed, call_name_faults, spawned_faults, arguments_faults, call_faults, right_faults, Spot, declare_faults, inside, left, stmt_after, stmt_faults, both_none, new_name, used, declared, declared_as, set_to, holds_call, hold_call, is_named, is_spawn, names_in, arguments_names, part_after, part_named, spawned_left, left_of, arguments_left, call_left, table_call_left, is_true, is_false, in_block, decided, before, arguments_before, or_left, or_right, not_held, IsPlain, ArePlain}
use Rattle.scope_rules.specs.declared.meanings.Callee.{Callee}
use Rattle.hoist_meaning.proofs.KnownSpawn.{KnowsSpawn, stmt_knows, stmts_know, AreFine, after_all, both_fine, one_fine, SomewhereFine}

-- ---- the first argument of a call

abbrev pub IsFirstPlain : Bool → RawExprTrees → Type 0
IsFirstPlain true (And e es) = holds_call e ≡ false
IsFirstPlain _ _ = Unit {0}

-- no later argument is one
pub later : (es : RawExprTrees) → IsFirstPlain false es
later NoExprs = tt
later (And e es) = tt

not_spawned : (v : Bool) (names : List Binding) (at : ℕ) (e : RawExprTree) → spawned_faults names at (if v then RawNumber 0 else e) ≡ [] → v ≡ false
not_spawned true names at e h = cc
not_spawned false names at e h = refl

pub first_plain : (stays used : Bool) (names : List Binding) (n : NameTree) (k : ℕ) (es : RawExprTrees) → is_spawn n ≡ stays → KnowsSpawn names → call_faults used names n (listed (arguments_left stays k es)) ≡ [] → IsFirstPlain stays es
first_plain true used names n k (And e es) same known h =
    let rest = listed (arguments_left false k es) in
    let all = spawned_left e ∷ rest in
    let text : n.text ≡ codes "spawn" = (bytes_eq-Decides n.text (codes "spawn")).0 same in
    let callee : callee_of (find n.text names) ≡ Callee.Spawn = ap (λ t. callee_of (find t names)) text ∙ ap callee_of known.1 in
    let arguments : arguments_faults (callee_of (find n.text names)) names n.at all ≡ [] =
    (both_none (call_name_faults used (find n.text names) n.at (length all)) (arguments_faults (callee_of (find n.text names)) names n.at all) h).1 in
    let spawned : arguments_faults Callee.Spawn names n.at all ≡ [] = sym (ap (λ c. arguments_faults c names n.at all) callee) ∙ arguments in
    not_spawned (holds_call e) names n.at e (both_none (spawned_faults names n.at (spawned_left e)) (exprs_faults names rest) spawned).0
first_plain _ used names n k _ same known h = tt

-- ---- no call at all

pub no_call_plain : (e : RawExprTree) → HasNoCall e → IsPlain e
no_call_plain (RawElement n i) h = no_call_plain i h
no_call_plain (RawUnary op e) h = no_call_plain e h
no_call_plain (RawParenthesized e) h = no_call_plain e h
no_call_plain (RawBinary op l r) h = (no_call_plain l h.0, no_call_plain r h.1)
no_call_plain (RawLogicalAnd l r) h = (no_call_plain l h.0, no_call_plain r h.1)
no_call_plain (RawLogicalOr l r) h = (no_call_plain l h.0, no_call_plain r h.1)
no_call_plain (RawConditional c a b) h = (no_call_plain c h.0, no_call_plain a h.1, no_call_plain b h.2)
no_call_plain (RawCall n es) h = absurd h
no_call_plain (RawTableCall n i e) h = absurd h
no_call_plain _ h = tt

-- ---- what goes before an expression

-- a part, which may be named, and then more
pub part_fine : (gives loop : Bool) (s : Spot) (xs named ss : List RawStmtTree) → KnowsSpawn s.names → AreFine gives loop s (xs ++ named ++ ss) → AreFine gives loop s xs × SomewhereFine gives loop ss
part_fine gives loop s xs named ss known h =
    let a = both_fine gives loop s (xs ++ named) ss h in
    let b = both_fine gives loop s xs named a.0 in
    (b.0, (after_all s (xs ++ named), stmts_know s (raw_in_order (xs ++ named)) known, a.1))

-- the right operand of `&&` or `||` in its block
decided_fine : (gives loop : Bool) (s : Spot) (n : ℕ) (l d : RawExprTree) (ss : List RawStmtTree) (r : RawExprTree) → KnowsSpawn s.names → AreFine gives loop s (decided n l d ss r) → SomewhereFine gives loop ss
decided_fine gives loop s n l d ss r known h =
    let one = declared_as n (is_true l) in
    let last = set_to n (is_true r) ∷ [] in
    let two = RawIf d (in_block (ss ++ last)) in
    let t = stmt_after s one in
    let a = both_fine gives loop s (one ∷ []) (two ∷ []) h in
    let b = both_none (expr_faults t.names d) (stmt_faults gives loop (inside t) (in_block (ss ++ last))) (one_fine gives loop t two a.1) in
    (inside (inside t), stmt_knows s one known, (both_fine gives loop (inside (inside t)) ss last b.1).0)

logical_fine : (v gives loop : Bool) (s : Spot) (n : ℕ) (l d : RawExprTree) (ss : List RawStmtTree) (r : RawExprTree) → holds_call r ≡ v → KnowsSpawn s.names →
    AreFine gives loop s (if v then decided n l d ss (left_of (n + 1) r) else []) → (holds_call r ≡ false) ⊎ SomewhereFine gives loop ss
logical_fine true gives loop s n l d ss r e known h = inr (decided_fine gives loop s n l d ss (left_of (n + 1) r) known h)
logical_fine false gives loop s n l d ss r e known h = inl e

-- both parts of `?:` in theirs
chosen_fine : (v gives loop : Bool) (s : Spot) (n : ℕ) (c : RawExprTree) (xs : List RawStmtTree) (a : RawExprTree) (ys : List RawStmtTree) (b : RawExprTree) (held : Bool) → held ≡ v → KnowsSpawn s.names →
    AreFine gives loop s (if v then declared n ∷ RawIfElse c (in_block (xs ++ set_to n a ∷ [])) (in_block (ys ++ set_to n b ∷ [])) ∷ [] else []) → (held ≡ false) ⊎ (SomewhereFine gives loop xs × SomewhereFine gives loop ys)
chosen_fine true gives loop s n c xs a ys b held e known h =
    let one = in_block (xs ++ set_to n a ∷ []) in
    let other = in_block (ys ++ set_to n b ∷ []) in
    let t = stmt_after s (declared n) in
    let u = left t (stmt_after (inside t) one) in
    let knows = stmt_knows s (declared n) known in
    let x = both_fine gives loop s (declared n ∷ []) (RawIfElse c one other ∷ []) h in
    let y = both_none (expr_faults t.names c) (stmt_faults gives loop (inside t) one ++ stmt_faults gives loop (inside u) other) (one_fine gives loop t (RawIfElse c one other) x.1) in
    let z = both_none (stmt_faults gives loop (inside t) one) (stmt_faults gives loop (inside u) other) y.1 in
    inr ((inside (inside t), knows, (both_fine gives loop (inside (inside t)) xs (set_to n a ∷ []) z.0).0), (inside (inside u), knows, (both_fine gives loop (inside (inside u)) ys (set_to n b ∷ []) z.1).0))
chosen_fine false gives loop s n c xs a ys b held e known h = inl e

-- the declaration of a call's result
declared_fine : (gives loop : Bool) (t : Spot) (m : ℕ) (e : RawExprTree) → AreFine gives loop t (declared_as m e ∷ []) → right_faults t.names e ≡ []
declared_fine gives loop t m e h = (both_none (declare_faults t (new_name m)) (right_faults t.names e) (one_fine gives loop t (declared_as m e) h)).1

mutual
  pub plain : (gives loop : Bool) (s : Spot) (k : ℕ) (e : RawExprTree) → KnowsSpawn s.names → AreFine gives loop s (before k e) → IsPlain e
  plain gives loop s k (RawElement n i) known h = plain gives loop s k i known h
  plain gives loop s k (RawUnary op e) known h = plain gives loop s k e known h
  plain gives loop s k (RawParenthesized e) known h = plain gives loop s k e known h
  plain gives loop s k (RawBinary op l r) known h =
      let m = part_after k (holds_call r) l in
      let a = part_fine gives loop s (before k l) (part_named (is_named (holds_call r) l) (k + names_in l) (left_of k l)) (before m r) known h in
      (plain gives loop s k l known a.0, plain gives loop a.1.0 m r a.1.1 a.1.2)
  plain gives loop s k (RawLogicalAnd l r) known h =
      let n = k + names_in l in
      let ss = decided n (left_of k l) (used n) (before (n + 1) r) (left_of (n + 1) r) in
      let a = both_fine gives loop s (before k l) (if holds_call r then ss else []) h in
      let b = logical_fine (holds_call r) gives loop (after_all s (before k l)) n (left_of k l) (used n) (before (n + 1) r) r refl (stmts_know s (raw_in_order (before k l)) known) a.1 in
      (plain gives loop s k l known a.0, ⊎_elim (λ (e : holds_call r ≡ false). no_call_plain r (not_held r e)) (λ (f : SomewhereFine gives loop (before (n + 1) r)). plain gives loop f.0 (n + 1) r f.1 f.2) b)
  plain gives loop s k (RawLogicalOr l r) known h =
      let n = k + names_in l in
      let ss = decided n (left_of k l) (is_false (used n)) (before (n + 1) r) (left_of (n + 1) r) in
      let a = both_fine gives loop s (before k l) (if holds_call r then ss else []) h in
      let b = logical_fine (holds_call r) gives loop (after_all s (before k l)) n (left_of k l) (is_false (used n)) (before (n + 1) r) r refl (stmts_know s (raw_in_order (before k l)) known) a.1 in
      (plain gives loop s k l known a.0, ⊎_elim (λ (e : holds_call r ≡ false). no_call_plain r (not_held r e)) (λ (f : SomewhereFine gives loop (before (n + 1) r)). plain gives loop f.0 (n + 1) r f.1 f.2) b)
  plain gives loop s k (RawConditional c a b) known h =
      let n = k + names_in c in
      let o = k + names_in c + 1 + names_in a in
      let xs = before (n + 1) a in
      let ys = before o b in
      let ss : List RawStmtTree = declared n ∷ RawIfElse (left_of k c) (in_block (xs ++ set_to n (left_of (n + 1) a) ∷ [])) (in_block (ys ++ set_to n (left_of o b) ∷ [])) ∷ [] in
      let x = both_fine gives loop s (before k c) (if holds_call a || holds_call b then ss else []) h in
      let y = chosen_fine (holds_call a || holds_call b) gives loop (after_all s (before k c)) n (left_of k c) xs (left_of (n + 1) a) ys (left_of o b) (holds_call a || holds_call b) refl (stmts_know s (raw_in_order (before k c)) known) x.1 in
      let both : IsPlain a × IsPlain b =
      ⊎_elim (λ (e : (holds_call a || holds_call b) ≡ false). (no_call_plain a (not_held a (or_left (holds_call a) (holds_call b) e)), no_call_plain b (not_held b (or_right (holds_call a) (holds_call b) e))))
      (λ (f : SomewhereFine gives loop xs × SomewhereFine gives loop ys). (plain gives loop f.0.0 (n + 1) a f.0.1 f.0.2, plain gives loop f.1.0 o b f.1.1 f.1.2)) y in
      (plain gives loop s k c known x.0, both.0, both.1)
  plain gives loop s k (RawCall n es) known h =
      let m = k + arguments_names (is_spawn n) es in
      let xs = arguments_before (is_spawn n) k es in
      let t = after_all s xs in
      let a = both_fine gives loop s xs (declared_as m (call_left k n es) ∷ []) h in
      let f = declared_fine gives loop t m (call_left k n es) a.1 in
      arguments_plain gives loop s k (is_spawn n) es known a.0 (first_plain (is_spawn n) true t.names n k es refl (stmts_know s (raw_in_order xs) known) f)
  plain gives loop s k (RawTableCall n i e) known h =
      let m = part_after k (holds_call e) i in
      let named = part_named (is_named (holds_call e) i) (k + names_in i) (left_of k i) in
      let a = both_fine gives loop s (before k i ++ named ++ before m e) (declared_as (m + names_in e) (table_call_left k n i e) ∷ []) h in
      let b = part_fine gives loop s (before k i) named (before m e) known a.0 in
      (plain gives loop s k i known b.0, plain gives loop b.1.0 m e b.1.1 b.1.2)
  plain gives loop s k _ known h = tt

  pub arguments_plain : (gives loop : Bool) (s : Spot) (k : ℕ) (stays : Bool) (es : RawExprTrees) → KnowsSpawn s.names → AreFine gives loop s (arguments_before stays k es) → IsFirstPlain stays es → ArePlain stays es
  arguments_plain gives loop s k stays NoExprs known h first = tt
  arguments_plain gives loop s k true (And e es) known h first = (first, arguments_plain gives loop s k false es known h (later es))
  arguments_plain gives loop s k false (And e es) known h first =
      let m = part_after k (hold_call es) e in
      let a = part_fine gives loop s (before k e) (part_named (is_named (hold_call es) e) (k + names_in e) (left_of k e)) (arguments_before false m es) known h in
      (plain gives loop s k e known a.0, arguments_plain gives loop a.1.0 m false es a.1.1 a.1.2 (later es))
