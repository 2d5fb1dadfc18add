-- A block, or a statement with a body, that is resolved statement by statement is resolved as a whole.
use Rattle.scope_rules.proofs.Common.{ℕ, ◌≡◌, ◌≤◌, refl, sym, ap, subst, ◌∙◌, Bool, true, false, List, [], ◌∷◌, ◌++◌, append_assoc, append-nil, length, Option, nat_lt, option_map, RawExprTree, RawStmtTree, RawIfElse, raw_in_order, as_body, StmtTree, Block, If, IfElse, While, For, Fault, expr_faults, expr_of, least_of, kept_with, Making, with_statement, with_statements, stmts_list, opened, closed, switched, back, Spot, simples_of, simples_after, simple_of, simples_faults, inside, left, step_after, condition_faults, step_faults, stmt_of, stmt_after, stmts_after, stmt_faults, stmts_faults}
use Rattle.scope_rules.specs.Openings.{OpeningTree, OpenBlock, OpenIf, OpenWhile, OpenFor, ElseHead, whole, body, with_body, head_of, opening_faults, body_start, is_in_loop}
use Rattle.scope_rules.proofs.Least.{least_of_append}
use Rattle.scope_rules.proofs.NoFaults.{not_less}
use Rattle.scope_rules.proofs.Past.{within_before}
use Rattle.scope_rules.proofs.Scopes.{Extends, same_names, then_extends, simples_extends, step_extends, stmts_extends, names_left}
use Rattle.scope_rules.proofs.StmtLists.{stmts_listed}
use Rattle.scope_rules.proofs.Makings.{kept_below}

-- a definition so far, with another scope, least fault and list of statements
abbrev changed : Making → Spot → Option Fault → List StmtTree → Making
changed m s o ss = record m { sofar = record m.sofar { spot = s }; least = o; body = ss }

-- ---- statements one after another

abbrev kept_all : List StmtTree → Spot → List RawStmtTree → List StmtTree
kept_all b s [] = b
kept_all b s (t ∷ ts) = kept_all (kept_with (stmt_after s t).site b (stmt_of s t)) (stmt_after s t) ts

after_all : (m : Making) (ss : List RawStmtTree)
    → with_statements m ss ≡ changed m (stmts_after m.sofar.spot (raw_in_order ss)) (least_of m.least (stmts_faults m.gives m.loops m.sofar.spot (raw_in_order ss))) (kept_all m.body m.sofar.spot ss)
after_all m [] = refl
after_all m (t ∷ ts) =
    let s = m.sofar.spot in
    after_all (with_statement m t) ts
    ∙ ap (λ o. changed m (stmts_after (stmt_after s t) (raw_in_order ts)) o (kept_all (kept_with (stmt_after s t).site m.body (stmt_of s t)) (stmt_after s t) ts))
    (sym (least_of_append m.least (stmt_faults m.gives m.loops s t) (stmts_faults m.gives m.loops (stmt_after s t) (raw_in_order ts))))

all_kept : (b : List StmtTree) (s : Spot) (ss : List RawStmtTree) → (stmts_after s (raw_in_order ss)).site ≤ 65535 → kept_all b s ss ≡ b ++ stmts_list s ss
all_kept b s [] h = sym (append-nil b)
all_kept b s (t ∷ ts) h =
    let now = within_before (stmt_after s t) (raw_in_order ts) h in
    ap (λ x. kept_all x (stmt_after s t) ts) (kept_below (stmt_after s t).site b (stmt_of s t) now)
    ∙ (all_kept (b ++ stmt_of s t ∷ []) (stmt_after s t) ts h
    ∙ append_assoc b (stmt_of s t ∷ []) (stmts_list (stmt_after s t) ts))

-- what is kept of a statement is the same if it is the same within the limit
kept_same_by : (site : ℕ) (b : List StmtTree) (x y : StmtTree) (over : Bool) → over ≡ nat_lt 65535 site → (site ≤ 65535 → x ≡ y) → kept_with site b x ≡ kept_with site b y
kept_same_by site b x y true e h = rw (sym e) refl
kept_same_by site b x y false e h = ap (kept_with site b) (h (not_less 65535 site (sym e)))

kept_same : (site : ℕ) (b : List StmtTree) (x y : StmtTree) → (site ≤ 65535 → x ≡ y) → kept_with site b x ≡ kept_with site b y
kept_same site b x y h = kept_same_by site b x y (nat_lt 65535 site) refl h

-- ---- bodies

body_left : (s x : Spot) (ss : List RawStmtTree) → left s (stmt_after (inside x) (as_body ss)) ≡ left s (stmts_after (inside x) (raw_in_order ss))
body_left s x [] = refl
body_left s x (t ∷ []) = refl
body_left s x (t ∷ u ∷ ss) = refl

body_faults : (gives loops : Bool) (x : Spot) (ss : List RawStmtTree) → stmts_faults gives loops (inside x) (raw_in_order ss) ≡ stmt_faults gives loops (inside x) (as_body ss)
body_faults gives loops x (t ∷ []) = append-nil (stmt_faults gives loops (inside x) t)
body_faults gives loops x _ = refl

body_tree : (x : Spot) (ss : List RawStmtTree) → body (stmts_list (inside x) ss) ≡ stmt_of (inside x) (as_body ss)
body_tree x (t ∷ u ∷ ss) = ap Block (stmts_listed (inside x) (t ∷ u ∷ ss))
body_tree x _ = refl

back_left : (s e : Spot) (count outer : ℕ) → count ≡ length s.names → outer ≡ s.outer → Extends e.names s.names → back (record { outer = outer; count = count }) e ≡ left s e
back_left s e count outer c o h = let n = names_left s.names e.names count c h in λ k. record e { names = n k; outer = o k }

-- ---- a block, or a statement with one body

start_extends : (o : OpeningTree) (s : Spot) → Extends (body_start o s).names s.names
start_extends (OpenFor init c step) s =
    then_extends s.names (simples_after (inside s) init).names (step_after (simples_after (inside s) init) step).names (simples_extends (inside s) init) (step_extends (simples_after (inside s) init) step)
start_extends _ s = same_names s.names

module _ (s : Spot) (ss : List RawStmtTree) where
  whole_left : (o : OpeningTree) → left s (stmts_after (body_start o s) (raw_in_order ss)) ≡ stmt_after s (whole o ss)
  whole_left OpenBlock = refl
  whole_left (OpenFor init c step) = sym (body_left s (step_after (simples_after (inside s) init) step) ss)
  whole_left _ = sym (body_left s s ss)

  whole_faults : (o : OpeningTree) (gives loops : Bool)
      → opening_faults o s ++ stmts_faults gives (is_in_loop o loops) (body_start o s) (raw_in_order ss) ≡ stmt_faults gives loops s (whole o ss)
  whole_faults OpenBlock gives loops = refl
  whole_faults (OpenIf c) gives loops = ap (λ fs. expr_faults s.names c ++ fs) (body_faults gives loops s ss)
  whole_faults (OpenWhile c) gives loops = ap (λ fs. expr_faults s.names c ++ fs) (body_faults gives true s ss)
  whole_faults (OpenFor init c step) gives loops =
      let e = simples_after (inside s) init in
      let fi = simples_faults (inside s) init in
      let fc = condition_faults e.names c in
      let fp = step_faults e step in
      append_assoc fi (fc ++ fp) (stmts_faults gives true (inside (step_after e step)) (raw_in_order ss))
      ∙ (ap (λ fs. fi ++ fs) (append_assoc fc fp (stmts_faults gives true (inside (step_after e step)) (raw_in_order ss)))
      ∙ ap (λ fs. fi ++ (fc ++ (fp ++ fs))) (body_faults gives true (step_after e step) ss))

  whole_tree : (o : OpeningTree) → with_body (head_of o s) (stmts_list (body_start o s) ss) ≡ stmt_of s (whole o ss)
  whole_tree OpenBlock = ap Block (stmts_listed (inside s) ss)
  whole_tree (OpenIf c) = ap (If (expr_of s.names c)) (body_tree s ss)
  whole_tree (OpenWhile c) = ap (While (expr_of s.names c)) (body_tree s ss)
  whole_tree (OpenFor init c step) =
      let e = simples_after (inside s) init in
      ap (For (simples_of (inside s) init) (option_map (expr_of e.names) c) (option_map (simple_of e) step)) (body_tree (step_after e step) ss)

pub closed_whole : (o : OpeningTree) (m : Making) (ss : List RawStmtTree) → closed (with_statements (opened o m) ss) ≡ with_statement m (whole o ss)
closed_whole o m ss =
    let s = m.sofar.spot in
    let b = body_start o s in
    let e = stmts_after b (raw_in_order ss) in
    let kept = kept_all [] b ss in
    let ext : Extends e.names s.names = then_extends s.names b.names e.names (start_extends o s) (stmts_extends b (raw_in_order ss)) in
    let spot : back (record { outer = s.outer; count = length s.names }) e ≡ stmt_after s (whole o ss) = back_left s e (length s.names) s.outer refl refl ext ∙ whole_left s ss o in
    let least : least_of (least_of m.least (opening_faults o s)) (stmts_faults m.gives (is_in_loop o m.loops) b (raw_in_order ss)) ≡ least_of m.least (stmt_faults m.gives m.loops s (whole o ss)) =
    sym (least_of_append m.least (opening_faults o s) (stmts_faults m.gives (is_in_loop o m.loops) b (raw_in_order ss))) ∙ ap (least_of m.least) (whole_faults s ss o m.gives m.loops) in
    let tree : e.site ≤ 65535 → with_body (head_of o s) kept ≡ stmt_of s (whole o ss) = λ h. ap (with_body (head_of o s)) (all_kept [] b ss h) ∙ whole_tree s ss o in
    let list : kept_with e.site m.body (with_body (head_of o s) kept) ≡ kept_with (stmt_after s (whole o ss)).site m.body (stmt_of s (whole o ss)) =
    kept_same e.site m.body (with_body (head_of o s) kept) (stmt_of s (whole o ss)) tree ∙ (λ k. kept_with (spot k).site m.body (stmt_of s (whole o ss))) in
    ap closed (after_all (opened o m) ss) ∙ (λ k. changed m (spot k) (least k) (list k))

-- ---- an if with an else

module _ (c : RawExprTree) (m : Making) (ss ts : List RawStmtTree) where
  abbrev s : Spot
  s = m.sofar.spot

  abbrev first : Spot
  first = stmts_after (inside s) (raw_in_order ss)

  abbrev turn : Spot
  turn = inside (left s (stmt_after (inside s) (as_body ss)))

  abbrev last : Spot
  last = stmts_after turn (raw_in_order ts)

  abbrev statement : RawStmtTree
  statement = RawIfElse c (as_body ss) (as_body ts)

  first_extends : Extends first.names s.names
  first_extends = stmts_extends (inside s) (raw_in_order ss)

  turned : back (record { outer = s.outer; count = length s.names }) first ≡ left s (stmt_after (inside s) (as_body ss))
  turned = back_left s first (length s.names) s.outer refl refl first_extends ∙ sym (body_left s s ss)

  abbrev least_then : Option Fault
  least_then = least_of (least_of m.least (expr_faults s.names c)) (stmts_faults m.gives m.loops (inside s) (raw_in_order ss))

  faults_joined : (expr_faults s.names c ++ stmts_faults m.gives m.loops (inside s) (raw_in_order ss)) ++ stmts_faults m.gives m.loops turn (raw_in_order ts) ≡ stmt_faults m.gives m.loops s statement
  faults_joined =
      let fc = expr_faults s.names c in
      append_assoc fc (stmts_faults m.gives m.loops (inside s) (raw_in_order ss)) (stmts_faults m.gives m.loops turn (raw_in_order ts))
      ∙ (λ k. fc ++ (body_faults m.gives m.loops s ss k ++ body_faults m.gives m.loops (left s (stmt_after (inside s) (as_body ss))) ts k))

  abbrev elsed : Spot → StmtTree → Making
  elsed x b = record m {
    sofar = record m.sofar { spot = inside x };
    least = least_then;
    body = [];
    loops = m.loops;
    unfinished = record { head = ElseHead (expr_of s.names c) b; scope = record { outer = s.outer; count = length x.names }; loops = m.loops; before = m.body } ∷ m.unfinished;
  }

  abbrev then_list : List StmtTree
  then_list = kept_all [] (inside s) ss

  abbrev else_list : List StmtTree
  else_list = kept_all [] turn ts

  switched_there : switched (with_statements (opened (OpenIf c) m) ss) ≡ elsed (left s (stmt_after (inside s) (as_body ss))) (body then_list)
  switched_there = ap switched (after_all (opened (OpenIf c) m) ss) ∙ ap (λ x. elsed x (body then_list)) turned

  spot_after : back (record { outer = s.outer; count = length s.names }) last ≡ stmt_after s statement
  spot_after =
      back_left s last (length s.names) s.outer refl refl (stmts_extends turn (raw_in_order ts))
      ∙ sym (body_left s (left s (stmt_after (inside s) (as_body ss))) ts)

  least_after : least_of least_then (stmts_faults m.gives m.loops turn (raw_in_order ts)) ≡ least_of m.least (stmt_faults m.gives m.loops s statement)
  least_after =
      let fc = expr_faults s.names c in
      let fa = stmts_faults m.gives m.loops (inside s) (raw_in_order ss) in
      let fb = stmts_faults m.gives m.loops turn (raw_in_order ts) in
      ap (λ x. least_of x fb) (sym (least_of_append m.least fc fa)) ∙ (sym (least_of_append m.least (fc ++ fa) fb) ∙ ap (least_of m.least) faults_joined)

  tree_after : last.site ≤ 65535 → IfElse (expr_of s.names c) (body then_list) (body else_list) ≡ stmt_of s statement
  tree_after h =
      let before = within_before turn (raw_in_order ts) h in
      let there = subst (λ n. n ≤ 65535) (sym (ap (λ x. x.site) turned)) before in
      let one = ap body (all_kept [] (inside s) ss there) ∙ body_tree s ss in
      let two = ap body (all_kept [] turn ts h) ∙ body_tree (left s (stmt_after (inside s) (as_body ss))) ts in
      λ k. IfElse (expr_of s.names c) (one k) (two k)

  list_after : kept_with last.site m.body (IfElse (expr_of s.names c) (body then_list) (body else_list)) ≡ kept_with (stmt_after s statement).site m.body (stmt_of s statement)
  list_after =
      kept_same last.site m.body (IfElse (expr_of s.names c) (body then_list) (body else_list)) (stmt_of s statement) tree_after
      ∙ (λ k. kept_with (spot_after k).site m.body (stmt_of s statement))

  pub closed_else : closed (with_statements (switched (with_statements (opened (OpenIf c) m) ss)) ts) ≡ with_statement m (RawIfElse c (as_body ss) (as_body ts))
  closed_else =
      ap (λ x. closed (with_statements x ts)) switched_there
      ∙ (ap closed (after_all (elsed (left s (stmt_after (inside s) (as_body ss))) (body then_list)) ts)
      ∙ (λ k. changed m (spot_after k) (least_after k) (list_after k)))
