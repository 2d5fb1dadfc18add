-- A definition that is resolved statement by statement: one more statement, and its end.
use Rattle.scope_rules.proofs.Common.{ℕ, ◌≡◌, ◌≤◌, ◌-◌, refl, sym, ap, subst, ◌∙◌, Bool, true, false, List, [], ◌∷◌, ◌++◌, append_assoc, append-nil, length, length-append, drop, map, sum, max, None, arith, NameTree, RawStmtTree, RawItemTree, RawFunctionItem, raw_in_order, StmtTree, FunctionTree, stmts_names, in_order, function_tree, table_row, capped, Items, Binding, least_of, most_locals, Spot, spot_of, stmt_of, stmt_after, stmt_faults, stmts_of, stmts_after, stmts_faults, Sofar, definitions, at_start, item_after, item_faults, items_faults, with_function, function_tree_of, sofar_of, IsCounted, Making, IsMaking, with_statement, with_statements, stmts_list, items_read, body_start, head_faults, kept_with, Agrees, HaveRead}
use Rattle.scope_rules.proofs.Agreeing.{few_sites}
use Rattle.scope_rules.proofs.Counted.{counted_more, body_words}
use Rattle.scope_rules.proofs.FunctionScopes.{spot_ended, faults_joined}
use Rattle.scope_rules.proofs.Growth.{stmt_grown, stmts_grown, words}
use Rattle.scope_rules.proofs.Least.{least_of_append}
use Rattle.scope_rules.proofs.LeastFaults.{is_not_less}
use Rattle.scope_rules.proofs.Programs.{body_site}
use Rattle.scope_rules.proofs.ReadItems.{after_one_more, faults_of_one_more}
use Rattle.scope_rules.proofs.StmtLists.{stmts_listed}

-- ---- statements and one more

after_last : (s : Spot) (ss : List RawStmtTree) (t : RawStmtTree) → stmts_after s (raw_in_order (ss ++ t ∷ [])) ≡ stmt_after (stmts_after s (raw_in_order ss)) t
after_last s [] t = refl
after_last s (x ∷ ss) t = after_last (stmt_after s x) ss t

faults_last : (gives loops : Bool) (s : Spot) (ss : List RawStmtTree) (t : RawStmtTree)
    → stmts_faults gives loops s (raw_in_order (ss ++ t ∷ [])) ≡ stmts_faults gives loops s (raw_in_order ss) ++ stmt_faults gives loops (stmts_after s (raw_in_order ss)) t
faults_last gives loops s [] t = append-nil (stmt_faults gives loops s t)
faults_last gives loops s (x ∷ ss) t =
    ap (λ fs. stmt_faults gives loops s x ++ fs) (faults_last gives loops (stmt_after s x) ss t)
    ∙ sym (append_assoc (stmt_faults gives loops s x) (stmts_faults gives loops (stmt_after s x) (raw_in_order ss)) (stmt_faults gives loops (stmts_after (stmt_after s x) (raw_in_order ss)) t))

list_last : (s : Spot) (ss : List RawStmtTree) (t : RawStmtTree) → stmts_list s (ss ++ t ∷ []) ≡ stmts_list s ss ++ stmt_of (stmts_after s (raw_in_order ss)) t ∷ []
list_last s [] t = refl
list_last s (x ∷ ss) t = ap (λ ys. stmt_of s x ∷ ys) (list_last (stmt_after s x) ss t)

pub kept_below : (site : ℕ) (ss : List StmtTree) (s : StmtTree) → site ≤ 65535 → kept_with site ss s ≡ ss ++ s ∷ []
kept_below site ss s h = rw (sym (is_not_less 65535 site h)) refl

few_in_body : (all read : List RawItemTree) (gives : Bool) (n : NameTree) (params : List NameTree) (ss : List RawStmtTree)
    → (stmts_after (body_start all read gives n params) (raw_in_order ss)).site ≤ 65537
few_in_body all read gives n params ss =
    let b = body_start all read gives n params in
    let same = body_site (definitions all) (items_read all read).spot gives n params in
    let few = few_sites all read in
    let low : b.site ≤ 65537 = omega (arith, same, few) in
    let grown = (stmts_grown b (raw_in_order ss)).site low in
    omega (arith, grown)

-- a body is within the limit of calls only if the items before it are
body_few : (all read : List RawItemTree) (gives : Bool) (n : NameTree) (params : List NameTree) (ss : List RawStmtTree)
    → (stmts_after (body_start all read gives n params) (raw_in_order ss)).site ≤ 65535 → (items_read all read).spot.site ≤ 65535
body_few all read gives n params ss h =
    let b = body_start all read gives n params in
    let same = body_site (definitions all) (items_read all read).spot gives n params in
    let few = few_sites all read in
    let low : b.site ≤ 65537 = omega (arith, same, few) in
    let grown = (stmts_grown b (raw_in_order ss)).site low in
    omega (arith, grown, same, h)

stmt_few : (s : Spot) (t : RawStmtTree) → s.site ≤ 65537 → (stmt_after s t).site ≤ 65535 → s.site ≤ 65535
stmt_few s t f h = let grown = (stmt_grown s t).site f in omega (arith, grown, h)

pub next_statement : (m : Making) (all read : List RawItemTree) (gives : Bool) (n : NameTree) (params : List NameTree) (ss : List RawStmtTree) (t : RawStmtTree)
    → IsMaking m all read gives n params ss → IsMaking (with_statement m t) all read gives n params (ss ++ t ∷ [])
next_statement m all read gives n params ss t h =
    let b = body_start all read gives n params in
    let e = stmts_after b (raw_in_order ss) in
    let before = least_of (least_of None (items_faults (definitions all) at_start read)) (head_faults (definitions all) (items_read all read).spot gives n params) in
    record {
      defined = h.defined;
      spot = ap (λ x. stmt_after x t) h.spot ∙ sym (after_last b ss t);
      globals = h.globals;
      tables = h.tables;
      count = h.count;
      functions = h.functions;
      counted = h.counted;
      least =
          ap (λ x. least_of m.least (stmt_faults m.gives x m.sofar.spot t)) h.outside
          ∙ (ap (λ x. least_of x (stmt_faults m.gives false m.sofar.spot t)) h.least
          ∙ (ap (λ x. least_of (least_of before (stmts_faults gives false b (raw_in_order ss))) (stmt_faults x false m.sofar.spot t)) h.given
          ∙ (ap (λ x. least_of (least_of before (stmts_faults gives false b (raw_in_order ss))) (stmt_faults gives false x t)) h.spot
          ∙ (sym (least_of_append before (stmts_faults gives false b (raw_in_order ss)) (stmt_faults gives false e t))
          ∙ ap (least_of before) (sym (faults_last gives false b ss t))))));
      outside = h.outside;
      finished = h.finished;
      named = h.named;
      given = h.given;
      taken = h.taken;
      outer = h.outer;
      inner = h.inner;
      body = λ f.
          let few : m.sofar.spot.site ≤ 65537 = subst (λ x. x.site ≤ 65537) (sym h.spot) (few_in_body all read gives n params ss) in
          let same = h.body (stmt_few m.sofar.spot t few f) in
          kept_below (stmt_after m.sofar.spot t).site m.body (stmt_of m.sofar.spot t) f
          ∙ (ap (λ x. x ++ stmt_of m.sofar.spot t ∷ []) same
          ∙ (ap (λ x. stmts_list b ss ++ stmt_of x t ∷ []) h.spot
          ∙ sym (list_last b ss t)));
    }

pub next_statements : (m : Making) (all read : List RawItemTree) (gives : Bool) (n : NameTree) (params : List NameTree) (ss ts : List RawStmtTree)
    → IsMaking m all read gives n params ss → IsMaking (with_statements m ts) all read gives n params (ss ++ ts)
next_statements m all read gives n params ss [] h = subst (IsMaking m all read gives n params) (sym (append-nil ss)) h
next_statements m all read gives n params ss (t ∷ ts) h =
    subst (IsMaking (with_statements (with_statement m t) ts) all read gives n params) (append_assoc ss (t ∷ []) ts)
    (next_statements (with_statement m t) all read gives n params (ss ++ t ∷ []) ts (next_statement m all read gives n params ss t h))

-- ---- the end

-- what the end of a definition makes of the items
pub record HasEnded (m : Making) (w : Items) : Type 0 where
  pub definitions : w.definitions ≡ m.definitions
  pub spot : spot_of w.place ≡ record m.sofar.spot { names = drop (length m.sofar.spot.names - m.scope.count) m.sofar.spot.names; outer = m.scope.outer; sizes = [] }
  pub globals : w.globals.items ≡ m.sofar.globals
  pub tables : map table_row w.tables.items ≡ m.sofar.tables
  pub functions : map function_tree w.functions.items ≡ m.sofar.functions ++ record { name = m.name; params = capped m.params; gives = m.gives; sizes = m.sofar.spot.sizes; body = in_order m.body } ∷ []
  pub locals : w.locals ≡ max m.locals (capped (sum (drop m.params m.sofar.spot.sizes)))
  pub least : w.place.least ≡ m.least

module _ (m : Making) (w : Items) (all read : List RawItemTree) (gives : Bool) (n : NameTree) (params : List NameTree) (ss : List RawStmtTree)
    (h : IsMaking m all read gives n params ss) (d : HasEnded m w) where
  abbrev defs : List Binding
  defs = definitions all

  abbrev past : Sofar
  past = items_read all read

  abbrev start : Spot
  start = body_start all read gives n params

  abbrev last : Spot
  last = stmts_after start (raw_in_order ss)

  abbrev item : RawItemTree
  item = RawFunctionItem gives n params (raw_in_order ss)

  abbrev known : List Binding
  known = with_function defs past.spot.names gives n (length params) true

  abbrev made : FunctionTree
  made = function_tree_of start gives n params (raw_in_order ss)

  spot_after : spot_of w.place ≡ (item_after defs past item).spot
  spot_after = d.spot ∙ spot_ended defs past gives n params (raw_in_order ss) m.sofar.spot m.scope.count m.scope.outer h.spot h.inner h.outer

  within_past : last.site ≤ 65535 → past.spot.site ≤ 65535
  within_past f = body_few all read gives n params ss f

  same_body : last.site ≤ 65535 → in_order m.body ≡ stmts_of start (raw_in_order ss)
  same_body f = ap in_order (h.body (subst (λ x. x.site ≤ 65535) (sym h.spot) f)) ∙ stmts_listed start ss

  functions_after : last.site ≤ 65535 → map function_tree w.functions.items ≡ past.functions ++ made ∷ []
  functions_after f =
      let before = h.functions (within_past f) in
      let body = same_body f in
      d.functions ∙ (λ k. before k ++ record { name = h.named k; params = capped (h.taken k); gives = h.given k; sizes = (h.spot k).sizes; body = body k } ∷ [])

  agrees_after : Agrees (sofar_of w) (item_after defs past item)
  agrees_after = record {
    spot = spot_after;
    globals = d.globals ∙ h.globals;
    tables = d.tables ∙ h.tables;
    count =
        let a = ap length d.functions in
        let b = length-append m.sofar.functions (record { name = m.name; params = capped m.params; gives = m.gives; sizes = m.sofar.spot.sizes; body = in_order m.body } ∷ []) in
        let c = length-append past.functions (made ∷ []) in
        let e = h.count in
        omega (arith, a, b, c, e);
    functions = functions_after;
  }

  faults_after : w.place.least ≡ least_of None (items_faults defs at_start (read ++ item ∷ []))
  faults_after =
      let a = items_faults defs at_start read in
      let head = head_faults defs past.spot gives n params in
      let fs = stmts_faults gives false start (raw_in_order ss) in
      d.least
      ∙ (h.least
      ∙ (sym (least_of_append (least_of None a) head fs)
      ∙ (ap (least_of (least_of None a)) (faults_joined defs past gives n params (raw_in_order ss))
      ∙ (sym (least_of_append None a (item_faults defs past item))
      ∙ ap (least_of None) (sym (faults_of_one_more defs at_start read item))))))

  counted_after : w.place.site ≤ 65535 → IsCounted w
  counted_after g =
      let f : last.site ≤ 65535 = subst (λ x. x.site ≤ 65535) spot_after g in
      let before = h.functions (within_past f) in
      let count : m.locals ≡ capped (most_locals past.functions) = h.counted (within_past f) ∙ ap (λ x. capped (most_locals x)) before in
      let sizes : drop m.params m.sofar.spot.sizes ≡ words (stmts_names made.body) =
      ap (λ x. drop x m.sofar.spot.sizes) h.taken ∙ (ap (λ x. drop (length params) x.sizes) h.spot ∙ body_words (record past.spot { names = known }) params (raw_in_order ss)) in
      counted_more past.functions made m.locals (capped (sum (drop m.params m.sofar.spot.sizes))) w.locals count (ap (λ x. capped (sum x)) sizes) d.locals
      ∙ ap (λ x. capped (most_locals x)) (sym (functions_after f))

  pub has_ended : HaveRead w all (read ++ item ∷ [])
  has_ended =
      let more = after_one_more defs at_start read item in
      record {
        defined = d.definitions ∙ h.defined;
        sofar = subst (Agrees (sofar_of w)) (sym more) agrees_after;
        faults = faults_after;
        counted = counted_after;
      }
