use Rattle.scope_rules.proofs.Common.{◌≡◌, ◌∙◌, ◌++◌, ◌∷◌, [], List, sym, ap, map, length, drop, sum, Bool, true, false, length-map, NameTree, RawStmtTrees, RawFunctionItem, name_tree, raw_stmt_trees, stmt_trees, function_tree, table_row, stmts_names, capped, least_of, head_faults, sofar_of, Sofar, with_function, body_spot, function_tree_of, item_after, most_locals, Binding, Spot, spot_of, stmts_after, stmts_faults, stmts_of}
use Rattle.scope_rules.proofs.Counted.{counted_more, body_words}
use Rattle.scope_rules.proofs.FunctionScopes.{spot_ended, faults_joined}
use Rattle.scope_rules.proofs.Growth.{words}
use Rattle.scope_rules.proofs.Least.{least_of_append}
use Rattle.scope_rules.proofs.items.Items.function.Goals as goal

module _ (c : goal.In_ok-end) where
  abbrev defs : List Binding
  defs = c.args.self.now.definitions

  abbrev past : Sofar
  past = sofar_of c.args.self.now

  abbrev gives : Bool
  gives = c.args.raw.now.gives

  abbrev n : NameTree
  n = name_tree c.args.raw.now.name

  abbrev params : List NameTree
  params = map name_tree c.args.raw.now.params.items

  abbrev body : RawStmtTrees
  body = raw_stmt_trees c.args.raw.now.body.items

  abbrev start : Spot
  start = body_spot defs past.spot gives n params

  abbrev last : Spot
  last = stmts_after start body

  begun : spot_of c.begin.new.self ≡ start
  begun = c.in_ok-begun.ensures.place ∙ ap (λ x. body_spot defs past.spot gives n (map name_tree x)) c.deref.ensures.value

  begun_faults : c.begin.new.self.least ≡ least_of c.args.self.now.place.least (head_faults defs past.spot gives n params)
  begun_faults = c.in_ok-begun.ensures.faults ∙ ap (λ x. least_of c.args.self.now.place.least (head_faults defs past.spot gives n (map name_tree x))) c.deref.ensures.value

  count : length c.deref.result.now ≡ length params
  count = ap length c.deref.ensures.value ∙ sym (length-map c.args.raw.now.params.items name_tree)

  resolved : spot_of c.stmts.new.self ≡ last
  resolved = let h = rw c.in_ok-begun-2.ensures.next at c.stmts.ensures.place in h ∙ (λ k. stmts_after (begun k) (raw_stmt_trees (c.deref-2.ensures.value k)))

  tree : stmt_trees c.in_ok-begun-2.body.items ≡ stmts_of start body
  tree = let h = rw c.in_ok-begun-2.ensures.next at c.stmts.ensures.tree in h ∙ (λ k. stmts_of (begun k) (raw_stmt_trees (c.deref-2.ensures.value k)))

  all_faults : c.stmts.new.self.least ≡ least_of c.begin.new.self.least (stmts_faults gives false start body)
  all_faults =
      let h = rw c.in_ok-begun-2.ensures.next at c.stmts.ensures.faults in
      h ∙ (λ k. least_of c.begin.new.self.least (stmts_faults gives false (begun k) (raw_stmt_trees (c.deref-2.ensures.value k))))

  name : c.in_ok-begun-2.begun.name.items ≡ n.text
  name = ap (λ b. b.name.items) c.in_ok-begun-2.ensures.before ∙ c.in_ok-begun.ensures.named

  result : c.in_ok-begun-2.begun.gives ≡ gives
  result = ap (λ b. b.gives) c.in_ok-begun-2.ensures.before ∙ c.in_ok-begun.ensures.given

  taken : c.in_ok-begun-2.begun.params ≡ length params
  taken = ap (λ b. b.params) c.in_ok-begun-2.ensures.before ∙ (c.in_ok-begun.ensures.taken ∙ count)

  outer : c.in_ok-begun-2.begun.scope.outer ≡ past.spot.outer
  outer = ap (λ b. b.scope.outer) c.in_ok-begun-2.ensures.before ∙ c.in_ok-begun.ensures.outer

  inner : c.in_ok-begun-2.begun.scope.count ≡ length (with_function defs past.spot.names gives n (length params) true)
  inner = ap (λ b. b.scope.count) c.in_ok-begun-2.ensures.before ∙ (c.in_ok-begun.ensures.inner ∙ ap (λ x. length (with_function defs past.spot.names gives n x true)) count)

  functions_after : map function_tree c.end.new.self.functions.items ≡ past.functions ++ function_tree_of start gives n params body ∷ []
  functions_after = c.in_ok-end.ensures.functions ∙ (λ k. past.functions ++ record { name = name k; params = capped (taken k); gives = result k; sizes = (resolved k).sizes; body = tree k } ∷ [])

  spot_after : spot_of c.end.new.self.place ≡ (item_after defs past (RawFunctionItem gives n params body)).spot
  spot_after = c.in_ok-end.ensures.place ∙ spot_ended defs past gives n params body (spot_of c.stmts.new.self) c.in_ok-begun-2.begun.scope.count c.in_ok-begun-2.begun.scope.outer resolved inner outer

pub returns-clause-sofar : goal.returns-clause-sofar
returns-clause-sofar c =
    let globals = ap (λ v. v.items) c.in_ok-end.ensures.globals in
    let tables = ap (λ v. map table_row v.items) c.in_ok-end.ensures.tables in
    λ k. record { spot = spot_after c k; globals = globals k; tables = tables k; functions = functions_after c k }

pub returns-clause-faults : goal.returns-clause-faults
returns-clause-faults c =
    let old = c.args.self.now.place.least in
    let head = head_faults (defs c) (past c).spot (gives c) (n c) (params c) in
    let fs = stmts_faults (gives c) false (start c) (body c) in
    c.in_ok-end.ensures.faults
    ∙ (all_faults c
    ∙ (ap (λ x. least_of x fs) (begun_faults c)
    ∙ (sym (least_of_append old head fs)
    ∙ ap (least_of old) (faults_joined (defs c) (past c) (gives c) (n c) (params c) (body c)))))

pub returns-clause-counted : goal.returns-clause-counted
returns-clause-counted c = λ h.
    let made = function_tree_of (start c) (gives c) (n c) (params c) (body c) in
    let s : Spot = record (past c).spot { names = with_function (defs c) (past c).spot.names (gives c) (n c) (length (params c)) true } in
    let sizes : drop c.in_ok-begun-2.begun.params c.stmts.new.self.sizes.items ≡ words (stmts_names made.body) =
    (λ k. drop (taken c k) (resolved c k).sizes) ∙ body_words s (params c) (body c) in
    counted_more (past c).functions made c.args.self.now.locals (capped (sum (drop c.in_ok-begun-2.begun.params c.stmts.new.self.sizes.items))) c.end.new.self.locals h (ap (λ x. capped (sum x)) sizes) c.in_ok-end.ensures.locals
    ∙ ap (λ x. capped (most_locals x)) (sym (functions_after c))
