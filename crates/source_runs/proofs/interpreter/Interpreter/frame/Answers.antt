use Rattle.source_runs.proofs.Common.{◌≡◌, ◌<◌, ◌≤◌, ◌+◌, ◌-◌, ◌++◌, [], ℕ, List, length, get_or, vec_len, arith, refl, sym, ap, ◌∙◌, subst, false, replicate, sum, length-append, length-replicate, take_all, below, declared_words, FunctionTree, function_tree, stmt_trees, AreStmtsScoped, Stmt, function_at, rows_of, AreItems, to_do, Item, context_at, sizes_at, tree_of}
use Rattle.c_mean.specs.Frames as source
use Rattle.c_mean.specs.ToDo as todo
use Rattle.source_runs.proofs.Functions.{function-count, function-is, params-are, scoped-at}
use Rattle.source_runs.proofs.Words.{frame-fits, frame-rows}
use Rattle.source_runs.proofs.interpreter.Interpreter.frame.Goals as goal

pub returns : goal.returns
returns c =
    let tree = tree_of c.args.self.now in
    let f = c.args.function in
    let names = c.args.names.items in
    let scoped = scoped-at tree f c.requires.ready.scoped c.requires.there in
    let one : (function_at tree f).params ≡ length names = sym (params-are tree f c.requires.there) ∙ c.requires.fits in
    let ns = sizes_at tree f in
    let ds = declared_words (function_at tree f) in
    let fits : length names ≤ sum ns = frame-fits names ns ds (function_at tree f).params one scoped.sizes in
    let words = c.layout.result.now.words in
    let more = words - length names in
    let full : length names + more ≡ sum ns = omega (arith, c.layout.ensures.words, fits) in
    let list : c.resize.new.self.items ≡ names ++ replicate more 0 = c.in_ok-resize.ensures.items ∙ (ap (λ (xs : List ℕ). xs ++ replicate (words - vec_len c.args.names) 0) (take_all words names (omega (arith, c.layout.ensures.words, fits))) ∙ ap (λ (n : ℕ). names ++ replicate (words - n) 0) c.args.names.ok.0) in
    let rows = ap (rows_of ns) list ∙ frame-rows names ns ds (function_at tree f).params more one scoped.sizes full in
    let all = c.functions.result.now in
    let code = c.index-functions-function.result in
    let within : f < length all = omega (arith, function-count tree all c.functions.ensures, c.requires.there) in
    let found = get_or all f code in
    let is : function_at tree f ≡ function_tree found = function-is tree all f code c.functions.ensures within c.index-functions-function.is ∙ ap function_tree c.index-functions-function.is in
    let body = c.in_ok-push_stmts.ensures.next
    ∙ (ap (λ (ss : List Stmt). todo.all_before (stmt_trees ss) (to_do c.in_ok-items.items.items)) c.deref.ensures.value
    ∙ (ap (λ (xs : List Item). todo.all_before (stmt_trees found.body.items) (to_do xs)) c.in_ok-items.ensures
    ∙ ap (λ (t : FunctionTree). todo.all_before t.body []) (sym is))) in
    let frame : List (List ℕ) → List todo.Item → source.Frame = λ r t. record { function = f; names = r; to_do = t } in
    let context = context_at tree f in
    let scope = below (function_at tree f).params in
    record {
      pushed = ap (λ (r : List (List ℕ)). frame r (to_do c.push_stmts.new.items.items)) rows
          ∙ ap (λ (t : List todo.Item). frame (source.pushed tree f names).names t) body;
      frame = record {
        function = c.requires.there;
        full = ap length list ∙ (length-append names (replicate more 0) ∙ omega (arith, length-replicate {A = ℕ} more 0, full));
        items = c.in_ok-push_stmts.ensures.fits context false scope (subst (AreItems context) (sym c.in_ok-items.ensures) (tt {0}))
            (subst (λ (ss : List Stmt). AreStmtsScoped context false scope (stmt_trees ss)) (sym c.deref.ensures.value)
            (subst (λ (t : FunctionTree). AreStmtsScoped context false scope t.body) is scoped.body));
      };
      function = refl;
    }
