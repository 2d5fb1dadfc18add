-- A right side in which no call is nested is evaluated at once: to an outcome, or to the call that it is.
use Rattle.hoist_meaning.proofs.Common.{ℕ, ◌≡◌, ◌+◌, ◌≤◌, refl, sym, ap, subst, ◌∙◌, Bool, true, false, List, [], ◌++◌, length, arith, Result, Ok, Err, TrapKind, NameTree, RawExprTree, RawExprTrees, RawNumber, RawName, RawElement, RawUnary, RawParenthesized, RawBinary, RawLogicalAnd, RawLogicalOr, RawConditional, RawCall, RawTableCall, NoExprs, And, CallTree, CallTable, RightTree, Computed, Called, Value, value, values, with_first, Binding, find, callee_of, table_of, expr_faults, exprs_faults, listed, expr_of, exprs_of, Spot, number_at, call_numbered, right_numbered, both_none, DeepExpr, Callee, calls_in, callee_by, is_spawn_by, holds_call, hold_call, holds_nested, is_named, is_spawn, names_in, arguments_names, part_after, part_or, part_named, left_of, arguments_left, before, arguments_before, value_names, table_before, no_left, left_whole, AreSourceNames, AllSourceNames, or_parts}
use Rattle.scope_rules.specs.declared.meanings.Callee as called
use Rattle.scope_rules.specs.Calls.{call_name_faults, arguments_faults, table_name_faults, call_by, call_of, right_of}
use Rattle.deep_mean.specs.Evaluation.{TableIndexOf, TableArgumentOf, Ready, ReadyCall, ReadyTableCall, Evaluation, Calls, of_value, and_then, evaluate, evaluate_arguments}
use Rattle.deep_mean.specs.Naming as deep
use Rattle.hoist_meaning.proofs.Bindings.{Agreement, in_text, in_tree, IsAgreement, NamesStand, callee_alike, table_alike}
use Rattle.hoist_meaning.proofs.Items.{after, call_parts, ReadyAlike}
use Rattle.hoist_meaning.proofs.Spots.{StandsAt, with_names, with_argument_names, before_stands, arguments_stand}
use Rattle.hoist_meaning.proofs.Extends.{extends_text, extends_paired, names_extend, arguments_extend}
use Rattle.hoist_meaning.proofs.Ends.{Rows}
use Rattle.hoist_meaning.proofs.Premises.{KnowsSpawnAlone, evaluated, with_value_names, SideIs, SideCalls, side_left, IsSideSound}
use Rattle.hoist_meaning.proofs.Parts.{MayBe, computed, plain_side_faults}
use Rattle.hoist_meaning.proofs.PlainEnds.{quiet_value}
use Rattle.hoist_meaning.proofs.ArgumentEnds.{no_arguments_left, calls_with, no_argument, quiet_arguments}
use Rattle.hoist_meaning.proofs.CallEnds.{spawn_arity, parts_by, arguments_fine, ready_by}
use Rattle.hoist_meaning.proofs.TableEnds.{three_after}
use Rattle.hoist_meaning.proofs.SidePlaces.{table_place, value_extend}

pub data AtOnce (r : RightTree) (globals names : Rows) : Evaluation → Type 0 where
  Outcome : (v : Value) → SideIs r globals names v → AtOnce r globals names (of_value v)
  WholeCall : (call : Ready) → SideCalls r globals names call → AtOnce r globals names (Calls call [])

-- ---- by the values of its parts

once_by : (made : CallTree) (site : ℕ) (callee : Callee) (globals names : Rows) (r : Result (List ℕ) TrapKind) → ((words : List ℕ) → r ≡ Ok words → ReadyAlike names globals (ReadyCall site callee words) made) →
    ((trap : TrapKind) → r ≡ Err trap → values names globals (call_parts made) ≡ Err trap) → AtOnce (Called made) globals names (calls_with site callee [] r)
once_by made site callee globals names (Ok words) ready trapped = AtOnce.WholeCall (ReadyCall site callee words) (ready words refl)
once_by made site callee globals names (Err trap) ready trapped = AtOnce.Outcome (Err trap) (trapped trap refl)

table_by : (made : CallTree) (site table : ℕ) (right : DeepExpr) (globals names : Rows) (i e : Value) → ((index argument : ℕ) → i ≡ Ok index → e ≡ Ok argument → ReadyAlike names globals (ReadyTableCall site table index argument) made) →
    ((trap : TrapKind) → with_first i (with_first e (Ok [])) ≡ Err trap → values names globals (call_parts made) ≡ Err trap) →
    AtOnce (Called made) globals names (and_then (of_value i) (TableIndexOf site table right) (λ index. and_then (of_value e) (TableArgumentOf site table index) (λ argument. Calls (ReadyTableCall site table index argument) [])))
table_by made site table right globals names (Ok index) (Ok argument) ready trapped = AtOnce.WholeCall (ReadyTableCall site table index argument) (ready index argument refl refl)
table_by made site table right globals names (Ok index) (Err trap) ready trapped = AtOnce.Outcome (Err trap) (trapped trap refl)
table_by made site table right globals names (Err trap) e ready trapped = AtOnce.Outcome (Err trap) (trapped trap refl)

quiet_evaluated : (text later globals : Rows) (ds : List Binding) (b : Agreement) (k call : ℕ) (callee : Callee) (stays : Bool) (es : RawExprTrees) (site : ℕ) → IsAgreement b → in_text b ≡ ds → NamesStand b text later → AllSourceNames es → hold_call es ≡ false →
    exprs_faults (in_tree b) (evaluated stays k es) ≡ [] → evaluate_arguments text globals call callee [] (deep.arguments_of ds stays site es) ≡ calls_with call callee [] (values later globals (exprs_of (in_tree b) (evaluated stays k es)))
quiet_evaluated text later globals ds b k call callee true NoExprs site agrees same stand source quiet fine = no_argument call callee []
quiet_evaluated text later globals ds b k call callee true (And x es) site agrees same stand source quiet fine =
    let rest = (or_parts (holds_call x) (hold_call es) quiet).1 in
    let left = no_arguments_left k es rest in
    quiet_arguments text later globals ds b (site + calls_in x) call callee es [] agrees same stand source.1 rest (ap (λ xs. exprs_faults (in_tree b) (listed xs)) (sym left) ∙ fine)
    ∙ ap (λ xs. calls_with call callee [] (values later globals (exprs_of (in_tree b) (listed xs)))) (sym left)
quiet_evaluated text later globals ds b k call callee false es site agrees same stand source quiet fine =
    let left = no_arguments_left k es quiet in
    quiet_arguments text later globals ds b site call callee es [] agrees same stand source quiet (ap (λ xs. exprs_faults (in_tree b) (listed xs)) (sym left) ∙ fine)
    ∙ ap (λ xs. calls_with call callee [] (values later globals (exprs_of (in_tree b) (listed xs)))) (sym left)

module _ (ns : List ℕ) (text : Rows) (ds : List Binding) (spawns : KnowsSpawnAlone ds) (gives loop used_ : Bool) (b : Agreement) (k v site : ℕ) (t : Spot) (globals names : Rows) (texts : in_text b ≡ ds) (stand : NamesStand b text names) (place : StandsAt b v t) where
  quiet_call : (n : NameTree) (es : RawExprTrees) → v + arguments_names (is_spawn n) es ≤ 65536 → hold_call es ≡ false → IsSideSound ns gives loop used_ b k v site (RawCall n es) t →
      AtOnce (side_left ns t k (RawCall n es)) globals names (evaluate text globals (deep.expr_of ds site (RawCall n es)))
  quiet_call n es few quiet sound =
      let stays = is_spawn n in
      let m = arguments_names stays es in
      let c = with_argument_names stays k v es b in
      let u = after t (arguments_before stays k es) in
      let xs = listed (arguments_left stays k es) in
      let there = arguments_stand b k v stays es t place few in
      let ext = arguments_extend stays k v es b in
      let same_texts : in_text c ≡ ds = extends_text k v (v + m) b c ext ∙ texts in
      let q = callee_of (find n.text (in_tree c)) in
      let same : callee_of (find n.text ds) ≡ q = ap (λ bs. callee_of (find n.text bs)) (sym same_texts) ∙ callee_alike c n.text there.agrees sound.source.0 in
      let spawning : is_spawn_by q ≡ stays = ap is_spawn_by (sym same) ∙ spawns n.text in
      let faults = both_none (call_name_faults used_ (find n.text (in_tree c)) n.at (length xs)) (arguments_faults q (in_tree c) n.at xs) sound.left_fine in
      let arity : q ≡ called.Callee.Spawn → 2 ≡ length xs = λ e. spawn_arity used_ (find n.text (in_tree c)) n.at (length xs) e faults.0 in
      let made = call_numbered ns (call_by q (in_tree c) u.site xs) in
      let left : Called made ≡ side_left ns t k (RawCall n es) = sym (ap (λ bs. Called (call_numbered ns (call_of bs u.site n xs))) there.names) in
      let callee = callee_by q ds es in
      let words = values names globals (exprs_of (in_tree c) (evaluated stays k es)) in
      let is : calls_with site callee [] words ≡ evaluate text globals (deep.expr_of ds site (RawCall n es)) =
      sym (quiet_evaluated text names globals ds c k site callee stays es (site + 1) there.agrees same_texts (λ x y p. stand x y (extends_paired k v (v + m) b c x y ext p)) sound.source.1 quiet (arguments_fine q (in_tree c) n.at k stays es spawning faults.1))
      ∙ sym (λ i. evaluate_arguments text globals site (callee_by (same i) ds es) [] (deep.arguments_of ds (spawns n.text i) (site + 1) es)) in
      subst (λ ev. AtOnce (side_left ns t k (RawCall n es)) globals names ev) is
      (subst (λ r. AtOnce r globals names (calls_with site callee [] words)) left
      (once_by made site callee globals names words
      (λ ws e. subst (λ bs. ReadyAlike names globals (ReadyCall site (callee_by q bs es) ws) made) same_texts (ready_by ns c k u.site site es q stays names globals ws there.agrees sound.source.1 spawning arity sound.sites.1 e))
      (λ trap e. ap (values names globals) (parts_by ns (in_tree c) k u.site es q stays spawning arity) ∙ e)))

  quiet_table : (n : NameTree) (i e : RawExprTree) → v + value_names (RawTableCall n i e) ≤ 65536 → holds_call i ≡ false → holds_call e ≡ false → IsSideSound ns gives loop used_ b k v site (RawTableCall n i e) t →
      AtOnce (side_left ns t k (RawTableCall n i e)) globals names (evaluate text globals (deep.expr_of ds site (RawTableCall n i e)))
  quiet_table n i e few quiet_i quiet_e sound =
      let d = with_value_names k v (RawTableCall n i e) b in
      let later = holds_call e in
      let u = after t (table_before k i e) in
      let there = table_place i e b k v t place (omega (arith, few)) in
      let ext = value_extend k v (RawTableCall n i e) b in
      let w = v + value_names (RawTableCall n i e) in
      let same_texts : in_text d ≡ ds = extends_text k v w b d ext ∙ texts in
      let stands : NamesStand d text names = λ x y p. stand x y (extends_paired k v w b d x y ext p) in
      let index = part_or (is_named later i) (k + names_in i) (left_of k i) in
      let argument = left_of (part_after k later i) e in
      let index_is : index ≡ i = (λ j. part_or (is_named (quiet_e j) i) (k + names_in i) (left_of k i)) ∙ no_left k i quiet_i in
      let argument_is : argument ≡ e = no_left (part_after k later i) e quiet_e in
      let faults = both_none (table_name_faults (find n.text (in_tree d)) n.at) (expr_faults (in_tree d) index ++ expr_faults (in_tree d) argument) sound.left_fine in
      let parts = both_none (expr_faults (in_tree d) index) (expr_faults (in_tree d) argument) faults.1 in
      let table = table_of (find n.text ds) in
      let tables : table_of (find n.text (in_tree d)) ≡ table = sym (table_alike d n.text there.agrees sound.source.0) ∙ ap (λ bs. table_of (find n.text bs)) same_texts in
      let made = CallTable (number_at ns u.site) (table_of (find n.text (in_tree d))) (expr_of (in_tree d) index) (expr_of (in_tree d) argument) in
      let left : Called made ≡ side_left ns t k (RawTableCall n i e) = sym (ap (λ bs. Called (CallTable (number_at ns u.site) (table_of (find n.text bs)) (expr_of bs index) (expr_of bs argument))) there.names) in
      let number : number_at ns u.site ≡ site = ap (λ (z : Spot). number_at ns z.site) (three_after t (before k i) (part_named (is_named later i) (k + names_in i) (left_of k i)) (before (part_after k later i) e)) ∙ sound.sites.2 in
      let right = deep.expr_of ds (site + 1 + calls_in i) e in
      let vi = value names globals (expr_of (in_tree d) index) in
      let ve = value names globals (expr_of (in_tree d) argument) in
      let first : evaluate text globals (deep.expr_of ds (site + 1) i) ≡ of_value vi =
      quiet_value text names globals ds d (site + 1) i there.agrees same_texts stands sound.source.1 quiet_i (ap (λ x. expr_faults (in_tree d) x) (sym index_is) ∙ parts.0) ∙ ap (λ x. of_value (value names globals (expr_of (in_tree d) x))) (sym index_is) in
      let second : evaluate text globals right ≡ of_value ve =
      quiet_value text names globals ds d (site + 1 + calls_in i) e there.agrees same_texts stands sound.source.2 quiet_e (ap (λ x. expr_faults (in_tree d) x) (sym argument_is) ∙ parts.1) ∙ ap (λ x. of_value (value names globals (expr_of (in_tree d) x))) (sym argument_is) in
      subst (λ ev. AtOnce (side_left ns t k (RawTableCall n i e)) globals names ev)
      (sym (λ j. and_then (first j) (TableIndexOf site table right) (λ index. and_then (second j) (TableArgumentOf site table index) (λ argument. Calls (ReadyTableCall site table index argument) []))))
      (subst (λ r. AtOnce r globals names (and_then (of_value vi) (TableIndexOf site table right) (λ index. and_then (of_value ve) (TableArgumentOf site table index) (λ argument. Calls (ReadyTableCall site table index argument) [])))) left
      (table_by made site table right globals names vi ve (λ x y p q. (number, tables, p, q)) (λ trap h. h)))

  quiet_plain : (e : RawExprTree) → MayBe true e → v + names_in e ≤ 65536 → holds_call e ≡ false → AreSourceNames e → expr_faults (in_tree (with_names k v e b)) (left_of k e) ≡ [] →
      AtOnce (right_numbered ns (right_of (after t (before k e)).names (after t (before k e)).site (left_of k e))) globals names (evaluate text globals (deep.expr_of ds site e))
  quiet_plain e may few quiet source fine =
      let c = with_names k v e b in
      let u = after t (before k e) in
      let w = v + names_in e in
      let ext = names_extend k v e b in
      let there = before_stands b k v e t place few in
      let stay = no_left k e quiet in
      let same_texts : in_text c ≡ ds = extends_text k v w b c ext ∙ texts in
      let is : Computed (expr_of (in_tree c) (left_of k e)) ≡ right_numbered ns (right_of u.names u.site (left_of k e)) =
      sym (ap (right_numbered ns) (computed u.names u.site (left_of k e) (left_whole k e)) ∙ ap (λ bs. Computed (expr_of bs (left_of k e))) there.names) in
      let v_is = value names globals (expr_of (in_tree c) (left_of k e)) in
      let evaluation : evaluate text globals (deep.expr_of ds site e) ≡ of_value v_is =
      quiet_value text names globals ds c site e there.agrees same_texts (λ x y p. stand x y (extends_paired k v w b c x y ext p)) source quiet (ap (λ x. expr_faults (in_tree c) x) (sym stay) ∙ fine)
      ∙ ap (λ x. of_value (value names globals (expr_of (in_tree c) x))) (sym stay) in
      subst (λ ev. AtOnce (right_numbered ns (right_of u.names u.site (left_of k e))) globals names ev) (sym evaluation) (subst (λ r. AtOnce r globals names (of_value v_is)) is (AtOnce.Outcome v_is refl))

  -- a right side in which no call is nested
  pub quiet_side : (e : RawExprTree) → v + value_names e ≤ 65536 → holds_nested e ≡ false → IsSideSound ns gives loop used_ b k v site e t → AtOnce (side_left ns t k e) globals names (evaluate text globals (deep.expr_of ds site e))
  quiet_side (RawCall n es) few quiet sound = quiet_call n es few quiet sound
  quiet_side (RawTableCall n i e) few quiet sound = let two = or_parts (holds_call i) (holds_call e) quiet in quiet_table n i e few two.0 two.1 sound
  quiet_side (RawNumber w) few quiet sound = quiet_plain (RawNumber w) tt few quiet sound.source (sym (plain_side_faults used_ (in_tree (with_names k v (RawNumber w) b)) (left_of k (RawNumber w)) (left_whole k (RawNumber w))) ∙ sound.left_fine)
  quiet_side (RawName n) few quiet sound = quiet_plain (RawName n) tt few quiet sound.source (sym (plain_side_faults used_ (in_tree (with_names k v (RawName n) b)) (left_of k (RawName n)) (left_whole k (RawName n))) ∙ sound.left_fine)
  quiet_side (RawElement n i) few quiet sound = quiet_plain (RawElement n i) tt few quiet sound.source (sym (plain_side_faults used_ (in_tree (with_names k v (RawElement n i) b)) (left_of k (RawElement n i)) (left_whole k (RawElement n i))) ∙ sound.left_fine)
  quiet_side (RawUnary op e) few quiet sound = quiet_plain (RawUnary op e) tt few quiet sound.source (sym (plain_side_faults used_ (in_tree (with_names k v (RawUnary op e) b)) (left_of k (RawUnary op e)) (left_whole k (RawUnary op e))) ∙ sound.left_fine)
  quiet_side (RawParenthesized e) few quiet sound = quiet_plain (RawParenthesized e) tt few quiet sound.source (sym (plain_side_faults used_ (in_tree (with_names k v (RawParenthesized e) b)) (left_of k (RawParenthesized e)) (left_whole k (RawParenthesized e))) ∙ sound.left_fine)
  quiet_side (RawBinary op l r) few quiet sound = quiet_plain (RawBinary op l r) tt few quiet sound.source (sym (plain_side_faults used_ (in_tree (with_names k v (RawBinary op l r) b)) (left_of k (RawBinary op l r)) (left_whole k (RawBinary op l r))) ∙ sound.left_fine)
  quiet_side (RawLogicalAnd l r) few quiet sound = quiet_plain (RawLogicalAnd l r) tt few quiet sound.source (sym (plain_side_faults used_ (in_tree (with_names k v (RawLogicalAnd l r) b)) (left_of k (RawLogicalAnd l r)) (left_whole k (RawLogicalAnd l r))) ∙ sound.left_fine)
  quiet_side (RawLogicalOr l r) few quiet sound = quiet_plain (RawLogicalOr l r) tt few quiet sound.source (sym (plain_side_faults used_ (in_tree (with_names k v (RawLogicalOr l r) b)) (left_of k (RawLogicalOr l r)) (left_whole k (RawLogicalOr l r))) ∙ sound.left_fine)
  quiet_side (RawConditional c x y) few quiet sound = quiet_plain (RawConditional c x y) tt few quiet sound.source (sym (plain_side_faults used_ (in_tree (with_names k v (RawConditional c x y) b)) (left_of k (RawConditional c x y)) (left_whole k (RawConditional c x y))) ∙ sound.left_fine)
