use Rattle.grammar_reader.proofs.Common.{ℕ, ◌∙◌, ◌∷◌, [], List, map, ap, true, map-append, IfOk-weaker, IfErr-weaker, Token, RawItem, NameTree, name_tree, raw_item_tree, Refused, RefusedListed, ReadsFunction, ReadsTable}
use Rattle.c_grammar.specs.Machine as tasks
use Rattle.grammar_reader.proofs.Paths.{exit, sign_other}
use Rattle.grammar_reader.proofs.HeldValues.{next_pushed, unless_memory}
use Rattle.grammar_reader.proofs.ItemRules.{after_int_table, after_int_no_name, after_int_function, after_int_function_refused, after_int_globals, after_int_globals_refused}
use Rattle.grammar_reader.proofs.items.after_int.Goals as goal

pub returns-in_err-name-clause-refused : goal.returns-in_err-name-clause-refused
returns-in_err-name-clause-refused c = exit _ _ c.from_residual.ensures.1 (after_int_no_name _ _ _ (sign_other c.sign.ensures c.if-eq.ensures) c.in_err-name.ensures.refused)

pub returns-clause-read : goal.returns-clause-read
returns-clause-read c =
    IfOk-weaker c.globals.result _ _ (λ x h. after_int_globals _ _ _ _ _ _ _ _ c.in_ok-name.ensures.taken h) c.globals.ensures.read

pub returns-clause-refused : goal.returns-clause-refused
returns-clause-refused c =
    IfErr-weaker c.globals.result (λ error. Refused c.args.text.end 0 (tasks.AfterIntName ∷ []) c.take_name.new.self.tokens.now error) (λ error. Refused c.args.text.end 0 (tasks.AfterInt ∷ []) c.args.cursor.now.tokens.now error)
    (λ error h. after_int_globals_refused _ _ _ _ _ _ c.in_ok-name.ensures.taken h) c.globals.ensures.refused

abbrev ReadsIntFunction : List ℕ → ℕ → NameTree → List Token → List Token → RawItem → Type 0
ReadsIntFunction source end name before after item = ReadsFunction source end true name before (raw_item_tree item) after

pub returns-then-eq-2-clause-refused : goal.returns-then-eq-2-clause-refused
returns-then-eq-2-clause-refused c =
    IfErr-weaker c.push_next-then-eq-2.result _ _
    (λ error h. unless_memory (RefusedListed c.args.text.end c.take_name.new.self.tokens.now) c.function.result error h c.function.ensures.refused (λ r. after_int_function_refused _ _ _ _ _ _ c.in_ok-name.ensures.taken r))
    c.push_next-then-eq-2.ensures.refused

pub returns-then-eq-2-clause-read : goal.returns-then-eq-2-clause-read
returns-then-eq-2-clause-read c =
    IfOk-weaker c.push_next-then-eq-2.result _ _
    (λ u h.
    let p = next_pushed (ReadsIntFunction c.args.text.bytes.now c.args.text.end (name_tree c.in_ok-name.name) c.take_name.new.self.tokens.now c.function.new.cursor.tokens.now) c.function.result _ _ h c.function.ensures.read in
    after_int_function _ _ _ _ _ _ _ _ _ c.in_ok-name.ensures.taken p.2
    (ap (map raw_item_tree) p.1 ∙ map-append raw_item_tree c.args.items.now.items (p.0 ∷ [])))
    c.push_next-then-eq-2.ensures.pushed

abbrev ReadsTableItem : List ℕ → ℕ → List Token → List Token → RawItem → Type 0
ReadsTableItem source end before after item = ReadsTable source end before (raw_item_tree item) after

pub returns-then-eq-clause-refused : goal.returns-then-eq-clause-refused
returns-then-eq-clause-refused c =
    IfErr-weaker c.push_next.result _ _
    (λ error h. unless_memory (Refused c.args.text.end 0 (tasks.AfterInt ∷ []) c.args.cursor.now.tokens.now) c.table.result error h c.table.ensures.refused (λ r. r)) c.push_next.ensures.refused

pub returns-then-eq-clause-read : goal.returns-then-eq-clause-read
returns-then-eq-clause-read c =
    IfOk-weaker c.push_next.result _ _
    (λ u h.
    let p = next_pushed (ReadsTableItem c.args.text.bytes.now c.args.text.end c.args.cursor.now.tokens.now c.table.new.cursor.tokens.now) c.table.result _ _ h c.table.ensures.read in
    after_int_table _ _ _ _ _ _ _ p.2
    (ap (map raw_item_tree) p.1 ∙ map-append raw_item_tree c.args.items.now.items (p.0 ∷ [])))
    c.push_next.ensures.pushed
