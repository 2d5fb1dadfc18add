use Rattle.grammar_reader.proofs.Common.{ℕ, ◌∙◌, ◌∷◌, [], List, map, ap, map-append, IfOk-weaker, IfErr-weaker, Token, RawItem, raw_item_tree, Refused, RefusedItems, ReadsAfterVoid}
use Rattle.c_grammar.specs.Machine as tasks
use Rattle.grammar_reader.proofs.HeldValues.{next_pushed, unless_memory}
use Rattle.grammar_reader.proofs.ItemRules.{item_int, item_int_refused, item_void, item_void_refused, item_other}
use Rattle.grammar_reader.proofs.items.item.Goals as goal

pub returns-in-Int-clause-read : goal.returns-in-Int-clause-read
returns-in-Int-clause-read c = IfOk-weaker c.after_int.result _ _ (λ x h. item_int _ _ _ _ _ _ _ (cc (c.in-Int.ensures)) c.pass.ensures h) c.after_int.ensures.read

pub returns-in-Int-clause-refused : goal.returns-in-Int-clause-refused
returns-in-Int-clause-refused c =
    IfErr-weaker c.after_int.result (λ error. Refused c.args.text.end 0 (tasks.AfterInt ∷ []) c.pass.new.self.tokens.now error) (λ error. RefusedItems c.args.text.end c.args.cursor.now.tokens.now error) (λ error h. item_int_refused _ _ _ _ (cc (c.in-Int.ensures)) c.pass.ensures h) c.after_int.ensures.refused

pub returns-in_default : goal.returns-in_default
returns-in_default c = let e = c.sign.ensures in record { read = tt; refused = item_other _ _ _ c.requires (λ n. c.in_default.not-Int (e ∙ n)) (λ n. c.in_default.not-Void (e ∙ n)) c.unexpected.ensures }

abbrev ReadsVoidItem : List ℕ → ℕ → List Token → List Token → RawItem → Type 0
ReadsVoidItem source end before after item = ReadsAfterVoid source end before (raw_item_tree item) after

pub returns-in-Void-clause-refused : goal.returns-in-Void-clause-refused
returns-in-Void-clause-refused c =
    IfErr-weaker c.push_next.result _ _
    (λ error h. unless_memory (Refused c.args.text.end 0 (tasks.AfterVoid ∷ []) c.pass-in-Void.new.self.tokens.now) c.after_void.result error h c.after_void.ensures.refused (λ r. item_void_refused _ _ _ _ (cc (c.in-Void.ensures)) c.pass-in-Void.ensures r))
    c.push_next.ensures.refused

pub returns-in-Void-clause-read : goal.returns-in-Void-clause-read
returns-in-Void-clause-read c =
    IfOk-weaker c.push_next.result _ _
    (λ u h.
    let p = next_pushed (ReadsVoidItem c.args.text.bytes.now c.args.text.end c.pass-in-Void.new.self.tokens.now c.after_void.new.cursor.tokens.now) c.after_void.result _ _ h c.after_void.ensures.read in
    item_void _ _ _ _ _ _ _ _ (cc (c.in-Void.ensures)) c.pass-in-Void.ensures p.2
    (ap (map raw_item_tree) p.1 ∙ map-append raw_item_tree c.args.items.now.items (p.0 ∷ [])))
    c.push_next.ensures.pushed
