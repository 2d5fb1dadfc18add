use Rattle.grammar_reader.proofs.Common.{◌∙◌, err_from_is_err_and, name_tree, raw_expr_tree, raw_expr_trees}
use Rattle.grammar_reader.proofs.SimpleRules.{simple_call, simple_no_assign, simple_set_refused, simple_set}
use Rattle.grammar_reader.proofs.simples.simple.Goals as goal

pub returns-in_ok-arguments-in-LeftParenthesis-clause-read : goal.returns-in_ok-arguments-in-LeftParenthesis-clause-read
returns-in_ok-arguments-in-LeftParenthesis-clause-read c = simple_call c.args.text.bytes.now c.args.text.end c.args.depth c.args.cursor.now.tokens.now c.take_name.new.self.tokens.now c.arguments.new.cursor.tokens.now (name_tree c.in_ok-name.name) (raw_expr_trees c.in_ok-arguments-in-LeftParenthesis.arguments.items) c.in_ok-name.ensures.taken c.in_ok-arguments-in-LeftParenthesis.ensures.read

pub returns-in_err-take-in_default : goal.returns-in_err-take-in_default
returns-in_err-take-in_default c =
    let e = c.sign.ensures in
    let p = err_from_is_err_and c.from_residual-in_err-take-in_default.result c.from_residual-in_err-take-in_default.ensures.1 in
    rw (p.1, p.2)
    (record {
      read = tt;
      refused = simple_no_assign c.args.text.bytes.now c.args.text.end c.args.depth c.args.cursor.now.tokens.now c.take_name.new.self.tokens.now (name_tree c.in_ok-name.name) c.in_err-take-in_default.field-0.0 c.in_ok-name.ensures.taken (λ n. c.in_default.not-LeftParenthesis (e ∙ n)) (λ n. c.in_default.not-LeftBracket (e ∙ n)) c.in_err-take-in_default.ensures.other
          c.in_err-take-in_default.ensures.place;
    })

pub returns-in_err-value-in_default : goal.returns-in_err-value-in_default
returns-in_err-value-in_default c =
    let p = err_from_is_err_and c.from_residual-in_err-value-in_default.result c.from_residual-in_err-value-in_default.ensures.1 in
    rw (p.1, p.2)
    (record {
      read = tt;
      refused = simple_set_refused c.args.text.bytes.now c.args.text.end c.args.depth c.args.cursor.now.tokens.now c.take_name.new.self.tokens.now c.take.new.self.tokens.now (name_tree c.in_ok-name.name) c.in_err-value-in_default.field-0.0 c.requires c.in_ok-name.ensures.taken c.in_ok-take-in_default.ensures.taken c.in_err-value-in_default.ensures.refused;
    })

pub returns-in_ok-value-in_default : goal.returns-in_ok-value-in_default
returns-in_ok-value-in_default c =
    record {
      read = simple_set c.args.text.bytes.now c.args.text.end c.args.depth c.args.cursor.now.tokens.now c.take_name.new.self.tokens.now c.take.new.self.tokens.now c.expression.new.cursor.tokens.now (name_tree c.in_ok-name.name) (raw_expr_tree c.in_ok-value-in_default.value) c.requires c.in_ok-name.ensures.taken c.in_ok-take-in_default.ensures.taken c.in_ok-value-in_default.ensures.read;
      refused = tt;
    }
