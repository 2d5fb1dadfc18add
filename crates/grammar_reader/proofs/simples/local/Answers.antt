use Rattle.grammar_reader.proofs.Common.{◌∙◌, err_from_is_err_and, name_tree, raw_expr_tree}
use Rattle.grammar_reader.proofs.LocalRules.{local_no_name, local_size_refused, local_array, local_value_refused, local_with, local_scalar}
use Rattle.grammar_reader.proofs.simples.local.Goals as goal

pub returns-in_err-name-clause-refused : goal.returns-in_err-name-clause-refused
returns-in_err-name-clause-refused c =
    let p = err_from_is_err_and c.from_residual.result c.from_residual.ensures.1 in
    rw (p.1, p.2) (local_no_name c.args.text.end c.args.depth c.args.cursor.now.tokens.now c.in_err-name.field-0.0 c.in_err-name.ensures.refused)

pub returns-in_err-words-in-LeftBracket-clause-refused : goal.returns-in_err-words-in-LeftBracket-clause-refused
returns-in_err-words-in-LeftBracket-clause-refused c =
    let p = err_from_is_err_and c.from_residual-in_err-words-in-LeftBracket.result c.from_residual-in_err-words-in-LeftBracket.ensures.1 in
    rw (p.1, p.2) (local_size_refused c.args.text.bytes.now c.args.text.end c.args.depth c.args.cursor.now.tokens.now c.take_name.new.self.tokens.now (name_tree c.in_ok-name.name) c.in_err-words-in-LeftBracket.field-0.0 c.requires c.in_ok-name.ensures.taken (cc (c.in-LeftBracket.ensures)) c.in_err-words-in-LeftBracket.ensures.refused)

pub returns-in_err-value-in-Assign-clause-refused : goal.returns-in_err-value-in-Assign-clause-refused
returns-in_err-value-in-Assign-clause-refused c =
    let p = err_from_is_err_and c.from_residual-in_err-value-in-Assign.result c.from_residual-in_err-value-in-Assign.ensures.1 in
    rw (p.1, p.2) (local_value_refused c.args.text.bytes.now c.args.text.end c.args.depth c.args.cursor.now.tokens.now c.take_name.new.self.tokens.now c.pass.new.self.tokens.now (name_tree c.in_ok-name.name) c.in_err-value-in-Assign.field-0.0 c.requires c.in_ok-name.ensures.taken (cc (c.in-Assign.ensures)) c.pass.ensures c.in_err-value-in-Assign.ensures.refused)

pub returns-in_ok-words-in-LeftBracket-clause-read : goal.returns-in_ok-words-in-LeftBracket-clause-read
returns-in_ok-words-in-LeftBracket-clause-read c = local_array c.args.text.bytes.now c.args.text.end c.args.depth c.args.cursor.now.tokens.now c.take_name.new.self.tokens.now c.size.new.cursor.tokens.now (name_tree c.in_ok-name.name) c.in_ok-words-in-LeftBracket.words c.requires c.in_ok-name.ensures.taken c.in_ok-words-in-LeftBracket.ensures.read

pub returns-in_ok-value-in-Assign-clause-read : goal.returns-in_ok-value-in-Assign-clause-read
returns-in_ok-value-in-Assign-clause-read c = local_with c.args.text.bytes.now c.args.text.end c.args.depth c.args.cursor.now.tokens.now c.take_name.new.self.tokens.now c.pass.new.self.tokens.now c.expression.new.cursor.tokens.now (name_tree c.in_ok-name.name) (raw_expr_tree c.in_ok-value-in-Assign.value) c.requires c.in_ok-name.ensures.taken (cc (c.in-Assign.ensures)) c.pass.ensures c.in_ok-value-in-Assign.ensures.read

pub returns-in_default : goal.returns-in_default
returns-in_default c =
    let e = c.sign.ensures in
    record {
      read = local_scalar c.args.text.bytes.now c.args.text.end c.args.depth c.args.cursor.now.tokens.now c.take_name.new.self.tokens.now (name_tree c.in_ok-name.name) c.requires c.in_ok-name.ensures.taken (λ n. c.in_default.not-LeftBracket (e ∙ n)) (λ n. c.in_default.not-Assign (e ∙ n));
      refused = tt;
    }
