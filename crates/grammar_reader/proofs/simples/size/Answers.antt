use Rattle.grammar_reader.proofs.Common.{err_from_is_err_and}
use Rattle.grammar_reader.proofs.LocalRules.{size_not_opened, size_no_number_refused, size_open_end_refused, size_read}
use Rattle.grammar_reader.proofs.simples.size.Goals as goal

pub returns-in_err-_inside-clause-refused : goal.returns-in_err-_inside-clause-refused
returns-in_err-_inside-clause-refused c =
    let p = err_from_is_err_and c.from_residual.result c.from_residual.ensures.1 in
    rw (p.1, p.2) (size_not_opened c.args.text.end c.args.depth c.args.cursor.now.tokens.now c.in_err-_inside.field-0.0 c.in_err-_inside.ensures.refused)

pub returns-in_err-words-clause-refused : goal.returns-in_err-words-clause-refused
returns-in_err-words-clause-refused c =
    let p = err_from_is_err_and c.from_residual-in_err-words.result c.from_residual-in_err-words.ensures.1 in
    rw (p.1, p.2) (size_no_number_refused c.args.text.end c.args.depth c.in_ok-_inside._inside c.args.cursor.now.tokens.now c.open_with.new.self.tokens.now c.in_err-words.field-0.0 c.in_ok-_inside.ensures.opened c.in_ok-_inside.ensures.fits c.in_err-words.ensures.place c.in_err-words.ensures.other)

pub returns-in_err-take-clause-refused : goal.returns-in_err-take-clause-refused
returns-in_err-take-clause-refused c =
    let p = err_from_is_err_and c.from_residual-in_err-take.result c.from_residual-in_err-take.ensures.1 in
    rw (p.1, p.2) (size_open_end_refused c.args.text.end c.args.depth c.in_ok-_inside._inside c.args.cursor.now.tokens.now c.open_with.new.self.tokens.now c.take_number.new.self.tokens.now c.in_ok-words.words c.in_err-take.field-0.0 c.in_ok-_inside.ensures.opened c.in_ok-_inside.ensures.fits c.in_ok-words.ensures.taken c.in_err-take.ensures.place c.in_err-take.ensures.other)

pub returns-clause-read : goal.returns-clause-read
returns-clause-read c = size_read c.args.text.end c.args.depth c.in_ok-_inside._inside c.args.cursor.now.tokens.now c.open_with.new.self.tokens.now c.take_number.new.self.tokens.now c.take.new.self.tokens.now c.in_ok-words.words c.in_ok-_inside.ensures.opened c.in_ok-_inside.ensures.fits c.in_ok-words.ensures.taken c.in_ok-take.ensures.taken
