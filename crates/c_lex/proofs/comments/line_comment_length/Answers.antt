use Rattle.c_lex.proofs.Common.{take_rest}
use Rattle.c_lex.proofs.CommentLemmas.{line_comment}
use Rattle.c_lex.proofs.comments.line_comment_length.Goals as goal

pub returns-clause-comment : goal.returns-clause-comment
returns-clause-comment c =
    let rest = take_rest c.args.text.now 2 in
    line_comment c.args.text.now c.line_length.result c.requires (rw rest at c.line_length.ensures.within) (rw rest at c.line_length.ensures.one_line) (rw rest at c.line_length.ensures.ended)
