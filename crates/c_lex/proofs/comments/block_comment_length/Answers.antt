use Rattle.c_lex.proofs.Common.{take_rest}
use Rattle.c_lex.proofs.CommentLemmas.{block_comment, open_comment}
use Rattle.c_lex.proofs.comments.block_comment_length.Goals as goal

pub returns-in_err-place-clause-none : goal.returns-in_err-place-clause-none
returns-in_err-place-clause-none c =
    rw c.from_residual.ensures (open_comment c.args.text.now c.requires (rw (take_rest c.args.text.now 2) at c.in_err-place.ensures.none))

pub returns-clause-comment : goal.returns-clause-comment
returns-clause-comment c =
    let rest = take_rest c.args.text.now 2 in
    block_comment c.args.text.now c.in_ok-place.place c.requires (rw rest at c.in_ok-place.ensures.within) (rw rest at c.in_ok-place.ensures.star) (rw rest at c.in_ok-place.ensures.slash) (rw rest at c.in_ok-place.ensures.first)
