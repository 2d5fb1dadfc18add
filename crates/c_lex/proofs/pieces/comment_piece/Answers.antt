use Rattle.std.proofs.Common.{inl, inr}
use Rattle.c_lex.proofs.PieceLemmas.{comment_gap}
use Rattle.c_lex.proofs.pieces.comment_piece.Goals as goal

pub returns-then-starts_with-clause-piece : goal.returns-then-starts_with-clause-piece
returns-then-starts_with-clause-piece c =
    comment_gap c.args.text.now _ c.line_comment_length-length.ensures.within (inl c.line_comment_length-length.ensures.comment)

pub returns-in-Some-clause-piece : goal.returns-in-Some-clause-piece
returns-in-Some-clause-piece c = comment_gap c.args.text.now _ c.in-Some.ensures.within (inr c.in-Some.ensures.comment)
