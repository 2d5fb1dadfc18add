use Rattle.std.proofs.Common.{refl}
use Rattle.c_lex.proofs.PieceLemmas.{mark_token, bad_byte}
use Rattle.c_lex.proofs.pieces.mark_piece.Goals as goal

pub returns-in-Some-clause-piece : goal.returns-in-Some-clause-piece
returns-in-Some-clause-piece c =
    rw c.text.ensures (mark_token c.args.text.now c.in-Some.mark c.in-Some.ensures.found c.in-Some.ensures.longest c.requires.comment)

pub returns-in-None-clause-none : goal.returns-in-None-clause-none
returns-in-None-clause-none c = (refl, bad_byte c.args.text.now c.requires.nonempty c.requires.space c.requires.word c.in-None.ensures.none)
