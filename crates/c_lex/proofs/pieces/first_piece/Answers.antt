use Rattle.std.proofs.Common.{sym}
use Rattle.c_lex.proofs.PieceLemmas.{space_gap}
use Rattle.c_lex.proofs.pieces.first_piece.Goals as goal

pub returns-then-is_white_space-clause-piece : goal.returns-then-is_white_space-clause-piece
returns-then-is_white_space-clause-piece c = space_gap c.args.text.now c.requires (sym c.if-is_white_space.ensures)
