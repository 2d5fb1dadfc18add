use Rattle.std.proofs.Common.{refl}
use Rattle.c_lex.proofs.PieceLemmas.{IsWordFront, IsWordFront-word, word_token, bad_number}
use Rattle.c_lex.proofs.pieces.word_piece.Goals as goal
use Rattle.c_lex.proofs.pieces.word_piece.Goals.{After-word_length-length}

-- what `word_length` found
front : (c : After-word_length-length) → IsWordFront c.args.text.now c.word_length-length.result
front c = record {
  some = c.requires.nonempty;
  first = c.requires.word;
  within = c.word_length-length.ensures.within;
  each = c.word_length-length.ensures.word;
  ends = c.word_length-length.ensures.longest;
}

pub word_kind-requires : goal.word_kind-requires
word_kind-requires c = IsWordFront-word _ _ (front c)

pub returns-in-Some-clause-piece : goal.returns-in-Some-clause-piece
returns-in-Some-clause-piece c = word_token _ _ _ (front (goal.at.returns-in-Some-clause-piece c).After-word_length-length) c.in-Some.ensures.kind

pub returns-in-None-clause-none : goal.returns-in-None-clause-none
returns-in-None-clause-none c = (refl, bad_number _ _ (front (goal.at.returns-in-None-clause-none c).After-word_length-length) c.in-None.ensures.digit c.in-None.ensures.none)
