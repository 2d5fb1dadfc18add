use Rattle.std.proofs.Common.{◌∙◌, ap, w32, of_z}
use Rattle.std.proofs.lemmas.Int.{to_z-of_z}
use Rattle.cap_word.proofs.WordLemmas.{of_z-word_of}
use Rattle.cap_word.proofs.words.word_of.Goals as goal

pub returns : goal.returns
returns c =
    c.cast_unsigned.ensures ∙ ap (of_z w32) (to_z-of_z w32 c.args.z c.ranges.z) ∙ of_z-word_of c.args.z c.ranges.z
