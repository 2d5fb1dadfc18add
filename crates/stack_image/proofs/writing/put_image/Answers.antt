use Rattle.std.proofs.Common.{subst}
use Rattle.stack_image.proofs.WordBytes.{AreWords}
use Rattle.stack_image.proofs.writing.put_image.Goals as goal

pub returns-clause-words : goal.returns-clause-words
returns-clause-words c = record {
  code = subst AreWords c.as_slice.ensures c.put_words-2.ensures.words;
  globals = subst AreWords c.as_slice-2.ensures c.put_words-3.ensures.words;
  tables = subst AreWords c.as_slice-3.ensures c.put_words-4.ensures.words;
  entries = subst AreWords c.as_slice-4.ensures c.put_words-5.ensures.words;
}
