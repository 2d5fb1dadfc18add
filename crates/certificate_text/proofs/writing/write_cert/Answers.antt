use Rattle.certificate_text.proofs.Common.{subst, AllByRecursion, HoldsFunctionWords, HoldsSiteWords}
use Rattle.certificate_text.proofs.writing.write_cert.Goals as goal

pub returns-clause-words : goal.returns-clause-words
returns-clause-words c = record {
  chunk = c.put_number_line.ensures.word;
  max_path = c.put_number_line-2.ensures.word;
  functions = subst (AllByRecursion HoldsFunctionWords) c.as_slice-functions.ensures c.in_ok-put_functions.ensures.words;
  sites = subst (AllByRecursion HoldsSiteWords) c.as_slice-sites.ensures c.in_ok-put_sites.ensures.words;
}
