use Rattle.lawful_reading.proofs.Judgements as law
use Rattle.lawful_reading.proofs.exclusion.verdicts_exclude_each_other.Goals as goal

pub returns : goal.returns
returns c = record {
  lawful_unlawful = λ g trace log line. law.lawful_unlawful g trace log line;
  lawful_too_long = λ g trace log line. law.lawful_too_long g trace log line;
  unlawful_too_long = λ g trace log line other. law.unlawful_too_long g trace log line other;
  one_unlawful = λ g trace log line other. law.one_unlawful g trace log line other;
  one_too_long = λ g trace log line other. law.one_too_long g trace log line other;
}
