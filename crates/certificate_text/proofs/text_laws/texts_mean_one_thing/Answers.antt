use Rattle.certificate_text.proofs.Spellings.{spelling_unique, first_refused_unique, spelling_unrefused}
use Rattle.certificate_text.proofs.text_laws.texts_mean_one_thing.Goals as goal

pub returns-clause-one_certificate : goal.returns-clause-one_certificate
returns-clause-one_certificate c = spelling_unique

pub returns-clause-one_refusal : goal.returns-clause-one_refusal
returns-clause-one_refusal c = first_refused_unique

pub returns-clause-never_both : goal.returns-clause-never_both
returns-clause-never_both c = spelling_unrefused
