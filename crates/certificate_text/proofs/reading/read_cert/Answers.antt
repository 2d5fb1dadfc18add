use Rattle.certificate_text.proofs.Causes.{reads_again, refuses_exactly}
use Rattle.certificate_text.proofs.reading.read_cert.Goals as goal

pub returns-clause-again : goal.returns-clause-again
returns-clause-again c = reads_again _ c.read_parts.result c.read_parts.ensures.spelled c.read_parts.ensures.refused

pub returns-clause-exact : goal.returns-clause-exact
returns-clause-exact c = refuses_exactly _ c.read_parts.result c.read_parts.ensures.spelled c.read_parts.ensures.limits c.read_parts.ensures.words c.read_parts.ensures.refused
