use Rattle.certificate_text.proofs.TitleLine.{title_told, no_title}
use Rattle.certificate_text.proofs.reading.read_title.Goals as goal

pub returns-in-Some : goal.returns-in-Some
returns-in-Some c = title_told _ c.in-Some.line.now _ c.is_same.result c.in-Some.ensures.line.0 c.in-Some.ensures.line.1 c.is_same.ensures

pub returns-in-None : goal.returns-in-None
returns-in-None c = no_title _ c.in-None.ensures.none
