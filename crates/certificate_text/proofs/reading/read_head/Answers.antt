use Rattle.std.proofs.Common.{refl}
use Rattle.certificate_text.proofs.Heads.{title_breaks, chunk_breaks, path_breaks, count_breaks}
use Rattle.certificate_text.proofs.reading.read_head.Goals as goal

pub returns-then-not-read_title-clause-refused : goal.returns-then-not-read_title-clause-refused
returns-then-not-read_title-clause-refused c = (0, refl, title_breaks _ c.if-not-read_title.ensures)

pub returns-in_default-clause-refused : goal.returns-in_default-clause-refused
returns-in_default-clause-refused c = (1, refl, chunk_breaks _ _ c.if-not-read_title.ensures c.in_default.ensures.none)

pub returns-in_default-number_line-clause-refused : goal.returns-in_default-number_line-clause-refused
returns-in_default-number_line-clause-refused c =
    (2, refl, path_breaks _ _ _ c.in-Some.chunk c.if-not-read_title.ensures c.in-Some.ensures.found.0 c.in-Some.ensures.found.1 c.in_default-number_line.ensures.none)

pub returns-in_default-number_line-2-clause-refused : goal.returns-in_default-number_line-2-clause-refused
returns-in_default-number_line-2-clause-refused c = (
  3,
  refl,
  count_breaks _ _ _ _ c.in-Some.chunk c.in-Some-number_line.max_path c.if-not-read_title.ensures c.in-Some.ensures.found.0 c.in-Some.ensures.found.1
      c.in-Some-number_line.ensures.found.0 c.in-Some-number_line.ensures.found.1 c.in_default-number_line-2.ensures.none,
)
