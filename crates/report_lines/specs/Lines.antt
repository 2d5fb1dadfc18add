-- The lines of a report, from their numbers, without their line feeds.
use Rattle.std.specs.Prelude.{ℕ, List, ◌++◌, codes}
use Rattle.std.specs.Fmt.{decimal}
use Rattle.report_lines.specs.declared.lines.RequestsLine.{RequestsLine}
use Rattle.report_lines.specs.declared.lines.WaitsPart.{WaitsPart}
use Rattle.report_lines.specs.declared.lines.ChunksLine.{ChunksLine}

abbrev pub requests_line : RequestsLine → List ℕ
requests_line l =
    codes "requests: " ++ decimal l.came ++ codes " came, " ++ decimal l.dropped ++ codes " dropped, "
    ++ decimal l.taken ++ codes " taken, " ++ decimal l.answered ++ codes " answered"

-- the part of a place's line about its waits
abbrev pub waits_part : WaitsPart → List ℕ
waits_part p =
    decimal p.count ++ codes ", " ++ decimal p.total ++ codes ", " ++ decimal p.median ++ codes ", "
    ++ decimal p.ninety_ninth ++ codes ", " ++ decimal p.greatest

abbrev pub chunks_line : ChunksLine → List ℕ
chunks_line l = codes "chunks: at most " ++ decimal l.most_held ++ codes " of " ++ decimal l.chunks ++ codes " held between segments"
