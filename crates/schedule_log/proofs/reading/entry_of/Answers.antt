use Rattle.schedule_log.proofs.Common.{◌≡◌, [], length, sym, ap, ◌∙◌, arith, pieces}
use Rattle.cap_text.proofs.PieceSteps.{some_pieces}
use Rattle.schedule_log.proofs.EntryPieces.{entry_found, no_entry}
use Rattle.schedule_log.proofs.reading.entry_of.Goals as goal

pub returns-in_err-word-clause-none : goal.returns-in_err-word-clause-none
returns-in_err-word-clause-none c =
    let none : pieces 32 c.args.line.now ≡ [] = sym c.new-fields.ensures ∙ c.in_err-word.ensures.0 in
    let some = some_pieces 32 c.args.line.now in
    absurd (omega (arith, ap length none))

pub returns-clause-found : goal.returns-clause-found
returns-clause-found c = entry_found _ _ _ c.read_line.result (sym c.new-fields.ensures ∙ c.in_ok-word.ensures) c.read_line.ensures.found

pub returns-clause-none : goal.returns-clause-none
returns-clause-none c = no_entry _ _ _ c.read_line.result (sym c.new-fields.ensures ∙ c.in_ok-word.ensures) c.read_line.ensures.none
