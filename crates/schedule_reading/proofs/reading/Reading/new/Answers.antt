use Rattle.schedule_reading.proofs.Common.{◌≡◌, ℕ, [], None, subst, IfOk-at_ok, HasFirst, HasSource}
use Rattle.c_tree.specs.ProgramView.{program_tree}
use Rattle.schedule_reading.proofs.Starting.{stands_made}
use Rattle.schedule_reading.proofs.reading.Reading.new.Goals as goal

pub returns-in-Ok-clause-stands : goal.returns-in-Ok-clause-stands
returns-in-Ok-clause-stands g c = λ trace.
    let program = program_tree c.args.program.now in
    let source = IfOk-at_ok (λ made. HasSource program made.0 made.1.items) c.in-Ok.ensures.first c.source_of.ensures in
    let first = IfOk-at_ok (λ made. HasFirst c.args.policy.backlog c.args.policy.caps c.main_number.result made.0 made.1) c.in-Ok.ensures.second c.first_of.ensures in
    let of_main = subst (λ (n : ℕ). HasFirst c.args.policy.backlog c.args.policy.caps n c.in-Ok.first.0 c.in-Ok.first.1) c.main_number.ensures first in
    let reader = IfOk-at_ok (λ reader. reader ≡ record { held = []; lines = 0; last = 0; refused = None }) c.in-Ok.ensures.third c.new.ensures in
    stands_made program c.args.policy c.args.monitor c.requires c.args.program.now.well_scoped c.in-Ok.source.0 c.in-Ok.source.1.items source c.in-Ok.first.0 c.in-Ok.first.1 of_main trace
    c.new-in-Ok.result c.new-in-Ok.ensures c.in-Ok.reader reader
