use Rattle.run_course.proofs.Common.{sym, subst, ◌≡◌, ◌<◌, ◌∷◌, ◌++◌, [], ℕ, Some, ◌∙◌, ap, refl, entry_text, Entry, PutsText, output_of, Kept, coming_line, long_rank, lines_rank, IsAtPoint, Next}
use Rattle.run_course.proofs.Delivering.{delivered_part}
use Rattle.run_course.proofs.Pointed.{next_event, keeps_event, long_event, lines_event}
use Rattle.run_course.proofs.course.Course.deliver.Goals as goal

pub returns-clause-ends : goal.returns-clause-ends
returns-clause-ends g c = λ s state left at due.
    let is = subst (λ (k : Kept). IsAtPoint s state k c.args.world.now left (Some c.args.event)) (sym c.self.view_is) at in
    let event = next_event s state _ c.args.world.now left (Some c.args.event) is c.args.event refl in
    let entry = c.coming_entry.ensures ∙ ap (λ (n : ℕ). coming_line n c.args.event.kind c.deliver-delivered.result) c.clock.ensures in
    delivered_part s state _ c.args.world.now left is.stands c.args.event event c.deliver-delivered.result c.deliver-delivered.ensures.answer c.deliver-delivered.new.self c.deliver-delivered.ensures.after is.between is.live due
    (output_of c.args.writer.now (g.K.Sink.taken c.args.out.now)) (output_of c.write_line.new.writer (g.K.Sink.taken c.write_line.new.out)) c.write_line.result
    (subst (λ (e : Entry). PutsText (output_of c.args.writer.now (g.K.Sink.taken c.args.out.now)) (output_of c.write_line.new.writer (g.K.Sink.taken c.write_line.new.out)) (entry_text e ++ 10 ∷ []) c.write_line.result) entry c.write_line.ensures.bytes)

pub returns-clause-long_rank : goal.returns-clause-long_rank
returns-clause-long_rank g c =
    let k : Kept = record { rule = c.self.inside.rule; graph = c.self.inside.graph; monitor = c.self.inside.monitor; reader = c.self.inside.reader; next = c.self.inside.next; under = c.self.inside.under } in
    long_event c.args.world.now c.deliver-delivered.new.self c.args.event.kind c.deliver-delivered.ensures.after k ∙ ap (λ (k' : Kept). long_rank k' c.args.world.now) c.self.view_is

pub returns-clause-lines_rank : goal.returns-clause-lines_rank
returns-clause-lines_rank g c = λ next_is.
    let k : Kept = record { rule = c.self.inside.rule; graph = c.self.inside.graph; monitor = c.self.inside.monitor; reader = c.self.inside.reader; next = c.self.inside.next; under = c.self.inside.under } in
    let here : k.next ≡ Next.Event c.args.event = ap (λ (k' : Kept). k'.next) c.self.view_is ∙ next_is in
    subst (λ (k' : Kept). lines_rank (record k { next = Next.Unread }) < lines_rank k') c.self.view_is (lines_event k c.args.event here)

pub returns-clause-keeps : goal.returns-clause-keeps
returns-clause-keeps g c = keeps_event c.args.world.now c.deliver-delivered.new.self c.args.event.kind c.deliver-delivered.ensures.after
