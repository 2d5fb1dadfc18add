use Rattle.run_course.proofs.Common.{◌∙◌, ◌≡◌, w32, FitsSigned, rules, subst, ap, ◌∷◌, ◌++◌, [], ℤ, arith, to_z-of_z, entry_text, Entry, PutsText, output_of, under_rank, turn_rank}
use Rattle.run_course.proofs.Putting.{may_proceed, put_inside, put_next, put_part}
use Rattle.run_course.proofs.course.Course.put.Goals as goal

pub proceed-requires : goal.proceed-requires
proceed-requires g c =
    may_proceed c.requires.turn.0 (put_next c.requires.turn.0 c.requires.turn.1 c.args.self.now c.args.world.now c.requires.turn.2 c.args.under c.requires.turn.3 c.args.value c.requires.turn.4) c.args.self.now c.args.world.now c.requires.turn.2 c.args.under.choice c.args.under.before
    (put_inside c.requires.turn.0 c.requires.turn.1 c.args.self.now c.args.world.now c.requires.turn.2 c.args.under c.requires.turn.3 c.args.value c.requires.turn.4)

pub returns-clause-ends : goal.returns-clause-ends
returns-clause-ends g c = λ s state left stands.
    let fits : FitsSigned w32 c.signed_word.result = search rules in
    let inside = put_inside s state c.args.self.now c.args.world.now left c.args.under stands c.args.value c.requires.turn.4 in
    put_part s state c.args.self.now c.args.world.now left c.args.under stands c.args.value c.requires.turn.4 c.proceed.new.self c.proceed.new.world
    (c.proceed.ensures.goes_on s _ left inside) (c.proceed.ensures.ticks s _ left inside) (output_of c.args.writer.now (g.K.Sink.taken c.args.out.now)) (output_of c.write_line.new.writer (g.K.Sink.taken c.write_line.new.out)) c.write_line.result
    (subst (λ (v : ℤ). PutsText (output_of c.args.writer.now (g.K.Sink.taken c.args.out.now)) (output_of c.write_line.new.writer (g.K.Sink.taken c.write_line.new.out)) (entry_text (Entry.Out c.args.under.choice.thread.number v) ++ 10 ∷ []) c.write_line.result) (to_z-of_z w32 c.signed_word.result fits ∙ c.signed_word.ensures) c.write_line.ensures.bytes)

pub returns-clause-falls : goal.returns-clause-falls
returns-clause-falls g c = λ under_is.
    let two : under_rank c.args.self.now.under ≡ 2 = ap under_rank under_is ∙ ap turn_rank c.requires.turn.4 in
    c.proceed.ensures.falls c.requires.turn.0 (put_next c.requires.turn.0 c.requires.turn.1 c.args.self.now c.args.world.now c.requires.turn.2 c.args.under c.requires.turn.3 c.args.value c.requires.turn.4) c.requires.turn.2
    (put_inside c.requires.turn.0 c.requires.turn.1 c.args.self.now c.args.world.now c.requires.turn.2 c.args.under c.requires.turn.3 c.args.value c.requires.turn.4) (omega (arith, two))
