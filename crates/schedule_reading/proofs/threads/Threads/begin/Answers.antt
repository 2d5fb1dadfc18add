use Rattle.schedule_reading.proofs.Common.{◌≡◌, ap, ◌∙◌, subst, sym, started, tree_of, IsThread, globals_of, running_of, Thread, option_to_list, HasBegun, AreUntrapped, ThreadsState}
use Rattle.schedule_reading.specs.declared.threads.Rest.TheVariants as rest
use Rattle.schedule_reading.proofs.Setting.{begun_blocked, begun_fresh, if_both, may_resume, blocked_thread}
use Rattle.schedule_reading.proofs.threads.Threads.begin.Goals as goal

pub resume-word-requires : goal.resume-word-requires
resume-word-requires c =
    let may = c.requires.may in
    let blocked : may.slot.rest ≡ rest.Blocked c.in-Blocked.block c.in-Blocked.thread = sym (c.set_out.ensures.rest may.slot may.there) ∙ c.in-Blocked.is in
    let all : AreUntrapped c.args.self.now.exchange c.args.self.now.waits = subst (λ (t : ThreadsState). AreUntrapped t.exchange t.waits) c.self.view_is c.self.invariant in
    may_resume (tree_of c.args.interpreter.now) c.args.self.now c.args.globals.now.items c.args.chosen may c.in-Blocked.block c.in-Blocked.thread blocked all c.self-2.inside.exchange
    (ap (λ (t : ThreadsState). t.exchange) (c.self-2.view_is ∙ c.set_out.ensures.after))

pub resume-requires-clause-thread : goal.resume-requires-clause-thread
resume-requires-clause-thread c =
    let may = c.requires.may in
    let blocked : may.slot.rest ≡ rest.Blocked c.in-Blocked.block c.in-Blocked.thread = sym (c.set_out.ensures.rest may.slot may.there) ∙ c.in-Blocked.is in
    blocked_thread (tree_of c.args.interpreter.now) c.args.self.now c.args.globals.now.items c.args.chosen may c.in-Blocked.block c.in-Blocked.thread blocked

pub returns-in-Fresh : goal.returns-in-Fresh
returns-in-Fresh c =
    let tree = tree_of c.args.interpreter.now in
    let may = c.requires.may in
    let words = c.args.globals.now.items in
    let fresh : may.slot.rest ≡ rest.Fresh c.in-Fresh.function c.in-Fresh.argument = sym (c.set_out.ensures.rest may.slot may.there) ∙ c.in-Fresh.is in
    if_both c.start.result (λ (thread : Thread). running_of tree thread words ≡ started tree c.in-Fresh.function (option_to_list c.in-Fresh.argument) (globals_of tree words)) (λ (thread : Thread). IsThread tree thread words)
    (HasBegun tree c.args.self.now words c.set_out.new.self words c.args.chosen)
    (λ thread runs is. begun_fresh tree c.args.self.now words c.args.chosen may c.set_out.new.self c.set_out.ensures.away c.set_out.ensures.others c.set_out.ensures.after c.in-Fresh.function c.in-Fresh.argument fresh thread runs is)
    (c.start.ensures.started words) (c.start.ensures.thread words may.full)

pub returns-in-Blocked : goal.returns-in-Blocked
returns-in-Blocked c =
    let tree = tree_of c.args.interpreter.now in
    let may = c.requires.may in
    let words = c.args.globals.now.items in
    let blocked : may.slot.rest ≡ rest.Blocked c.in-Blocked.block c.in-Blocked.thread = sym (c.set_out.ensures.rest may.slot may.there) ∙ c.in-Blocked.is in
    let same : c.self-2.inside.exchange ≡ c.args.self.now.exchange = ap (λ (t : ThreadsState). t.exchange) (c.self-2.view_is ∙ c.set_out.ensures.after) in
    subst (λ (t : ThreadsState). HasBegun tree c.args.self.now words (record t { exchange = c.resume-word.new.self }) c.resume.new.globals.items c.args.chosen c.resume.new.thread) (sym c.self-2.view_is)
    (begun_blocked tree c.args.self.now words c.args.chosen may c.set_out.new.self c.set_out.ensures.away c.set_out.ensures.others c.set_out.ensures.after c.in-Blocked.block c.in-Blocked.thread blocked
    c.self-2.inside.exchange c.resume-word.new.self same c.resume-word.ensures.after c.resume-word.result c.resume-word.ensures.result_is c.resume.new.globals.items c.resume.new.thread c.resume.ensures.goes_on c.resume.ensures.thread)
