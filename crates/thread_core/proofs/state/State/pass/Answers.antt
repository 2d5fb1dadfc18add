use Rattle.thread_core.proofs.Common.{◌≡◌, Some, sym, subst, get, checked_of, code_of, local_of, RestsBefore, RestsBehind, Context, Record}
use Rattle.thread_core.proofs.RecordLaws.{some_of}
use Rattle.thread_core.proofs.state.State.pass.Goals as goal
use Rattle.thread_core.proofs.state.State.pass.Goals.{in-Some, in_default}

pub returns-clause-rests : goal.returns-clause-rests
returns-clause-rests c = λ accepted areas valid before.
    let some : (r : Record) × (get c.args.self.now.records c.args.thread.slot ≡ Some r) = some_of (get c.args.self.now.records c.args.thread.slot) c.requires.there in
    let here : RestsBefore (checked_of accepted) (local_of areas c.context-context.result) =
    subst (λ (x : Context). RestsBefore (checked_of accepted) (local_of areas x)) (sym (c.context-context.ensures some.0 some.1)) (before some.0 some.1) in
    let behind : RestsBehind (checked_of accepted) (code_of accepted) (local_of areas c.retire.new.context) = c.retire.ensures.rests accepted areas valid here in
    elim c.match-answer.branch [
      | in_default w ↦ rw w.context-is behind
      | in-Some w ↦ rw w.context-is (w.reply.ensures.rests accepted areas behind)
    ]
