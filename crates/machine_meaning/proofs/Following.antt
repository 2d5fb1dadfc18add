-- Flat code follows the source: threads under way, whatever the world answers.
use Rattle.machine_meaning.proofs.Common.{List, [], ◌∷◌, Some, refl, sym, ◌∙◌, subst, Follows, ProgramTree, Running, to_do, performs_first, source_machine, Item, GiveBackWord, Op, FlatCode, FlatThread, returns, flat_machine, finishing}
use Rattle.machine_meaning.proofs.Silent.{step_is, on_has}
use Rattle.machine_meaning.proofs.Frames.{base, Lowers, thread_of, Under, UnderWay, Giving, Failing, WaitUnder, delivers}
use Rattle.machine_meaning.proofs.LoweredSteps.{Answers, answers_later}
use Rattle.machine_meaning.proofs.Items.{returned_by, items_answer}

module _ (program : ProgramTree) (code : FlatCode) (given : Lowers program code) where
  step_answers : (thread : Running) (flat : FlatThread) → Under program code thread flat → Answers program code (performs_first program thread thread.frame.to_do) flat
  step_answers thread flat (UnderWay p vars below leads runs waits) =
      answers_later program code (performs_first program thread thread.frame.to_do) flat (thread_of program code thread p vars below) leads
      (items_answer program code given thread below waits thread.frame.to_do p vars runs.scope runs.stands runs.holds)
  step_answers thread flat (Giving p vars below word does_ leads return_ has waits) =
      subst (λ (items : List Item). Answers program code (performs_first program thread items) flat) (sym does_)
      (answers_later program code (performs_first program thread (GiveBackWord word ∷ [])) flat (thread_of program code thread p vars below) leads
      (returned_by program code given (to_do thread []) (thread_of program code thread p vars below) thread.below below word refl waits
      (step_is code thread.frame.function below thread.globals p vars (Op.Return (Some (base program code thread.frame.function))) return_
      ∙ on_has vars (base program code thread.frame.function) word (returns code (thread_of program code thread p vars below) below) has)))
  step_answers thread flat (Failing trap does_ ends) =
      subst (λ (items : List Item). Answers program code (performs_first program thread items) flat) (sym does_) (ends.count, ends.stops)

  pub follows : Follows (Under program code) (WaitUnder program code) (finishing (source_machine program)) (flat_machine code)
  follows = record {
    steps = step_answers;
    resumes = λ waiting other answer h. delivers program code waiting.front waiting.below other.frame other.below answer.globals answer.result h.front h.below;
  }
