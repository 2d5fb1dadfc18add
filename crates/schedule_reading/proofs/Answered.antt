-- A call that is answered at once: the thread goes on with its result.
use Rattle.schedule_reading.proofs.Common.{◌≡◌, ℕ, List, ◌++◌, length, Option, Some, None, sym, ap, ◌∙◌, subst, arith, Ask, TrapKind, ImmediateRow, immediate_row, source_resume, Segment, with_printed, with_started, ProgramTree, Given, State, same_next, SchedulerState, IsThread, globals_of, running_of, waiting_of, Thread, Under, CrowdsAt, GoesTo, MayAnswer, TrapsAt, Core, AreBeside, ThreadsState}
use Rattle.schedule_reading.proofs.Leading.{answered, goes_on, traps_now}

-- a thread goes on with a result
pub record Resumes (tree : ProgramTree) (old : Thread) (old_words : List ℕ) (word : ℕ) (new : Thread) (words : List ℕ) : Type 0 where
  pub goes_on_is : running_of tree new words ≡ source_resume (waiting_of tree old) (record { result = word; globals = globals_of tree old_words })
  pub thread : IsThread tree new words

pub resumes_in : (tree other : ProgramTree) → tree ≡ other → (old : Thread) (old_words : List ℕ) (word : ℕ) (new : Thread) (words : List ℕ) →
    running_of tree new words ≡ source_resume (waiting_of tree old) (record { result = word; globals = globals_of tree old_words }) → IsThread tree new words → Resumes other old old_words word new words
resumes_in tree other e old old_words word new words goes is =
    subst (λ (t : ProgramTree). Resumes t old old_words word new words) e (record { goes_on_is = goes; thread = is })

module _ (g : Given) (state : State) (last : Segment) (k : Core) (under : Under) (ask : Ask) (may : MayAnswer g state last k under ask) where
  abbrev pub row : ImmediateRow
  row = immediate_row g.policy.caps last.world.exchange last.number (length last.world.threads) ask

  pub went_on : (word : ℕ) (outputs : List (ℕ × ℕ)) (threads : ThreadsState) (scheduler : SchedulerState) (words : List ℕ) (thread : Thread) →
      row.trap ≡ None → row.result ≡ word → with_printed last.number last.world.outputs row.prints ≡ last.world.outputs ++ outputs →
      AreBeside g state (with_started last.world.threads row.starts) row.after last.number threads scheduler under.choice.thread →
      Resumes g.program under.thread k.words word thread words →
      GoesTo g state last outputs (record k { words = words; threads = threads; scheduler = scheduler }) (record under { thread = thread })
  went_on word outputs threads scheduler words thread none result printed beside resumes = record {
    after = answered g.program g.policy.caps last under.thread k.words ask may.asks;
    goes = goes_on g.program g.policy.caps last under.thread k.words ask may.asks none;
    outputs_are = printed;
    runs = record {
      beside = beside;
      thread = resumes.thread;
      running = resumes.goes_on_is ∙ ap (λ (n : ℕ). source_resume (waiting_of g.program under.thread) (record { result = n; globals = globals_of g.program k.words })) (sym result);
    };
  }

  pub trapped : (kind : TrapKind) → row.trap ≡ Some kind → TrapsAt g last kind
  trapped kind some = record {
    world = record last.world { globals = globals_of g.program k.words };
    stops = traps_now g.program g.policy.caps last under.thread k.words ask may.asks kind some;
  }

  abbrev answer_of : Segment
  answer_of = answered g.program g.policy.caps last under.thread k.words ask may.asks

  -- a call that starts no thread doesn't start one too many
  pub starts_none : row.trap ≡ None → row.starts ≡ None → CrowdsAt g last → ⊥
  starts_none none no_start crowds =
      let same : answer_of ≡ crowds.1.after = same_next answer_of crowds.1.after (sym (goes_on g.program g.policy.caps last under.thread k.words ask may.asks none) ∙ crowds.1.goes) in
      let count : length (with_started last.world.threads row.starts) ≡ length crowds.1.after.world.threads = ap (λ (s : Segment). length s.world.threads) same in
      let still : length (with_started last.world.threads row.starts) ≡ length last.world.threads = ap (λ (o : Option (ℕ × ℕ)). length (with_started last.world.threads o)) no_start in
      let more = crowds.1.one_more in
      omega (arith, count, still, more)
