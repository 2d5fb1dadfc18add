-- What a call that is answered at once comes to, by what is kept after its answer.
use Rattle.schedule_reading.proofs.Common.{◌≡◌, ℕ, ◌-◌, ◌≤◌, Bool, true, List, [], ◌∷◌, ◌++◌, length, Option, Some, None, Ok, refl, sym, ap, ◌∙◌, subst, arith, append-nil, length-set, IfSome, is_none, if◌then◌else◌, Ask, ThreadId, TrapKind, Exchange, ImmediateRow, immediate_row, resource_trap, use_of, with_use, source_resume, Segment, with_printed, with_started, latest, Given, most_threads, State, Need, tree_of, IsThread, globals_of, running_of, waiting_of, wake_of, Wait, Under, HasAdded, KeepsAll, Answers, GoesTo, KeepsBut, MayAnswer, Core, AreBeside, IsTimely, ThreadsState, at_place, length_push}
use Rattle.c_mean.specs.World as source
use Rattle.scheduler.specs.State.{SchedulerState, IsJoined, IsTold, last_of}
use Rattle.thread_exchange.specs.Exchanges.{Exchanging, after_ask}
use Rattle.schedule_reading.specs.declared.events.Happening.TheVariants as happening
use Rattle.schedule_reading.proofs.Adding.{beside_more}
use Rattle.schedule_reading.proofs.Answered.{Resumes, resumes_in, row, starts_none, trapped, went_on}
use Rattle.schedule_reading.proofs.Keeping.{beside_other}
use Rattle.schedule_reading.proofs.Leading.{answered, goes_on}

-- the thread went on with this word, after what threads meet and the queues had changed
pub record HasResumed (k mid new : Core) (under under' : Under) (word : ℕ) : Type 0 where
  pub mid_is : mid ≡ record k { threads = mid.threads; scheduler = mid.scheduler }
  pub new_is : new ≡ record mid { words = new.words }
  pub under_is : under' ≡ record under { thread = under'.thread }
  pub goes_on_is : running_of (tree_of mid.interpreter) under'.thread new.words ≡ source_resume (waiting_of (tree_of mid.interpreter) under.thread) (record { result = word; globals = globals_of (tree_of mid.interpreter) mid.words })
  pub thread : IsThread (tree_of mid.interpreter) under'.thread new.words

module _ (g : Given) (state : State) (last : Segment) (k mid new : Core) (under under' : Under) (word : ℕ) (ask : Ask) (may : MayAnswer g state last k under ask) (r : HasResumed k mid new under under' word) where
  tree_is : tree_of mid.interpreter ≡ g.program
  tree_is = ap (λ (c : Core). tree_of c.interpreter) r.mid_is ∙ may.of.program

  resumes : Resumes g.program under.thread k.words word under'.thread new.words
  resumes = subst (λ (words : List ℕ). Resumes g.program under.thread words word under'.thread new.words) (ap (λ (c : Core). c.words) r.mid_is)
      (resumes_in (tree_of mid.interpreter) g.program tree_is under.thread mid.words word under'.thread new.words r.goes_on_is r.thread)

  new_core : new ≡ record k { words = new.words; threads = mid.threads; scheduler = mid.scheduler }
  new_core = r.new_is ∙ ap (λ (c : Core). record c { words = new.words }) r.mid_is

  abbrev its_row : ImmediateRow
  its_row = row g state last k under ask may

  pub gone_to : (outputs : List (ℕ × ℕ)) → its_row.trap ≡ None → its_row.result ≡ word → with_printed last.number last.world.outputs its_row.prints ≡ last.world.outputs ++ outputs →
      AreBeside g state (with_started last.world.threads its_row.starts) its_row.after last.number mid.threads mid.scheduler under.choice.thread → GoesTo g state last outputs new under'
  gone_to outputs none result printed beside =
      subst (λ (u : Under). GoesTo g state last outputs new u) (sym r.under_is)
      (subst (λ (c : Core). GoesTo g state last outputs c (record under { thread = under'.thread })) (sym new_core)
      (went_on g state last k under ask may word outputs mid.threads mid.scheduler new.words under'.thread none result printed beside resumes))

-- ---- calls that change nothing

module _ (g : Given) (state : State) (last : Segment) (crowds : Bool) (k new : Core) (under under' : Under) where
  pub put_answers : (value : ℕ) (may : MayAnswer g state last k under (Ask.Put value)) → HasResumed k k new under under' 0 → Answers g state last crowds new under' (Ok (Some (happening.Puts value)))
  put_answers value may r = (
    gone_to g state last k k new under under' 0 (Ask.Put value) may r ((last.number, value) ∷ []) refl refl refl may.beside,
    λ asked. starts_none g state last k under (Ask.Put value) may refl refl,
  )

  pub self_answers : (may : MayAnswer g state last k under Ask.SelfNumber) → HasResumed k k new under under' under.choice.thread.number → Answers g state last crowds new under' (Ok None)
  self_answers may r = (
    gone_to g state last k k new under under' under.choice.thread.number Ask.SelfNumber may r [] refl (sym may.beside.number_is) (sym (append-nil last.world.outputs)) may.beside,
    λ asked. starts_none g state last k under Ask.SelfNumber may refl refl,
  )

-- ---- a resource is given back

after_none_by : (x : Exchanging) (its : ImmediateRow) (trap : Option TrapKind) → trap ≡ None → (if is_none trap then record x { exchange = its.after } else x) ≡ record x { exchange = its.after }
after_none_by x its None e = refl
after_none_by x its (Some kind) e = absurd (cc)

abbrev pub gives : Core → (resource amount : ℕ) → ImmediateRow
gives k resource amount = immediate_row k.threads.exchange.caps k.threads.exchange.exchange 0 0 (Ask.Give resource amount)

module _ (g : Given) (state : State) (last : Segment) (crowds : Bool) (k : Core) (under : Under) (resource amount : ℕ) (may : MayAnswer g state last k under (Ask.Give resource amount)) where
  trap_is : (gives k resource amount).trap ≡ resource_trap g.policy.caps resource amount (use_of last.world.exchange resource)
  trap_is =
      ap (λ (caps : List ℕ). resource_trap caps resource amount (use_of k.threads.exchange.exchange resource)) may.of.exchange_caps
      ∙ ap (λ (x : Exchange). resource_trap g.policy.caps resource amount (use_of x resource)) may.beside.are.exchange_is

  pub give_traps : (kind : TrapKind) (new : Core) (under' : Under) → (gives k resource amount).trap ≡ Some kind → Answers g state last crowds new under' (Ok (Some (happening.Traps kind)))
  give_traps kind new under' e = trapped g state last k under (Ask.Give resource amount) may kind (sym trap_is ∙ e)

  pub give_goes : (mid new : Core) (under' : Under) → mid.threads ≡ record k.threads { exchange = after_ask k.threads.exchange (gives k resource amount) } → mid.scheduler ≡ k.scheduler → (gives k resource amount).trap ≡ None →
      HasResumed k mid new under under' 0 → Answers g state last crowds new under' (Ok None)
  give_goes mid new under' threads_is scheduler_is none r =
      let untrapped : resource_trap g.policy.caps resource amount (use_of last.world.exchange resource) ≡ None = sym trap_is ∙ none in
      let after : after_ask k.threads.exchange (gives k resource amount) ≡ record k.threads.exchange { exchange = (gives k resource amount).after } =
      after_none_by k.threads.exchange (gives k resource amount) (gives k resource amount).trap none in
      let y : (after_ask k.threads.exchange (gives k resource amount)).exchange ≡ with_use last.world.exchange resource (use_of last.world.exchange resource - amount) =
      ap (λ (x : Exchanging). x.exchange) after ∙ ap (λ (x : Exchange). with_use x resource (use_of x resource - amount)) may.beside.are.exchange_is in
      let eight : length (with_use last.world.exchange resource (use_of last.world.exchange resource - amount)).uses ≡ 8 =
      length-set last.world.exchange.uses resource (use_of last.world.exchange resource - amount) ∙ ap (λ (x : Exchange). length x.uses) (sym may.beside.are.exchange_is) ∙ eight_now in (
        gone_to g state last k mid new under under' 0 (Ask.Give resource amount) may r [] untrapped refl (sym (append-nil last.world.outputs))
            (subst (λ (t : ThreadsState). AreBeside g state last.world.threads (with_use last.world.exchange resource (use_of last.world.exchange resource - amount)) last.number t mid.scheduler under.choice.thread) (sym threads_is)
            (subst (λ (s : SchedulerState). AreBeside g state last.world.threads (with_use last.world.exchange resource (use_of last.world.exchange resource - amount)) last.number (record k.threads { exchange = after_ask k.threads.exchange (gives k resource amount) }) s under.choice.thread) (sym scheduler_is)
            (beside_other may.beside state (with_use last.world.exchange resource (use_of last.world.exchange resource - amount))
            (after_ask k.threads.exchange (gives k resource amount)) y eight))),
        λ asked. starts_none g state last k under (Ask.Give resource amount) may untrapped refl,
      )
    where
      eight_now : length k.threads.exchange.exchange.uses ≡ 8
      eight_now = ap (λ (x : Exchange). length x.uses) may.beside.are.exchange_is ∙ may.beside.are.uses

-- ---- a thread is started

module _ (g : Given) (state : State) (last : Segment) (crowds : Bool) (k : Core) (under : Under) (function argument : ℕ) (may : MayAnswer g state last k under (Ask.Spawn function argument)) where
  pub spawn_crowds : (new : Core) (under' : Under) → crowds ≡ true → k.threads.live ≡ most_threads → Answers g state last crowds new under' (Ok (Some happening.IsCrowded))
  spawn_crowds new under' asked live = (
    (
      sym may.beside.are.live ∙ live,
      record {
        after = answered g.program g.policy.caps last under.thread k.words (Ask.Spawn function argument) may.asks;
        goes = goes_on g.program g.policy.caps last under.thread k.words (Ask.Spawn function argument) may.asks refl;
        one_more = let more = length_push last.world.threads (source.Fresh function (argument ∷ [])) in omega (arith, more);
      },
    ),
    asked,
  )

  pub spawn_goes : (mid new : Core) (under' : Under) (thread : ThreadId) → HasAdded k.threads function (Some argument) mid.threads thread → IsJoined k.scheduler mid.scheduler 0 thread →
      IsTold k.scheduler mid.scheduler 0 (record { thread = thread; need = Need.Nothing }) → (crowds ≡ true → k.threads.live ≡ most_threads → ⊥) → HasResumed k mid new under under' thread.number → Answers g state last crowds new under' (Ok None)
  spawn_goes mid new under' thread added joined told few r = (
    gone_to g state last k mid new under under' thread.number (Ask.Spawn function argument) may r [] refl (sym (added.number ∙ may.beside.are.count)) (sym (append-nil last.world.outputs))
        (beside_more g state last.world.threads last.world.exchange last.number k.threads mid.threads k.scheduler mid.scheduler under.choice.thread thread function argument may.beside added joined told may.there),
    λ asked crowded. few asked (may.beside.are.live ∙ crowded.0),
  )

-- ---- what is kept

-- a place is made for one more, and no time of waking is later
no_later : (old new : ThreadsState) (cost : ℕ) → new.waits.clock ≡ old.waits.clock → ((place : ℕ) → IfSome (wake_of (at_place old.waits.places place)) (λ time. time ≤ latest cost) → IfSome (wake_of (at_place new.waits.places place)) (λ time. time ≤ latest cost)) →
    IsTimely old.waits.clock old.waits.places cost → IsTimely new.waits.clock new.waits.places cost
no_later old new cost clock sleepers is = record {
  clock_is = let most = is.clock_is in omega (arith, clock, most);
  sleepers = λ place. sleepers place (is.sleepers place);
}

-- there was no memory for one more
pub keeps_failed : (k mid : Core) (under : Under) → mid ≡ record k { threads = mid.threads } → KeepsAll k.threads mid.threads → KeepsBut k under 1 mid under 0
keeps_failed k mid under mid_is all = record {
  choice = refl;
  before = refl;
  rest = mid_is ∙ λ i. record k { words = words_same i; threads = mid.threads; scheduler = scheduler_same i };
  clock = all.clock;
  caps = ap (λ (x : Exchanging). x.caps) all.exchange;
  backlog = ap (λ (x : Exchanging). x.backlog) all.exchange;
  lasts = λ node. ap (λ (c : Core). last_of c.scheduler node) mid_is;
  noted = ap (λ (c : Core). c.scheduler.noted) mid_is;
  timely = λ cost. no_later k.threads mid.threads cost all.clock (λ place. subst (λ (o : Option Wait). IfSome (wake_of o) (λ time. time ≤ latest cost)) (sym (all.waits place)));
  starts = let next = all.next in omega (arith, next);
  fewer = omega arith;
} where
  words_same : k.words ≡ mid.words
  words_same = sym (ap (λ (c : Core). c.words) mid_is)

  scheduler_same : k.scheduler ≡ mid.scheduler
  scheduler_same = sym (ap (λ (c : Core). c.scheduler) mid_is)
