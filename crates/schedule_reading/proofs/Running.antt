-- A run of the thread under way, part by part.
use Rattle.schedule_reading.proofs.Common.{◌≡◌, ℕ, suc, ◌+◌, ◌-◌, ◌≤◌, Bool, true, List, Some, None, Ok, refl, sym, ap, ◌∙◌, subst, arith, slice_set, Given, IsSilent, PutsNext, RestsNext, State, Choice, globals_of, Exchanging, Happening, Under, Core, AreBeside}
use Rattle.c_mean.specs.World as source
use Rattle.schedule_reading.specs.declared.events.Happening.TheVariants as happening
use Rattle.schedule_reading.specs.Coming.{CrowdsFirst, GoesOn, GoneOn, HasHappened, KeepsBut, MayRun, NoneCrowded, Rests, RunsOn, RunsSomehow}
use Rattle.schedule_reading.proofs.Going.{crowds_on, none_on, puts_on, rests_on, silent_on}
use Rattle.schedule_reading.proofs.Proceeding.{of_keeps}

-- ---- what is kept

-- the globals, the thread and what it meets have changed
pub keeps_thread : (k : Core) (under : Under) (old left : ℕ) (words : List ℕ) (y : Exchanging) (new : Under) → left ≤ old → y.caps ≡ k.threads.exchange.caps → y.backlog ≡ k.threads.exchange.backlog → new.choice ≡ under.choice → new.before ≡ under.before →
    KeepsBut k under old (record k { words = words; threads = record k.threads { exchange = y } }) new left
keeps_thread k under old left words y new few caps backlog choice before = record {
  choice = choice;
  before = before;
  rest = refl;
  clock = refl;
  caps = caps;
  backlog = backlog;
  lasts = λ node. refl;
  noted = refl;
  timely = λ cost is. record { clock_is = is.clock_is; sleepers = is.sleepers };
  starts = omega (arith, few);
  fewer = few;
}

pub keeps_on : (a b c : Core) (u v w : Under) (x y z : ℕ) → KeepsBut a u x b v y → KeepsBut b v y c w z → KeepsBut a u x c w z
keeps_on a b c u v w x y z p q = record {
  choice = q.choice ∙ p.choice;
  before = q.before ∙ p.before;
  rest = q.rest ∙ ap (λ (m : Core). record m { words = c.words; threads = c.threads; scheduler = c.scheduler }) p.rest;
  clock = q.clock ∙ p.clock;
  caps = q.caps ∙ p.caps;
  backlog = q.backlog ∙ p.backlog;
  lasts = λ node. q.lasts node ∙ p.lasts node;
  noted = q.noted ∙ p.noted;
  timely = λ cost is. q.timely cost (p.timely cost is);
  starts = let first = p.starts in let then_ = q.starts in omega (arith, first, then_);
  fewer = let first = p.fewer in let then_ = q.fewer in omega (arith, first, then_);
}

-- a call that is answered is one step
pub keeps_one : (b c : Core) (v w : Under) (y z : ℕ) → KeepsBut b v 1 c w 0 → suc z ≤ y → KeepsBut b v y c w z
keeps_one b c v w y z q less = record {
  choice = q.choice;
  before = q.before;
  rest = q.rest;
  clock = q.clock;
  caps = q.caps;
  backlog = q.backlog;
  lasts = q.lasts;
  noted = q.noted;
  timely = q.timely;
  starts = let first = q.starts in omega (arith, first, less);
  fewer = omega (arith, less);
}

-- ---- a run so far

module _ (old : Core) (old_under : Under) (old_left : ℕ) (crowds : Bool) (k : Core) (under : Under) (left : ℕ) (runs : RunsOn old old_under old_left crowds k under left) (keeps : KeepsBut old old_under old_left k under left) where
  module _ (g : Given) (state : State) (here : source.Segment) (may : MayRun g state here old old_under old_left) where
    abbrev pub gone : GoneOn g state here crowds (old_left - left) k under
    gone = runs g state here may

    pub may_on : MayRun g state gone.after k under left
    may_on = record {
      of = of_keeps g old k old_under under old_left left keeps may.of;
      runs = gone.runs;
      room = let first = may.room in let starts = keeps.starts in omega (arith, first, starts);
    }

    -- the thread is the same
    pub number_on : gone.after.number ≡ here.number
    number_on = sym gone.runs.beside.number_is ∙ ap (λ (c : Choice). c.thread.number) keeps.choice ∙ may.runs.beside.number_is

    -- ---- one part more

    module _ (new : Core) (new_under : Under) (left' : ℕ) (few : left' ≤ left) where
      count : (old_left - left) + (left - left') ≡ old_left - left'
      count = let less = keeps.fewer in omega (arith, less, few)

      on_rests : (rest : source.Rest) → Rests g state gone.after (left - left') rest new new_under → gone.after.number ≡ here.number → Rests g state here (old_left - left') rest new new_under
      on_rests rest r number = record {
        last = r.last;
        beside = subst (λ (n : ℕ). AreBeside g state r.last.threads r.last.exchange n new.threads new.scheduler new_under.choice.thread) number r.beside;
        next = subst (λ (n : ℕ). RestsNext g.program g.policy.caps here (old_left - left') (record { trap = None; world = record r.last { threads = slice_set r.last.threads n rest; globals = globals_of g.program new.words } })) number
            (subst (λ (n : ℕ). RestsNext g.program g.policy.caps here n (record { trap = None; world = record r.last { threads = slice_set r.last.threads gone.after.number rest; globals = globals_of g.program new.words } })) count
            (rests_on g.program g.policy.caps here gone.after _ (old_left - left) (left - left') gone.silent r.next));
      }

      pub gone_on : GoesOn g state gone.after crowds (left - left') new new_under → GoneOn g state here crowds (old_left - left') new new_under
      gone_on next = record {
        after = next.after;
        silent = subst (λ (n : ℕ). IsSilent g.program g.policy.caps here n next.after) count (silent_on g.program g.policy.caps here gone.after next.after (old_left - left) (left - left') gone.silent next.silent);
        runs = next.runs;
        none = λ asked. subst (λ (n : ℕ). NoneCrowded g here n) count (none_on g here gone.after (old_left - left) (left - left') gone.silent (gone.none asked) (next.none asked));
      }

      none_then : (crowds ≡ true → NoneCrowded g gone.after (left - left')) → crowds ≡ true → NoneCrowded g here (old_left - left')
      none_then later asked = subst (λ (n : ℕ). NoneCrowded g here n) count (none_on g here gone.after (old_left - left) (left - left') gone.silent (gone.none asked) (later asked))

      pub first_on : (came : Happening) → CrowdsFirst g gone.after crowds (left - left') (Ok came) → CrowdsFirst g here crowds (old_left - left') (Ok came)
      first_on happening.IsCrowded first = first
      first_on _ first = none_then first

      pub happened_on : gone.after.number ≡ here.number → (came : Happening) → HasHappened g state gone.after left left' new new_under (Ok came) → HasHappened g state here old_left left' new new_under (Ok came)
      happened_on number (happening.Puts word) h = record {
        after = h.after;
        next = subst (λ (n : ℕ). PutsNext g.program g.policy.caps here n word h.after) count (puts_on g.program g.policy.caps here gone.after h.after (old_left - left) (left - left') word gone.silent (sym number) h.next);
        runs = h.runs;
      }
      happened_on number (happening.Blocks block) h = record { rests = on_rests _ h.rests number; thread = h.thread; untrapped = h.untrapped }
      happened_on number happening.Ends h = record { rests = on_rests source.Ended h.rests number; full = h.full }
      happened_on number (happening.Traps kind) h = record {
        world = h.world;
        next = subst (λ (n : ℕ). RestsNext g.program g.policy.caps here n (record { trap = Some kind; world = h.world })) count (rests_on g.program g.policy.caps here gone.after (record { trap = Some kind; world = h.world }) (old_left - left) (left - left') gone.silent h.next);
      }
      happened_on number happening.IsCrowded h = record {
        steps = (old_left - left) + h.steps;
        next = crowds_on g.program g.policy.caps here gone.after (old_left - left) h.steps gone.silent h.next;
        taken_is = let t = h.taken_is in let c = count in omega (arith, t, c);
      }
      happened_on number happening.OutOfSteps h = (
        h.0,
        record {
          after = h.1.after;
          silent = subst (λ (n : ℕ). IsSilent g.program g.policy.caps here n h.1.after) (let less = keeps.fewer in omega (arith, less))
              (silent_on g.program g.policy.caps here gone.after h.1.after (old_left - left) left gone.silent h.1.silent);
          runs = h.1.runs;
        },
      )

    -- ---- no step is left

    pub over : left ≡ 0 → HasHappened g state here old_left left k under (Ok happening.OutOfSteps)
    over none = (
      none,
      record {
        after = gone.after;
        silent = subst (λ (n : ℕ). IsSilent g.program g.policy.caps here n gone.after) (let less = keeps.fewer in omega (arith, less, none)) gone.silent;
        runs = gone.runs;
      },
    )

    pub over_first : CrowdsFirst g here crowds (old_left - left) (Ok happening.OutOfSteps)
    over_first asked = gone.none asked

  pub runs_somehow : RunsSomehow old old_under old_left → RunsSomehow k under left
  runs_somehow r = (r.0, r.1, (gone r.0 r.1 r.2 r.3).after, may_on r.0 r.1 r.2 r.3)
