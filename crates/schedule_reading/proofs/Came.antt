-- What a run of the interpreter comes to, as the thread under way.
use Rattle.schedule_reading.proofs.Common.{◌≡◌, ℕ, ◌-◌, ◌≤◌, Bool, List, Option, Some, None, Result, Ok, refl, sym, ap, ◌∙◌, subst, arith, slice_set, Blocking, Immediate, Goes, Stops, moves, Ask, Block, TrapKind, ProgramTree, Running, Exchange, blocking_row, SourceMove, source_machine, Segment, SegmentMove, Blocked, Ended, rests, segment_move, unless_trap, Given, RestsNext, State, tree_of, HasCome, LeadsTo, asks, ends, traps, globals_of, running_of, waiting_of, Thread, row_of, Happening, Under, Failure, Advances, Answers, KeepsBut, MayAnswer, MayRun, NoneCrowded, Core}
use Rattle.c_mean.specs.World as source
use Rattle.source_runs.specs.declared.interpreter.Coming.{Coming}
use Rattle.source_runs.specs.declared.interpreter.Coming.TheVariants as coming
use Rattle.schedule_reading.specs.declared.events.Happening.TheVariants as happening
use Rattle.schedule_reading.proofs.Advancing.{advanced, none_stopped, quiet_none}
use Rattle.schedule_reading.proofs.Keeping.{of_with, same_monitor}
use Rattle.schedule_reading.proofs.Leading.{at, last, last_step, rests_by, silent_at}
use Rattle.schedule_reading.proofs.Running.{keeps_on, keeps_one, keeps_thread}

-- the thread and the globals after it
abbrev pub core_after : Core → List ℕ → Core
core_after k words = record k { words = words }

abbrev pub under_after : Under → Thread → Under
under_after under thread = record under { thread = thread }

-- ---- what is kept

pub keeps_run : (k : Core) (under : Under) (old left : ℕ) (words : List ℕ) (thread : Thread) → left ≤ old → KeepsBut k under old (core_after k words) (under_after under thread) left
keeps_run k under old left words thread few = keeps_thread k under old left words k.threads.exchange (under_after under thread) few refl refl refl refl

-- and by the answer to what it asks, which is one step
pub keeps_asked : (tree : ProgramTree) (k : Core) (under : Under) (old left : ℕ) (words : List ℕ) (thread : Thread) (ask : Ask) → HasCome tree under.thread k.words old left thread words (coming.Asks ask) → (new : Core) (under' : Under) →
    KeepsBut (core_after k words) (under_after under thread) 1 new under' 0 → KeepsBut k under old new under' left
keeps_asked tree k under old left words thread ask came new under' keeps =
    let steps = came.0.steps_is in
    keeps_on k (core_after k words) new under (under_after under thread) under' old old left (keeps_run k under old old words thread (omega arith))
    (keeps_one (core_after k words) new (under_after under thread) under' old left keeps (omega (arith, steps)))

-- ---- what has come

module _ (g : Given) (state : State) (here : Segment) (crowds : Bool) (k : Core) (under : Under) (old left : ℕ) (may : MayRun g state here k under old) (words : List ℕ) (thread : Thread) where
  abbrev Came : Coming → Type 0
  Came it = HasCome (tree_of k.interpreter) under.thread k.words old left thread words it

  in_program : (it : Coming) → Came it → HasCome g.program under.thread k.words old left thread words it
  in_program it came = subst (λ (t : ProgramTree). HasCome t under.thread k.words old left thread words it) may.of.program came

  from_here : (made : SourceMove) → LeadsTo g.program (running_of g.program under.thread k.words) (old - left) made → LeadsTo g.program here.running (old - left) made
  from_here made leads = subst (λ (r : Running). LeadsTo g.program r (old - left) made) may.runs.running leads

  abbrev new : Core
  new = core_after k words

  abbrev new_under : Under
  new_under = under_after under thread

  -- ---- it asks something

  module _ (ask : Ask) (came : Came (coming.Asks ask)) where
    pub leads_asked : LeadsTo g.program here.running (old - left) (asks g.program thread words (Immediate ask))
    leads_asked = from_here (asks g.program thread words (Immediate ask)) (in_program (coming.Asks ask) came).0

    abbrev pub asked_at : Segment
    asked_at = last g.program g.policy.caps here (old - left) (asks g.program thread words (Immediate ask)) leads_asked

    pub may_answer : MayAnswer g state asked_at new new_under ask
    may_answer = record {
      of = of_with g k new refl refl refl refl (same_monitor k.monitor) may.of;
      beside = may.runs.beside;
      thread = (in_program (coming.Asks ask) came).1;
      asks = leads_asked.last;
      there = (in_program (coming.Asks ask) came).2;
      room = let room = may.room in omega (arith, room);
    }

    pub asks_advances : (k' : Core) (under' : Under) (result : Result (Option Happening) Failure) → Answers g state asked_at crowds k' under' result → Advances g state here crowds old left k' under' result
    asks_advances k' under' result answers = advanced g state here crowds old left thread words ask leads_asked k' under' result answers

  -- ---- it stops

  module _ (made : SourceMove) (leads : LeadsTo g.program here.running (old - left) made) (rested : source.Rested) (stops : segment_move g.policy.caps (last g.program g.policy.caps here (old - left) made leads) made ≡ Stops rested) where
    pub next_rests : RestsNext g.program g.policy.caps here (old - left) rested
    next_rests = rests_by g.program g.policy.caps here (old - left) made leads rested stops

    pub next_none : NoneCrowded g here (old - left)
    next_none = none_stopped g here (old - left) made leads rested (last_step g.program g.policy.caps here (old - left) made leads ∙ stops)

  module _ (block : Block) (came : Came (coming.Blocks block)) where
    leads_blocked : LeadsTo g.program here.running (old - left) (asks g.program thread words (Blocking block))
    leads_blocked = from_here (asks g.program thread words (Blocking block)) (in_program (coming.Blocks block) came).0

    abbrev blocked_at : Segment
    blocked_at = at g.program g.policy.caps here leads_blocked.here

    trap_there : (row_of k.threads.exchange block).trap ≡ (blocking_row g.policy.caps here.world.exchange block).trap
    trap_there = ap (λ (caps : List ℕ). (blocking_row caps k.threads.exchange.exchange block).trap) may.of.exchange_caps ∙ ap (λ (x : Exchange). (blocking_row g.policy.caps x block).trap) may.runs.beside.are.exchange_is

    abbrev globals_now : List (List ℕ)
    globals_now = globals_of g.program words

    abbrev trap_moves : Option TrapKind → SegmentMove
    trap_moves o = unless_trap blocked_at globals_now o (rests blocked_at globals_now (Blocked block (waiting_of g.program thread)))

    pub blocks_advances : None ≡ (row_of k.threads.exchange block).trap → Advances g state here crowds old left new new_under (Ok (Some (happening.Blocks block)))
    blocks_advances none =
        let stops = ap trap_moves (sym trap_there ∙ sym none) in
        let made = asks g.program thread words (Blocking block) in
        let rested : source.Rested = record { trap = None; world = record here.world { threads = slice_set here.world.threads here.number (Blocked block (waiting_of g.program thread)); globals = globals_now } } in (
          record {
            rests = record { last = here.world; beside = may.runs.beside; next = next_rests made leads_blocked rested stops };
            thread = (in_program (coming.Blocks block) came).1;
            untrapped = sym none;
          },
          λ asked. next_none made leads_blocked rested stops,
        )

    pub block_traps : (kind : TrapKind) → Some kind ≡ (row_of k.threads.exchange block).trap → Advances g state here crowds old left new new_under (Ok (Some (happening.Traps kind)))
    block_traps kind some =
        let stops = ap trap_moves (sym trap_there ∙ sym some) in
        let made = asks g.program thread words (Blocking block) in
        let rested : source.Rested = record { trap = Some kind; world = record here.world { globals = globals_now } } in
        (record { world = rested.world; next = next_rests made leads_blocked rested stops }, λ asked. next_none made leads_blocked rested stops)

  pub ends_advances : Came coming.Ends → Advances g state here crowds old left new new_under (Ok (Some happening.Ends))
  ends_advances came =
      let made = ends g.program words in
      let leads = from_here made (in_program coming.Ends came).0 in
      let rested : source.Rested = record { trap = None; world = record here.world { threads = slice_set here.world.threads here.number Ended; globals = globals_of g.program words } } in (
        record {
          rests = record { last = here.world; beside = may.runs.beside; next = next_rests made leads rested refl };
          full = (in_program coming.Ends came).1;
        },
        λ asked. next_none made leads rested refl,
      )

  pub traps_advances : (kind : TrapKind) → Came (coming.Traps kind) → Advances g state here crowds old left new new_under (Ok (Some (happening.Traps kind)))
  traps_advances kind came =
      let made = traps g.program words kind in
      let leads = from_here made (in_program (coming.Traps kind) came) in
      let rested : source.Rested = record { trap = Some kind; world = record here.world { globals = globals_of g.program words } } in
      (record { world = rested.world; next = next_rests made leads rested refl }, λ asked. next_none made leads rested refl)

  pub late_advances : Came coming.OutOfSteps → Advances g state here crowds old left new new_under (Ok (Some happening.OutOfSteps))
  late_advances came =
      let is = in_program coming.OutOfSteps came in
      let moved : moves (source_machine g.program) old here.running ≡ Goes (running_of g.program thread words) = subst (λ (r : Running). moves (source_machine g.program) old r ≡ Goes (running_of g.program thread words)) may.runs.running is.1 in
      let none : left ≡ 0 = is.0 in
      let all : old ≡ old - left = omega (arith, none) in (
        (
          is.0,
          record {
            after = at g.program g.policy.caps here (running_of g.program thread words);
            silent = silent_at g.program g.policy.caps here old (running_of g.program thread words) moved;
            runs = record { beside = may.runs.beside; thread = is.2; running = refl };
          },
        ),
        λ asked. subst (λ (n : ℕ). NoneCrowded g here n) all (quiet_none g here old (running_of g.program thread words) moved),
      )
