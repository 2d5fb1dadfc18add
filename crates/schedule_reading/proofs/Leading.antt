-- The source's run of a thread, as that of its segment.
use Rattle.schedule_reading.proofs.Common.{◌≡◌, ℕ, List, length, Option, Some, None, refl, ap, ◌∙◌, Immediate, Goes, Stops, moves, Ask, TrapKind, ProgramTree, Running, ImmediateRow, immediate_row, SourceMove, source_machine, source_resume, source_step, Segment, after_ask, segment_move, segment_step, unless_trap, IsSilent, RestsNext, LeadsTo, asks, globals_of, waiting_of, Thread}
use Rattle.c_mean.specs.World as source
use Rattle.c_mean.proofs.SegmentLemmas as segments

module _ (program : ProgramTree) (caps : List ℕ) where
  abbrev pub at : Segment → Running → Segment
  at here running = record here { running = running }

  pub silent_at : (here : Segment) (n : ℕ) (running : Running) → moves (source_machine program) n here.running ≡ Goes running → IsSilent program caps here n (at here running)
  silent_at here n running e = record { moved = segments.silent program caps here n running e; outputs = refl }

  module _ (here : Segment) (steps : ℕ) (made : SourceMove) (leads : LeadsTo program here.running steps made) where
    -- where the last step begins
    abbrev pub last : Segment
    last = at here leads.here

    pub silent_last : IsSilent program caps here leads.before last
    silent_last = silent_at here leads.before leads.here leads.silent

    pub last_step : segment_step program caps last ≡ segment_move caps last made
    last_step = ap (λ (m : SourceMove). segment_move caps last m) leads.last

    pub rests_by : (rested : source.Rested) → segment_move caps last made ≡ Stops rested → RestsNext program caps here steps rested
    rests_by rested e = record { before = leads.before; here = last; silent = silent_last; stops = last_step ∙ e; steps_is = leads.steps_is }

  -- ---- a call that is answered at once

  module _ (last : Segment) (thread : Thread) (words : List ℕ) (ask : Ask) (asked : source_step program last.running ≡ asks program thread words (Immediate ask)) where
    abbrev pub row : ImmediateRow
    row = immediate_row caps last.world.exchange last.number (length last.world.threads) ask

    -- the thread with its answer
    abbrev pub answered : Segment
    answered = record {
      number = last.number;
      running = source_resume (waiting_of program thread) (record { result = row.result; globals = globals_of program words });
      world = after_ask last.world last.number row;
    }

    pub goes_on : row.trap ≡ None → segment_step program caps last ≡ Goes answered
    goes_on none = ap (λ (m : SourceMove). segment_move caps last m) asked ∙ ap (λ (o : Option TrapKind). unless_trap last (globals_of program words) o (Goes answered)) none

    pub traps_now : (kind : TrapKind) → row.trap ≡ Some kind → segment_step program caps last ≡ Stops (record { trap = Some kind; world = record last.world { globals = globals_of program words } })
    traps_now kind some = ap (λ (m : SourceMove). segment_move caps last m) asked ∙ ap (λ (o : Option TrapKind). unless_trap last (globals_of program words) o (Goes answered)) some
