-- A thread that runs in a world makes the steps that it makes alone.
use Rattle.c_mean.proofs.Common.{◌≡◌, ℕ, zero, suc, ◌≤◌, List, length, Option, Some, None, refl, ap, subst, ◌∙◌, arith, Call, Blocking, Immediate, Question, Finish, Goes, Asks, Stops, and_then, moves, TrapKind, ProgramTree, Running, Waiting, SourceMove, source_step, source_resume, source_machine, ImmediateRow, blocking_row, immediate_row, Ended, Segment, SegmentMove, rests, unless_trap, after_ask, calls, segment_move, segment_step, segment_machine}

module _ (program : ProgramTree) (caps : List ℕ) where
  abbrev at : Segment → Running → Segment
  at segment thread = record segment { running = thread }

  -- what a segment comes to where its thread's moves come to this
  abbrev Comes : Segment → ℕ → SourceMove → Type 0
  Comes segment n (Goes thread) = moves (segment_machine program caps) n segment ≡ Goes (at segment thread)
  Comes segment n (Asks question waiting) = (m : ℕ) × (m ≤ n) × (moves (segment_machine program caps) m segment ≡ calls caps segment question.globals waiting question.call)
  Comes segment n (Stops finish) = (m : ℕ) × (m ≤ n) × (moves (segment_machine program caps) m segment ≡ unless_trap segment finish.globals finish.trap (rests segment finish.globals Ended))

  -- what follows a call that is answered at once
  abbrev after_answer : Segment → List (List ℕ) → Waiting → ImmediateRow → SegmentMove
  after_answer segment globals waiting row = Goes (record {
    number = segment.number;
    running = source_resume waiting (record { result = row.result; globals = globals });
    world = after_ask segment.world segment.number row;
  })

  -- only the world and the number of a segment count at a call or an end
  unless_same : (segment : Segment) (thread : Running) (globals : List (List ℕ)) (trap : Option TrapKind) (other other' : SegmentMove) → other ≡ other' → unless_trap (at segment thread) globals trap other ≡ unless_trap segment globals trap other'
  unless_same segment thread globals (Some trap) other other' e = refl
  unless_same segment thread globals None other other' e = e

  answered_same : (segment : Segment) (thread : Running) (globals : List (List ℕ)) (waiting : Waiting) (row : ImmediateRow) (trap : Option TrapKind) → unless_trap (at segment thread) globals trap (after_answer (at segment thread) globals waiting row) ≡ unless_trap segment globals trap (after_answer segment globals waiting row)
  answered_same segment thread globals waiting row (Some trap) = refl
  answered_same segment thread globals waiting row None = refl

  calls_same : (segment : Segment) (thread : Running) (globals : List (List ℕ)) (waiting : Waiting) (call : Call) → calls caps (at segment thread) globals waiting call ≡ calls caps segment globals waiting call
  calls_same segment thread globals waiting (Blocking block) = unless_same segment thread globals (blocking_row caps segment.world.exchange block).trap _ _ refl
  calls_same segment thread globals waiting (Immediate ask) =
      let row = immediate_row caps segment.world.exchange segment.number (length segment.world.threads) ask in
      answered_same segment thread globals waiting row row.trap

  later : (segment : Segment) (n : ℕ) (next : Running) (move : SourceMove) → segment_step program caps segment ≡ Goes (at segment next) → Comes (at segment next) n move → Comes segment (suc n) move
  later segment n next (Goes thread) e h = ap (λ v. and_then v (moves (segment_machine program caps) n)) e ∙ h
  later segment n next (Asks question waiting) e h =
      (suc h.0, omega (arith, h.1), ap (λ v. and_then v (moves (segment_machine program caps) h.0)) e ∙ h.2 ∙ calls_same segment next question.globals waiting question.call)
  later segment n next (Stops finish) e h =
      (suc h.0, omega (arith, h.1), ap (λ v. and_then v (moves (segment_machine program caps) h.0)) e ∙ h.2 ∙ unless_same segment next finish.globals finish.trap _ _ refl)

  same_after : (move : SegmentMove) → and_then move (moves (segment_machine program caps) 0) ≡ move
  same_after (Goes segment) = refl
  same_after _ = refl

  step_comes : (segment : Segment) (n : ℕ) (move : SourceMove) → source_step program segment.running ≡ move → ((next : Running) → Comes (at segment next) n (moves (source_machine program) n next)) → Comes segment (suc n) (and_then move (moves (source_machine program) n))
  step_comes segment n (Goes next) e rest = later segment n next (moves (source_machine program) n next) (ap (segment_move caps segment) e) (rest next)
  step_comes segment n _ e rest = (1, omega arith, same_after (segment_step program caps segment) ∙ ap (segment_move caps segment) e)

  pub segment_comes : (n : ℕ) (segment : Segment) → Comes segment n (moves (source_machine program) n segment.running)
  segment_comes zero segment = refl
  segment_comes (suc n) segment = step_comes segment n (source_step program segment.running) refl (λ next. segment_comes n (at segment next))

  pub silent : (segment : Segment) (n : ℕ) (thread : Running) → moves (source_machine program) n segment.running ≡ Goes thread → moves (segment_machine program caps) n segment ≡ Goes (record segment { running = thread })
  silent segment n thread e = subst (Comes segment n) e (segment_comes n segment)

  pub asks_in_world : (segment : Segment) (n : ℕ) (question : Question) (waiting : Waiting) → moves (source_machine program) n segment.running ≡ Asks question waiting → (m : ℕ) × (m ≤ n) × (moves (segment_machine program caps) m segment ≡ calls caps segment question.globals waiting question.call)
  asks_in_world segment n question waiting e = subst (Comes segment n) e (segment_comes n segment)

  pub stops_in_world : (segment : Segment) (n : ℕ) (finish : Finish) → moves (source_machine program) n segment.running ≡ Stops finish → (m : ℕ) × (m ≤ n) × (moves (segment_machine program caps) m segment ≡ unless_trap segment finish.globals finish.trap (rests segment finish.globals Ended))
  stops_in_world segment n finish e = subst (Comes segment n) e (segment_comes n segment)
