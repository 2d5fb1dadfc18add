-- Every thread of a world that is blocked waits, in all its frames, at calls of its functions' texts.
use Rattle.c_mean.proofs.Common.{◌≡◌, ℕ, zero, suc, List, [], ◌∷◌, length, Option, Some, None, option_map, refl, sym, subst, slice_get, slice_set, AllByRecursion, Call, Blocking, Immediate, Goes, Asks, Stops, and_then, moves, Block, TrapKind, ProgramTree, Waiting, SourceMove, source_step, WaitsInText, blocking_row, immediate_row, Rest, Fresh, Blocked, Ended, World, Segment, SegmentMove, rests, unless_trap, with_started, calls, segment_move, segment_step, segment_machine, begun_at, Entry, Deliver, Run, IsAfterEntry, IsAfter, start_world, All-push}
use Rattle.c_mean.proofs.StandLemmas.{Stands, MoveStands, step_stands, resume_stands, started_stands}

pub all_set : {A : Type 0} (P : A → Type 0) (xs : List A) (i : ℕ) (a : A) → AllByRecursion P xs → P a → AllByRecursion P (slice_set xs i a)
all_set P [] i a h k = tt
all_set P (x ∷ xs) zero a h k = (k, h.1)
all_set P (x ∷ xs) (suc i) a h k = (h.0, all_set P xs i a h.1 k)

all_at : {A : Type 0} (P : A → Type 0) (xs : List A) (i : ℕ) (a : A) → AllByRecursion P xs → slice_get xs i ≡ Some a → P a
all_at P [] i a h e = cc
all_at P (x ∷ xs) zero a h e = let x' : x ≡ a = cc in subst P x' h.0
all_at P (x ∷ xs) (suc i) a h e = all_at P xs i a h.1 e

module _ (program : ProgramTree) (caps : List ℕ) where
  abbrev pub RestStands : Rest → Type 0
  RestStands (Blocked block waiting) = AllByRecursion (WaitsInText program) (waiting.front ∷ waiting.below)
  RestStands _ = Unit {0}

  pub record SegmentStands (segment : Segment) : Type 0 where
    pub thread : Stands program segment.running
    pub others : AllByRecursion RestStands segment.world.threads

  abbrev SegmentMoveStands : SegmentMove → Type 0
  SegmentMoveStands (Goes segment) = SegmentStands segment
  SegmentMoveStands (Asks question waiting) = Unit {0}
  SegmentMoveStands (Stops rested) = AllByRecursion RestStands rested.world.threads

  unless_stands : (segment : Segment) (globals : List (List ℕ)) (trap : Option TrapKind) (other : SegmentMove) → SegmentStands segment → SegmentMoveStands other → SegmentMoveStands (unless_trap segment globals trap other)
  unless_stands segment globals (Some trap) other h k = h.others
  unless_stands segment globals None other h k = k

  rests_stands : (segment : Segment) (globals : List (List ℕ)) (rest : Rest) → SegmentStands segment → RestStands rest → SegmentMoveStands (rests segment globals rest)
  rests_stands segment globals rest h k = all_set RestStands segment.world.threads segment.number rest h.others k

  starts_stand : (threads : List Rest) (start : Option (ℕ × ℕ)) → AllByRecursion RestStands threads → AllByRecursion RestStands (with_started threads start)
  starts_stand threads None h = h
  starts_stand threads (Some start) h = All-push RestStands threads (Fresh start.0 (start.1 ∷ [])) h tt

  call_stands : (segment : Segment) (globals : List (List ℕ)) (waiting : Waiting) (call : Call) → SegmentStands segment → RestStands (Blocked Block.Yield waiting) → SegmentMoveStands (calls caps segment globals waiting call)
  call_stands segment globals waiting (Blocking block) h k =
      unless_stands segment globals (blocking_row caps segment.world.exchange block).trap (rests segment globals (Blocked block waiting)) h (rests_stands segment globals (Blocked block waiting) h k)
  call_stands segment globals waiting (Immediate ask) h k =
      let row = immediate_row caps segment.world.exchange segment.number (length segment.world.threads) ask in
      unless_stands segment globals row.trap _ h (record { thread = resume_stands program waiting _ k; others = starts_stand segment.world.threads row.starts h.others })

  move_stands : (segment : Segment) (move : SourceMove) → MoveStands program move → SegmentStands segment → SegmentMoveStands (segment_move caps segment move)
  move_stands segment (Goes running) k h = record { thread = k; others = h.others }
  move_stands segment (Asks question waiting) k h = call_stands segment question.globals waiting question.call h k
  move_stands segment (Stops finish) k h = unless_stands segment finish.globals finish.trap (rests segment finish.globals Ended) h (rests_stands segment finish.globals Ended h tt)

  then_stands : (move : SegmentMove) (rest : Segment → SegmentMove) → SegmentMoveStands move → ((segment : Segment) → SegmentStands segment → SegmentMoveStands (rest segment)) → SegmentMoveStands (and_then move rest)
  then_stands (Goes segment) rest h k = k segment h
  then_stands (Asks question waiting) rest h k = tt
  then_stands (Stops rested) rest h k = h

  moves_stand : (n : ℕ) (segment : Segment) → SegmentStands segment → SegmentMoveStands (moves (segment_machine program caps) n segment)
  moves_stand zero segment h = h
  moves_stand (suc n) segment h =
      then_stands (segment_step program caps segment) (moves (segment_machine program caps) n) (move_stands segment (source_step program segment.running) (step_stands program segment.running h.thread) h) (λ s k. moves_stand n s k)

  from_stands : (start : Segment) (n : ℕ) (move : SegmentMove) → SegmentStands start → Some (moves (segment_machine program caps) n start) ≡ Some move → SegmentMoveStands move
  from_stands start n move h e = let same : moves (segment_machine program caps) n start ≡ move = cc in subst SegmentMoveStands same (moves_stand n start h)

  begun_stands : (world : World) (number : ℕ) (rest : Option Rest) (n : ℕ) (move : SegmentMove) → slice_get world.threads number ≡ rest → AllByRecursion RestStands world.threads → option_map (moves (segment_machine program caps) n) (begun_at program caps world number rest) ≡ Some move → SegmentMoveStands move
  begun_stands world number (Some (Fresh function arguments)) n move at h e =
      from_stands _ n move (record { thread = started_stands program function arguments world.globals; others = h }) e
  begun_stands world number (Some (Blocked block waiting)) n move at h e =
      from_stands _ n move (record { thread = resume_stands program waiting _ (all_at RestStands world.threads number (Blocked block waiting) h at); others = h }) e
  begun_stands world number _ n move at h e = cc

  entry_stands : (world : World) (entry : Entry) (after : World) → IsAfterEntry program caps world entry after → AllByRecursion RestStands world.threads → AllByRecursion RestStands after.threads
  entry_stands world (Deliver delivery) after e h = subst (λ (w : World). AllByRecursion RestStands w.threads) (sym e) h
  entry_stands world (Run number) after e h = begun_stands world number (slice_get world.threads number) e.0 (Stops (record { trap = None; world = after })) refl h e.1

  schedule_stands : (world : World) (entries : List Entry) (after : World) → IsAfter program caps world entries after → AllByRecursion RestStands world.threads → AllByRecursion RestStands after.threads
  schedule_stands world [] after e h = subst (λ (w : World). AllByRecursion RestStands w.threads) (sym e) h
  schedule_stands world (entry ∷ entries) after e h = schedule_stands e.0 entries after e.2 (entry_stands world entry e.0 e.1 h)

  pub blocked_stands : (entries : List Entry) (world : World) (number : ℕ) (block : Block) (waiting : Waiting) → IsAfter program caps (start_world program) entries world → slice_get world.threads number ≡ Some (Blocked block waiting) → AllByRecursion (WaitsInText program) (waiting.front ∷ waiting.below)
  blocked_stands entries world number block waiting e at =
      all_at RestStands world.threads number (Blocked block waiting) (schedule_stands (start_world program) entries world e (tt, tt)) at
