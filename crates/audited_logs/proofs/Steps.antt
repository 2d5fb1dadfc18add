-- What a step of the source's run of a thread keeps: the thread's number, where threads rest, and what was put.
use Rattle.audited_logs.proofs.Common.{◌≡◌, ℕ, zero, suc, ◌+◌, ◌<◌, ◌≤◌, cond, List, [], ◌∷◌, ◌++◌, length, count_by, Option, Some, None, refl, sym, ap, ◌∙◌, subst, arith, append_assoc, append-nil, length-append, slice_get, sum_by-append, Call, Blocking, Immediate, Goes, Asks, Stops, and_then, moves, TrapKind, ProgramTree, Waiting, ImmediateRow, blocking_row, immediate_row, SourceMove, source_step, source_resume, lives}
use Rattle.c_mean.specs.World.{Rest, Fresh, Blocked, Ended, Segment, SegmentMove, rests, unless_trap, with_printed, with_started, after_ask, calls, segment_move, segment_step, segment_machine}

-- the thread is the same, threads that live have joined at the end, and so have outputs
pub record Keeps (old new : Segment) : Type 0 where
  pub number : new.number ≡ old.number
  pub started : List Rest
  pub threads : new.world.threads ≡ old.world.threads ++ started
  pub live : count_by lives started ≡ length started
  pub put : List (ℕ × ℕ)
  pub outputs : new.world.outputs ≡ old.world.outputs ++ put

pub keeps_self : (s : Segment) → Keeps s s
keeps_self s = record { number = refl; started = []; threads = sym (append-nil s.world.threads); live = refl; put = []; outputs = sym (append-nil s.world.outputs) }

live_both : (a b : List Rest) → count_by lives a ≡ length a → count_by lives b ≡ length b → count_by lives (a ++ b) ≡ length (a ++ b)
live_both a b h k =
    let sums = sum_by-append (λ (r : Rest). cond (lives r) 1 0) a b in
    let long = length-append a b in
    omega (arith, sums, long, h, k)

pub keeps_both : (a b c : Segment) → Keeps a b → Keeps b c → Keeps a c
keeps_both a b c h k = record {
  number = k.number ∙ h.number;
  started = h.started ++ k.started;
  threads = k.threads ∙ ap (λ (rs : List Rest). rs ++ k.started) h.threads ∙ append_assoc a.world.threads h.started k.started;
  live = live_both h.started k.started h.live k.live;
  put = h.put ++ k.put;
  outputs = k.outputs ∙ ap (λ (os : List (ℕ × ℕ)). os ++ k.put) h.outputs ∙ append_assoc a.world.outputs h.put k.put;
}

-- no fewer outputs
pub grows : (a b : Segment) → Keeps a b → length a.world.outputs ≤ length b.world.outputs
grows a b k =
    let long = length-append a.world.outputs k.put in
    let same : length b.world.outputs ≡ length (a.world.outputs ++ k.put) = ap length k.outputs in
    omega (arith, long, same)

-- and the same where there are no more
pub none_put : (a b : Segment) → Keeps a b → length b.world.outputs ≤ length a.world.outputs → b.world.outputs ≡ a.world.outputs
none_put a b k few = by k.put k.outputs where
  by : (put : List (ℕ × ℕ)) → b.world.outputs ≡ a.world.outputs ++ put → b.world.outputs ≡ a.world.outputs
  by [] e = e ∙ append-nil a.world.outputs
  by (x ∷ put) e =
      let long = length-append a.world.outputs (x ∷ put) in
      let same : length b.world.outputs ≡ length (a.world.outputs ++ x ∷ put) = ap length e in
      absurd (omega (arith, long, same, few))

-- as many more threads live as there are
pub lives_more : (a b : Segment) → Keeps a b → count_by lives b.world.threads + length a.world.threads ≡ count_by lives a.world.threads + length b.world.threads
lives_more a b k =
    let sums = sum_by-append (λ (r : Rest). cond (lives r) 1 0) a.world.threads k.started in
    let long = length-append a.world.threads k.started in
    let counts : count_by lives b.world.threads ≡ count_by lives (a.world.threads ++ k.started) = ap (λ (rs : List Rest). count_by lives rs) k.threads in
    let lengths : length b.world.threads ≡ length (a.world.threads ++ k.started) = ap length k.threads in
    omega (arith, sums, long, counts, lengths, k.live)

pub threads_grow : (a b : Segment) → Keeps a b → length a.world.threads ≤ length b.world.threads
threads_grow a b k =
    let long = length-append a.world.threads k.started in
    let lengths : length b.world.threads ≡ length (a.world.threads ++ k.started) = ap length k.threads in
    omega (arith, long, lengths)

get_before : (xs ys : List Rest) (n : ℕ) → n < length xs → slice_get (xs ++ ys) n ≡ slice_get xs n
get_before [] ys n h = absurd (omega (arith, h))
get_before (x ∷ xs) ys zero h = refl
get_before (x ∷ xs) ys (suc n) h = get_before xs ys n (omega (arith, h))

-- where a thread rested that was there, it rests
pub rest_kept : (a b : Segment) (n : ℕ) → Keeps a b → n < length a.world.threads → slice_get b.world.threads n ≡ slice_get a.world.threads n
rest_kept a b n k there = ap (λ (rs : List Rest). slice_get rs n) k.threads ∙ get_before a.world.threads k.started n there

-- ---- one step

-- what a step leads to, if it goes on, keeps this; and a stop puts nothing
abbrev pub KeepsStep : Segment → SegmentMove → Type 0
KeepsStep s (Goes next) = Keeps s next
KeepsStep s (Asks question waiting) = Unit {0}
KeepsStep s (Stops rested) = rested.world.outputs ≡ s.world.outputs

keeps_unless : (s : Segment) (globals : List (List ℕ)) (trap : Option TrapKind) (other : SegmentMove) → KeepsStep s other → KeepsStep s (unless_trap s globals trap other)
keeps_unless s globals (Some trap) other h = refl
keeps_unless s globals None other h = h

record Started (threads : List Rest) (starts : Option (ℕ × ℕ)) : Type 0 where
  more : List Rest
  is : with_started threads starts ≡ threads ++ more
  live : count_by lives more ≡ length more

started_by : (threads : List Rest) (starts : Option (ℕ × ℕ)) → Started threads starts
started_by threads None = record { more = []; is = sym (append-nil threads); live = refl }
started_by threads (Some start) = record { more = Fresh start.0 (start.1 ∷ []) ∷ []; is = refl; live = refl }

record Printed (number : ℕ) (outputs : List (ℕ × ℕ)) (prints : Option ℕ) : Type 0 where
  more : List (ℕ × ℕ)
  is : with_printed number outputs prints ≡ outputs ++ more

printed_by : (number : ℕ) (outputs : List (ℕ × ℕ)) (prints : Option ℕ) → Printed number outputs prints
printed_by number outputs None = record { more = []; is = sym (append-nil outputs) }
printed_by number outputs (Some value) = record { more = (number, value) ∷ []; is = refl }

keeps_row : (s : Segment) (globals : List (List ℕ)) (waiting : Waiting) (row : ImmediateRow) →
    Keeps s (record { number = s.number; running = source_resume waiting (record { result = row.result; globals = globals }); world = after_ask s.world s.number row })
keeps_row s globals waiting row =
    let started = started_by s.world.threads row.starts in
    let printed = printed_by s.number s.world.outputs row.prints in
    record { number = refl; started = started.more; threads = started.is; live = started.live; put = printed.more; outputs = printed.is }

module _ (program : ProgramTree) (caps : List ℕ) where
  keeps_call : (s : Segment) (globals : List (List ℕ)) (waiting : Waiting) (call : Call) → KeepsStep s (calls caps s globals waiting call)
  keeps_call s globals waiting (Blocking block) = keeps_unless s globals (blocking_row caps s.world.exchange block).trap (rests s globals (Blocked block waiting)) refl
  keeps_call s globals waiting (Immediate ask) =
      let row = immediate_row caps s.world.exchange s.number (length s.world.threads) ask in
      keeps_unless s globals row.trap _ (keeps_row s globals waiting row)

  keeps_move : (s : Segment) (move : SourceMove) → KeepsStep s (segment_move caps s move)
  keeps_move s (Goes running) = record { number = refl; started = []; threads = sym (append-nil s.world.threads); live = refl; put = []; outputs = sym (append-nil s.world.outputs) }
  keeps_move s (Asks question waiting) = keeps_call s question.globals waiting question.call
  keeps_move s (Stops finish) = keeps_unless s finish.globals finish.trap (rests s finish.globals Ended) refl

  pub keeps_step : (s : Segment) (move : SegmentMove) → segment_step program caps s ≡ move → KeepsStep s move
  keeps_step s move e = subst (KeepsStep s) e (keeps_move s (source_step program s.running))

  -- ---- many

  abbrev KeepsMoves : Segment → SegmentMove → Type 0
  KeepsMoves s (Goes next) = Keeps s next
  KeepsMoves s _ = Unit {0}

  keeps_on : (s next : Segment) (move : SegmentMove) → Keeps s next → KeepsMoves next move → KeepsMoves s move
  keeps_on s next (Goes later) h k = keeps_both s next later h k
  keeps_on s next _ h k = tt

  keeps_then : (n : ℕ) (s : Segment) (move : SegmentMove) → KeepsStep s move → ((next : Segment) → KeepsMoves next (moves (segment_machine program caps) n next)) → KeepsMoves s (and_then move (moves (segment_machine program caps) n))
  keeps_then n s (Goes next) h rest = keeps_on s next (moves (segment_machine program caps) n next) h (rest next)
  keeps_then n s _ h rest = tt

  keeps_all : (n : ℕ) (s : Segment) → KeepsMoves s (moves (segment_machine program caps) n s)
  keeps_all zero s = keeps_self s
  keeps_all (suc n) s = keeps_then n s (segment_step program caps s) (keeps_step s (segment_step program caps s) refl) (λ next. keeps_all n next)

  pub keeps_moves : (n : ℕ) (s next : Segment) → moves (segment_machine program caps) n s ≡ Goes next → Keeps s next
  keeps_moves n s next e = subst (KeepsMoves s) e (keeps_all n s)
