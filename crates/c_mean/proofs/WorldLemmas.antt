-- Runs of a thread in a world: they have one end, and leave the others alone.
use Rattle.c_mean.proofs.Common.{◌≡◌, ◌≢◌, ℕ, zero, suc, ◌+◌, ◌<◌, ◌≤◌, List, [], ◌∷◌, ◌++◌, map, length, Option, Some, None, option_map, refl, sym, ap, ◌∙◌, subst, arith, append_assoc, append-nil, length-append, length-set, slice_get, slice_set, map-append, Call, Blocking, Immediate, Goes, Asks, Stops, and_then, moves, TrapKind, Block, ExprTree, Number, Local, Global, LocalElement, GlobalElement, Unary, Parenthesized, Binary, LogicalAnd, LogicalOr, Conditional, ProgramTree, Context, IsExprScoped, IsInRange, Running, Waiting, SourceMove, source_step, Exchange, blocking_row, ImmediateRow, immediate_row}
use Rattle.cap_word.proofs.RunLemmas.{stops_stay}
use Rattle.cap_word.specs.declared.calls.Ask.{Ask}
use Rattle.c_mean.specs.World.{Rest, Fresh, Blocked, Ended, World, Segment, Rested, SegmentMove, traps, rests, unless_trap, with_printed, with_started, after_ask, calls, segment_move, segment_step, segment_machine, begun_at, begun, RunsTo, IsCutAt, Entry, Deliver, Run, IsAfterEntry, IsAfter}
use Rattle.c_mean.specs.Kept.{LeavesAlone}

-- a list with one element set has the others where they stood
pub slice_get-set_other : {A : Type 0} (xs : List A) (i u : ℕ) (a : A) → u ≢ i → slice_get (slice_set xs i a) u ≡ slice_get xs u
slice_get-set_other (x ∷ xs) zero zero a ne = absurd (ne refl)
slice_get-set_other (x ∷ xs) (suc i) (suc u) a ne = slice_get-set_other xs i u a (λ e. ne (ap suc e))
slice_get-set_other _ _ _ a ne = refl

-- and one that has grown at its end has its front where it stood
slice_get-append_front : {A : Type 0} (xs ys : List A) (u : ℕ) → u < length xs → slice_get (xs ++ ys) u ≡ slice_get xs u
slice_get-append_front [] ys u lt = absurd (omega arith)
slice_get-append_front (x ∷ xs) ys zero lt = refl
slice_get-append_front (x ∷ xs) ys (suc u) lt = slice_get-append_front xs ys u (omega arith)

-- a run of a thread that has stopped stays so
stays : (program : ProgramTree) (caps : List ℕ) (start : Option Segment) (m n : ℕ) (rested : Rested) → option_map (moves (segment_machine program caps) m) start ≡ Some (Stops rested) → option_map (moves (segment_machine program caps) (m + n)) start ≡ Some (Stops rested)
stays program caps None m n rested h = cc
stays program caps (Some segment) m n rested h =
    let e : moves (segment_machine program caps) m segment ≡ Stops rested = cc in
    ap Some (stops_stay (segment_machine program caps) m n segment rested e)

pub one_run : (program : ProgramTree) (caps : List ℕ) (world : World) (number : ℕ) (one other : Rested) → RunsTo program caps world number one → RunsTo program caps world number other → one ≡ other
one_run program caps world number one other h k =
    let start = begun program caps world number in
    let turn : h.0 + k.0 ≡ k.0 + h.0 = omega arith in
    let same : ◌≡◌ {A = Option SegmentMove} (Some (Stops one)) (Some (Stops other)) =
    sym (stays program caps start h.0 k.0 one h.1) ∙ ap (λ n. option_map (moves (segment_machine program caps) n) start) turn ∙ stays program caps start k.0 h.0 other k.1 in
    cc

one_entry : (program : ProgramTree) (caps : List ℕ) (world : World) (entry : Entry) (one other : World) → IsAfterEntry program caps world entry one → IsAfterEntry program caps world entry other → one ≡ other
one_entry program caps world (Deliver delivery) one other h k = h ∙ sym k
one_entry program caps world (Run number) one other h k =
    ap (λ (r : Rested). r.world) (one_run program caps world number (record { trap = None; world = one }) (record { trap = None; world = other }) h k)

pub one_schedule : (program : ProgramTree) (caps : List ℕ) (entries : List Entry) (world one other : World) → IsAfter program caps world entries one → IsAfter program caps world entries other → one ≡ other
one_schedule program caps [] world one other h k = h ∙ sym k
one_schedule program caps (entry ∷ entries) world one other h k =
    one_schedule program caps entries h.0 one other h.2 (subst (λ w. IsAfter program caps w entries other) (sym (one_entry program caps world entry h.0 k.0 h.1 k.1)) k.2)

-- ---- what is left alone

module _ (program : ProgramTree) (caps : List ℕ) (world : World) (t : ℕ) where
  -- a segment of thread t, after which the world was left alone so far
  record Keeps (segment : Segment) : Type 0 where
    own : segment.number ≡ t
    alone : LeavesAlone world t segment.world

  abbrev Kept : SegmentMove → Type 0
  Kept (Goes segment) = Keeps segment
  Kept (Asks question waiting) = Unit {0}
  Kept (Stops rested) = LeavesAlone world t rested.world

  -- what a run that has come to a trap leaves
  kept_trap : (segment : Segment) (globals : List (List ℕ)) (trap : TrapKind) → Keeps segment → Kept (traps segment globals trap)
  kept_trap segment globals trap h = record { others = h.alone.others; none_gone = h.alone.none_gone; outputs = h.alone.outputs; channels = h.alone.channels }

  kept_unless : (segment : Segment) (globals : List (List ℕ)) (trap : Option TrapKind) (other : SegmentMove) → Keeps segment → Kept other → Kept (unless_trap segment globals trap other)
  kept_unless segment globals (Some trap) other h k = kept_trap segment globals trap h
  kept_unless segment globals None other h k = k

  kept_rest : (segment : Segment) (globals : List (List ℕ)) (rest : Rest) → Keeps segment → Kept (rests segment globals rest)
  kept_rest segment globals rest h = record {
    others = λ u ne lt. let away : u ≢ segment.number = λ e. ne (e ∙ h.own) in slice_get-set_other segment.world.threads segment.number u rest away ∙ h.alone.others u ne lt;
    none_gone = omega (arith, h.alone.none_gone, length-set segment.world.threads segment.number rest);
    outputs = h.alone.outputs;
    channels = h.alone.channels;
  }

  -- threads that start join the end
  kept_started : (threads : List Rest) (start : Option (ℕ × ℕ)) (u : ℕ) → u < length threads → slice_get (with_started threads start) u ≡ slice_get threads u
  kept_started threads None u lt = refl
  kept_started threads (Some start) u lt = slice_get-append_front threads (Fresh start.0 (start.1 ∷ []) ∷ []) u lt

  started_more : (threads : List Rest) (start : Option (ℕ × ℕ)) → length threads ≤ length (with_started threads start)
  started_more threads None = omega arith
  started_more threads (Some start) = omega (arith, length-append threads (Fresh start.0 (start.1 ∷ []) ∷ []))

  printed_more : (before outputs : List (ℕ × ℕ)) (number : ℕ) (prints : Option ℕ) → number ≡ t → (values : List ℕ) × (outputs ≡ before ++ map (λ v. (t, v)) values) → (values : List ℕ) × (with_printed number outputs prints ≡ before ++ map (λ v. (t, v)) values)
  printed_more before outputs number None own h = h
  printed_more before outputs number (Some value) own h = (
    h.0 ++ value ∷ [],
    ap (λ os. os ++ (number, value) ∷ []) h.1
        ∙ append_assoc before (map (λ v. (t, v)) h.0) ((number, value) ∷ [])
        ∙ ap (λ n. before ++ (map (λ v. (t, v)) h.0 ++ (n, value) ∷ [])) own
        ∙ ap (λ os. before ++ os) (sym (map-append (λ (v : ℕ). (t, v)) h.0 (value ∷ []))),
  )

  kept_ask : (segment : Segment) (running : Running) (row : ImmediateRow) → length row.after.channels ≡ length segment.world.exchange.channels → Keeps segment → Keeps (record { number = segment.number; running = running; world = after_ask segment.world segment.number row })
  kept_ask segment running row same h = record {
    own = h.own;
    alone = record {
      others = λ u ne lt. let there : u < length segment.world.threads = omega (arith, h.alone.none_gone) in kept_started segment.world.threads row.starts u there ∙ h.alone.others u ne lt;
      none_gone = omega (arith, h.alone.none_gone, started_more segment.world.threads row.starts);
      outputs = printed_more world.outputs segment.world.outputs segment.number row.prints h.own h.alone.outputs;
      channels = same ∙ h.alone.channels;
    };
  }

  same_channels : (x : Exchange) (number next : ℕ) (ask : Ask) → length (immediate_row caps x number next ask).after.channels ≡ length x.channels
  same_channels x number next (Ask.Put value) = refl
  same_channels x number next _ = refl

  kept_call : (segment : Segment) (globals : List (List ℕ)) (waiting : Waiting) (call : Call) → Keeps segment → Kept (calls caps segment globals waiting call)
  kept_call segment globals waiting (Blocking block) h =
      kept_unless segment globals (blocking_row caps segment.world.exchange block).trap (rests segment globals (Blocked block waiting)) h (kept_rest segment globals (Blocked block waiting) h)
  kept_call segment globals waiting (Immediate ask) h =
      let row = immediate_row caps segment.world.exchange segment.number (length segment.world.threads) ask in
      kept_unless segment globals row.trap _ h (kept_ask segment _ row (same_channels segment.world.exchange segment.number (length segment.world.threads) ask) h)

  kept_move : (segment : Segment) (move : SourceMove) → Keeps segment → Kept (segment_move caps segment move)
  kept_move segment (Goes running) h = record { own = h.own; alone = h.alone }
  kept_move segment (Asks question waiting) h = kept_call segment question.globals waiting question.call h
  kept_move segment (Stops finish) h = kept_unless segment finish.globals finish.trap (rests segment finish.globals Ended) h (kept_rest segment finish.globals Ended h)

  kept_then : (move : SegmentMove) (rest : Segment → SegmentMove) → Kept move → ((segment : Segment) → Keeps segment → Kept (rest segment)) → Kept (and_then move rest)
  kept_then (Goes segment) rest h k = k segment h
  kept_then (Asks question waiting) rest h k = tt
  kept_then (Stops rested) rest h k = h

  kept_moves : (n : ℕ) (segment : Segment) → Keeps segment → Kept (moves (segment_machine program caps) n segment)
  kept_moves zero segment h = h
  kept_moves (suc n) segment h =
      kept_then (segment_step program caps segment) (moves (segment_machine program caps) n) (kept_move segment (source_step program segment.running) h) (λ s k. kept_moves n s k)

  same_rows : (x : Exchange) (block : Block) → length (blocking_row caps x block).after.channels ≡ length x.channels
  same_rows x (Block.Wait channel) = length-set x.channels channel _
  same_rows x _ = refl

  kept_from : (start : Segment) (n : ℕ) (move : SegmentMove) → Keeps start → Some (moves (segment_machine program caps) n start) ≡ Some move → Kept move
  kept_from start n move k h = let e : moves (segment_machine program caps) n start ≡ move = cc in subst Kept e (kept_moves n start k)

  untouched : (x : Exchange) → length x.channels ≡ length world.exchange.channels → LeavesAlone world t (record world { exchange = x })
  untouched x same = record { others = λ u ne lt. refl; none_gone = omega arith; outputs = ([], sym (append-nil world.outputs)); channels = same }

  -- a thread that begins leaves the world as it is, but for what it takes from a queue or of a resource
  kept_begun : (rest : Option Rest) (n : ℕ) (move : SegmentMove) → option_map (moves (segment_machine program caps) n) (begun_at program caps world t rest) ≡ Some move → Kept move
  kept_begun (Some (Fresh function arguments)) n move h = kept_from _ n move (record { own = refl; alone = untouched world.exchange refl }) h
  kept_begun (Some (Blocked block waiting)) n move h =
      kept_from _ n move (record { own = refl; alone = untouched (blocking_row caps world.exchange block).after (same_rows world.exchange block) }) h
  kept_begun _ n move h = cc

  pub alone_after : (rested : Rested) → RunsTo program caps world t rested → LeavesAlone world t rested.world
  alone_after rested h = kept_begun (slice_get world.threads t) h.0 (Stops rested) h.1

  pub alone_at_cut : (puts : ℕ) (segment : Segment) → IsCutAt program caps world t puts segment → LeavesAlone world t segment.world
  alone_at_cut puts segment h = (kept_begun (slice_get world.threads t) h.0 (Goes segment) h.1).alone

-- ---- expressions in range

pub scoped_in_range : (context : Context) (scope : List ℕ) (expr : ExprTree) → IsExprScoped context scope expr → IsInRange context.sizes context.globals expr
scoped_in_range c scope (Number v) h = tt
scoped_in_range c scope (Local x) h = (h.0, h.1)
scoped_in_range c scope (Global g) h = h
scoped_in_range c scope (LocalElement a i) h = (h.0, scoped_in_range c scope i h.2)
scoped_in_range c scope (GlobalElement a i) h = (h.0, scoped_in_range c scope i h.1)
scoped_in_range c scope (Unary operator e) h = scoped_in_range c scope e h
scoped_in_range c scope (Parenthesized e) h = scoped_in_range c scope e h
scoped_in_range c scope (Binary operator l r) h = (scoped_in_range c scope l h.0, scoped_in_range c scope r h.1)
scoped_in_range c scope (LogicalAnd l r) h = (scoped_in_range c scope l h.0, scoped_in_range c scope r h.1)
scoped_in_range c scope (LogicalOr l r) h = (scoped_in_range c scope l h.0, scoped_in_range c scope r h.1)
scoped_in_range c scope (Conditional e a b) h = (scoped_in_range c scope e h.0, scoped_in_range c scope a h.1, scoped_in_range c scope b h.2)
