-- No step of a source thread changes the function with which it started.
use Rattle.machine_meaning.proofs.Common.{◌≡◌, inl, inr, ◌⊎◌, ℕ, zero, suc, ◌+◌, ◌-◌, ◌≤◌, Bool, true, false, List, [], ◌∷◌, ◌++◌, append_assoc, refl, sym, ap, subst, ◌∙◌, arith, ⊎_elim, Option, Some, None, Result, Ok, Err, option_map, slice_get, slice_index, slice_index_or, slice_set, nat_lt, length, cases_lt, Call, Question, Blocking, Immediate, call_of, spawn_of, Goes, Asks, Stops, and_then, moves, goes_on, stops_stay, TrapKind, number_of, ProgramTree, CallTree, CallFunction, CallTable, CallSpawn, CallModelled, RightTree, Computed, Called, SimpleTree, DeclareWith, SetLocal, SetGlobal, SetLocalElement, SetGlobalElement, Calling, Place, Nowhere, InLocal, InGlobal, InLocalElement, InGlobalElement, Returned, WaitingFrame, Running, Waiting, blocking_row, immediate_row, SourceMove, to_do, on_value, stored, stored_where, assigned, delivered_or, delivered, entered, entered_where, asks, asks_if, called, assigns, does, branched, returned, gives_back, performs, performs_first, source_step, source_machine, valued, all_valued, Item, Simply, Choose, Test, Enter, Back, Leave, Skip, GiveBack, GiveBackWord, Fail, before, body_before}
use Rattle.std.proofs.lemmas.Option.{none-some, same_Some}
use Rattle.c_mean.specs.World.{World, Segment, SegmentMove, Rested, Rest, Fresh, Blocked, Ended, unless_trap, rests, calls, segment_move, segment_step, segment_machine, begun_at, begun, thread_moves, with_started}
use Rattle.machine_meaning.specs.Firsts.{last_function, first_of, first_waiting, IsFirst, Began, IsGrown, IsUnderWayFrom, RestsFrom}

-- what a step of a thread that started with a function leads to is of that function
abbrev Keeps : ℕ → SourceMove → Type 0
Keeps f (Goes next) = first_of next ≡ f
Keeps f (Asks question waiting) = first_waiting waiting ≡ f
Keeps f (Stops finish) = Unit {0}

on_value-keeps : {A : Type 0} (f : ℕ) (thread : Running) (r : Result A TrapKind) (use_it : A → SourceMove) → ((a : A) → Keeps f (use_it a)) → Keeps f (on_value thread r use_it)
on_value-keeps f thread (Ok a) use_it keeps = keeps a
on_value-keeps f thread (Err trap) use_it keeps = tt

-- ---- storing

abbrev KeepsStored : Running → Result Running TrapKind → Type 0
KeepsStored thread (Ok after) = first_of after ≡ first_of thread
KeepsStored thread (Err trap) = Unit {0}

where-keeps : (b : Bool) (thread after : Running) → first_of after ≡ first_of thread → KeepsStored thread (stored_where b after)
where-keeps true thread after same = same
where-keeps false thread after same = tt

stored-keeps : (thread : Running) (place : Place) (word : ℕ) → KeepsStored thread (stored thread place word)
stored-keeps thread Nowhere word = refl
stored-keeps thread (InLocal x) word = refl
stored-keeps thread (InGlobal g) word = refl
stored-keeps thread (InLocalElement a i) word = where-keeps _ thread _ refl
stored-keeps thread (InGlobalElement a i) word = where-keeps _ thread _ refl
stored-keeps thread Returned word = refl

assigned-by : (thread : Running) (r : Result Running TrapKind) → KeepsStored thread r → Keeps (first_of thread) (on_value thread r Goes)
assigned-by thread (Ok after) keeps = keeps
assigned-by thread (Err trap) keeps = tt

assigned-keeps : (thread : Running) (place : Place) (word : ℕ) → Keeps (first_of thread) (assigned thread place word)
assigned-keeps thread place word = assigned-by thread (stored thread place word) (stored-keeps thread place word)

delivered-by : (thread : Running) (r : Result Running TrapKind) → KeepsStored thread r → first_of (delivered_or thread r) ≡ first_of thread
delivered-by thread (Ok after) keeps = keeps
delivered-by thread (Err trap) keeps = refl

pub delivered-keeps : (waiting : WaitingFrame) (below : List WaitingFrame) (globals : List (List ℕ)) (word : ℕ) → first_of (delivered waiting below globals word) ≡ last_function waiting.frame.function below
delivered-keeps waiting below globals word =
    let thread : Running = record { frame = waiting.frame; below = below; globals = globals } in
    delivered-by thread (stored thread waiting.place word) (stored-keeps thread waiting.place word)

-- ---- calls

table-keeps : (b : Bool) (program : ProgramTree) (thread : Running) (site : ℕ) (place : Place) (f argument : ℕ) → Keeps (first_of thread) (entered_where b program thread site place f argument)
table-keeps true program thread site place f argument = refl
table-keeps false program thread site place f argument = tt

asks-keeps : (thread : Running) (site : ℕ) (place : Place) (call : Option Call) → Keeps (first_of thread) (asks_if thread site place call)
asks-keeps thread site place (Some call) = refl
asks-keeps thread site place None = tt

called-keeps : (program : ProgramTree) (thread : Running) (place : Place) (call : CallTree) → Keeps (first_of thread) (called program thread place call)
called-keeps program thread place (CallFunction site f es) =
    on_value-keeps (first_of thread) thread (all_valued thread es) (λ arguments. entered program thread site place f arguments) (λ arguments. refl)
called-keeps program thread place (CallTable site t i e) =
    on_value-keeps (first_of thread) thread (valued thread i) _ (λ index.
    on_value-keeps (first_of thread) thread (valued thread e) _ (λ argument.
    table-keeps (nat_lt index (length (slice_index_or program.tables t []))) program thread site place (slice_index (slice_index_or program.tables t []) index) argument))
called-keeps program thread place (CallSpawn site f e) = on_value-keeps (first_of thread) thread (valued thread e) (λ argument. asks thread site place (spawn_of f argument)) (λ argument. refl)
called-keeps program thread place (CallModelled site m es) =
    on_value-keeps (first_of thread) thread (all_valued thread es) (λ arguments. asks_if thread site place (call_of (number_of m) arguments)) (λ arguments. asks-keeps thread site place (call_of (number_of m) arguments))

assigns-keeps : (program : ProgramTree) (thread : Running) (place : Place) (v : RightTree) → Keeps (first_of thread) (assigns program thread place v)
assigns-keeps program thread place (Computed e) = on_value-keeps (first_of thread) thread (valued thread e) (assigned thread place) (λ word. assigned-keeps thread place word)
assigns-keeps program thread place (Called call) = called-keeps program thread place call

-- ---- statements

does-keeps : (program : ProgramTree) (thread : Running) (s : SimpleTree) → Keeps (first_of thread) (does program thread s)
does-keeps program thread (DeclareWith x v) = assigns-keeps program thread (InLocal x) v
does-keeps program thread (SetLocal x v) = assigns-keeps program thread (InLocal x) v
does-keeps program thread (SetGlobal g v) = assigns-keeps program thread (InGlobal g) v
does-keeps program thread (SetLocalElement a i v) = on_value-keeps (first_of thread) thread (valued thread i) (λ index. assigns program thread (InLocalElement a index) v) (λ index. assigns-keeps program thread (InLocalElement a index) v)
does-keeps program thread (SetGlobalElement a i v) = on_value-keeps (first_of thread) thread (valued thread i) (λ index. assigns program thread (InGlobalElement a index) v) (λ index. assigns-keeps program thread (InGlobalElement a index) v)
does-keeps program thread (Calling call) = called-keeps program thread Nowhere call
does-keeps program thread _ = refl

branched-keeps : (thread : Running) (first second : List Item) (n : ℕ) → Keeps (first_of thread) (branched thread first second n)
branched-keeps thread first second zero = refl
branched-keeps thread first second (suc n) = refl

returned-keeps : (thread : Running) (below : List WaitingFrame) (word : ℕ) → Keeps (last_function thread.frame.function below) (returned thread below word)
returned-keeps thread [] word = tt
returned-keeps thread (waiting ∷ below) word = delivered-keeps waiting below thread.globals word

gives_back-keeps : (program : ProgramTree) (thread : Running) (v : Option RightTree) → Keeps (first_of thread) (gives_back program thread v)
gives_back-keeps program thread None = returned-keeps thread thread.below 0
gives_back-keeps program thread (Some (Computed e)) = on_value-keeps (first_of thread) thread (valued thread e) (returned thread thread.below) (λ word. returned-keeps thread thread.below word)
gives_back-keeps program thread (Some (Called call)) = called-keeps program thread Returned call

performs-keeps : (program : ProgramTree) (thread : Running) (item : Item) (rest : List Item) → Keeps (first_of thread) (performs program thread item rest)
performs-keeps program thread (Simply s) rest = does-keeps program thread s
performs-keeps program thread (Choose c s r) rest = on_value-keeps (first_of thread) thread (valued thread c) (branched thread (before s rest) (before r rest)) (λ n. branched-keeps thread (before s rest) (before r rest) n)
performs-keeps program thread (Test c loop) rest = on_value-keeps (first_of thread) thread (valued thread c) (branched thread (body_before loop rest) rest) (λ n. branched-keeps thread (body_before loop rest) rest n)
performs-keeps program thread (GiveBack v) rest = gives_back-keeps program thread v
performs-keeps program thread (GiveBackWord word) rest = returned-keeps thread thread.below word
performs-keeps program thread (Fail trap) rest = tt
performs-keeps program thread _ rest = refl

first-keeps : (program : ProgramTree) (thread : Running) (items : List Item) → Keeps (first_of thread) (performs_first program thread items)
first-keeps program thread [] = returned-keeps thread thread.below 0
first-keeps program thread (Enter ∷ rest) = first-keeps program thread rest
first-keeps program thread (Simply s ∷ rest) = performs-keeps program (to_do thread rest) (Simply s) rest
first-keeps program thread (Choose c s r ∷ rest) = performs-keeps program (to_do thread rest) (Choose c s r) rest
first-keeps program thread (Test c loop ∷ rest) = performs-keeps program (to_do thread rest) (Test c loop) rest
first-keeps program thread (Back loop ∷ rest) = performs-keeps program (to_do thread rest) (Back loop) rest
first-keeps program thread (Leave ∷ rest) = performs-keeps program (to_do thread rest) Leave rest
first-keeps program thread (Skip ∷ rest) = performs-keeps program (to_do thread rest) Skip rest
first-keeps program thread (GiveBack v ∷ rest) = performs-keeps program (to_do thread rest) (GiveBack v) rest
first-keeps program thread (GiveBackWord word ∷ rest) = performs-keeps program (to_do thread rest) (GiveBackWord word) rest
first-keeps program thread (Fail trap ∷ rest) = performs-keeps program (to_do thread rest) (Fail trap) rest

pub step-keeps : (program : ProgramTree) (thread : Running) → Keeps (first_of thread) (source_step program thread)
step-keeps program thread = first-keeps program thread thread.frame.to_do

-- what any number of steps leads to
then-keeps : (program : ProgramTree) (f n : ℕ) (move : SourceMove) → Keeps f move → ((next : Running) → Keeps (first_of next) (moves (source_machine program) n next)) → Keeps f (and_then move (moves (source_machine program) n))
then-keeps program f n (Goes next) first later = subst (λ (g : ℕ). Keeps g (moves (source_machine program) n next)) first (later next)
then-keeps program f n (Asks question waiting) first later = first
then-keeps program f n (Stops finish) first later = tt

pub moves-keep : (program : ProgramTree) (n : ℕ) (thread : Running) → Keeps (first_of thread) (moves (source_machine program) n thread)
moves-keep program zero thread = refl
moves-keep program (suc n) thread = then-keeps program (first_of thread) n (source_step program thread) (step-keeps program thread) (λ next. moves-keep program n next)

pub asks-first : (program : ProgramTree) (n : ℕ) (thread : Running) (question : Question) (waiting : Waiting) → moves (source_machine program) n thread ≡ Asks question waiting → first_waiting waiting ≡ first_of thread
asks-first program n thread question waiting e = subst (Keeps (first_of thread)) e (moves-keep program n thread)

-- ---- segments

-- what a step, or steps, of a segment lead to
abbrev Leads : Segment → SegmentMove → Type 0
Leads s (Goes next) = (next.number ≡ s.number) × (first_of next.running ≡ first_of s.running) × IsGrown s.world.threads next.world.threads
Leads s (Asks question waiting) = Unit {0}
Leads s (Stops rested) = rested.trap ≡ None → RestsFrom s rested.world

grown-none : (threads : List Rest) → IsGrown threads threads
grown-none threads = record { more = []; is = sym (append-none threads) }
  where
    append-none : (xs : List Rest) → xs ++ [] ≡ xs
    append-none [] = refl
    append-none (x ∷ xs) = ap (λ (ys : List Rest). x ∷ ys) (append-none xs)

started-grown : (threads : List Rest) (start : Option (ℕ × ℕ)) → IsGrown threads (with_started threads start)
started-grown threads None = grown-none threads
started-grown threads (Some start) = record { more = Fresh start.0 (start.1 ∷ []) ∷ []; is = refl }

grown-on : (a b c : List Rest) → IsGrown a b → IsGrown b c → IsGrown a c
grown-on a b c first second = record { more = first.more ++ second.more; is = second.is ∙ (ap (λ (xs : List Rest). xs ++ second.more) first.is ∙ append_assoc a first.more second.more) }

-- a trap rests nowhere
trap-leads : (s : Segment) (globals : List (List ℕ)) (trap : Option TrapKind) (other : SegmentMove) → Leads s other → Leads s (unless_trap s globals trap other)
trap-leads s globals (Some trap) other leads = λ e. absurd (none-some trap (sym e))
trap-leads s globals None other leads = leads

rests-leads : (s : Segment) (globals : List (List ℕ)) (rest : Rest) → IsFirst (first_of s.running) rest → Leads s (rests s globals rest)
rests-leads s globals rest first = λ e. record { rest = rest; first = first; threads = s.world.threads; grown = grown-none s.world.threads; is = refl }

call-leads : (caps : List ℕ) (s : Segment) (globals : List (List ℕ)) (waiting : Waiting) (call : Call) → first_waiting waiting ≡ first_of s.running → Leads s (calls caps s globals waiting call)
call-leads caps s globals waiting (Blocking block) first =
    trap-leads s globals (blocking_row caps s.world.exchange block).trap (rests s globals (Blocked block waiting)) (rests-leads s globals (Blocked block waiting) (sym first))
call-leads caps s globals waiting (Immediate ask) first =
    let row = immediate_row caps s.world.exchange s.number (length s.world.threads) ask in
    trap-leads s globals row.trap _ (refl, delivered-keeps waiting.front waiting.below globals row.result ∙ first, started-grown s.world.threads row.starts)

move-leads : (caps : List ℕ) (s : Segment) (move : SourceMove) → Keeps (first_of s.running) move → Leads s (segment_move caps s move)
move-leads caps s (Goes running) keeps = (refl, keeps, grown-none s.world.threads)
move-leads caps s (Asks question waiting) keeps = call-leads caps s question.globals waiting question.call keeps
move-leads caps s (Stops finish) keeps = trap-leads s finish.globals finish.trap (rests s finish.globals Ended) (rests-leads s finish.globals Ended tt)

pub segment-leads : (program : ProgramTree) (caps : List ℕ) (s : Segment) → Leads s (segment_step program caps s)
segment-leads program caps s = move-leads caps s (source_step program s.running) (step-keeps program s.running)

-- one step, and then others
on-leads : (s next : Segment) (move : SegmentMove) → Leads s (Goes next) → Leads next move → Leads s move
on-leads s next (Goes after) first second = (second.0 ∙ first.0, second.1 ∙ first.1, grown-on s.world.threads next.world.threads after.world.threads first.2 second.2)
on-leads s next (Asks question waiting) first second = tt
on-leads s next (Stops rested) first second = λ e.
    let r = second e in
    record {
      rest = r.rest;
      first = subst (λ (f : ℕ). IsFirst f r.rest) first.1 r.first;
      threads = r.threads;
      grown = grown-on s.world.threads next.world.threads r.threads first.2 r.grown;
      is = r.is ∙ ap (λ (n : ℕ). slice_set r.threads n r.rest) first.0;
    }

module _ (program : ProgramTree) (caps : List ℕ) where
  then-leads : (s : Segment) (step : SegmentMove) (rest : Segment → SegmentMove) → Leads s step → ((next : Segment) → Leads next (rest next)) → Leads s (and_then step rest)
  then-leads s (Goes next) rest first later = on-leads s next (rest next) first (later next)
  then-leads s (Asks question waiting) rest first later = tt
  then-leads s (Stops rested) rest first later = first

  pub moves-lead : (n : ℕ) (s : Segment) → Leads s (moves (segment_machine program caps) n s)
  moves-lead zero s = (refl, refl, grown-none s.world.threads)
  moves-lead (suc n) s = then-leads s (segment_step program caps s) (moves (segment_machine program caps) n) (segment-leads program caps s) (λ next. moves-lead n next)

  -- ---- from where the thread rested

  record IsBegun (start : World) (number : ℕ) (segment : Segment) : Type 0 where
    number_is : segment.number ≡ number
    rest : Rest
    rested : slice_get start.threads number ≡ Some rest
    first : Began (first_of segment.running) rest
    same : segment.world.threads ≡ start.threads

  begun-by : (start : World) (number : ℕ) (rest : Option Rest) (segment : Segment) → slice_get start.threads number ≡ rest → begun_at program caps start number rest ≡ Some segment → IsBegun start number segment
  begun-by start number (Some (Fresh function arguments)) segment there e =
      let is = same_Some _ segment e in
      subst (IsBegun start number) is (record { number_is = refl; rest = Fresh function arguments; rested = there; first = refl; same = refl })
  begun-by start number (Some (Blocked block waiting)) segment there e =
      let is = same_Some _ segment e in
      subst (IsBegun start number) is (record {
        number_is = refl;
        rest = Blocked block waiting;
        rested = there;
        first = delivered-keeps waiting.front waiting.below start.globals (blocking_row caps start.exchange block).result;
        same = refl;
      })
  begun-by start number _ segment there e = absurd (none-some segment e)

  -- the move of a thread is one of the segment that begins
  record IsFrom (start : World) (number n : ℕ) (move : SegmentMove) : Type 0 where
    segment : Segment
    is : IsBegun start number segment
    comes : moves (segment_machine program caps) n segment ≡ move

  from-by : (start : World) (number n : ℕ) (move : SegmentMove) (o : Option Segment) → begun program caps start number ≡ o → option_map (moves (segment_machine program caps) n) o ≡ Some move → IsFrom start number n move
  from-by start number n move None there e = absurd (none-some move e)
  from-by start number n move (Some segment) there e =
      record { segment = segment; is = begun-by start number (slice_get start.threads number) segment refl there; comes = same_Some _ move e }

  from : (start : World) (number n : ℕ) (move : SegmentMove) → thread_moves program caps start number n ≡ Some move → IsFrom start number n move
  from start number n move e = from-by start number n move (begun program caps start number) refl e

  pub under-way-from : (start : World) (number n : ℕ) (segment : Segment) → thread_moves program caps start number n ≡ Some (Goes segment) → IsUnderWayFrom start number segment
  under-way-from start number n segment e =
      let f = from start number n (Goes segment) e in
      let leads = subst (Leads f.segment) f.comes (moves-lead n f.segment) in
      record {
        number_is = leads.0 ∙ f.is.number_is;
        rest = f.is.rest;
        rested = f.is.rested;
        first = subst (λ (g : ℕ). Began g f.is.rest) (sym leads.1) f.is.first;
        grown = subst (λ (threads : List Rest). IsGrown threads segment.world.threads) f.is.same leads.2;
      }

  -- two moves of one thread are of one segment
  later : (start : World) (number n k : ℕ) (segment : Segment) (move : SegmentMove) → n ≤ k → thread_moves program caps start number n ≡ Some (Goes segment) → thread_moves program caps start number k ≡ Some move → Leads segment move
  later start number n k segment move le first second = by (begun program caps start number) first second
    where
      by : (o : Option Segment) → option_map (moves (segment_machine program caps) n) o ≡ Some (Goes segment) → option_map (moves (segment_machine program caps) k) o ≡ Some move → Leads segment move
      by None a b = absurd (none-some move b)
      by (Some s) a b =
          let goes = same_Some _ (Goes segment) a in
          let comes = same_Some _ move b in
          let sum : n + (k - n) ≡ k = omega (arith, le) in
          let on : moves (segment_machine program caps) (n + (k - n)) s ≡ moves (segment_machine program caps) (k - n) segment = goes_on (segment_machine program caps) n (k - n) s segment goes in
          let same : moves (segment_machine program caps) (k - n) segment ≡ move = sym on ∙ (ap (λ (m : ℕ). moves (segment_machine program caps) m s) sum ∙ comes) in
          subst (Leads segment) same (moves-lead (k - n) segment)

  -- a segment's moves are the thread's
  pub thread-on : (start : World) (number n m : ℕ) (segment : Segment) (move : SegmentMove) → thread_moves program caps start number n ≡ Some (Goes segment) → moves (segment_machine program caps) m segment ≡ move → thread_moves program caps start number (n + m) ≡ Some move
  thread-on start number n m segment move first second = by (begun program caps start number) first
    where
      by : (o : Option Segment) → option_map (moves (segment_machine program caps) n) o ≡ Some (Goes segment) → option_map (moves (segment_machine program caps) (n + m)) o ≡ Some move
      by None a = absurd (none-some (Goes segment) a)
      by (Some s) a = ap Some (goes_on (segment_machine program caps) n m s segment (same_Some _ (Goes segment) a) ∙ second)

  -- of two segments of one thread's run, the threads of the one are those of the other and more
  pub grown-either : (start : World) (number n k : ℕ) (a b : Segment) → thread_moves program caps start number n ≡ Some (Goes a) → thread_moves program caps start number k ≡ Some (Goes b) →
      IsGrown a.world.threads b.world.threads ⊎ IsGrown b.world.threads a.world.threads
  grown-either start number n k a b first second = ⊎_elim
      (λ lt. inl ((later start number n k a (Goes b) (omega (arith, lt)) first second).2))
      (λ le. inr ((later start number k n b (Goes a) le second first).2))
      (cases_lt n k)

  -- a run that has come to rest is behind each of its segments
  pub rests-from : (start : World) (number n k : ℕ) (segment : Segment) (rested : Rested) → thread_moves program caps start number n ≡ Some (Goes segment) → thread_moves program caps start number k ≡ Some (Stops rested) → rested.trap ≡ None → RestsFrom segment rested.world
  rests-from start number n k segment rested first second none = ⊎_elim
      (λ lt. later start number n k segment (Stops rested) (omega (arith, lt)) first second none)
      (λ le. by le (begun program caps start number) first second)
      (cases_lt n k)
    where
      by : k ≤ n → (o : Option Segment) → option_map (moves (segment_machine program caps) n) o ≡ Some (Goes segment) → option_map (moves (segment_machine program caps) k) o ≡ Some (Stops rested) → RestsFrom segment rested.world
      by le None a b = absurd (none-some (Stops rested) b)
      by le (Some s) a b =
          let goes = same_Some _ (Goes segment) a in
          let stops = same_Some _ (Stops rested) b in
          let sum : k + (n - k) ≡ n = omega (arith, le) in
          let stay : moves (segment_machine program caps) (k + (n - k)) s ≡ Stops rested = stops_stay (segment_machine program caps) k (n - k) s rested stops in
          let both : (let m : SegmentMove = Stops rested in m) ≡ Goes segment = sym stay ∙ (ap (λ (m : ℕ). moves (segment_machine program caps) m s) sum ∙ goes) in
          absurd cc
