-- Where the source's run of a thread begins, and the first step at which it asks.
use Rattle.audited_logs.proofs.Common.{◌≡◌, ℕ, zero, suc, ◌<◌, true, List, [], ◌∷◌, ◌++◌, length, length-append, Option, Some, None, refl, ap, ◌∙◌, subst, arith, slice_get, Question, spawn_of, Goes, Asks, and_then, moves, ProgramTree, Running, Waiting, SourceMove, source_step, source_machine, lives}
use Rattle.c_mean.specs.World as source
use Rattle.c_mean.specs.World.{Rest, Fresh, Blocked, Segment, begun_at, begun, segment_step, segment_move, segment_machine, calls}
use Rattle.c_mean.proofs.SegmentLemmas.{silent}
use Rattle.audited_logs.proofs.Steps.{Keeps, rest_kept}
use Rattle.audited_logs.proofs.Uses.{none-not, same_some}

-- ---- the start

-- the segment is that thread's, the threads rest where they did, nothing was put, and the thread lives
pub record Begins (world : source.World) (number : ℕ) (first : Segment) : Type 0 where
  pub number_is : first.number ≡ number
  pub threads : first.world.threads ≡ world.threads
  pub outputs : first.world.outputs ≡ world.outputs
  pub rest : Rest
  pub there : slice_get world.threads number ≡ Some rest
  pub live : lives rest ≡ true

begins_at : (program : ProgramTree) (caps : List ℕ) (world : source.World) (number : ℕ) (first : Segment) (o : Option Rest) → slice_get world.threads number ≡ o → begun_at program caps world number o ≡ Some first → Begins world number first
begins_at program caps world number first (Some (Fresh function arguments)) there e =
    let same = same_some _ first e in
    subst (Begins world number) same (record { number_is = refl; threads = refl; outputs = refl; rest = Fresh function arguments; there = there; live = refl })
begins_at program caps world number first (Some (Blocked block waiting)) there e =
    let same = same_some _ first e in
    subst (Begins world number) same (record { number_is = refl; threads = refl; outputs = refl; rest = Blocked block waiting; there = there; live = refl })
begins_at program caps world number first _ there e = absurd (none-not first e)

pub begins : (program : ProgramTree) (caps : List ℕ) (world : source.World) (number : ℕ) (first : Segment) → begun program caps world number ≡ Some first → Begins world number first
begins program caps world number first e = begins_at program caps world number first (slice_get world.threads number) refl e

get_below : (xs : List Rest) (n : ℕ) (x : Rest) → slice_get xs n ≡ Some x → n < length xs
get_below (y ∷ xs) zero x e = omega arith
get_below (y ∷ xs) (suc n) x e = let below = get_below xs n x e in omega (arith, below)
get_below [] n x e = absurd (let no : ◌≡◌ {A = Option Rest} None (Some x) = e in cc)

-- in what it has come to, it still lives
pub record StillLives (here : Segment) (number : ℕ) : Type 0 where
  pub rest : Rest
  pub there : slice_get here.world.threads number ≡ Some rest
  pub live : lives rest ≡ true

pub still_lives : (world : source.World) (number : ℕ) (first here : Segment) → Begins world number first → Keeps first here → StillLives here number
still_lives world number first here b k =
    let below = get_below world.threads number b.rest b.there in
    let same : length first.world.threads ≡ length world.threads = ap length b.threads in
    record { rest = b.rest; there = rest_kept first here number k (omega (arith, below, same)) ∙ ap (λ (rs : List Rest). slice_get rs number) b.threads ∙ b.there; live = b.live }

-- ---- asking

not_goes : (question : Question) (waiting : Waiting) (running : Running) → ◌≡◌ {A = SourceMove} (Goes running) (Asks question waiting) → ⊥
not_goes question waiting running e = absurd (cc)

module _ (program : ProgramTree) where
  -- the first step that asks
  pub record FirstAsk (first : Running) (question : Question) (waiting : Waiting) : Type 0 where
    pub before : ℕ
    pub here : Running
    pub moved : moves (source_machine program) before first ≡ Goes here
    pub asks : source_step program here ≡ Asks question waiting

  ask_by : (n : ℕ) (first : Running) (question : Question) (waiting : Waiting) (move : SourceMove) → source_step program first ≡ move →
      ((next : Running) → moves (source_machine program) n next ≡ Asks question waiting → FirstAsk next question waiting) →
      and_then move (moves (source_machine program) n) ≡ Asks question waiting → FirstAsk first question waiting
  ask_by n first question waiting (Goes next) e rest k =
      let is = rest next k in
      record { before = suc is.before; here = is.here; moved = ap (λ (v : SourceMove). and_then v (moves (source_machine program) is.before)) e ∙ is.moved; asks = is.asks }
  ask_by n first question waiting _ e rest k = record { before = 0; here = first; moved = refl; asks = e ∙ k }

  pub first_ask : (n : ℕ) (first : Running) (question : Question) (waiting : Waiting) → moves (source_machine program) n first ≡ Asks question waiting → FirstAsk first question waiting
  first_ask zero first question waiting e = absurd (not_goes question waiting first e)
  first_ask (suc n) first question waiting e = ask_by n first question waiting (source_step program first) refl (λ next k. first_ask n next question waiting k) e

  -- a segment whose thread goes on to start another comes to that start, and leaves the world as it is up to it
  pub record ComesToStart (caps : List ℕ) (segment : Segment) : Type 0 where
    pub before : ℕ
    pub here : Segment
    pub moved : moves (segment_machine program caps) before segment ≡ Goes here
    pub world : here.world ≡ segment.world
    pub after : Segment
    pub starts : segment_step program caps here ≡ Goes after
    pub one_more : length after.world.threads ≡ suc (length here.world.threads)

  more_by_one : (threads : List Rest) (rest : Rest) → length (threads ++ rest ∷ []) ≡ suc (length threads)
  more_by_one threads rest = let long = length-append threads (rest ∷ []) in omega (arith, long)

  pub comes_to_start : (caps : List ℕ) (segment : Segment) (n function argument : ℕ) (question : Question) (waiting : Waiting) → moves (source_machine program) n segment.running ≡ Asks question waiting → question.call ≡ spawn_of function argument → ComesToStart caps segment
  comes_to_start caps segment n function argument question waiting e call =
      let ask = first_ask n segment.running question waiting e in
      let here : Segment = record segment { running = ask.here } in
      record {
        before = ask.before;
        here = here;
        moved = silent program caps segment ask.before ask.here ask.moved;
        world = refl;
        after = _;
        starts = ap (segment_move caps here) ask.asks ∙ ap (λ c. calls caps here question.globals waiting c) call;
        one_more = more_by_one segment.world.threads (Fresh function (argument ∷ []));
      }
