-- The outputs of a source's run grow, so that a run that has put so many values has a first moment at which it had.
use Rattle.machine_meaning.proofs.Common.{◌≡◌, ℕ, zero, suc, ◌+◌, ◌<◌, ◌≤◌, List, [], ◌∷◌, ◌++◌, length, Option, Some, None, refl, sym, ap, subst, ◌∙◌, arith, append_assoc, length-append, ⊎_elim, option_map, cases_lt, append-nil, Call, Blocking, Immediate, Goes, Asks, Stops, and_then, moves, moves_add, TrapKind, ProgramTree, Waiting, blocking_row, immediate_row, SourceMove, source_step}
use Rattle.c_mean.specs.World.{Blocked, Ended, World, Segment, SegmentMove, rests, unless_trap, with_printed, calls, segment_move, segment_step, segment_machine, begun, thread_moves, IsCutAt}

-- outputs that follow others
abbrev pub Follows : List (ℕ × ℕ) → List (ℕ × ℕ) → Type 0
Follows before after = (more : List (ℕ × ℕ)) × (after ≡ before ++ more)

follows_self : (outputs : List (ℕ × ℕ)) → Follows outputs outputs
follows_self outputs = ([], sym (append-nil outputs))

follows_both : (a b c : List (ℕ × ℕ)) → Follows a b → Follows b c → Follows a c
follows_both a b c h k = (h.0 ++ k.0, k.1 ∙ ap (λ (os : List (ℕ × ℕ)). os ++ k.0) h.1 ∙ append_assoc a h.0 k.0)

module _ (program : ProgramTree) (caps : List ℕ) where
  -- a segment that a move goes on to has outputs that follow these
  abbrev Grows : List (ℕ × ℕ) → SegmentMove → Type 0
  Grows outputs (Goes next) = Follows outputs next.world.outputs
  Grows outputs _ = Unit {0}

  grows_unless : (segment : Segment) (globals : List (List ℕ)) (trap : Option TrapKind) (other : SegmentMove) → Grows segment.world.outputs other → Grows segment.world.outputs (unless_trap segment globals trap other)
  grows_unless segment globals (Some trap) other h = tt
  grows_unless segment globals None other h = h

  grows_printed : (number : ℕ) (outputs : List (ℕ × ℕ)) (prints : Option ℕ) → Follows outputs (with_printed number outputs prints)
  grows_printed number outputs None = follows_self outputs
  grows_printed number outputs (Some value) = ((number, value) ∷ [], refl)

  grows_call : (segment : Segment) (globals : List (List ℕ)) (waiting : Waiting) (call : Call) → Grows segment.world.outputs (calls caps segment globals waiting call)
  grows_call segment globals waiting (Blocking block) = grows_unless segment globals (blocking_row caps segment.world.exchange block).trap (rests segment globals (Blocked block waiting)) tt
  grows_call segment globals waiting (Immediate ask) =
      let row = immediate_row caps segment.world.exchange segment.number (length segment.world.threads) ask in
      grows_unless segment globals row.trap _ (grows_printed segment.number segment.world.outputs row.prints)

  grows_move : (segment : Segment) (move : SourceMove) → Grows segment.world.outputs (segment_move caps segment move)
  grows_move segment (Goes running) = follows_self segment.world.outputs
  grows_move segment (Asks question waiting) = grows_call segment question.globals waiting question.call
  grows_move segment (Stops finish) = grows_unless segment finish.globals finish.trap (rests segment finish.globals Ended) tt

  grows_then : (outputs : List (ℕ × ℕ)) (move : SegmentMove) (n : ℕ) → Grows outputs move → ((next : Segment) → Grows next.world.outputs (moves (segment_machine program caps) n next)) → Grows outputs (and_then move (moves (segment_machine program caps) n))
  grows_then outputs (Goes next) n h rest = grows_more outputs next (moves (segment_machine program caps) n next) h (rest next)
    where
      grows_more : (outputs : List (ℕ × ℕ)) (next : Segment) (move : SegmentMove) → Follows outputs next.world.outputs → Grows next.world.outputs move → Grows outputs move
      grows_more outputs next (Goes later) h k = follows_both outputs next.world.outputs later.world.outputs h k
      grows_more outputs next (Asks question waiting) h k = tt
      grows_more outputs next (Stops rested) h k = tt
  grows_then outputs _ n h rest = tt

  grows : (n : ℕ) (segment : Segment) → Grows segment.world.outputs (moves (segment_machine program caps) n segment)
  grows zero segment = follows_self segment.world.outputs
  grows (suc n) segment = grows_then segment.world.outputs (segment_step program caps segment) n (grows_move segment (source_step program segment.running)) (λ next. grows n next)

  -- a segment that goes on
  pub grown : (n : ℕ) (segment next : Segment) → moves (segment_machine program caps) n segment ≡ Goes next → Follows segment.world.outputs next.world.outputs
  grown n segment next e = subst (Grows segment.world.outputs) e (grows n segment)

  -- ---- the first moment

  -- what it has gone on to after fewer steps
  record Earlier (first : Segment) (k m : ℕ) (segment : Segment) : Type 0 where
    earlier : Segment
    comes : moves (segment_machine program caps) k first ≡ Goes earlier
    grown : Follows earlier.world.outputs segment.world.outputs

  earlier_of : (first : Segment) (k m : ℕ) (segment : Segment) → k ≤ m → moves (segment_machine program caps) m first ≡ Goes segment → Earlier first k m segment
  earlier_of first k m segment le e = from_move (moves (segment_machine program caps) k first) refl
    where
      rest : ℕ
      rest = Rattle.std.proofs.Common.◌-◌ m k

      whole : and_then (moves (segment_machine program caps) k first) (moves (segment_machine program caps) rest) ≡ Goes segment
      whole = sym (moves_add (segment_machine program caps) k rest first) ∙ (let sum : k + rest ≡ m = omega (arith, le) in ap (λ (n : ℕ). moves (segment_machine program caps) n first) sum) ∙ e

      from_move : (move : SegmentMove) → moves (segment_machine program caps) k first ≡ move → Earlier first k m segment
      from_move (Goes earlier) is = record { earlier = earlier; comes = is; grown = grown rest earlier segment (ap (λ (move : SegmentMove). and_then move (moves (segment_machine program caps) rest)) (sym is) ∙ whole) }
      from_move (Asks question waiting) is = absurd question
      from_move (Stops rested) is = absurd (let e' : and_then (Stops rested) (moves (segment_machine program caps) rest) ≡ Goes segment = ap (λ (move : SegmentMove). and_then move (moves (segment_machine program caps) rest)) (sym is) ∙ whole in cc)

  -- a run from a segment that has come to some moment with so many outputs, and to none with as many before it
  pub record FirstAt (first : Segment) (outputs : List (ℕ × ℕ)) : Type 0 where
    pub cut : Segment
    pub count : ℕ
    pub comes : moves (segment_machine program caps) count first ≡ Goes cut
    pub same : cut.world.outputs ≡ outputs
    pub least : (n : ℕ) → n < count → (earlier : Segment) → moves (segment_machine program caps) n first ≡ Goes earlier → length earlier.world.outputs < length outputs

  same_goes : (one other : Segment) (move : SegmentMove) → move ≡ Goes one → move ≡ Goes other → one ≡ other
  same_goes one other move e k = let both : Goes one ≡ Goes other = sym e ∙ k in cc

  no_more : (before after : List (ℕ × ℕ)) → Follows before after → length after ≤ length before → before ≡ after
  no_more before after (more, e) le = short more e
    where
      short : (more : List (ℕ × ℕ)) → after ≡ before ++ more → before ≡ after
      short [] e = sym (append-nil before) ∙ sym e
      short (x ∷ more) e = absurd (let long = length-append before (x ∷ more) in let same : length after ≡ length (before ++ x ∷ more) = ap length e in omega (arith, long, same, le))

  longer : (before after : List (ℕ × ℕ)) → Follows before after → length before ≤ length after
  longer before after h = let long = length-append before h.0 in let same : length after ≡ length (before ++ h.0) = ap length h.1 in omega (arith, long, same)

  pub first_at : (first : Segment) (m : ℕ) (segment : Segment) → moves (segment_machine program caps) m first ≡ Goes segment → FirstAt first segment.world.outputs
  first_at first zero segment e = record { cut = segment; count = 0; comes = e; same = refl; least = λ n lt earlier k. absurd (omega arith) }
  first_at first (suc k) segment e = by_length (earlier_of first k (suc k) segment (omega arith) e) (first_at first k (earlier_of first k (suc k) segment (omega arith) e).earlier (earlier_of first k (suc k) segment (omega arith) e).comes)
    where
      by_length : (before : Earlier first k (suc k) segment) → FirstAt first before.earlier.world.outputs → FirstAt first segment.world.outputs
      by_length before rest = ⊎_elim
          (λ (short : length before.earlier.world.outputs < length segment.world.outputs). record {
            cut = segment;
            count = suc k;
            comes = e;
            same = refl;
            least = λ n lt earlier there.
                let sooner = earlier_of first n k before.earlier (omega (arith, lt)) before.comes in
                let same : earlier ≡ sooner.earlier = same_goes earlier sooner.earlier (moves (segment_machine program caps) n first) there sooner.comes in
                let count : length earlier.world.outputs ≡ length sooner.earlier.world.outputs = ap (λ (s : Segment). length s.world.outputs) same in
                let le = longer sooner.earlier.world.outputs before.earlier.world.outputs sooner.grown in
                omega (arith, count, le, short);
          })
          (λ (long : length segment.world.outputs ≤ length before.earlier.world.outputs). subst (FirstAt first) (no_more before.earlier.world.outputs segment.world.outputs before.grown long) rest)
          (cases_lt (length before.earlier.world.outputs) (length segment.world.outputs))

  -- ---- from where a thread rests

  pub record Began (start : World) (number n : ℕ) (move : SegmentMove) : Type 0 where
    pub first : Segment
    pub began : begun program caps start number ≡ Some first
    pub comes : moves (segment_machine program caps) n first ≡ move

  pub began_by : (start : World) (number n : ℕ) (move : SegmentMove) → thread_moves program caps start number n ≡ Some move → Began start number n move
  began_by start number n move e = from (begun program caps start number) refl e
    where
      from : (o : Option Segment) → begun program caps start number ≡ o → option_map (moves (segment_machine program caps) n) o ≡ Some move → Began start number n move
      from None is k = absurd cc
      from (Some first) is k = record { first = first; began = is; comes = (let same : Some (moves (segment_machine program caps) n first) ≡ Some move = k in cc) }

  -- and then it has made so many steps more
  pub then_moves : (start : World) (number n m : ℕ) (segment : Segment) (move : SegmentMove) → thread_moves program caps start number n ≡ Some (Goes segment) → moves (segment_machine program caps) m segment ≡ move → thread_moves program caps start number (n + m) ≡ Some move
  then_moves start number n m segment move e k =
      let b = began_by start number n (Goes segment) e in
      ap (λ (o : Option Segment). option_map (moves (segment_machine program caps) (n + m)) o) b.began
      ∙ ap (λ (v : SegmentMove). Some v) (moves_add (segment_machine program caps) n m b.first ∙ ap (λ (v : SegmentMove). and_then v (moves (segment_machine program caps) m)) b.comes ∙ k)

  pub record CutAt (start : World) (number : ℕ) (outputs : List (ℕ × ℕ)) (puts : ℕ) : Type 0 where
    pub cut : Segment
    pub is_cut : IsCutAt program caps start number puts cut
    pub same : cut.world.outputs ≡ outputs

  pub cut_at : (start : World) (number n puts : ℕ) (segment : Segment) → thread_moves program caps start number n ≡ Some (Goes segment) → length segment.world.outputs ≡ length start.outputs + puts → CutAt start number segment.world.outputs puts
  cut_at start number n puts segment e count =
      let b = began_by start number n (Goes segment) e in
      let first = first_at b.first n segment b.comes in
      let moved : (k : ℕ) → thread_moves program caps start number k ≡ Some (moves (segment_machine program caps) k b.first) = λ k. ap (λ (o : Option Segment). option_map (moves (segment_machine program caps) k) o) b.began in
      record {
        cut = first.cut;
        is_cut = (
          first.count,
          moved first.count ∙ ap (λ (v : SegmentMove). Some v) first.comes,
          ap (λ (os : List (ℕ × ℕ)). length os) first.same ∙ count,
          λ k lt earlier there. (let known : Some (moves (segment_machine program caps) k b.first) ≡ Some (Goes earlier) = sym (moved k) ∙ there in
              let goes : moves (segment_machine program caps) k b.first ≡ Goes earlier = cc in
              let small = first.least k lt earlier goes in omega (arith, small, count)),
        );
        same = first.same;
      }
