-- What the running thread comes to next is one thing, after one number of steps.
use Rattle.lawful_reading.proofs.Common.{◌≡◌, ℕ, zero, suc, ◌+◌, ◌-◌, ◌<◌, ◌≤◌, List, [], ◌∷◌, ◌++◌, length, Option, Some, None, refl, sym, ap, ◌∙◌, subst, arith, length-append, ⊎_elim, cases_lt, Call, Blocking, Immediate, Goes, Asks, Stops, and_then, moves, TrapKind, ProgramTree, Waiting, ImmediateRow, blocking_row, immediate_row, IsSilent, PutsNext, RestsNext}
use Rattle.cap_word.proofs.RunLemmas.{goes_on}
use Rattle.c_mean.specs.Steps.{SourceMove, source_step, source_resume}
use Rattle.c_mean.specs.World.{Rest, Segment, SegmentMove, Rested, Ended, Blocked, rests, unless_trap, with_printed, after_ask, calls, segment_move, segment_step, segment_machine}

-- ---- small things

pub same_next : (a b : Segment) → ◌≡◌ {A = SegmentMove} (Goes a) (Goes b) → a ≡ b
same_next a b e = cc

pub same_end : (a b : Rested) → ◌≡◌ {A = SegmentMove} (Stops a) (Stops b) → a ≡ b
same_end a b e = cc

pub not_both : (a : Rested) (b : Segment) → ◌≡◌ {A = SegmentMove} (Stops a) (Goes b) → ⊥
not_both a b e = absurd (cc)

same_tail : (x : ℕ × ℕ) (xs ys : List (ℕ × ℕ)) → x ∷ xs ≡ x ∷ ys → xs ≡ ys
same_tail x xs ys e = cc

-- the word of the first output
abbrev first_word : List (ℕ × ℕ) → ℕ
first_word [] = 0
first_word (x ∷ xs) = x.1

same_last : (xs : List (ℕ × ℕ)) (n a b : ℕ) → xs ++ (n, a) ∷ [] ≡ xs ++ (n, b) ∷ [] → a ≡ b
same_last [] n a b e = ap (λ (xs : List (ℕ × ℕ)). first_word xs) e
same_last (x ∷ xs) n a b e = same_last xs n a b (same_tail x (xs ++ (n, a) ∷ []) (xs ++ (n, b) ∷ []) e)

-- ---- outputs are only added

-- no fewer outputs
abbrev Grows : Segment → Segment → Type 0
Grows old new = length old.world.outputs ≤ length new.world.outputs

printed_grow : (number : ℕ) (outputs : List (ℕ × ℕ)) (o : Option ℕ) → length outputs ≤ length (with_printed number outputs o)
printed_grow number outputs None = omega arith
printed_grow number outputs (Some value) = let more : length (outputs ++ (number, value) ∷ []) ≡ length outputs + 1 = length-append outputs ((number, value) ∷ []) in omega (arith, more)

trapped_not : (segment : Segment) (globals : List (List ℕ)) (trap : Option TrapKind) (rest : Rest) (next : Segment) → unless_trap segment globals trap (rests segment globals rest) ≡ Goes next → ⊥
trapped_not segment globals (Some trap) rest next e = absurd (cc)
trapped_not segment globals None rest next e = absurd (cc)

row_grows : (segment : Segment) (globals : List (List ℕ)) (waiting : Waiting) (row : ImmediateRow) (trap : Option TrapKind) (next : Segment) →
    unless_trap segment globals trap (Goes (record {
      number = segment.number;
      running = source_resume waiting (record { result = row.result; globals = globals });
      world = after_ask segment.world segment.number row;
    })) ≡ Goes next → Grows segment next
row_grows segment globals waiting row (Some trap) next e = absurd (cc)
row_grows segment globals waiting row None next e =
    let same = same_next (record {
      number = segment.number;
      running = source_resume waiting (record { result = row.result; globals = globals });
      world = after_ask segment.world segment.number row;
    }) next e in
    subst (λ (s : Segment). Grows segment s) same (printed_grow segment.number segment.world.outputs row.prints)

call_grows : (caps : List ℕ) (segment : Segment) (globals : List (List ℕ)) (waiting : Waiting) (call : Call) (next : Segment) → calls caps segment globals waiting call ≡ Goes next → Grows segment next
call_grows caps segment globals waiting (Blocking block) next e = absurd (trapped_not segment globals (blocking_row caps segment.world.exchange block).trap (Blocked block waiting) next e)
call_grows caps segment globals waiting (Immediate ask) next e =
    let row = immediate_row caps segment.world.exchange segment.number (length segment.world.threads) ask in row_grows segment globals waiting row row.trap next e

move_grows : (caps : List ℕ) (segment : Segment) (move : SourceMove) (next : Segment) → segment_move caps segment move ≡ Goes next → Grows segment next
move_grows caps segment (Goes running) next e = subst (λ (s : Segment). Grows segment s) (same_next (record segment { running = running }) next e) (omega arith)
move_grows caps segment (Asks question waiting) next e = call_grows caps segment question.globals waiting question.call next e
move_grows caps segment (Stops finish) next e = absurd (trapped_not segment finish.globals finish.trap Ended next e)

module _ (program : ProgramTree) (caps : List ℕ) where
  step_grows : (segment next : Segment) → segment_step program caps segment ≡ Goes next → Grows segment next
  step_grows segment next e = move_grows caps segment (source_step program segment.running) next e

  grows_by : (n : ℕ) (start here : Segment) (move : SegmentMove) → segment_step program caps start ≡ move → ((next : Segment) → moves (segment_machine program caps) n next ≡ Goes here → Grows next here) →
      and_then move (moves (segment_machine program caps) n) ≡ Goes here → Grows start here
  grows_by n start here (Goes next) e rest h = let first = step_grows start next e in let later = rest next h in omega (arith, first, later)
  grows_by n start here (Asks question waiting) e rest h = absurd waiting
  grows_by n start here (Stops rested) e rest h = absurd (not_both rested here h)

  moves_grow : (n : ℕ) (start here : Segment) → moves (segment_machine program caps) n start ≡ Goes here → Grows start here
  moves_grow zero start here e = subst (λ (s : Segment). Grows start s) (same_next start here e) (omega arith)
  moves_grow (suc n) start here e = grows_by n start here (segment_step program caps start) refl (λ next h. moves_grow n next here h) e

  -- ---- steps on

  later_on : (before n : ℕ) (start here there : Segment) → moves (segment_machine program caps) before start ≡ Goes here → moves (segment_machine program caps) n start ≡ Goes there → before < n →
      moves (segment_machine program caps) (suc (n - suc before)) here ≡ Goes there
  later_on before n start here there e f below =
      let count : before + suc (n - suc before) ≡ n = omega (arith, below) in
      sym (goes_on (segment_machine program caps) before (suc (n - suc before)) start here e) ∙ ap (λ (k : ℕ). moves (segment_machine program caps) k start) count ∙ f

  stops_before : (before n : ℕ) (start here there : Segment) (rested : Rested) → moves (segment_machine program caps) before start ≡ Goes here → segment_step program caps here ≡ Stops rested →
      moves (segment_machine program caps) n start ≡ Goes there → before < n → ⊥
  stops_before before n start here there rested e stops f below =
      not_both rested there (sym (ap (λ (m : SegmentMove). and_then m (moves (segment_machine program caps) (n - suc before))) stops) ∙ later_on before n start here there e f below)

  puts_before : (before n : ℕ) (start here after there : Segment) → moves (segment_machine program caps) before start ≡ Goes here → segment_step program caps here ≡ Goes after →
      moves (segment_machine program caps) n start ≡ Goes there → before < n → Grows after there
  puts_before before n start here after there e goes f below =
      moves_grow (n - suc before) after there (sym (ap (λ (m : SegmentMove). and_then m (moves (segment_machine program caps) (n - suc before))) goes) ∙ later_on before n start here there e f below)

  not_below : (a b : ℕ) → (a < b → ⊥) → b ≤ a
  not_below a b never = ⊎_elim (λ (h : a < b). absurd (never h)) (λ (h : b ≤ a). h) (cases_lt a b)

  -- silent steps come before an output, a block, an end or a trap
  pub silent_puts : (start there after : Segment) (steps word n : ℕ) → PutsNext program caps start steps word after → IsSilent program caps start n there → n < steps
  silent_puts start there after steps word n p s =
      let never : p.before < n → ⊥ = λ below.
      let grown = puts_before p.before n start p.here after there p.silent.moved p.puts s.moved below in
      let more : length after.world.outputs ≡ length start.world.outputs + 1 = ap length p.output ∙ length-append start.world.outputs ((start.number, word) ∷ []) in
      let same : length there.world.outputs ≡ length start.world.outputs = ap length s.outputs in
      omega (arith, grown, more, same) in
      let most = not_below p.before n never in
      let is = p.steps_is in omega (arith, most, is)

  pub silent_rests : (start there : Segment) (rested : Rested) (steps n : ℕ) → RestsNext program caps start steps rested → IsSilent program caps start n there → n < steps
  silent_rests start there rested steps n r s =
      let most = not_below r.before n (λ below. stops_before r.before n start r.here there rested r.silent.moved r.stops s.moved below) in
      let is = r.steps_is in omega (arith, most, is)

  same_here : (m n : ℕ) (start here there : Segment) → moves (segment_machine program caps) m start ≡ Goes here → moves (segment_machine program caps) n start ≡ Goes there → m ≡ n → here ≡ there
  same_here m n start here there e f same = same_next here there (sym e ∙ ap (λ (k : ℕ). moves (segment_machine program caps) k start) same ∙ f)

  -- one output
  pub record SamePut (steps other word another : ℕ) (after behind : Segment) : Type 0 where
    pub steps_are : steps ≡ other
    pub words : word ≡ another
    pub segments : after ≡ behind

  pub one_put : (start after behind : Segment) (steps other word another : ℕ) → PutsNext program caps start steps word after → PutsNext program caps start other another behind → SamePut steps other word another after behind
  one_put start after behind steps other word another p q =
      let below = silent_puts start q.here after steps word q.before p q.silent in
      let above = silent_puts start p.here behind other another p.before q p.silent in
      let p_is = p.steps_is in
      let q_is = q.steps_is in
      let count : p.before ≡ q.before = omega (arith, below, above, p_is, q_is) in
      let here : p.here ≡ q.here = same_here p.before q.before start p.here q.here p.silent.moved q.silent.moved count in
      let same : after ≡ behind = same_next after behind (sym p.puts ∙ ap (λ (s : Segment). segment_step program caps s) here ∙ q.puts) in
      record {
        steps_are = omega (arith, count, p_is, q_is);
        words = same_last start.world.outputs start.number word another (sym p.output ∙ ap (λ (s : Segment). s.world.outputs) same ∙ q.output);
        segments = same;
      }

  -- one rest
  pub record SameRest (steps other : ℕ) (rested another : Rested) : Type 0 where
    pub steps_are : steps ≡ other
    pub rests_are : rested ≡ another

  pub one_rest : (start : Segment) (steps other : ℕ) (rested another : Rested) → RestsNext program caps start steps rested → RestsNext program caps start other another → SameRest steps other rested another
  one_rest start steps other rested another p q =
      let below = silent_rests start q.here rested steps q.before p q.silent in
      let above = silent_rests start p.here another other p.before q p.silent in
      let p_is = p.steps_is in
      let q_is = q.steps_is in
      let count : p.before ≡ q.before = omega (arith, below, above, p_is, q_is) in
      let here : p.here ≡ q.here = same_here p.before q.before start p.here q.here p.silent.moved q.silent.moved count in
      record {
        steps_are = omega (arith, count, p_is, q_is);
        rests_are = same_end rested another (sym p.stops ∙ ap (λ (s : Segment). segment_step program caps s) here ∙ q.stops);
      }

  -- and never both
  pub not_put_and_rest : (start after : Segment) (steps other word : ℕ) (rested : Rested) → PutsNext program caps start steps word after → RestsNext program caps start other rested → ⊥
  not_put_and_rest start after steps other word rested p q =
      let below = silent_puts start q.here after steps word q.before p q.silent in
      let above = silent_rests start p.here rested other p.before q p.silent in
      let p_is = p.steps_is in
      let q_is = q.steps_is in
      let count : p.before ≡ q.before = omega (arith, below, above, p_is, q_is) in
      let here : p.here ≡ q.here = same_here p.before q.before start p.here q.here p.silent.moved q.silent.moved count in
      not_both rested after (sym q.stops ∙ sym (ap (λ (s : Segment). segment_step program caps s) here) ∙ p.puts)
