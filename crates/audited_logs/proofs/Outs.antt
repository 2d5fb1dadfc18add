-- An output, in a lawful log and in its reading.
use Rattle.audited_logs.proofs.Common.{◌≡◌, ℕ, ◌+◌, ◌^◌, ◌<◌, ℤ, List, [], ◌∷◌, ◌++◌, map, Some, refl, sym, ap, ◌∙◌, subst, arith, append_assoc, map-append, Goes, lowered, SegmentMove, IsWellScoped, IsValid, checked_of, Setup, setting_of, with_puts, given_of}
use Rattle.c_mean.specs.World as source
use Rattle.lawful_log.specs.Segments as log
use Rattle.lawful_log.specs.State.{Segment, State}
use Rattle.lawful_reading.specs.Segments as reading
use Rattle.lawful_reading.specs.State as reading_state
use Rattle.machine_meaning.proofs.Forms.{has_form}
use Rattle.audited_logs.proofs.Begun.{begins}
use Rattle.audited_logs.proofs.Beside.{Runs, IsAt, Position, Between, Within, within_of, segment_of, not_both, same_segment}
use Rattle.audited_logs.proofs.Cuts.{Put, begun_by, moved_from, moves_from, puts_next}
use Rattle.audited_logs.proofs.Quiet.{quiet_on, puts_on}
use Rattle.audited_logs.proofs.Steps.{keeps_moves}
use Rattle.audited_logs.proofs.Words.{put_word}

-- one word more
with_one : (start : source.World) (number : ℕ) (puts : List ℕ) (word : ℕ) → with_puts start number (puts ++ word ∷ []) ≡ with_puts start number puts ++ (number, word) ∷ []
with_one start number puts word =
    ap (λ (os : List (ℕ × ℕ)). start.outputs ++ os) (map-append (λ (v : ℕ). (number, v)) puts (word ∷ []))
    ∙ sym (append_assoc start.outputs (map (λ (v : ℕ). (number, v)) puts) ((number, word) ∷ []))

module _ (g : Setup) where
  -- where a run is cut it is that thread's
  pub number_at : (start : source.World) (number : ℕ) (puts : List ℕ) (here : source.Segment) → IsAt g start number puts here → here.number ≡ number
  number_at start number puts here at =
      let from = begun_by g.program g.policy.caps start number at.cut.0 (let move : SegmentMove = Goes here in move) at.cut.1 in
      (keeps_moves g.program g.policy.caps at.cut.0 from.first here from.moved).number ∙ (begins g.program g.policy.caps start number from.first from.begins).number_is

  -- from one cut to the next the next output comes
  pub next_put : (start : source.World) (number : ℕ) (puts : List ℕ) (word : ℕ) (here next : source.Segment) → IsAt g start number puts here → IsAt g start number (puts ++ word ∷ []) next → Put g.program g.policy.caps here word next
  next_put start number puts word here next at then =
      let from = begun_by g.program g.policy.caps start number at.cut.0 (let move : SegmentMove = Goes here in move) at.cut.1 in
      let there = moved_from g.program g.policy.caps start number then.cut.0 from.first (let move : SegmentMove = Goes next in move) from.begins then.cut.1 in
      let output : next.world.outputs ≡ here.world.outputs ++ (here.number, word) ∷ [] =
      then.outputs ∙ with_one start number puts word ∙ ap (λ (os : List (ℕ × ℕ)). os ++ (number, word) ∷ []) (sym at.outputs)
      ∙ ap (λ (n : ℕ). here.world.outputs ++ (n, word) ∷ []) (sym (number_at start number puts here at)) in
      puts_next g.program g.policy.caps at.cut.0 then.cut.0 word from.first here next from.moved there output
      (λ k below earlier moved.
      let known = moves_from g.program g.policy.caps start number k from.first from.begins ∙ ap (λ (m : SegmentMove). Some m) moved in
      let few = then.cut.3 k below earlier known in
      let count = then.cut.2 in
      omega (arith, few, count))

-- the reading allows it too, and comes to the state beside the next one
pub record Came (g : Setup) (most : ℕ) (b : reading_state.State) (thread : ℕ) (value : ℤ) (after : State) : Type 0 where
  pub now : reading_state.State
  pub out : reading.IsOut (given_of g most) b thread value now
  pub word_fits : out.word < 2 ^ 32
  pub position : Position g after now

module _ (g : Setup) (scoped : IsWellScoped g.program) (valid : IsValid (lowered g.program) g.image g.certificate) (most : ℕ) (before after : State) (thread : ℕ) (value : ℤ) (is : log.IsOut g before thread value after) where
  put_within : (clock cost held steps : ℕ) (here : source.Segment) → Runs g before.source is.segment.thread is.segment.puts clock cost is.segment.cost before.machine →
      IsAt g before.source is.segment.thread is.segment.puts here → Came g most (within_of before clock cost held (segment_of is.segment here) steps) thread value after
  put_within clock cost held steps here runs at =
      let quiet = quiet_on g scoped valid before.source is.segment.thread is.segment.puts clock cost is.steps is.segment.cost before.machine is.here runs is.way.quiet in
      let then = puts_on g scoped valid before.source is.segment.thread is.segment.puts clock cost (is.segment.cost + is.steps) is.word is.here is.machine quiet is.puts in
      let next : IsAt g before.source is.segment.thread (is.segment.puts ++ is.word ∷ []) then.reached.cut = record { cut = then.reached.is_cut; outputs = then.reached.cut_outputs } in
      let put = next_put g before.source is.segment.thread is.segment.puts is.word here then.reached.cut at next in
      let b = within_of before clock cost held (segment_of is.segment here) steps in
      let now : reading_state.State = record b { segment = Some (record (segment_of is.segment here) { here = then.reached.cut }); steps = steps + put.steps } in
      record {
        now = now;
        out = record {
          not_over = refl;
          segment = segment_of is.segment here;
          under_way = refl;
          steps = put.steps;
          word = is.word;
          here = then.reached.cut;
          puts = put.is;
          thread_is = is.thread_is ∙ sym (number_at g before.source is.segment.thread is.segment.puts here at);
          value_is = is.value_is;
          after_is = refl;
        };
        word_fits = (let r = quiet.reached in
            put_word (setting_of g) is.here is.machine r.segment.number is.word r.under_way.thread r.under_way.running r.under_way.live
            (has_form (checked_of g) (setting_of g) is.here r.segment.number r.under_way.thread quiet.holds.formed r.under_way.live).core.registers is.puts);
        position = subst (λ (a : State). Position g a now) (sym is.after_is) (Within _ clock cost held then.reached.cut refl then next refl);
      }

  pub put : (b : reading_state.State) → Position g before b → Came g most b thread value after
  put b (Between rests b_is) = absurd (not_both before is.segment rests.none is.way.under_way)
  put b (Within segment clock cost held here under runs at b_is) =
      let same = same_segment before segment is.segment under is.way.under_way in
      subst (λ (x : reading_state.State). Came g most x thread value after) (sym (b_is ∙ ap (λ (x : Segment). within_of before clock cost held (segment_of x here) b.steps) same))
      (put_within clock cost held b.steps here
      (subst (λ (x : Segment). Runs g before.source x.thread x.puts clock cost x.cost before.machine) same runs)
      (subst (λ (x : Segment). IsAt g before.source x.thread x.puts here) same at))
