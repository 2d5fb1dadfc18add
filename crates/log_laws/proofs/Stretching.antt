-- Good stretches of a segment, from what holds between segments and what holds within one.
use Rattle.log_laws.proofs.Common.{◌≡◌, ℕ, zero, suc, ◌+◌, Option, Some, refl, sym, ap, subst, ◌∙◌, Delivery, Checked, Deliver, Advance, Pick, after_action, world_of, and_then, after_steps, IsSound, IsFramedNext, OnWorld, IsGoodStretch, World, Setting, Move, Goes, Puts, Spawns, Blocks, Ends, step, DeliversWords, quiet_world, after_quiet}
use Rattle.machine_world.proofs.StretchLaws as stretches
use Rattle.machine_world.proofs.ActionLaws.{after_steps-add}

-- what holds of a world between segments, and what holds of one within a segment, are kept, and give that it is sound
pub record AreKept (c : Checked) (s : Setting) (B U : World → Type 0) : Type 0 where
  pub begins : (w after : World) (number : ℕ) → B w → after_action s w (Pick number) ≡ Some after → U after
  pub goes : (w after : World) → U w → step s w ≡ Goes after → U after
  pub puts : (w after : World) (value : ℕ) → U w → step s w ≡ Puts value after → U after
  pub spawns : (w after : World) (number : ℕ) → U w → step s w ≡ Spawns number after → U after
  pub blocks : (w after : World) → U w → step s w ≡ Blocks after → B after
  pub ends : (w after : World) → U w → step s w ≡ Ends after → B after
  pub sound : (w : World) → U w → IsSound c w × IsFramedNext c s w w.running
  pub rests : (w : World) → B w → IsSound c w
  pub advances : (w after : World) (to : ℕ) → B w → after_action s w (Advance to) ≡ Some after → B after
  pub delivers : (w after : World) (delivery : Delivery) → DeliversWords (Deliver delivery) → B w → after_action s w (Deliver delivery) ≡ Some after → B after

module _ (c : Checked) (s : Setting) (B U : World → Type 0) (kept : AreKept c s B U) where
  -- ---- steps without an entry

  pub record Quiet (n : ℕ) (w here : World) : Type 0 where
    pub stretch : IsGoodStretch c s n w
    pub steps : after_steps s n w ≡ Some here
    pub under : U here

  -- one step, and then others
  first_step : (n : ℕ) (w next here : World) (move : Move) → U w → step s w ≡ move → world_of move ≡ Some next → (OnWorld move (IsGoodStretch c s n)) → after_steps s n next ≡ Some here → IsGoodStretch c s (suc n) w × (after_steps s (suc n) w ≡ Some here)
  first_step n w next here move under e world_is on rest = (
    ((kept.sound w under).0, (kept.sound w under).1, subst (λ (m : Move). OnWorld m (IsGoodStretch c s n)) (sym e) on),
    ap (λ (m : Move). and_then (world_of m) (after_steps s n)) e ∙ ap (λ (o : Option World). and_then o (after_steps s n)) world_is ∙ rest,
  )

  quiet_by : (n : ℕ) (w here : World) (move : Move) → U w → step s w ≡ move → ((next : World) → U next → after_quiet s n next ≡ Some here → Quiet n next here) → and_then (quiet_world move) (after_quiet s n) ≡ Some here → Quiet (suc n) w here
  quiet_by n w here (Goes next) under e later quiet =
      let rest = later next (kept.goes w next under e) quiet in
      let both = first_step n w next here (Goes next) under e refl rest.stretch rest.steps in
      record { stretch = both.0; steps = both.1; under = rest.under }
  quiet_by n w here (Spawns number next) under e later quiet =
      let rest = later next (kept.spawns w next number under e) quiet in
      let both = first_step n w next here (Spawns number next) under e refl rest.stretch rest.steps in
      record { stretch = both.0; steps = both.1; under = rest.under }
  quiet_by n w here _ under e later quiet = absurd cc

  pub quiet : (n : ℕ) (w here : World) → U w → after_quiet s n w ≡ Some here → Quiet n w here
  quiet zero w here under e =
      let same : w ≡ here = cc in
      record { stretch = (kept.sound w under).0; steps = e; under = subst U same under }
  quiet (suc n) w here under e = quiet_by n w here (step s w) under refl (λ next u q. quiet n next here u q) e

  -- ---- a segment

  -- it began in one world, has made so many good steps, and has come to another
  pub record Way (between : World) (thread cost : ℕ) (now : World) : Type 0 where
    pub begun : World
    pub picks : after_action s between (Pick thread) ≡ Some begun
    pub stretch : IsGoodStretch c s cost begun
    pub steps : after_steps s cost begun ≡ Some now
    pub under : U now

  pub way_begun : (between machine : World) (thread : ℕ) → B between → after_action s between (Pick thread) ≡ Some machine → Way between thread 0 machine
  way_begun between machine thread rests picks =
      let under = kept.begins between machine thread rests picks in
      record { begun = machine; picks = picks; stretch = (kept.sound machine under).0; steps = refl; under = under }

  -- steps are joined
  pub record Further (begun : World) (cost : ℕ) (now : World) : Type 0 where
    pub stretch : IsGoodStretch c s cost begun
    pub steps : after_steps s cost begun ≡ Some now

  pub further : (between now here : World) (thread cost n : ℕ) → (way : Way between thread cost now) → IsGoodStretch c s n now → after_steps s n now ≡ Some here → Further way.begun (cost + n) here
  further between now here thread cost n way stretch steps = record {
    stretch = stretches.IsGoodStretch-add c s cost n way.begun now way.stretch way.steps stretch;
    steps = after_steps-add s cost n way.begun ∙ ap (λ (o : Option World). and_then o (after_steps s n)) way.steps ∙ steps;
  }

  pub way_quiet : (between now here : World) (thread cost n : ℕ) → Way between thread cost now → after_quiet s n now ≡ Some here → Way between thread (cost + n) here
  way_quiet between now here thread cost n way e =
      let is = quiet n now here way.under e in
      let more = further between now here thread cost n way is.stretch is.steps in
      record { begun = way.begun; picks = way.picks; stretch = more.stretch; steps = more.steps; under = is.under }

  -- one more step that leads on
  one_more : (between here machine : World) (thread cost : ℕ) (move : Move) → (way : Way between thread cost here) → step s here ≡ move → world_of move ≡ Some machine → OnWorld move (IsSound c) → Further way.begun (cost + 1) machine
  one_more between here machine thread cost move way e world_is on =
      let both = first_step 0 here machine machine move way.under e world_is on refl in
      further between here machine thread cost 1 way both.0 both.1

  pub way_puts : (between here machine : World) (thread cost word : ℕ) → Way between thread cost here → step s here ≡ Puts word machine → Way between thread (cost + 1) machine
  way_puts between here machine thread cost word way e =
      let under = kept.puts here machine word way.under e in
      let more = one_more between here machine thread cost (Puts word machine) way e refl (kept.sound machine under).0 in
      record { begun = way.begun; picks = way.picks; stretch = more.stretch; steps = more.steps; under = under }

  pub record Rested (between : World) (thread cost : ℕ) (machine : World) : Type 0 where
    pub begun : World
    pub picks : after_action s between (Pick thread) ≡ Some begun
    pub stretch : IsGoodStretch c s cost begun
    pub steps : after_steps s cost begun ≡ Some machine
    pub rests : B machine

  pub way_blocks : (between here machine : World) (thread cost : ℕ) → Way between thread cost here → step s here ≡ Blocks machine → Rested between thread (cost + 1) machine
  way_blocks between here machine thread cost way e =
      let rests = kept.blocks here machine way.under e in
      let more = one_more between here machine thread cost (Blocks machine) way e refl (kept.rests machine rests) in
      record { begun = way.begun; picks = way.picks; stretch = more.stretch; steps = more.steps; rests = rests }

  pub way_ends : (between here machine : World) (thread cost : ℕ) → Way between thread cost here → step s here ≡ Ends machine → Rested between thread (cost + 1) machine
  way_ends between here machine thread cost way e =
      let rests = kept.ends here machine way.under e in
      let more = one_more between here machine thread cost (Ends machine) way e refl (kept.rests machine rests) in
      record { begun = way.begun; picks = way.picks; stretch = more.stretch; steps = more.steps; rests = rests }
