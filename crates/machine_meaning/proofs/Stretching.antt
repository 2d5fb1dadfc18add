-- Many steps of a segment.
use Rattle.machine_meaning.proofs.Common.{◌≡◌, ℕ, zero, suc, ◌+◌, List, [], Some, sym, ap, subst, ◌∙◌, arith, lowered, ProgramTree, IsWellScoped, IsValid, Checked, Pick, after_action, world_of, IsFramedNext, IsGoodStretch, IsSound, OnWorld, IsWellFormed, KeepsWellFormed, KeepsWellFormed-step, Certificate, Image, IsReached, StepReaches, IsSettled}
use Rattle.c_mean.specs.World as source
use Rattle.machine_world.specs.Threads.{Setting, World, Move, Goes, Puts, Spawns, Blocks, Ends, Stops, Wrong, step}
use Rattle.segment_laws.specs.Silent.{GoesOn}
use Rattle.machine_meaning.specs.Running.{IsRunning, KeepsRunning}
use Rattle.machine_meaning.proofs.WorldLaws as law
use Rattle.machine_meaning.proofs.Sound.{settled_sound, under_way_sound}

module _ (program : ProgramTree) (image : Image) (certificate : Certificate) (s : Setting) (scoped : IsWellScoped program) (valid : IsValid (lowered program) image certificate) (code_is : s.code ≡ image.code) where
  abbrev checked : Checked
  checked = record { flat = lowered program; certificate = certificate }

  pub picks : (w after : World) (number : ℕ) → IsWellFormed checked s w → IsSettled checked w → after_action s w (Pick number) ≡ Some after → IsRunning checked program s after
  picks w after number formed settled e =
      let other = law.somewhere program image certificate s w scoped valid formed settled in
      record { start = other.0; number = number; puts = []; reached = law.picks program image certificate s w after other.0 number scoped valid code_is formed (record { stands = other.1; settled = settled }) e }

  keeps_by : (start : source.World) (number : ℕ) (puts : List ℕ) (move : Move) → StepReaches checked program s start number puts move → KeepsRunning checked program s move
  keeps_by start number puts (Puts value after) h = record { start = start; number = number; puts = _; reached = h }
  keeps_by start number puts (Blocks after) h = h.2.settled
  keeps_by start number puts (Ends after) h = h.2.settled
  keeps_by start number puts (Stops stop) h = tt
  keeps_by start number puts Wrong h = h
  keeps_by start number puts _ h = record { start = start; number = number; puts = puts; reached = h }

  pub steps : (w : World) → IsWellFormed checked s w → IsRunning checked program s w → KeepsRunning checked program s (step s w)
  steps w formed running = keeps_by running.start running.number running.puts (step s w) (law.steps program image certificate s w running.start running.number running.puts scoped valid code_is formed running.reached)

  -- at each moment
  now : (w : World) → IsWellFormed checked s w → IsRunning checked program s w → IsSound checked w × IsFramedNext checked s w w.running
  now w formed running = under_way_sound checked program s w running.reached.segment formed running.reached.under_way

  pub stretch : (n : ℕ) (w at : World) → IsWellFormed checked s w → IsRunning checked program s w → GoesOn s n w at → IsGoodStretch checked s n w × IsRunning checked program s at × IsWellFormed checked s at
  stretch zero w at formed running e = (
    (now w formed running).0,
    subst (IsRunning checked program s) (sym e) running,
    subst (IsWellFormed checked s) (sym e) formed,
  )
  stretch (suc n) w at formed running h =
      let is = now w formed running in
      let next_running : IsRunning checked program s h.0 = subst (KeepsRunning checked program s) h.1 (steps w formed running) in
      let next_formed : IsWellFormed checked s h.0 = subst (KeepsWellFormed checked s) h.1 (KeepsWellFormed-step checked s w formed) in
      let rest = stretch n h.0 at next_formed next_running h.2 in
      ((is.0, is.1, subst (λ (move : Move). OnWorld move (IsGoodStretch checked s n)) (sym h.1) rest.0), rest.1, rest.2)

  -- the step behind them
  sound_after : (move : Move) (after : World) → KeepsRunning checked program s move → KeepsWellFormed checked s move → world_of move ≡ Some after → OnWorld move (IsGoodStretch checked s 0)
  sound_after (Goes next) after h formed e = (now next formed h).0
  sound_after (Puts value next) after h formed e = (now next formed h).0
  sound_after (Spawns started next) after h formed e = (now next formed h).0
  sound_after (Blocks next) after h formed e = settled_sound checked s next formed h
  sound_after (Ends next) after h formed e = settled_sound checked s next formed h
  sound_after _ after h formed e = absurd cc

  pub stretch_on : (n : ℕ) (w at after : World) → IsWellFormed checked s w → IsRunning checked program s w → GoesOn s n w at → world_of (step s at) ≡ Some after → IsGoodStretch checked s (n + 1) w
  stretch_on n w at after formed running h e = subst (λ (k : ℕ). IsGoodStretch checked s k w) (let same : suc n ≡ n + 1 = omega arith in same) (go n w formed running h)
    where
      one : (w : World) → IsWellFormed checked s w → IsRunning checked program s w → w ≡ at → IsGoodStretch checked s 1 w
      one w formed running same =
          let is = now w formed running in
          (is.0, is.1, sound_after (step s w) after (steps w formed running) (KeepsWellFormed-step checked s w formed) (ap (λ (v : World). world_of (step s v)) same ∙ e))

      go : (n : ℕ) (w : World) → IsWellFormed checked s w → IsRunning checked program s w → GoesOn s n w at → IsGoodStretch checked s (suc n) w
      go zero w formed running h = one w formed running (sym h)
      go (suc n) w formed running h =
          let is = now w formed running in
          let next_running : IsRunning checked program s h.0 = subst (KeepsRunning checked program s) h.1 (steps w formed running) in
          let next_formed : IsWellFormed checked s h.0 = subst (KeepsWellFormed checked s) h.1 (KeepsWellFormed-step checked s w formed) in
          (is.0, is.1, subst (λ (move : Move). OnWorld move (IsGoodStretch checked s (suc n))) (sym h.1) (go n h.0 next_formed next_running h.2))

  pub source_along : (n : ℕ) (w at : World) (start : source.World) (number : ℕ) (puts : List ℕ) → IsWellFormed checked s w → IsReached checked program s start number puts w → GoesOn s n w at → IsReached checked program s start number puts at
  source_along zero w at start number puts formed reached e = subst (IsReached checked program s start number puts) (sym e) reached
  source_along (suc n) w at start number puts formed reached h =
      let next : IsReached checked program s start number puts h.0 = subst (StepReaches checked program s start number puts) h.1 (law.steps program image certificate s w start number puts scoped valid code_is formed reached) in
      let next_formed : IsWellFormed checked s h.0 = subst (KeepsWellFormed checked s) h.1 (KeepsWellFormed-step checked s w formed) in
      source_along n h.0 at start number puts next_formed next h.2
