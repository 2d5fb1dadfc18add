-- The machine of a returned world is safe in every world that it reaches.
use Rattle.promises.proofs.Common.{◌≡◌, ◌∙◌, ℕ, List, map, Option, IfSome, Some, None, refl, sym, ap, subst, ⊎_elim, inl, AllByRecursion, none-some, same_Some, lowered, IsAnswer, Outside, Setup, main_fact, setting_of, start_areas, start_machine, checked_of, IsReady, Action, after_actions, World, Setting, DeliversWords, Held}
use Rattle.chunk_pool.specs.Pool.{Taken, taken_for}
use Rattle.log_laws.proofs.RoomLemmas.{start-shape}
use Rattle.log_laws.proofs.RunLemmas.{Stage, all-on, starts}
use Rattle.log_laws.proofs.StartLemmas.{Rests, Runs}
use Rattle.machine_meaning.proofs.Sound.{settled_sound, under_way_sound}
use Rattle.machine_meaning.proofs.WorldLaws as laws
use Rattle.machine_meaning.specs.Reached.{StepReaches}
use Rattle.machine_world.specs.Runs.{empty_world, start_world, started_on}
use Rattle.machine_world.specs.Stretches.{IsFramedNext}
use Rattle.machine_world.specs.Threads.{with_thread}
use Rattle.promises.specs.Memory.{IsSafe, KeepsToFrames, KeepsMemory}
use Rattle.promises.proofs.Coming.{to-stop}
use Rattle.promises.proofs.Ran.{IsRan, ran-of}
use Rattle.promises.proofs.Returned.{returned}
use Rattle.chunk_pool.specs.Pool.{shape_of}

-- ---- every world

module _ (g : Setup) (ready : IsReady g) where
  abbrev Staged : World → Type 0
  Staged w = Stage g ready.scoped ready.valid (shape_of (start_areas g).pool) w

  none-runs : {P : Type 0} (w : World) (number : ℕ) → w.running ≡ None → w.running ≡ Some number → P
  none-runs w number none some = absurd (none-some number (sym none ∙ some))

  at-rest : (w : World) → Rests g ready.scoped ready.valid (shape_of (start_areas g).pool) w → IsSafe (checked_of g) (setting_of g) w
  at-rest w is =
      let between = is.stands.settled.between in
      record {
        sound = settled_sound (checked_of g) (setting_of g) w is.form is.stands.settled;
        framed = λ number some. none-runs w number between some;
        right = λ number some. none-runs w number between some;
      }

  under-way : (w : World) → Runs g ready.scoped ready.valid (shape_of (start_areas g).pool) w → IsSafe (checked_of g) (setting_of g) w
  under-way w is =
      let both = under_way_sound (checked_of g) g.program (setting_of g) w is.reached.segment is.form is.reached.under_way in
      record {
        sound = both.0;
        framed = λ number some. subst (λ (running : Option ℕ). IsFramedNext (checked_of g) (setting_of g) w running) some both.1;
        right = λ number some wrong.
            subst (StepReaches (checked_of g) g.program (setting_of g) is.start is.number is.puts) wrong
            (laws.steps g.program g.image g.certificate (setting_of g) w is.start is.number is.puts ready.scoped ready.valid refl is.form is.reached);
      }

  safe : (start : World) → start_machine g ≡ Some start → (actions : List Action) (w : World) → AllByRecursion DeliversWords actions → after_actions (setting_of g) actions start ≡ Some w → IsSafe (checked_of g) (setting_of g) w
  safe start begins actions w words leads =
      let shape = shape_of (start_areas g).pool in
      let first : Staged start = inl (starts g ready.scoped ready.valid shape start ready.areas ready.fuel begins (start-shape g start begins)) in
      let stage : Staged w = all-on g ready.scoped ready.valid shape actions start w words first leads in
      ⊎_elim (λ rests. at-rest w rests) (λ runs. under-way w runs) stage

-- ---- the start

started : (w : World) (entry : ℕ) (taken : Option Taken) (start : World) → started_on w entry taken ≡ Some start → (found : Taken) × (start ≡ with_thread w found entry 0)
started w entry None start e = absurd (none-some start e)
started w entry (Some taken) start e = (taken, sym (same_Some (with_thread w taken entry 0) start e))

starts-so : (g : Setup) (start : World) → start_machine g ≡ Some start → (found : Taken) × (start ≡ with_thread (empty_world (start_areas g)) found (main_fact g).entry 0)
unfolding start_world
starts-so g start e = started (empty_world (start_areas g)) (main_fact g).entry (taken_for (start_areas g).pool (main_fact g).bound) start e

-- ---- the promise

to-frames : {words : List (List ℕ)} {before after : Outside} {status : ℕ} (world : Held) → IsRan words before after world status → KeepsToFrames world
to-frames world r =
    let g = r.setup in
    let is = r.world_is in
    let log = r.lawful in
    let start = starts-so g log.start log.starts in
    let came = to-stop g r.trace r.entries r.stop r.end log in
    record {
      checked = checked_of g;
      flat = sym (ap lowered is.program);
      certificate = sym is.certificate;
      code = ap (λ (s : Setting). s.code) is.setting ∙ sym (ap (λ i. i.code) is.image);
      start = log.start;
      cost = ap (λ (w : World). w.cost) start.1;
      next = ap (λ (w : World). w.next) start.1;
      between = ap (λ (w : World). w.running) start.1;
      entry = ap (λ (w : World). map (λ thread. thread.core.pc) w.threads) start.1;
      globals = ap (λ (w : World). w.areas.globals) start.1 ∙ sym (ap (λ i. i.globals) is.image);
      tables = ap (λ (w : World). w.areas.tables) start.1 ∙ sym (ap (λ i. i.tables) is.image);
      always = λ actions w words leads.
          subst (λ (s : Setting). IsSafe (checked_of g) s w) (sym is.setting)
          (safe g r.ready log.start log.starts actions w words (subst (λ (s : Setting). after_actions s actions log.start ≡ Some w) is.setting leads));
      actions = came.actions;
      words = came.words;
      leads = subst (λ (s : Setting). after_actions s came.actions log.start ≡ Some world.machine) (sym is.setting)
          (came.leads ∙ ap (λ (w : World). Some w) (sym is.machine));
    }

kept : (words : List (List ℕ)) (before after : Outside) (err err' : Option (List ℕ)) (faults faults' : ℕ) (last : Option Held) (status : ℕ) → IsAnswer words before after err err' faults faults' last status → IfSome last KeepsToFrames
kept words before after err err' faults faults' None status answer = tt
kept words before after err err' faults faults' (Some world) status answer = to-frames world (ran-of words before after err err' faults faults' world status answer)

pub memory-kept : (words : List (List ℕ)) (before after : Outside) (err err' : Option (List ℕ)) (faults faults' : ℕ) (last : Option Held) (status : ℕ) → IsAnswer words before after err err' faults faults' last status → KeepsMemory words last status
memory-kept words before after err err' faults faults' last status answer = record {
  returned = returned words before after err err' faults faults' last status answer;
  frames = kept words before after err err' faults faults' last status answer;
}
