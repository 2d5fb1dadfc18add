-- What a call of `begin` or `proceed` does, as actions.
use Rattle.run_course.proofs.Common.{◌≡◌, ℕ, zero, suc, [], ◌∷◌, ◌++◌, Option, Some, refl, sym, ap, ◌∙◌, Step, world_of, and_then, after_actions, World, Setting, Move, Puts, Spawns, Blocks, Ends, Stops, step, Tells, IsTurn, GoesOn, Held, ActsTo, Turn}
use Rattle.machine_world.proofs.ActionLaws.{after_actions-append}

pub acts_on : (s : Setting) (w v u : World) → ActsTo s w v → ActsTo s v u → ActsTo s w u
acts_on s w v u p q = record {
  actions = p.actions ++ q.actions;
  leads = after_actions-append s p.actions q.actions w ∙ ap (λ (o : Option World). and_then o (after_actions s q.actions)) p.leads ∙ q.leads;
}

pub one_step : (s : Setting) (w after : World) → world_of (step s w) ≡ Some after → ActsTo s w after
one_step s w after e = record { actions = Step ∷ []; leads = ap (λ (o : Option World). and_then o (after_actions s [])) e }

goes_acts : (s : Setting) (n : ℕ) (w at : World) → GoesOn s n w at → ActsTo s w at
goes_acts s zero w at e = record { actions = []; leads = ap Some (sym e) }
goes_acts s (suc n) w at goes = acts_on s w goes.0 at (one_step s w goes.0 (ap world_of goes.1)) (goes_acts s n goes.0 at goes.2)

pub told_acts : (s : Setting) (at : World) (move : Move) (turn : Turn) (number : ℕ) (new : Held) → step s at ≡ move → Tells move turn number at new → ActsTo s at new.machine
told_acts s at (Puts value after) (Turn.Out told) number new e t = one_step s at new.machine (ap world_of e ∙ ap Some (sym t.1))
told_acts s at (Spawns started after) (Turn.Spawned thread) number new e t = one_step s at new.machine (ap world_of e ∙ ap Some (sym t.2))
told_acts s at (Spawns started after) Turn.Memory number new e t = record { actions = []; leads = ap Some (sym t.0) }
told_acts s at (Blocks after) (Turn.Blocked key cost) number new e t = one_step s at new.machine (ap world_of e ∙ ap Some (sym t.2))
told_acts s at (Ends after) (Turn.Ended cost) number new e t = one_step s at new.machine (ap world_of e ∙ ap Some (sym t.1))
told_acts s at (Stops stop) (Turn.Cut told cost) number new e t = record { actions = []; leads = ap Some (sym t.2) }
told_acts s at _ _ number new e t = absurd t

pub turn_acts : (old : Held) (number : ℕ) (from : World) (turn : Turn) (new : Held) → IsTurn old number from turn new → ActsTo old.setting from new.machine
turn_acts old number from turn new is =
    acts_on old.setting from is.at new.machine (goes_acts old.setting is.steps from is.at is.goes_on) (told_acts old.setting is.at (step old.setting is.at) turn number new refl is.tells)
