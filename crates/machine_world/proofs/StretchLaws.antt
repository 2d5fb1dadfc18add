-- Good stretches follow one another, and a good run can be done.
use Rattle.machine_world.specs.GoodRuns.{Entry, Comes, Waits, Turn, all_actions, InWorld, IsGoodRun}
use Rattle.machine_world.proofs.Common.{◌≡◌, ℕ, zero, suc, ◌+◌, List, [], ◌∷◌, ◌++◌, replicate, Option, Some, None, refl, ap, subst, ◌∙◌, arith, Checked, Deliver, Advance, Pick, Step, after_action, after_actions, and_then, after_steps, world_of, World, Setting, Move, Goes, Puts, Spawns, Blocks, Ends, step}
use Rattle.machine_world.specs.Stretches.{OnWorld, IsGoodStretch}
use Rattle.machine_world.proofs.ActionLaws.{after_actions-append}

-- ---- stretches

-- a stretch goes on in the world that a move leads to
on_world : (c : Checked) (s : Setting) (m n : ℕ) (after : World) (move : Move) →
    ((w : World) → IsGoodStretch c s m w → after_steps s m w ≡ Some after → IsGoodStretch c s (m + n) w) →
    OnWorld move (IsGoodStretch c s m) → and_then (world_of move) (after_steps s m) ≡ Some after → OnWorld move (IsGoodStretch c s (m + n))
on_world c s m n after (Goes w) rest good e = rest w good e
on_world c s m n after (Puts value w) rest good e = rest w good e
on_world c s m n after (Spawns number w) rest good e = rest w good e
on_world c s m n after (Blocks w) rest good e = rest w good e
on_world c s m n after (Ends w) rest good e = rest w good e
on_world c s m n after _ rest good e = good

pub IsGoodStretch-add : (c : Checked) (s : Setting) (m n : ℕ) (w after : World) → IsGoodStretch c s m w → after_steps s m w ≡ Some after → IsGoodStretch c s n after → IsGoodStretch c s (m + n) w
IsGoodStretch-add c s zero n w after first e second =
    let same : n ≡ zero + n = omega arith in
    let is : after ≡ w = (let here : Some w ≡ Some after = e in cc) in
    subst (λ (k : ℕ). IsGoodStretch c s k w) same (subst (IsGoodStretch c s n) is second)
IsGoodStretch-add c s (suc m) n w after first e second =
    let same : suc (m + n) ≡ suc m + n = omega arith in
    subst (λ (k : ℕ). IsGoodStretch c s k w) same
    (first.0, first.1, on_world c s m n after (step s w) (λ v good there. IsGoodStretch-add c s m n v after good there second) first.2 e)

-- ---- runs

-- both runs go on alike
through : (found : Option World) (f g : World → Option World) → ((w : World) → f w ≡ g w) → and_then found f ≡ and_then found g
through None f g same = refl
through (Some w) f g same = same w

-- so many steps are as many actions
steps_are_actions : (s : Setting) (n : ℕ) (w : World) → after_actions s (replicate n Step) w ≡ after_steps s n w
steps_are_actions s zero w = refl
steps_are_actions s (suc n) w = through (world_of (step s w)) (after_actions s (replicate n Step)) (after_steps s n) (steps_are_actions s n)

-- what is in a world that is there leads on
leads_on : (found : Option World) (P : World → Type 0) (rest : World → Option World) → InWorld found P → ((w : World) → P w → (after : World) × (rest w ≡ Some after)) → (after : World) × (and_then found rest ≡ Some after)
leads_on None P rest good on = absurd good
leads_on (Some w) P rest good on = on w good

-- a good run can be done, action by action
pub IsGoodRun-done : (c : Checked) (s : Setting) (entries : List Entry) (w : World) → IsGoodRun c s entries w → (after : World) × (after_actions s (all_actions entries) w ≡ Some after)
IsGoodRun-done c s [] w good = (w, refl)
IsGoodRun-done c s (Comes delivery ∷ entries) w good =
    leads_on (after_action s w (Deliver delivery)) (IsGoodRun c s entries) (after_actions s (all_actions entries)) good (IsGoodRun-done c s entries)
IsGoodRun-done c s (Waits to ∷ entries) w good =
    leads_on (after_action s w (Advance to)) (IsGoodRun c s entries) (after_actions s (all_actions entries)) good (IsGoodRun-done c s entries)
IsGoodRun-done c s (Turn number cost ∷ entries) w good =
    leads_on (after_action s w (Pick number)) (λ begun. IsGoodStretch c s cost begun × InWorld (after_steps s cost begun) (IsGoodRun c s entries))
    (after_actions s (replicate cost Step ++ all_actions entries)) good
    (λ begun there.
    let rest = leads_on (after_steps s cost begun) (IsGoodRun c s entries) (after_actions s (all_actions entries)) there.1 (IsGoodRun-done c s entries) in (
      rest.0,
      after_actions-append s (replicate cost Step) (all_actions entries) begun
          ∙ ap (λ (found : Option World). and_then found (after_actions s (all_actions entries))) (steps_are_actions s cost begun)
          ∙ rest.1,
    ))
