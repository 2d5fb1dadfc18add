-- Runs go on where earlier ones ended.
use Rattle.machine_world.proofs.Common.{◌≡◌, ℕ, zero, suc, ◌+◌, List, [], ◌∷◌, ◌++◌, Option, Some, None, refl, ap, ◌∙◌, arith, get_or-set_other, LeavesOtherQueues, Exchange, Delivery, Arrival, Message, channel_of, with_delivery, World, Setting, step, Action, world_of, after_action, and_then, after_actions, after_steps}

through : (found : Option World) (f g h : World → Option World) → ((w : World) → f w ≡ and_then (g w) h) → and_then found f ≡ and_then (and_then found g) h
through None f g h same = refl
through (Some w) f g h same = same w

pub after_steps-add : (s : Setting) (m n : ℕ) (w : World) → after_steps s (m + n) w ≡ and_then (after_steps s m w) (after_steps s n)
after_steps-add s zero n w = let e : 0 + n ≡ n = omega arith in ap (λ (k : ℕ). after_steps s k w) e
after_steps-add s (suc m) n w =
    let e : suc m + n ≡ suc (m + n) = omega arith in
    ap (λ (k : ℕ). after_steps s k w) e
    ∙ through (world_of (step s w)) (after_steps s (m + n)) (after_steps s m) (after_steps s n) (after_steps-add s m n)

pub after_actions-append : (s : Setting) (first rest : List Action) (w : World) → after_actions s (first ++ rest) w ≡ and_then (after_actions s first w) (after_actions s rest)
after_actions-append s [] rest w = refl
after_actions-append s (action ∷ first) rest w =
    through (after_action s w action) (after_actions s (first ++ rest)) (after_actions s first) (after_actions s rest) (after_actions-append s first rest)

-- ---- deliveries

pub LeavesOtherQueues-with_delivery : (x : Exchange) (delivery : Delivery) → LeavesOtherQueues x delivery (with_delivery x delivery)
LeavesOtherQueues-with_delivery x (Arrival value) = record {
  uses = refl;
  arrivals = λ channel v e. absurd (cc);
  channels = λ v e. refl;
  other_channels = λ channel other v e apart. refl;
}
LeavesOtherQueues-with_delivery x (Message channel value) = record {
  uses = refl;
  arrivals = λ c v e. refl;
  channels = λ v e. absurd (cc);
  other_channels = λ c other v e apart. let same : channel ≡ c = cc in get_or-set_other x.channels channel other (channel_of x channel ++ value ∷ []) [] (λ is. apart (is ∙ same));
}

pub LeavesOtherQueues-self : (x : Exchange) (delivery : Delivery) → LeavesOtherQueues x delivery x
LeavesOtherQueues-self x delivery = record {
  uses = refl;
  arrivals = λ channel value e. refl;
  channels = λ value e. refl;
  other_channels = λ channel other value e apart. refl;
}
