-- A segment asks nothing, so that how it stops, in one of two types of world, can be seen as a question: its trap, with the world that is
-- left as what waits for the answer. Segments of the text and of the tree are then two machines of which one can follow the other.
use Rattle.hoist_meaning.proofs.Common.{ℕ, zero, suc, ◌≡◌, refl, ap, Option, Move, Goes, Asks, Stops, Machine, and_then, moves, TrapKind}

module _ {S X E : Type 0} (trap_of : E → Option TrapKind) (world_of : E → X) where
  abbrev pub asked : Move S ⊥ ⊥ E → Move S X (Option TrapKind) ⊥
  asked (Goes next) = Goes next
  asked (Asks question waiting) = absurd question
  asked (Stops end) = Asks (trap_of end) (world_of end)

  module _ (machine : Machine S ⊥ ⊥ ⊥ E) where
    abbrev pub asking : Machine S X (Option TrapKind) ⊥ ⊥
    asking = record { step = λ state. asked (machine.step state); resume = λ waiting answer. absurd answer }

    asked_then : (n : ℕ) (move : Move S ⊥ ⊥ E) → ((next : S) → moves asking n next ≡ asked (moves machine n next)) → and_then (asked move) (moves asking n) ≡ asked (and_then move (moves machine n))
    asked_then n (Goes next) rest = rest next
    asked_then n (Asks question waiting) rest = absurd question
    asked_then n (Stops end) rest = refl

    -- its moves are the same, seen so
    pub asked_moves : (n : ℕ) (state : S) → moves asking n state ≡ asked (moves machine n state)
    asked_moves zero state = refl
    asked_moves (suc n) state = asked_then n (machine.step state) (λ next. asked_moves n next)

  -- and back
  pub went : (move : Move S ⊥ ⊥ E) (next : S) → asked move ≡ Goes next → move ≡ Goes next
  went (Goes other) next e = let same : other ≡ next = cc in ap Goes same
  went (Asks question waiting) next e = absurd question
  went (Stops end) next e = absurd cc

  pub stopped : (move : Move S ⊥ ⊥ E) (trap : Option TrapKind) (world : X) → asked move ≡ Asks trap world → (end : E) × (move ≡ Stops end) × (trap_of end ≡ trap) × (world_of end ≡ world)
  stopped (Goes other) trap world e = absurd cc
  stopped (Asks question waiting) trap world e = absurd question
  stopped (Stops end) trap world e = let t : trap_of end ≡ trap = cc in let w : world_of end ≡ world = cc in (end, refl, t, w)
