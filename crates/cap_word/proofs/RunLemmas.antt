-- Runs of machines: steps add up.
use Rattle.std.proofs.Common.{◌≡◌, ℕ, zero, suc, ◌+◌, List, refl, ap, ◌∙◌, suc-add, zero-add}
use Rattle.cap_word.specs.Runs.{Move, Goes, Asks, Stops, Machine, and_then, moves, Progress, Unfinished, Over, on_from, played, run}

module _ {S W Q A E : Type 0} (machine : Machine S W Q A E) where
  -- three moves one after another group either way
  and_then_assoc : (move : Move S W Q E) (f g : S → Move S W Q E) → and_then move (λ s. and_then (f s) g) ≡ and_then (and_then move f) g
  and_then_assoc (Goes next) f g = refl
  and_then_assoc _ f g = refl

  -- moves that go on alike lead to the same
  and_then_alike : (move : Move S W Q E) (f g : S → Move S W Q E) → ((s : S) → f s ≡ g s) → and_then move f ≡ and_then move g
  and_then_alike (Goes next) f g alike = alike next
  and_then_alike _ f g alike = refl

  pub moves_add : (m n : ℕ) (state : S) → moves machine (m + n) state ≡ and_then (moves machine m state) (moves machine n)
  moves_add zero n state = ap (λ k. moves machine k state) (zero-add n)
  moves_add (suc m) n state =
      ap (λ k. moves machine k state) (suc-add m n)
      ∙ and_then_alike (machine.step state) (moves machine (m + n)) (λ s. and_then (moves machine m s) (moves machine n)) (λ s. moves_add m n s)
      ∙ and_then_assoc (machine.step state) (moves machine m) (moves machine n)

  pub asks_stay : (m n : ℕ) (state : S) (question : Q) (waiting : W) → moves machine m state ≡ Asks question waiting → moves machine (m + n) state ≡ Asks question waiting
  asks_stay m n state question waiting e = moves_add m n state ∙ ap (λ v. and_then v (moves machine n)) e

  pub stops_stay : (m n : ℕ) (state : S) (end : E) → moves machine m state ≡ Stops end → moves machine (m + n) state ≡ Stops end
  stops_stay m n state end e = moves_add m n state ∙ ap (λ v. and_then v (moves machine n)) e

  pub goes_on : (m n : ℕ) (state next : S) → moves machine m state ≡ Goes next → moves machine (m + n) state ≡ moves machine n next
  goes_on m n state next e = moves_add m n state ∙ ap (λ v. and_then v (moves machine n)) e

  module _ (world : List Q → A) where
    on_from_assoc : (progress : Progress S Q E) (f g : List Q → S → Progress S Q E) → on_from progress (λ a s. on_from (f a s) g) ≡ on_from (on_from progress f) g
    on_from_assoc (Unfinished asked state) f g = refl
    on_from_assoc (Over asked end) f g = refl

    on_from_alike : (progress : Progress S Q E) (f g : List Q → S → Progress S Q E) → ((a : List Q) (s : S) → f a s ≡ g a s) → on_from progress f ≡ on_from progress g
    on_from_alike (Unfinished asked state) f g alike = alike asked state
    on_from_alike (Over asked end) f g alike = refl

    pub run_adds : (m n : ℕ) (asked : List Q) (state : S) → run machine world (m + n) asked state ≡ on_from (run machine world m asked state) (run machine world n)
    run_adds zero n asked state = ap (λ k. run machine world k asked state) (zero-add n)
    run_adds (suc m) n asked state =
        ap (λ k. run machine world k asked state) (suc-add m n)
        ∙ on_from_alike (played machine world asked (machine.step state)) (run machine world (m + n)) (λ a s. on_from (run machine world m a s) (run machine world n)) (λ a s. run_adds m n a s)
        ∙ on_from_assoc (played machine world asked (machine.step state)) (run machine world m) (run machine world n)

    pub over_stays : (m n : ℕ) (asked before : List Q) (state : S) (end : E) → run machine world m before state ≡ Over asked end → run machine world (m + n) before state ≡ Over asked end
    over_stays m n asked before state end e = run_adds m n before state ∙ ap (λ p. on_from p (run machine world n)) e
