-- A request that comes finds those of its value that wait.
use Rattle.run_history.proofs.Common.{◌≡◌, ◌∙◌, ℕ, ◌+◌, ◌-◌, ◌≤◌, ℤ, Bool, List, [], ◌∷◌, ◌++◌, None, true, take, drop, length, if◌then◌else◌, ap, refl, arith, int_eq, Arrive, Data, Happening, Came, Lost, Started, Waited, Put, Ran, Nothing, answers_from, clocks_of, came_after, none_waits, value_answers, answered_once, count_waiting, output_of}
use Rattle.run_history.proofs.Outputs.{IsNone, none-both}
use Rattle.run_history.proofs.OutputsOf.{Joined, Left, equal, none-joined, none-left, none-taken, follows}

more-came : (came : ℕ) (told : List Happening) → came ≤ came_after came told
more-came came [] = omega arith
more-came came (Came clock (Arrive value) ∷ told) = omega (arith, more-came (came + 1) told)
more-came came (Came clock (Data channel value) ∷ told) = more-came came told
more-came came (Lost clock item ∷ told) = more-came came told
more-came came (Started thread clock ∷ told) = more-came came told
more-came came (Waited wait ∷ told) = more-came came told
more-came came (Put thread value ∷ told) = more-came came told
more-came came (Ran segment free ∷ told) = more-came came told
more-came came (Nothing ∷ told) = more-came came told

count-joined : (t : Bool) (some : List ℕ) (came : ℕ) → length (if t then some ++ came ∷ [] else some) ≡ (if t then length some + 1 else length some)
count-joined true (x ∷ some) came = omega (arith, count-joined true some came)
count-joined _ _ came = refl

count-left : (t : Bool) (some : List ℕ) → length (if t then drop 1 some else some) ≡ (if t then length some - 1 else length some)
count-left true (x ∷ some) = omega arith
count-left _ _ = refl

-- none that is still to come waits or is answered
record AreThere (came : ℕ) (waiting : ℤ → List ℕ) (under_way : List ℕ) : Type 0 where
  pub waits : (request : ℕ) → came ≤ request → (value : ℤ) → IsNone request (waiting value)
  pub answers : (request : ℕ) → came ≤ request → IsNone request under_way

abbrev Turns : ℕ → (ℤ → List ℕ) → List ℕ → ℕ → ℤ → List Happening → List Happening → Type 0
Turns came waiting under_way clock value before after =
    value_answers (came_after came before) came waiting under_way None (before ++ Came clock (Arrive value) ∷ after) ≡ answered_once (output_of value after (count_waiting value (length (waiting value)) before))

turns : (came : ℕ) (waiting : ℤ → List ℕ) (under_way : List ℕ) (clock : ℕ) (value : ℤ) (before after : List Happening) → AreThere came waiting under_way → Turns came waiting under_way clock value before after
turns came waiting under_way clock value [] after a =
    follows came (came + 1) value (Joined value came waiting) (waiting value) [] under_way after (record {
      less = omega arith;
      here = ap (λ t. if t then waiting value ++ came ∷ [] else waiting value) (equal value);
      before = a.waits came (omega arith) value;
      behind = λ at. refl;
      others = λ u unlike at. ap (λ t. clocks_of came at (if t then waiting u ++ came ∷ [] else waiting u)) unlike ∙ a.waits came (omega arith) u at;
      off = a.answers came (omega arith);
    })
turns came waiting under_way clock value (Came at (Arrive arrived) ∷ before) after a =
    turns (came + 1) (Joined arrived came waiting) under_way clock value before after (record {
      waits = λ request later u. none-joined request came arrived u waiting (λ is. omega (arith, later, is)) (a.waits request (omega (arith, later)) u);
      answers = λ request later. a.answers request (omega (arith, later));
    })
    ∙ ap (λ n. answered_once (output_of value after (count_waiting value n before))) (count-joined (int_eq arrived value) (waiting value) came)
turns came waiting under_way clock value (Came at (Data channel sent) ∷ before) after a = turns came waiting under_way clock value before after a
turns came waiting under_way clock value (Lost at item ∷ before) after a = turns came waiting under_way clock value before after a
turns came waiting under_way clock value (Started thread at ∷ before) after a = turns came waiting under_way clock value before after a
turns came waiting under_way clock value (Waited wait ∷ before) after a = turns came waiting under_way clock value before after a
turns came waiting under_way clock value (Put thread put ∷ before) after a =
    turns came (Left put waiting) (under_way ++ take 1 (waiting put)) clock value before after (record {
      waits = λ request later u. none-left request put u waiting (a.waits request later u);
      answers = λ request later. none-both request under_way (take 1 (waiting put)) (a.answers request later) (none-taken request (waiting put) (a.waits request later put));
    })
    ∙ ap (λ n. answered_once (output_of value after (count_waiting value n before))) (count-left (int_eq put value) (waiting value))
turns came waiting under_way clock value (Ran segment free ∷ before) after a =
    ap (λ l. value_answers (came_after came before) came waiting [] (answers_from None l) (before ++ Came clock (Arrive value) ∷ after)) (a.answers (came_after came before) (more-came came before) segment.ended)
    ∙ turns came waiting [] clock value before after (record { waits = a.waits; answers = λ request later at. refl })
turns came waiting under_way clock value (Nothing ∷ before) after a = turns came waiting under_way clock value before after a

pub in-turn : (before after : List Happening) (clock : ℕ) (value : ℤ) →
    value_answers (came_after 0 before) 0 none_waits [] None (before ++ Came clock (Arrive value) ∷ after) ≡ answered_once (output_of value after (count_waiting value 0 before))
in-turn before after clock value = turns 0 none_waits [] clock value before after (record { waits = λ request later u at. refl; answers = λ request later at. refl })
