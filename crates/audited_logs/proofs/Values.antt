-- What lines print, and which deliveries they name.
use Rattle.audited_logs.proofs.Common.{ℕ, ℤ, ◌≡◌, refl, ap, subst, List, [], ◌∷◌, ◌++◌, signed, ProgramTree, outputs_of, lines_of}
use Rattle.c_mean.specs.World as source

-- one word more
pub put_more : (thread : ℕ) (before : List (ℕ × ℕ)) (words : List ℕ) (word : ℕ) → lines_of (before ++ outputs_of thread (words ++ word ∷ [])) ≡ lines_of (before ++ outputs_of thread words) ++ (thread, signed word) ∷ []
put_more thread [] [] word = refl
put_more thread [] (w ∷ words) word = ap (λ (xs : List (ℕ × ℤ)). (thread, signed w) ∷ xs) (put_more thread [] words word)
put_more thread (o ∷ before) words word = ap (λ (xs : List (ℕ × ℤ)). (o.0, signed o.1) ∷ xs) (put_more thread before words word)

-- one entry more of a schedule
pub after_more : (p : ProgramTree) (caps : List ℕ) (start world after : source.World) (schedule : List source.Entry) (entry : source.Entry) → source.IsAfter p caps start schedule world → source.IsAfterEntry p caps world entry after → source.IsAfter p caps start (schedule ++ entry ∷ []) after
after_more p caps start world after [] entry is step = (after, subst (λ (x : source.World). source.IsAfterEntry p caps x entry after) is step, refl)
after_more p caps start world after (first ∷ schedule) entry is step = (is.0, is.1, after_more p caps is.0 world after schedule entry is.2 step)
