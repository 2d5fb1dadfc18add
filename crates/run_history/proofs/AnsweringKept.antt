-- The answers that are kept are those that are asked for.
use Rattle.run_history.proofs.Common.{◌≡◌, ◌∙◌, ℕ, List, Option, ap, get, nat_cmp, Window, ticks_kept, longest_kept, OfPairs, OfSpawned, Answering, ByThread, ByPairing, BySpawn, Followed, Happening, Numbers, Pairs, Keeps, answers_at, IsNumbersOf, KeepsOthers, First, Value}
use Rattle.run_history.specs.declared.waits.WaitLists.{WaitLists}
use Rattle.run_history.specs.AnsweredBy.{answers_by}

abbrev pub ShowAnswers : Answering → List Happening → Numbers → Type 0
ShowAnswers answering told numbers = (request : ℕ) → answers_at numbers.answers request ≡ answers_by answering told request

pub of-pairs : (answering : Answering) (told : List Happening) (pairs : Pairs) (numbers : Numbers) → numbers.answers ≡ pairs.answers → Keeps answering told (OfPairs pairs) → ShowAnswers answering told numbers
of-pairs ByThread told pairs numbers same kept = absurd kept
of-pairs (ByPairing First) told pairs numbers same kept = λ request. ap (λ v. answers_at v request) same ∙ kept.1.answers request
of-pairs (ByPairing Value) told pairs numbers same kept = λ request. ap (λ v. answers_at v request) same ∙ kept.1.answers request
of-pairs (BySpawn spawned) told pairs numbers same kept = absurd kept

pub of-spawned : (answering : Answering) (told : List Happening) (followed : Followed) (numbers : Numbers) → numbers.answers ≡ followed.answers → Keeps answering told (OfSpawned followed) → ShowAnswers answering told numbers
of-spawned ByThread told followed numbers same kept = absurd kept
of-spawned (ByPairing First) told followed numbers same kept = absurd kept
of-spawned (ByPairing Value) told followed numbers same kept = absurd kept
of-spawned (BySpawn spawned) told followed numbers same kept = λ request. ap (λ v. answers_at v request) same ∙ kept.answers request

-- the numbers of what was told, with these answers
pub with-answers : (answering : Answering) (window : Option Window) (chunks : ℕ) (told : List Happening) (old new : Numbers) → IsNumbersOf ByThread window chunks told old → KeepsOthers old new → ShowAnswers answering told new → IsNumbersOf answering window chunks told new
with-answers answering window chunks told old new was keeps answers = record {
  events = keeps.events ∙ was.events;
  arrivals = keeps.arrivals ∙ was.arrivals;
  dropped = keeps.dropped ∙ was.dropped;
  takers = keeps.takers ∙ was.takers;
  taken = keeps.taken ∙ was.taken;
  answers = answers;
  waits = λ site. ap (λ (w : WaitLists). ticks_kept (get nat_cmp w.sites site)) keeps.waits ∙ was.waits site;
  longest = λ site. ap (λ (w : WaitLists). longest_kept (get nat_cmp w.sites site)) keeps.waits ∙ was.longest site;
  held = keeps.held ∙ was.held;
}
