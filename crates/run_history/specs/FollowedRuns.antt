-- Requests followed through `spawn` over a whole run.
use Rattle.std.specs.Prelude.{◌≡◌, ℕ, List, [], ◌∷◌, Option, None}
use Rattle.std.specs.BTreeMap.{get}
use Rattle.std.specs.Ordering.{nat_cmp}
use Rattle.run_history.specs.declared.answers.Answers.{Answers}
use Rattle.run_history.specs.declared.happenings.Happening.{Happening}
use Rattle.run_history.specs.declared.followed.Spawned.{Spawned}
use Rattle.run_history.specs.declared.followed.Followed.{Followed}
use Rattle.run_history.specs.Answers.{answers_at}
use Rattle.run_history.specs.Followed.{followed_with, left_with, segments_with, started_with}

-- the number of finished segments
abbrev pub segments_after : ℕ → List Happening → ℕ
segments_after number [] = number
segments_after number (one ∷ told) = segments_after (segments_with one number) told

-- the threads that are yet to start
abbrev pub left_after_all : ℕ → List Spawned → List Happening → List Spawned
left_after_all number left [] = left
left_after_all number left (one ∷ told) = left_after_all (segments_with one number) (left_with one number left) told

-- the request for which a thread works that took none
abbrev pub started_after : ℕ → List Spawned → (ℕ → Option ℕ) → List Happening → ℕ → Option ℕ
started_after number left started [] thread = started thread
started_after number left started (one ∷ told) thread =
    started_after (segments_with one number) (left_with one number left) (started_with one number left started) told thread

-- the answers to a request
abbrev pub followed_answers : ℕ → ℕ → List Spawned → (ℕ → Option ℕ) → Option Answers → List Happening → Option Answers
followed_answers request number left started before [] = before
followed_answers request number left started before (one ∷ told) =
    followed_answers request (segments_with one number) (left_with one number left) (started_with one number left started)
    (followed_with request one started before) told

-- no thread has been started
abbrev pub none_started : ℕ → Option ℕ
none_started thread = None

-- these are the answers in the log of a run whose segments started these threads
pub record IsFollowed (spawned : List Spawned) (told : List Happening) (followed : Followed) : Type 0 where
  pub segments : followed.segments ≡ segments_after 0 told
  pub left : followed.left.now ≡ left_after_all 0 spawned told
  pub started : (thread : ℕ) → get nat_cmp followed.started thread ≡ started_after 0 spawned none_started told thread
  pub answers : (request : ℕ) → answers_at followed.answers request ≡ followed_answers request 0 spawned none_started None told
