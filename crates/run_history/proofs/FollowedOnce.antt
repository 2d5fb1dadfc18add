-- What is followed in a whole run, when one entry more has told something.
use Rattle.run_history.proofs.Common.{◌≡◌, ◌∙◌, ℕ, List, [], ◌∷◌, ◌++◌, Option, None, sym, ap, refl, get, nat_cmp, Answers, Happening, Ran, Spawned, Followed, answers_at, answers_from, clocks_by, followed_with, inherits, left_with, segments_with, started_with, works_for, segments_after, left_after_all, started_after, followed_answers, none_started, IsFollowed}

segments-one : (number : ℕ) (told : List Happening) (one : Happening) → segments_after number (told ++ one ∷ []) ≡ segments_with one (segments_after number told)
segments-one number [] one = refl
segments-one number (x ∷ told) one = segments-one (segments_with x number) told one

left-one : (number : ℕ) (left : List Spawned) (told : List Happening) (one : Happening) → left_after_all number left (told ++ one ∷ []) ≡ left_with one (segments_after number told) (left_after_all number left told)
left-one number left [] one = refl
left-one number left (x ∷ told) one = left-one (segments_with x number) (left_with x number left) told one

started-one : (number : ℕ) (left : List Spawned) (started : ℕ → Option ℕ) (told : List Happening) (one : Happening) (thread : ℕ) →
    started_after number left started (told ++ one ∷ []) thread ≡ started_with one (segments_after number told) (left_after_all number left told) (started_after number left started told) thread
started-one number left started [] one thread = refl
started-one number left started (x ∷ told) one thread = started-one (segments_with x number) (left_with x number left) (started_with x number left started) told one thread

answers-one : (request number : ℕ) (left : List Spawned) (started : ℕ → Option ℕ) (before : Option Answers) (told : List Happening) (one : Happening) →
    followed_answers request number left started before (told ++ one ∷ []) ≡ followed_with request one (started_after number left started told) (followed_answers request number left started before told)
answers-one request number left started before [] one = refl
answers-one request number left started before (x ∷ told) one =
    answers-one request (segments_with x number) (left_with x number left) (started_with x number left started) (followed_with request x started before) told one

-- what was started counts thread by thread
started_with-same : (one : Happening) (number : ℕ) (left : List Spawned) (started other : ℕ → Option ℕ) (thread : ℕ) → ((t : ℕ) → started t ≡ other t) → started_with one number left started thread ≡ started_with one number left other thread
started_with-same (Ran segment free) number left started other thread same =
    ap (λ s. inherits number (works_for segment.request s) thread left (started thread)) (same segment.thread)
    ∙ ap (λ s. inherits number (works_for segment.request (other segment.thread)) thread left s) (same thread)
started_with-same _ number left started other thread same = same thread

followed_with-same : (request : ℕ) (one : Happening) (started other : ℕ → Option ℕ) (before : Option Answers) → ((t : ℕ) → started t ≡ other t) → followed_with request one started before ≡ followed_with request one other before
followed_with-same request (Ran segment free) started other before same = ap (λ s. answers_from before (clocks_by request (works_for segment.request s) segment)) (same segment.thread)
followed_with-same request _ started other before same = refl

pub followed_more : (spawned : List Spawned) (before : List Happening) (one : Happening) (old new : Followed) → IsFollowed spawned before old →
    new.segments ≡ segments_with one old.segments → new.left.now ≡ left_with one old.segments old.left.now →
    ((thread : ℕ) → get nat_cmp new.started thread ≡ started_with one old.segments old.left.now (λ t. get nat_cmp old.started t) thread) →
    ((request : ℕ) → answers_at new.answers request ≡ followed_with request one (λ t. get nat_cmp old.started t) (answers_at old.answers request)) → IsFollowed spawned (before ++ one ∷ []) new
followed_more spawned before one old new was segments left started answers = record {
  segments = segments ∙ (ap (segments_with one) was.segments ∙ sym (segments-one 0 before one));
  left = left ∙ (ap (λ n. left_with one n old.left.now) was.segments ∙ (ap (left_with one (segments_after 0 before)) was.left ∙ sym (left-one 0 spawned before one)));
  started = λ thread. started thread
      ∙ (ap (λ n. started_with one n old.left.now (λ t. get nat_cmp old.started t) thread) was.segments
      ∙ (ap (λ (l : List Spawned). started_with one (segments_after 0 before) l (λ t. get nat_cmp old.started t) thread) was.left
      ∙ (started_with-same one (segments_after 0 before) (left_after_all 0 spawned before) (λ t. get nat_cmp old.started t) (started_after 0 spawned none_started before) thread was.started
      ∙ sym (started-one 0 spawned none_started before one thread))));
  answers = λ request. answers request
      ∙ (followed_with-same request one (λ t. get nat_cmp old.started t) (started_after 0 spawned none_started before) (answers_at old.answers request) was.started
      ∙ (ap (followed_with request one (started_after 0 spawned none_started before)) (was.answers request) ∙ sym (answers-one request 0 spawned none_started None before one)));
}
