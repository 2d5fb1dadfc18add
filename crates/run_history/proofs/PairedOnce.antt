-- The pairs of a whole run, when one entry more has told something.
use Rattle.run_history.proofs.Common.{◌≡◌, ◌∙◌, ℕ, ℤ, List, [], ◌∷◌, ◌++◌, Option, None, take, sym, ap, refl, Answers, Happening, Put, Pairs, answers_at, answers_with, came_with, first_with, puts_with, value_with, waiting_in, waiting_with, put_after, came_after, first_after, first_answers, waiting_after, value_after, value_answers, none_waits, ArePairsByOrder, ArePairsByValue}

put-one : (put : ℕ) (told : List Happening) (one : Happening) → put_after put (told ++ one ∷ []) ≡ puts_with one (put_after put told)
put-one put [] one = refl
put-one put (x ∷ told) one = put-one (puts_with x put) told one

came-one : (came : ℕ) (told : List Happening) (one : Happening) → came_after came (told ++ one ∷ []) ≡ came_with one (came_after came told)
came-one came [] one = refl
came-one came (x ∷ told) one = came-one (came_with x came) told one

first-one : (put : ℕ) (under_way : List ℕ) (told : List Happening) (one : Happening) → first_after put under_way (told ++ one ∷ []) ≡ first_with one (put_after put told) (first_after put under_way told)
first-one put under_way [] one = refl
first-one put under_way (x ∷ told) one = first-one (puts_with x put) (first_with x put under_way) told one

first_answers-one : (request put : ℕ) (under_way : List ℕ) (before : Option Answers) (told : List Happening) (one : Happening) →
    first_answers request put under_way before (told ++ one ∷ []) ≡ answers_with request one (first_after put under_way told) (first_answers request put under_way before told)
first_answers-one request put under_way before [] one = refl
first_answers-one request put under_way before (x ∷ told) one = first_answers-one request (puts_with x put) (first_with x put under_way) (answers_with request x under_way before) told one

waiting-one : (came : ℕ) (waiting : ℤ → List ℕ) (told : List Happening) (one : Happening) (value : ℤ) →
    waiting_after came waiting (told ++ one ∷ []) value ≡ waiting_with one (came_after came told) value (waiting_after came waiting told value)
waiting-one came waiting [] one value = refl
waiting-one came waiting (x ∷ told) one value = waiting-one (came_with x came) (λ other. waiting_with x came other (waiting other)) told one value

value-one : (came : ℕ) (waiting : ℤ → List ℕ) (under_way : List ℕ) (told : List Happening) (one : Happening) →
    value_after came waiting under_way (told ++ one ∷ []) ≡ value_with one (λ value. waiting_after came waiting told value) (value_after came waiting under_way told)
value-one came waiting under_way [] one = refl
value-one came waiting under_way (x ∷ told) one = value-one (came_with x came) (λ other. waiting_with x came other (waiting other)) (value_with x waiting under_way) told one

value_answers-one : (request came : ℕ) (waiting : ℤ → List ℕ) (under_way : List ℕ) (before : Option Answers) (told : List Happening) (one : Happening) →
    value_answers request came waiting under_way before (told ++ one ∷ []) ≡ answers_with request one (value_after came waiting under_way told) (value_answers request came waiting under_way before told)
value_answers-one request came waiting under_way before [] one = refl
value_answers-one request came waiting under_way before (x ∷ told) one =
    value_answers-one request (came_with x came) (λ other. waiting_with x came other (waiting other)) (value_with x waiting under_way) (answers_with request x under_way before) told one

-- only the requests of the value that is put count
value_with-same : (one : Happening) (waiting other : ℤ → List ℕ) (under_way : List ℕ) → ((value : ℤ) → waiting value ≡ other value) → value_with one waiting under_way ≡ value_with one other under_way
value_with-same (Put thread value) waiting other under_way same = ap (λ l. under_way ++ take 1 l) (same value)
value_with-same _ waiting other under_way same = refl

-- one entry more, by order
pub by_order : (before : List Happening) (one : Happening) (old new : Pairs) → ArePairsByOrder before old →
    new.put ≡ puts_with one old.put → new.under_way.items ≡ first_with one old.put old.under_way.items →
    ((request : ℕ) → answers_at new.answers request ≡ answers_with request one old.under_way.items (answers_at old.answers request)) → ArePairsByOrder (before ++ one ∷ []) new
by_order before one old new was put under_way answers = record {
  put = put ∙ (ap (puts_with one) was.put ∙ sym (put-one 0 before one));
  under_way = under_way ∙ (ap (λ n. first_with one n old.under_way.items) was.put ∙ (ap (first_with one (put_after 0 before)) was.under_way ∙ sym (first-one 0 [] before one)));
  answers = λ request. answers request
      ∙ (ap (λ l. answers_with request one l (answers_at old.answers request)) was.under_way
      ∙ (ap (answers_with request one (first_after 0 [] before)) (was.answers request) ∙ sym (first_answers-one request 0 [] None before one)));
}

-- and by value
pub by_value : (before : List Happening) (one : Happening) (old new : Pairs) → ArePairsByValue before old →
    new.came ≡ came_with one old.came → ((value : ℤ) → waiting_in new.unanswered value ≡ waiting_with one old.came value (waiting_in old.unanswered value)) →
    new.under_way.items ≡ value_with one (λ value. waiting_in old.unanswered value) old.under_way.items →
    ((request : ℕ) → answers_at new.answers request ≡ answers_with request one old.under_way.items (answers_at old.answers request)) → ArePairsByValue (before ++ one ∷ []) new
by_value before one old new was came waiting under_way answers = record {
  came = came ∙ (ap (came_with one) was.came ∙ sym (came-one 0 before one));
  waiting = λ value. waiting value
      ∙ (ap (λ n. waiting_with one n value (waiting_in old.unanswered value)) was.came
      ∙ (ap (waiting_with one (came_after 0 before) value) (was.waiting value) ∙ sym (waiting-one 0 none_waits before one value)));
  under_way = under_way
      ∙ (value_with-same one (λ value. waiting_in old.unanswered value) (λ value. waiting_after 0 none_waits before value) old.under_way.items was.waiting
      ∙ (ap (value_with one (λ value. waiting_after 0 none_waits before value)) was.under_way ∙ sym (value-one 0 none_waits [] before one)));
  answers = λ request. answers request
      ∙ (ap (λ l. answers_with request one l (answers_at old.answers request)) was.under_way
      ∙ (ap (answers_with request one (value_after 0 none_waits [] before)) (was.answers request) ∙ sym (value_answers-one request 0 none_waits [] None before one)));
}
