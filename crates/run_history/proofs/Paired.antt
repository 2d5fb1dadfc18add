-- The answers to requests, one more at a time.
use Rattle.run_history.proofs.Common.{◌≡◌, ◌∙◌, ℕ, ◌+◌, ◌<◌, List, [], ◌∷◌, ◌++◌, Option, Some, None, option_to_list, false, nat_eq, if◌then◌else◌, length, take, get_or, sym, ap, refl, arith, flat_map_more, take_more, Answers, answers_from, clocks_for, clocks_of, Spawned, inherits, passed_on}
use Rattle.run_history.proofs.Gathered.{answers_from-append}

-- the answers to the first of some requests, and to the next one
pub answers_more : (before : Option Answers) (request at : ℕ) (requests : List ℕ) (i d : ℕ) → i < length requests →
    answers_from (answers_from before (clocks_of request at (take i requests))) (clocks_for request at (get_or requests i d)) ≡ answers_from before (clocks_of request at (take (i + 1) requests))
answers_more before request at requests i d inside =
    sym (answers_from-append before (clocks_of request at (take i requests)) (clocks_for request at (get_or requests i d)))
    ∙ ap (answers_from before) (flat_map_more (clocks_for request at) [] (take i requests) (get_or requests i d)
    ∙ ap (clocks_of request at) (sym (take_more requests i d inside)))

-- no thread is started any more
pub inherits-over : (segment : ℕ) (request : Option ℕ) (thread : ℕ) (left : List Spawned) (before : Option ℕ) → length left ≡ 0 → inherits segment request thread left before ≡ before
inherits-over segment request thread [] before over = refl
inherits-over segment request thread (one ∷ rest) before over = absurd (omega arith)

-- the next thread is that of a later segment
pub inherits-later : (segment : ℕ) (request : Option ℕ) (thread : ℕ) (one : Spawned) (rest : List Spawned) (before : Option ℕ) → nat_eq one.segment segment ≡ false → inherits segment request thread (one ∷ rest) before ≡ before
inherits-later segment request thread one rest before later = ap (λ b. if b then inherits segment request thread rest (if nat_eq one.thread thread then passed_on request before else before) else before) later

-- what leaves a queue at its front is its first element, if it has one
pub first_of : (queue rest : List ℕ) (front : Option ℕ) (d : ℕ) → queue ≡ option_to_list front ++ rest → (0 < length queue → front ≡ Some (get_or queue 0 d)) → option_to_list front ≡ take 1 queue
first_of [] rest None d is some = refl
first_of [] rest (Some x) d is some = absurd (let clash : [] ≡ x ∷ rest = is in cc)
first_of (x ∷ queue) rest front d is some = ap option_to_list (some (omega arith))
