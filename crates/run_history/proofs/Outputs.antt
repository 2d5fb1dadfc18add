-- The output of a number is the answer to the request of that number.
use Rattle.run_history.proofs.Common.{◌≡◌, ◌∙◌, ℕ, zero, suc, ◌+◌, ◌<◌, List, [], ◌∷◌, ◌++◌, Option, Some, None, if◌then◌else◌, ap, refl, arith, ne_eqb, eq-eqb, Answers, Happening, Came, Lost, Started, Waited, Put, Ran, Nothing, answers_from, clocks_for, clocks_of, first_answers, answered_once, end_of, output_at}
use Rattle.std.proofs.lemmas.Grind.{flat_map-append}

-- a request is none of these, or one of them
abbrev pub IsNone : ℕ → List ℕ → Type 0
IsNone request requests = (at : ℕ) → clocks_of request at requests ≡ []

abbrev pub IsOnce : ℕ → List ℕ → Type 0
IsOnce request requests = (at : ℕ) → clocks_of request at requests ≡ at ∷ []

for-other : (request at one : ℕ) → (one ≡ request → ⊥) → clocks_for request at one ≡ []
for-other request at one other = ap (λ b. if b then at ∷ [] else []) (ne_eqb one request other)

for-same : (request at one : ℕ) → one ≡ request → clocks_for request at one ≡ at ∷ []
for-same request at one same = ap (λ b. if b then at ∷ [] else []) (eq-eqb one request same)

pub none-both : (request : ℕ) (some more : List ℕ) → IsNone request some → IsNone request more → IsNone request (some ++ more)
none-both request some more a b = λ at. flat_map-append (clocks_for request at) some more ∙ (ap (λ l. l ++ clocks_of request at more) (a at) ∙ b at)

pub none-other : (request one : ℕ) → (one ≡ request → ⊥) → IsNone request (one ∷ [])
none-other request one other = λ at. ap (λ l. l ++ []) (for-other request at one other)

pub once-before : (request : ℕ) (some more : List ℕ) → IsOnce request some → IsNone request more → IsOnce request (some ++ more)
once-before request some more a b = λ at. flat_map-append (clocks_for request at) some more ∙ (ap (λ l. l ++ clocks_of request at more) (a at) ∙ ap (λ l. at ∷ l) (b at))

pub once-now : (request one : ℕ) (some : List ℕ) → IsNone request some → one ≡ request → IsOnce request (some ++ one ∷ [])
once-now request one some none same =
    λ at. flat_map-append (clocks_for request at) some (one ∷ []) ∙ (ap (λ l. l ++ clocks_of request at (one ∷ [])) (none at) ∙ ap (λ l. l ++ []) (for-same request at one same))

-- a request that is answered stays as it is
answered : (request put : ℕ) (under_way : List ℕ) (before : Option Answers) (told : List Happening) → request < put → IsNone request under_way → first_answers request put under_way before told ≡ before
answered request put under_way before [] less none = refl
answered request put under_way before (Came clock item ∷ told) less none = answered request put under_way before told less none
answered request put under_way before (Lost clock item ∷ told) less none = answered request put under_way before told less none
answered request put under_way before (Started thread clock ∷ told) less none = answered request put under_way before told less none
answered request put under_way before (Waited wait ∷ told) less none = answered request put under_way before told less none
answered request put under_way before (Put thread value ∷ told) less none =
    answered request (put + 1) (under_way ++ put ∷ []) before told (omega arith) (none-both request under_way (put ∷ []) none (none-other request put (λ same. omega (arith, same))))
answered request put under_way before (Ran segment free ∷ told) less none =
    ap (λ l. first_answers request put [] (answers_from before l) told) (none segment.ended) ∙ answered request put [] before told less (λ at. refl)
answered request put under_way before (Nothing ∷ told) less none = answered request put under_way before told less none

-- one that the segment under way answers is answered at its end
answered-now : (request put : ℕ) (under_way : List ℕ) (told : List Happening) → request < put → IsOnce request under_way → first_answers request put under_way None told ≡ answered_once (end_of told)
answered-now request put under_way [] less once = refl
answered-now request put under_way (Came clock item ∷ told) less once = answered-now request put under_way told less once
answered-now request put under_way (Lost clock item ∷ told) less once = answered-now request put under_way told less once
answered-now request put under_way (Started thread clock ∷ told) less once = answered-now request put under_way told less once
answered-now request put under_way (Waited wait ∷ told) less once = answered-now request put under_way told less once
answered-now request put under_way (Put thread value ∷ told) less once =
    answered-now request (put + 1) (under_way ++ put ∷ []) told (omega arith) (once-before request under_way (put ∷ []) once (none-other request put (λ same. omega (arith, same))))
answered-now request put under_way (Ran segment free ∷ told) less once =
    ap (λ l. first_answers request put [] (answers_from None l) told) (once segment.ended) ∙ answered request put [] (answered_once (Some segment.ended)) told less (λ at. refl)
answered-now request put under_way (Nothing ∷ told) less once = answered-now request put under_way told less once

-- one that has no answer gets the output of its number, of those that follow
answered-later : (request put number : ℕ) (under_way : List ℕ) (told : List Happening) → request ≡ put + number → IsNone request under_way →
    first_answers request put under_way None told ≡ answered_once (output_at told number)
answered-later request put number under_way [] is none = refl
answered-later request put number under_way (Came clock item ∷ told) is none = answered-later request put number under_way told is none
answered-later request put number under_way (Lost clock item ∷ told) is none = answered-later request put number under_way told is none
answered-later request put number under_way (Started thread clock ∷ told) is none = answered-later request put number under_way told is none
answered-later request put number under_way (Waited wait ∷ told) is none = answered-later request put number under_way told is none
answered-later request put zero under_way (Put thread value ∷ told) is none =
    answered-now request (put + 1) (under_way ++ put ∷ []) told (omega (arith, is)) (once-now request put under_way none (omega (arith, is)))
answered-later request put (suc number) under_way (Put thread value ∷ told) is none =
    answered-later request (put + 1) number (under_way ++ put ∷ []) told (omega (arith, is)) (none-both request under_way (put ∷ []) none (none-other request put (λ same. omega (arith, is, same))))
answered-later request put number under_way (Ran segment free ∷ told) is none =
    ap (λ l. first_answers request put [] (answers_from None l) told) (none segment.ended) ∙ answered-later request put number [] told is (λ at. refl)
answered-later request put number under_way (Nothing ∷ told) is none = answered-later request put number under_way told is none

pub in-order : (told : List Happening) (request : ℕ) → first_answers request 0 [] None told ≡ answered_once (output_at told request)
in-order told request = answered-later request 0 request [] told (omega arith) (λ at. refl)
