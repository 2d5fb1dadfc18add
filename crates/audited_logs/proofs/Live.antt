-- As many threads of the machine are live as have not ended in the source world for which it stands.
use Rattle.audited_logs.proofs.Common.{◌≡◌, ℕ, suc, ◌+◌, ◌<◌, Bool, true, false, cond, nat_eq, List, [], ◌∷◌, length, count_by, Option, Some, None, refl, sym, ap, ◌∙◌, subst, arith, ⊎_elim, slice_get, cases_eq, cond-true, cond-false, eq-eqb, ne_eqb, sum_by-cons, Rest, Fresh, Blocked, Ended, ProgramTree, Pool, lives, live_in, Checked, Thread, World, Setting, first_with, thread_of, IsUnderWay, RiseBetween-bound}
use Rattle.c_mean.specs.World as source
use Rattle.machine_world.specs.Numbered.{RiseBetween, IsNumbered}
use Rattle.machine_world.specs.StandsForWorld.{StandsForRest, StandsForWorld}
use Rattle.audited_logs.proofs.Begun.{StillLives}

-- a thread of the machine is there where one of the source hasn't ended
abbrev pub Agree : Option Thread → Option Rest → Type 0
Agree None (Some (Fresh function arguments)) = ⊥
Agree None (Some (Blocked block waiting)) = ⊥
Agree (Some thread) None = ⊥
Agree (Some thread) (Some Ended) = ⊥
Agree _ _ = Unit {0}

stands_agree : (c : Checked) (program : ProgramTree) (pool : Pool) (o : Option Thread) (r : Option Rest) → StandsForRest c program pool o r → Agree o r
stands_agree c program pool None (Some (Fresh function arguments)) h = absurd h
stands_agree c program pool None (Some (Blocked block waiting)) h = absurd h
stands_agree c program pool (Some thread) None h = absurd h
stands_agree c program pool (Some thread) (Some Ended) h = absurd h
stands_agree c program pool _ _ h = tt

live_agrees : (thread : Thread) (rest : Rest) → lives rest ≡ true → Agree (Some thread) (Some rest)
live_agrees thread Ended h = absurd (let no : false ≡ true = h in cc)
live_agrees thread _ h = tt

-- ---- numbers that rise

none_below : (number from next : ℕ) (threads : List Thread) → RiseBetween from next threads → number < from → first_with number threads ≡ None
none_below number from next [] rise below = refl
none_below number from next (t ∷ ts) rise below =
    let first = rise.0 in
    cond-false (nat_eq t.number number) (Some t) (first_with number ts) (ne_eqb t.number number (λ e. omega (arith, e, first, below)))
    ∙ none_below number (t.number + 1) next ts rise.1 (omega (arith, first, below))

none-not : (t : Thread) → ◌≡◌ {A = Option Thread} None (Some t) → ⊥
none-not t e = absurd (cc)

-- the first of some threads has the least number that they may have, where that is found
record Front (from next : ℕ) (threads : List Thread) : Type 0 where
  thread : Thread
  rest : List Thread
  are : threads ≡ thread ∷ rest
  number : thread.number ≡ from
  rise : RiseBetween (from + 1) next rest

front_of : (from next : ℕ) (threads : List Thread) (t : Thread) → RiseBetween from next threads → first_with from threads ≡ Some t → Front from next threads
front_of from next [] t rise found = absurd (none-not t found)
front_of from next (u ∷ us) t rise found = ⊎_elim
    (λ (same : u.number ≡ from). record { thread = u; rest = us; are = refl; number = same; rise = subst (λ (n : ℕ). RiseBetween (n + 1) next us) same rise.1 })
    (λ (apart : u.number ≡ from → ⊥).
    let first = rise.0 in
    let later : first_with from us ≡ Some t = sym (cond-false (nat_eq u.number from) (Some u) (first_with from us) (ne_eqb u.number from apart)) ∙ found in
    let none = none_below from (u.number + 1) next us rise.1 (omega (arith, first)) in
    absurd (none-not t (sym none ∙ later)))
    (cases_eq u.number from)

-- and where it isn't found, they rise from the next one
rise_past : (from next : ℕ) (threads : List Thread) → from < next → RiseBetween from next threads → first_with from threads ≡ None → RiseBetween (from + 1) next threads
rise_past from next [] below rise none = omega (arith, below)
rise_past from next (u ∷ us) below rise none = ⊎_elim
    (λ (same : u.number ≡ from). absurd (none-not u (sym none ∙ cond-true (nat_eq u.number from) (Some u) (first_with from us) (eq-eqb u.number from same))))
    (λ (apart : u.number ≡ from → ⊥). (let first = rise.0 in omega (arith, first, apart), rise.1))
    (cases_eq u.number from)

-- ---- the counts

abbrev AllAgree : ℕ → List Rest → List Thread → Type 0
AllAgree from rests threads = (k : ℕ) → Agree (first_with (from + k) threads) (slice_get rests k)

abbrev Counted : List Rest → List Thread → Type 0
Counted rests threads = length threads ≡ count_by lives rests

one_lives : (r : Rest) (rests : List Rest) (t : Thread) (ts : List Thread) → lives r ≡ true → Counted rests ts → Counted (r ∷ rests) (t ∷ ts)
one_lives r rests t ts live count =
    let sums = sum_by-cons (λ (x : Rest). cond (lives x) 1 0) r rests in
    let one : ◌≡◌ {A = ℕ} (cond (lives r) 1 0) 1 = ap (λ (b : Bool). let n : ℕ = cond b 1 0 in n) live in
    omega (arith, sums, one, count)

one_ended : (rests : List Rest) (threads : List Thread) → Counted rests threads → Counted (Ended ∷ rests) threads
one_ended rests threads count =
    let sums = sum_by-cons (λ (x : Rest). cond (lives x) 1 0) Ended rests in
    omega (arith, sums, count)

agree_apart : (t : Thread) (ts : List Thread) (from k : ℕ) (r : Option Rest) → t.number ≡ from → Agree (first_with (from + suc k) (t ∷ ts)) r → Agree (first_with (from + 1 + k) ts) r
agree_apart t ts from k r same h =
    let count : from + suc k ≡ from + 1 + k = omega arith in
    let later = cond-false (nat_eq t.number (from + suc k)) (Some t) (first_with (from + suc k) ts) (ne_eqb t.number (from + suc k) (λ e. omega (arith, e, same))) in
    subst (λ (n : ℕ). Agree (first_with n ts) r) count (subst (λ (o : Option Thread). Agree o r) later h)

count_front : (from : ℕ) (r : Rest) (rests : List Rest) (threads : List Thread) → lives r ≡ true → Front from (from + suc (length rests)) threads → AllAgree from (r ∷ rests) threads →
    ((ts : List Thread) → RiseBetween (from + 1) (from + 1 + length rests) ts → AllAgree (from + 1) rests ts → Counted rests ts) → Counted (r ∷ rests) threads
count_front from r rests threads live front all rest =
    let count : from + suc (length rests) ≡ from + 1 + length rests = omega arith in
    let ts = front.rest in
    let agree : AllAgree (from + 1) rests ts = λ k. agree_apart front.thread ts from k (slice_get rests k) front.number (subst (λ (xs : List Thread). Agree (first_with (from + suc k) xs) (slice_get rests k)) front.are (all (suc k))) in
    subst (Counted (r ∷ rests)) (sym front.are) (one_lives r rests front.thread ts live (rest ts (subst (λ (n : ℕ). RiseBetween (from + 1) n ts) count front.rise) agree))

count_by_first : (from : ℕ) (r : Rest) (rests : List Rest) (threads : List Thread) (o : Option Thread) → first_with from threads ≡ o → Agree o (Some r) → RiseBetween from (from + suc (length rests)) threads → AllAgree from (r ∷ rests) threads →
    ((ts : List Thread) → RiseBetween (from + 1) (from + 1 + length rests) ts → AllAgree (from + 1) rests ts → Counted rests ts) → Counted (r ∷ rests) threads
count_by_first from Ended rests threads None found here rise all rest =
    let count : from + suc (length rests) ≡ from + 1 + length rests = omega arith in
    let past = rise_past from (from + suc (length rests)) threads (omega arith) rise found in
    one_ended rests threads (rest threads (subst (λ (n : ℕ). RiseBetween (from + 1) n threads) count past)
    (λ k. (let same : from + suc k ≡ from + 1 + k = omega arith in subst (λ (n : ℕ). Agree (first_with n threads) (slice_get rests k)) same (all (suc k)))))
count_by_first from (Fresh function arguments) rests threads (Some t) found here rise all rest = count_front from (Fresh function arguments) rests threads refl (front_of from (from + suc (length rests)) threads t rise found) all rest
count_by_first from (Blocked block waiting) rests threads (Some t) found here rise all rest = count_front from (Blocked block waiting) rests threads refl (front_of from (from + suc (length rests)) threads t rise found) all rest
count_by_first from _ rests threads _ found here rise all rest = absurd here

counted : (rests : List Rest) (from : ℕ) (threads : List Thread) → RiseBetween from (from + length rests) threads → AllAgree from rests threads → Counted rests threads
counted [] from [] rise all = refl
counted [] from (t ∷ ts) rise all = let above = RiseBetween-bound (t.number + 1) (from + 0) ts rise.1 in let first = rise.0 in absurd (omega (arith, above, first))
counted (r ∷ rests) from threads rise all =
    let here : Agree (first_with from threads) (Some r) = (let same : from + 0 ≡ from = omega arith in subst (λ (n : ℕ). Agree (first_with n threads) (Some r)) same (all 0)) in
    count_by_first from r rests threads (first_with from threads) refl here rise all (λ ts later agree. counted rests (from + 1) ts later agree)

-- ---- worlds

live_of : (w : World) (other : source.World) → IsNumbered w → w.next ≡ length other.threads → ((n : ℕ) → Agree (thread_of w n) (slice_get other.threads n)) → length w.threads ≡ live_in other
live_of w other numbered next all =
    let to : w.next ≡ 0 + length other.threads = omega (arith, next) in
    counted other.threads 0 w.threads (subst (λ (n : ℕ). RiseBetween 0 n w.threads) to numbered)
    (λ k. (let same : k ≡ 0 + k = omega arith in subst (λ (n : ℕ). Agree (first_with n w.threads) (slice_get other.threads k)) same (all k)))

pub live_between : (c : Checked) (program : ProgramTree) (w : World) (other : source.World) → IsNumbered w → StandsForWorld c program w other → length w.threads ≡ live_in other
live_between c program w other numbered is = live_of w other numbered is.next (λ n. stands_agree c program w.areas.pool (thread_of w n) (slice_get other.threads n) (is.threads n))

pub live_within : (c : Checked) (program : ProgramTree) (s : Setting) (w : World) (segment : source.Segment) → IsNumbered w → IsUnderWay c program s w segment → StillLives segment segment.number → length w.threads ≡ live_in segment.world
live_within c program s w segment numbered is still = live_of w segment.world numbered is.next
    (λ n. ⊎_elim
    (λ (same : n ≡ segment.number).
    subst (λ (k : ℕ). Agree (thread_of w k) (slice_get segment.world.threads k)) (sym same)
    (subst (λ (o : Option Thread). Agree o (slice_get segment.world.threads segment.number)) (sym is.live)
    (subst (λ (r : Option Rest). Agree (Some is.thread) r) (sym still.there) (live_agrees is.thread still.rest still.live))))
    (λ (apart : n ≡ segment.number → ⊥). stands_agree c program w.areas.pool (thread_of w n) (slice_get segment.world.threads n) (is.others n apart))
    (cases_eq n segment.number))
