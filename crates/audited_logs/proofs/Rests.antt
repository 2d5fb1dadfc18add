-- Where a thread of the program rests, that of the text does; and as many of them live.
use Rattle.audited_logs.proofs.Common.{ℕ, zero, suc, ◌+◌, ◌<◌, ◌≡◌, ◌≢◌, Bool, true, cond, refl, sym, ap, subst, ◌∙◌, List, [], ◌∷◌, length, count_by, Option, Some, None, arith, slice_get, sum_by-cons, Waiting, key_of, Rest, DeepRest, lives, RestsAlike, BothFresh, BothBlocked, BothEnded, RestAlike}
use Rattle.cap_word.specs.declared.calls.Block.{Block}
use Rattle.c_mean.specs.World as source
use Rattle.deep_mean.specs.DeepFrames as frames
use Rattle.deep_mean.specs.DeepFrames.{DeepWaiting}
use Rattle.deep_mean.specs.DeepWorld as deep

abbrev no_rest : Option Rest
no_rest = None

-- the thread of a number
pub rest_at : (rs : List Rest) (ds : List DeepRest) (n : ℕ) (r : Rest) → RestAlike rs ds → slice_get rs n ≡ Some r → (d : DeepRest) × (slice_get ds n ≡ Some d) × RestsAlike r d
rest_at [] ds n r alike is = absurd (let wrong : no_rest ≡ Some r = is in cc)
rest_at (x ∷ rs) [] n r alike is = absurd alike
rest_at (x ∷ rs) (d ∷ ds) zero r alike is = (d, refl, subst (λ (y : Rest). RestsAlike y d) (let same : Some x ≡ Some r = is in cc) alike.0)
rest_at (x ∷ rs) (d ∷ ds) (suc n) r alike is = rest_at rs ds n r alike.1 is

-- a blocked thread is blocked at the same call with the same key
pub blocked_in : (r : Rest) (d : DeepRest) → RestsAlike r d → (block : Block) (waiting : Waiting) → r ≡ source.Blocked block waiting → (other : DeepWaiting) × (d ≡ deep.Blocked block other) × (key_of waiting ≡ frames.key_of other)
blocked_in r d (BothFresh f arguments) block waiting is = absurd (let wrong : source.Fresh f arguments ≡ source.Blocked block waiting = is in cc)
blocked_in r d (BothBlocked b one other keys) block waiting is =
    let whole : source.Blocked b one ≡ source.Blocked block waiting = is in
    let block_is : b ≡ block = cc in
    let waiting_is : one ≡ waiting = cc in
    (other, ap (λ (x : Block). deep.Blocked x other) block_is, ap (λ (w : Waiting). key_of w) (sym waiting_is) ∙ keys)
blocked_in r d BothEnded block waiting is = absurd (let wrong : source.Ended ≡ source.Blocked block waiting = is in cc)

-- one that has ended has ended
pub ended_in : (r : Rest) (d : DeepRest) → RestsAlike r d → r ≡ source.Ended → d ≡ deep.Ended
ended_in r d (BothFresh f arguments) is = absurd (let wrong : source.Fresh f arguments ≡ source.Ended = is in cc)
ended_in r d (BothBlocked b one other keys) is = absurd (let wrong : source.Blocked b one ≡ source.Ended = is in cc)
ended_in r d BothEnded is = refl

-- ---- live threads

-- one of the program's, before others
counted : (r : Rest) (rs : List Rest) → count_by lives (r ∷ rs) ≡ cond (lives r) 1 0 + count_by lives rs
counted r rs = sum_by-cons (λ (x : Rest). cond (lives x) 1 0) r rs

one_live : (r : Rest) (rs : List Rest) → lives r ≡ true → count_by lives (r ∷ rs) ≡ suc (count_by lives rs)
one_live r rs live =
    let one : ◌≡◌ {A = ℕ} (cond (lives r) 1 0) 1 = ap (λ (b : Bool). let n : ℕ = cond b 1 0 in n) live in
    let sums = counted r rs in
    omega (arith, sums, one)

none_live : (rs : List Rest) → count_by lives (source.Ended ∷ rs) ≡ count_by lives rs
none_live rs = let sums = counted source.Ended rs in omega (arith, sums)

-- where none of the program's threads lives, each of the text's has ended
abbrev AllEnded : List Rest → List DeepRest → Type 0
AllEnded rs ds = count_by lives rs ≡ 0 → (thread : ℕ) → thread < length ds → slice_get ds thread ≡ Some deep.Ended

ended_before : (rs : List Rest) (ds : List DeepRest) → AllEnded rs ds → count_by lives rs ≡ 0 → (thread : ℕ) → thread < length (deep.Ended ∷ ds) → slice_get (deep.Ended ∷ ds) thread ≡ Some deep.Ended
ended_before rs ds later none zero below = refl
ended_before rs ds later none (suc thread) below = later none thread (omega (arith, below))

ended_first : (r : Rest) (d : DeepRest) (rs : List Rest) (ds : List DeepRest) → RestsAlike r d → AllEnded rs ds → AllEnded (r ∷ rs) (d ∷ ds)
ended_first r d rs ds (BothFresh f arguments) later none thread below = let more = one_live (source.Fresh f arguments) rs refl in absurd (omega (arith, none, more))
ended_first r d rs ds (BothBlocked b one other keys) later none thread below = let more = one_live (source.Blocked b one) rs refl in absurd (omega (arith, none, more))
ended_first r d rs ds BothEnded later none thread below = ended_before rs ds later (sym (none_live rs) ∙ none) thread below

pub all_ended : (rs : List Rest) (ds : List DeepRest) → RestAlike rs ds → AllEnded rs ds
all_ended [] [] alike none thread below = absurd (omega (arith, below))
all_ended (r ∷ rs) (d ∷ ds) alike none thread below = ended_first r d rs ds alike.0 (all_ended rs ds alike.1) none thread below
all_ended _ _ alike none thread below = absurd alike

-- where one of the program's lives, one of the text's hasn't ended
abbrev SomeLive : List Rest → List DeepRest → Type 0
SomeLive rs ds = count_by lives rs ≢ 0 → (thread : ℕ) × (d : DeepRest) × (slice_get ds thread ≡ Some d) × (d ≢ deep.Ended)

live_first : (r : Rest) (d : DeepRest) (rs : List Rest) (ds : List DeepRest) → RestsAlike r d → SomeLive rs ds → SomeLive (r ∷ rs) (d ∷ ds)
live_first r d rs ds (BothFresh f arguments) later some = (0, deep.Fresh f arguments, refl, λ e. let clash : deep.Fresh f arguments ≡ deep.Ended = e in cc)
live_first r d rs ds (BothBlocked b one other keys) later some = (0, deep.Blocked b other, refl, λ e. let clash : deep.Blocked b other ≡ deep.Ended = e in cc)
live_first r d rs ds BothEnded later some = let there = later (λ none. some (none_live rs ∙ none)) in (suc there.0, there.1, there.2, there.3)

pub some_live : (rs : List Rest) (ds : List DeepRest) → RestAlike rs ds → SomeLive rs ds
some_live [] [] alike some = absurd (some refl)
some_live (r ∷ rs) (d ∷ ds) alike some = live_first r d rs ds alike.0 (some_live rs ds alike.1) some
some_live _ _ alike some = absurd alike
