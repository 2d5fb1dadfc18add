-- A machine that follows another asks and stops just as that one does, over single moves and over whole runs, and the
-- other way round.
use Rattle.std.proofs.Common.{◌≡◌, ℕ, zero, suc, ◌+◌, ◌-◌, ◌<◌, ◌≤◌, List, ◌∷◌, refl, sym, ap, ◌∙◌, subst, arith, ⊎_elim}
use Rattle.std.proofs.lemmas.Bool.{cases_lt}
use Rattle.cap_word.specs.Runs.{Move, Goes, Asks, Stops, Machine, and_then, moves, Progress, Unfinished, Over, on_from, played, run, seen, IsAnswered, Follows}
use Rattle.cap_word.proofs.RunLemmas.{asks_stay, stops_stay, goes_on, run_adds}

module _ {S W Q A E : Type 0} (machine : Machine S W Q A E) where
  -- a state from which the next step asks
  pub record AsksAt (state : S) (question : Q) (waiting : W) : Type 0 where
    pub count : ℕ
    pub last : S
    pub silent : moves machine count state ≡ Goes last
    pub asks : machine.step last ≡ Asks question waiting

  asks_later : (state next : S) (question : Q) (waiting : W) → machine.step state ≡ Goes next → AsksAt next question waiting → AsksAt state question waiting
  asks_later state next question waiting e h =
      record { count = suc h.count; last = h.last; silent = ap (λ m. and_then m (moves machine h.count)) e ∙ h.silent; asks = h.asks }

  asks_at_step : (n : ℕ) (state : S) (question : Q) (waiting : W) (move : Move S W Q E) → machine.step state ≡ move → ((next : S) → moves machine n next ≡ Asks question waiting → AsksAt next question waiting) → and_then move (moves machine n) ≡ Asks question waiting → AsksAt state question waiting
  asks_at_step n state question waiting (Goes next) e later h = asks_later state next question waiting e (later next h)
  asks_at_step n state question waiting (Asks question' waiting') e later h = record { count = 0; last = state; silent = refl; asks = e ∙ h }
  asks_at_step n state question waiting (Stops end) e later h = cc

  -- where moves ask, some step on the way does
  pub asks_at : (n : ℕ) (state : S) (question : Q) (waiting : W) → moves machine n state ≡ Asks question waiting → AsksAt state question waiting
  asks_at zero state question waiting h = cc
  asks_at (suc n) state question waiting h = asks_at_step n state question waiting (machine.step state) refl (λ next e. asks_at n next question waiting e) h

  -- silent steps of a run
  pub run_silent : (world : List Q → A) (k n : ℕ) (asked : List Q) (state next : S) → moves machine k state ≡ Goes next → run machine world (k + n) asked state ≡ run machine world n asked next
  run_silent world k n asked state next h = run_adds machine world k n asked state ∙ ap (λ p. on_from p (run machine world n)) (silent_run k state next h)
    where
      on_step : (k : ℕ) (state next : S) (move : Move S W Q E) → ((middle : S) → moves machine k middle ≡ Goes next → run machine world k asked middle ≡ Unfinished asked next) → and_then move (moves machine k) ≡ Goes next → on_from (played machine world asked move) (run machine world k) ≡ Unfinished asked next
      on_step k state next (Goes middle) rest h = rest middle h
      on_step k state next (Asks question waiting) rest h = cc
      on_step k state next (Stops end) rest h = cc

      silent_run : (k : ℕ) (state next : S) → moves machine k state ≡ Goes next → run machine world k asked state ≡ Unfinished asked next
      silent_run zero state next h = cc
      silent_run (suc k) state next h = on_step k state next (machine.step state) (λ middle e. silent_run k middle next e) h

  -- a run after one step
  pub run_step : (world : List Q → A) (n : ℕ) (asked : List Q) (state : S) (move : Move S W Q E) → machine.step state ≡ move → run machine world (suc n) asked state ≡ on_from (played machine world asked move) (run machine world n)
  run_step world n asked state move e = ap (λ m. on_from (played machine world asked m) (run machine world n)) e

  -- a run that asks after silent steps
  pub run_asks : (world : List Q → A) (n : ℕ) (asked : List Q) (state : S) (question : Q) (waiting : W) (h : AsksAt state question waiting) → run machine world (h.count + suc n) asked state ≡ run machine world n (question ∷ asked) (machine.resume waiting (world (question ∷ asked)))
  run_asks world n asked state question waiting h =
      run_silent world h.count (suc n) asked state h.last h.silent ∙ run_step world n asked h.last (Asks question waiting) h.asks

  -- a state from which the next step stops
  pub record StopsAt (state : S) (end : E) : Type 0 where
    pub count : ℕ
    pub last : S
    pub silent : moves machine count state ≡ Goes last
    pub stops : machine.step last ≡ Stops end

  stops_later : (state next : S) (end : E) → machine.step state ≡ Goes next → StopsAt next end → StopsAt state end
  stops_later state next end e h =
      record { count = suc h.count; last = h.last; silent = ap (λ m. and_then m (moves machine h.count)) e ∙ h.silent; stops = h.stops }

  stops_at_step : (n : ℕ) (state : S) (end : E) (move : Move S W Q E) → machine.step state ≡ move → ((next : S) → moves machine n next ≡ Stops end → StopsAt next end) → and_then move (moves machine n) ≡ Stops end → StopsAt state end
  stops_at_step n state end (Goes next) e later h = stops_later state next end e (later next h)
  stops_at_step n state end (Asks question waiting) e later h = cc
  stops_at_step n state end (Stops end') e later h = record { count = 0; last = state; silent = refl; stops = e ∙ h }

  -- where moves stop, some step on the way does
  pub stops_at : (n : ℕ) (state : S) (end : E) → moves machine n state ≡ Stops end → StopsAt state end
  stops_at zero state end h = cc
  stops_at (suc n) state end h = stops_at_step n state end (machine.step state) refl (λ next e. stops_at n next end e) h

  -- a run that stops after silent steps
  pub run_stops : (world : List Q → A) (n : ℕ) (asked : List Q) (state : S) (end : E) (h : StopsAt state end) → run machine world (h.count + suc n) asked state ≡ Over asked end
  run_stops world n asked state end h =
      run_silent world h.count (suc n) asked state h.last h.silent ∙ run_step world n asked h.last (Stops end) h.stops

module _ {S T W X Q A E : Type 0} (R : S → T → Type 0) (V : W → X → Type 0) (first : Machine S W Q A E) (second : Machine T X Q A E) (follows : Follows R V first second) where
  -- what the second machine comes to where the first one's moves come to this, in at least so many steps
  abbrev pub Comes : ℕ → Move S W Q E → T → Type 0
  Comes n (Goes next) other = (m : ℕ) × (after : T) × (n ≤ m) × (moves second m other ≡ Goes after) × R next after
  Comes n (Asks question waiting) other = (m : ℕ) × (after : X) × (moves second m other ≡ Asks question after) × V waiting after
  Comes n (Stops end) other = (m : ℕ) × (moves second m other ≡ Stops end)

  comes_later : (n k : ℕ) (move : Move S W Q E) (other after : T) → moves second (suc k) other ≡ Goes after → Comes n move after → Comes (suc n) move other
  comes_later n k (Goes next) other after e h = (suc k + h.0, h.1, omega (arith, h.2), goes_on second (suc k) h.0 other after e ∙ h.3, h.4)
  comes_later n k (Asks question waiting) other after e h = (suc k + h.0, h.1, goes_on second (suc k) h.0 other after e ∙ h.2, h.3)
  comes_later n k (Stops end) other after e h = (suc k + h.0, goes_on second (suc k) h.0 other after e ∙ h.1)

  comes_step : (n : ℕ) (move : Move S W Q E) (other : T) → IsAnswered R V second move other → ((next : S) (after : T) → R next after → Comes n (moves first n next) after) → Comes (suc n) (and_then move (moves first n)) other
  comes_step n (Goes next) other h rest = comes_later n h.0 (moves first n next) other h.1 h.2 (rest next h.1 h.3)
  comes_step n _ other h rest = h

  -- whatever the first machine's moves come to, the second one's come to it
  pub comes : (n : ℕ) (state : S) (other : T) → R state other → Comes n (moves first n state) other
  comes zero state other r = (0, other, omega arith, refl, r)
  comes (suc n) state other r = comes_step n (first.step state) other (follows.steps state other r) (λ next after r'. comes n next after r')

  -- what the first machine's moves come to where the second one's come to this
  abbrev pub Came : Move T X Q E → S → Type 0
  Came (Goes after) state = Unit {0}
  Came (Asks question after) state = (n : ℕ) × (waiting : W) × (moves first n state ≡ Asks question waiting) × V waiting after
  Came (Stops end) state = (n : ℕ) × (moves first n state ≡ Stops end)

  came_later : (move : Move T X Q E) (state next : S) → first.step state ≡ Goes next → Came move next → Came move state
  came_later (Goes after) state next e h = tt
  came_later (Asks question after) state next e h = (suc h.0, h.1, ap (λ m. and_then m (moves first h.0)) e ∙ h.2, h.3)
  came_later (Stops end) state next e h = (suc h.0, ap (λ m. and_then m (moves first h.0)) e ∙ h.1)

  -- two moves of one machine that both ask or stop are one
  both_ask : (m k : ℕ) (other : T) (question question' : Q) (after after' : X) → moves second m other ≡ Asks question after → moves second k other ≡ Asks question' after' → ◌≡◌ {A = Move T X Q E} (Asks question after) (Asks question' after')
  both_ask m k other question question' after after' e f =
      let turn : m + k ≡ k + m = omega arith in
      sym (asks_stay second m k other question after e) ∙ ap (λ n. moves second n other) turn ∙ asks_stay second k m other question' after' f

  ask_and_stop : (m k : ℕ) (other : T) (question : Q) (after : X) (end : E) → moves second m other ≡ Asks question after → moves second k other ≡ Stops end → ⊥
  ask_and_stop m k other question after end e f =
      let turn : m + k ≡ k + m = omega arith in
      let h = sym (asks_stay second m k other question after e) ∙ ap (λ n. moves second n other) turn ∙ stops_stay second k m other end f in cc

  both_stop : (m k : ℕ) (other : T) (end end' : E) → moves second m other ≡ Stops end → moves second k other ≡ Stops end' → ◌≡◌ {A = Move T X Q E} (Stops end) (Stops end')
  both_stop m k other end end' e f =
      let turn : m + k ≡ k + m = omega arith in
      sym (stops_stay second m k other end e) ∙ ap (λ n. moves second n other) turn ∙ stops_stay second k m other end' f

  came_asks : (m k : ℕ) (state : S) (other : T) (question : Q) (waiting : W) (after : X) (move : Move T X Q E) → moves second m other ≡ move → first.step state ≡ Asks question waiting → moves second k other ≡ Asks question after → V waiting after → Came move state
  came_asks m k state other question waiting after (Goes next) e at h v = tt
  came_asks m k state other question waiting after (Asks question' after') e at h v =
      let same = both_ask m k other question' question after' after e h in
      let q : question ≡ question' = cc in
      let x : after ≡ after' = cc in
      (1, waiting, ap (λ m. and_then m (moves first 0)) at ∙ ap (λ a. Asks a waiting) q, subst (V waiting) x v)
  came_asks m k state other question waiting after (Stops end) e at h v = absurd (ask_and_stop k m other question after end h e)

  came_stops : (m k : ℕ) (state : S) (other : T) (end : E) (move : Move T X Q E) → moves second m other ≡ move → first.step state ≡ Stops end → moves second k other ≡ Stops end → Came move state
  came_stops m k state other end (Goes next) e at h = tt
  came_stops m k state other end (Asks question after) e at h = absurd (ask_and_stop m k other question after end e h)
  came_stops m k state other end (Stops end') e at h =
      let same = both_stop m k other end' end e h in
      let e' : end ≡ end' = cc in
      (1, ap (λ m. and_then m (moves first 0)) at ∙ ap (λ a. Stops a) e')

  -- the second machine has made fewer steps than answer the first one's silent step: it has been silent too
  came_before : (m d : ℕ) (state : S) (other after : T) (move : Move T X Q E) → moves second m other ≡ move → moves second (m + d) other ≡ Goes after → Came move state
  came_before m d state other after (Goes next) e h = tt
  came_before m d state other after (Asks question waiting) e h = let same = sym (asks_stay second m d other question waiting e) ∙ h in absurd cc
  came_before m d state other after (Stops end) e h = let same = sym (stops_stay second m d other end e) ∙ h in absurd cc

  came_goes : (m k : ℕ) (state next : S) (other after : T) → first.step state ≡ Goes next → moves second (suc k) other ≡ Goes after → ((d : ℕ) → d < m → Came (moves second d after) next) → Came (moves second m other) state
  came_goes m k state next other after at h rest = ⊎_elim few many (cases_lt m (suc k))
    where
      few : m < suc k → Came (moves second m other) state
      few lt = let e : suc k ≡ m + (suc k - m) = omega arith in came_before m (suc k - m) state other after (moves second m other) refl (ap (λ n. moves second n other) (sym e) ∙ h)

      many : suc k ≤ m → Came (moves second m other) state
      many le =
          let e : m ≡ suc k + (m - suc k) = omega arith in
          let l : m - suc k < m = omega arith in
          let same : moves second m other ≡ moves second (m - suc k) after = ap (λ n. moves second n other) e ∙ goes_on second (suc k) (m - suc k) other after h in
          subst (λ v. Came v state) (sym same) (came_later (moves second (m - suc k) after) state next at (rest (m - suc k) l))

  came_move : (m : ℕ) (state : S) (other : T) (move : Move S W Q E) → first.step state ≡ move → IsAnswered R V second move other → ((next : S) (after : T) → R next after → (d : ℕ) → d < m → Came (moves second d after) next) → Came (moves second m other) state
  came_move m state other (Goes next) at h rest = came_goes m h.0 state next other h.1 at h.2 (rest next h.1 h.3)
  came_move m state other (Asks question waiting) at h rest = came_asks m h.0 state other question waiting h.1 (moves second m other) refl at h.2 h.3
  came_move m state other (Stops end) at h rest = came_stops m h.0 state other end (moves second m other) refl at h.1

  came_within : (fuel m : ℕ) → m < fuel → (state : S) (other : T) → R state other → Came (moves second m other) state
  came_within zero m lt state other r = absurd (omega arith)
  came_within (suc fuel) m lt state other r =
      came_move m state other (first.step state) refl (follows.steps state other r) (λ next after r' d l. came_within fuel d (omega arith) next after r')

  -- whatever the second machine's moves come to, the first one's come to it
  pub came : (m : ℕ) (state : S) (other : T) → R state other → Came (moves second m other) state
  came m state other r = came_within (suc m) m (omega arith) state other r

  module _ (world : List Q → A) where
    -- what a run of the second machine comes to where one of the first of so many steps comes to this
    abbrev pub RunComes : ℕ → Progress S Q E → List Q → T → Type 0
    RunComes n (Unfinished asked next) before other = (m : ℕ) × (after : T) × (n ≤ m) × (run second world m before other ≡ Unfinished asked after) × R next after
    RunComes n (Over asked end) before other = (m : ℕ) × (run second world m before other ≡ Over asked end)

    run_later : (n k : ℕ) (progress : Progress S Q E) (before asked : List Q) (other after : T) → ((m : ℕ) → run second world (suc k + m) before other ≡ run second world m asked after) → RunComes n progress asked after → RunComes (suc n) progress before other
    run_later n k (Unfinished asked' next) before asked other after e h = (suc k + h.0, h.1, omega (arith, h.2), e h.0 ∙ h.3, h.4)
    run_later n k (Over asked' end) before asked other after e h = (suc k + h.0, e h.0 ∙ h.1)

    run_comes_step : (n : ℕ) (asked : List Q) (move : Move S W Q E) (other : T) → IsAnswered R V second move other → ((asked : List Q) (next : S) (after : T) → R next after → RunComes n (run first world n asked next) asked after) → RunComes (suc n) (on_from (played first world asked move) (run first world n)) asked other
    run_comes_step n asked (Goes next) other h rest =
        run_later n h.0 (run first world n asked next) asked asked other h.1 (λ m. run_silent second world (suc h.0) m asked other h.1 h.2) (rest asked next h.1 h.3)
    run_comes_step n asked (Asks question waiting) other h rest =
        let at = asks_at second h.0 other question h.1 h.2 in
        let answer = world (question ∷ asked) in
        run_later n at.count (run first world n (question ∷ asked) (first.resume waiting answer)) asked (question ∷ asked) other (second.resume h.1 answer)
        (λ m. let turn : suc at.count + m ≡ at.count + suc m = omega arith in ap (λ k. run second world k asked other) turn ∙ run_asks second world m asked other question h.1 at)
        (rest (question ∷ asked) (first.resume waiting answer) (second.resume h.1 answer) (follows.resumes waiting h.1 answer h.3))
    run_comes_step n asked (Stops end) other h rest =
        let at = stops_at second h.0 other end h.1 in (at.count + suc 0, run_stops second world 0 asked other end at)

    -- for every number of steps of the first machine some number of steps of the second gives the same run so far
    pub run_comes : (n : ℕ) (asked : List Q) (state : S) (other : T) → R state other → RunComes n (run first world n asked state) asked other
    run_comes zero asked state other r = (0, other, omega arith, refl, r)
    run_comes (suc n) asked state other r =
        run_comes_step n asked (first.step state) other (follows.steps state other r) (λ asked' next after r'. run_comes n asked' next after r')

    -- a run of the first machine that shows the same
    abbrev pub RunCame : Progress T Q E → List Q → S → Type 0
    RunCame progress before state = (n : ℕ) × (seen (run first world n before state) ≡ seen progress)

    -- a run of the second machine that has been silent so far
    silent_shown : (m d : ℕ) (asked : List Q) (state : S) (other after : T) (move : Move T X Q E) → moves second m other ≡ move → moves second (m + d) other ≡ Goes after → RunCame (run second world m asked other) asked state
    silent_shown m d asked state other after (Goes next) e h =
        let end : m + 0 ≡ m = omega arith in
        let same : run second world m asked other ≡ Unfinished asked next = ap (λ k. run second world k asked other) (sym end) ∙ run_silent second world m 0 asked other next e in
        (0, ap seen (sym same))
    silent_shown m d asked state other after (Asks question waiting) e h = let same = sym (asks_stay second m d other question waiting e) ∙ h in absurd cc
    silent_shown m d asked state other after (Stops end) e h = let same = sym (stops_stay second m d other end e) ∙ h in absurd cc

    -- in no more steps than lead silently to a state it has been silent
    before_shown : (m k : ℕ) (asked : List Q) (state : S) (other after : T) → m ≤ k → moves second k other ≡ Goes after → RunCame (run second world m asked other) asked state
    before_shown m k asked state other after le h =
        let e : k ≡ m + (k - m) = omega arith in
        silent_shown m (k - m) asked state other after (moves second m other) refl (ap (λ n. moves second n other) (sym e) ∙ h)

    -- one step of the first machine and then what follows
    shown_later : (m d : ℕ) (before asked : List Q) (state next : S) (other after : T) → run second world m before other ≡ run second world d asked after → ((n : ℕ) → run first world (suc n) before state ≡ run first world n asked next) → RunCame (run second world d asked after) asked next → RunCame (run second world m before other) before state
    shown_later m d before asked state next other after e f h = (suc h.0, ap seen (f h.0) ∙ h.1 ∙ ap seen (sym e))

    abbrev Earlier : ℕ → Type 0
    Earlier m = (d : ℕ) → d < m → (asked : List Q) (state : S) (other : T) → R state other → RunCame (run second world d asked other) asked state

    came_run : (m : ℕ) (asked : List Q) (state : S) (other : T) (move : Move S W Q E) → first.step state ≡ move → IsAnswered R V second move other → Earlier m → RunCame (run second world m asked other) asked state
    came_run m asked state other (Goes next) at h earlier = ⊎_elim few many (cases_lt m (suc h.0))
      where
        few : m < suc h.0 → RunCame (run second world m asked other) asked state
        few lt = before_shown m (suc h.0) asked state other h.1 (omega arith) h.2

        many : suc h.0 ≤ m → RunCame (run second world m asked other) asked state
        many le =
            let e : m ≡ suc h.0 + (m - suc h.0) = omega arith in
            let lt : m - suc h.0 < m = omega arith in
            shown_later m (m - suc h.0) asked asked state next other h.1 (ap (λ n. run second world n asked other) e ∙ run_silent second world (suc h.0) (m - suc h.0) asked other h.1 h.2)
            (λ n. run_step first world n asked state (Goes next) at) (earlier (m - suc h.0) lt asked next h.1 h.3)
    came_run m asked state other (Asks question waiting) at h earlier = ⊎_elim few many (cases_lt m (suc there.count))
      where
        there : AsksAt second other question h.1
        there = asks_at second h.0 other question h.1 h.2

        answer : A
        answer = world (question ∷ asked)

        few : m < suc there.count → RunCame (run second world m asked other) asked state
        few lt = before_shown m there.count asked state other there.last (omega arith) there.silent

        many : suc there.count ≤ m → RunCame (run second world m asked other) asked state
        many le =
            let e : m ≡ there.count + suc (m - suc there.count) = omega arith in
            let lt : m - suc there.count < m = omega arith in
            shown_later m (m - suc there.count) asked (question ∷ asked) state (first.resume waiting answer) other (second.resume h.1 answer)
            (ap (λ n. run second world n asked other) e ∙ run_asks second world (m - suc there.count) asked other question h.1 there)
            (λ n. run_step first world n asked state (Asks question waiting) at)
            (earlier (m - suc there.count) lt (question ∷ asked) (first.resume waiting answer) (second.resume h.1 answer) (follows.resumes waiting h.1 answer h.3))
    came_run m asked state other (Stops end) at h earlier = ⊎_elim few many (cases_lt m (suc there.count))
      where
        there : StopsAt second other end
        there = stops_at second h.0 other end h.1

        few : m < suc there.count → RunCame (run second world m asked other) asked state
        few lt = before_shown m there.count asked state other there.last (omega arith) there.silent

        many : suc there.count ≤ m → RunCame (run second world m asked other) asked state
        many le =
            let e : m ≡ there.count + suc (m - suc there.count) = omega arith in
            (1, ap seen (run_step first world 0 asked state (Stops end) at) ∙ ap seen (sym (ap (λ n. run second world n asked other) e ∙ run_stops second world (m - suc there.count) asked other end there)))

    run_came_within : (fuel m : ℕ) → m < fuel → (asked : List Q) (state : S) (other : T) → R state other → RunCame (run second world m asked other) asked state
    run_came_within zero m lt asked state other r = absurd (omega arith)
    run_came_within (suc fuel) m lt asked state other r =
        came_run m asked state other (first.step state) refl (follows.steps state other r) (λ d l asked' state' other' r'. run_came_within fuel d (omega arith) asked' state' other' r')

    -- for every number of steps of the second machine some number of steps of the first gives the same run so far
    pub run_came : (m : ℕ) (asked : List Q) (state : S) (other : T) → R state other → RunCame (run second world m asked other) asked state
    run_came m asked state other r = run_came_within (suc m) m (omega arith) asked state other r
