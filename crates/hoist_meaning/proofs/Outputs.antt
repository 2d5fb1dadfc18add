-- Runs of two machines that put values, of which the second follows the first: where one of them is cut at the first moment at which it has
-- put so many, so is the other, and they have put the same.
use Rattle.hoist_meaning.proofs.Common.{ℕ, zero, suc, ◌+◌, ◌-◌, ◌<◌, ◌≤◌, ◌≡◌, ◌≢◌, refl, sym, ap, subst, ◌∙◌, ⊎_elim, List, [], ◌∷◌, ◌++◌, length, length-append, append_assoc, arith, cases_lt, cases_eq, append-nil, Move, Goes, Asks, Stops, Machine, and_then, moves, Follows, asks_stay, goes_on, Comes, comes}

abbrev pub Outputs : Type 0
Outputs = List (ℕ × ℕ)

-- outputs that begin with others
abbrev pub BeginWith : Outputs → Outputs → Type 0
BeginWith earlier later = (more : Outputs) × (later ≡ earlier ++ more)

begin_alike : (outputs : Outputs) → BeginWith outputs outputs
begin_alike outputs = ([], sym (append-nil outputs))

begin_on : (one two three : Outputs) → BeginWith one two → BeginWith two three → BeginWith one three
begin_on one two three h g = (h.0 ++ g.0, g.1 ∙ ap (λ (os : Outputs). os ++ g.0) h.1 ∙ append_assoc one h.0 g.0)

pub begin_longer : (earlier later : Outputs) → BeginWith earlier later → length earlier ≤ length later
begin_longer earlier later h =
    let long = length-append earlier h.0 in
    let same : length later ≡ length (earlier ++ h.0) = ap length h.1 in omega (arith, long, same)

-- of the same length they are the same
begin_all : (earlier later more : Outputs) → later ≡ earlier ++ more → length earlier ≡ length later → earlier ≡ later
begin_all earlier later [] e l = sym (e ∙ append-nil earlier)
begin_all earlier later (o ∷ more) e l =
    let long = length-append earlier (o ∷ more) in
    let same : length later ≡ length (earlier ++ o ∷ more) = ap length e in absurd (omega (arith, long, same, l))

module _ {S W Q : Type 0} (shown : S → Outputs) (kept : W → Outputs) where
  -- a move puts at most one value more, and a question none
  abbrev pub Grows : Outputs → Move S W Q ⊥ → Type 0
  Grows outputs (Goes next) = (more : Outputs) × (shown next ≡ outputs ++ more) × (length more ≤ 1)
  Grows outputs (Asks question waiting) = kept waiting ≡ outputs
  Grows outputs (Stops end) = ⊥

  abbrev pub shown_by : Move S W Q ⊥ → Outputs
  shown_by (Goes next) = shown next
  shown_by (Asks question waiting) = kept waiting
  shown_by (Stops end) = absurd end

module _ {S W Q : Type 0} (shown : S → Outputs) (kept : W → Outputs) (machine : Machine S W Q ⊥ ⊥) (grows : (state : S) → Grows shown kept (shown state) (machine.step state)) where
  abbrev out : Move S W Q ⊥ → Outputs
  out move = shown_by shown kept move

  grows_then : (n : ℕ) (outputs : Outputs) (move : Move S W Q ⊥) → Grows shown kept outputs move → ((next : S) → BeginWith (shown next) (out (moves machine n next))) → BeginWith outputs (out (and_then move (moves machine n)))
  grows_then n outputs (Goes next) g rest = begin_on outputs (shown next) (out (moves machine n next)) (g.0, g.1) (rest next)
  grows_then n outputs (Asks question waiting) g rest = ([], g ∙ sym (append-nil outputs))
  grows_then n outputs (Stops end) g rest = absurd g

  -- outputs grow along a run
  pub grown : (n : ℕ) (state : S) → BeginWith (shown state) (out (moves machine n state))
  grown zero state = begin_alike (shown state)
  grown (suc n) state = grows_then n (shown state) (machine.step state) (grows state) (λ next. grown n next)

  pub grown_from : (m k : ℕ) (state next : S) → m ≤ k → moves machine m state ≡ Goes next → BeginWith (shown next) (out (moves machine k state))
  grown_from m k state next few e =
      let sum : m + (k - m) ≡ k = omega (arith, few) in
      subst (λ v. BeginWith (shown next) (out v)) (sym (goes_on machine m (k - m) state next e) ∙ ap (λ n. moves machine n state) sum) (grown (k - m) next)

  -- at two moments with as many outputs they are the same
  pub same_count : (m k : ℕ) (state one other : S) → moves machine m state ≡ Goes one → moves machine k state ≡ Goes other → length (shown one) ≡ length (shown other) → shown one ≡ shown other
  same_count m k state one other e f l = ⊎_elim before after (cases_lt m k)
    where
      before : m < k → shown one ≡ shown other
      before lt =
          let h : BeginWith (shown one) (shown other) = subst (λ v. BeginWith (shown one) (out v)) f (grown_from m k state one (omega arith) e) in
          begin_all (shown one) (shown other) h.0 h.1 l

      after : k ≤ m → shown one ≡ shown other
      after le =
          let h : BeginWith (shown other) (shown one) = subst (λ v. BeginWith (shown other) (out v)) e (grown_from k m state other le f) in
          sym (begin_all (shown other) (shown one) h.0 h.1 (sym l))

  -- the first moment at which a run has put so many values
  pub record FirstAt (start : S) (count : ℕ) : Type 0 where
    pub steps : ℕ
    pub state : S
    pub comes : moves machine steps start ≡ Goes state
    pub many : length (shown state) ≡ count
    pub first : (n : ℕ) → n < steps → (earlier : S) → moves machine n start ≡ Goes earlier → length (shown earlier) < count

  first_later : (start next : S) (count : ℕ) → machine.step start ≡ Goes next → length (shown start) < count → FirstAt next count → FirstAt start count
  first_later start next count e short h = record {
    steps = suc h.steps;
    state = h.state;
    comes = ap (λ m. and_then m (moves machine h.steps)) e ∙ h.comes;
    many = h.many;
    first = first_of_all;
  }
    where
      first_of_all : (n : ℕ) → n < suc h.steps → (earlier : S) → moves machine n start ≡ Goes earlier → length (shown earlier) < count
      first_of_all zero lt earlier f =
          let g : Goes start ≡ Goes earlier = f in let same : start ≡ earlier = cc in subst (λ s. length (shown s) < count) same short
      first_of_all (suc n) lt earlier f = h.first n (omega arith) earlier (sym (ap (λ m. and_then m (moves machine n)) e) ∙ f)

  first_then : (n count : ℕ) (start : S) (move : Move S W Q ⊥) → machine.step start ≡ move → Grows shown kept (shown start) move → length (shown start) < count → count ≤ length (out (and_then move (moves machine n)))
      → ((next : S) → length (shown next) ≤ count → count ≤ length (out (moves machine n next)) → FirstAt next count) → FirstAt start count
  first_then n count start (Goes next) e g short enough rest =
      let long = length-append (shown start) g.0 in
      let same : length (shown next) ≡ length (shown start ++ g.0) = ap length g.1 in
      first_later start next count e short (rest next (let few = g.2 in omega (arith, long, same, few)) enough)
  first_then n count start (Asks question waiting) e g short enough rest =
      let same : length (kept waiting) ≡ length (shown start) = ap length g in absurd (omega (arith, same, short, enough))
  first_then n count start (Stops end) e g short enough rest = absurd g

  first_here : (start : S) (count : ℕ) → length (shown start) ≡ count → FirstAt start count
  first_here start count e = record { steps = 0; state = start; comes = refl; many = e; first = λ n lt earlier f. absurd (omega arith) }

  -- a run that puts at least so many has one
  pub first_at : (n count : ℕ) (start : S) → length (shown start) ≤ count → count ≤ length (out (moves machine n start)) → FirstAt start count
  first_at zero count start few enough = first_here start count (omega arith)
  first_at (suc n) count start few enough =
      ⊎_elim (λ (e : length (shown start) ≡ count). first_here start count e)
      (λ (ne : length (shown start) ≢ count). first_then n count start (machine.step start) refl (grows start) (omega (arith, ne)) enough (λ next few' enough'. first_at n count next few' enough'))
      (cases_eq (length (shown start)) count)

-- ---- two machines

module _ {S T W X Q : Type 0} (R : S → T → Type 0) (V : W → X → Type 0) (one : Machine S W Q ⊥ ⊥) (two : Machine T X Q ⊥ ⊥) (follows : Follows R V one two)
    (shown_one : S → Outputs) (kept_one : W → Outputs) (shown_two : T → Outputs) (kept_two : X → Outputs)
    (grows_one : (state : S) → Grows shown_one kept_one (shown_one state) (one.step state)) (grows_two : (state : T) → Grows shown_two kept_two (shown_two state) (two.step state))
    (same_shown : (state : S) (other : T) → R state other → shown_one state ≡ shown_two other) (same_kept : (waiting : W) (other : X) → V waiting other → kept_one waiting ≡ kept_two other) where
  -- Where the first machine is cut, so is the second.
  pub cut_there : (m count : ℕ) (start state : S) (other : T) → R start other → length (shown_one start) ≤ count → moves one m start ≡ Goes state → length (shown_one state) ≡ count
      → (f : FirstAt shown_two kept_two two grows_two other count) × (shown_two f.state ≡ shown_one state)
  cut_there m count start state other r few e l =
      let there : Comes R V one two follows m (Goes state) other = subst (λ v. Comes R V one two follows m v other) e (comes R V one two follows m start other r) in
      let same = same_shown state there.1 there.4 in
      let at_start : length (shown_one start) ≡ length (shown_two other) = ap length (same_shown start other r) in
      let at_end : length (shown_one state) ≡ length (shown_two there.1) = ap length same in
      let enough : count ≤ length (shown_by shown_two kept_two (moves two there.0 other)) = subst (λ v. count ≤ length (shown_by shown_two kept_two v)) (sym there.3) (omega (arith, l, at_end)) in
      let f = first_at shown_two kept_two two grows_two there.0 count other (omega (arith, few, at_start)) enough in
      (f, same_count shown_two kept_two two grows_two f.steps there.0 other f.state there.1 f.comes there.3 (f.many ∙ sym l ∙ at_end) ∙ sym same)

  -- what the first machine has put by then, the second one has put by its moment or later
  put_by : (m : ℕ) (other state : T) (move : Move S W Q ⊥) → moves two m other ≡ Goes state → Comes R V one two follows m move other → length (shown_two state) ≤ length (shown_by shown_one kept_one move)
  put_by m other state (Goes next) e h =
      let grown_there : BeginWith (shown_two state) (shown_two h.1) = subst (λ v. BeginWith (shown_two state) (shown_by shown_two kept_two v)) h.3 (grown_from shown_two kept_two two grows_two m h.0 other state h.2 e) in
      let longer = begin_longer (shown_two state) (shown_two h.1) grown_there in
      let same : length (shown_one next) ≡ length (shown_two h.1) = ap length (same_shown next h.1 h.4) in omega (arith, longer, same)
  put_by m other state (Asks question waiting) e h = ⊎_elim before after (cases_lt h.0 m)
    where
      before : h.0 < m → length (shown_two state) ≤ length (kept_one waiting)
      before lt =
          let sum : h.0 + (m - h.0) ≡ m = omega (arith, lt) in
          let stays : moves two m other ≡ Asks question h.1 = sym (ap (λ n. moves two n other) sum) ∙ asks_stay two h.0 (m - h.0) other question h.1 h.2 in
          let clash : ◌≡◌ {A = Move T X Q ⊥} (Goes state) (Asks question h.1) = sym e ∙ stays in absurd cc

      after : m ≤ h.0 → length (shown_two state) ≤ length (kept_one waiting)
      after le =
          let grown_there : BeginWith (shown_two state) (kept_two h.1) = subst (λ v. BeginWith (shown_two state) (shown_by shown_two kept_two v)) h.2 (grown_from shown_two kept_two two grows_two m h.0 other state le e) in
          let longer = begin_longer (shown_two state) (kept_two h.1) grown_there in
          let same : length (kept_one waiting) ≡ length (kept_two h.1) = ap length (same_kept waiting h.1 h.3) in omega (arith, longer, same)
  put_by m other state (Stops end) e h = absurd end

  -- And where the second is, so is the first.
  pub cut_here : (m count : ℕ) (start : S) (other state : T) → R start other → length (shown_two other) ≤ count → moves two m other ≡ Goes state → length (shown_two state) ≡ count
      → (f : FirstAt shown_one kept_one one grows_one start count) × (shown_one f.state ≡ shown_two state)
  cut_here m count start other state r few e l =
      let put = put_by m other state (moves one m start) e (comes R V one two follows m start other r) in
      let at_start : length (shown_one start) ≡ length (shown_two other) = ap length (same_shown start other r) in
      let f = first_at shown_one kept_one one grows_one m count start (omega (arith, few, at_start)) (omega (arith, put, l)) in
      let there : Comes R V one two follows f.steps (Goes f.state) other = subst (λ v. Comes R V one two follows f.steps v other) f.comes (comes R V one two follows f.steps start other r) in
      let same = same_shown f.state there.1 there.4 in
      let at_end : length (shown_one f.state) ≡ length (shown_two there.1) = ap length same in
      (f, same ∙ same_count shown_two kept_two two grows_two there.0 m other there.1 state there.3 e (sym at_end ∙ f.many ∙ sym l))
