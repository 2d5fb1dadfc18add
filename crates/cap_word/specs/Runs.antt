-- Machines that run by themselves, ask an outside world and wait for its answer, or stop; and their runs. A thread
-- of a source and a thread of flat code are such machines.
use Rattle.std.specs.Prelude.{◌≡◌, ℕ, zero, suc, List, ◌∷◌, Option, Some, None}

-- the outcome of one step from states S; W is what a machine keeps while it waits, Q what it asks, E how it stops
pub data Move (S W Q E : Type 0) : Type 0 where
  -- it continues from the next state, silently
  Goes : (next : S) → Move S W Q E
  -- it asks, and waits for the answer
  Asks : (question : Q) (waiting : W) → Move S W Q E
  -- it stops
  Stops : (end : E) → Move S W Q E

-- a machine: the outcome of a step from a state, and the state from which it resumes at an answer A
pub record Machine (S W Q A E : Type 0) : Type 0 where
  pub step : S → Move S W Q E
  pub resume : W → A → S

-- a move, followed by the rest from the state that it reaches
abbrev pub and_then : {S W Q E : Type 0} → Move S W Q E → (S → Move S W Q E) → Move S W Q E
and_then (Goes next) rest = rest next
and_then (Asks question waiting) rest = Asks question waiting
and_then (Stops end) rest = Stops end

-- the outcome of at most n steps: the state after n silent ones, or the first question or the stop on the way
abbrev pub moves : {S W Q A E : Type 0} → Machine S W Q A E → ℕ → S → Move S W Q E
moves machine zero state = Goes state
moves machine (suc n) state = and_then (machine.step state) (moves machine n)

-- the progress of a run: what was asked so far, the newest first, and its state or how it stopped
pub data Progress (S Q E : Type 0) : Type 0 where
  Unfinished : (asked : List Q) (state : S) → Progress S Q E
  Over : (asked : List Q) (end : E) → Progress S Q E

-- the progress of a run, followed by the rest if the run isn't over
abbrev pub on_from : {S Q E : Type 0} → Progress S Q E → (List Q → S → Progress S Q E) → Progress S Q E
on_from (Unfinished asked state) rest = rest asked state
on_from (Over asked end) rest = Over asked end

-- the effect of a move on a run: the world answers each question at once, by all that was asked up to it
abbrev pub played : {S W Q A E : Type 0} → Machine S W Q A E → (List Q → A) → List Q → Move S W Q E → Progress S Q E
played machine world asked (Goes next) = Unfinished asked next
played machine world asked (Asks question waiting) = Unfinished (question ∷ asked) (machine.resume waiting (world (question ∷ asked)))
played machine world asked (Stops end) = Over asked end

-- at most n steps against a world, from a state before which these questions were asked
abbrev pub run : {S W Q A E : Type 0} → Machine S W Q A E → (List Q → A) → ℕ → List Q → S → Progress S Q E
run machine world zero asked state = Unfinished asked state
run machine world (suc n) asked state = on_from (played machine world asked (machine.step state)) (run machine world n)

-- what the world sees of a run: what it was asked, and the stop
pub record Seen (Q E : Type 0) : Type 0 where
  pub asked : List Q
  pub end : Option E

abbrev pub seen : {S Q E : Type 0} → Progress S Q E → Seen Q E
seen (Unfinished asked state) = record { asked = asked; end = None }
seen (Over asked end) = record { asked = asked; end = Some end }

-- how a second machine, in a state, answers one move of a first: a silent step by one or more silent steps, a
-- question by the same one, and a stop by the same one; then R or, while they wait, V holds between the two
abbrev pub IsAnswered : {S T W X Q A E : Type 0} → (S → T → Type 0) → (W → X → Type 0) → Machine T X Q A E → Move S W Q E → T → Type 0
IsAnswered {T = T} R V second (Goes next) state = (n : ℕ) × (after : T) × (moves second (suc n) state ≡ Goes after) × R next after
IsAnswered {X = X} R V second (Asks question waiting) state = (n : ℕ) × (other : X) × (moves second n state ≡ Asks question other) × V waiting other
IsAnswered R V second (Stops end) state = (n : ℕ) × (moves second n state ≡ Stops end)

-- a second machine follows a first: each move from related states is answered, and machines that wait resume in
-- related states at the same answer
pub record Follows {S T W X Q A E : Type 0} (R : S → T → Type 0) (V : W → X → Type 0) (first : Machine S W Q A E) (second : Machine T X Q A E) : Type 0 where
  pub steps : (state : S) (other : T) → R state other → IsAnswered R V second (first.step state) other
  pub resumes : (waiting : W) (other : X) (answer : A) → V waiting other → R (first.resume waiting answer) (second.resume other answer)
